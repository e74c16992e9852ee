-- What is found of a rule.
use Rattle.std.specs.Prelude.{◌≡◌, ℕ, Bool, true, false, List, [], ◌∷◌, map, Option, None, Some, Ok, String, string_bytes}
use Rattle.std.specs.declared.alloc.Global.{Global}
use Rattle.expr_limits.specs.declared.limits.Limits.{Limits}
use Rattle.expr_limits.specs.declared.outcome.Outcome.TheVariants.{Answered}
use Rattle.expr_text.specs.Layout.{program_text}
use Rattle.expr_tree.specs.Term.{Block}
use Rattle.expr_tree.specs.TermOf.{program_term}
use Rattle.expr_tree.specs.declared.node.Program.{Program}
use Rattle.expr_rules.specs.Needs.{AreAskedBy}
use Rattle.expr_rules.specs.Verdicts.{IsCompiledIn, IsFaultOf}
use Rattle.expr_rules.specs.declared.checked.CheckedRule.{CheckedRule}
use Rattle.expr_rules.specs.declared.checked.CheckOutcome.{CheckOutcome}
use Rattle.expr_rules.specs.declared.checked.CheckOutcome.TheVariants.{Sound, Refused}
use Rattle.expr_rules.specs.declared.checked.SoundRule.{SoundRule}
use Rattle.expr_rules.specs.declared.checked.Wishes.{Wishes}
use Rattle.expr_rules.specs.declared.needs.NeedKind.TheVariants.{Names, Functions}
use Rattle.expr_rules.specs.declared.needs.Needs.{Needs}

-- the text of a program in the normal form, if it is wished for
abbrev pub IsTextIf : Bool → Block → Option (String Global) → Type 0
IsTextIf true b None = ⊥
IsTextIf true b (Some text) = string_bytes text ≡ program_text b
IsTextIf false b None = Unit {0}
IsTextIf false b (Some text) = ⊥

-- the names and functions that it asks for, if they are wished for
abbrev pub AreNeedsIf : Bool → Block → Option Needs → Type 0
AreNeedsIf true b None = ⊥
AreNeedsIf true b (Some needs) = AreAskedBy Names (map string_bytes needs.names.items) b × AreAskedBy Functions (map string_bytes needs.functions.items) b
AreNeedsIf false b None = Unit {0}
AreNeedsIf false b (Some needs) = ⊥

pub record IsSoundRule (wishes : Wishes) (b : Block) (sound : SoundRule) : Type 0 where
  pub text : IsTextIf wishes.text b sound.text
  pub needs : AreNeedsIf wishes.needs b sound.needs

-- what is found of a rule that begins on this line: what is wished for of the program that it compiles to, or its fault
abbrev pub IsCheckOutcome : Option Limits → Wishes → List ℕ → ℕ → CheckOutcome → Type 0
IsCheckOutcome limits wishes text first (Sound sound) = (program : Program) × IsCompiledIn limits text (Ok (Answered program)) × IsSoundRule wishes (program_term program) sound
IsCheckOutcome limits wishes text first (Refused fault) = IsFaultOf limits text first fault

-- each rule with what is found of it, in order
abbrev pub AreChecked : Option Limits → Wishes → List (ℕ × List ℕ) → List CheckedRule → Type 0
AreChecked limits wishes [] [] = Unit {0}
AreChecked limits wishes [] (checked ∷ more) = ⊥
AreChecked limits wishes (rule ∷ rules) [] = ⊥
AreChecked limits wishes (rule ∷ rules) (checked ∷ more) = (checked.line ≡ rule.0) × (IsCheckOutcome limits wishes rule.1 rule.0 checked.outcome × AreChecked limits wishes rules more)
