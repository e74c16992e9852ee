-- The loop that writes: what is written and what is pending make up the whole.
use Rattle.std.proofs.Common.{◌≡◌, ℕ, ◌+◌, ◌<◌, Bool, true, false, ◌&&◌, List, [], ◌∷◌, ◌++◌, Result, Ok, Err, IfOk, Global, String, string_bytes, refl, sym, ap, ◌∙◌, subst, append_assoc, append-nil, arith}
use Rattle.expr_syntax.specs.Texts.{IsProgramOf}
use Rattle.expr_text.specs.Layout.{program_text}
use Rattle.expr_text.specs.Parts.{placed_text, stands, apart, text_of_part, part_stands, part_steps, pending_text, pending_stand, pending_steps, block_stands, Expands, WritesPart, WritesOrNot}
use Rattle.expr_text.specs.Texts.{block_has_text}
use Rattle.expr_text.specs.declared.part.Part.{Part}
use Rattle.expr_text.specs.declared.part.Place.{Place}
use Rattle.expr_text.proofs.Pending.{and_true, pending_text-push, pending_stand-push, pending_steps-push}
use Rattle.expr_text.proofs.Printed.{printed_program}
use Rattle.expr_text.proofs.Standing.{block_stands_free}
use Rattle.expr_tree.specs.Term.{Term, Block, answers}

-- a part without parts is written
pub leaf_written : (p : Part) (out more : List ℕ) (old : List Part) → more ≡ out ++ text_of_part p → part_stands p ≡ true → 0 < part_steps p → WritesPart p out old more old
leaf_written p out more old is stand some = record {
  texts = ap (λ l. l ++ pending_text old) is ∙ append_assoc out (text_of_part p) (pending_text old);
  stands = ap (λ b. b && pending_stand old) (sym stand);
  fewer = omega (arith, some);
}

-- parts are put in place of one
pub parts_written : (done : Bool) (p : Part) (out : List ℕ) (old new : List Part) → Expands done old new (text_of_part p) (part_stands p) (part_steps p) → WritesOrNot done p out old out new
parts_written true p out old new h = record { texts = ap (λ l. out ++ l) h.texts; stands = h.stands; fewer = h.fewer }
parts_written false p out old new h = h

-- what is written and what is pending
pub record Remains (out : List ℕ) (ps : List Part) (whole : List ℕ) (standing : Bool) : Type 0 where
  pub texts : out ++ pending_text ps ≡ whole
  pub stands : pending_stand ps ≡ standing

pub remains_at_first : (out : List ℕ) (ps : List Part) (p : Part) → out ≡ [] → ps ≡ [] ++ p ∷ [] → Remains out ps (text_of_part p) (part_stands p)
remains_at_first out ps p none is = record {
  texts = (λ i. none i ++ pending_text (is i)) ∙ pending_text-push [] p ∙ append-nil (text_of_part p);
  stands = ap pending_stand is ∙ pending_stand-push [] p ∙ and_true (part_stands p);
}

module _ (out : List ℕ) (ps rest : List Part) (p : Part) (is : ps ≡ rest ++ p ∷ []) where
  pub remains_next : (more : List ℕ) (new : List Part) (whole : List ℕ) (standing : Bool) → Remains out ps whole standing → WritesPart p out rest more new → Remains more new whole standing
  remains_next more new whole standing h w = record {
    texts = w.texts ∙ ap (λ l. out ++ l) (sym (ap pending_text is ∙ pending_text-push rest p)) ∙ h.texts;
    stands = w.stands ∙ sym (ap pending_stand is ∙ pending_stand-push rest p) ∙ h.stands;
  }

  pub steps_fall : (more : List ℕ) (new : List Part) → WritesPart p out rest more new → pending_steps new < pending_steps ps
  steps_fall more new w = omega (arith, w.fewer, ap pending_steps is, pending_steps-push rest p)

  pub refused_whole : (whole : List ℕ) (standing : Bool) → Remains out ps whole standing → part_stands p ≡ false → standing ≡ false
  refused_whole whole standing h none = sym h.stands ∙ ap pending_stand is ∙ pending_stand-push rest p ∙ ap (λ b. b && pending_stand rest) none

  -- what the call returns says whether the part was written
  module _ (done : Bool) (more : List ℕ) (new : List Part) (whole : List ℕ) (standing : Bool) (w : WritesOrNot done p out rest more new) where
    pub remains_after : done ≡ true → Remains out ps whole standing → Remains more new whole standing
    remains_after e h = remains_next more new whole standing h (subst (λ b. WritesOrNot b p out rest more new) e w)

    pub falls_after : done ≡ true → pending_steps new < pending_steps ps
    falls_after e = steps_fall more new (subst (λ b. WritesOrNot b p out rest more new) e w)

    pub refused_after : done ≡ false → Remains out ps whole standing → standing ≡ false
    refused_after e h = refused_whole whole standing h (subst (λ b. WritesOrNot b p out rest more new) e w)

pub whole_at_last : (out : List ℕ) (ps : List Part) (whole : List ℕ) (standing : Bool) → Remains out ps whole standing → ps ≡ [] → (out ≡ whole) × (standing ≡ true)
whole_at_last out ps whole standing h none = (sym (append-nil out) ∙ ap (λ l. out ++ pending_text l) (sym none) ∙ h.texts, sym h.stands ∙ ap pending_stand none)

-- the text of a program that has one
pub text_of_program : (b : Block) (s : List ℕ) → s ≡ program_text b → block_stands false b ≡ true → IsProgramOf s b
text_of_program b s is stand = subst (λ l. IsProgramOf l b) (sym is) (printed_program b (sym (block_stands_free b) ∙ stand))

pub program_written : {E : Type 0} (b : Block) (r : Result (String Global) E) → IfOk r (λ s. string_bytes s ≡ program_text b) → IfOk r (λ s. block_stands false b ≡ true) → IfOk r (λ s. IsProgramOf (string_bytes s) b)
program_written b (Ok s) text stand = text_of_program b (string_bytes s) text stand
program_written b (Err e) text stand = tt

pub node_written : {E : Type 0} (t : Term) (x : Place) → x ≡ apart false → (r : Result (String Global) E) → IfOk r (λ s. string_bytes s ≡ placed_text t x.left x.right) → IfOk r (λ s. stands x.is_hashless t ≡ true)
    → IfOk r (λ s. IsProgramOf (string_bytes s) (answers t))
node_written t x e (Ok s) text stand =
    text_of_program (answers t) (string_bytes s) (text ∙ ap (λ (p : Place). placed_text t p.left p.right) e) (sym (ap (λ (p : Place). stands p.is_hashless t) e) ∙ stand)
node_written t x e (Err f) text stand = tt
