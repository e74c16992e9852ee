-- A string without a prefix that it has.
use Rattle.std.proofs.Common.{◌≡◌, ◌≢◌, ℕ, ◌+◌, take, drop, Bor, true, false, nat_eq, sym, ap, ◌∙◌, List, ◌++◌, length, Some, None}
use Rattle.std.proofs.lemmas.List.{take-append-drop}
use Rattle.std.proofs.Math.Seq.{take-append_seam}
use Rattle.std.specs.Cmp.Lexicographic.{pointwise, same_text, other_text}
use Rattle.std.specs.Prelude.{Option, MatchOption}

pub prefixed : (o : Option (Bor (List ℕ))) (name text : List ℕ)
    → MatchOption o (pointwise nat_eq (take (length name) text) name ≡ false) (λ x. (pointwise nat_eq (take (length name) text) name ≡ true) × (x.now ≡ drop (length name) text) × (length x.now + length name ≡ length text))
    → MatchOption o ((rest : List ℕ) → text ≢ name ++ rest) (λ x. text ≡ name ++ x.now)
prefixed None name text h = λ rest e. other_text (take (length name) text) name (sym h) (ap (take (length name)) e ∙ take-append_seam name rest)
prefixed (Some x) name text h = sym (take-append-drop (length name) text) ∙ (λ i. same_text (take (length name) text) name (sym h.0) i ++ sym h.1 i)
