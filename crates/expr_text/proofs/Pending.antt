-- What is pending once parts are put on top, and what remains of it.
use Rattle.std.proofs.Common.{◌≡◌, ℕ, ◌+◌, ◌<◌, Bool, true, false, ◌&&◌, List, [], ◌∷◌, ◌++◌, refl, sym, ap, ◌∙◌, append_assoc, append-nil, arith}
use Rattle.expr_text.specs.Parts.{text_of_part, part_stands, part_steps, pending_text, pending_stand, pending_steps, PutsParts, Replaces, WritesPart}
use Rattle.expr_text.specs.declared.part.Part.{Part}

pub and_swap : (a b c : Bool) → (a && (b && c)) ≡ (b && (a && c))
and_swap true b c = refl
and_swap false true c = refl
and_swap false false c = refl

pub and_assoc : (a b c : Bool) → ((a && b) && c) ≡ (a && (b && c))
and_assoc true b c = refl
and_assoc false b c = refl

pub and_true : (a : Bool) → (a && true) ≡ a
and_true true = refl
and_true false = refl

pub pending_text-push : (ps : List Part) (p : Part) → pending_text (ps ++ p ∷ []) ≡ text_of_part p ++ pending_text ps
pending_text-push [] p = sym (append-nil (text_of_part p))
pending_text-push (q ∷ ps) p = ap (λ l. l ++ text_of_part q) (pending_text-push ps p) ∙ append_assoc (text_of_part p) (pending_text ps) (text_of_part q)

pub pending_stand-push : (ps : List Part) (p : Part) → pending_stand (ps ++ p ∷ []) ≡ (part_stands p && pending_stand ps)
pending_stand-push [] p = refl
pending_stand-push (q ∷ ps) p = ap (λ b. part_stands q && b) (pending_stand-push ps p) ∙ and_swap (part_stands q) (part_stands p) (pending_stand ps)

pub pending_steps-push : (ps : List Part) (p : Part) → pending_steps (ps ++ p ∷ []) ≡ part_steps p + pending_steps ps
pending_steps-push [] p = refl
pending_steps-push (q ∷ ps) p = omega (arith, pending_steps-push ps p)

-- one part
pub one_put : (old new : List Part) (p : Part) → new ≡ old ++ p ∷ [] → PutsParts old new (text_of_part p) (part_stands p) (part_steps p)
one_put old new p is =
    record { texts = ap pending_text is ∙ pending_text-push old p; stands = ap pending_stand is ∙ pending_stand-push old p; count = ap pending_steps is ∙ pending_steps-push old p }

-- some parts, and then some on top of them
module _ {old mid new : List Part} {below above : List ℕ} {b a : Bool} {m n : ℕ} where
  pub then_put : PutsParts old mid below b m → PutsParts mid new above a n → PutsParts old new (above ++ below) (a && b) (n + m)
  then_put f g = record {
    texts = g.texts ∙ ap (λ l. above ++ l) f.texts ∙ sym (append_assoc above below (pending_text old));
    stands = g.stands ∙ ap (λ l. a && l) f.stands ∙ sym (and_assoc a b (pending_stand old));
    count = omega (arith, f.count, g.count);
  }

-- parts that make up a text, in fewer steps
module _ {old new : List Part} {text : List ℕ} {stand : Bool} {n : ℕ} where
  pub replaced : PutsParts old new text stand n → (whole : List ℕ) (standing : Bool) (steps : ℕ) → text ≡ whole → stand ≡ standing → n < steps → Replaces old new whole standing steps
  replaced f whole standing steps same stands fewer = record {
    texts = f.texts ∙ ap (λ l. l ++ pending_text old) same;
    stands = f.stands ∙ ap (λ l. l && pending_stand old) stands;
    fewer = omega (arith, f.count, fewer);
  }

-- no parts
pub none_put : (old : List Part) (whole : List ℕ) (standing : Bool) (steps : ℕ) → whole ≡ [] → standing ≡ true → 0 < steps → Replaces old old whole standing steps
none_put old whole standing steps empty stands some = record {
  texts = ap (λ l. l ++ pending_text old) (sym empty);
  stands = ap (λ l. l && pending_stand old) (sym stands);
  fewer = omega (arith, some);
}
