-- A string between quotes is read back: one character at a time, and then all of it.
use Rattle.std.proofs.Common.{◌≡◌, ℕ, ◌==◌, Bool, true, false, List, [], ◌∷◌, ◌++◌, flat_map, refl, sym, ap, cond}
use Rattle.std.specs.List.{list_all}
use Rattle.std.proofs.lemmas.Bool.{eqb-true, and_from, not_from_false, or_from}
use Rattle.expr_tokens.specs.Tokens.{IsQuoted, TextPart, PlainByte, Pair, text_part, text_value, text_fits}
use Rattle.expr_error.specs.Quoted.{escaped_byte, quoted_text}

-- the part that a byte is written as
abbrev part_of : ℕ → TextPart
part_of b = cond (b == 92) (Pair 92) (cond (b == 10) (Pair 110) (cond (b == 13) (Pair 114) (cond (b == 9) (Pair 116) (cond (b == 34) (Pair 34) (PlainByte b)))))

-- it is written as the byte is escaped, says the byte, and fits between quotes
record Back (b : ℕ) (text : List ℕ) (p : TextPart) : Type 0 where
  pub written : text_part p ≡ text
  pub value : text_value p ≡ b ∷ []
  pub fit : text_fits 34 p ≡ true

-- one case of an escape: both sides take the same branch
module _ (b : ℕ) where
  at_case : (test : Bool) (text other : List ℕ) (p q : TextPart) → (test ≡ true → Back b text p) → (test ≡ false → Back b other q) → Back b (cond test text other) (cond test p q)
  at_case true text other p q first second = first refl
  at_case false text other p q first second = second refl

  one_back : Back b (escaped_byte b) (part_of b)
  one_back =
      at_case (b == 92) _ _ _ _ (λ e. record { written = refl; value = ap (λ x. x ∷ []) (sym (eqb-true b 92 e)); fit = refl }) (λ slash.
      at_case (b == 10) _ _ _ _ (λ e. record { written = refl; value = ap (λ x. x ∷ []) (sym (eqb-true b 10 e)); fit = refl }) (λ line.
      at_case (b == 13) _ _ _ _ (λ e. record { written = refl; value = ap (λ x. x ∷ []) (sym (eqb-true b 13 e)); fit = refl }) (λ return_.
      at_case (b == 9) _ _ _ _ (λ e. record { written = refl; value = ap (λ x. x ∷ []) (sym (eqb-true b 9 e)); fit = refl }) (λ tab.
      at_case (b == 34) _ _ _ _ (λ e. record { written = refl; value = ap (λ x. x ∷ []) (sym (eqb-true b 34 e)); fit = refl }) (λ quote.
      record { written = refl; value = refl; fit = and_from _ _ (not_from_false _ quote) (and_from _ _ (not_from_false _ slash) (not_from_false _ (or_from _ _ line return_))) })))))

abbrev parts_of : List ℕ → List TextPart
parts_of [] = []
parts_of (b ∷ s) = part_of b ∷ parts_of s

parts_written : (s : List ℕ) → flat_map text_part (parts_of s) ≡ flat_map escaped_byte s
parts_written [] = refl
parts_written (b ∷ s) = λ i. (one_back b).written i ++ parts_written s i

parts_value : (s : List ℕ) → flat_map text_value (parts_of s) ≡ s
parts_value [] = refl
parts_value (b ∷ s) = λ i. (one_back b).value i ++ parts_value s i

parts_fit : (s : List ℕ) → list_all (text_fits 34) (parts_of s) ≡ true
parts_fit [] = refl
parts_fit (b ∷ s) = and_from _ _ (one_back b).fit (parts_fit s)

-- a printed string is a literal with that content
pub quoted_back : (s : List ℕ) → IsQuoted (quoted_text s) s
quoted_back s =
    record {
      quote = 34;
      parts = parts_of s;
      quoted = refl;
      written = ap (λ l. 34 ∷ (l ++ 34 ∷ [])) (sym (parts_written s));
      fit = parts_fit s;
      value = sym (parts_value s);
    }
