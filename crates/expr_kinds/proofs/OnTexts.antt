-- Each overload of the built-ins on strings holds.
use Rattle.std.proofs.Common.{ℕ, ℤ, pos, negsuc, Bool, true, false, cond, List, [], ◌∷◌, map as mapped, Option, Some, None, Ok, Err, nat_lt, ◌*◌, ◌^◌, length, refl, sym, subst, ◌≡◌}
use Rattle.std.specs.List.{repeat}
use Rattle.expr_arguments.specs.Arguments.{both, one_text, two_texts, with_piece_limit, two_texts_and_limit, one_or_two_texts, text_and_integer, three_texts_and_limit}
use Rattle.expr_builtins.specs.Indices.{place_or_less}
use Rattle.expr_builtins.specs.Text.{ChangesCaseOfOne, TextCalled, repeated_text}
use Rattle.expr_builtins.specs.Trimmed.{TrimOne, TrimmedOf}
use Rattle.expr_error.specs.ErrorKind.{evaluation}
use Rattle.expr_functions.specs.declared.functions.TextCall.{TextCall}
use Rattle.expr_functions.specs.declared.functions.TextCall.TheVariants as text
use Rattle.expr_value.specs.Answers.{Answer}
use Rattle.expr_value.specs.Values.{integer_of, string_of}
use Rattle.expr_value.specs.declared.value.Value as value
use Rattle.expr_value.specs.declared.value.Value.{Value}
use Rattle.expr_schema.specs.Kinds.{never, bool, integer, string, array, Each, total, failing}
use Rattle.expr_kinds.specs.Effects.{ResultIs, Yields}
use Rattle.expr_kinds.specs.Overloads.{HaveKindsThen, on_strings}
use Rattle.expr_kinds.proofs.Found.{Anything, Holds, finds-integer, finds-string, both-hold, mapped-holds, one-holds, two-hold, answered, may-answer}
use Rattle.expr_kinds.proofs.Held.{Of, OverloadHolds, exactly_one, exactly_two, exactly_three, exactly_four}
use Rattle.expr_kinds.proofs.Lists.{Each-all, Each-map}

abbrev Strings : Type 0
Strings = List ℕ

-- the strings and integers among the arguments
pub one-string : (vs : List Value) → HaveKindsThen (string ∷ []) never vs → Holds (one_text vs) Anything
one-string = one-holds Anything string_of string finds-string

pub two-strings : (vs : List Value) → HaveKindsThen (string ∷ string ∷ []) never vs → Holds (two_texts vs) (λ a. Anything a.0 × Anything a.1)
two-strings = two-hold Anything Anything string_of string_of string string finds-string finds-string

string-integer : (vs : List Value) → HaveKindsThen (string ∷ integer ∷ []) never vs → Holds (text_and_integer vs) (λ a. Anything a.0 × Anything a.1)
string-integer = two-hold Anything Anything string_of integer_of string integer finds-string finds-integer

module _ (s t : Value) (h : Of string s) (i : Of string t) where
  two-there : Holds (both (string_of s) (string_of t)) (λ a. Anything a.0 × Anything a.1)
  two-there = both-hold Anything Anything (string_of s) (string_of t) (finds-string s h) (finds-string t i)

  with-limit : (o : Option ℤ) → Holds o Anything → Holds (with_piece_limit (both (string_of s) (string_of t)) o) Anything
  with-limit o (n, is, p) =
      let two = two-there in
      ((two.0.0, two.0.1, n), (λ j. with_piece_limit (two.1 j) (is j)), tt)

-- a list of strings
strings : (ss : List Strings) → Of (array string) (value.Array (mapped value.String ss))
strings ss = (mapped value.String ss, refl, Each-map (Of string) value.String ss (Each-all (λ s. Of string (value.String s)) (λ s. (s, refl)) ss))

place-integer : (o : Option ℕ) → Of integer (place_or_less o)
place-integer None = (_, refl)
place-integer (Some n) = (_, refl)

-- one string or two
one_or_two-one : (vs : List Value) → HaveKindsThen (string ∷ []) never vs → Holds (one_or_two_texts vs) Anything
one_or_two-one =
    exactly_one string (λ us. Holds (one_or_two_texts us) Anything) (λ s h. mapped-holds Anything Anything (string_of s) (λ a. (a, [])) (finds-string s h) (λ a p. tt))

one_or_two-two : (vs : List Value) → HaveKindsThen (string ∷ string ∷ []) never vs → Holds (one_or_two_texts vs) Anything
one_or_two-two = exactly_two string string (λ us. Holds (one_or_two_texts us) Anything) (λ s t h i. let two = two-there s t h i in (two.0, two.1, tt))

-- two strings, and perhaps a limit
limit-two : (vs : List Value) → HaveKindsThen (string ∷ string ∷ []) never vs → Holds (two_texts_and_limit vs) Anything
limit-two = exactly_two string string (λ us. Holds (two_texts_and_limit us) Anything) (λ s t h i. with-limit s t h i (Some _) (_, refl, tt))

limit-three : (vs : List Value) → HaveKindsThen (string ∷ string ∷ integer ∷ []) never vs → Holds (two_texts_and_limit vs) Anything
limit-three = exactly_three string string integer (λ us. Holds (two_texts_and_limit us) Anything) (λ s t n h i j. with-limit s t h i (integer_of n) (finds-integer n j))

-- three strings, and perhaps a limit
module _ (s t u : Value) (h : Of string s) (i : Of string t) (j : Of string u) (o : Option ℤ) (found : Holds o Anything) where
  three-there : Holds (both (both (string_of s) (string_of t)) (both (string_of u) o)) Anything
  three-there =
      let two = two-there s t h i in
      let more = both-hold Anything Anything (string_of u) o (finds-string u j) found in
      let all = both-hold Anything Anything (both (string_of s) (string_of t)) (both (string_of u) o) (two.0, two.1, tt) (more.0, more.1, tt) in
      (all.0, all.1, tt)

limit-of_three : (vs : List Value) → HaveKindsThen (string ∷ string ∷ string ∷ []) never vs → Holds (three_texts_and_limit vs) Anything
limit-of_three = exactly_three string string string (λ us. Holds (three_texts_and_limit us) Anything) (λ s t u h i j. three-there s t u h i j (Some _) (_, refl, tt))

limit-of_four : (vs : List Value) → HaveKindsThen (string ∷ string ∷ string ∷ integer ∷ []) never vs → Holds (three_texts_and_limit vs) Anything
limit-of_four =
    exactly_four string string string integer (λ us. Holds (three_texts_and_limit us) Anything) (λ s t u n h i j k. three-there s t u h i j (integer_of n) (finds-integer n k))

-- trimmed, and in another case
trimmed : (drops : ℕ → Bool) (s : List ℕ) → Yields total (Of string) (TrimmedOf drops s)
trimmed drops s r (t, is, q) = subst (λ a. ResultIs total (Of string) a) (sym q) (t, refl)

trim-by : (o : Option (List ℕ)) (two : Option (List ℕ × List ℕ)) → Holds o Anything → Yields total (Of string) (TrimOne o two)
trim-by o two (s, is, p) = subst (λ x. Yields total (Of string) (TrimOne x two)) (sym is) (trimmed _ s)

trim-chars : (two : Option (List ℕ × List ℕ)) → Holds two (λ a. Anything a.0 × Anything a.1) → Yields total (Of string) (TrimOne None two)
trim-chars two (a, is, p) = subst (λ x. Yields total (Of string) (TrimOne None x)) (sym is) (trimmed _ a.0)

trim-one : (vs : List Value) → HaveKindsThen (string ∷ []) never vs → Yields total (Of string) (TextCalled text.Trim vs)
trim-one vs h = trim-by (one_text vs) (two_texts vs) (one-string vs h)

trim-two : (vs : List Value) → HaveKindsThen (string ∷ string ∷ []) never vs → Yields total (Of string) (TextCalled text.Trim vs)
trim-two = exactly_two string string (λ us. Yields total (Of string) (TextCalled text.Trim us)) (λ s t h i. trim-chars (both (string_of s) (string_of t)) (two-there s t h i))

changed-case : (changed : ℕ → ℕ) (o : Option (List ℕ)) → Holds o Anything → Yields total (Of string) (ChangesCaseOfOne changed o)
changed-case changed o (s, is, p) = subst (λ x. Yields total (Of string) (ChangesCaseOfOne changed x)) (sym is) (λ r (t, q, ascii). subst (λ a. ResultIs total (Of string) a) (sym q) (t, refl))

within-limits : (b : Bool) (t : List ℕ) → ResultIs failing (Of string) (cond b (Ok (value.String t)) (Err evaluation))
within-limits true t = (t, refl)
within-limits false t = tt

unless-many : (b : Bool) (a : Answer) → ResultIs failing (Of string) a → ResultIs failing (Of string) (cond b (Err evaluation) a)
unless-many true a h = tt
unless-many false a h = h

repeated : (s : List ℕ) (n : ℤ) → ResultIs failing (Of string) (repeated_text s n)
repeated s (pos n) =
    unless-many (nat_lt 1000000 n) (cond (nat_lt (n * length s) (2 ^ 64)) (Ok (value.String (repeat n s))) (Err evaluation)) (within-limits (nat_lt (n * length s) (2 ^ 64)) (repeat n s))
repeated s (negsuc n) = tt

-- arguments of unknown kinds
no-string : Yields failing (Of string) (λ a. a ≡ Err evaluation)
no-string a is = subst (λ r. ResultIs failing (Of string) r) (sym is) tt

may-trim : (o : Option (List ℕ)) (two : Option (List ℕ × List ℕ)) → Yields failing (Of string) (TrimOne o two)
may-trim (Some s) two a (t, is, q) = subst (λ r. ResultIs failing (Of string) r) (sym q) (t, refl)
may-trim None (Some p) a (t, is, q) = subst (λ r. ResultIs failing (Of string) r) (sym q) (t, refl)
may-trim None None a is = no-string a is

may-change : (changed : ℕ → ℕ) (o : Option (List ℕ)) → Yields failing (Of string) (ChangesCaseOfOne changed o)
may-change changed None a is = no-string a is
may-change changed (Some s) a (t, q, ascii) = subst (λ r. ResultIs failing (Of string) r) (sym q) (t, refl)

pub texts-hold : (c : TextCall) → Each (OverloadHolds (TextCalled c)) (on_strings c)
texts-hold text.HasPrefix = (λ known vs h k. answered total (Of bool) _ (two_texts vs) _ (two-strings vs h) (λ a p. (_, refl)), (λ known vs h k. may-answer (Of bool) (two_texts vs) _ (λ a. (_, refl)), tt))
texts-hold text.HasSuffix = (λ known vs h k. answered total (Of bool) _ (two_texts vs) _ (two-strings vs h) (λ a p. (_, refl)), (λ known vs h k. may-answer (Of bool) (two_texts vs) _ (λ a. (_, refl)), tt))
texts-hold text.Trim = (λ known vs h k. trim-one vs h, (λ known vs h k. trim-two vs h, (λ known vs h k. may-trim (one_text vs) (two_texts vs), tt)))
texts-hold text.TrimPrefix = (
  λ known vs h k. answered total (Of string) _ (one_or_two_texts vs) _ (one_or_two-one vs h) (λ a p. (_, refl)),
  (λ known vs h k. answered total (Of string) _ (one_or_two_texts vs) _ (one_or_two-two vs h) (λ a p. (_, refl)), (λ known vs h k. may-answer (Of string) (one_or_two_texts vs) _ (λ a. (_, refl)), tt)),
)
texts-hold text.TrimSuffix = (
  λ known vs h k. answered total (Of string) _ (one_or_two_texts vs) _ (one_or_two-one vs h) (λ a p. (_, refl)),
  (λ known vs h k. answered total (Of string) _ (one_or_two_texts vs) _ (one_or_two-two vs h) (λ a p. (_, refl)), (λ known vs h k. may-answer (Of string) (one_or_two_texts vs) _ (λ a. (_, refl)), tt)),
)
texts-hold text.Upper = (λ known vs h k. changed-case _ (one_text vs) (one-string vs h), (λ known vs h k. may-change _ (one_text vs), tt))
texts-hold text.Lower = (λ known vs h k. changed-case _ (one_text vs) (one-string vs h), (λ known vs h k. may-change _ (one_text vs), tt))
texts-hold text.Split = (
  λ known vs h k. answered total (Of (array string)) _ (two_texts_and_limit vs) _ (limit-two vs h) (λ a p. strings _),
  (λ known vs h k. answered total (Of (array string)) _ (two_texts_and_limit vs) _ (limit-three vs h) (λ a p. strings _), (λ known vs h k. may-answer (Of (array string)) (two_texts_and_limit vs) _ (λ a. strings _), tt)),
)
texts-hold text.SplitAfter = (
  λ known vs h k. answered total (Of (array string)) _ (two_texts_and_limit vs) _ (limit-two vs h) (λ a p. strings _),
  (λ known vs h k. answered total (Of (array string)) _ (two_texts_and_limit vs) _ (limit-three vs h) (λ a p. strings _), (λ known vs h k. may-answer (Of (array string)) (two_texts_and_limit vs) _ (λ a. strings _), tt)),
)
texts-hold text.Replace = (
  λ known vs h k. answered total (Of string) _ (three_texts_and_limit vs) _ (limit-of_three vs h) (λ a p. (_, refl)),
  (λ known vs h k. answered total (Of string) _ (three_texts_and_limit vs) _ (limit-of_four vs h) (λ a p. (_, refl)), (λ known vs h k. may-answer (Of string) (three_texts_and_limit vs) _ (λ a. (_, refl)), tt)),
)
texts-hold text.Repeat = (λ known vs h k. answered failing (Of string) _ (text_and_integer vs) _ (string-integer vs h) (λ a p. repeated a.0 a.1), (λ known vs h k. may-answer (Of string) (text_and_integer vs) _ (λ a. repeated a.0 a.1), tt))
texts-hold text.IndexOf = (λ known vs h k. answered total (Of integer) _ (two_texts vs) _ (two-strings vs h) (λ a p. place-integer _), (λ known vs h k. may-answer (Of integer) (two_texts vs) _ (λ a. place-integer _), tt))
texts-hold text.LastIndexOf = (λ known vs h k. answered total (Of integer) _ (two_texts vs) _ (two-strings vs h) (λ a p. place-integer _), (λ known vs h k. may-answer (Of integer) (two_texts vs) _ (λ a. place-integer _), tt))
