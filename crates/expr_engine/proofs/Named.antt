-- Names of the language among tokens.
use Rattle.std.proofs.Common.{◌≡◌, ◌≢◌, ◌↔◌, ◌∙◌, arith, ℕ, Bool, true, false, List, [], ◌∷◌, Option, None, Some, IsTrue, ap, is_some, length, refl, slice_get, subst, sym}
use Rattle.std.proofs.lemmas.Bool.{false≢true}
use Rattle.std.proofs.lemmas.Slice.Eq.{bytes_eq-Decides}
use Rattle.expr_engine.specs.Adding.{IsName, is_this_word, is_word_alone}
use Rattle.expr_tokens.specs.Reading.{Reads, ReadsAt}
use Rattle.expr_tokens.specs.declared.token.Token.{Token}

-- tokens that aren't one token are no word
pub no_word : (tokens : List Token) (text : List ℕ) → length tokens ≢ 1 → is_word_alone tokens text ≡ false
no_word [] text n = refl
no_word (token ∷ []) text n = absurd (n refl)
no_word (token ∷ (next ∷ rest)) text n = refl

pub no_token : (tokens : List Token) (text : List ℕ) → slice_get tokens 0 ≡ None → is_word_alone tokens text ≡ false
no_token [] text e = refl
no_token (token ∷ rest) text e = cc e

-- one token is a word where it is this one
pub one_token : (tokens : List Token) (token : Token) (text : List ℕ) → length tokens ≡ 1 → slice_get tokens 0 ≡ Some token → is_word_alone tokens text ≡ is_this_word token text
one_token [] token text n e = cc e
one_token (first ∷ []) token text n e = let same : first ≡ token = cc e in ap (λ t. is_this_word t text) same
one_token (first ∷ (next ∷ rest)) token text n e = absurd (omega (arith, n))

-- tokens that are a word are this one
this_word : (token : Token) (text : List ℕ) → is_this_word token text ≡ true → token ≡ Token.Word text
this_word (Token.Word word) text is = ap Token.Word ((bytes_eq-Decides word text).0 is)
this_word token text is = absurd (false≢true is)

word_alone : (tokens : List Token) (text : List ℕ) → is_word_alone tokens text ≡ true → tokens ≡ Token.Word text ∷ []
word_alone [] text is = absurd (false≢true is)
word_alone (token ∷ []) text is = ap (λ t. t ∷ []) (this_word token text is)
word_alone (token ∷ (next ∷ rest)) text is = absurd (false≢true is)

-- a string is a name if its tokens are this word alone
pub named : (text : List ℕ) (tokens : List Token) (starts : List ℕ) (is : Bool) → ReadsAt text tokens starts → ((others : List Token) → Reads text others → others ≡ tokens) → is ≡ is_word_alone tokens text → IsTrue is ↔ IsName text
named text tokens starts is reads unique same = (
  λ so. (starts, subst (λ ts. ReadsAt text ts starts) (word_alone tokens text (sym same ∙ so)) reads),
  λ name. same ∙ ap (λ ts. is_word_alone ts text) (sym (unique (Token.Word text ∷ []) name)) ∙ (bytes_eq-Decides text text).1 refl,
)

-- a string that can't be read is none
pub unread : (text : List ℕ) → ((tokens : List Token) → Reads text tokens → ⊥) → IsTrue false ↔ IsName text
unread text refused = (λ so. absurd (false≢true so), λ name. absurd (refused (Token.Word text ∷ []) name))

-- there is nothing where there isn't something
pub is_nothing : (o : Option ℕ) → is_some o ≡ false → o ≡ None
is_nothing None e = refl
is_nothing (Some n) e = absurd (false≢true (sym e))
