-- What a text reads as can be written: so each program that a text has has a text.
use Rattle.std.proofs.Common.{◌≡◌, ℕ, ◌<◌, ◌^◌, nat_lt, ◌==◌, pos, Bool, true, false, List, [], ◌∷◌, ◌++◌, flat_map, Option, Some, None, is_none, if◌then◌else◌, refl, sym, ap, ◌∙◌, subst, arith}
use Rattle.std.specs.Char.{is_digit, digit_value}
use Rattle.std.specs.List.{list_all, AllByRecursion, cons_option}
use Rattle.std.proofs.lemmas.Bool.{and_parts, and_from, ltb-true, lt-ltb, cond-true, cond-false}
use Rattle.expr_tokens.specs.Lexer.{reserved_of}
use Rattle.expr_tokens.specs.Reading.{Piece, Blank, Line, Block, TokenPiece, piece_text, pieces_text, ArePieces, tokens_of as piece_tokens, Reads}
use Rattle.expr_tokens.specs.Spellings.{reserved_text}
use Rattle.expr_tokens.specs.Tokens.{IsSpelling, IsBytes, BytePart, Itself, Escape, Hex, Octal, byte_part, byte_value, byte_fits, escape_value, integer, is_word}
use Rattle.expr_tokens.specs.declared.reserved.Reserved.{Reserved}
use Rattle.expr_tokens.specs.declared.token.Token.{Token}
use Rattle.expr_tokens.specs.declared.token.Token.TheVariants as token
use Rattle.expr_tokens.proofs.Words.{reserved_sound}
use Rattle.expr_tree.specs.Term.{Block as TermBlock}
use Rattle.expr_tokens.specs.Grammar.{IntegerFits}
use Rattle.expr_syntax.specs.Texts.{IsProgramOf}
use Rattle.expr_text.specs.Texts.{token_has_text, block_has_text}
use Rattle.expr_text.proofs.Complete.{Written, program_text}

-- numbers that are bytes
abbrev pub are_bytes : List ℕ → Bool
are_bytes s = list_all (λ b. nat_lt b 256) s

front_bytes : (s t : List ℕ) → are_bytes (s ++ t) ≡ true → are_bytes s ≡ true
front_bytes [] t h = refl
front_bytes (b ∷ s) t h = let parts = and_parts _ _ h in and_from _ _ parts.0 (front_bytes s t parts.1)

back_bytes : (s t : List ℕ) → are_bytes (s ++ t) ≡ true → are_bytes t ≡ true
back_bytes [] t h = h
back_bytes (b ∷ s) t h = back_bytes s t (and_parts _ _ h).1

both_bytes : (s t : List ℕ) → are_bytes s ≡ true → are_bytes t ≡ true → are_bytes (s ++ t) ≡ true
both_bytes [] t h g = g
both_bytes (b ∷ s) t h g = let parts = and_parts _ _ h in and_from _ _ parts.0 (both_bytes s t parts.1 g)

-- the bytes of a literal
escape_is_byte : (b : ℕ) → list_all (λ x. nat_lt x 256) (cons_option (escape_value b) []) ≡ true
escape_is_byte b = by (b == 97) (b == 98) (b == 102) (b == 110) (b == 114) (b == 116) (b == 118) (b == 92) (b == 39) (b == 34)
  where
    by : (p q r s t u v w x y : Bool) → list_all (λ z. nat_lt z 256) (cons_option (
        if p then Some 7 else (if q then Some 8 else (if r then Some 12 else (if s then Some 10 else (if t then Some 13 else (if u then Some 9 else (if v then Some 11 else (if w then Some 92 else (if x then Some 39 else (if y then Some 34 else None)))))))))) []) ≡ true
    by true q r s t u v w x y = refl
    by false true r s t u v w x y = refl
    by false false true s t u v w x y = refl
    by false false false true t u v w x y = refl
    by false false false false true u v w x y = refl
    by false false false false false true v w x y = refl
    by false false false false false false true w x y = refl
    by false false false false false false false true x y = refl
    by false false false false false false false false true y = refl
    by false false false false false false false false false true = refl
    by false false false false false false false false false false = refl

part_bytes : (quote : ℕ) (p : BytePart) → byte_fits quote p ≡ true → are_bytes (byte_part p) ≡ true → are_bytes (byte_value p) ≡ true
part_bytes quote (Itself b) h g = g
part_bytes quote (Escape b) h g = escape_is_byte b
part_bytes quote (Hex a b) h g =
    let parts = and_parts (is_digit a 16) (is_digit b 16) h in
    let high : digit_value a < 16 = ltb-true (digit_value a) 16 parts.0 in
    let low : digit_value b < 16 = ltb-true (digit_value b) 16 parts.1 in
    and_from _ _ (lt-ltb _ 256 (omega (arith, high, low))) refl
part_bytes quote (Octal a b c) h g = and_from _ _ (and_parts _ _ h).1 refl

parts_bytes : (quote : ℕ) (ps : List BytePart) → list_all (byte_fits quote) ps ≡ true → are_bytes (flat_map byte_part ps) ≡ true → are_bytes (flat_map byte_value ps) ≡ true
parts_bytes quote [] h g = refl
parts_bytes quote (p ∷ ps) h g =
    let parts = and_parts _ _ h in
    both_bytes (byte_value p) (flat_map byte_value ps) (part_bytes quote p parts.0 (front_bytes (byte_part p) _ g)) (parts_bytes quote ps parts.1 (back_bytes (byte_part p) _ g))

literal_bytes : (s bs : List ℕ) → IsBytes s bs → are_bytes s ≡ true → are_bytes bs ≡ true
literal_bytes s bs h g =
    let inner = back_bytes (98 ∷ h.quote ∷ []) (flat_map byte_part h.parts ++ h.quote ∷ []) (ap are_bytes (sym h.written) ∙ g) in
    ap are_bytes h.value ∙ parts_bytes h.quote h.parts h.fit (front_bytes (flat_map byte_part h.parts) _ inner)

-- words
free_by : (w : List ℕ) (o : Option Reserved) → reserved_of w ≡ o → ((r : Reserved) → reserved_text r ≡ w → ⊥) → is_none (reserved_of w) ≡ true
free_by w (Some r) e free = absurd (free r (reserved_sound w r e))
free_by w None e free = ap is_none e

-- integers
integer_by : (n : ℕ) (b : Bool) → nat_lt n (2 ^ 63) ≡ b → IntegerFits (token.Integer (integer n)) → token_has_text (token.Integer (integer n)) ≡ true
integer_by n true e f = ap (λ o. token_has_text (token.Integer o)) (cond-true _ _ _ e) ∙ e
integer_by n false e f = absurd (subst (λ o. IntegerFits (token.Integer o)) (cond-false (nat_lt n (2 ^ 63)) (Some (pos n)) None e) f)

-- each token that is written somewhere
spelled_written : (t : Token) (s : List ℕ) → IsSpelling t s → are_bytes s ≡ true → IntegerFits t → token_has_text t ≡ true
spelled_written (token.Integer i) s (n, decimal, is) g f =
    ap (λ o. token_has_text (token.Integer o)) is ∙ integer_by n (nat_lt n (2 ^ 63)) (λ _. nat_lt n (2 ^ 63)) (subst (λ o. IntegerFits (token.Integer o)) is f)
spelled_written (token.Word w) s h g f =
    and_from _ _ (ap is_word (sym h.0) ∙ h.1) (free_by w (reserved_of w) (λ _. reserved_of w) (λ r e. h.2 r (e ∙ sym h.0)))
spelled_written (token.Reserved r) s h g f = refl
spelled_written (token.Hash w) s h g f = ap (λ l. token_has_text (token.Hash l)) (sym h.0) ∙ h.1
spelled_written (token.Quoted t) s h g f = refl
spelled_written (token.Raw t) s h g f = h.1
spelled_written (token.Bytes bs) s h g f = literal_bytes s bs h g
spelled_written (token.Sign x) s h g f = refl

pieces_written : (ps : List Piece) (rest : List ℕ) → ArePieces ps rest → are_bytes (pieces_text ps) ≡ true → AllByRecursion IntegerFits (piece_tokens ps) → Written (piece_tokens ps)
pieces_written [] rest h g f = tt
pieces_written (Blank b ∷ ps) rest h g f = pieces_written ps rest h.1 (back_bytes (b ∷ []) (pieces_text ps) g) f
pieces_written (Line s ∷ ps) rest h g f = pieces_written ps rest h.1 (back_bytes (piece_text (Line s)) _ g) f
pieces_written (Block s ∷ ps) rest h g f = pieces_written ps rest h.1 (back_bytes (piece_text (Block s)) _ g) f
pieces_written (TokenPiece t s ∷ ps) rest h g f =
    (spelled_written t s h.0.spells (front_bytes s _ g) f.0, pieces_written ps rest h.1 (back_bytes s _ g) f.1)

pub read_written : (text : List ℕ) (ts : List Token) → are_bytes text ≡ true → Reads text ts → AllByRecursion IntegerFits ts → Written ts
read_written text ts g (starts, r) f =
    subst Written r.in_order (pieces_written r.pieces [] r.fit (ap are_bytes r.whole ∙ g) (subst (AllByRecursion IntegerFits) (sym r.in_order) f))

pub source_has_text : (text : List ℕ) (b : TermBlock) → are_bytes text ≡ true → IsProgramOf text b → block_has_text b ≡ true
source_has_text text b g h =
    let spells = h.is_tree.spells in
    let written = subst Written (sym spells) (read_written text h.is_tree.tokens g h.is_tree.reads (subst (AllByRecursion IntegerFits) spells h.literals)) in
    ap block_has_text h.same ∙ program_text h.tree written
