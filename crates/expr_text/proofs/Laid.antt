-- What is laid out reads as the tokens of the tree.
use Rattle.std.proofs.Common.{◌≡◌, ℕ, ◌/◌, ◌%◌, ◌^◌, nat_lt, ◌==◌, pos, negsuc, Bool, true, false, ◌&&◌, ◌||◌, List, [], ◌∷◌, ◌++◌, length, take, map, flat_map, Option, Some, None, is_none, if◌then◌else◌, inl, codes, refl, sym, ap, ◌∙◌, subst, arith, append_assoc}
use Rattle.std.specs.Char.{digit_char, is_digit}
use Rattle.std.specs.Fmt.{decimal}
use Rattle.std.specs.List.{list_all}
use Rattle.std.specs.Option.{option_map, option_or}
use Rattle.std.proofs.lemmas.Bool.{and_parts, and_from, ltb-true, cond-true, cond-false, eqb-true, false≢true, agree_below_at}
use Rattle.std.proofs.lemmas.Bool.Decides.{nat_tests}
use Rattle.std.proofs.lemmas.List.{drop_at, take_at}
use Rattle.expr_error.specs.Quoted.{quoted_text}
use Rattle.expr_tokens.specs.Kinds.{is_word_byte, first_is}
use Rattle.expr_tokens.specs.Lexer.{token_at, word_token as token_of_word, reserved_of}
use Rattle.expr_tokens.specs.Reading.{IsTokenBefore, Piece, pieces_text, IsPieceBefore, ArePieces, tokens_of as piece_tokens, Reads, starts_from}
use Rattle.expr_tokens.specs.Spellings.{sign_text}
use Rattle.expr_tokens.specs.Tokens.{IsBytes, byte_value, byte_fits, hex_value, is_word, is_quote}
use Rattle.expr_tokens.proofs.Decimals.{decimal_back}
use Rattle.expr_tokens.proofs.Escapes.{quoted_back}
use Rattle.expr_tokens.proofs.Hashes.{hash_shape, hash_complete, raw_complete}
use Rattle.expr_tokens.proofs.Quotes.{bytes_complete}
use Rattle.expr_tokens.proofs.Readings.{pieces_text-append, tokens_of-append}
use Rattle.expr_tokens.proofs.Tokens.{token_stands, integer_complete_at, reserved_complete, quoted_complete_at, word_complete_at}
use Rattle.expr_tokens.specs.declared.reserved.Reserved.{Reserved}
use Rattle.expr_tokens.specs.declared.reserved.Reserved.TheVariants as reserved
use Rattle.expr_tokens.specs.declared.sign.Sign.{Sign}
use Rattle.expr_tokens.specs.declared.sign.Sign.TheVariants as sign
use Rattle.expr_tokens.specs.declared.token.Token.{Token}
use Rattle.expr_tokens.specs.declared.token.Token.TheVariants as token
use Rattle.expr_tokens.specs.declared.operator_sign.PrefixSign.{PrefixSign}
use Rattle.expr_tokens.specs.declared.operator_sign.PrefixSign.TheVariants as prefix
use Rattle.expr_tokens.specs.declared.operator_sign.InfixSign.{InfixSign}
use Rattle.expr_tokens.specs.declared.operator_sign.InfixSign.TheVariants as infixed
use Rattle.expr_tokens.specs.Grammar.{Word, Usual, ReservedWord, Key, WordKey, QuotedKey, Constant, True, EntryRow, OneEntry, MoreEntries, Entries, NoEntries, SomeEntries, Tree, Literal, Name, HashName, Field, Paren, Array, Map, Call, If, Prefix, Infix, Member, Method, Index, Slice, Pipe, Ternary, Items, NoItems, SomeItems, Row, One, More, Arguments, NoArguments, SomeArguments, ArgumentRow, OneArgument, MoreArguments, Argument, Expression, Braces, Bound, LeftOut, At, ElsePart, Else, ElseIf, TreeProgram, Program, Lines, NoLines, MoreLines, word_token, constant_token, key_token, member_token, index_tokens, infix_tokens, prefix_token, comma_tokens, tokens_of, items_tokens, row_tokens, entries_tokens, entry_row_tokens, arguments_tokens, argument_row_tokens, argument_tokens, bound_tokens, else_tokens, program_tokens, lines_tokens}
use Rattle.expr_text.specs.Layout.{is_plain, byte_part_of, bytes_text, spelling, written, signed, worded, space, new_line, prefix_pieces, infix_pieces, comma_pieces, has_operator, beside_bound, pieces_of, items_pieces, row_pieces, entries_pieces, entry_row_pieces, arguments_pieces, argument_row_pieces, argument_pieces, bound_pieces, else_pieces, program_pieces, lines_pieces}
use Rattle.expr_text.specs.Texts.{token_has_text}
use Rattle.expr_text.proofs.Complete.{Written, front, back, word_is_word}

-- what follows touches no word and no quote
abbrev pub Apart : List ℕ → Type 0
Apart rest = (first_is is_word_byte rest ≡ false) × (first_is is_quote rest ≡ false)

-- what the lexer finds whole stands there
stands : (t : Token) (s rest : List ℕ) → token_at (s ++ rest) ≡ Some (length s, t) → IsTokenBefore t s rest
stands t s rest e =
    let h = (token_stands (s ++ rest) (length s) t e).0 in
    subst (λ x. IsTokenBefore t x rest) (take_at s rest (length s) refl) (subst (IsTokenBefore t (take (length s) (s ++ rest))) (drop_at s rest (length s) refl) h)

fit_both : (ps qs : List Piece) (rest : List ℕ) → ArePieces ps (pieces_text qs ++ rest) → ArePieces qs rest → ArePieces (ps ++ qs) rest
fit_both [] qs rest first second = second
fit_both (p ∷ ps) qs rest first second =
    (subst (IsPieceBefore p) (sym (append_assoc (pieces_text ps) (pieces_text qs) rest) ∙ ap (λ l. l ++ rest) (sym (pieces_text-append ps qs))) first.0, fit_both ps qs rest first.1 second)

-- bytes literals
byte_test : ℕ → Bool
byte_test b = byte_fits 34 (byte_part_of b) && (is_digit (digit_char (b / 16)) 16 && (is_digit (digit_char (b % 16)) 16 && (hex_value (digit_char (b / 16)) (digit_char (b % 16)) == b)))

byte_tested : (b : ℕ) → nat_lt b 256 ≡ true → byte_test b ≡ true
unfolding byte_test
byte_tested b h = agree_below_at byte_test (λ _. true) 256 b refl (ltb-true b 256 h)

one_byte_by : (b : ℕ) → (hex_value (digit_char (b / 16)) (digit_char (b % 16)) == b) ≡ true → (p : Bool) → is_plain b ≡ p → b ∷ [] ≡ byte_value (byte_part_of b)
one_byte_by b h true e = ap byte_value (sym (cond-true _ _ _ e))
one_byte_by b h false e = ap (λ x. x ∷ []) (sym (eqb-true _ b h)) ∙ ap byte_value (sym (cond-false _ _ _ e))

one_byte : (b : ℕ) → byte_test b ≡ true → b ∷ [] ≡ byte_value (byte_part_of b)
unfolding byte_test
one_byte b h =
    let after = and_parts (is_digit (digit_char (b / 16)) 16) (is_digit (digit_char (b % 16)) 16 && (hex_value (digit_char (b / 16)) (digit_char (b % 16)) == b)) (and_parts (byte_fits 34 (byte_part_of b)) _ h).1 in
    one_byte_by b (and_parts (is_digit (digit_char (b % 16)) 16) (hex_value (digit_char (b / 16)) (digit_char (b % 16)) == b) after.1).1 (is_plain b) (λ _. is_plain b)

one_fits : (b : ℕ) → byte_test b ≡ true → byte_fits 34 (byte_part_of b) ≡ true
unfolding byte_test
one_fits b h = (and_parts _ _ h).0

byte_values : (bs : List ℕ) → list_all (λ b. nat_lt b 256) bs ≡ true → bs ≡ flat_map byte_value (map byte_part_of bs)
byte_values [] h = refl
byte_values (b ∷ bs) h = let parts = and_parts _ _ h in (λ i. one_byte b (byte_tested b parts.0) i ++ byte_values bs parts.1 i)

bytes_fit : (bs : List ℕ) → list_all (λ b. nat_lt b 256) bs ≡ true → list_all (byte_fits 34) (map byte_part_of bs) ≡ true
bytes_fit [] h = refl
bytes_fit (b ∷ bs) h = let parts = and_parts _ _ h in and_from _ _ (one_fits b (byte_tested b parts.0)) (bytes_fit bs parts.1)

bytes_back : (bs : List ℕ) → list_all (λ b. nat_lt b 256) bs ≡ true → IsBytes (bytes_text bs) bs
bytes_back bs h = record { quote = 34; parts = map byte_part_of bs; quoted = refl; written = refl; fit = bytes_fit bs h; value = byte_values bs h }

-- words
free_token_by : (w : List ℕ) (o : Option Reserved) → reserved_of w ≡ o → is_none o ≡ true → token_of_word w ≡ token.Word w
free_token_by w (Some r) e h = absurd (false≢true h)
free_token_by w None e h = ap (λ (o : Option Reserved). elim o as (λ _. Token) [ Some r ↦ token.Reserved r | None ↦ token.Word w ]) e

free_token : (w : List ℕ) → is_none (reserved_of w) ≡ true → token_of_word w ≡ token.Word w
free_token w h = free_token_by w (reserved_of w) (λ _. reserved_of w) h

-- each token but a sign stands before what is apart
abbrev IsNoSign : Token → Type 0
IsNoSign (token.Sign x) = ⊥
IsNoSign t = Unit {0}

found : (t : Token) → IsNoSign t → token_has_text t ≡ true → (rest : List ℕ) → Apart rest → token_at (spelling t ++ rest) ≡ Some (length (spelling t), t)
unfolding bytes_back
found (token.Integer (Some (pos n))) _ h rest apart =
    let below = ltb-true n (2 ^ 63) h in
    integer_complete_at (Some (pos n)) (decimal n) rest (n, inl (decimal_back n (omega arith)), sym (cond-true _ _ _ h)) apart.0
found (token.Integer (Some (negsuc n))) _ h rest apart = absurd (false≢true h)
found (token.Integer None) _ h rest apart = absurd (false≢true h)
found (token.Word w) _ h rest apart =
    let parts = and_parts _ _ h in
    word_complete_at w rest parts.0 apart.0 apart.1 ∙ ap (λ t. Some (length w, t)) (free_token w parts.1)
found (token.Reserved r) _ h rest apart = reserved_complete r rest apart.0
found (token.Hash w) _ h rest apart =
    let name = hash_shape w h in
    subst (λ l. token_at (l ++ rest) ≡ Some (length l, token.Hash l)) (sym name.is) (hash_complete name.word rest name.all name.first apart.0)
found (token.Quoted s) _ h rest apart = quoted_complete_at s (quoted_text s) rest (quoted_back s)
found (token.Raw s) _ h rest apart = raw_complete s rest h
found (token.Bytes bs) _ h rest apart = bytes_complete bs (bytes_text bs) rest (bytes_back bs h)
found (token.Sign x) no_sign h rest apart = absurd no_sign

-- a sign before a blank
before_space : (x : Sign) (rest : List ℕ) → token_at (sign_text x ++ 32 ∷ rest) ≡ Some (length (sign_text x), token.Sign x)
before_space sign.Plus rest = refl
before_space x rest = refl

before_line : (rest : List ℕ) → token_at (59 ∷ rest) ≡ Some (1, token.Sign sign.Semicolon)
before_line [] = refl
before_line (c ∷ s) = refl

-- signs that stand before anything
abbrev Stands : Sign → Type 0
Stands x = (rest : List ℕ) → token_at (sign_text x ++ rest) ≡ Some (length (sign_text x), token.Sign x)

paren_open : Stands sign.ParenOpen
paren_open [] = refl
paren_open (c ∷ s) = refl

paren_close : Stands sign.ParenClose
paren_close [] = refl
paren_close (c ∷ s) = refl

square_open : Stands sign.SquareOpen
square_open [] = refl
square_open (c ∷ s) = refl

square_close : Stands sign.SquareClose
square_close [] = refl
square_close (c ∷ s) = refl

brace_open : Stands sign.BraceOpen
brace_open [] = refl
brace_open (c ∷ s) = refl

brace_close : Stands sign.BraceClose
brace_close [] = refl
brace_close (c ∷ s) = refl

comma : Stands sign.Comma
comma [] = refl
comma (c ∷ s) = refl

colon : Stands sign.Colon
colon [] = refl
colon (c ∷ s) = refl

plus : Stands sign.Plus
plus [] = refl
plus (c ∷ s) = refl

minus : Stands sign.Minus
minus [] = refl
minus (c ∷ s) = refl

question_dot : Stands sign.QuestionDot
question_dot [] = refl
question_dot (c ∷ s) = refl

-- pieces that hold these tokens, and stand before what is apart
pub record Laid (ps : List Piece) (ts : List Token) : Type 0 where
  pub order : piece_tokens ps ≡ ts
  pub fit : Written ts → (rest : List ℕ) → Apart rest → ArePieces ps rest

-- these begin with what touches no word and no quote
abbrev Opens : List Piece → Type 0
Opens ps = (rest : List ℕ) → Apart rest → Apart (pieces_text ps ++ rest)

none : Laid [] []
none = record { order = refl; fit = λ h rest apart. tt }

both : {ps qs : List Piece} {ts us : List Token} → Laid ps ts → Opens qs → Laid qs us → Laid (ps ++ qs) (ts ++ us)
both {ps} {qs} {ts} {us} a opens b =
    record {
      order = tokens_of-append ps qs ∙ (λ i. a.order i ++ b.order i);
      fit = λ h rest apart. fit_both ps qs rest (a.fit (front ts us h) (pieces_text qs ++ rest) (opens rest apart)) (b.fit (back ts us h) rest apart);
    }

one : (t : Token) → IsNoSign t → Laid (written t ∷ []) (t ∷ [])
one t unsigned = record { order = refl; fit = λ h rest apart. (stands t (spelling t) rest (found t unsigned h.0 rest apart), tt) }

spaced : {ps : List Piece} {ts : List Token} → Laid ps ts → Laid (space ∷ ps) ts
spaced a = record { order = a.order; fit = λ h rest apart. (refl, a.fit h rest apart) }

-- a sign before anything
sign_then : {ps : List Piece} {ts : List Token} (x : Sign) → Stands x → Laid ps ts → Laid (signed x ∷ ps) (token.Sign x ∷ ts)
sign_then {ps} x all a =
    record { order = ap (λ l. token.Sign x ∷ l) a.order; fit = λ h rest apart. (stands (token.Sign x) (sign_text x) (pieces_text ps ++ rest) (all (pieces_text ps ++ rest)), a.fit h.1 rest apart) }

-- a sign before a space
sign_spaced : {ps : List Piece} {ts : List Token} (x : Sign) → Laid ps ts → Laid (signed x ∷ space ∷ ps) (token.Sign x ∷ ts)
sign_spaced {ps} x a =
    record { order = ap (λ l. token.Sign x ∷ l) a.order; fit = λ h rest apart. (stands (token.Sign x) (sign_text x) (32 ∷ (pieces_text ps ++ rest)) (before_space x (pieces_text ps ++ rest)), (refl, a.fit h.1 rest apart)) }

-- a token before what opens
token_then : {ps : List Piece} {ts : List Token} (t : Token) → IsNoSign t → Opens ps → Laid ps ts → Laid (written t ∷ ps) (t ∷ ts)
token_then {ps} t unsigned opens a =
    record { order = ap (λ l. t ∷ l) a.order; fit = λ h rest apart. (stands t (spelling t) (pieces_text ps ++ rest) (found t unsigned h.0 (pieces_text ps ++ rest) (opens rest apart)), a.fit h.1 rest apart) }

-- a reserved word before a space
word_spaced : {ps : List Piece} {ts : List Token} (r : Reserved) → Laid ps ts → Laid (worded r ∷ space ∷ ps) (token.Reserved r ∷ ts)
word_spaced {ps} r a = token_then (token.Reserved r) tt (λ rest apart. (refl, refl)) (spaced a)

close : (x : Sign) → Stands x → Laid (signed x ∷ []) (token.Sign x ∷ [])
close x all = sign_then x all none

-- a dot before a word
word_no_sign : (w : Word) → IsNoSign (word_token w)
word_no_sign (Usual w) = tt
word_no_sign (ReservedWord r) = tt

key_no_sign : (k : Key) → IsNoSign (key_token k)
key_no_sign (WordKey w) = word_no_sign w
key_no_sign (QuotedKey s) = tt

constant_no_sign : (c : Constant) → IsNoSign (constant_token c)
constant_no_sign True = tt
constant_no_sign c = tt

no_dot_byte : (b : ℕ) → is_word_byte b ≡ true → (b == 46) ≡ false
no_dot_byte b h = grind (arith, nat_tests)

dot_before : (s rest : List ℕ) → is_word s ≡ true → token_at (46 ∷ (s ++ rest)) ≡ Some (1, token.Sign sign.Dot)
dot_before [] rest h = absurd (false≢true h)
dot_before (b ∷ s) rest h =
    ap (λ c. option_map (λ (x : Sign). (length (sign_text x), token.Sign x)) (option_or (if c then Some sign.DotDot else None) (Some sign.Dot))) (no_dot_byte b (and_parts _ _ h).0)

word_spelling : (w : Word) → token_has_text (word_token w) ≡ true → is_word (spelling (word_token w)) ≡ true
word_spelling (Usual w) h = word_is_word (Usual w) h
word_spelling (ReservedWord r) h = word_is_word (ReservedWord r) h

dot_then : {ps : List Piece} {ts : List Token} (w : Word) → Opens ps → Laid ps ts → Laid (signed sign.Dot ∷ written (word_token w) ∷ ps) (token.Sign sign.Dot ∷ word_token w ∷ ts)
dot_then {ps} {ts} w opens a =
    let rest_of = token_then (word_token w) (word_no_sign w) opens a in
    record {
      order = ap (λ l. token.Sign sign.Dot ∷ l) rest_of.order;
      fit = λ h rest apart. (
        stands (token.Sign sign.Dot) (codes ".") _
            (ap (λ l. token_at (46 ∷ l)) (append_assoc (spelling (word_token w)) (pieces_text ps) rest) ∙ dot_before (spelling (word_token w)) (pieces_text ps ++ rest) (word_spelling w h.1.0)),
        rest_of.fit h.1 rest apart,
      );
    }

-- a line's end
line_end : {ps : List Piece} {ts : List Token} → Laid ps ts → Laid (signed sign.Semicolon ∷ new_line ∷ ps) (token.Sign sign.Semicolon ∷ ts)
line_end {ps} a =
    record { order = ap (λ l. token.Sign sign.Semicolon ∷ l) a.order; fit = λ h rest apart. (stands (token.Sign sign.Semicolon) (codes ";") (10 ∷ (pieces_text ps ++ rest)) (before_line (10 ∷ (pieces_text ps ++ rest))), (refl, a.fit h.1 rest apart)) }

infix_laid : (o : InfixSign) {ps : List Piece} {ts : List Token} → Laid ps ts → Laid (infix_pieces o ++ space ∷ ps) (infix_tokens o ++ ts)
infix_laid infixed.Or a = word_spaced reserved.Or a
infix_laid infixed.BarBar a = sign_spaced sign.BarBar a
infix_laid infixed.And a = word_spaced reserved.And a
infix_laid infixed.AndAnd a = sign_spaced sign.AndAnd a
infix_laid infixed.Equal a = sign_spaced sign.EqualEqual a
infix_laid infixed.NotEqual a = sign_spaced sign.NotEqual a
infix_laid infixed.Less a = sign_spaced sign.Less a
infix_laid infixed.LessEqual a = sign_spaced sign.LessEqual a
infix_laid infixed.Greater a = sign_spaced sign.Greater a
infix_laid infixed.GreaterEqual a = sign_spaced sign.GreaterEqual a
infix_laid infixed.In a = word_spaced reserved.In a
infix_laid infixed.NotIn a = word_spaced reserved.Not (word_spaced reserved.In a)
infix_laid infixed.Contains a = word_spaced reserved.Contains a
infix_laid infixed.StartsWith a = word_spaced reserved.StartsWith a
infix_laid infixed.EndsWith a = word_spaced reserved.EndsWith a
infix_laid infixed.Matches a = word_spaced reserved.Matches a
infix_laid infixed.Range a = sign_spaced sign.DotDot a
infix_laid infixed.Add a = sign_spaced sign.Plus a
infix_laid infixed.Subtract a = sign_spaced sign.Minus a
infix_laid infixed.Multiply a = sign_spaced sign.Star a
infix_laid infixed.Divide a = sign_spaced sign.Slash a
infix_laid infixed.Modulo a = sign_spaced sign.Percent a
infix_laid infixed.Caret a = sign_spaced sign.Caret a
infix_laid infixed.StarStar a = sign_spaced sign.StarStar a
infix_laid infixed.Coalesce a = sign_spaced sign.QuestionQuestion a

prefix_laid : (o : PrefixSign) {ps : List Piece} {ts : List Token} → Laid ps ts → Laid (prefix_pieces o ++ ps) (prefix_token o ∷ ts)
prefix_laid prefix.Not a = word_spaced reserved.Not a
prefix_laid prefix.Bang a = sign_spaced sign.Bang a
prefix_laid prefix.Positive a = sign_then sign.Plus plus a
prefix_laid prefix.Negative a = sign_then sign.Minus minus a

member_laid : (optional : Bool) (w : Word) → Laid (written (member_token optional) ∷ written (word_token w) ∷ []) (member_token optional ∷ word_token w ∷ [])
member_laid true w = sign_then sign.QuestionDot question_dot (one (word_token w) (word_no_sign w))
member_laid false w = dot_then w (λ rest apart. apart) none

member_opens : (optional : Bool) (w : Word) → Opens (written (member_token optional) ∷ written (word_token w) ∷ [])
member_opens true w rest apart = (refl, refl)
member_opens false w rest apart = (refl, refl)

index_laid : (optional : Bool) {ps : List Piece} {ts : List Token} → Laid ps ts → Laid (map written (index_tokens optional) ++ ps) (index_tokens optional ++ ts)
index_laid true a = sign_then sign.QuestionDot question_dot (sign_then sign.SquareOpen square_open a)
index_laid false a = sign_then sign.SquareOpen square_open a

index_opens : (optional : Bool) (ps : List Piece) → Opens (map written (index_tokens optional) ++ ps)
index_opens true ps rest apart = (refl, refl)
index_opens false ps rest apart = (refl, refl)

comma_laid : (b : Bool) → Laid (comma_pieces b) (comma_tokens b)
comma_laid true = close sign.Comma comma
comma_laid false = none

comma_opens : (b : Bool) → Opens (comma_pieces b)
comma_opens true rest apart = (refl, refl)
comma_opens false rest apart = apart

-- the colon of a slice, with blanks or without
colon_laid : (wide : Bool) (x y : Bound) {ps : List Piece} {ts : List Token} → Laid ps ts → Laid ((beside_bound wide x ++ signed sign.Colon ∷ beside_bound wide y) ++ ps) (token.Sign sign.Colon ∷ ts)
colon_laid wide LeftOut LeftOut a = sign_then sign.Colon colon a
colon_laid true LeftOut (At u) a = sign_then sign.Colon colon (spaced a)
colon_laid false LeftOut (At u) a = sign_then sign.Colon colon a
colon_laid true (At t) LeftOut a = spaced (sign_then sign.Colon colon a)
colon_laid false (At t) LeftOut a = sign_then sign.Colon colon a
colon_laid true (At t) (At u) a = spaced (sign_then sign.Colon colon (spaced a))
colon_laid false (At t) (At u) a = sign_then sign.Colon colon a

colon_opens : (wide : Bool) (x y : Bound) (ps : List Piece) → Opens ((beside_bound wide x ++ signed sign.Colon ∷ beside_bound wide y) ++ ps)
colon_opens wide LeftOut y ps rest apart = (refl, refl)
colon_opens true (At t) y ps rest apart = (refl, refl)
colon_opens false (At t) y ps rest apart = (refl, refl)

-- pieces and tokens in other brackets
along : {ps qs : List Piece} {ts us : List Token} → ps ≡ qs → ts ≡ us → Laid ps ts → Laid qs us
along {ps} {qs} {ts} {us} e f a = subst (λ l. Laid l us) e (subst (Laid ps) f a)

mutual
  tree_laid : (t : Tree) → Laid (pieces_of t) (tokens_of t)
  tree_laid (Literal c) = one (constant_token c) (constant_no_sign c)
  tree_laid (Name w) = one (token.Word w) tt
  tree_laid (HashName w) = one (token.Hash w) tt
  tree_laid (Field w) = dot_then w (λ rest apart. apart) none
  tree_laid (Paren t) = sign_then sign.ParenOpen paren_open (both (tree_laid t) (λ rest apart. (refl, refl)) (close sign.ParenClose paren_close))
  tree_laid (Array xs) = sign_then sign.SquareOpen square_open (both (items_laid xs) (λ rest apart. (refl, refl)) (close sign.SquareClose square_close))
  tree_laid (Map es) = sign_then sign.BraceOpen brace_open (both (entries_laid es) (λ rest apart. (refl, refl)) (close sign.BraceClose brace_close))
  tree_laid (Call w xs) = token_then (token.Word w) tt (λ rest apart. (refl, refl)) (sign_then sign.ParenOpen paren_open (both (arguments_laid xs) (λ rest apart. (refl, refl)) (close sign.ParenClose paren_close)))
  tree_laid (If c a e) =
      word_spaced reserved.If (both (tree_laid c) (λ rest apart. (refl, refl)) (spaced (sign_spaced sign.BraceOpen (
      both (program_laid a) (λ rest apart. (refl, refl)) (spaced (sign_spaced sign.BraceClose (word_spaced reserved.Else (else_laid e))))))))
  tree_laid (Prefix o t) = prefix_laid o (tree_laid t)
  tree_laid (Infix o l r) = both (tree_laid l) (λ rest apart. (refl, refl)) (spaced (infix_laid o (tree_laid r)))
  tree_laid (Member l optional w) = both (tree_laid l) (member_opens optional w) (member_laid optional w)
  tree_laid (Method l w xs) =
      both (tree_laid l) (λ rest apart. (refl, refl)) (dot_then w (λ rest apart. (refl, refl)) (sign_then sign.ParenOpen paren_open (
      both (items_laid xs) (λ rest apart. (refl, refl)) (close sign.ParenClose paren_close))))
  tree_laid (Index l optional i) =
      both (tree_laid l) (index_opens optional _) (index_laid optional (both (tree_laid i) (λ rest apart. (refl, refl)) (close sign.SquareClose square_close)))
  tree_laid (Slice l a b) =
      let wide = has_operator a || has_operator b in
      both (tree_laid l) (λ rest apart. (refl, refl)) (sign_then sign.SquareOpen square_open (
      both (bound_laid a) (colon_opens wide a b _) (colon_laid wide a b (both (bound_laid b) (λ rest apart. (refl, refl)) (close sign.SquareClose square_close)))))
  tree_laid (Pipe l w xs) =
      both (tree_laid l) (λ rest apart. (refl, refl)) (spaced (sign_spaced sign.Bar (token_then (token.Word w) tt (λ rest apart. (refl, refl)) (
      sign_then sign.ParenOpen paren_open (both (arguments_laid xs) (λ rest apart. (refl, refl)) (close sign.ParenClose paren_close))))))
  tree_laid (Ternary c a b) =
      both (tree_laid c) (λ rest apart. (refl, refl)) (spaced (sign_spaced sign.Question (both (tree_laid a) (λ rest apart. (refl, refl)) (spaced (sign_spaced sign.Colon (tree_laid b))))))

  items_laid : (xs : Items) → Laid (items_pieces xs) (items_tokens xs)
  items_laid NoItems = none
  items_laid (SomeItems r comma) = both (row_laid r) (comma_opens comma) (comma_laid comma)

  row_laid : (r : Row) → Laid (row_pieces r) (row_tokens r)
  row_laid (One t) = tree_laid t
  row_laid (More r t) = both (row_laid r) (λ rest apart. (refl, refl)) (sign_spaced sign.Comma (tree_laid t))

  entries_laid : (es : Entries) → Laid (entries_pieces es) (entries_tokens es)
  entries_laid NoEntries = none
  entries_laid (SomeEntries r comma) = both (entry_row_laid r) (comma_opens comma) (comma_laid comma)

  entry_row_laid : (r : EntryRow) → Laid (entry_row_pieces r) (entry_row_tokens r)
  entry_row_laid (OneEntry key t) = token_then (key_token key) (key_no_sign key) (λ rest apart. (refl, refl)) (sign_spaced sign.Colon (tree_laid t))
  entry_row_laid (MoreEntries r key t) =
      both (entry_row_laid r) (λ rest apart. (refl, refl)) (sign_spaced sign.Comma (token_then (key_token key) (key_no_sign key) (λ rest apart. (refl, refl)) (sign_spaced sign.Colon (tree_laid t))))

  arguments_laid : (xs : Arguments) → Laid (arguments_pieces xs) (arguments_tokens xs)
  arguments_laid NoArguments = none
  arguments_laid (SomeArguments r comma) = both (argument_row_laid r) (comma_opens comma) (comma_laid comma)

  argument_row_laid : (r : ArgumentRow) → Laid (argument_row_pieces r) (argument_row_tokens r)
  argument_row_laid (OneArgument a) = argument_laid a
  argument_row_laid (MoreArguments r a) = both (argument_row_laid r) (λ rest apart. (refl, refl)) (sign_spaced sign.Comma (argument_laid a))

  argument_laid : (a : Argument) → Laid (argument_pieces a) (argument_tokens a)
  argument_laid (Expression t) = tree_laid t
  argument_laid (Braces p) = sign_then sign.BraceOpen brace_open (both (program_laid p) (λ rest apart. (refl, refl)) (close sign.BraceClose brace_close))

  bound_laid : (x : Bound) → Laid (bound_pieces x) (bound_tokens x)
  bound_laid LeftOut = none
  bound_laid (At t) = tree_laid t

  else_laid : (e : ElsePart) → Laid (else_pieces e) (else_tokens e)
  else_laid (Else b) = sign_spaced sign.BraceOpen (both (program_laid b) (λ rest apart. (refl, refl)) (spaced (close sign.BraceClose brace_close)))
  else_laid (ElseIf c a e) =
      word_spaced reserved.If (both (tree_laid c) (λ rest apart. (refl, refl)) (spaced (sign_spaced sign.BraceOpen (
      both (program_laid a) (λ rest apart. (refl, refl)) (spaced (sign_spaced sign.BraceClose (word_spaced reserved.Else (else_laid e))))))))

  pub program_laid : (p : TreeProgram) → Laid (program_pieces p) (program_tokens p)
  program_laid (Program ls t) = lines_laid ls (tree_laid t)

  lines_laid : (ls : Lines) {ps : List Piece} {ts : List Token} → Laid ps ts → Laid (lines_pieces ls ++ ps) (lines_tokens ls ++ ts)
  lines_laid NoLines a = a
  lines_laid (MoreLines ls w t) {ps} {ts} a =
      along (sym (append_assoc (lines_pieces ls) _ ps)) (sym (append_assoc (lines_tokens ls) _ ts)) (lines_laid ls (
      word_spaced reserved.Let (token_then (token.Word w) tt (λ rest apart. (refl, refl)) (spaced (sign_spaced sign.Equal (
      along (sym (append_assoc (pieces_of t) _ ps)) (sym (append_assoc (tokens_of t) _ ts)) (both (tree_laid t) (λ rest apart. (refl, refl)) (line_end a))))))))

pub laid_reads : (p : TreeProgram) → Written (program_tokens p) → Reads (pieces_text (program_pieces p)) (program_tokens p)
laid_reads p h =
    let a = program_laid p in
    (starts_from 0 (program_pieces p), record { pieces = program_pieces p; whole = refl; fit = a.fit h [] (refl, refl); in_order = a.order; placed = refl })
