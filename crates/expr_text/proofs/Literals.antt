-- Literals: their texts, whether they have one, and their steps.
use Rattle.std.proofs.Common.{◌≡◌, ℕ, ◌+◌, ℤ, pos, negsuc, nat_lt, Bool, true, false, not, ◌&&◌, ◌||◌, List, [], ◌∷◌, ◌++◌, map, codes, bytes_eq, refl, sym, ap, ◌∙◌, append_assoc, append-nil, arith}
use Rattle.std.specs.Fmt.{signed_decimal}
use Rattle.std.specs.List.{list_all, list_any, AllByRecursion, IsDistinct}
use Rattle.std.proofs.lemmas.Bool.{and_from}
use Rattle.std.proofs.lemmas.Map.Keys.{IsDistinct-head, IsDistinct-tail}
use Rattle.std.specs.Map.{keys_of, values_of}
use Rattle.expr_error.specs.Quoted.{quoted_text}
use Rattle.expr_tokens.proofs.Readings.{pieces_text-append}
use Rattle.expr_tokens.proofs.Such.{with_each}
use Rattle.expr_tokens.specs.Printed.{are_distinct}
use Rattle.expr_tokens.specs.Grammar.{Tree, EntryRow, OneEntry, MoreEntries}
use Rattle.expr_tokens.specs.declared.sign.Sign.TheVariants as sign
use Rattle.expr_tokens.specs.Reading.{pieces_text}
use Rattle.expr_value.specs.declared.value.Value.{Value, roll-Value, map-Value, fold-roll-Value}
use Rattle.expr_value.specs.declared.value.Value.TheOpen.{Value-F}
use Rattle.expr_value.specs.declared.value.Value.TheVariants as value
use Rattle.expr_tree.specs.Term.{literal}
use Rattle.expr_text.specs.Layout.{bytes_text, signed, pieces_of, entry_row_pieces}
use Rattle.expr_text.specs.Parts.{written_literal, members_text, members_stand, written_key, stands}
use Rattle.expr_text.specs.Steps.{member_steps, literal_steps, literal_steps_layer, values_steps}
use Rattle.expr_text.specs.Texts.{literal_has_text, literal_has_text_layer, is_literal}
use Rattle.expr_text.specs.Trees.{literal_tree, literal_layer, printed_key, entry_row_from}
use Rattle.expr_text.proofs.Wording.{entry_text}

-- one layer of each
text_layer : (y : Value-F Value) → written_literal (roll-Value y) ≡ pieces_text (pieces_of (literal_layer (map-Value Value Tree literal_tree y)))
text_layer y = ap (λ (t : Tree). pieces_text (pieces_of t)) (fold-roll-Value Tree literal_layer y)

stand_layer : (y : Value-F Value) → literal_has_text (roll-Value y) ≡ literal_has_text_layer (map-Value Value Bool literal_has_text y)
stand_layer y = fold-roll-Value Bool literal_has_text_layer y

steps_layer : (y : Value-F Value) → literal_steps (roll-Value y) ≡ literal_steps_layer (map-Value Value ℕ literal_steps y)
steps_layer y = fold-roll-Value ℕ literal_steps_layer y

-- what a literal of one part comes to
pub record Simple (v : Value) (whole : List ℕ) : Type 0 where
  pub text : whole ≡ written_literal v
  pub stand : true ≡ literal_has_text v
  pub steps : literal_steps v ≡ 10

simple : (y : Value-F Value) (text : List ℕ) → text ≡ pieces_text (pieces_of (literal_layer (map-Value Value Tree literal_tree y)))
    → true ≡ literal_has_text_layer (map-Value Value Bool literal_has_text y) → literal_steps_layer (map-Value Value ℕ literal_steps y) ≡ 10 → Simple (roll-Value y) text
simple y text a b c = record { text = a ∙ sym (text_layer y); stand = b ∙ sym (stand_layer y); steps = steps_layer y ∙ c }

pub simple_nil : Simple value.Nil (codes "nil")
unfolding roll-Value denote.Hole.Carrier.roll
simple_nil = simple Value-F.Nil (codes "nil") refl refl refl

pub simple_true : Simple (value.Bool true) (codes "true")
unfolding roll-Value denote.Hole.Carrier.roll
simple_true = simple (Value-F.Bool true) (codes "true") refl refl refl

pub simple_false : Simple (value.Bool false) (codes "false")
unfolding roll-Value denote.Hole.Carrier.roll
simple_false = simple (Value-F.Bool false) (codes "false") refl refl refl

pub simple_string : (s : List ℕ) → Simple (value.String s) (quoted_text s)
unfolding roll-Value denote.Hole.Carrier.roll
simple_string s = simple (Value-F.String s) (quoted_text s) (sym (append-nil (quoted_text s))) refl refl

pub simple_bytes : (bs : List ℕ) → list_all (λ b. nat_lt b 256) bs ≡ true → Simple (value.Bytes bs) (bytes_text bs)
unfolding roll-Value denote.Hole.Carrier.roll
simple_bytes bs h = simple (Value-F.Bytes bs) (bytes_text bs) (sym (append-nil (bytes_text bs))) (sym h) refl

pub simple_integer : (n : ℕ) → is_literal (pos n) ≡ true → Simple (value.Integer (pos n)) (signed_decimal (pos n))
unfolding roll-Value denote.Hole.Carrier.roll
simple_integer n h = simple (Value-F.Integer (pos n)) (signed_decimal (pos n)) (sym (append-nil (signed_decimal (pos n)))) (sym h) refl

-- what no literal is
pub negative : (n : ℕ) → literal_has_text (value.Integer (negsuc n)) ≡ false
unfolding roll-Value denote.Hole.Carrier.roll
negative n = stand_layer (Value-F.Integer (negsuc n))

-- a string literal stands anywhere
pub string_stands : (f : Bool) (s : List ℕ) → stands f (literal (value.String s)) ≡ true
string_stands f s = sym (simple_string s).stand

-- maps
members_row : (m : List (List ℕ × Value)) (r : EntryRow)
    → pieces_text (entry_row_pieces (entry_row_from (with_each literal_tree m) r)) ≡ pieces_text (entry_row_pieces r) ++ members_text false (keys_of m) (values_of m)
members_row [] r = sym (append-nil _)
members_row (p ∷ m) r =
    let before = pieces_text (entry_row_pieces r) in
    let inside = written_literal p.1 in
    let rest = members_text false (keys_of m) (values_of m) in
    let moved : (before ++ (codes ", " ++ (written_key p.0 ++ (codes ": " ++ inside)))) ++ rest ≡ before ++ (codes ", " ++ (written_key p.0 ++ (codes ": " ++ (inside ++ rest)))) = simp append_assoc in
    members_row m (MoreEntries r (printed_key p.0) (literal_tree p.1))
    ∙ ap (λ s. s ++ rest) (pieces_text-append (entry_row_pieces r) _ ∙ ap (λ s. before ++ (codes ", " ++ s)) (entry_text p.0 (literal_tree p.1)))
    ∙ moved

map_layer : (m : List (List ℕ × Value)) → pieces_text (pieces_of (literal_layer (Value-F.Map (with_each literal_tree m)))) ≡ codes "{" ++ (members_text true (keys_of m) (values_of m) ++ codes "}")
map_layer [] = refl
map_layer (p ∷ m) =
    let inside = written_literal p.1 in
    let rest = members_text false (keys_of m) (values_of m) in
    let row = entry_row_from (with_each literal_tree m) (OneEntry (printed_key p.0) (literal_tree p.1)) in
    let moved : (written_key p.0 ++ (codes ": " ++ inside)) ++ rest ≡ written_key p.0 ++ (codes ": " ++ (inside ++ rest)) = simp append_assoc in
    ap (λ l. 123 ∷ l) (
    pieces_text-append (entry_row_pieces row ++ []) (signed sign.BraceClose ∷ [])
    ∙ ap (λ l. l ++ codes "}") (
    pieces_text-append (entry_row_pieces row) [] ∙ append-nil _ ∙ members_row m _ ∙ ap (λ s. s ++ rest) (entry_text p.0 (literal_tree p.1)) ∙ moved
    ))

pub members_literal : (m : List (List ℕ × Value)) → written_literal (value.Map m) ≡ codes "{" ++ (members_text true (keys_of m) (values_of m) ++ codes "}")
unfolding roll-Value denote.Hole.Carrier.roll
members_literal m = text_layer (Value-F.Map m) ∙ map_layer m

all_values : (m : List (List ℕ × Value)) → list_all (λ (p : List ℕ × Bool). p.1) (with_each literal_has_text m) ≡ members_stand (keys_of m) (values_of m)
all_values [] = refl
all_values (p ∷ m) = ap (λ b. literal_has_text p.1 && b) (all_values m)

keys_kept : (m : List (List ℕ × Value)) → keys_of (with_each literal_has_text m) ≡ keys_of m
keys_kept [] = refl
keys_kept (p ∷ m) = ap (λ ks. p.0 ∷ ks) (keys_kept m)

pub map_members_stand : (m : List (List ℕ × Value)) → are_distinct (keys_of m) ≡ true → literal_has_text (value.Map m) ≡ members_stand (keys_of m) (values_of m)
unfolding roll-Value denote.Hole.Carrier.roll
map_members_stand m distinct = stand_layer (Value-F.Map m) ∙ (λ i. (ap are_distinct (keys_kept m) ∙ distinct) i && all_values m i)

all_steps : (m : List (List ℕ × Value)) → member_steps (with_each literal_steps m) ≡ values_steps (values_of m)
all_steps [] = refl
all_steps (p ∷ m) = ap (λ n. 10 + (literal_steps p.1 + n)) (all_steps m)

pub members_steps : (m : List (List ℕ × Value)) → literal_steps (value.Map m) ≡ 10 + values_steps (values_of m)
unfolding roll-Value denote.Hole.Carrier.roll
members_steps m = steps_layer (Value-F.Map m) ∙ ap (λ n. 10 + n) (all_steps m)

-- distinct keys
none_equal : (k : List ℕ) (ks : List (List ℕ)) → AllByRecursion (λ y. bytes_eq k y ≡ false) ks → not (list_any (bytes_eq k) ks) ≡ true
none_equal k [] h = refl
none_equal k (j ∷ ks) h = ap (λ b. not (b || list_any (bytes_eq k) ks)) h.0 ∙ none_equal k ks h.1

pub distinct_keys : (ks : List (List ℕ)) → IsDistinct bytes_eq ks → are_distinct ks ≡ true
distinct_keys [] h = refl
distinct_keys (k ∷ ks) h = and_from _ _ (none_equal k ks (IsDistinct-head bytes_eq k ks h)) (distinct_keys ks (IsDistinct-tail bytes_eq k ks h))
