-- Values of tokens, a turn of a loop at a time.
use Rattle.std.proofs.Common.{◌≡◌, ℕ, ℤ, ◌-◌, ◌<◌, ◌≤◌, List, [], ◌∷◌, ◌++◌, length, Option, Some, None, option_map, option_and_then, Ordering, Less, Equal, Greater, nat_cmp, refl, sym, ap, ◌∙◌, append_assoc}
use Rattle.std.specs.Borrow.{Bor}
use Rattle.std.specs.BTreeMap.{insert_entry}
use Rattle.std.specs.Cmp.Lexicographic.{slice_cmp}
use Rattle.std.specs.Ordering.{match_ordering}
use Rattle.std.proofs.lemmas.Option.{same_Some}
use Rattle.json.specs.Token.{Token}
use Rattle.json.specs.Json as json
use Rattle.json.specs.Json.{Parse, parse_map, after_end_array, read_key, items, members}
use Rattle.json.proofs.Grammar.{items_end, items_more, members_end, members_more}
use Rattle.serde_json.specs.Data.{Num, Data, number, array, object, Items, no_items, item, Members, no_members, member, put}
use Rattle.serde_json.specs.Find.{as_i64}
use Rattle.serde_json.specs.Read.{converted, number_of, of_items, of_json, of_members}
use Rattle.expr_value.specs.declared.value.Value as value
use Rattle.expr_value.specs.declared.value.Value.{Value}
use Rattle.expr_encoding.specs.Reading.{pairs_of, value_of, values_of}
use Rattle.expr_encoding.specs.Tokens.{lent_pairs}

-- ---- under the conversion to data

abbrev pick : {A : Type 0} → A → Option A → A
pick d None = d
pick d (Some a) = a

found : {A B : Type 0} (a : A) (r s : List Token) (x : Option B) (b : B) → option_map {U = B × List Token} (λ y. (y, r)) x ≡ Some (b, s) → (r ≡ s) × (x ≡ Some b)
found a r s None b e = absurd (cc)
found a r s (Some y) b e = let same = ap (pick (y, r)) e in (ap (λ p. p.1) same, ap (λ p. Some p.0) same)

pub converted_some : {A B : Type 0} (f : A → Option B) (o : Option (A × List Token)) (b : B) (r : List Token) → converted f o ≡ Some (b, r) → (a : A) × (o ≡ Some (a, r)) × (f a ≡ Some b)
converted_some f None b r e = absurd (cc)
converted_some f (Some p) b r e = let both = found p.0 p.1 r (f p.0) b e in (p.0, ap (λ s. Some (p.0, s)) both.0, both.1)

twice : {A B : Type 0} (g : A → B) (r : List Token) (x : Option A) → option_map (λ b. (b, r)) (option_map g x) ≡ parse_map g (option_map (λ a. (a, r)) x)
twice g r None = refl
twice g r (Some a) = refl

pub converted-array : (o : Option (json.Items × List Token)) → converted of_json (parse_map json.array o) ≡ parse_map array (converted of_items o)
converted-array None = refl
converted-array (Some p) = twice array p.1 (of_items p.0)

pub converted-object : (o : Option (json.Members × List Token)) → converted of_json (parse_map json.object o) ≡ parse_map object (converted (λ ms. of_members ms no_members) o)
converted-object None = refl
converted-object (Some p) = twice object p.1 (of_members p.0 no_members)

with_item : (j : json.Json) (d : Data) → of_json j ≡ Some d → (o : Option (json.Items × List Token)) → converted of_items (parse_map (json.item j) o) ≡ parse_map (item d) (converted of_items o)
with_item j d e None = refl
with_item j d e (Some p) = rw e (twice (item d) p.1 (of_items p.0))

with_member : (k : List ℕ) (j : json.Json) (d : Data) (old : Members) → of_json j ≡ Some d → (o : Option (json.Members × List Token))
    → converted (λ ms. of_members ms old) (parse_map (json.member k j) o) ≡ converted (λ ms. of_members ms (put k d old)) o
with_member k j d old e None = refl
with_member k j d old e (Some p) = rw e

module _ (p : Parse json.Json) where
  pub item_read : (n : ℕ) (ts r : List Token) (d : Data) → 0 < n → after_end_array ts ≡ None → converted of_json (p ts) ≡ Some (d, r)
      → converted of_items (items p n ts) ≡ parse_map (item d) (converted of_items (items p (n - 1) r))
  item_read n ts r d some going e = let j = converted_some of_json (p ts) d r e in ap (converted of_items) (items_more p n ts r j.0 some going j.1) ∙ with_item j.0 d j.2 _

  pub items_over : (n : ℕ) (ts r : List Token) → length ts ≤ n → after_end_array ts ≡ Some r → converted of_items (items p n ts) ≡ Some (no_items, r)
  items_over n ts r enough e = ap (converted of_items) (items_end p n ts r enough e)

  module _ (old : Members) where
    pub member_read : (n : ℕ) (k : List ℕ) (ts s r : List Token) (d : Data) → 0 < n → read_key ts ≡ Some (Some k, s) → converted of_json (p s) ≡ Some (d, r)
        → converted (λ ms. of_members ms old) (members p n ts) ≡ converted (λ ms. of_members ms (put k d old)) (members p (n - 1) r)
    member_read n k ts s r d some key e =
        let j = converted_some of_json (p s) d r e in
        ap (converted (λ ms. of_members ms old)) (members_more p n k ts s r j.0 some key j.1) ∙ with_member k j.0 d old j.2 _

    pub members_over : (n : ℕ) (ts r : List Token) → length ts ≤ n → read_key ts ≡ Some (None, r) → converted (λ ms. of_members ms old) (members p n ts) ≡ Some (old, r)
    members_over n ts r enough e = ap (converted (λ ms. of_members ms old)) (members_end p n ts r enough e)

-- ---- values of data

pub array_value : (o : Option (Items × List Token)) → converted value_of (parse_map array o) ≡ parse_map value.Array (converted values_of o)
array_value None = refl
array_value (Some p) = twice value.Array p.1 (values_of p.0)

pub object_value : (o : Option (Members × List Token)) → converted value_of (parse_map object o) ≡ parse_map value.Map (converted pairs_of o)
object_value None = refl
object_value (Some p) = twice value.Map p.1 (pairs_of p.0)

integer_value : (x : Option Num) (n : ℤ) (r : List Token) → option_and_then as_i64 x ≡ Some n → converted value_of (option_map (λ d. (d, r)) (option_map number x)) ≡ Some (value.Integer n, r)
integer_value None n r e = absurd (cc)
integer_value (Some m) n r e = ap (λ o. option_map {U = Value × List Token} (λ v. (v, r)) (option_map value.Integer o)) e

pub number_value : (s : List ℕ) (n : ℤ) (r : List Token) → option_and_then as_i64 (number_of s) ≡ Some n → converted value_of (converted of_json (Some (json.number s, r))) ≡ Some (value.Integer n, r)
number_value s n r e = integer_value (number_of s) n r e

-- ---- the items of an array

pub item_value : (d : Data) (v : Value) → value_of d ≡ Some v → (o : Option (Items × List Token)) → converted values_of (parse_map (item d) o) ≡ parse_map (λ vs. v ∷ vs) (converted values_of o)
item_value d v e None = refl
item_value d v e (Some p) = rw e (twice (λ vs. v ∷ vs) p.1 (values_of p.0))

module _ {A : Type 0} where
  pub one_more : (done : List A) (a : A) (o : Option (List A × List Token)) → parse_map (λ r. done ++ r) (parse_map (λ r. a ∷ r) o) ≡ parse_map (λ r. (done ++ a ∷ []) ++ r) o
  one_more done a None = refl
  one_more done a (Some p) = ap (λ r. Some (r, p.1)) (sym (append_assoc done (a ∷ []) p.0))

-- ---- the members of an object

abbrev Pairs : Type 0
Pairs = List (List ℕ × Value)

abbrev Entry : Type 0
Entry = Bor (List ℕ) × Value

abbrev joined : List ℕ → Option Value → Option Pairs → Option Pairs
joined l w qs = option_and_then (λ x. option_map (λ ps. (l, x) ∷ ps) qs) w

pairs_of-match_ordering : (o : Ordering) (a b c : Members) → pairs_of (match_ordering o a b c) ≡ match_ordering o (pairs_of a) (pairs_of b) (pairs_of c)
pairs_of-match_ordering Less a b c = refl
pairs_of-match_ordering Equal a b c = refl
pairs_of-match_ordering Greater a b c = refl

abbrev with_pair : Ordering → List ℕ → Value → List ℕ × Value → Pairs → Pairs
with_pair o k v p rest = match_ordering o ((k, v) ∷ p ∷ rest) ((p.0, v) ∷ rest) (p ∷ insert_entry (slice_cmp nat_cmp) rest k v)

put_step : (o : Ordering) (k l : List ℕ) (v : Value) (w : Option Value) (qs more : Option Pairs) (ps : Pairs) → slice_cmp nat_cmp k l ≡ o → joined l w qs ≡ Some ps
    → ((rest : Pairs) → qs ≡ Some rest → more ≡ Some (insert_entry (slice_cmp nat_cmp) rest k v))
    → match_ordering o (joined k (Some v) (joined l w qs)) (joined l (Some v) qs) (joined l w more) ≡ Some (insert_entry (slice_cmp nat_cmp) ps k v)
put_step o k l v None qs more ps is e later = absurd (cc)
put_step o k l v (Some x) None more ps is e later = absurd (cc)
put_step Less k l v (Some x) (Some rest) more ps is e later =
    ap (λ o. Some (with_pair o k v (l, x) rest)) (sym is) ∙ ap (λ qs. Some (insert_entry (slice_cmp nat_cmp) qs k v)) (same_Some _ _ e)
put_step Equal k l v (Some x) (Some rest) more ps is e later =
    ap (λ o. Some (with_pair o k v (l, x) rest)) (sym is) ∙ ap (λ qs. Some (insert_entry (slice_cmp nat_cmp) qs k v)) (same_Some _ _ e)
put_step Greater k l v (Some x) (Some rest) more ps is e later =
    ap (joined l (Some x)) (later rest refl) ∙ ap (λ o. Some (with_pair o k v (l, x) rest)) (sym is) ∙ ap (λ qs. Some (insert_entry (slice_cmp nat_cmp) qs k v)) (same_Some _ _ e)

-- a member that is put among others puts its value among theirs
pub pairs_of-put : (k : List ℕ) (d : Data) (v : Value) → value_of d ≡ Some v → (ms : Members) (ps : Pairs) → pairs_of ms ≡ Some ps → pairs_of (put k d ms) ≡ Some (insert_entry (slice_cmp nat_cmp) ps k v)
pairs_of-put k d v h no_members ps e = ap (λ g. joined k g (Some [])) h ∙ ap (λ qs. Some (insert_entry (slice_cmp nat_cmp) qs k v)) (same_Some _ _ e)
pairs_of-put k d v h (member l e ms) ps is =
    pairs_of-match_ordering (slice_cmp nat_cmp k l) _ _ _
    ∙ ap (λ g. match_ordering (slice_cmp nat_cmp k l) (joined k g (joined l (value_of e) (pairs_of ms))) (joined l g (pairs_of ms)) (joined l (value_of e) (pairs_of (put k d ms)))) h
    ∙ put_step (slice_cmp nat_cmp k l) k l v (value_of e) (pairs_of ms) (pairs_of (put k d ms)) ps refl is (λ rest same. pairs_of-put k d v h ms rest same)

pub pairs_over : (old : Members) (ps : Pairs) (r : List Token) → pairs_of old ≡ Some ps → converted pairs_of (Some (old, r)) ≡ Some (ps, r)
pairs_over old ps r e = ap (option_map {U = Pairs × List Token} (λ qs. (qs, r))) e

lent_pairs-match_ordering : (o : Ordering) (a b c : List Entry) → lent_pairs (match_ordering o a b c) ≡ match_ordering o (lent_pairs a) (lent_pairs b) (lent_pairs c)
lent_pairs-match_ordering Less a b c = refl
lent_pairs-match_ordering Equal a b c = refl
lent_pairs-match_ordering Greater a b c = refl

pub lent_pairs-insert_entry : (es : List Entry) (k : Bor (List ℕ)) (v : Value) → lent_pairs (insert_entry (λ x y. slice_cmp nat_cmp x.now y.now) es k v) ≡ insert_entry (slice_cmp nat_cmp) (lent_pairs es) k.now v
lent_pairs-insert_entry [] k v = refl
lent_pairs-insert_entry (e ∷ es) k v =
    lent_pairs-match_ordering (slice_cmp nat_cmp k.now e.0.now) _ _ _
    ∙ ap (λ rest. match_ordering (slice_cmp nat_cmp k.now e.0.now) ((k.now, v) ∷ (e.0.now, e.1) ∷ lent_pairs es) ((e.0.now, v) ∷ lent_pairs es) ((e.0.now, e.1) ∷ rest)) (lent_pairs-insert_entry es k v)
