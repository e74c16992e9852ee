-- Names that are gathered in a set.
use Rattle.std.proofs.Common.{◌≡◌, Bool, true, false, ◌||◌, List, [], ◌∷◌, ◌++◌, map, Global, String, string_bytes, bytes_eq, refl, sym, ap, ◌∙◌, subst}
use Rattle.std.specs.BTreeSet.{insert_key}
use Rattle.std.specs.List.Sorted.{IsStrictlySortedBy}
use Rattle.std.specs.String.{string_cmp}
use Rattle.std.proofs.lemmas.List.Folds.{list_any-append}
use Rattle.expr_tree.proofs.Rising.{Bytes, cmp, has, has-insert, has-from_Contains, Contains-from_has, sorted_bytes}
use Rattle.expr_rules.specs.Needs.{AreDistinct}
use Rattle.expr_rules.specs.Tasks.{HasSame}

or_last : (a b : Bool) → (a || b) ≡ (b || (a || false))
or_last true true = refl
or_last true false = refl
or_last false true = refl
or_last false false = refl

pub one_more : (keys more : List (String Global)) (seen : List Bytes) (n : Bytes) → HasSame keys seen → IsStrictlySortedBy string_cmp more → map string_bytes more ≡ insert_key cmp (map string_bytes keys) n → HasSame more (seen ++ n ∷ [])
one_more keys more seen n h sorted is = (
  sorted,
  λ q.
      ap (has q) is ∙ has-insert q n (map string_bytes keys) ∙ ap (λ b. bytes_eq q n || b) (h.1 q) ∙ or_last (bytes_eq q n) (has q seen) ∙ sym (list_any-append (bytes_eq q) seen (n ∷ [])),
)

pub distinct_names : (keys : List (String Global)) (seen names : List Bytes) → HasSame keys seen → names ≡ map string_bytes keys → AreDistinct names seen
distinct_names keys seen names h is = record {
  ascending = subst (IsStrictlySortedBy cmp) (sym is) (sorted_bytes keys h.0);
  exact = λ n. (
    (λ k. Contains-from_has n seen (sym (ap (has n) is ∙ h.1 n) ∙ has-from_Contains n names k)),
    (λ k. Contains-from_has n names (ap (has n) is ∙ h.1 n ∙ has-from_Contains n seen k)),
  );
}
