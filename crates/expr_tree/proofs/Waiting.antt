-- Names gathered from nodes that wait, one after another.
use Rattle.std.proofs.Common.{◌≡◌, ◌≢◌, ℕ, ◌<◌, Bool, true, false, ◌||◌, List, [], ◌∷◌, ◌++◌, Result, Ok, Err, OnOk, bytes_eq, refl, sym, ap, ◌∙◌, append_assoc, arith}
use Rattle.std.specs.Borrow.{Bor}
use Rattle.std.specs.Cmp.Lexicographic.{slice_cmp}
use Rattle.std.specs.List.{list_any, Contains}
use Rattle.std.specs.List.Sorted.{IsStrictlySortedBy}
use Rattle.std.specs.Ordering.{nat_cmp}
use Rattle.std.proofs.lemmas.Bool.{false≢true, false_from_ne_true}
use Rattle.std.proofs.lemmas.List.{append-nil, map-append}
use Rattle.std.proofs.lemmas.List.Folds.{list_any-append}
use Rattle.std.proofs.lemmas.Slice.Eq.{bytes_eq-Decides}
use Rattle.expr_tree.specs.Children.{children, block_children, own_name}
use Rattle.expr_tree.specs.LentChildren.{lent_terms}
use Rattle.expr_tree.specs.Names.{env, operands, block_operands, with_names, AreNamesOf}
use Rattle.expr_tree.specs.Term.{Term, Block}
use Rattle.expr_tree.specs.TermOf.{term_of}
use Rattle.expr_tree.specs.declared.node.Node.{Node}
use Rattle.expr_tree.proofs.NodeChildren.{operands_of, weight_of, operands_of-append, weight_of-append, operands-block, operands-inside, weight-inside}
use Rattle.expr_tree.proofs.Gathered.{or_true}
use Rattle.expr_tree.proofs.Rising.{all-other, all-env, or_false, Contains-from_has, has-from_Contains}

abbrev Bytes : Type 0
Bytes = List ℕ

abbrev has : Bytes → List Bytes → Bool
has n xs = list_any (bytes_eq n) xs

-- the names so far and those of the trees that wait are those of the program, `$env` aside
pub record Gathers (names : List Bytes) (ws : List Term) (b : Block) : Type 0 where
  pub others : (q : Bytes) → bytes_eq q env ≡ false → (has q (operands_of ws) || has q names) ≡ has q (block_operands b)
  pub no_env : has env names ≡ false

pub gathers_at_first : (names : List Bytes) (ws : List Term) (b : Block) → names ≡ [] → ws ≡ block_children b → Gathers names ws b
gathers_at_first names ws b none all =
    record {
      others = λ q other. (λ i. has q (operands_of (all i)) || has q (none i)) ∙ or_false (has q (operands_of (block_children b))) ∙ ap (has q) (sym (operands-block b));
      no_env = ap (has env) none;
    }

or_gathered : (r c o n : Bool) → ((r || c) || (o || n)) ≡ ((r || (o || c)) || n)
or_gathered true c o n = refl
or_gathered false true true n = refl
or_gathered false true false n = refl
or_gathered false false true n = refl
or_gathered false false false n = refl

-- a name is in trees whose last is taken, if it is in the others, is that tree, or is in its children
popped_has : (ws left : List Term) (t : Term) → ws ≡ left ++ t ∷ [] → (q : Bytes)
    → has q (operands_of ws) ≡ (has q (operands_of left) || (has q (own_name t) || has q (operands_of (children t))))
popped_has ws left t popped q =
    ap (λ l. has q (operands_of l)) popped ∙ ap (has q) (operands_of-append left (t ∷ []) ∙ ap (λ l. operands_of left ++ l) (append-nil (operands t) ∙ operands-inside t))
    ∙ list_any-append (bytes_eq q) (operands_of left) (own_name t ++ operands_of (children t))
    ∙ ap (λ x. has q (operands_of left) || x) (list_any-append (bytes_eq q) (own_name t) (operands_of (children t)))

module _ (names next : List Bytes) (ws left more : List Term) (t : Term) (b : Block) where
  pub gathers_next : Gathers names ws b → ws ≡ left ++ t ∷ [] → next ≡ with_names names (own_name t) → more ≡ left ++ children t → Gathers next more b
  gathers_next g popped named pushed = record { others = others; no_env = ap (has env) named ∙ all-env names (own_name t) ∙ g.no_env }
    where
      after : (q : Bytes) → bytes_eq q env ≡ false → (has q (operands_of more) || has q next) ≡ ((has q (operands_of left) || has q (operands_of (children t))) || (has q (own_name t) || has q names))
      after q other =
          (λ i. has q (operands_of (pushed i)) || has q (named i))
          ∙ (λ i. (ap (has q) (operands_of-append left (children t)) ∙ list_any-append (bytes_eq q) (operands_of left) (operands_of (children t))) i || all-other q names (own_name t) other i)

      others : (q : Bytes) → bytes_eq q env ≡ false → (has q (operands_of more) || has q next) ≡ has q (block_operands b)
      others q other =
          after q other ∙ or_gathered (has q (operands_of left)) (has q (operands_of (children t))) (has q (own_name t)) (has q names)
          ∙ ap (λ x. x || has q names) (sym (popped_has ws left t popped q)) ∙ g.others q other

-- `$env` is in the trees that wait, if it is in the program
abbrev pub Seeks : List Term → Block → Type 0
Seeks ws b = has env (operands_of ws) ≡ has env (block_operands b)

pub seeks_at_first : (ws : List Term) (b : Block) → ws ≡ block_children b → Seeks ws b
seeks_at_first ws b all = ap (λ l. has env (operands_of l)) all ∙ ap (has env) (sym (operands-block b))

-- once none waits, it is nowhere
pub sought_in_vain : (ws : List Term) (b : Block) → Seeks ws b → ws ≡ [] → has env (block_operands b) ≡ false
sought_in_vain ws b s none = sym s ∙ ap (λ l. has env (operands_of l)) none

module _ (ws left more : List Term) (t : Term) where
  pub weight_falls : ws ≡ left ++ t ∷ [] → more ≡ left ++ children t → weight_of more < weight_of ws
  weight_falls popped pushed =
      omega (arith, ap weight_of popped, weight_of-append left (t ∷ []), ap weight_of pushed, weight_of-append left (children t), weight-inside t)

  pub seeks_next : (b : Block) → Seeks ws b → ws ≡ left ++ t ∷ [] → has env (own_name t) ≡ false → more ≡ left ++ children t → Seeks more b
  seeks_next b s popped other pushed =
      ap (λ l. has env (operands_of l)) pushed ∙ ap (has env) (operands_of-append left (children t)) ∙ list_any-append (bytes_eq env) (operands_of left) (operands_of (children t))
      ∙ sym (popped_has ws left t popped env ∙ ap (λ x. has env (operands_of left) || (x || has env (operands_of (children t)))) other) ∙ s

-- one of them is `$env`
pub sought_found : (ws left : List Term) (t : Term) (b : Block) → Seeks ws b → ws ≡ left ++ t ∷ [] → has env (own_name t) ≡ true → has env (block_operands b) ≡ true
sought_found ws left t b s popped here =
    sym s ∙ popped_has ws left t popped env ∙ ap (λ x. has env (operands_of left) || (x || has env (operands_of (children t)))) here ∙ or_true (has env (operands_of left))

-- once none waits, the names so far are the program's
pub gathered_names : (names : List Bytes) (ws : List Term) (b : Block) → IsStrictlySortedBy (slice_cmp nat_cmp) names → Gathers names ws b → ws ≡ [] → AreNamesOf names b
gathered_names names ws b sorted g none = record { ascending = sorted; exact = λ n. (there n, back n) }
  where
    same : (n : Bytes) → bytes_eq n env ≡ false → has n names ≡ has n (block_operands b)
    same n other = ap (λ l. has n (operands_of l) || has n names) (sym none) ∙ g.others n other

    there : (n : Bytes) → Contains names n → Contains (block_operands b) n × (n ≢ env)
    there n h =
        let here : has n names ≡ true = has-from_Contains n names h in
        let not_env : n ≢ env = λ e. false≢true (sym g.no_env ∙ ap (λ m. has m names) (sym e) ∙ here) in
        let other : bytes_eq n env ≡ false = false_from_ne_true (bytes_eq n env) (λ e. not_env ((bytes_eq-Decides n env).0 e)) in
        (Contains-from_has n (block_operands b) (sym (same n other) ∙ here), not_env)

    back : (n : Bytes) → Contains (block_operands b) n × (n ≢ env) → Contains names n
    back n h =
        let other : bytes_eq n env ≡ false = false_from_ne_true (bytes_eq n env) (λ e. h.1 ((bytes_eq-Decides n env).0 e)) in
        Contains-from_has n names (same n other ∙ has-from_Contains n (block_operands b) h.0)

pub lent-push : (ns : List (Bor Node)) (n : Bor Node) → lent_terms (ns ++ n ∷ []) ≡ lent_terms ns ++ term_of n.now ∷ []
lent-push ns n = map-append (λ (x : Bor Node). term_of x.now) ns (n ∷ [])

-- some trees wait, and then some more
pub then_more : {E : Type 0} (r : Result (Unit {0}) E) (old mid new xs ys all : List Term) → all ≡ xs ++ ys → mid ≡ old ++ xs → OnOk r (new ≡ mid ++ ys) → OnOk r (new ≡ old ++ all)
then_more (Ok u) old mid new xs ys all whole first rest = rest ∙ ap (λ m. m ++ ys) first ∙ append_assoc old xs ys ∙ ap (λ l. old ++ l) (sym whole)
then_more (Err e) old mid new xs ys all whole first rest = tt
