-- Lists and lines of which the first is put apart.
use Rattle.std.proofs.Common.{◌≡◌, ℕ, ◌+◌, ◌⊎◌, inl, inr, List, [], ◌∷◌, ◌++◌, length, map, Bor, Option, None, Global, String, string_bytes, refl, sym, ap, ◌∙◌, subst, append_assoc, arith}
use Rattle.std.specs.declared.boxed.Box.{Box}
use Rattle.expr_text.specs.Steps.{term_steps, items_steps, pairs_steps, block_steps, predicate_steps, bound_steps}
use Rattle.expr_tree.specs.Term.{term_pairs, block_with}
use Rattle.expr_tree.specs.TermOf.{term_of, terms_of, line_term, predicate_term, bound_term}
use Rattle.expr_tree.specs.declared.node.Node.{Node}
use Rattle.expr_tree.specs.declared.node.Node.TheVariants as node
use Rattle.expr_value.specs.declared.value.Value.{Value}
use Rattle.expr_tree.proofs.Shapes.{term_of-Ident, term_of-Value}
use Rattle.expr_tree.specs.declared.node.Program.{Program}
use Rattle.expr_rules.specs.Needs.{asked_by, asked_by_all, asked_by_pairs, asked_by_block, asked_by_bound, asked_by_predicate, behind_line}
use Rattle.expr_rules.specs.Tasks.{Keys, hidden, parts_asked, pending_asked, tasks_steps, PutsTasks, PutsFewer}
use Rattle.expr_rules.specs.declared.needs.NeedKind.{NeedKind}
use Rattle.expr_rules.specs.declared.tasks.Task.{Task}
use Rattle.expr_rules.specs.declared.tasks.Task.TheVariants as task
use Rattle.expr_rules.proofs.Hiding.{hidden-append, hidden-push, outer-push}
use Rattle.expr_rules.proofs.Tasking.{pending_asked-push, tasks_steps-push, then_put, fewer_put, none_put}

nil_of : {X : Type 0} (xs : List X) → length xs ≡ 0 → xs ≡ []
nil_of [] none = refl
nil_of (x ∷ xs) none = absurd (omega (arith, none))

pub no_items : (old : List Task) (ns : List Node) → length ns ≡ 0 → PutsFewer old old (λ a. asked_by_all a (terms_of (map term_of ns))) (items_steps (terms_of (map term_of ns)))
no_items old ns none = subst (λ (l : List Node). PutsFewer old old (λ a. asked_by_all a (terms_of (map term_of l))) (items_steps (terms_of (map term_of l)))) (sym (nil_of ns none)) (fewer_put (none_put old 0) (λ a. refl) (omega arith))

pub no_pairs : (old : List Task) (ps : List (String Global × Node)) → length ps ≡ 0 → PutsFewer old old (λ a. asked_by_pairs a (term_pairs (map line_term ps))) (pairs_steps (term_pairs (map line_term ps)))
no_pairs old ps none = subst (λ (l : List (String Global × Node)). PutsFewer old old (λ a. asked_by_pairs a (term_pairs (map line_term l))) (pairs_steps (term_pairs (map line_term l)))) (sym (nil_of ps none)) (fewer_put (none_put old 0) (λ a. refl) (omega arith))

-- a node without parts
pub leaf_put : (old : List Task) (n : Node) → ((s : String Global) × (n ≡ node.Ident s)) ⊎ ((v : Value) × (n ≡ node.Value v)) → PutsFewer old old (λ a. parts_asked a (term_of n)) (term_steps (term_of n))
leaf_put old n (inl (s, is)) = subst (λ t. PutsFewer old old (λ a. parts_asked a t) (term_steps t)) (sym (ap term_of is ∙ term_of-Ident s)) (fewer_put (none_put old 0) (λ a. refl) (omega arith))
leaf_put old n (inr (v, is)) = subst (λ t. PutsFewer old old (λ a. parts_asked a t) (term_steps t)) (sym (ap term_of is ∙ term_of-Value v)) (fewer_put (none_put old 0) (λ a. refl) (omega arith))

pub no_predicate_put : (old : List Task) (p : Option (Box Program Global)) → p ≡ None → PutsTasks old old (λ a. asked_by_predicate a (predicate_term p)) (predicate_steps (predicate_term p))
no_predicate_put old p none = subst (λ (q : Option (Box Program Global)). PutsTasks old old (λ a. asked_by_predicate a (predicate_term q)) (predicate_steps (predicate_term q))) (sym none) (none_put old 5)

pub no_bound_put : (old : List Task) (b : Option (Box Node Global)) → b ≡ None → PutsTasks old old (λ a. asked_by_bound a (bound_term b)) (bound_steps (bound_term b))
no_bound_put old b none = subst (λ (q : Option (Box Node Global)). PutsTasks old old (λ a. asked_by_bound a (bound_term q)) (bound_steps (bound_term q))) (sym none) (none_put old 5)

-- the first, and the others
module _ {old mid new : List Task} where
  pub items_split : (ns rest : List Node) (n : Node) → ns ≡ n ∷ rest → PutsTasks old mid (λ a. asked_by_all a (terms_of (map term_of rest))) (items_steps (terms_of (map term_of rest)))
      → PutsTasks mid new (λ a. asked_by a (term_of n)) (term_steps (term_of n)) → PutsFewer old new (λ a. asked_by_all a (terms_of (map term_of ns))) (items_steps (terms_of (map term_of ns)))
  items_split ns rest n is f g = subst (λ (l : List Node). PutsFewer old new (λ a. asked_by_all a (terms_of (map term_of l))) (items_steps (terms_of (map term_of l)))) (sym is) (fewer_put (then_put f g) (λ a. refl) (omega arith))

  pub pairs_split : (ps rest : List (String Global × Node)) (p : String Global × Node) → ps ≡ p ∷ rest → PutsTasks old mid (λ a. asked_by_pairs a (term_pairs (map line_term rest))) (pairs_steps (term_pairs (map line_term rest)))
      → PutsTasks mid new (λ a. asked_by a (term_of p.1)) (term_steps (term_of p.1)) → PutsFewer old new (λ a. asked_by_pairs a (term_pairs (map line_term ps))) (pairs_steps (term_pairs (map line_term ps)))
  pairs_split ps rest p is f g = subst (λ (l : List (String Global × Node)). PutsFewer old new (λ a. asked_by_pairs a (term_pairs (map line_term l))) (pairs_steps (term_pairs (map line_term l)))) (sym is) (fewer_put (then_put f g) (λ a. refl) (omega arith))

-- the value of a line, and what is behind it under the line's name
module _ (old one two three new : List Task) (key : Bor (List ℕ)) (rest : Bor (List (String Global × Node))) (last : Bor Node) (l : String Global × Node)
    (unbind : one ≡ old ++ task.Unbind ∷ []) (lines : two ≡ one ++ task.Lines rest last ∷ []) (bind : three ≡ two ++ task.Bind key ∷ []) (named : key.now ≡ string_bytes l.0)
    (value : PutsTasks three new (λ a. asked_by a (term_of l.1)) (term_steps (term_of l.1))) where
  abbrev behind : NeedKind → Keys
  behind a = asked_by_block a (block_with (map line_term rest.now) (term_of last.now))

  pub line_split : (ls : List (String Global × Node)) → ls ≡ l ∷ rest.now → PutsFewer old new (λ a. asked_by_block a (block_with (map line_term ls) (term_of last.now))) (block_steps (block_with (map line_term ls) (term_of last.now)))
  line_split ls is = subst (λ (m : List (String Global × Node)). PutsFewer old new (λ a. asked_by_block a (block_with (map line_term m) (term_of last.now))) (block_steps (block_with (map line_term m) (term_of last.now)))) (sym is) (record {
    asked = λ a after scope.
        let inner = scope ++ key.now ∷ [] in
        let v = asked_by a (term_of l.1) in
        let k = string_bytes l.0 in
        value.asked a after scope ∙ ap (λ m. hidden a scope v ++ m) (
        ap (λ ts. pending_asked a ts after scope) bind ∙ ap (λ f. f scope) (pending_asked-push a two (task.Bind key) after)
        ∙ ap (λ ts. pending_asked a ts after inner) lines ∙ ap (λ f. f inner) (pending_asked-push a one (task.Lines rest last) after)
        ∙ ap (λ m. hidden a inner (behind a) ++ m) (ap (λ ts. pending_asked a ts after inner) unbind ∙ ap (λ f. f inner) (pending_asked-push a old task.Unbind after) ∙ ap (pending_asked a old after) (outer-push scope key.now))
        ∙ ap (λ m. m ++ pending_asked a old after scope) (hidden-push a scope key.now (behind a) ∙ ap (λ n. hidden a scope (behind_line a n (behind a))) named)
        )
        ∙ sym (append_assoc (hidden a scope v) (hidden a scope (behind_line a k (behind a))) (pending_asked a old after scope))
        ∙ ap (λ m. m ++ pending_asked a old after scope) (sym (hidden-append a scope v (behind_line a k (behind a))));
    fewer =
        let first : tasks_steps one ≡ 1 + tasks_steps old = ap tasks_steps unbind ∙ tasks_steps-push old task.Unbind in
        let second : tasks_steps two ≡ block_steps (block_with (map line_term rest.now) (term_of last.now)) + tasks_steps one = ap tasks_steps lines ∙ tasks_steps-push one (task.Lines rest last) in
        let third : tasks_steps three ≡ 1 + tasks_steps two = ap tasks_steps bind ∙ tasks_steps-push two (task.Bind key) in
        omega (arith, first, second, third, value.count);
  })
