use Rattle.std.proofs.Common.{◌≡◌, List, [], ◌∷◌, ◌++◌, map, Result, OnOk, sym, ap, ◌∙◌, append_assoc}
use Rattle.std.proofs.lemmas.List.{append-nil}
use Rattle.expr_tree.specs.LentChildren.{lent_terms, maybe_child, maybe_children}
use Rattle.expr_tree.specs.Term.{Term}
use Rattle.expr_tree.specs.TermOf.{term_of}
use Rattle.expr_tree.proofs.Waiting.{lent-push, then_more}
use Rattle.expr_tree.proofs.names.wait_for_children.Goals as goal

-- some trees wait, then more, and then the last
then_last : {E : Type 0} (r : Result (Unit {0}) E) (old one two new xs ys zs all : List Term) → xs ++ (ys ++ zs) ≡ all → one ≡ old ++ xs → two ≡ one ++ ys → OnOk r (new ≡ two ++ zs) → OnOk r (new ≡ old ++ all)
then_last r old one two new xs ys zs all whole first second last =
    then_more r old two new (xs ++ ys) zs all (sym whole ∙ sym (append_assoc xs ys zs)) (second ∙ ap (λ m. m ++ ys) first ∙ append_assoc old xs ys) last

pub returns-in_ok-wait_for-in-Nodes-2 : goal.returns-in_ok-wait_for-in-Nodes-2
returns-in_ok-wait_for-in-Nodes-2 c =
    then_last c.wait_for-in-Nodes-2.result _ _ _ _ _ _ _ _ c.in-Nodes.ensures.children c.in_ok-wait_for-in-Nodes.ensures c.in_ok-wait_for-in-Nodes-2.ensures c.wait_for-in-Nodes-2.ensures

pub returns-in-None : goal.returns-in-None
returns-in-None c =
    let first = maybe_child c.in-Items.first in
    let items = map term_of c.in-Items.items.now in
    c.in_ok-wait_for_all-in-Items.ensures ∙ ap (λ m. m ++ items) c.in_ok-wait_for-in-Items.ensures ∙ append_assoc _ first items
    ∙ ap (λ ts. lent_terms c.args.waiting.now.items ++ ts) (ap (λ ts. first ++ ts) (sym (append-nil items) ∙ ap (λ p. items ++ maybe_children p) (sym c.in-None.is)) ∙ c.in-Items.ensures.children)

pub returns-in-Some : goal.returns-in-Some
returns-in-Some c =
    then_last c.wait_for_program.result _ _ _ _ _ _ _ _ (ap (λ p. maybe_child c.in-Items.first ++ (map term_of c.in-Items.items.now ++ maybe_children p)) (sym c.in-Some.is) ∙ c.in-Items.ensures.children)
    c.in_ok-wait_for-in-Items.ensures c.in_ok-wait_for_all-in-Items.ensures c.wait_for_program.ensures

pub returns-in_ok-wait_for_program-in-Choice : goal.returns-in_ok-wait_for_program-in-Choice
returns-in_ok-wait_for_program-in-Choice c =
    then_last c.wait_for_program-in-Choice-2.result _ _ _ _ (term_of c.in-Choice.condition.now ∷ []) _ _ _ c.in-Choice.ensures.children
    (ap lent_terms c.in_ok-push-in-Choice.ensures.items ∙ lent-push c.args.waiting.now.items _) c.in_ok-wait_for_program-in-Choice.ensures c.wait_for_program-in-Choice-2.ensures
