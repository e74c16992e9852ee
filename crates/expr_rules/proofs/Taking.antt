-- Tasks that are taken up.
use Rattle.std.proofs.Common.{◌≡◌, ◌↔◌, ℕ, ◌<◌, List, [], ◌∷◌, ◌++◌, length, Option, None, Some, IsSome, Bor, refl, sym, ap, ◌∙◌, append_assoc, append-nil, arith}
use Rattle.std.specs.Option.{option_to_list}
use Rattle.std.proofs.lemmas.Bool.{false≢true}
use Rattle.std.proofs.lemmas.List.{map-append}
use Rattle.expr_text.specs.Steps.{term_steps}
use Rattle.expr_tree.specs.Term.{Term, name, literal, list, mapping, range, call, unary, operation, postfix, choice}
use Rattle.expr_tree.specs.TermOf.{term_of}
use Rattle.expr_tree.specs.declared.node.Node.{Node}
use Rattle.expr_rules.specs.Needs.{asked_by, by_name}
use Rattle.expr_rules.specs.Tasks.{Keys, hidden, nothing, outer, asked_then, pending_asked, own_asked, parts_asked, task_steps, PutsFewer, TakesUp}
use Rattle.expr_rules.specs.declared.needs.NeedKind.{NeedKind}
use Rattle.expr_rules.specs.declared.tasks.Task.{Task}
use Rattle.expr_rules.specs.declared.tasks.Task.TheVariants as task
use Rattle.expr_rules.proofs.Hiding.{hidden-append, outer-push}
use Rattle.expr_rules.proofs.Walking.{keys}

own_and_parts : (a : NeedKind) (t : Term) → own_asked a t ++ parts_asked a t ≡ asked_by a t
own_and_parts a (name key) = append-nil (by_name a key)
own_and_parts a (literal v) = refl
own_and_parts a (list ts) = refl
own_and_parts a (mapping ps) = refl
own_and_parts a (range first last) = refl
own_and_parts a (call key ts p) = refl
own_and_parts a (unary o t) = refl
own_and_parts a (operation o l r) = refl
own_and_parts a (postfix p t) = refl
own_and_parts a (choice c first second) = refl

-- tasks take its place
pub parts_taken : (a : NeedKind) (t : Task) (scope found : Keys) (old new : List Task) (parts : NeedKind → Keys) (steps : ℕ) → PutsFewer old new parts steps
    → ((after : Keys → Keys) (s : Keys) → asked_then a t after s ≡ hidden a s (parts a) ++ after s) → task_steps t ≡ steps → TakesUp a t scope found old scope found new
parts_taken a t scope found old new parts steps h asks same = record {
  asked = ap (λ l. found ++ l) (h.asked a nothing scope ∙ sym (asks (pending_asked a old nothing) scope));
  fewer = omega (arith, h.fewer, same);
}

-- what a node asks for by itself is found, and its parts take its place
pub node_taken : (a : NeedKind) (n : Bor Node) (scope found found' : Keys) (old new : List Task) → found' ≡ found ++ hidden a scope (own_asked a (term_of n.now))
    → PutsFewer old new (λ k. parts_asked k (term_of n.now)) (term_steps (term_of n.now)) → TakesUp a (task.Node n) scope found old scope found' new
node_taken a n scope found found' old new is h =
    let t = term_of n.now in
    let own = hidden a scope (own_asked a t) in
    let parts = hidden a scope (parts_asked a t) in
    let later = pending_asked a old nothing scope in
    record {
      asked = ap (λ l. l ++ pending_asked a new nothing scope) is ∙ append_assoc found own (pending_asked a new nothing scope)
          ∙ ap (λ l. found ++ l) (ap (λ l. own ++ l) (h.asked a nothing scope) ∙ sym (append_assoc own parts later)
          ∙ ap (λ l. l ++ later) (sym (hidden-append a scope (own_asked a t) (parts_asked a t)) ∙ ap (hidden a scope) (own_and_parts a t)));
      fewer = h.fewer;
    }

-- a line has its name from here on
pub bind_taken : (a : NeedKind) (key : Bor (List ℕ)) (held more : List (Bor (List ℕ))) (found : Keys) (old : List Task) → more ≡ held ++ key ∷ [] → TakesUp a (task.Bind key) (keys held) found old (keys more) found old
bind_taken a key held more found old is = record {
  asked = ap (λ s. found ++ pending_asked a old nothing s) (ap keys is ∙ map-append (λ k. k.now) held (key ∷ []));
  fewer = omega arith;
}

-- and the last line is left
pub unbind_taken : (a : NeedKind) (held less : List (Bor (List ℕ))) (found : Keys) (old : List Task) → outer (keys held) ≡ keys less → TakesUp a task.Unbind (keys held) found old (keys less) found old
unbind_taken a held less found old is = record {
  asked = ap (λ s. found ++ pending_asked a old nothing s) (sym is);
  fewer = omega arith;
}

pub outer_last : (held less : List (Bor (List ℕ))) (key : Bor (List ℕ)) → held ≡ less ++ key ∷ [] → outer (keys held) ≡ keys less
outer_last held less key is = ap (λ l. outer (keys l)) is ∙ ap outer (map-append (λ k. k.now) less (key ∷ [])) ∙ outer-push (keys less) key.now

pub outer_pop : (held less : List (Bor (List ℕ))) (r : Option (Bor (List ℕ))) (n : ℕ) → held ≡ less ++ option_to_list r → (IsSome r ↔ (0 < n)) → n ≡ length held → outer (keys held) ≡ keys less
outer_pop [] less None n is some same = ap keys (is ∙ append-nil less)
outer_pop (k ∷ ks) less None n is some same = absurd (false≢true (some.1 (omega (arith, same))))
outer_pop held less (Some key) n is some same = outer_last held less key is
