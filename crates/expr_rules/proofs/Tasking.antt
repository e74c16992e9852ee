-- Tasks that are put on top of those that are pending.
use Rattle.std.proofs.Common.{◌≡◌, ℕ, ◌+◌, ◌<◌, ◌≤◌, List, [], ◌∷◌, ◌++◌, refl, sym, ap, ◌∙◌, append_assoc, arith}
use Rattle.expr_rules.specs.Tasks.{Keys, hidden, asked_then, pending_asked, task_steps, tasks_steps, PutsTasks, PutsFewer}
use Rattle.expr_rules.specs.declared.needs.NeedKind.{NeedKind}
use Rattle.expr_rules.specs.declared.tasks.Task.{Task}
use Rattle.expr_rules.proofs.Hiding.{hidden-append, hidden-nil}

pub pending_asked-push : (a : NeedKind) (ts : List Task) (t : Task) (after : Keys → Keys) → pending_asked a (ts ++ t ∷ []) after ≡ asked_then a t (pending_asked a ts after)
pending_asked-push a [] t after = refl
pending_asked-push a (u ∷ ts) t after = pending_asked-push a ts t (asked_then a u after)

pub tasks_steps-push : (ts : List Task) (t : Task) → tasks_steps (ts ++ t ∷ []) ≡ task_steps t + tasks_steps ts
tasks_steps-push [] t = refl
tasks_steps-push (u ∷ ts) t = omega (arith, tasks_steps-push ts t)

-- one task that asks for this
pub one_put : (old new : List Task) (t : Task) (parts : NeedKind → List (List ℕ)) → new ≡ old ++ t ∷ []
    → ((a : NeedKind) (after : Keys → Keys) (scope : Keys) → asked_then a t after scope ≡ hidden a scope (parts a) ++ after scope)
    → (steps : ℕ) → task_steps t ≡ steps → PutsTasks old new parts steps
one_put old new t parts is asks steps same = record {
  asked = λ a after scope. ap (λ ts. pending_asked a ts after scope) is ∙ ap (λ f. f scope) (pending_asked-push a old t after) ∙ asks a (pending_asked a old after) scope;
  count = let total : tasks_steps new ≡ task_steps t + tasks_steps old = ap tasks_steps is ∙ tasks_steps-push old t in omega (arith, total, same);
}

-- no task
pub none_put : (old : List Task) (steps : ℕ) → PutsTasks old old (λ a. []) steps
none_put old steps = record {
  asked = λ a after scope. ap (λ l. l ++ pending_asked a old after scope) (sym (hidden-nil a scope));
  count = omega arith;
}

-- some tasks, and then some on top of them
module _ {old mid new : List Task} {below above : NeedKind → List (List ℕ)} {m n : ℕ} where
  pub then_put : PutsTasks old mid below m → PutsTasks mid new above n → PutsTasks old new (λ a. above a ++ below a) (n + m)
  then_put f g = record {
    asked = λ a after scope. g.asked a after scope ∙ ap (λ l. hidden a scope (above a) ++ l) (f.asked a after scope)
        ∙ sym (append_assoc (hidden a scope (above a)) (hidden a scope (below a)) (pending_asked a old after scope))
        ∙ ap (λ l. l ++ pending_asked a old after scope) (sym (hidden-append a scope (above a) (below a)));
    count = omega (arith, f.count, g.count);
  }

-- the same tasks, which ask for the same in fewer steps
module _ {old new : List Task} {parts whole : NeedKind → List (List ℕ)} {m n : ℕ} where
  pub fewer_put : PutsTasks old new parts m → ((a : NeedKind) → parts a ≡ whole a) → m < n → PutsFewer old new whole n
  fewer_put f same less = record {
    asked = λ a after scope. f.asked a after scope ∙ ap (λ l. hidden a scope l ++ pending_asked a old after scope) (same a);
    fewer = omega (arith, f.count, less);
  }

  pub same_put : PutsTasks old new parts m → ((a : NeedKind) → parts a ≡ whole a) → m ≤ n → PutsTasks old new whole n
  same_put f same less = record {
    asked = λ a after scope. f.asked a after scope ∙ ap (λ l. hidden a scope l ++ pending_asked a old after scope) (same a);
    count = omega (arith, f.count, less);
  }
