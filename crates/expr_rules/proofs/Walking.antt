-- A walk over a program, task by task.
use Rattle.std.proofs.Common.{◌≡◌, ℕ, ◌+◌, ◌<◌, List, [], ◌∷◌, ◌++◌, map, Bor, sym, ap, ◌∙◌, append-nil, arith}
use Rattle.expr_rules.specs.Tasks.{Keys, hidden, nothing, pending_asked, tasks_steps, task_steps, TakesUp}
use Rattle.expr_rules.specs.declared.needs.NeedKind.{NeedKind}
use Rattle.expr_rules.specs.declared.tasks.Task.{Task}
use Rattle.expr_rules.proofs.Tasking.{pending_asked-push, tasks_steps-push}

abbrev pub keys : List (Bor (List ℕ)) → Keys
keys held = map (λ key. key.now) held

pub walk_begins : (a : NeedKind) (old new : List Task) (found scope : List (Bor (List ℕ))) (whole : Keys) → found ≡ [] → scope ≡ [] → old ≡ []
    → ((s : Keys) → pending_asked a new nothing s ≡ hidden a s whole ++ pending_asked a old nothing s)
    → keys found ++ pending_asked a new nothing (keys scope) ≡ whole
walk_begins a old new found scope whole none outside empty puts =
    (λ i. keys (none i) ++ pending_asked a new nothing (keys (outside i))) ∙ puts [] ∙ ap (λ ts. whole ++ pending_asked a ts nothing []) empty ∙ append-nil whole

pub walk_goes_on : (a : NeedKind) (t : Task) (found scope : List (Bor (List ℕ))) (all rest : List Task) (found' scope' : List (Bor (List ℕ))) (new : List Task) (whole : Keys)
    → keys found ++ pending_asked a all nothing (keys scope) ≡ whole → all ≡ rest ++ t ∷ [] → TakesUp a t (keys scope) (keys found) rest (keys scope') (keys found') new
    → keys found' ++ pending_asked a new nothing (keys scope') ≡ whole
walk_goes_on a t found scope all rest found' scope' new whole before is h =
    h.asked ∙ sym (ap (λ ts. keys found ++ pending_asked a ts nothing (keys scope)) is ∙ ap (λ f. keys found ++ f (keys scope)) (pending_asked-push a rest t nothing)) ∙ before

pub walk_falls : (a : NeedKind) (t : Task) (found scope : List (Bor (List ℕ))) (all rest : List Task) (found' scope' : List (Bor (List ℕ))) (new : List Task)
    → all ≡ rest ++ t ∷ [] → TakesUp a t (keys scope) (keys found) rest (keys scope') (keys found') new → tasks_steps new < tasks_steps all
walk_falls a t found scope all rest found' scope' new is h =
    let total : tasks_steps all ≡ task_steps t + tasks_steps rest = ap tasks_steps is ∙ tasks_steps-push rest t in
    omega (arith, total, h.fewer)

pub walk_ends : (a : NeedKind) (all : List Task) (found scope : List (Bor (List ℕ))) (whole : Keys) → all ≡ [] → keys found ++ pending_asked a all nothing (keys scope) ≡ whole → keys found ≡ whole
walk_ends a all found scope whole none h =
    sym (append-nil (keys found)) ∙ sym (ap (λ ts. keys found ++ pending_asked a ts nothing (keys scope)) none) ∙ h
