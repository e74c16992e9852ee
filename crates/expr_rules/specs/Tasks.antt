-- What is still to be looked at, and what it asks for. No public clause cites this module.
use Rattle.std.specs.Prelude.{◌≡◌, ℕ, ◌+◌, ◌<◌, ◌≤◌, Bool, List, [], ◌∷◌, ◌++◌, bytes_eq, false, map, Option, None, Some, String, string_bytes}
use Rattle.std.specs.List.{list_any}
use Rattle.std.specs.List.Sorted.{IsStrictlySortedBy}
use Rattle.std.specs.String.{string_cmp}
use Rattle.std.specs.declared.alloc.Global.{Global}
use Rattle.expr_text.specs.Steps.{term_steps, items_steps, pairs_steps, block_steps}
use Rattle.expr_tree.specs.Term.{Term, name, literal, list, mapping, range, call, unary, operation, postfix, choice, term_pairs, block_with}
use Rattle.expr_tree.specs.TermOf.{term_of, terms_of, line_term}
use Rattle.expr_rules.specs.Needs.{asked_by, asked_by_all, asked_by_pairs, asked_by_block, asked_by_predicate, asked_by_postfix, behind_line, by_name, by_call}
use Rattle.expr_rules.specs.declared.needs.NeedKind.{NeedKind}
use Rattle.expr_rules.specs.declared.needs.NeedKind.TheVariants.{Names, Functions}
use Rattle.expr_rules.specs.declared.tasks.Task.{Task}
use Rattle.expr_rules.specs.declared.tasks.Task.TheVariants as task

-- Names, in order.
abbrev pub Keys : Type 0
Keys = List (List ℕ)

-- what is asked for behind these lines
abbrev pub hidden : NeedKind → (scope : Keys) → Keys → Keys
hidden a [] names = names
hidden a (key ∷ scope) names = behind_line a key (hidden a scope names)

-- whether it is the name of a line before, where names are asked for
abbrev pub is_hidden : NeedKind → (scope : Keys) → List ℕ → Bool
is_hidden Names scope key = list_any (bytes_eq key) scope
is_hidden Functions scope key = false

-- without the last name
abbrev pub outer : Keys → Keys
outer [] = []
outer (key ∷ []) = []
outer (key ∷ next ∷ scope) = key ∷ outer (next ∷ scope)

-- a task, and then all that comes after it
abbrev pub asked_then : NeedKind → Task → (Keys → Keys) → Keys → Keys
asked_then a (task.Node n) after scope = hidden a scope (asked_by a (term_of n.now)) ++ after scope
asked_then a (task.Items ns) after scope = hidden a scope (asked_by_all a (terms_of (map term_of ns.now))) ++ after scope
asked_then a (task.Pairs ps) after scope = hidden a scope (asked_by_pairs a (term_pairs (map line_term ps.now))) ++ after scope
asked_then a (task.Lines ls last) after scope = hidden a scope (asked_by_block a (block_with (map line_term ls.now) (term_of last.now))) ++ after scope
asked_then a (task.Bind key) after scope = after (scope ++ key.now ∷ [])
asked_then a task.Unbind after scope = after (outer scope)

-- tasks, the next one last, and then all that comes after them
abbrev pub pending_asked : NeedKind → List Task → (Keys → Keys) → Keys → Keys
pending_asked a [] after = after
pending_asked a (t ∷ ts) after = pending_asked a ts (asked_then a t after)

-- nothing comes after
abbrev pub nothing : Keys → Keys
nothing scope = []

-- how many tasks there still are, at most
abbrev pub task_steps : Task → ℕ
task_steps (task.Node n) = term_steps (term_of n.now)
task_steps (task.Items ns) = items_steps (terms_of (map term_of ns.now))
task_steps (task.Pairs ps) = pairs_steps (term_pairs (map line_term ps.now))
task_steps (task.Lines ls last) = block_steps (block_with (map line_term ls.now) (term_of last.now))
task_steps (task.Bind key) = 1
task_steps task.Unbind = 1

abbrev pub tasks_steps : List Task → ℕ
tasks_steps [] = 0
tasks_steps (t ∷ ts) = task_steps t + tasks_steps ts

-- tasks that ask for this are put on top of those that are pending
pub record PutsTasks (old new : List Task) (parts : NeedKind → Keys) (steps : ℕ) : Type 0 where
  pub asked : (a : NeedKind) (after : Keys → Keys) (scope : Keys)
      → pending_asked a new after scope ≡ hidden a scope (parts a) ++ pending_asked a old after scope
  pub count : tasks_steps new ≤ steps + tasks_steps old

-- the same, in fewer steps
pub record PutsFewer (old new : List Task) (parts : NeedKind → Keys) (steps : ℕ) : Type 0 where
  pub asked : (a : NeedKind) (after : Keys → Keys) (scope : Keys)
      → pending_asked a new after scope ≡ hidden a scope (parts a) ++ pending_asked a old after scope
  pub fewer : tasks_steps new < steps + tasks_steps old

-- what a node asks for by itself, and by its parts
abbrev pub own_asked : NeedKind → Term → Keys
own_asked a (name key) = by_name a key
own_asked a (literal v) = []
own_asked a (list ts) = []
own_asked a (mapping ps) = []
own_asked a (range first last) = []
own_asked a (call key ts p) = by_call a key
own_asked a (unary o t) = []
own_asked a (operation o l r) = []
own_asked a (postfix p t) = []
own_asked a (choice c first second) = []

abbrev pub parts_asked : NeedKind → Term → Keys
parts_asked a (name key) = []
parts_asked a (literal v) = []
parts_asked a (list ts) = asked_by_all a ts
parts_asked a (mapping ps) = asked_by_pairs a ps
parts_asked a (range first last) = asked_by a first ++ asked_by a last
parts_asked a (call key ts p) = asked_by_all a ts ++ asked_by_predicate a p
parts_asked a (unary o t) = asked_by a t
parts_asked a (operation o l r) = asked_by a l ++ asked_by a r
parts_asked a (postfix p t) = asked_by a t ++ asked_by_postfix a p
parts_asked a (choice c first second) = asked_by a c ++ (asked_by_block a first ++ asked_by_block a second)

abbrev pub if_any : Option (List ℕ) → Keys
if_any None = []
if_any (Some key) = key ∷ []

-- the keys of a set, in order, are these names
abbrev pub HasSame : List (String Global) → Keys → Type 0
HasSame keys names = IsStrictlySortedBy string_cmp keys × ((n : List ℕ) → list_any (bytes_eq n) (map string_bytes keys) ≡ list_any (bytes_eq n) names)

-- a task is taken up: what it asks for is found, or tasks take its place
pub record TakesUp (a : NeedKind) (t : Task) (scope found : Keys) (old : List Task) (scope' found' : Keys) (new : List Task) : Type 0 where
  pub asked : found' ++ pending_asked a new nothing scope'
      ≡ found ++ asked_then a t (pending_asked a old nothing) scope
  pub fewer : tasks_steps new < task_steps t + tasks_steps old
