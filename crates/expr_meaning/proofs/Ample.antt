-- With room enough each run is a counted run.
use Rattle.std.proofs.Common.{◌≡◌, ℕ, zero, suc, ◌+◌, ◌≤◌, Bool, true, false, List, [], ◌∷◌, ◌++◌, length, take, Result, Ok, Err, MatchBool, Option, Some, None, refl, sym, ap, subst}
use Rattle.std.proofs.lemmas.Option.{slice_get-map}
use Rattle.std.specs.Prelude.{option_map, slice_get}
use Rattle.expr_code.specs.CallBinds.{bound_helds, bound_values}
use Rattle.expr_code.specs.Held.{Held, Owner, copied, lend, lent, made, own, placed, settle, values}
use Rattle.expr_code.specs.Instructions.{Op, push, load, look, look_with, env, store, act, asks, refuse, jump, jump_if_false, and_then, or_else, unless_nil, takes}
use Rattle.expr_code.specs.declared.binds.Binds.{Binds}
use Rattle.expr_context.specs.Context.{hash}
use Rattle.expr_context.specs.Told.{PredicateArgsView}
use Rattle.expr_error.specs.ErrorKind.{ErrorKind, evaluation}
use Rattle.expr_functions.specs.Functions.{builtin_named}
use Rattle.expr_functions.specs.declared.functions.Builtin.{Builtin}
use Rattle.expr_functions.specs.declared.functions.Builtin.TheVariants as builtin
use Rattle.expr_limits.specs.Counting.{EndsWithAnswer, ChargeThen, Ending, KeepAllThen, ending_of, gives, refuses}
use Rattle.expr_limits.specs.Rooms.{TakesWork, Holds, Room, Takes, rooms, size_left, unlimited, limited}
use Rattle.expr_limits.specs.Sizes.{depth, inner_weight, weight}
use Rattle.expr_meaning.proofs.Enough.{Alone, Ample, AskedThen, Part, ample_answer, ample_anew, ample_asked, ample_counted, ample_here, ample_keeping, ample_more, ample_refused, ample_unlimited, ample_within, begins_passes, holds_passes, takes_passes}
use Rattle.expr_meaning.proofs.Holding.{act_held-is, field_held-is, value_of, values-cut, values-entered, values-stored}
use Rattle.expr_meaning.proofs.Ran.{runs_of_answers}
use Rattle.expr_meaning.specs.Allows.{AllowsCall, BranchMayReturnLayer}
use Rattle.expr_meaning.specs.Calls.{AllowsBuiltin, AllowsOnValues, ByBuiltin, ByName}
use Rattle.expr_meaning.specs.CodeRuns.{AllowsAct, AsksBlock, CodeAnswers, Later, looked_with}
use Rattle.expr_meaning.specs.Counts.{AfterAnswer, AnswersThen, AsksHeld, BranchThenLayer, ByOwner, CodeCounts, Costs, Counts, CountsEnd, CountsLater, CountsRest, CountsRuns, LoadsHeld, Next, NilThenLayer, PopsHeld, act_held, field_held, items_owner}
use Rattle.expr_meaning.specs.HigherOrder.{CountsAsking, CountsCall, CountsFold, CountsFoldStart, Predicate, replaces, retained_first, retained_of}
use Rattle.expr_meaning.specs.Host.{Host}
use Rattle.expr_meaning.specs.Rest.{ByNilLayer, Does, Ends, Loads, Next as Next_run, Pops, Rest, Runs}
use Rattle.expr_meaning.specs.World.{World}
use Rattle.expr_predicates.specs.Calls.{AllowsHigherOrder, FoldOver, fold_of_call}
use Rattle.expr_predicates.specs.Folds.{ItemAnswer, Fold, FoldOutcome, args_about, has_stopped, refuses_answer}
use Rattle.expr_predicates.specs.Runs.{FoldMayReturn}
use Rattle.expr_value.specs.Answers.{Answer, Then, ThenIfOk}
use Rattle.expr_value.specs.declared.value.Value as value
use Rattle.expr_value.specs.declared.value.Value.{Value, out-Value}
use Rattle.expr_value.specs.declared.value.Value.TheOpen.{Value-F}

-- a built-in that asks
module _ (asks : Predicate Room) (asks' : PredicateArgsView → Answer → Type 0) (has : (q : PredicateArgsView) (a : Answer) → asks' q a → Ample a (Alone (asks q))) where
  -- its ending from here
  abbrev Runs_on : Fold → List Value → List ItemAnswer → Part
  Runs_on task left rs first now e = CountsFold rooms task (size_left first) asks left rs now e

  -- what follows once what it keeps of a reply is counted
  abbrev Judged : Fold → Bool → List Value → List ItemAnswer → Part
  Judged task b left rs first now e = MatchBool b (e ≡ refuses evaluation) (Runs_on task left rs first now e)

  abbrev Kept : Fold → List Value → List ItemAnswer → Value → Value → Part
  Kept task left rs x v first now e = KeepAllThen rooms (retained_of task (x, v)) now (Judged task (refuses_answer task v) left (rs ++ (x, v) ∷ []) first) e

  judged : (task : Fold) (left : List Value) (rs : List ItemAnswer) (a : Answer) (b : Bool) → (FoldMayReturn task asks' left rs a → Ample a (Runs_on task left rs)) → MatchBool b (a ≡ Err evaluation) (FoldMayReturn task asks' left rs a)
      → Ample a (Judged task b left rs)
  judged task left rs a true f p = ample_here a (Judged task true left rs) (λ first now. ap (λ x. ending_of x now) p)
  judged task left rs a false f p = f p

  -- the results of the run of today, for one item
  abbrev Judged' : Fold → List Value → List ItemAnswer → Value → Value → Answer → Type 0
  Judged' task left rs x v b = MatchBool (refuses_answer task v) (b ≡ Err evaluation) (FoldMayReturn task asks' left (rs ++ (x, v) ∷ []) b)

  follows : (task : Fold) (left : List Value) (rs : List ItemAnswer) (x : Value) (q : PredicateArgsView) (a : Answer) → ((v : Value) → FoldMayReturn task asks' left (rs ++ (x, v) ∷ []) a → Ample a (Runs_on task left (rs ++ (x, v) ∷ [])))
      → (y : Answer) → asks' q y → ThenIfOk y (Judged' task left rs x) a → Ample a (AskedThen (replaces task) (asks q) (Kept task left rs x))
  follows task left rs x q a f (Ok v) p g =
      ample_asked (replaces task) (asks q) (Kept task left rs x) a v (has q (Ok v) p) (
      ample_keeping (retained_of task (x, v)) a (Judged task (refuses_answer task v) left (rs ++ (x, v) ∷ [])) (judged task left (rs ++ (x, v) ∷ []) a (refuses_answer task v) (f v) g)
      )
  follows task left rs x q a f (Err e) p g = ample_refused (replaces task) (asks q) (Kept task left rs x) a e (has q (Err e) p) g

  one : (task : Fold) (left : List Value) (rs : List ItemAnswer) (x : Value) (a : Answer) (b : Bool) → ((v : Value) → FoldMayReturn task asks' left (rs ++ (x, v) ∷ []) a → Ample a (Runs_on task left (rs ++ (x, v) ∷ [])))
      → MatchBool b (FoldOutcome task rs a) (Then (asks' (args_about task rs x)) (Judged' task left rs x) a)
      → Ample a (λ first now e. MatchBool b (EndsWithAnswer (FoldOutcome task rs) now e) (AskedThen (replaces task) (asks (args_about task rs x)) (Kept task left rs x) first now e))
  one task left rs x a true f p = ample_answer a (FoldOutcome task rs) p
  one task left rs x a false f p = follows task left rs x (args_about task rs x) a f p.0 p.1 p.2

  asks_ample : (task : Fold) (left : List Value) (rs : List ItemAnswer) (a : Answer) → FoldMayReturn task asks' left rs a → Ample a (Runs_on task left rs)
  asks_ample task [] rs a p = ample_answer a (FoldOutcome task rs) p
  asks_ample task (x ∷ left) rs a p = one task left rs x a (has_stopped task rs) (λ v. asks_ample task left (rs ++ (x, v) ∷ []) a) p

  start_ample : (s : Result FoldOver ErrorKind) (a : Answer) → ThenIfOk s (λ s. FoldMayReturn s.fold asks' s.items []) a → Ample a (Alone (CountsFoldStart rooms s asks))
  start_ample (Ok s) a p =
      ample_anew a (λ first now. KeepAllThen rooms (retained_first s.fold) now (λ kept. CountsFold rooms s.fold (size_left first) asks s.items [] kept)) (
      ample_keeping (retained_first s.fold) a (Runs_on s.fold s.items []) (asks_ample s.fold s.items [] a p)
      )
  start_ample (Err e) a p = ample_here a (Alone (CountsFoldStart rooms (Err e) asks)) (λ first now. ap (λ x. ending_of x now) p)

  module _ (host : Host) (key : List ℕ) (vs : List Value) (a : Answer) where
    builtin_ample : (o : Option Builtin) → ByBuiltin o (a ≡ Err evaluation) (λ c. AllowsOnValues host c vs a) (λ b. AllowsHigherOrder b vs true asks' a)
        → Ample a (Alone (λ now e. ByBuiltin o (e ≡ refuses evaluation) (λ c. EndsWithAnswer (AllowsOnValues host c vs) now e) (λ b. CountsFoldStart rooms (fold_of_call b vs true) asks now e)))
    builtin_ample None p = ample_here a (Alone (λ now e. e ≡ refuses evaluation)) (λ first now. ap (λ x. ending_of x now) p)
    builtin_ample (Some (builtin.OnValues c)) p = ample_answer a (AllowsOnValues host c vs) p
    builtin_ample (Some (builtin.HigherOrder b)) p = start_ample (fold_of_call b vs true) a p

    added_ample : (b : Bool) → MatchBool b (host.calls key vs a) (AllowsBuiltin host key vs true asks' a)
        → Ample a (
        Alone (λ now e. MatchBool b (EndsWithAnswer (host.calls key vs) now e) (ByName key (e ≡ refuses evaluation) (λ c. EndsWithAnswer (AllowsOnValues host c vs) now e) (λ b. CountsFoldStart rooms (fold_of_call b vs true) asks now e)))
        )
    added_ample true p = ample_answer a (host.calls key vs) p
    added_ample false p = builtin_ample (builtin_named key) p

  pub call_ample : (host : Host) (key : List ℕ) (vs : List Value) (a : Answer) → AllowsCall host key vs true asks' a → Ample a (Alone (CountsCall rooms host key vs asks))
  call_ample host key vs a p = added_ample host key vs a (host.is_added key) p

owned_ample : (a : Answer) (o : Owner) (v : Value) (part : Room → Ending Room → Type 0) → Ample a (Alone part) → Ample a (Alone (λ now e. ByOwner o (ChargeThen (rooms.makes v) now part e) (part now e)))
owned_ample a lent v part p = p
owned_ample a own v part p = ample_counted (inner_weight v + depth v) (Holds (inner_weight v) (depth v)) a (Alone part) (holds_passes (inner_weight v) (depth v)) p
owned_ample a placed v part p = p

module _ (a : Answer) where
  after_ample : (x : Answer) (held : Value → Held) (next : Held → Room → Ending Room → Type 0) (next' : Value → Answer → Type 0) → ((v : Value) → next' v a → Ample a (Alone (next (held v))))
      → ThenIfOk x next' a → Ample a (Alone (λ now. AfterAnswer rooms x held now next))
  after_ample (Ok v) held next next' f p = owned_ample a (held v).owner (held v).value (next (held v)) (f v p)
  after_ample (Err e) held next next' f p = ample_here a (Alone (λ now. AfterAnswer rooms (Err e) held now next)) (λ first now. ap (λ x. ending_of x now) p)

  -- an answer, once the work for it is counted
  answered_ample : (n k : ℕ) (x : Answer) (allowed : Answer → Type 0) (held : Value → Held) (next : Held → Room → Ending Room → Type 0) (next' : Value → Answer → Type 0) → allowed x
      → ((v : Value) → next' v a → Ample a (Alone (next (held v)))) → ThenIfOk x next' a → Ample a (Alone (λ now. ChargeThen (TakesWork n k) now (λ begun. AnswersThen rooms allowed held begun next)))
  answered_ample n k x allowed held next next' is f p =
      ample_counted (n + k) (TakesWork n k) a (Alone (λ now. AnswersThen rooms allowed held now next)) (begins_passes n k) (
      ample_more a (Alone (λ now. AfterAnswer rooms x held now next)) (Alone (λ now. AnswersThen rooms allowed held now next)) (λ first now e q. (x, is, q)) (after_ample x held next next' f p)
      )

  loads_ample : (o : Option Held) (next : Held → Room → Ending Room → Type 0) (next' : Value → Answer → Type 0) → ((h : Held) → next' h.value a → Ample a (Alone (next h))) → Loads (option_map value_of o) next' a
      → Ample a (Alone (λ now. LoadsHeld rooms o (λ h. next h now)))
  loads_ample (Some h) next next' f p = f h p
  loads_ample None next next' f p = absurd p

  pops_ample : (n : ℕ) (stack got : List Held) (next : List Held → List Held → Room → Ending Room → Type 0) (next' : List Value → List Value → Answer → Type 0)
      → ((hs rest : List Held) → next' (values hs) (values rest) a → Ample a (Alone (next hs rest))) → Pops n (values stack) (values got) next' a → Ample a (Alone (PopsHeld rooms n stack got next))
  pops_ample zero stack got next next' f p = f got stack p
  pops_ample (suc n) (h ∷ stack) got next next' f p = pops_ample n stack (h ∷ got) next next' f p
  pops_ample (suc n) [] got next next' f p = absurd p

  branch_ample : (v : Value-F Value) (one other : Room → Ending Room → Type 0) (one' other' : Answer → Type 0) → (one' a → Ample a (Alone one)) → (other' a → Ample a (Alone other)) → BranchMayReturnLayer v one' other' a
      → Ample a (Alone (λ now. BranchThenLayer rooms v (one now) (other now)))
  branch_ample (Value-F.Bool true) one other one' other' f g p = f p
  branch_ample (Value-F.Bool false) one other one' other' f g p = g p
  branch_ample v one other one' other' f g p = ample_here a (Alone (λ now. BranchThenLayer rooms v (one now) (other now))) (λ first now. ap (λ x. ending_of x now) p)

  nil_ample : (v : Value-F Value) (nil other : Room → Ending Room → Type 0) (nil' other' : Answer → Type 0) → (nil' a → Ample a (Alone nil)) → (other' a → Ample a (Alone other)) → ByNilLayer v nil' other' a
      → Ample a (Alone (λ now. NilThenLayer rooms v (nil now) (other now)))
  nil_ample Value-F.Nil nil other nil' other' f g p = f p
  nil_ample v nil other nil' other' f g p = g p

module _ (costs : Costs) where
  module _ (world : World) (counts : CountsLater rooms) (later : Later)
      (has : (n : ℕ) (slots : List Held) (a : Answer) → later n (values slots) a → Ample a (Alone (counts n slots))) where
    module _ (a : Answer) (next' : Next_run) (next : Next rooms) (goes : (k : ℕ) (st sl : List Held) → next' k (values st) (values sl) a → Ample a (Alone (next k st sl))) where
      -- a value on the stack
      on_top : (held : Value → Held) (v : Value) → (held v).value ≡ v → (rest slots : List Held) → next' 0 (v ∷ values rest) (values slots) a → Ample a (Alone (next 0 (held v ∷ rest) slots))
      on_top held v is rest slots p = goes 0 (held v ∷ rest) slots (subst (λ w. next' 0 (w ∷ values rest) (values slots) a) (sym is) p)

      module _ (key : List ℕ) (block slot : ℕ) (binds : Binds) (slots hs rest : List Held) where
        -- what is asked of a block
        abbrev Asks : Predicate Room
        Asks = AsksHeld rooms costs world counts (items_owner hs) block slot binds slots

        abbrev Asks' : PredicateArgsView → Answer → Type 0
        Asks' q = later block (take slot (values slots) ++ bound_values binds q)

        asked : (q : PredicateArgsView) (b : Answer) → Asks' q b → Ample b (Alone (Asks q))
        asked q b p =
            let owner : Owner = items_owner hs in
            has block (take slot slots ++ bound_helds owner binds q) b (subst (λ l. later block l b) (sym (values-entered slots slot owner binds q)) p)

        abbrev Call : Room → Ending Room → Type 0
        Call = CountsCall rooms world.host key (values hs) Asks

        abbrev Kept_after : Value → Part
        Kept_after v first now e = ChargeThen (rooms.keeps v) now (next 0 (made v ∷ rest) (take slot slots)) e

        called : (x : Answer) → Ample x (Alone Call) → ThenIfOk x (λ v. next' 0 (v ∷ values rest) (take slot (values slots))) a → Ample a (AskedThen true Call Kept_after)
        called (Ok v) h p =
            ample_asked true Call Kept_after a v h (
            ample_counted (weight v + depth v) (Holds (weight v) (depth v)) a (Alone (next 0 (made v ∷ rest) (take slot slots))) (holds_passes (weight v) (depth v)) (
            goes 0 (made v ∷ rest) (take slot slots) (subst (λ l. next' 0 (v ∷ values rest) l a) (sym (values-cut slots slot)) p)
            )
            )
        called (Err e) h p = ample_refused true Call Kept_after a e h p

        asking_ample : (n k : ℕ) → Then (AsksBlock world later key (values hs) block slot binds (values slots)) (λ v. next' 0 (v ∷ values rest) (take slot (values slots))) a
            → Ample a (Alone (CountsAsking rooms world.host key hs (rooms.works n k) Asks (λ v. next 0 (made v ∷ rest) (take slot slots))))
        asking_ample n k (x, p, q) =
            ample_anew a (λ first now. KeepAllThen rooms (copied hs) now (λ kept. ChargeThen (TakesWork n k) kept (AskedThen true Call Kept_after first))) (
            ample_keeping (copied hs) a (λ first now. ChargeThen (TakesWork n k) now (AskedThen true Call Kept_after first)) (
            ample_counted (n + k) (TakesWork n k) a (AskedThen true Call Kept_after) (begins_passes n k) (called x (call_ample Asks Asks' asked world.host key (values hs) x p) q)
            )
            )

      abbrev One : Op → List Held → List Held → Room → Ending Room → Type 0
      One op stack slots = Counts rooms costs world counts op next stack slots

      step_ample : (op : Op) (stack slots : List Held) → Does world later op next' (values stack) (values slots) a → Ample a (Alone (One op stack slots))
      step_ample (push v) stack slots p = goes 0 (lend v ∷ stack) slots p
      step_ample (load i) stack slots p =
          loads_ample a (slice_get slots i) (λ h. next 0 (h ∷ stack) slots) (λ v. next' 0 (v ∷ values stack) (values slots)) (λ h. goes 0 (h ∷ stack) slots) (
          subst (λ o. Loads o (λ v. next' 0 (v ∷ values stack) (values slots)) a) (slice_get-map value_of slots i) p
          )
      step_ample (look key) stack slots p =
          let x = looked_with world.context key (world.context.value_of hash) in
          answered_ample a (costs.work (look key) []) 0 x (λ b. b ≡ x) lend (λ h. next 0 (h ∷ stack) slots) (λ v. next' 0 (v ∷ values stack) (values slots)) refl (λ v. on_top lend v refl stack slots) p
      step_ample (look_with key i) stack slots p =
          let x = λ (v : Value). looked_with world.context key (Some v) in
          loads_ample a (slice_get slots i) (
          λ item now. ChargeThen (TakesWork (costs.work (look_with key i) (item.value ∷ [])) 0) now (λ begun. AnswersThen rooms (λ b. b ≡ x item.value) (field_held world.context key item) begun (λ h. next 0 (h ∷ stack) slots))
          ) (λ v. ThenIfOk (x v) (λ w. next' 0 (w ∷ values stack) (values slots))) (
          λ item. answered_ample a (costs.work (look_with key i) (item.value ∷ [])) 0 (x item.value) (λ b. b ≡ x item.value) (field_held world.context key item) (λ h. next 0 (h ∷ stack) slots)
          (λ w. next' 0 (w ∷ values stack) (values slots)) refl (λ w. on_top (field_held world.context key item) w (field_held-is world.context key item w) stack slots)
          ) (subst (λ o. Loads o (λ v. ThenIfOk (x v) (λ w. next' 0 (w ∷ values stack) (values slots))) a) (slice_get-map value_of slots i) p)
      step_ample env stack slots p =
          let v = value.Map world.context.map in
          owned_ample a (made v).owner v (next 0 (made v ∷ stack) slots) (goes 0 (made v ∷ stack) slots p)
      step_ample (store i) [] slots p = absurd p
      step_ample (store i) (h ∷ stack) slots p = goes 0 stack (take i slots ++ settle h ∷ []) (subst (λ l. next' 0 (values stack) l a) (sym (values-stored slots i h)) p)
      step_ample (act k) stack slots p =
          let work = λ (hs : List Held). costs.work (act k) (values hs) in
          let room = λ (hs : List Held). costs.room (act k) (values hs) in
          pops_ample a (takes k) stack [] (
          λ hs rest u. ChargeThen (TakesWork (work hs) (room hs)) u (λ begun. AnswersThen rooms (AllowsAct world.host k (values hs)) (act_held k hs) begun (λ h. next 0 (h ∷ rest) slots))
          ) (λ vs rest. Then (AllowsAct world.host k vs) (λ v. next' 0 (v ∷ rest) (values slots))) (
          λ hs rest q. answered_ample a (work hs) (room hs) q.0 (AllowsAct world.host k (values hs)) (act_held k hs) (λ h. next 0 (h ∷ rest) slots) (λ v. next' 0 (v ∷ values rest) (values slots)) q.1
          (λ v. on_top (act_held k hs) v (act_held-is k hs v) rest slots) q.2
          ) p
      step_ample (asks key n block slot binds) stack slots p =
          let work = λ (hs : List Held). costs.work (asks key n block slot binds) (values hs) in
          let room = λ (hs : List Held). costs.room (asks key n block slot binds) (values hs) in
          pops_ample a n stack [] (
          λ hs rest. CountsAsking rooms world.host key hs (rooms.works (work hs) (room hs)) (AsksHeld rooms costs world counts (items_owner hs) block slot binds slots) (λ v. next 0 (made v ∷ rest) (take slot slots))
          ) (λ vs rest. Then (AsksBlock world later key vs block slot binds (values slots)) (λ v. next' 0 (v ∷ rest) (take slot (values slots)))) (
          λ hs rest. asking_ample key block slot binds slots hs rest (work hs) (room hs)
          ) p
      step_ample refuse stack slots p = ample_here a (Alone (One refuse stack slots)) (λ first now. ap (λ x. ending_of x now) p)
      step_ample (jump n) stack slots p = goes n stack slots p
      step_ample (jump_if_false n) [] slots p = absurd p
      step_ample (jump_if_false n) (h ∷ stack) slots p =
          branch_ample a (out-Value h.value) (next 0 stack slots) (next n stack slots) (next' 0 (values stack) (values slots)) (next' n (values stack) (values slots)) (goes 0 stack slots) (goes n stack slots) p
      step_ample (and_then n) [] slots p = absurd p
      step_ample (and_then n) (h ∷ stack) slots p =
          let no : Held = lend (value.Bool false) in
          branch_ample a (out-Value h.value) (next 0 stack slots) (next n (no ∷ stack) slots) (next' 0 (values stack) (values slots)) (next' n (value.Bool false ∷ values stack) (values slots)) (goes 0 stack slots) (goes n (no ∷ stack) slots) p
      step_ample (or_else n) [] slots p = absurd p
      step_ample (or_else n) (h ∷ stack) slots p =
          let yes : Held = lend (value.Bool true) in
          branch_ample a (out-Value h.value) (next n (yes ∷ stack) slots) (next 0 stack slots) (next' n (value.Bool true ∷ values stack) (values slots)) (next' 0 (values stack) (values slots)) (goes n (yes ∷ stack) slots) (goes 0 stack slots) p
      step_ample (unless_nil n) [] slots p = absurd p
      step_ample (unless_nil n) (h ∷ stack) slots p =
          nil_ample a (out-Value h.value) (next 0 stack slots) (next n (h ∷ stack) slots) (next' 0 (values stack) (values slots)) (next' n (h.value ∷ values stack) (values slots)) (goes 0 stack slots) (goes n (h ∷ stack) slots) p

    end_ample : (a : Answer) (skip : ℕ) (stack slots : List Held) → Ends skip (values stack) (values slots) a → Ample a (Alone (CountsEnd rooms skip stack slots))
    end_ample a zero [] slots p = absurd p
    end_ample a zero (h ∷ []) slots p = ample_here a (Alone (CountsEnd rooms zero (h ∷ []) slots)) (λ first now. ap (λ x. ending_of x now) p)
    end_ample a zero (h ∷ other ∷ stack) slots p = absurd p
    end_ample a (suc skip) stack slots p = absurd p

    rest_ample : (a : Answer) (ops : List Op) (skip : ℕ) (stack slots : List Held) → Rest world later ops Ends skip (values stack) (values slots) a
        → Ample a (Alone (CountsRest rooms costs world counts ops (CountsEnd rooms) skip stack slots))
    rest_ample a [] skip stack slots p = end_ample a skip stack slots p
    rest_ample a (op ∷ ops) (suc skip) stack slots p = rest_ample a ops skip stack slots p
    rest_ample a (op ∷ ops) zero stack slots p = step_ample a (Rest world later ops Ends) (CountsRest rooms costs world counts ops (CountsEnd rooms)) (rest_ample a ops) op stack slots p

  module _ (world : World) where
    abbrev Behind : List (List Op) → CountsLater rooms
    Behind blocks = CountsRuns rooms costs world blocks

    runs_ample : (blocks : List (List Op)) (n : ℕ) (slots : List Held) (a : Answer) → Runs world blocks n (values slots) a → Ample a (Alone (Behind blocks n slots))
    runs_ample [] n slots a p = absurd p
    runs_ample (ops ∷ blocks) zero slots a p =
        ample_counted (length ops + length ops) (Takes (length ops) (length ops)) a (Alone (CountsRest rooms costs world (Behind blocks) ops (CountsEnd rooms) 0 [] slots)) (takes_passes (length ops) (length ops)) (
        rest_ample world (Behind blocks) (Runs world blocks) (runs_ample blocks) a ops 0 [] slots p
        )
    runs_ample (ops ∷ blocks) (suc n) slots a p = runs_ample blocks n slots a p

    -- the answer is kept in the end
    abbrev Last : Value → Part
    Last v first now e = ChargeThen (rooms.keeps v) now (λ last f. f ≡ gives v last) e

    code_by : (blocks : List (List Op)) (a : Answer) → Ample a (Alone (Behind blocks 0 [])) → Ample a (AskedThen false (Behind blocks 0 []) Last)
    code_by blocks (Ok v) p =
        ample_asked false (Behind blocks 0 []) Last (Ok v) v p (
        ample_counted (weight v + depth v) (Holds (weight v) (depth v)) (Ok v) (λ first last f. f ≡ gives v last) (holds_passes (weight v) (depth v)) (ample_here (Ok v) (λ first last f. f ≡ gives v last) (λ first now. refl))
        )
    code_by blocks (Err e) p = ample_refused false (Behind blocks 0 []) Last (Err e) e p refl

    code_ample : (blocks : List (List Op)) (a : Answer) → CodeAnswers world blocks a → Ample a (Alone (CodeCounts rooms costs world blocks))
    code_ample blocks a p = code_by blocks a (runs_ample blocks 0 [] a (runs_of_answers world blocks 0 [] a p))

    -- each run of a code is a counted run within limits that are large enough
    pub code_within : (blocks : List (List Op)) (a : Answer) → CodeAnswers world blocks a
        → (need : ℕ) × ((s w d : ℕ) → need ≤ s → need ≤ w → need ≤ d → (left : Room) × CodeCounts rooms costs world blocks (limited s w d) (ending_of a left))
    code_within blocks a p = ample_within a (CodeCounts rooms costs world blocks) (code_ample blocks a p)

    -- and where there is none
    pub code_unlimited : (blocks : List (List Op)) (a : Answer) → CodeAnswers world blocks a → CodeCounts rooms costs world blocks unlimited (ending_of a unlimited)
    code_unlimited blocks a p = ample_unlimited a (CodeCounts rooms costs world blocks) (code_ample blocks a p)
