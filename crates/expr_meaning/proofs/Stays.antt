-- What every charge leaves as it is, a counted run leaves as it is, and it stops only where a charge does.
use Rattle.std.proofs.Common.{◌≡◌, ℕ, zero, suc, Bool, true, false, List, [], ◌∷◌, ◌++◌, length, take, Option, Some, None, Result, Ok, Err, MatchBool, sym, subst}
use Rattle.std.specs.Prelude.{if◌then◌else◌, slice_get}
use Rattle.expr_code.specs.CallBinds.{bound_helds}
use Rattle.expr_code.specs.Held.{Held, Owner, copied, lend, lent, made, own, placed, settle, values}
use Rattle.expr_code.specs.Instructions.{Op, push, load, look, look_with, env, store, act, asks, refuse, jump, jump_if_false, and_then, or_else, unless_nil, takes}
use Rattle.expr_context.specs.Context.{hash}
use Rattle.expr_context.specs.Told.{PredicateArgsView}
use Rattle.expr_error.specs.ErrorKind.{ErrorKind, evaluation}
use Rattle.expr_limits.specs.Counting.{EndsWithAnswer, Charge, ChargeThen, Counting, Ending, ThenIfGives, KeepAllThen, EndingThen, ending_of, gives, refuses, stops}
use Rattle.expr_limits.specs.declared.limit.Limit.{Limit}
use Rattle.expr_meaning.proofs.Dispatching.{ByName-either}
use Rattle.expr_meaning.specs.Calls.{AllowsOnValues, ByName}
use Rattle.expr_meaning.specs.CodeRuns.{AllowsAct, looked_with}
use Rattle.expr_meaning.specs.Counts.{AfterAnswer, AnswersThen, AsksHeld, BranchThenLayer, ByOwner, CodeCounts, Costs, Counts, CountsEnd, CountsLater, CountsRest, CountsRuns, LoadsHeld, Next, NilThenLayer, PopsHeld, act_held, field_held, items_owner}
use Rattle.expr_meaning.specs.HigherOrder.{CountsAsking, CountsCall, CountsFold, CountsFoldStart, Predicate, RepliesThen, replaces, retained_first, retained_of}
use Rattle.expr_meaning.specs.Host.{Host}
use Rattle.expr_meaning.specs.World.{World}
use Rattle.expr_predicates.specs.Calls.{FoldOver, fold_of_call}
use Rattle.expr_predicates.specs.Folds.{ItemAnswer, Fold, FoldOutcome, args_about, has_stopped, refuses_answer}
use Rattle.expr_value.specs.Answers.{Answer}
use Rattle.expr_value.specs.declared.value.Value as value
use Rattle.expr_value.specs.declared.value.Value.{Value, out-Value}
use Rattle.expr_value.specs.declared.value.Value.TheOpen.{Value-F}

-- this holds of the tally after a charge, or the limit is such a one
abbrev pub InCharge : {T : Type 0} → (T → Type 0) → (Limit → Type 0) → Result T Limit → Type 0
InCharge holds such (Ok now) = holds now
InCharge holds such (Err limit) = such limit

-- this holds of what is counted where a part gives a value, and it stops at such limits alone
abbrev pub InEnding : {T : Type 0} → (T → Type 0) → (Limit → Type 0) → Ending T → Type 0
InEnding holds such (gives v now) = holds now
InEnding holds such (refuses e) = Unit {0}
InEnding holds such (stops limit) = such limit

-- what holds of a tally holds of the next
abbrev pub Preserves : {T : Type 0} → (T → Type 0) → (Limit → Type 0) → Charge T → Type 0
Preserves {T} holds such charge = (now : T) (r : Result T Limit) → charge now r → holds now → InCharge holds such r

pub record Keeps (counting : Counting) (holds : counting.Tally → Type 0) (such : Limit → Type 0) : Type 0 where
  pub enters : (n : ℕ) → Preserves holds such (counting.enters n)
  pub works : (n k : ℕ) → Preserves holds such (counting.works n k)
  pub makes : (v : Value) → Preserves holds such (counting.makes v)
  pub keeps : (v : Value) → Preserves holds such (counting.keeps v)
  pub freed : (mark : counting.Mark) (now : counting.Tally) → holds now → holds (counting.freed mark now)

module _ (counting : Counting) (holds : counting.Tally → Type 0) (such : Limit → Type 0) (by : Keeps counting holds such) where
  abbrev Tally : Type 0
  Tally = counting.Tally

  abbrev In : Ending Tally → Type 0
  In e = InEnding holds such e

  of_answer : (a : Answer) (now : Tally) → holds now → In (ending_of a now)
  of_answer (Ok v) now h = h
  of_answer (Err e) now h = tt

  answers : (allowed : Answer → Type 0) (now : Tally) (e : Ending Tally) → holds now → EndsWithAnswer allowed now e → In e
  answers allowed now e h (a, p, is) = subst In (sym is) (of_answer a now h)

  counted : (charge : Charge Tally) → Preserves holds such charge → (now : Tally) (next : Tally → Ending Tally → Type 0) (e : Ending Tally) → holds now → ((u : Tally) → holds u → next u e → In e) → ChargeThen charge now next e → In e
  counted charge k now next e h f (Ok u, c, p) = f u (k now (Ok u) c h) p
  counted charge k now next e h f (Err limit, c, p) = subst In (sym p) (k now (Err limit) c h)

  following : (x : Ending Tally) (next : Value → Tally → Ending Tally → Type 0) (e : Ending Tally) → In x → ((v : Value) (u : Tally) → holds u → next v u e → In e) → ThenIfGives x next e → In e
  following (gives v u) next e h f p = f v u h p
  following (refuses b) next e h f p = subst In (sym p) tt
  following (stops limit) next e h f p = subst In (sym p) h

  keeping : (vs : List Value) (now : Tally) (next : Tally → Ending Tally → Type 0) (e : Ending Tally) → holds now → ((u : Tally) → holds u → next u e → In e) → KeepAllThen counting vs now next e → In e
  keeping [] now next e h f p = f now h p
  keeping (v ∷ vs) now next e h f p = counted (counting.keeps v) (by.keeps v) now (λ kept. KeepAllThen counting vs kept next) e h (λ u g q. keeping vs u next e g f q) p

  one_of : (b : Bool) (P Q R : Type 0) → (P → R) → (Q → R) → MatchBool b P Q → R
  one_of true P Q R f g p = f p
  one_of false P Q R f g p = g p

  -- a call, where it holds of what is asked
  module _ (asks : Predicate Tally) (asked : (q : PredicateArgsView) (now : Tally) (e : Ending Tally) → holds now → asks q now e → In e) where
    reply_stays : (t : Fold) (first mark : counting.Mark) (rs : List ItemAnswer) (x v : Value) (u : Tally) (next : List ItemAnswer → Tally → Ending Tally → Type 0) (e : Ending Tally) → holds u
        → ((w : Tally) → holds w → next (rs ++ (x, v) ∷ []) w e → In e) → RepliesThen counting t first mark rs x v u next e → In e
    reply_stays t first mark rs x v u next e h f p =
        keeping (retained_of t (x, v)) (counting.freed (if replaces t then first else mark) u) (λ kept g. MatchBool (refuses_answer t v) (g ≡ refuses evaluation) (next (rs ++ (x, v) ∷ []) kept g)) e (by.freed (if replaces t then first else mark) u h) (
        λ w m r. one_of (refuses_answer t v) (e ≡ refuses evaluation) (next (rs ++ (x, v) ∷ []) w e) (In e) (λ is. subst In (sym is) tt) (f w m) r
        ) p

    asks_stay : (t : Fold) (first : counting.Mark) (left : List Value) (rs : List ItemAnswer) (now : Tally) (e : Ending Tally) → holds now → CountsFold counting t first asks left rs now e → In e
    asks_stay t first [] rs now e h p = answers (FoldOutcome t rs) now e h p
    asks_stay t first (x ∷ left) rs now e h p =
        let replied = λ (v : Value) (ran : Tally). RepliesThen counting t first (counting.mark now) rs x v ran (CountsFold counting t first asks left) in
        one_of (has_stopped t rs) (EndsWithAnswer (FoldOutcome t rs) now e) (EndingThen (asks (args_about t rs x) now) replied e) (In e) (answers (FoldOutcome t rs) now e h) (
        λ k. following k.0 replied e (asked (args_about t rs x) now k.0 h k.1) (
        λ v u g q. reply_stays t first (counting.mark now) rs x v u (CountsFold counting t first asks left) e g (λ w m r. asks_stay t first left (rs ++ (x, v) ∷ []) w e m r) q
        ) k.2
        ) p

    start_stays : (s : Result FoldOver ErrorKind) (now : Tally) (e : Ending Tally) → holds now → CountsFoldStart counting s asks now e → In e
    start_stays (Ok s) now e h p =
        keeping (retained_first s.fold) now (λ kept. CountsFold counting s.fold (counting.mark now) asks s.items [] kept) e h (λ u g q. asks_stay s.fold (counting.mark now) s.items [] u e g q) p
    start_stays (Err b) now e h p = subst In (sym p) tt

    call_stays : (host : Host) (key : List ℕ) (vs : List Value) (now : Tally) (e : Ending Tally) → holds now → CountsCall counting host key vs asks now e → In e
    call_stays host key vs now e h p =
        one_of (host.is_added key) (EndsWithAnswer (host.calls key vs) now e) (ByName key (e ≡ refuses evaluation) (λ c. EndsWithAnswer (AllowsOnValues host c vs) now e) (λ b. CountsFoldStart counting (fold_of_call b vs true) asks now e)) (In e) (
        answers (host.calls key vs) now e h
        ) (
        ByName-either key (e ≡ refuses evaluation) (λ c. EndsWithAnswer (AllowsOnValues host c vs) now e) (λ b. CountsFoldStart counting (fold_of_call b vs true) asks now e) (In e)
        (λ is. subst In (sym is) tt) (λ c. answers (AllowsOnValues host c vs) now e h) (λ b. start_stays (fold_of_call b vs true) now e h)
        ) p

    asking_stays : (host : Host) (key : List ℕ) (hs : List Held) (n k : ℕ) (next : Value → Tally → Ending Tally → Type 0) (now : Tally) (e : Ending Tally) → holds now → ((v : Value) (u : Tally) → holds u → next v u e → In e)
        → CountsAsking counting host key hs (counting.works n k) asks next now e → In e
    asking_stays host key hs n k next now e h f p =
        let call = λ (begun : Tally). CountsCall counting host key (values hs) asks begun in
        let after = λ (v : Value) (ran : Tally). ChargeThen (counting.keeps v) (counting.freed (counting.mark now) ran) (next v) in
        keeping (copied hs) now (λ kept. ChargeThen (counting.works n k) kept (λ begun. EndingThen (call begun) after)) e h (
        λ kept m c. counted (counting.works n k) (by.works n k) kept (λ begun. EndingThen (call begun) after) e m (
        λ b o t. following t.0 after e (call_stays host key (values hs) b t.0 o t.1) (
        λ v ran g r. counted (counting.keeps v) (by.keeps v) (counting.freed (counting.mark now) ran) (next v) e (by.freed (counting.mark now) ran g) (f v) r
        ) t.2
        ) c
        ) p

  owned_stays : (o : Owner) (v : Value) (now : Tally) (next : Tally → Ending Tally → Type 0) (e : Ending Tally) → holds now → ((u : Tally) → holds u → next u e → In e) → ByOwner o (ChargeThen (counting.makes v) now next e) (next now e) → In e
  owned_stays lent v now next e h f p = f now h p
  owned_stays own v now next e h f p = counted (counting.makes v) (by.makes v) now next e h f p
  owned_stays placed v now next e h f p = f now h p

  after_stays : (x : Answer) (held : Value → Held) (now : Tally) (next : Held → Tally → Ending Tally → Type 0) (e : Ending Tally) → holds now → ((v : Value) (u : Tally) → holds u → next (held v) u e → In e)
      → AfterAnswer counting x held now next e → In e
  after_stays (Ok v) held now next e h f p = owned_stays (held v).owner (held v).value now (next (held v)) e h (f v) p
  after_stays (Err b) held now next e h f p = subst In (sym p) tt

  loads_stays : (o : Option Held) (next : Held → Ending Tally → Type 0) (e : Ending Tally) → ((h : Held) → next h e → In e) → LoadsHeld counting o next e → In e
  loads_stays (Some h) next e f p = f h p
  loads_stays None next e f p = absurd p

  pops_stays : (n : ℕ) (stack got : List Held) (now : Tally) (next : List Held → List Held → Tally → Ending Tally → Type 0) (e : Ending Tally) → holds now → ((hs rest : List Held) (u : Tally) → holds u → next hs rest u e → In e)
      → PopsHeld counting n stack got next now e → In e
  pops_stays zero stack got now next e h f p = f got stack now h p
  pops_stays (suc n) (v ∷ stack) got now next e h f p = pops_stays n stack (v ∷ got) now next e h f p
  pops_stays (suc n) [] got now next e h f p = absurd p

  branch_stays : (v : Value-F Value) (one other : Ending Tally → Type 0) (e : Ending Tally) → (one e → In e) → (other e → In e) → BranchThenLayer counting v one other e → In e
  branch_stays (Value-F.Bool true) one other e f g p = f p
  branch_stays (Value-F.Bool false) one other e f g p = g p
  branch_stays v one other e f g p = subst In (sym p) tt

  nil_stays : (v : Value-F Value) (nil other : Ending Tally → Type 0) (e : Ending Tally) → (nil e → In e) → (other e → In e) → NilThenLayer counting v nil other e → In e
  nil_stays Value-F.Nil nil other e f g p = f p
  nil_stays v nil other e f g p = g p

  module _ (costs : Costs) (world : World) where
    module _ (counts : CountsLater counting) (later : (n : ℕ) (slots : List Held) (now : Tally) (e : Ending Tally) → holds now → counts n slots now e → In e) where
      module _ (next : Next counting) (e : Ending Tally) (f : (k : ℕ) (st sl : List Held) (u : Tally) → holds u → next k st sl u e → In e) where
        -- an answer on the stack, once the work for it is counted
        answered : (n k : ℕ) (allowed : Answer → Type 0) (held : Value → Held) (stack slots : List Held) (now : Tally) → holds now
            → ChargeThen (counting.works n k) now (λ begun. AnswersThen counting allowed held begun (λ h. next 0 (h ∷ stack) slots)) e → In e
        answered n k allowed held stack slots now h p =
            counted (counting.works n k) (by.works n k) now (λ begun. AnswersThen counting allowed held begun (λ g. next 0 (g ∷ stack) slots)) e h (
            λ u m q. after_stays q.0 held u (λ g. next 0 (g ∷ stack) slots) e m (λ v. f 0 (held v ∷ stack) slots) q.2
            ) p

        one_stays : (op : Op) (stack slots : List Held) (now : Tally) → holds now → Counts counting costs world counts op next stack slots now e → In e
        one_stays (push v) stack slots now h p = f 0 (lend v ∷ stack) slots now h p
        one_stays (load i) stack slots now h p = loads_stays (slice_get slots i) (λ g. next 0 (g ∷ stack) slots now) e (λ g. f 0 (g ∷ stack) slots now h) p
        one_stays (look key) stack slots now h p = answered (costs.work (look key) []) 0 (λ a. a ≡ looked_with world.context key (world.context.value_of hash)) lend stack slots now h p
        one_stays (look_with key i) stack slots now h p =
            let looked = λ (item : Held) (begun : Tally). AnswersThen counting (λ a. a ≡ looked_with world.context key (Some item.value)) (field_held world.context key item) begun (λ g. next 0 (g ∷ stack) slots) in
            loads_stays (slice_get slots i) (λ item. ChargeThen (counting.works (costs.work (look_with key i) (item.value ∷ [])) 0) now (looked item)) e (
            λ item. answered (costs.work (look_with key i) (item.value ∷ [])) 0 (λ a. a ≡ looked_with world.context key (Some item.value)) (field_held world.context key item) stack slots now h
            ) p
        one_stays env stack slots now h p =
            let v = value.Map world.context.map in
            owned_stays (made v).owner v now (next 0 (made v ∷ stack) slots) e h (f 0 (made v ∷ stack) slots) p
        one_stays (store i) [] slots now h p = absurd p
        one_stays (store i) (g ∷ stack) slots now h p = f 0 stack (take i slots ++ settle g ∷ []) now h p
        one_stays (act a) stack slots now h p =
            let n = λ (hs : List Held). costs.work (act a) (values hs) in
            let k = λ (hs : List Held). costs.room (act a) (values hs) in
            pops_stays (takes a) stack [] now (λ hs rest u. ChargeThen (counting.works (n hs) (k hs)) u (λ begun. AnswersThen counting (AllowsAct world.host a (values hs)) (act_held a hs) begun (λ g. next 0 (g ∷ rest) slots))) e h (
            λ hs rest u m q. answered (n hs) (k hs) (AllowsAct world.host a (values hs)) (act_held a hs) rest slots u m q
            ) p
        one_stays (asks key n block slot binds) stack slots now h p =
            let op = asks key n block slot binds in
            let asked = λ (hs : List Held). AsksHeld counting costs world counts (items_owner hs) block slot binds slots in
            let after = λ (rest : List Held) (v : Value). next 0 (made v ∷ rest) (take slot slots) in
            pops_stays n stack [] now (λ hs rest. CountsAsking counting world.host key hs (counting.works (costs.work op (values hs)) (costs.room op (values hs))) (asked hs) (after rest)) e h (
            λ hs rest u m q. asking_stays (asked hs) (λ r w g o. later block (take slot slots ++ bound_helds (items_owner hs) binds r) w g o) world.host key hs (costs.work op (values hs)) (costs.room op (values hs)) (after rest) u e m (λ v. f 0 (made v ∷ rest) (take slot slots)) q
            ) p
        one_stays refuse stack slots now h p = subst In (sym p) tt
        one_stays (jump n) stack slots now h p = f n stack slots now h p
        one_stays (jump_if_false n) [] slots now h p = absurd p
        one_stays (jump_if_false n) (g ∷ stack) slots now h p = branch_stays (out-Value g.value) (next 0 stack slots now) (next n stack slots now) e (f 0 stack slots now h) (f n stack slots now h) p
        one_stays (and_then n) [] slots now h p = absurd p
        one_stays (and_then n) (g ∷ stack) slots now h p =
            let no : Held = lend (value.Bool false) in
            branch_stays (out-Value g.value) (next 0 stack slots now) (next n (no ∷ stack) slots now) e (f 0 stack slots now h) (f n (no ∷ stack) slots now h) p
        one_stays (or_else n) [] slots now h p = absurd p
        one_stays (or_else n) (g ∷ stack) slots now h p =
            let yes : Held = lend (value.Bool true) in
            branch_stays (out-Value g.value) (next n (yes ∷ stack) slots now) (next 0 stack slots now) e (f n (yes ∷ stack) slots now h) (f 0 stack slots now h) p
        one_stays (unless_nil n) [] slots now h p = absurd p
        one_stays (unless_nil n) (g ∷ stack) slots now h p = nil_stays (out-Value g.value) (next 0 stack slots now) (next n (g ∷ stack) slots now) e (f 0 stack slots now h) (f n (g ∷ stack) slots now h) p

      end_stays : (skip : ℕ) (stack slots : List Held) (now : Tally) (e : Ending Tally) → holds now → CountsEnd counting skip stack slots now e → In e
      end_stays zero [] slots now e h p = absurd p
      end_stays zero (v ∷ []) slots now e h p = subst In (sym p) h
      end_stays zero (v ∷ w ∷ stack) slots now e h p = absurd p
      end_stays (suc skip) stack slots now e h p = absurd p

      rest_stays : (ops : List Op) (skip : ℕ) (stack slots : List Held) (now : Tally) (e : Ending Tally) → holds now → CountsRest counting costs world counts ops (CountsEnd counting) skip stack slots now e → In e
      rest_stays [] skip stack slots now e h p = end_stays skip stack slots now e h p
      rest_stays (op ∷ ops) (suc skip) stack slots now e h p = rest_stays ops skip stack slots now e h p
      rest_stays (op ∷ ops) zero stack slots now e h p =
          one_stays (CountsRest counting costs world counts ops (CountsEnd counting)) e (λ k st sl u g q. rest_stays ops k st sl u e g q) op stack slots now h p

    pub runs_stay : (blocks : List (List Op)) (n : ℕ) (slots : List Held) (now : Tally) (e : Ending Tally) → holds now → CountsRuns counting costs world blocks n slots now e → In e
    runs_stay [] n slots now e h p = absurd p
    runs_stay (ops ∷ blocks) zero slots now e h p =
        counted (counting.enters (length ops)) (by.enters (length ops)) now (CountsRest counting costs world (CountsRuns counting costs world blocks) ops (CountsEnd counting) 0 [] slots) e h (
        λ u g q. rest_stays (CountsRuns counting costs world blocks) (runs_stay blocks) ops 0 [] slots u e g q
        ) p
    runs_stay (ops ∷ blocks) (suc n) slots now e h p = runs_stay blocks n slots now e h p

    pub code_stays : (blocks : List (List Op)) (now : Tally) (e : Ending Tally) → holds now → CodeCounts counting costs world blocks now e → In e
    code_stays blocks now e h (x, ran, p) =
        let mark = counting.mark now in
        following x (λ v u. ChargeThen (counting.keeps v) (counting.freed mark u) (λ last f. f ≡ gives v last)) e (runs_stay blocks 0 [] now x h ran) (
        λ v u g q. counted (counting.keeps v) (by.keeps v) (counting.freed mark u) (λ last f. f ≡ gives v last) e (by.freed mark u g) (λ last m is. subst In (sym is) m) q
        ) p
