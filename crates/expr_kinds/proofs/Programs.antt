-- Well-typed programs don't go wrong, by cases on the tree.
use Rattle.std.proofs.Common.{◌≡◌, ◌⊎◌, ℕ, ℤ, true, false, List, [], ◌∷◌, Option, None, Ok, refl, sym, subst, inl, inr}
use Rattle.expr_tree.specs.Term.{Term, name, literal, list, mapping, range, call, unary, operation, postfix, choice, Postfix, index, slice, coalesce, pipe, ternary, method, Bound, unbounded, bound, Terms, no_terms, term, TermPairs, pairs_end, pair, Predicate, no_predicate, predicate, Block, answers, line}
use Rattle.expr_meaning.specs.Allows.{Allows, AllowsAll, AllowsPredicate, AllowsBlock, AllowsBound, AllowsCall, AllowsPairs, AllowsPiped, AllowsPostfix, BranchMayReturnLayer, is_given}
use Rattle.expr_meaning.specs.Host.{Host}
use Rattle.expr_meaning.specs.Methods.{AllowsMethod}
use Rattle.expr_meaning.specs.World.{world_of, where_bound}
use Rattle.expr_operators.specs.Operators.{unary_answer}
use Rattle.expr_operators.specs.Positions.{checked_bound, range_answer, slice_answer}
use Rattle.expr_functions.specs.Strictness.{operator_strictness}
use Rattle.expr_context.specs.Told.{PredicateArgsView}
use Rattle.expr_context.specs.Context.{ContextView, override}
use Rattle.expr_context.specs.Lookups.{predicate_context}
use Rattle.expr_operators.specs.Bounds.{some_bound}
use Rattle.expr_value.specs.Answers.{Then}
use Rattle.expr_value.specs.Names.{find, put, put_all}
use Rattle.expr_value.specs.declared.value.Value as value
use Rattle.expr_value.specs.declared.value.Value.{Value, out-Value}
use Rattle.expr_schema.specs.Kinds.{Kind, bool, integer, string, bytes, array, map, Fields, no_others, field, HasKind, StandsAt, Each, Fits, Effect, total}
use Rattle.expr_kinds.specs.Effects.{ResultIs, Yields}
use Rattle.expr_schema.specs.Scopes.{Scope, Conforms}
use Rattle.expr_kinds.specs.Scopes.{Hosts, HaveKinds, bind_kind}
use Rattle.expr_kinds.specs.Tables.{unary_kind}
use Rattle.expr_kinds.specs.Typed.{literal_of, literals_of, Typed, TypedPostfix, TypedBound, TypedPiped, TypedPredicate, TypedAll, TypedEach, TypedPairs, TypedBlock}
use Rattle.expr_kinds.proofs.Answered.{value-yields, same-yields, ResultIs-under, Then-yields, with-allowed}
use Rattle.expr_kinds.proofs.Known.{Within-yields, Unknown-yields}
use Rattle.expr_kinds.specs.Narrowing.{after, assuming}
use Rattle.expr_kinds.proofs.Standing.{stands-put}
use Rattle.expr_kinds.proofs.Narrowed.{assuming-conforms, assuming-hosts, after-conforms, after-hosts}
use Rattle.expr_kinds.proofs.Parts.{index-yields, range-integers, bound-integer, slice-array, slice-string, slice-bytes}
use Rattle.expr_kinds.proofs.Rows.{unary-holds}
use Rattle.expr_kinds.proofs.Binding.{Conforms-bind, Hosts-bind}
use Rattle.expr_kinds.proofs.Calling.{call-yields}
use Rattle.expr_kinds.proofs.Held.{Of, at-kind}
use Rattle.expr_kinds.proofs.Literals.{known-all, known-before}
use Rattle.expr_kinds.proofs.NameKinds.{name-yields}
use Rattle.expr_kinds.proofs.OnMethods.{method-yields}
use Rattle.expr_kinds.proofs.Operating.{branch-yields, defaults-yields, operation-yields}

-- what stands at each name of a map
abbrev Stand : Fields → List (List ℕ × Value) → Type 0
Stand fs m = (n : List ℕ) → StandsAt fs n (find n m)

-- pairs that bring each map of some fields to one of others
abbrev Bring : Fields → Fields → List (List ℕ × Value) → Type 0
Bring before fs ms = (m : List (List ℕ × Value)) → Stand before m → Stand fs (put_all m ms)

module _ (e : Effect) (host : Host) where
  mutual
    typed : (s : Scope) → Hosts s host → (ctx : ContextView) → Conforms s ctx → (t : Term) (k : Kind) → Typed e s t k → Yields e (Of k) (Allows (world_of host ctx) t)
    typed s hs ctx c (name key) k (inl q) a p = name-yields e s ctx c key k q a p
    typed s hs ctx c (name key) k (inr u) a p = Unknown-yields e k u (Allows (world_of host ctx) (name key)) a p
    typed s hs ctx c (literal v) k q a p = value-yields e (Of k) v q a p
    typed s hs ctx c (list ts) k (inl (item, q, each)) a p =
        at-kind e k (array item) a q (Then-yields e (λ vs. Each (Of item) vs) (Of (array item)) (AllowsAll (world_of host ctx) ts) (λ vs r. r ≡ Ok (value.Array vs)) (typed-all s hs ctx c ts item each) (
        λ vs g. value-yields e (Of (array item)) (value.Array vs) (vs, refl, g)) a p)
    typed s hs ctx c (mapping ps) k (inl (fs, q, each)) a p =
        at-kind e k (map fs) a q (Then-yields e (Bring no_others fs) (Of (map fs)) (AllowsPairs (world_of host ctx) ps) (λ ms r. r ≡ Ok (value.Map (put_all [] ms))) (typed-pairs s hs ctx c ps no_others fs each) (
        λ ms g. value-yields e (Of (map fs)) (value.Map (put_all [] ms)) (put_all [] ms, refl, g [] (λ n. refl))) a p)
    typed s hs ctx c (range first last) k (inl (wf, wl, q)) a p =
        at-kind e k (array integer) a q (Then-yields e (Of integer) (Of (array integer)) (Allows (world_of host ctx) first) (λ x. Then (Allows (world_of host ctx) last) (λ y r. r ≡ range_answer x y)) (
        Within-yields e (λ b. Typed e s first b) (Allows (world_of host ctx) first) (λ b h. typed s hs ctx c first b h) integer wf) (
        λ x hx. Then-yields e (Of integer) (Of (array integer)) (Allows (world_of host ctx) last) (λ y r. r ≡ range_answer x y) (
        Within-yields e (λ b. Typed e s last b) (Allows (world_of host ctx) last) (λ b h. typed s hs ctx c last b h) integer wl) (
        λ y hy. same-yields e (Of (array integer)) (range_answer x y) (range-integers e x y hx hy))) a p)
    typed s hs ctx c (list ts) k (inr u) a p = Unknown-yields e k u (Allows (world_of host ctx) (list ts)) a p
    typed s hs ctx c (mapping ps) k (inr u) a p = Unknown-yields e k u (Allows (world_of host ctx) (mapping ps)) a p
    typed s hs ctx c (range first last) k (inr u) a p = Unknown-yields e k u (Allows (world_of host ctx) (range first last)) a p
    typed s hs ctx c (call key ts q) k (inl (ks, each, gives)) a p =
        Then-yields e (λ vs. HaveKinds ks vs × AllowsAll (world_of host ctx) ts (Ok vs)) (Of k) (AllowsAll (world_of host ctx) ts) (λ vs. AllowsCall host key vs (is_given q) (AllowsPredicate (world_of host ctx) q)) (
        with-allowed e (λ vs. HaveKinds ks vs) (AllowsAll (world_of host ctx) ts) (typed-each s hs ctx c ts ks each)) (
        λ vs have. call-yields e host s hs ctx c (λ inside item answer. TypedPredicate e inside item q answer) (AllowsPredicate (world_of host ctx) q) (
        λ inside hi item answer tq x conf h. typed-predicate inside hi ctx item x conf h q answer tq) key (is_given q) k (literals_of ts) ks vs have.0 (known-all (world_of host ctx) ts vs have.1) gives) a p
    typed s hs ctx c (call key ts q) k (inr u) a p = Unknown-yields e k u (Allows (world_of host ctx) (call key ts q)) a p
    typed s hs ctx c (unary op t) k (inl (w, q)) a p =
        at-kind e k (unary_kind op) a q (Then-yields e (Of (unary_kind op)) (Of (unary_kind op)) (Allows (world_of host ctx) t) (λ v r. r ≡ unary_answer op v) (
        Within-yields e (λ b. Typed e s t b) (Allows (world_of host ctx) t) (λ b h. typed s hs ctx c t b h) (unary_kind op) w) (
        λ v h. same-yields e (Of (unary_kind op)) (unary_answer op v) (ResultIs-under total e (Of (unary_kind op)) (Of (unary_kind op)) (λ u i. i) (λ f i. absurd i) (unary_answer op v) (unary-holds op v h))) a p)
    typed s hs ctx c (unary op t) k (inr u) a p = Unknown-yields e k u (Allows (world_of host ctx) (unary op t)) a p
    typed s hs ctx c (operation op l r) k (inl q) a p =
        operation-yields e op (literal_of l ∷ literal_of r ∷ []) (λ b. Typed e s l b) (λ b. Typed e (after (operator_strictness op) l s) r b) (Allows (world_of host ctx) l) (Allows (world_of host ctx) r) (λ b h. typed s hs ctx c l b h) (
        λ x y px py. known-before (world_of host ctx) l x (literal_of r ∷ []) (y ∷ []) px (known-before (world_of host ctx) r y [] [] py tt)) k (operator_strictness op) (
        λ x at goes_on b h. typed (after (operator_strictness op) l s) (after-hosts host (operator_strictness op) l s hs) ctx (after-conforms host ctx (operator_strictness op) l s c x at goes_on) r b h) q a p
    typed s hs ctx c (operation op l r) k (inr u) a p = Unknown-yields e k u (Allows (world_of host ctx) (operation op l r)) a p
    typed s hs ctx c (postfix q t) k (inl (b, h, gives)) a p =
        Then-yields e (λ v. Of b v × Allows (world_of host ctx) t (Ok v)) (Of k) (Allows (world_of host ctx) t) (λ v. AllowsPostfix (world_of host ctx) q v) (with-allowed e (Of b) (Allows (world_of host ctx) t) (typed s hs ctx c t b h)) (
        λ v i. typed-postfix s hs ctx c t q b k gives v i.0 i.1) a p
    typed s hs ctx c (postfix q t) k (inr u) a p = Unknown-yields e k u (Allows (world_of host ctx) (postfix q t)) a p
    typed s hs ctx c (choice t first second) k (inl (w, wf, ws)) a p =
        Then-yields e (λ v. Of bool v × Allows (world_of host ctx) t (Ok v)) (Of k) (Allows (world_of host ctx) t) (λ v. BranchMayReturnLayer (out-Value v) (AllowsBlock (world_of host ctx) first) (AllowsBlock (world_of host ctx) second)) (
        with-allowed e (Of bool) (Allows (world_of host ctx) t) (Within-yields e (λ b. Typed e s t b) (Allows (world_of host ctx) t) (λ b h. typed s hs ctx c t b h) bool w)) (
        λ v h. branch-yields e k (AllowsBlock (world_of host ctx) first) (AllowsBlock (world_of host ctx) second) v
        (λ yes. Within-yields e (λ b. TypedBlock e (assuming t true s) first b) (AllowsBlock (world_of host ctx) first) (
        λ b i. typed-block (assuming t true s) (assuming-hosts host t true s hs) ctx (assuming-conforms host ctx t true s c v yes h.1) first b i) k wf)
        (λ no. Within-yields e (λ b. TypedBlock e (assuming t false s) second b) (AllowsBlock (world_of host ctx) second) (
        λ b i. typed-block (assuming t false s) (assuming-hosts host t false s hs) ctx (assuming-conforms host ctx t false s c v no h.1) second b i) k ws) h.0) a p
    typed s hs ctx c (choice t first second) k (inr u) a p = Unknown-yields e k u (Allows (world_of host ctx) (choice t first second)) a p

    typed-postfix : (s : Scope) → Hosts s host → (ctx : ContextView) → Conforms s ctx → (o : Term) (q : Postfix) (b k : Kind) → TypedPostfix e s o q b k → (v : Value) → HasKind b v → Allows (world_of host ctx) o (Ok v) → Yields e (Of k) (AllowsPostfix (world_of host ctx) q v)
    typed-postfix s hs ctx c o (index key optional) b k gives v h at a p =
        index-yields e optional key (λ j. Typed e s key j) (Allows (world_of host ctx) key) (λ j i. typed s hs ctx c key j i) (
        λ n by x w. subst (λ t. Allows (world_of host ctx) t x) by w) b k gives v h a p
    typed-postfix s hs ctx c o (slice start stop) b k (hf, ht, gives) v h at a p =
        Then-yields e (λ (o : Option ℤ). Unit {0}) (Of k) (AllowsBound (world_of host ctx) start) (λ from. Then (AllowsBound (world_of host ctx) stop) (λ to r. r ≡ slice_answer v from to)) (typed-bound s hs ctx c start hf) (
        λ from u. Then-yields e (λ (o : Option ℤ). Unit {0}) (Of k) (AllowsBound (world_of host ctx) stop) (λ to r. r ≡ slice_answer v from to) (typed-bound s hs ctx c stop ht) (
        λ to w. same-yields e (Of k) (slice_answer v from to) (sliced gives from to))) a p
      where
        sliced : ((item : Kind) × Fits b (array item) × (k ≡ array item)) ⊎ ((Fits b string × (k ≡ string)) ⊎ (Fits b bytes × (k ≡ bytes))) → (from to : Option ℤ) → ResultIs e (Of k) (slice_answer v from to)
        sliced (inl (item, fits, q)) from to = at-kind e k (array item) (slice_answer v from to) q (slice-array e v from to item (fits v h))
        sliced (inr (inl (fits, q))) from to = at-kind e k string (slice_answer v from to) q (slice-string e v from to (fits v h))
        sliced (inr (inr (fits, q))) from to = at-kind e k bytes (slice_answer v from to) q (slice-bytes e v from to (fits v h))
    typed-postfix s hs ctx c o (coalesce t) b k (j, fits, fits_k, w) v h at a p =
        defaults-yields e j k fits_k (Allows (world_of host ctx) t) (Within-yields e (λ i. Typed e s t i) (Allows (world_of host ctx) t) (λ i u. typed s hs ctx c t i u) k w) v (fits v h) a p
    typed-postfix s hs ctx c o (pipe t) b k gives v h at a p = typed-piped s hs ctx c o t b k gives v h at a p
    typed-postfix s hs ctx c o (ternary first second) b k (fits, wf, ws) v h at a p =
        branch-yields e k (Allows (world_of host ctx) first) (Allows (world_of host ctx) second) v
        (λ yes. Within-yields e (λ i. Typed e (assuming o true s) first i) (Allows (world_of host ctx) first) (
        λ i u. typed (assuming o true s) (assuming-hosts host o true s hs) ctx (assuming-conforms host ctx o true s c v yes at) first i u) k wf)
        (λ no. Within-yields e (λ i. Typed e (assuming o false s) second i) (Allows (world_of host ctx) second) (
        λ i u. typed (assuming o false s) (assuming-hosts host o false s hs) ctx (assuming-conforms host ctx o false s c v no at) second i u) k ws) (fits v h) a p
    typed-postfix s hs ctx c o (method key ts) b k (ks, each, gives) v h at a p =
        Then-yields e (λ vs. HaveKinds ks vs) (Of k) (AllowsAll (world_of host ctx) ts) (λ vs. AllowsMethod key v vs) (typed-each s hs ctx c ts ks each) (λ vs have. method-yields e b key ks k gives v h vs have) a p

    typed-bound : (s : Scope) → Hosts s host → (ctx : ContextView) → Conforms s ctx → (b : Bound) → TypedBound e s b → Yields e (λ (o : Option ℤ). Unit {0}) (AllowsBound (world_of host ctx) b)
    typed-bound s hs ctx c unbounded h a p = value-yields e (λ (o : Option ℤ). Unit {0}) None tt a p
    typed-bound s hs ctx c (bound t) w a p =
        Then-yields e (Of integer) (λ (o : Option ℤ). Unit {0}) (Allows (world_of host ctx) t) (λ v r. r ≡ some_bound (checked_bound v)) (
        Within-yields e (λ i. Typed e s t i) (Allows (world_of host ctx) t) (λ i u. typed s hs ctx c t i u) integer w) (
        λ v h. same-yields e (λ (o : Option ℤ). Unit {0}) (some_bound (checked_bound v)) (bound-integer e v h)) a p

    typed-piped : (s : Scope) → Hosts s host → (ctx : ContextView) → Conforms s ctx → (o t : Term) (b k : Kind) → TypedPiped e s o t b k → (v : Value) → HasKind b v → Allows (world_of host ctx) o (Ok v) → Yields e (Of k) (AllowsPiped (world_of host ctx) t v)
    typed-piped s hs ctx c o (call key ts q) b k (j, ks, fits, each, gives) v h at a p =
        Then-yields e (λ vs. HaveKinds ks vs × AllowsAll (world_of host ctx) ts (Ok vs)) (Of k) (AllowsAll (world_of host ctx) ts) (λ vs. AllowsCall host key (v ∷ vs) (is_given q) (AllowsPredicate (world_of host ctx) q)) (
        with-allowed e (λ vs. HaveKinds ks vs) (AllowsAll (world_of host ctx) ts) (typed-each s hs ctx c ts ks each)) (
        λ vs have. call-yields e host s hs ctx c (λ inside item answer. TypedPredicate e inside item q answer) (AllowsPredicate (world_of host ctx) q) (
        λ inside hi item answer tq x conf i. typed-predicate inside hi ctx item x conf i q answer tq) key (is_given q) k (literal_of o ∷ literals_of ts) (j ∷ ks) (v ∷ vs) (fits v h, have.0)
        (known-before (world_of host ctx) o v (literals_of ts) vs at (known-all (world_of host ctx) ts vs have.1)) gives) a p
    typed-piped s hs ctx c o t b k gives v h at a p = absurd gives

    typed-predicate : (inside : Scope) → Hosts inside host → (ctx : ContextView) (item : Kind) (x : PredicateArgsView) → Conforms inside (predicate_context ctx x) → HasKind item x.item
        → (q : Predicate) (k : Kind) → TypedPredicate e inside item q k → Yields e (Of k) (AllowsPredicate (world_of host ctx) q x)
    typed-predicate inside hi ctx item x conf h no_predicate k q a p = at-kind e k item a q (value-yields e (Of item) x.item h a p)
    typed-predicate inside hi ctx item x conf h (predicate b) k q a p = typed-block inside hi (predicate_context ctx x) conf b k q a p

    typed-all : (s : Scope) → Hosts s host → (ctx : ContextView) → Conforms s ctx → (ts : Terms) (k : Kind) → TypedAll e s ts k → Yields e (λ vs. Each (Of k) vs) (AllowsAll (world_of host ctx) ts)
    typed-all s hs ctx c no_terms k h a p = value-yields e (λ vs. Each (Of k) vs) [] tt a p
    typed-all s hs ctx c (term t ts) k (w, more) a p =
        Then-yields e (Of k) (λ vs. Each (Of k) vs) (Allows (world_of host ctx) t) (λ v. Then (AllowsAll (world_of host ctx) ts) (λ vs r. r ≡ Ok (v ∷ vs))) (
        Within-yields e (λ i. Typed e s t i) (Allows (world_of host ctx) t) (λ i u. typed s hs ctx c t i u) k w) (
        λ v h. Then-yields e (λ vs. Each (Of k) vs) (λ vs. Each (Of k) vs) (AllowsAll (world_of host ctx) ts) (λ vs r. r ≡ Ok (v ∷ vs)) (typed-all s hs ctx c ts k more) (
        λ vs g. value-yields e (λ us. Each (Of k) us) (v ∷ vs) (h, g))) a p

    typed-each : (s : Scope) → Hosts s host → (ctx : ContextView) → Conforms s ctx → (ts : Terms) (ks : List Kind) → TypedEach e s ts ks → Yields e (λ vs. HaveKinds ks vs) (AllowsAll (world_of host ctx) ts)
    typed-each s hs ctx c no_terms ks q a p = value-yields e (λ vs. HaveKinds ks vs) [] (subst (λ js. HaveKinds js []) (sym q) tt) a p
    typed-each s hs ctx c (term t ts) ks (k, rest, q, w, more) a p =
        Then-yields e (Of k) (λ vs. HaveKinds ks vs) (Allows (world_of host ctx) t) (λ v. Then (AllowsAll (world_of host ctx) ts) (λ vs r. r ≡ Ok (v ∷ vs))) (
        Within-yields e (λ i. Typed e s t i) (Allows (world_of host ctx) t) (λ i u. typed s hs ctx c t i u) k w) (
        λ v h. Then-yields e (λ vs. HaveKinds rest vs) (λ vs. HaveKinds ks vs) (AllowsAll (world_of host ctx) ts) (λ vs r. r ≡ Ok (v ∷ vs)) (typed-each s hs ctx c ts rest more) (
        λ vs g. value-yields e (λ us. HaveKinds ks us) (v ∷ vs) (subst (λ js. HaveKinds js (v ∷ vs)) (sym q) (h, g)))) a p

    typed-pairs : (s : Scope) → Hosts s host → (ctx : ContextView) → Conforms s ctx → (ps : TermPairs) (before fs : Fields) → TypedPairs e s ps before fs → Yields e (Bring before fs) (AllowsPairs (world_of host ctx) ps)
    typed-pairs s hs ctx c pairs_end before fs q a p = value-yields e (Bring before fs) [] (λ m f. subst (λ gs. Stand gs m) (sym q) f) a p
    typed-pairs s hs ctx c (pair key t ps) before fs (k, h, more) a p =
        Then-yields e (Of k) (Bring before fs) (Allows (world_of host ctx) t) (λ v. Then (AllowsPairs (world_of host ctx) ps) (λ ms r. r ≡ Ok ((key, v) ∷ ms))) (typed s hs ctx c t k h) (
        λ v i. Then-yields e (Bring (field key k true before) fs) (Bring before fs) (AllowsPairs (world_of host ctx) ps) (λ ms r. r ≡ Ok ((key, v) ∷ ms)) (typed-pairs s hs ctx c ps (field key k true before) fs more) (
        λ ms g. value-yields e (Bring before fs) ((key, v) ∷ ms) (λ m f. g (put key v m) (stands-put k key v i before m f)))) a p

    pub typed-block : (s : Scope) → Hosts s host → (ctx : ContextView) → Conforms s ctx → (b : Block) (k : Kind) → TypedBlock e s b k → Yields e (Of k) (AllowsBlock (world_of host ctx) b)
    typed-block s hs ctx c (answers t) k h a p = typed s hs ctx c t k h a p
    typed-block s hs ctx c (line key t b) k (j, h, more) a p =
        Then-yields e (Of j) (Of k) (Allows (world_of host ctx) t) (λ v. AllowsBlock (where_bound (world_of host ctx) key v) b) (typed s hs ctx c t j h) (
        λ v i. typed-block (bind_kind key j s) (Hosts-bind j key s host hs) (override ctx key v) (Conforms-bind j key v i s ctx c) b k more) a p
