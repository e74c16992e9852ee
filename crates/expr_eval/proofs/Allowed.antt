-- How the results of parts make the result of the whole.
use Rattle.std.proofs.Common.{◌≡◌, ℕ, ◌+◌, ◌<◌, ◌≤◌, List, [], ◌∷◌, ◌++◌, length, get_or, drop, String, Global, string_bytes, Result, Ok, Err, refl, ap, sym, ◌∙◌, subst, append_assoc, append-nil, rules, Vec}
use Rattle.std.proofs.lemmas.List.{drop_more, drop_all}
use Rattle.expr_tree.specs.Term.{Term, Terms, term, TermPairs, mapping, pair, Block, line}
use Rattle.expr_tree.specs.TermOf.{term_of}
use Rattle.expr_tree.specs.declared.node.Node as node
use Rattle.expr_tree.specs.declared.node.Node.{Node, the_lemmas as node_lemmas}
use Rattle.expr_eval.specs.Several.{field_terms}
use Rattle.expr_error.specs.ErrorKind.{ErrorKind}
use Rattle.expr_value.specs.Names.{put, put_all}
use Rattle.expr_value.specs.declared.value.Value.{Value}
use Rattle.expr_meaning.specs.Allows.{Allows, AllowsAll, AllowsBlock, AllowsPairs}
use Rattle.expr_eval.specs.Arguments.{AllowsMore}
use Rattle.expr_value.proofs.Answered.{first_of-Then}
use Rattle.expr_value.specs.Answers.{Answer}
use Rattle.expr_context.specs.Context.{override}
use Rattle.expr_meaning.specs.World.{World, with_context}
use Rattle.expr_eval.specs.Scope.{context_in}
use Rattle.expr_eval.proofs.Scoped.{context_in-pushed}
use Rattle.expr_eval.specs.declared.scope.Scope.{Scope, out-Scope}
use Rattle.expr_eval.specs.declared.scope.Binding.{Binding}

pub term_of-pairs : (ps : Vec (String Global × Node) Global) → term_of (node.Map ps) ≡ mapping (field_terms ps.items)
term_of-pairs ps = search (rules, node_lemmas)

-- these values, and then what the rest gives
abbrev pub prepended : {A : Type 0} → List A → Result (List A) ErrorKind → Result (List A) ErrorKind
prepended vs (Ok ws) = Ok (vs ++ ws)
prepended vs (Err e) = Err e

prepended-prepended : {A : Type 0} (us vs : List A) (r : Result (List A) ErrorKind) → prepended us (prepended vs r) ≡ prepended (us ++ vs) r
prepended-prepended us vs (Ok ws) = ap Ok (sym (append_assoc us vs ws))
prepended-prepended us vs (Err e) = refl

pub drop-at : {X : Type 0} (xs : List X) (i : ℕ) (x : X) → x ≡ get_or xs i x → i < length xs → drop i xs ≡ x ∷ drop (i + 1) xs
drop-at xs i x is below = drop_more xs i x below ∙ ap (λ y. y ∷ drop (i + 1) xs) (sym is)

-- a loop over a list that goes through it as a relation does, from the first item to the last
module _ {X A : Type 0} (All : List X → Result (List A) ErrorKind → Type 0) (Whole : Result (List A) ErrorKind → Type 0) (xs : List X) (i : ℕ) (done : List A)
    (goes_on : (rest : Result (List A) ErrorKind) → All (drop i xs) rest → Whole (prepended done rest)) where
  pub loop-step : (x : X) (v : A) → x ≡ get_or xs i x → i < length xs
      → ((rest : Result (List A) ErrorKind) → All (drop (i + 1) xs) rest → All (x ∷ drop (i + 1) xs) (prepended (v ∷ []) rest))
      → (rest : Result (List A) ErrorKind) → All (drop (i + 1) xs) rest → Whole (prepended (done ++ v ∷ []) rest)
  loop-step x v is below one rest p =
      subst Whole (prepended-prepended done (v ∷ []) rest) (
      goes_on (prepended (v ∷ []) rest) (subst (λ ys. All ys (prepended (v ∷ []) rest)) (sym (drop-at xs i x is below)) (one rest p))
      )

  pub loop-failed : (x : X) (e : ErrorKind) → x ≡ get_or xs i x → i < length xs → All (x ∷ drop (i + 1) xs) (Err e) → Whole (Err e)
  loop-failed x e is below p = goes_on (Err e) (subst (λ ys. All ys (Err e)) (sym (drop-at xs i x is below)) p)

  pub loop-done : length xs ≤ i → All [] (Ok []) → Whole (Ok done)
  loop-done over p =
      subst (λ vs. Whole (Ok vs)) (append-nil done) (goes_on (Ok []) (subst (λ ys. All ys (Ok [])) (sym (drop_all i xs over)) p))

-- these values before what the terms give
pub AllowsMore-all : (world : World) (vs : List Value) (ts : Terms) (rest : Result (List Value) ErrorKind) → AllowsAll world ts rest → AllowsMore world vs ts (prepended vs rest)
AllowsMore-all world vs ts (Ok ws) p = (Ok ws, p, refl)
AllowsMore-all world vs ts (Err e) p = (Err e, p, refl)

-- the values of the terms, after those that were there already
pub AllowsMore-rest : (world : World) (vs : List Value) (ts : Terms) (all : List Value) → AllowsMore world vs ts (Ok all)
    → (ws : List Value) × AllowsAll world ts (Ok ws) × (all ≡ vs ++ ws)
AllowsMore-rest world vs ts all p =
    let q = first_of-Then (AllowsAll world ts) (λ ws a. a ≡ Ok (vs ++ ws)) all p in
    let same : all ≡ vs ++ q.0 = cc q.2 in
    (q.0, q.1, same)

-- the first answer of a list, and then the others
pub AllowsAll-first : (world : World) (t : Term) (ts : Terms) (v : Value) → Allows world t (Ok v)
    → (rest : Result (List Value) ErrorKind) → AllowsAll world ts rest → AllowsAll world (term t ts) (prepended (v ∷ []) rest)
AllowsAll-first world t ts v p (Ok vs) q = (Ok v, p, (Ok vs, q, refl))
AllowsAll-first world t ts v p (Err e) q = (Ok v, p, (Err e, q, refl))

-- the first pair of a map literal, and then the others
pub AllowsPairs-first : (world : World) (key : List ℕ) (t : Term) (ps : TermPairs) (v : Value) → Allows world t (Ok v)
    → (rest : Result (List (List ℕ × Value)) ErrorKind) → AllowsPairs world ps rest → AllowsPairs world (pair key t ps) (prepended ((key, v) ∷ []) rest)
AllowsPairs-first world key t ps v p (Ok ms) q = (Ok v, p, (Ok ms, q, refl))
AllowsPairs-first world key t ps v p (Err e) q = (Ok v, p, (Err e, q, refl))

-- one pair more that is put into a map
pub put_all-last : (start pairs : List (List ℕ × Value)) (p : List ℕ × Value) → put_all start (pairs ++ p ∷ []) ≡ put p.0 p.1 (put_all start pairs)
put_all-last start [] p = refl
put_all-last start (q ∷ pairs) p = put_all-last (put q.0 q.1 start) pairs p

-- a line, and then the rest of the program under it
pub AllowsBlock-line : (world : World) (scope scope' : Scope) (b : Binding) (key : String Global) (t : Term) (rest : Block) (answer : Answer)
    → (out-Scope scope').bindings.items ≡ (out-Scope scope).bindings.items ++ b ∷ [] → (out-Scope scope').predicate_args ≡ (out-Scope scope).predicate_args
    → (out-Scope scope').outer ≡ (out-Scope scope).outer
    → b.name.now ≡ string_bytes key → Allows (with_context world (context_in scope world.context)) t (Ok b.value)
    → AllowsBlock (with_context world (context_in scope' world.context)) rest answer → AllowsBlock (with_context world (context_in scope world.context)) (line (string_bytes key) t rest) answer
AllowsBlock-line world scope scope' b key t rest answer pushed asked same named allowed p = (
  Ok b.value,
  allowed,
  subst (λ ctx. AllowsBlock (with_context world ctx) rest answer) (
      context_in-pushed scope scope' b world.context pushed asked same ∙ ap (λ n. override (context_in scope world.context) n b.value) named
      ) p,
)
