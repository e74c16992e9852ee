-- How what is told of parts makes what is told of the whole.
use Rattle.std.proofs.Common.{◌≡◌, ℕ, zero, suc, ◌+◌, ◌<◌, ◌≤◌, List, [], ◌∷◌, ◌++◌, length, get_or, ◌⊎◌, inl, inr, true, false, Result, Ok, Err, is_ok, if◌then◌else◌, String, Global, refl, sym, ap, ◌∙◌, subst, append_assoc, append-nil, arith}
use Rattle.std.specs.List.{All}
use Rattle.std.proofs.lemmas.List.Elements.{All-nil, All-cons, All-append, All-weaker}
use Rattle.expr_context.specs.Context.{ContextView, override}
use Rattle.expr_error.specs.ErrorKind.{ErrorKind}
use Rattle.expr_explain.specs.Choosing.{GoesRight}
use Rattle.expr_explain.specs.Noting.{AddsOne, IsNote}
use Rattle.expr_explain.specs.Standing.{InBlock, InBranches, InParts, InRight, InTree, Spot, spot_at}
use Rattle.expr_explain.specs.Telling.{IsFound, IsToldOfProgram, IsToldAt, IsToldOf, TellsOf}
use Rattle.expr_explain.specs.declared.notes.PartFinding.{PartFinding}
use Rattle.expr_explain.specs.declared.notes.PartFinding.TheVariants as finding
use Rattle.expr_explain.specs.declared.notes.Told.{Told}
use Rattle.expr_functions.specs.declared.operator.Operator.{Operator}
use Rattle.expr_functions.specs.declared.operator.UnaryOperator.{UnaryOperator}
use Rattle.expr_functions.specs.Strictness.{operator_strictness}
use Rattle.expr_functions.specs.declared.strictness.Strictness.{Strictness}
use Rattle.expr_functions.specs.declared.strictness.Strictness.TheVariants.{Both, EndsAtFalse, EndsAtTrue, Pattern}
use Rattle.expr_meaning.specs.Allows.{Allows, AllowsBlock, AndThenLayer, OperationMayReturn, OperationMayReturnBy, OrElseLayer}
use Rattle.expr_meaning.specs.Host.{Host}
use Rattle.expr_meaning.specs.World.{world_of}
use Rattle.expr_tree.specs.Term.{Term, unary, operation, choice, Block, line}
use Rattle.expr_operators.specs.Matching.{MatchMayReturn}
use Rattle.expr_operators.specs.Operators.{operator_answer, truth}
use Rattle.expr_tree.proofs.Weights.{named_weight}
use Rattle.expr_tree.specs.TermOf.{term_of}
use Rattle.expr_tree.specs.Weight.{weight, block_weight}
use Rattle.expr_tree.specs.declared.node.Node.{Node}
use Rattle.expr_value.proofs.Answered.{first-keeps}
use Rattle.expr_value.specs.Answers.{Answer}
use Rattle.expr_value.specs.declared.value.Value as value
use Rattle.expr_value.specs.declared.value.Value.{Value, out-Value}
use Rattle.expr_value.specs.declared.value.Value.TheOpen.{Value-F}

module _ (host : Host) where
  pub tells_none : (among : Spot → Type 0) (a b : List Told) → b ≡ a → TellsOf host among a b
  tells_none among a b same = record {
    added = [];
    new_is = same ∙ sym (append-nil a);
    of_these = All-nil (IsToldOf host among);
  }

  pub tells_then : (among : Spot → Type 0) (a b c : List Told) → TellsOf host among a b → TellsOf host among b c → TellsOf host among a c
  tells_then among a b c p q = record {
    added = p.added ++ q.added;
    new_is = q.new_is ∙ ap (λ xs. xs ++ q.added) p.new_is ∙ append_assoc a p.added q.added;
    of_these = All-append (IsToldOf host among) p.added q.added p.of_these q.of_these;
  }

  pub tells_among : (P Q : Spot → Type 0) (a b : List Told) → ((s : Spot) → P s → Q s) → TellsOf host P a b → TellsOf host Q a b
  tells_among P Q a b f p = record {
    added = p.added;
    new_is = p.new_is;
    of_these = All-weaker (IsToldOf host P) (IsToldOf host Q) (λ told x. (x.0, f x.0 x.1, x.2)) p.added p.of_these;
  }

  pub tells_same : (among : Spot → Type 0) (a b c : List Told) → c ≡ b → TellsOf host among a b → TellsOf host among a c
  tells_same among a b c same p = subst (λ xs. TellsOf host among a xs) (sym same) p

  tells_note : (among : Spot → Type 0) (a b : List Told) (spot : Spot) (ended : ℕ) (found : PartFinding) → among spot → ended ≡ spot.before + weight spot.tree
      → IsFound (Allows (world_of host spot.names) spot.tree) found → AddsOne a b spot.tree ended found → TellsOf host among a b
  tells_note among a b spot ended found here counted allowed (inl same) = tells_none among a b same
  tells_note among a b spot ended found here counted allowed (inr (told, new, note)) = record {
    added = told ∷ [];
    new_is = new;
    of_these =
        All-cons (IsToldOf host among) told [] (
          spot,
          here,
          record {
            tree = note.same;
            number = note.under ∙ counted;
            found = subst (λ f. IsFound (Allows (world_of host spot.names) spot.tree) f) (sym note.gives) allowed;
          },
        ) (All-nil (IsToldOf host among));
  }

  -- a node, after its parts
  module _ (names : ContextView) (n : ℕ) (t : Term) (a b c : List Told) where
    inside : TellsOf host (InParts host names n t) a b → TellsOf host (InTree host names n t) a b
    inside p = tells_among (InParts host names n t) (InTree host names n t) a b (λ s x. inr x) p

    pub tells_failing : TellsOf host (InParts host names n t) a b → TellsOf host (InTree host names n t) a b
    tells_failing p = inside p

    pub tells_value : (v : Value) (ended : ℕ) → TellsOf host (InParts host names n t) a b → ended ≡ n + weight t → Allows (world_of host names) t (Ok v)
        → AddsOne b c t ended (finding.Value v) → TellsOf host (InTree host names n t) a c
    tells_value v ended p counted allowed one =
        tells_then (InTree host names n t) a b c (inside p) (
        tells_note (InTree host names n t) b c (spot_at names n t) ended (finding.Value v) (inl refl) counted allowed one
        )

    pub tells_error : (k : ErrorKind) → TellsOf host (InParts host names n t) a b → Allows (world_of host names) t (Err k)
        → AddsOne b c t (n + weight t) finding.Failed → TellsOf host (InTree host names n t) a c
    tells_error k p allowed one =
        tells_then (InTree host names n t) a b c (inside p) (
        tells_note (InTree host names n t) b c (spot_at names n t) (n + weight t) finding.Failed (inl refl) refl (k, allowed) one
        )

  -- the first part of a node
  module _ (names : ContextView) (n : ℕ) (whole : Term) (a b : List Told) where
    pub tells_operand : (o : UnaryOperator) (t : Term) → whole ≡ unary o t → TellsOf host (InTree host names n t) a b → TellsOf host (InParts host names n whole) a b
    tells_operand o t is p =
        tells_among (InTree host names n t) (InParts host names n whole) a b (λ s x. subst (λ u. InParts host names n u s) (sym is) x) p

    pub tells_left : (op : Operator) (l r : Term) → whole ≡ operation op l r → TellsOf host (InTree host names n l) a b → TellsOf host (InParts host names n whole) a b
    tells_left op l r is p =
        tells_among (InTree host names n l) (InParts host names n whole) a b (λ s x. subst (λ u. InParts host names n u s) (sym is) (inl x)) p

    pub tells_condition : (t : Term) (first second : Block) → whole ≡ choice t first second → TellsOf host (InTree host names n t) a b → TellsOf host (InParts host names n whole) a b
    tells_condition t first second is p =
        tells_among (InTree host names n t) (InParts host names n whole) a b (λ s x. subst (λ u. InParts host names n u s) (sym is) (inl x)) p

  -- and then the others, which start where the first has ended
  module _ (names : ContextView) (n m : ℕ) (whole : Term) (a b c : List Told) where
    pub tells_operation : (op : Operator) (l r : Term) (v : Value) → whole ≡ operation op l r → m ≡ n + weight l → Allows (world_of host names) l (Ok v)
        → TellsOf host (InTree host names n l) a b → TellsOf host (InRight host op v names m r) b c → TellsOf host (InParts host names n whole) a c
    tells_operation op l r v is counted allowed p q =
        tells_then (InParts host names n whole) a b c (tells_left names n whole a b op l r is p) (
        tells_among (InRight host op v names m r) (InParts host names n whole) b c (
        λ s x. subst (λ u. InParts host names n u s) (sym is) (inr (v, allowed, x.0, subst (λ k. InTree host names k r s) counted x.1))
        ) q
        )

    selected : (t : Term) (first second : Block) (v : Value) → Allows (world_of host names) t (Ok v) → m ≡ n + weight t
        → (s : Spot) → InBranches host v names m first second s → InParts host names n (choice t first second) s
    selected t first second v allowed counted s (inl (is, x)) =
        inr (inl (subst (λ w. Allows (world_of host names) t (Ok w)) is allowed, subst (λ k. InBlock host names k first s) counted x))
    selected t first second v allowed counted s (inr (is, x)) =
        inr (inr (subst (λ w. Allows (world_of host names) t (Ok w)) is allowed, subst (λ k. InBlock host names (k + block_weight first) second s) counted x))

    pub tells_choice : (t : Term) (first second : Block) (v : Value) → whole ≡ choice t first second → m ≡ n + weight t → Allows (world_of host names) t (Ok v)
        → TellsOf host (InTree host names n t) a b → TellsOf host (InBranches host v names m first second) b c
        → TellsOf host (InParts host names n whole) a c
    tells_choice t first second v is counted allowed p q =
        tells_then (InParts host names n whole) a b c (tells_condition names n whole a b t first second is p) (
        tells_among (InBranches host v names m first second) (InParts host names n whole) b c (
        λ s x. subst (λ u. InParts host names n u s) (sym is) (selected t first second v allowed counted s x)
        ) q
        )

  -- what a side tells that the value before it selects
  module _ (names : ContextView) (n m : ℕ) (v : Value) (a b : List Told) where
    pub tells_right : (op : Operator) (t : Term) → GoesRight op v → TellsOf host (InTree host names n t) a b → TellsOf host (InRight host op v names n t) a b
    tells_right op t on p = tells_among (InTree host names n t) (InRight host op v names n t) a b (λ s x. (on, x)) p

    pub tells_branch_one : (first second : Block) → v ≡ value.Bool true → TellsOf host (InBlock host names n first) a b → TellsOf host (InBranches host v names n first second) a b
    tells_branch_one first second is p =
        tells_among (InBlock host names n first) (InBranches host v names n first second) a b (λ s x. inl (is, x)) p

    pub tells_branch_two : (first second : Block) → v ≡ value.Bool false → m ≡ n + block_weight first → TellsOf host (InBlock host names m second) a b
        → TellsOf host (InBranches host v names n first second) a b
    tells_branch_two first second is counted p =
        tells_among (InBlock host names m second) (InBranches host v names n first second) a b (
        λ s x. inr (is, subst (λ k. InBlock host names k second s) counted x)
        ) p

-- a line, and then what follows, where its name has the value
module _ (host : Host) (names names' : ContextView) (n m : ℕ) (key : List ℕ) (t : Term) (v : Value) (rest : Block)
    (counted : m ≡ n + weight t) (bound : names' ≡ override names key v) (allowed : Allows (world_of host names) t (Ok v)) where
  pub line_allows : (answer : Answer) → AllowsBlock (world_of host names') rest answer → AllowsBlock (world_of host names) (line key t rest) answer
  line_allows answer p = (Ok v, allowed, subst (λ ctx. AllowsBlock (world_of host ctx) rest answer) bound p)

  pub line_spots : (s : Spot) → InBlock host names' m rest s → InBlock host names n (line key t rest) s
  line_spots s x = inr (v, allowed, subst (λ k. InBlock host (override names key v) k rest s) counted (subst (λ ctx. InBlock host ctx m rest s) bound x))

-- a part that is kept, or not if there is no memory for it
pub added_one : {A E : Type 0} (r : Result A E) (old new : List Told) (told : Told) (tree : Term) (ended : ℕ) (found : PartFinding)
    → new ≡ (if is_ok r then old ++ told ∷ [] else old) → IsNote told tree ended found → AddsOne old new tree ended found
added_one (Ok v) old new told tree ended found is note = inr (told, is, note)
added_one (Err e) old new told tree ended found is note = inl is

-- all that is told of a program
pub told_all : (host : Host) (names names' : ContextView) (n : ℕ) (b : Block) (old new : List Told) → names ≡ names' → n ≡ 0 → old ≡ []
    → TellsOf host (InBlock host names n b) old new → All (IsToldOfProgram host names' b) new
told_all host names names' n b old new outside first none p =
    let same : new ≡ p.added = p.new_is ∙ ap (λ xs. xs ++ p.added) none in
    subst (λ xs. All (IsToldOfProgram host names' b) xs) (sym same) (
    All-weaker (IsToldOf host (InBlock host names n b)) (IsToldOfProgram host names' b) (
    λ told x. (x.0, subst (λ k. InBlock host names' k b x.0) first (subst (λ ctx. InBlock host ctx n b x.0) outside x.1), x.2)
    ) p.added p.of_these
    )

-- an operator on a right side that allows as much
and_under : (v : Value-F Value) (P Q : Answer → Type 0) → ((a : Answer) → P a → Q a) → (a : Answer) → AndThenLayer v P a → AndThenLayer v Q a
and_under (Value-F.Bool true) P Q f a p = first-keeps P Q (λ y b. b ≡ truth y) f a p
and_under (Value-F.Bool false) P Q f a p = p
and_under v P Q f a p = p

or_under : (v : Value-F Value) (P Q : Answer → Type 0) → ((a : Answer) → P a → Q a) → (a : Answer) → OrElseLayer v P a → OrElseLayer v Q a
or_under (Value-F.Bool true) P Q f a p = p
or_under (Value-F.Bool false) P Q f a p = first-keeps P Q (λ y b. b ≡ truth y) f a p
or_under v P Q f a p = p

by_under : (s : Strictness) (op : Operator) (v : Value) (P Q : Answer → Type 0) → ((a : Answer) → P a → Q a) → (a : Answer) → OperationMayReturnBy s op v P a → OperationMayReturnBy s op v Q a
by_under Both op v P Q f a p = first-keeps P Q (λ y b. b ≡ operator_answer op v y) f a p
by_under EndsAtFalse op v P Q f a p = and_under (out-Value v) P Q f a p
by_under EndsAtTrue op v P Q f a p = or_under (out-Value v) P Q f a p
by_under Pattern op v P Q f a p = first-keeps P Q (λ y. MatchMayReturn v y) f a p

pub operation_under : (op : Operator) (v : Value) (P Q : Answer → Type 0) → ((a : Answer) → P a → Q a) → (a : Answer) → OperationMayReturn op v P a → OperationMayReturn op v Q a
operation_under op v P Q f a p = by_under (operator_strictness op) op v P Q f a p

-- a line weighs no more than all of them
pub line_within : (ls : List (String Global × Node)) (i : ℕ) (l : String Global × Node) → l ≡ get_or ls i l → i < length ls → weight (term_of l.1) ≤ named_weight ls
line_within [] i l is below = absurd (omega arith)
line_within (x ∷ xs) zero l is below = omega (arith, ap (λ (p : String Global × Node). weight (term_of p.1)) is)
line_within (x ∷ xs) (suc i) l is below =
    let rest : weight (term_of l.1) ≤ named_weight xs = line_within xs i l is (omega arith) in
    omega arith
