-- The ending of an expression within limits, by that of a code of its program, and its possible results.
use Rattle.std.proofs.Common.{◌≡◌, ◌≤◌, ℕ, IfOk, List, Result, Ok, Err, ◌⊎◌, inl, inr, refl, sym, ap, ◌∙◌, subst}
use Rattle.std.specs.Result.{IsErrAnd}
use Rattle.std.specs.Str.{IsCharBoundary}
use Rattle.expr_meaning.proofs.Correct.{exact_code}
use Rattle.expr_code.specs.Codes.{IsCode}
use Rattle.expr_code.specs.Instructions.{Op}
use Rattle.expr_meaning.specs.CodeRuns.{CodeAnswers}
use Rattle.expr_costs.specs.Costs.{costs_in}
use Rattle.expr_limits.specs.Outcomes.{OnAnswer, ReturnsOutcome}
use Rattle.expr_meaning.specs.Allows.{AllowsBlock}
use Rattle.expr_meaning.proofs.Forgotten.{code_forgets}
use Rattle.expr_limits.specs.Counting.{ending_of}
use Rattle.expr_limits.specs.Rooms.{Room, rooms}
use Rattle.expr_limits.specs.declared.limit.Limit.{Limit}
use Rattle.expr_limits.specs.declared.limit.Limit.TheVariants.{Nesting, Patterns, Steps, Depth, Size}
use Rattle.expr_limits.specs.declared.limits.Limits.{Limits}
use Rattle.expr_limits.specs.declared.outcome.Outcome.{Outcome}
use Rattle.expr_limits.specs.declared.outcome.Outcome.TheVariants.{Answered, Stopped}
use Rattle.expr_meaning.specs.World.{World}
use Rattle.expr_limits.specs.Sizes.{depth}
use Rattle.expr_syntax.specs.Bounds.{IsLight}
use Rattle.expr_syntax.specs.Texts.{IsPlaced, IsProgramOf, IsProgramWithin}
use Rattle.expr_tree.specs.Term.{Block}
use Rattle.expr_error.specs.ErrorKind.{ErrorKind, error_kind, memory}
use Rattle.expr_error.specs.declared.error.Error.{Error}
use Rattle.expr_error.specs.declared.error.Error.TheVariants.{PestError, ParseError, ExprError, RegexError, MemoryError}
use Rattle.expr_value.specs.declared.value.Value.{Value}
use Rattle.expr_machine.specs.Given.{MayGive}
use Rattle.expr_syntax.specs.CompiledLimited.{IsCompiledLimited}
use Rattle.expr.specs.Limited.{AnswersTextLimited, CodeEnds, EndsText, TextEnds, run_room}
use Rattle.expr_syntax.specs.Refused.{IsRefused}
use Rattle.expr_eval.specs.Texts.{IsOwnFault, MayAnswer}
use Rattle.expr_eval.proofs.Faults.{boundary_of_run, place_of_run}
use Rattle.expr_syntax.proofs.Passed.{same_place}
use Rattle.expr_meaning.proofs.Stopping.{stops_of_runs}

-- the program of a tree within a height is one of the expression
pub of_within : (text : List ℕ) (height : ℕ) (b : Block) → IsProgramWithin text height b → IsProgramOf text b
of_within text height b p = record { tree = p.tree; is_tree = p.is_tree; literals = p.within.0; same = p.same }

module _ (world : World) where
  -- the result of code within limits is one of the code
  pub code_answers : (blocks : List (List Op)) (limits : Limits) (r : Result (Outcome Value) Error) → ReturnsOutcome r (CodeEnds world blocks limits) → MayGive r (CodeAnswers world blocks)
  code_answers blocks limits (Ok (Answered v)) (left, p) = code_forgets rooms (costs_in world.host) world blocks (run_room limits) (Ok v) left p
  code_answers blocks limits (Ok (Stopped limit)) p = tt
  code_answers blocks limits (Err e) p = λ m. code_forgets rooms (costs_in world.host) world blocks (run_room limits) (Err (error_kind e)) (run_room limits) (p m)

  module _ (text : List ℕ) (limits : Limits) where
    -- a code of the expression's program
    module _ (b : Block) (blocks : List (List Op)) (within : IsProgramWithin text limits.nesting b) (light : IsLight text limits.patterns) (code : IsCode b blocks) where
      pub text_ends : (r : Result (Outcome Value) Error) → ReturnsOutcome r (CodeEnds world blocks limits) → EndsText world text limits r
      text_ends (Ok (Answered v)) (left, p) = (left, (b, blocks, within, light, code, p))
      text_ends (Ok (Stopped Nesting)) p = absurd (stops_of_runs (costs_in world.host) world blocks (run_room limits) Nesting p)
      text_ends (Ok (Stopped Patterns)) p = absurd (stops_of_runs (costs_in world.host) world blocks (run_room limits) Patterns p)
      text_ends (Ok (Stopped Steps)) p = (b, blocks, within, light, code, p)
      text_ends (Ok (Stopped Depth)) p = (b, blocks, within, light, code, p)
      text_ends (Ok (Stopped Size)) p = (b, blocks, within, light, code, p)
      text_ends (Err e) p = λ m. inr (b, blocks, within, light, code, p m)

      program_gives : (r : Result (Outcome Value) Error) → ReturnsOutcome r (CodeEnds world blocks limits) → MayGive r (AllowsBlock world b)
      program_gives (Ok (Answered v)) p = (exact_code world b blocks code (Ok v)).0 (code_answers blocks limits (Ok (Answered v)) p)
      program_gives (Ok (Stopped limit)) p = tt
      program_gives (Err e) p = λ m. (exact_code world b blocks code (Err (error_kind e))).0 (code_answers blocks limits (Err e) p m)

      -- a syntax error of the expression is none of the code
      pub run_place : (r : Result (Outcome Value) Error) → ReturnsOutcome r (CodeEnds world blocks limits) → IsOwnFault text world.host → IsPlaced text r
      run_place (Ok o) p own = tt
      run_place (Err e) p own = same_place Value (Outcome Value) text e (place_of_run text world b (of_within text limits.nesting b within) (Err e) (program_gives (Err e) p) own)

      pub run_boundary : (r : Result (Outcome Value) Error) → ReturnsOutcome r (CodeEnds world blocks limits) → IsOwnFault text world.host → (place : ℕ) → r ≡ Err (PestError place) → IsCharBoundary text place
      run_boundary r p own place is =
          boundary_of_run text world b (of_within text limits.nesting b within) (Err (PestError place)) (
          program_gives (Err (PestError place)) (subst (λ s. ReturnsOutcome s (CodeEnds world blocks limits)) is p)
          ) own place refl

    -- the errors of compiling, and where it stops
    refused_ends : (e : Error) → IsCompiledLimited text limits (Err e) → EndsText world text limits (Err e)
    refused_ends (PestError place) h = λ m. inl h
    refused_ends (ParseError message) h = λ m. inl h
    refused_ends (ExprError message) h = absurd h
    refused_ends (RegexError error) h = absurd h
    refused_ends MemoryError h = λ m. absurd (m refl)

    pub passed_ends : (e : Error) → IsCompiledLimited text limits (Err e) → (r : Result (Outcome Value) Error) → IsErrAnd r (λ x. x ≡ e) → EndsText world text limits r
    passed_ends e h (Ok o) is = absurd is
    passed_ends e h (Err x) is = subst (λ y. EndsText world text limits (Err y)) (sym is) (refused_ends e h)

    pub stopped_ends : (limit : Limit) → IsCompiledLimited text limits (Ok (Stopped limit)) → EndsText world text limits (Ok (Stopped limit))
    stopped_ends Nesting h = h
    stopped_ends Patterns h = h
    stopped_ends Steps h = absurd h
    stopped_ends Depth h = absurd h
    stopped_ends Size h = absurd h

    -- if memory is lacking in between
    pub memory_ends : (e : Error) → error_kind e ≡ memory → (r : Result (Outcome Value) Error) → IsErrAnd r (λ x. x ≡ e) → EndsText world text limits r
    memory_ends e is_memory (Ok o) is = absurd is
    memory_ends e is_memory (Err x) is = λ m. absurd (m (ap error_kind is ∙ is_memory))

    -- the expression's program allows the result of such a run
    run_allowed : (a : Result Value ErrorKind) (left : Room) → TextEnds world text limits (ending_of a left) → (b : Block) × IsProgramWithin text limits.nesting b × AllowsBlock world b a
    run_allowed a left (b, blocks, within, light, code, p) = (b, within, (exact_code world b blocks code a).0 (code_forgets rooms (costs_in world.host) world blocks (run_room limits) a left p))

    run_answers : (a : Result Value ErrorKind) (left : Room) → TextEnds world text limits (ending_of a left) → MayAnswer text world a
    run_answers a left p = let q = run_allowed a left p in inl (q.0, of_within text limits.nesting q.0 q.1, q.2)

    either_answers : (f : ErrorKind) → IsRefused text (Err f) ⊎ TextEnds world text limits (ending_of (Err f) (run_room limits)) → MayAnswer text world (Err f)
    either_answers f (inl h) = inr h
    either_answers f (inr p) = run_answers (Err f) (run_room limits) p

    -- the result of an expression within limits is one of the expression
    pub text_answers : (r : Result (Outcome Value) Error) → EndsText world text limits r → MayGive r (MayAnswer text world)
    text_answers (Ok (Answered v)) (left, p) = run_answers (Ok v) left p
    text_answers (Ok (Stopped limit)) p = tt
    text_answers (Err e) p = λ m. either_answers (error_kind e) (p m)

    passed_depth : (e : Error) (r : Result (Outcome Value) Error) → IsErrAnd r (λ x. x ≡ e) → IfOk r (λ o. OnAnswer o (λ v. depth v ≤ limits.depth))
    passed_depth e (Ok o) is = absurd is
    passed_depth e (Err x) is = tt

    -- the ending of an expression that fails before its code runs
    pub text_refused : (e : Error) (r : Result (Outcome Value) Error) → IsErrAnd r (λ x. x ≡ e) → EndsText world text limits r → (IsOwnFault text world.host → IsPlaced text r)
        → (IsOwnFault text world.host → (place : ℕ) → r ≡ Err (PestError place) → IsCharBoundary text place) → AnswersTextLimited world text limits r
    text_refused e r is ends placed bounded = record { outcome = ends; answer = text_answers r ends; depth = passed_depth e r is; place = placed; boundary = bounded }
