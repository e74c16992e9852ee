use Rattle.std.proofs.Common.{◌≡◌, ◌+◌, [], ◌∷◌, map, drop, string_bytes, Ok, Err, ap, subst, sym, refl, ◌∙◌}
use Rattle.std.proofs.lemmas.List.{drop_more}
use Rattle.expr_program.specs.Served.{MayAnswerUnder, MayBind}
use Rattle.expr_program.specs.Words.{bound_name, code_of}
use Rattle.expr_value.proofs.Answered.{Returns-passed}
use Rattle.expr_error.specs.ErrorKind.{error_kind}
use Rattle.expr_value.specs.Names.{put}
use Rattle.expr_program.proofs.serve.context_of.Goals as goal

pub returns-in_err-bind : goal.returns-in_err-bind
returns-in_err-bind c =
    let words = c.args.bindings.now in
    let i = c.loop-word.word-index in
    let word = c.word-item.result in
    let at : drop i words ≡ word ∷ drop (i + 1) words = drop_more words i word c.loop-word-test.true ∙ ap (λ w. w ∷ drop (i + 1) words) (sym c.word-item.is) in
    let e = c.in_err-bind.field-0.0 in
    Returns-passed c.from_residual.result e (MayBind (map string_bytes words) []) c.from_residual.ensures.1 (
    λ m. c.loop-word.invariant (Err (error_kind e)) (
    subst (λ ws. MayBind (map string_bytes ws) c.loop-word.context (Err (error_kind e))) (sym at) (
      Err (error_kind e),
      subst (λ text. MayAnswerUnder [] (code_of text) (Err (error_kind e))) c.as_str.ensures.value (c.in_err-bind.ensures.refused m),
      refl,
    )
    )
    )

pub loop-word-preserved : goal.loop-word-preserved
loop-word-preserved c =
    let words = c.args.bindings.now in
    let i = c.loop-word.word-index in
    let word = c.word-item.result in
    let at : drop i words ≡ word ∷ drop (i + 1) words = drop_more words i word c.loop-word-test.true ∙ ap (λ w. w ∷ drop (i + 1) words) (sym c.word-item.is) in
    let given_to = c.in_ok-bind.ensures.bound in
    let value = given_to.0 in
    let pairs : c.bind.new.context ≡ put (bound_name (string_bytes word)) value c.loop-word.context =
    given_to.2 ∙ ap (λ n. put (bound_name n) value c.loop-word.context) c.as_str.ensures.value in
    λ given p. c.loop-word.invariant given (
    subst (λ ws. MayBind (map string_bytes ws) c.loop-word.context given) (sym at) (
      Ok value,
      subst (λ text. MayAnswerUnder [] (code_of text) (Ok value)) c.as_str.ensures.value given_to.1,
      subst (λ pairs. MayBind (map string_bytes (drop (i + 1) words)) pairs given) pairs p,
    )
    )
