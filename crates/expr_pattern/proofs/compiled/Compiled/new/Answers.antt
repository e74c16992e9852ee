use Rattle.std.proofs.Common.{◌≡◌, Some, is_some, option_map, string_bytes, vec_len, map, sym, ap, ◌∙◌, subst, arith, rules}
use Rattle.std.proofs.lemmas.List.{length-map}
use Rattle.std.proofs.lemmas.Result.{err_from_is_err_and}
use Rattle.regex_hir.specs.Meaning.{meaning}
use Rattle.regex_syntax.specs.WellFormed.{IsWellFormed}
use Rattle.regex.specs.Patterns.{find_str, Reads}
use Rattle.regex.specs.Writes.{HasTextParts}
use Rattle.regex.proofs.CompilableLemmas.{compilable, groups_named}
use Rattle.expr_pattern.specs.Meaning.{pattern_answer}
use Rattle.expr_pattern.proofs.Built.{answers, not_internal}
use Rattle.expr_pattern.proofs.TextTrees.{text_of_tree}
use Rattle.expr_pattern.proofs.compiled.Compiled.new.Goals as goal

pub returns-in-Err-clause-kind : goal.returns-in-Err-clause-kind
returns-in-Err-clause-kind c = c.error_of_parser.ensures.kind _ _

pub returns-in_err-program-clause-no_internal : goal.returns-in_err-program-clause-no_internal
returns-in_err-program-clause-no_internal c =
    let parsed = c.in-Ok.parsed in
    let counted : c.in-Ok-try_from.groups ≡ vec_len parsed.names = search rules in
    let named = groups_named _ _ _ _ c.in-Ok.ensures.ok in
    let p = err_from_is_err_and c.from_residual.result c.from_residual.ensures.1 in
    rw (p.1, p.2) (not_internal _ (c.in_err-program.ensures.whole (compilable _ _ parsed.hir c.in-Ok.ensures.formed
    (omega (arith, parsed.names.ok.0, length-map parsed.names.items (option_map string_bytes))))
    (omega (arith, c.in-Ok.ensures.group_zero.0)) (omega arith)))

pub invariant_of-result : goal.invariant_of-result
invariant_of-result c =
    let parsed = c.in-Ok.parsed in
    let names = map (option_map string_bytes) parsed.names.items in
    let reads = subst (λ k. Reads k c.args.text.now parsed.hir names) c.default-config.ensures c.in-Ok.ensures.ok in
    let formed = subst (λ k. IsWellFormed k.utf8 parsed.hir) c.default-config.ensures c.in-Ok.ensures.formed in
    record {
      searches = λ text bytes.
          ap (λ s. pattern_answer s text) c.in_ok-source.ensures.ok
          ∙ answers parsed.hir text bytes c.args.text.now names reads
          ∙ ap (λ h. Some (is_some (find_str (meaning h) text 0))) (sym c.in_ok-program.ensures.pattern);
      whole_characters = ∣ subst (λ h. HasTextParts (meaning h)) (sym c.in_ok-program.ensures.pattern) (text_of_tree parsed.hir formed) ∣₁;
    }
