use Rattle.std.proofs.Common.{Some, cond, option_map, bytes_eq, ap, ◌∙◌}
use Rattle.expr_value.specs.Names.{find}
use Rattle.expr_schema.specs.SchemaView.{signature_of}
use Rattle.expr_schema.proofs.Insertion.{cond-map, find-put, on_ok}
use Rattle.expr_schema.proofs.schema.Schema.function.Goals as goal

pub returns-clause-ok : goal.returns-clause-ok
returns-clause-ok c =
    let old = c.args.self.now.functions in
    let s = c.args.signature in
    let k = c.in_ok-name.name in
    on_ok c.insert.result _ _ (
    λ e n.
    ap (λ m. option_map signature_of (find n m)) e ∙ ap (option_map signature_of) (find-put k n s old) ∙ cond-map signature_of (bytes_eq n k) s (find n old)
    ∙ ap (λ i. cond (bytes_eq n i) (Some (signature_of s)) (option_map signature_of (find n old))) c.in_ok-name.ensures
    ) c.insert.ensures.ok
