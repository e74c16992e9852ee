use Rattle.std.proofs.Common.{ap, sym, ◌∙◌, arith, List, ℕ, Some, None}
use Rattle.expr_layout.specs.KnownFields.{after_any_case}
use Rattle.expr_layout.proofs.Findings.{name_more, name_none}
use Rattle.expr_layout.proofs.read.+name_at.Goals as goal

pub returns-then-left-eq0 : goal.returns-then-left-eq0
returns-then-left-eq0 t c = sym (name_none c.args.left c.args.names c.args.number c.args.text.now c.if-left-eq0.true)

pub returns-in-Some : goal.returns-in-Some
returns-in-Some t c =
    let name = c.as_bytes.ensures.value ∙ c.name_of.ensures in
    let found = ap (λ (n : List ℕ). after_any_case n c.args.text.now) (sym name) ∙ sym c.in-Some.ensures in
    sym (name_more c.args.left c.args.names c.args.number c.args.text.now (Some c.in-Some.rest.now) (omega arith) found)

pub returns-in-None : goal.returns-in-None
returns-in-None t c =
    let name = c.as_bytes.ensures.value ∙ c.name_of.ensures in
    let found = ap (λ (n : List ℕ). after_any_case n c.args.text.now) (sym name) ∙ sym c.in-None.ensures in
    c.name_at.ensures ∙ sym (name_more c.args.left c.args.names c.args.number c.args.text.now None (omega arith) found)
