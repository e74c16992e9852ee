use Rattle.std.proofs.Common.{◌≡◌, Bool, true, false, not, IsTrue, ◌↔◌, Option, Some, None, is_some, option_map, bytes_eq, Bor, refl, sym, ap, ◌∙◌}
use Rattle.std.specs.Map.{lookup}
use Rattle.std.specs.Option.{option_copied}
use Rattle.expr_schema.specs.KindView.{entry_view}
use Rattle.expr_schema.specs.declared.kind.FieldKind.{FieldKind}
use Rattle.expr_schema.specs.declared.kind.Fields.{out-Fields}
use Rattle.expr_schema.proofs.Standing.{find-entries}
use Rattle.expr_schema.proofs.kind.Fields.lacks.Goals as goal

none_is : (o : Option (Bor FieldKind)) (r : Bool) (l : Option FieldKind) → option_copied o ≡ l → is_some o ≡ not r → IsTrue r ↔ (option_map entry_view l ≡ None)
none_is None true l e q = (λ t. ap (option_map entry_view) (sym e), λ h. refl)
none_is None false l e q = absurd (cc q)
none_is (Some x) true l e q = absurd (cc q)
none_is (Some x) false l e q = (λ t. absurd (cc t), λ h. let w : Some (entry_view x.now) ≡ None = ap (option_map entry_view) e ∙ h in absurd (cc w))

pub returns : goal.returns
returns c =
    let n = c.args.name.now in
    let es = (out-Fields c.args.self.now).named in
    let w = none_is c.get_by_key.result c.is_none.result (lookup (bytes_eq n) es) c.get_by_key.ensures c.is_none.ensures in
    let same = find-entries n es in
    (λ t. same ∙ w.0 t, λ h. w.1 (sym same ∙ h))
