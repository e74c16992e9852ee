use Rattle.std.proofs.Common.{◌≡◌, subst, ◌∙◌, rules}
use Rattle.std.proofs.lemmas.Iterator.{YieldsList-from_slice, YieldsList-from_zip}
use Rattle.std.proofs.lemmas.Iterator.Consumers.{YieldsList-end}
use Rattle.std.specs.Iterator.Adapters.{zip_first, zip_second}
use Rattle.std.specs.Map.{keys_of, values_of}
use Rattle.std.specs.Slice.Iter.{iter_rest}
use Rattle.expr_pairs.proofs.Zips.{zip-unzip}
use Rattle.expr_schema.specs.Kinds.{Each}
use Rattle.expr_schema.specs.KindView.{fields_view}
use Rattle.expr_schema.proofs.Contexts.{Checked, each_checked}
use Rattle.expr_schema.proofs.schema.value_mismatch.Goals as goal

pub returns : goal.returns
returns c =
    let s = c.into_iter-name-iterator.result in
    let m = c.args.context.now in
    let f = fields_view c.args.fields.now in
    let first : iter_rest (zip_first s) ≡ keys_of m = search rules in
    let second : iter_rest (zip_second s) ≡ values_of m = search rules in
    let yields = YieldsList-from_zip {s = s} (YieldsList-from_slice {s = zip_first s} (keys_of m) first) (YieldsList-from_slice {s = zip_second s} (values_of m) second) in
    let all = YieldsList-end yields c.loop-name.yielded c.loop-name.name-iterator c.loop-name.yielded_by c.next.result c.next.new.self c.in-None.is c.next.ensures.steps in
    each_checked f m (subst (Each (Checked f m)) (all.0 ∙ zip-unzip m) c.loop-name.invariant)
