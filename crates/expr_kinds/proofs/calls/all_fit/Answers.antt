use Rattle.std.proofs.Common.{◌+◌, ◌<◌, ◌≤◌, [], ◌∷◌, length, map, drop, sym, subst, arith}
use Rattle.std.proofs.lemmas.List.{drop_all}
use Rattle.expr_schema.specs.Kinds.{never}
use Rattle.expr_schema.specs.KindView.{kind_view}
use Rattle.expr_kinds.specs.Typed.{AllFit}
use Rattle.expr_kinds.proofs.Told.{drop-at}
use Rattle.expr_kinds.proofs.calls.all_fit.Goals as goal

pub loop-i-preserved : goal.loop-i-preserved
loop-i-preserved c = λ h.
    let ks = c.args.kinds.now in
    let ws = c.args.wanted.now in
    let i = c.loop-i.i in
    let k = c.index-kinds-i.result in
    let w = c.index-wanted-i.result in
    let in_kinds : i < length ks = omega arith in
    let in_wanted : i < length ws = omega arith in
    c.loop-i.invariant (
    subst (λ xs. AllFit (map kind_view xs) (map kind_view (drop i ws)) never) (sym (drop-at ks i k c.index-kinds-i.is in_kinds)) (
    subst (λ ys. AllFit (kind_view k ∷ map kind_view (drop (i + 1) ks)) (map kind_view ys) never) (sym (drop-at ws i w c.index-wanted-i.is in_wanted)) (c.fits.ensures c.if-not-fits.false, h)
    )
    )

pub returns : goal.returns
returns c = λ t.
    let ks = c.args.kinds.now in
    let ws = c.args.wanted.now in
    let i = c.loop-i.i in
    let past_kinds : length ks ≤ i = omega arith in
    let past_wanted : length ws ≤ i = omega arith in
    c.loop-i.invariant (
    subst (λ xs. AllFit (map kind_view xs) (map kind_view (drop i ws)) never) (sym (drop_all i ks past_kinds)) (
    subst (λ ys. AllFit [] (map kind_view ys) never) (sym (drop_all i ws past_wanted)) tt
    )
    )
