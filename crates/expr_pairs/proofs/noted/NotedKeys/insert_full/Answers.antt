use Rattle.std.proofs.Common.{◌≡◌, ℕ, ◌<◌, [], ◌∷◌, ◌++◌, Some, None, cond, length, not, position, slice_get, sym, ap, subst, ◌∙◌, arith}
use Rattle.std.specs.List.{IsDistinct, list_any, position_or_len}
use Rattle.std.specs.Ordering.{is_eq, nat_cmp}
use Rattle.indexmap.specs.IndexSet.{insert_key}
use Rattle.std.proofs.lemmas.Map.Keys.{IsDistinct-push}
use Rattle.expr_pairs.specs.Places.{AreNoted, key_hash, place_at}
use Rattle.expr_pairs.proofs.Noting.{noted_as, noted_nowhere, noted_under}
use Rattle.expr_pairs.proofs.Positions.{added, found, missing, stays, stored_new, stored_old}
use Rattle.expr_pairs.proofs.noted.NotedKeys.insert_full.Goals as goal

pub invariant_of-self-in_err-insert-in-Free : goal.invariant_of-self-in_err-insert-in-Free
invariant_of-self-in_err-insert-in-Free g c =
    (subst (IsDistinct g.K.PartialEq.eq) (sym c.reserve.ensures.items) c.self.invariant.0, noted_as _ _ _ _ _ c.reserve.ensures.items c.in_err-insert-in-Free.ensures.err c.self.invariant.1)

pub invariant_of-self-in-Free : goal.invariant_of-self-in-Free
invariant_of-self-in-Free g c =
    let ks = c.self.inside.keys.items in
    let slice : c.as_slice.result.now ≡ ks = c.as_slice.ensures.value ∙ c.reserve.ensures.items in
    let none : position (g.K.PartialEq.eq c.args.key) ks ≡ None = ap (position (g.K.PartialEq.eq c.args.key)) (sym slice) ∙ c.in-Free.ensures.0 in
    let m = missing (g.K.PartialEq.eq c.args.key) ks none in
    let items : c.push_reserved.new.self.items ≡ ks ++ c.args.key ∷ [] = c.push_reserved.ensures.items ∙ ap (λ l. l ++ c.args.key ∷ []) c.reserve.ensures.items in
    let len : c.len-place.result ≡ length ks = c.len-place.ensures ∙ c.self.inside.keys.ok.0 in
    let h : g.row.K.Denot → ℕ = λ k. key_hash (g.K.Hash.hash_input k) in
    let old = c.self.inside.places in
    let new = c.insert.new.self in
    let written = c.in_ok-insert-in-Free.ensures.updates in
    let noted : AreNoted h (ks ++ c.args.key ∷ []) new = noted_under h ks c.args.key old new c.in-Free.slot
    (λ q. written.0 q ∙ ap (λ p. cond (is_eq (nat_cmp c.in-Free.slot q)) (Some p) (place_at old q)) len) c.self.invariant.1 c.in-Free.ensures.1 (written.1 ∙ ap Some len) in
    (subst (IsDistinct g.K.PartialEq.eq) (sym items) (IsDistinct-push g.met.K.Eq.laws ks c.args.key c.self.invariant.0 m.any), subst (λ l. AreNoted h l new) (sym items) noted)

pub invariant_of-self-in-Crowded : goal.invariant_of-self-in-Crowded
invariant_of-self-in-Crowded g c =
    let ks = c.self.inside.keys.items in
    let slice : c.as_slice.result.now ≡ ks = c.as_slice.ensures.value ∙ c.reserve.ensures.items in
    let none : position (g.K.PartialEq.eq c.args.key) ks ≡ None = ap (position (g.K.PartialEq.eq c.args.key)) (sym slice) ∙ c.in-Crowded.ensures.0 in
    let m = missing (g.K.PartialEq.eq c.args.key) ks none in
    let items : c.push_reserved-in-Crowded.new.self.items ≡ ks ++ c.args.key ∷ [] = c.push_reserved-in-Crowded.ensures.items ∙ ap (λ l. l ++ c.args.key ∷ []) c.reserve.ensures.items in
    let h : g.row.K.Denot → ℕ = λ k. key_hash (g.K.Hash.hash_input k) in
    let noted : AreNoted h (ks ++ c.args.key ∷ []) c.self.inside.places = noted_nowhere h ks c.args.key c.self.inside.places c.self.invariant.1 c.in-Crowded.ensures.1 in
    (subst (IsDistinct g.K.PartialEq.eq) (sym items) (IsDistinct-push g.met.K.Eq.laws ks c.args.key c.self.invariant.0 m.any), subst (λ l. AreNoted h l c.self.inside.places) (sym items) noted)

pub returns-in-At-clause-added : goal.returns-in-At-clause-added
returns-in-At-clause-added g c =
    let ks = c.self.inside.keys.items in
    let slice : c.as_slice.result.now ≡ ks = c.as_slice.ensures.value ∙ c.reserve.ensures.items in
    let at : position (g.K.PartialEq.eq c.args.key) ks ≡ Some c.in-At.known = ap (position (g.K.PartialEq.eq c.args.key)) (sym slice) ∙ c.in-At.ensures in
    let f = found (g.K.PartialEq.eq c.args.key) ks c.in-At.known at in
    let e : c.reserve.new.self.items ≡ insert_key g.K.PartialEq.eq ks c.args.key = c.reserve.ensures.items ∙ sym (stays g.K.PartialEq.eq ks c.args.key c.in-At.known f) in
    sym (ap not (ap (list_any (g.K.PartialEq.eq c.args.key)) (sym c.self.view_is) ∙ f.any))

pub returns-in-At-clause-keys : goal.returns-in-At-clause-keys
returns-in-At-clause-keys g c =
    let ks = c.self.inside.keys.items in
    let slice : c.as_slice.result.now ≡ ks = c.as_slice.ensures.value ∙ c.reserve.ensures.items in
    let at : position (g.K.PartialEq.eq c.args.key) ks ≡ Some c.in-At.known = ap (position (g.K.PartialEq.eq c.args.key)) (sym slice) ∙ c.in-At.ensures in
    let f = found (g.K.PartialEq.eq c.args.key) ks c.in-At.known at in
    let e : c.reserve.new.self.items ≡ insert_key g.K.PartialEq.eq ks c.args.key = c.reserve.ensures.items ∙ sym (stays g.K.PartialEq.eq ks c.args.key c.in-At.known f) in
    e ∙ ap (λ l. insert_key g.K.PartialEq.eq l c.args.key) c.self.view_is

pub returns-in-At-clause-stored : goal.returns-in-At-clause-stored
returns-in-At-clause-stored g c =
    let ks = c.self.inside.keys.items in
    let slice : c.as_slice.result.now ≡ ks = c.as_slice.ensures.value ∙ c.reserve.ensures.items in
    let at : position (g.K.PartialEq.eq c.args.key) ks ≡ Some c.in-At.known = ap (position (g.K.PartialEq.eq c.args.key)) (sym slice) ∙ c.in-At.ensures in
    let f = found (g.K.PartialEq.eq c.args.key) ks c.in-At.known at in
    let e : c.reserve.new.self.items ≡ insert_key g.K.PartialEq.eq ks c.args.key = c.reserve.ensures.items ∙ sym (stays g.K.PartialEq.eq ks c.args.key c.in-At.known f) in
    let s = stored_old g.K.PartialEq.eq g.met.K.Eq.laws ks c.args.key c.in-At.known c.self.invariant.0 at in
    (s.stored.0, ap (λ l. slice_get l c.in-At.known) e ∙ s.stored.1, s.stored.2)

pub returns-in-At-clause-within : goal.returns-in-At-clause-within
returns-in-At-clause-within g c =
    let ks = c.self.inside.keys.items in
    let slice : c.as_slice.result.now ≡ ks = c.as_slice.ensures.value ∙ c.reserve.ensures.items in
    let at : position (g.K.PartialEq.eq c.args.key) ks ≡ Some c.in-At.known = ap (position (g.K.PartialEq.eq c.args.key)) (sym slice) ∙ c.in-At.ensures in
    let f = found (g.K.PartialEq.eq c.args.key) ks c.in-At.known at in
    let e : c.reserve.new.self.items ≡ insert_key g.K.PartialEq.eq ks c.args.key = c.reserve.ensures.items ∙ sym (stays g.K.PartialEq.eq ks c.args.key c.in-At.known f) in
    let s = stored_old g.K.PartialEq.eq g.met.K.Eq.laws ks c.args.key c.in-At.known c.self.invariant.0 at in
    subst (λ l. c.in-At.known < length l) (sym e) s.within

pub returns-in-At-clause-distinct : goal.returns-in-At-clause-distinct
returns-in-At-clause-distinct g c =
    let ks = c.self.inside.keys.items in
    let slice : c.as_slice.result.now ≡ ks = c.as_slice.ensures.value ∙ c.reserve.ensures.items in
    let at : position (g.K.PartialEq.eq c.args.key) ks ≡ Some c.in-At.known = ap (position (g.K.PartialEq.eq c.args.key)) (sym slice) ∙ c.in-At.ensures in
    let f = found (g.K.PartialEq.eq c.args.key) ks c.in-At.known at in
    let e : c.reserve.new.self.items ≡ insert_key g.K.PartialEq.eq ks c.args.key = c.reserve.ensures.items ∙ sym (stays g.K.PartialEq.eq ks c.args.key c.in-At.known f) in
    let s = stored_old g.K.PartialEq.eq g.met.K.Eq.laws ks c.args.key c.in-At.known c.self.invariant.0 at in
    subst (IsDistinct g.K.PartialEq.eq) (sym e) s.distinct

pub returns-in_ok-insert-in-Free-clause-index : goal.returns-in_ok-insert-in-Free-clause-index
returns-in_ok-insert-in-Free-clause-index g c =
    let ks = c.self.inside.keys.items in
    let slice : c.as_slice.result.now ≡ ks = c.as_slice.ensures.value ∙ c.reserve.ensures.items in
    let none : position (g.K.PartialEq.eq c.args.key) ks ≡ None = ap (position (g.K.PartialEq.eq c.args.key)) (sym slice) ∙ c.in-Free.ensures.0 in
    let m = missing (g.K.PartialEq.eq c.args.key) ks none in
    let len : c.len-place.result ≡ length ks = c.len-place.ensures ∙ c.self.inside.keys.ok.0 in
    len ∙ sym m.index ∙ ap (position_or_len (g.K.PartialEq.eq c.args.key)) c.self.view_is

pub returns-in_ok-insert-in-Free-clause-added : goal.returns-in_ok-insert-in-Free-clause-added
returns-in_ok-insert-in-Free-clause-added g c =
    let ks = c.self.inside.keys.items in
    let slice : c.as_slice.result.now ≡ ks = c.as_slice.ensures.value ∙ c.reserve.ensures.items in
    let none : position (g.K.PartialEq.eq c.args.key) ks ≡ None = ap (position (g.K.PartialEq.eq c.args.key)) (sym slice) ∙ c.in-Free.ensures.0 in
    let m = missing (g.K.PartialEq.eq c.args.key) ks none in
    sym (ap not (ap (list_any (g.K.PartialEq.eq c.args.key)) (sym c.self.view_is) ∙ m.any))

pub returns-in_ok-insert-in-Free-clause-keys : goal.returns-in_ok-insert-in-Free-clause-keys
returns-in_ok-insert-in-Free-clause-keys g c =
    let ks = c.self.inside.keys.items in
    let slice : c.as_slice.result.now ≡ ks = c.as_slice.ensures.value ∙ c.reserve.ensures.items in
    let none : position (g.K.PartialEq.eq c.args.key) ks ≡ None = ap (position (g.K.PartialEq.eq c.args.key)) (sym slice) ∙ c.in-Free.ensures.0 in
    let m = missing (g.K.PartialEq.eq c.args.key) ks none in
    let items : c.push_reserved.new.self.items ≡ ks ++ c.args.key ∷ [] = c.push_reserved.ensures.items ∙ ap (λ l. l ++ c.args.key ∷ []) c.reserve.ensures.items in
    let e : c.push_reserved.new.self.items ≡ insert_key g.K.PartialEq.eq ks c.args.key = items ∙ sym (added g.K.PartialEq.eq ks c.args.key m) in
    e ∙ ap (λ l. insert_key g.K.PartialEq.eq l c.args.key) c.self.view_is

pub returns-in_ok-insert-in-Free-clause-stored : goal.returns-in_ok-insert-in-Free-clause-stored
returns-in_ok-insert-in-Free-clause-stored g c =
    let ks = c.self.inside.keys.items in
    let slice : c.as_slice.result.now ≡ ks = c.as_slice.ensures.value ∙ c.reserve.ensures.items in
    let none : position (g.K.PartialEq.eq c.args.key) ks ≡ None = ap (position (g.K.PartialEq.eq c.args.key)) (sym slice) ∙ c.in-Free.ensures.0 in
    let m = missing (g.K.PartialEq.eq c.args.key) ks none in
    let items : c.push_reserved.new.self.items ≡ ks ++ c.args.key ∷ [] = c.push_reserved.ensures.items ∙ ap (λ l. l ++ c.args.key ∷ []) c.reserve.ensures.items in
    let e : c.push_reserved.new.self.items ≡ insert_key g.K.PartialEq.eq ks c.args.key = items ∙ sym (added g.K.PartialEq.eq ks c.args.key m) in
    let len : c.len-place.result ≡ length ks = c.len-place.ensures ∙ c.self.inside.keys.ok.0 in
    let s = stored_new g.K.PartialEq.eq g.met.K.Eq.laws ks c.args.key c.self.invariant.0 m in
    (s.stored.0, (λ i. slice_get (e i) (len i)) ∙ s.stored.1, s.stored.2)

pub returns-in_ok-insert-in-Free-clause-within : goal.returns-in_ok-insert-in-Free-clause-within
returns-in_ok-insert-in-Free-clause-within g c =
    let ks = c.self.inside.keys.items in
    let slice : c.as_slice.result.now ≡ ks = c.as_slice.ensures.value ∙ c.reserve.ensures.items in
    let none : position (g.K.PartialEq.eq c.args.key) ks ≡ None = ap (position (g.K.PartialEq.eq c.args.key)) (sym slice) ∙ c.in-Free.ensures.0 in
    let m = missing (g.K.PartialEq.eq c.args.key) ks none in
    let items : c.push_reserved.new.self.items ≡ ks ++ c.args.key ∷ [] = c.push_reserved.ensures.items ∙ ap (λ l. l ++ c.args.key ∷ []) c.reserve.ensures.items in
    let e : c.push_reserved.new.self.items ≡ insert_key g.K.PartialEq.eq ks c.args.key = items ∙ sym (added g.K.PartialEq.eq ks c.args.key m) in
    let len : c.len-place.result ≡ length ks = c.len-place.ensures ∙ c.self.inside.keys.ok.0 in
    let s = stored_new g.K.PartialEq.eq g.met.K.Eq.laws ks c.args.key c.self.invariant.0 m in
    omega (arith, len, ap length e, s.within)

pub returns-in_ok-insert-in-Free-clause-distinct : goal.returns-in_ok-insert-in-Free-clause-distinct
returns-in_ok-insert-in-Free-clause-distinct g c =
    let ks = c.self.inside.keys.items in
    let slice : c.as_slice.result.now ≡ ks = c.as_slice.ensures.value ∙ c.reserve.ensures.items in
    let none : position (g.K.PartialEq.eq c.args.key) ks ≡ None = ap (position (g.K.PartialEq.eq c.args.key)) (sym slice) ∙ c.in-Free.ensures.0 in
    let m = missing (g.K.PartialEq.eq c.args.key) ks none in
    let items : c.push_reserved.new.self.items ≡ ks ++ c.args.key ∷ [] = c.push_reserved.ensures.items ∙ ap (λ l. l ++ c.args.key ∷ []) c.reserve.ensures.items in
    let e : c.push_reserved.new.self.items ≡ insert_key g.K.PartialEq.eq ks c.args.key = items ∙ sym (added g.K.PartialEq.eq ks c.args.key m) in
    let s = stored_new g.K.PartialEq.eq g.met.K.Eq.laws ks c.args.key c.self.invariant.0 m in
    subst (IsDistinct g.K.PartialEq.eq) (sym e) s.distinct

pub returns-in-Crowded-clause-index : goal.returns-in-Crowded-clause-index
returns-in-Crowded-clause-index g c =
    let ks = c.self.inside.keys.items in
    let slice : c.as_slice.result.now ≡ ks = c.as_slice.ensures.value ∙ c.reserve.ensures.items in
    let none : position (g.K.PartialEq.eq c.args.key) ks ≡ None = ap (position (g.K.PartialEq.eq c.args.key)) (sym slice) ∙ c.in-Crowded.ensures.0 in
    let m = missing (g.K.PartialEq.eq c.args.key) ks none in
    let len : c.len-place.result ≡ length ks = c.len-place.ensures ∙ c.self.inside.keys.ok.0 in
    len ∙ sym m.index ∙ ap (position_or_len (g.K.PartialEq.eq c.args.key)) c.self.view_is

pub returns-in-Crowded-clause-added : goal.returns-in-Crowded-clause-added
returns-in-Crowded-clause-added g c =
    let ks = c.self.inside.keys.items in
    let slice : c.as_slice.result.now ≡ ks = c.as_slice.ensures.value ∙ c.reserve.ensures.items in
    let none : position (g.K.PartialEq.eq c.args.key) ks ≡ None = ap (position (g.K.PartialEq.eq c.args.key)) (sym slice) ∙ c.in-Crowded.ensures.0 in
    let m = missing (g.K.PartialEq.eq c.args.key) ks none in
    sym (ap not (ap (list_any (g.K.PartialEq.eq c.args.key)) (sym c.self.view_is) ∙ m.any))

pub returns-in-Crowded-clause-keys : goal.returns-in-Crowded-clause-keys
returns-in-Crowded-clause-keys g c =
    let ks = c.self.inside.keys.items in
    let slice : c.as_slice.result.now ≡ ks = c.as_slice.ensures.value ∙ c.reserve.ensures.items in
    let none : position (g.K.PartialEq.eq c.args.key) ks ≡ None = ap (position (g.K.PartialEq.eq c.args.key)) (sym slice) ∙ c.in-Crowded.ensures.0 in
    let m = missing (g.K.PartialEq.eq c.args.key) ks none in
    let items : c.push_reserved-in-Crowded.new.self.items ≡ ks ++ c.args.key ∷ [] = c.push_reserved-in-Crowded.ensures.items ∙ ap (λ l. l ++ c.args.key ∷ []) c.reserve.ensures.items in
    let e : c.push_reserved-in-Crowded.new.self.items ≡ insert_key g.K.PartialEq.eq ks c.args.key = items ∙ sym (added g.K.PartialEq.eq ks c.args.key m) in
    e ∙ ap (λ l. insert_key g.K.PartialEq.eq l c.args.key) c.self.view_is

pub returns-in-Crowded-clause-stored : goal.returns-in-Crowded-clause-stored
returns-in-Crowded-clause-stored g c =
    let ks = c.self.inside.keys.items in
    let slice : c.as_slice.result.now ≡ ks = c.as_slice.ensures.value ∙ c.reserve.ensures.items in
    let none : position (g.K.PartialEq.eq c.args.key) ks ≡ None = ap (position (g.K.PartialEq.eq c.args.key)) (sym slice) ∙ c.in-Crowded.ensures.0 in
    let m = missing (g.K.PartialEq.eq c.args.key) ks none in
    let items : c.push_reserved-in-Crowded.new.self.items ≡ ks ++ c.args.key ∷ [] = c.push_reserved-in-Crowded.ensures.items ∙ ap (λ l. l ++ c.args.key ∷ []) c.reserve.ensures.items in
    let e : c.push_reserved-in-Crowded.new.self.items ≡ insert_key g.K.PartialEq.eq ks c.args.key = items ∙ sym (added g.K.PartialEq.eq ks c.args.key m) in
    let len : c.len-place.result ≡ length ks = c.len-place.ensures ∙ c.self.inside.keys.ok.0 in
    let s = stored_new g.K.PartialEq.eq g.met.K.Eq.laws ks c.args.key c.self.invariant.0 m in
    (s.stored.0, (λ i. slice_get (e i) (len i)) ∙ s.stored.1, s.stored.2)

pub returns-in-Crowded-clause-within : goal.returns-in-Crowded-clause-within
returns-in-Crowded-clause-within g c =
    let ks = c.self.inside.keys.items in
    let slice : c.as_slice.result.now ≡ ks = c.as_slice.ensures.value ∙ c.reserve.ensures.items in
    let none : position (g.K.PartialEq.eq c.args.key) ks ≡ None = ap (position (g.K.PartialEq.eq c.args.key)) (sym slice) ∙ c.in-Crowded.ensures.0 in
    let m = missing (g.K.PartialEq.eq c.args.key) ks none in
    let items : c.push_reserved-in-Crowded.new.self.items ≡ ks ++ c.args.key ∷ [] = c.push_reserved-in-Crowded.ensures.items ∙ ap (λ l. l ++ c.args.key ∷ []) c.reserve.ensures.items in
    let e : c.push_reserved-in-Crowded.new.self.items ≡ insert_key g.K.PartialEq.eq ks c.args.key = items ∙ sym (added g.K.PartialEq.eq ks c.args.key m) in
    let len : c.len-place.result ≡ length ks = c.len-place.ensures ∙ c.self.inside.keys.ok.0 in
    let s = stored_new g.K.PartialEq.eq g.met.K.Eq.laws ks c.args.key c.self.invariant.0 m in
    omega (arith, len, ap length e, s.within)

pub returns-in-Crowded-clause-distinct : goal.returns-in-Crowded-clause-distinct
returns-in-Crowded-clause-distinct g c =
    let ks = c.self.inside.keys.items in
    let slice : c.as_slice.result.now ≡ ks = c.as_slice.ensures.value ∙ c.reserve.ensures.items in
    let none : position (g.K.PartialEq.eq c.args.key) ks ≡ None = ap (position (g.K.PartialEq.eq c.args.key)) (sym slice) ∙ c.in-Crowded.ensures.0 in
    let m = missing (g.K.PartialEq.eq c.args.key) ks none in
    let items : c.push_reserved-in-Crowded.new.self.items ≡ ks ++ c.args.key ∷ [] = c.push_reserved-in-Crowded.ensures.items ∙ ap (λ l. l ++ c.args.key ∷ []) c.reserve.ensures.items in
    let e : c.push_reserved-in-Crowded.new.self.items ≡ insert_key g.K.PartialEq.eq ks c.args.key = items ∙ sym (added g.K.PartialEq.eq ks c.args.key m) in
    let s = stored_new g.K.PartialEq.eq g.met.K.Eq.laws ks c.args.key c.self.invariant.0 m in
    subst (IsDistinct g.K.PartialEq.eq) (sym e) s.distinct
