-- Counting a value that holds nothing besides its slot.
use Rattle.std.proofs.Common.{◌≡◌, ℕ, suc, ◌-◌, Result, Ok, Err, ap, ◌∙◌, sym, subst, arith}
use Rattle.expr_limits.specs.MeterView.{Charges, MeterView}
use Rattle.expr_limits.specs.Rooms.{Holds, Room, Takes, unlimited, limited}
use Rattle.expr_limits.specs.declared.limit.Limit.{Limit}
use Rattle.expr_limits.specs.declared.limit.Limit.TheVariants.{Steps, Size}

pub nothing_held : (s w d n e : ℕ) → n ≡ 0 → e ≡ 0 → Holds n e (limited s w d) (Ok (limited s w d))
nothing_held s w d n e none flat =
    let steps : s ≡ s - n = omega (arith, none) in
    let size : w ≡ w - n = omega (arith, none) in
    (omega (arith, flat), (omega (arith, none), omega (arith, none), ap (λ k. limited k w d) steps ∙ ap (λ k. limited (s - n) k d) size))

place_held : (room : Room) (r : Result Room Limit) → Takes 1 1 room r → Holds 1 0 room r
place_held unlimited r t = t
place_held (limited s w d) (Ok now) t = (omega arith, t)
place_held (limited s w d) (Err Steps) t = t
place_held (limited s w d) (Err Size) t = t
place_held (limited s w d) (Err limit) t = absurd t

-- keeping it charges its slot
pub place_kept : {A E : Type 0} (limit : E → Limit) (r : Result A E) (old new : MeterView) (n e : ℕ) → n ≡ 0 → e ≡ 0 → Charges limit r (Takes 1 1) old new → Charges limit r (Holds (suc n) e) old new
place_kept limit (Ok a) old new n e none flat p =
    (p.0, subst (λ k. Holds (suc k) e old.room (Ok new.room)) (sym none) (subst (λ k. Holds 1 k old.room (Ok new.room)) (sym flat) (place_held old.room (Ok new.room) p.1)))
place_kept limit (Err x) old new n e none flat p =
    (p.0, subst (λ k. Holds (suc k) e old.room (Err (limit x))) (sym none) (subst (λ k. Holds 1 k old.room (Err (limit x))) (sym flat) (place_held old.room (Err (limit x)) p.1)))
