-- Powers of ten.
use Rattle.std.proofs.Common.{ℕ, zero, suc, ◌<◌, ◌^◌, arith}
use Rattle.std.proofs.Math.Nat.{pow-suc}

pub positive : (n : ℕ) → 0 < 10 ^ n
positive zero = omega arith
positive (suc n) = omega (arith, pow-suc 10 n, positive n)
