-- Codes that aren't safe, so that no program has them: slots of an inner block over those of the outer one.
use Rattle.std.proofs.Common.{arith}
use Rattle.expr_tree.specs.Term.{Block}
use Rattle.expr_code.specs.Codes.{IsCode}
use Rattle.expr_code.specs.Safe.{IsSafeCode}
use Rattle.expr_meaning.specs.Wrong.{covering_code, overwriting_code}
use Rattle.expr_code.proofs.Shaped.{safe_code}

-- the outer line isn't there after the call
covering_unsafe : IsSafeCode covering_code → ⊥
covering_unsafe (_, _, _, (_, (_, _, _, _, (_, (there, _))))) = absurd (omega arith)

overwriting_unsafe : IsSafeCode overwriting_code → ⊥
overwriting_unsafe (_, _, _, (_, (_, _, _, (_, (_, own, _, _)), _))) = absurd (omega arith)

pub no_program_has : (b : Block) → (IsCode b covering_code → ⊥) × (IsCode b overwriting_code → ⊥)
no_program_has b = (λ is. covering_unsafe (safe_code b covering_code is), λ is. overwriting_unsafe (safe_code b overwriting_code is))
