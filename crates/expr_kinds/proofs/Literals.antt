-- The literals among some trees, and the values of the trees.
use Rattle.std.proofs.Common.{◌≡◌, List, [], ◌∷◌, map as mapped, Some, Ok, refl, sym, subst}
use Rattle.expr_meaning.specs.Allows.{Allows, AllowsAll}
use Rattle.expr_meaning.specs.World.{World}
use Rattle.expr_tree.specs.Term.{Term, literal, Terms, no_terms, term}
use Rattle.expr_value.specs.Answers.{Then}
use Rattle.expr_value.specs.declared.value.Value.{Value}
use Rattle.expr_kinds.specs.Causes.{Literals, AreKnown}
use Rattle.expr_kinds.specs.Typed.{literal_of, literals_of}
use Rattle.expr_kinds.proofs.Answered.{then-value}

-- a value of a tree, before others
pub known-before : (world : World) (t : Term) (v : Value) (os : Literals) (vs : List Value) → Allows world t (Ok v) → AreKnown os vs → AreKnown (literal_of t ∷ os) (v ∷ vs)
known-before world (literal w) v os vs p k = let same : v ≡ w = cc p in (same, k)
known-before world t v os vs p k = k

pub known-all : (world : World) (ts : Terms) (vs : List Value) → AllowsAll world ts (Ok vs) → AreKnown (literals_of ts) vs
known-all world no_terms vs p = let none : vs ≡ [] = cc p in subst (λ us. AreKnown [] us) (sym none) tt
known-all world (term t ts) vs p =
    let first = then-value (Allows world t) (λ v. Then (AllowsAll world ts) (λ ws r. r ≡ Ok (v ∷ ws))) vs p in
    let more = then-value (AllowsAll world ts) (λ ws r. r ≡ Ok (first.0 ∷ ws)) vs first.2 in
    let same : vs ≡ first.0 ∷ more.0 = cc more.2 in
    subst (λ us. AreKnown (literals_of (term t ts)) us) (sym same) (known-before world t first.0 (literals_of ts) more.0 first.1 (known-all world ts more.0 more.1))

-- where all are literals
pub all-known : (us vs : List Value) → AreKnown (mapped (λ u. Some u) us) vs → vs ≡ us
all-known [] [] k = refl
all-known [] (v ∷ vs) k = absurd k
all-known (u ∷ us) [] k = absurd k
all-known (u ∷ us) (v ∷ vs) k = λ i. k.0 i ∷ all-known us vs k.1 i
