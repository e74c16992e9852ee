-- Parts of counted runs, one after the other.
use Rattle.std.proofs.Common.{List, [], ◌∷◌, Result, Ok, Err, refl, subst}
use Rattle.expr_value.specs.declared.value.Value.{Value}
use Rattle.expr_limits.specs.Counting.{Charge, ChargeThen, Counting, Ending, ThenIfGives, KeepAllThen, ThenIfCharged, EndingThen, gives, refuses, stops}
use Rattle.expr_limits.specs.declared.limit.Limit.{Limit}

-- where one part ends so, what follows it ends as this says
module _ {T : Type 0} (e f : Ending T) (next : Value → T → Ending T → Type 0) (on : ThenIfGives e next f) where
  passing_then : (r : Result T Limit) (P Q : T → Ending T → Type 0) → ((u : T) → P u e → Q u f) → ThenIfCharged r P e → ThenIfCharged r Q f
  passing_then (Ok u) P Q g p = g u p
  passing_then (Err limit) P Q g p = subst (λ x. ThenIfGives x next f) p on

  pub counted_then : (charge : Charge T) (now : T) (P Q : T → Ending T → Type 0) → ((u : T) → P u e → Q u f) → ChargeThen charge now P e → ChargeThen charge now Q f
  counted_then charge now P Q g (r, c, p) = (r, c, passing_then r P Q g p)

  pub following_then : (x : Ending T) (P Q : Value → T → Ending T → Type 0) → ((v : Value) (u : T) → P v u e → Q v u f) → ThenIfGives x P e → ThenIfGives x Q f
  following_then (gives v u) P Q g p = g v u p
  following_then (refuses a) P Q g p = subst (λ y. ThenIfGives y next f) p on
  following_then (stops limit) P Q g p = subst (λ y. ThenIfGives y next f) p on

  pub ending_then : (A : Ending T → Type 0) (P Q : Value → T → Ending T → Type 0) → ((v : Value) (u : T) → P v u e → Q v u f) → EndingThen A P e → EndingThen A Q f
  ending_then A P Q g (x, a, p) = (x, a, following_then x P Q g p)

-- the same of keeping values
module _ (counting : Counting) (e f : Ending counting.Tally) (next : Value → counting.Tally → Ending counting.Tally → Type 0) (on : ThenIfGives e next f) where
  pub keeping_then : (vs : List Value) (now : counting.Tally) (P Q : counting.Tally → Ending counting.Tally → Type 0) → ((u : counting.Tally) → P u e → Q u f) → KeepAllThen counting vs now P e → KeepAllThen counting vs now Q f
  keeping_then [] now P Q g p = g now p
  keeping_then (v ∷ vs) now P Q g p =
      counted_then e f next on (counting.keeps v) now (λ u x. KeepAllThen counting vs u P x) (λ u x. KeepAllThen counting vs u Q x) (λ u q. keeping_then vs u P Q g q) p

-- what follows allows more
module _ {T : Type 0} where
  passed_from : (r : Result T Limit) (P Q : T → Ending T → Type 0) → ((u : T) (e : Ending T) → P u e → Q u e) → (e : Ending T) → ThenIfCharged r P e → ThenIfCharged r Q e
  passed_from (Ok u) P Q g e p = g u e p
  passed_from (Err limit) P Q g e p = p

  pub charged_from : (charge : Charge T) (now : T) (P Q : T → Ending T → Type 0) → ((u : T) (e : Ending T) → P u e → Q u e) → (e : Ending T) → ChargeThen charge now P e → ChargeThen charge now Q e
  charged_from charge now P Q g e (r, c, p) = (r, c, passed_from r P Q g e p)

  pub given_from : (x : Ending T) (P Q : Value → T → Ending T → Type 0) → ((v : Value) (u : T) (e : Ending T) → P v u e → Q v u e) → (e : Ending T) → ThenIfGives x P e → ThenIfGives x Q e
  given_from (gives v u) P Q g e p = g v u e p
  given_from (refuses a) P Q g e p = p
  given_from (stops limit) P Q g e p = p

  pub ending_from : (A B : Ending T → Type 0) (P Q : Value → T → Ending T → Type 0) → ((e : Ending T) → A e → B e) → ((v : Value) (u : T) (e : Ending T) → P v u e → Q v u e) → (e : Ending T) → EndingThen A P e → EndingThen B Q e
  ending_from A B P Q f g e (x, a, p) = (x, f x a, given_from x P Q g e p)

-- what follows kept values allows more
module _ (counting : Counting) where
  pub kept_from : (vs : List Value) (now : counting.Tally) (P Q : counting.Tally → Ending counting.Tally → Type 0) → ((u : counting.Tally) (e : Ending counting.Tally) → P u e → Q u e) → (e : Ending counting.Tally) → KeepAllThen counting vs now P e → KeepAllThen counting vs now Q e
  kept_from [] now P Q g e p = g now e p
  kept_from (v ∷ vs) now P Q g e p =
      charged_from (counting.keeps v) now (λ u. KeepAllThen counting vs u P) (λ u. KeepAllThen counting vs u Q) (λ u x q. kept_from vs u P Q g x q) e p

-- what follows a whole follows its last part
module _ {T : Type 0} (next : Value → T → Ending T → Type 0) where
  passed_joins : (r : Result T Limit) (P : T → Ending T → Type 0) (x e : Ending T) → ThenIfCharged r P x → ThenIfGives x next e → ThenIfCharged r (λ u. EndingThen (P u) next) e
  passed_joins (Ok u) P x e p n = (x, p, n)
  passed_joins (Err limit) P x e p n = subst (λ y. ThenIfGives y next e) p n

  pub charge_joins : (charge : Charge T) (now : T) (P : T → Ending T → Type 0) (e : Ending T) → EndingThen (ChargeThen charge now P) next e → ChargeThen charge now (λ u. EndingThen (P u) next) e
  charge_joins charge now P e (x, (r, c, p), n) = (r, c, passed_joins r P x e p n)

  passed_splits : (charge : Charge T) (now : T) (r : Result T Limit) (P : T → Ending T → Type 0) (e : Ending T) → charge now r → ThenIfCharged r (λ u. EndingThen (P u) next) e → EndingThen (ChargeThen charge now P) next e
  passed_splits charge now (Ok u) P e c (x, p, n) = (x, (Ok u, c, p), n)
  passed_splits charge now (Err limit) P e c p = (stops limit, (Err limit, c, refl), p)

  pub charge_splits : (charge : Charge T) (now : T) (P : T → Ending T → Type 0) (e : Ending T) → ChargeThen charge now (λ u. EndingThen (P u) next) e → EndingThen (ChargeThen charge now P) next e
  charge_splits charge now P e (r, c, p) = passed_splits charge now r P e c p

  given_joins : (y : Ending T) (P : Value → T → Ending T → Type 0) (x e : Ending T) → ThenIfGives y P x → ThenIfGives x next e → ThenIfGives y (λ v u. EndingThen (P v u) next) e
  given_joins (gives v u) P x e p n = (x, p, n)
  given_joins (refuses a) P x e p n = subst (λ z. ThenIfGives z next e) p n
  given_joins (stops limit) P x e p n = subst (λ z. ThenIfGives z next e) p n

  pub ending_joins : (A : Ending T → Type 0) (P : Value → T → Ending T → Type 0) (e : Ending T) → EndingThen (EndingThen A P) next e → EndingThen A (λ v u. EndingThen (P v u) next) e
  ending_joins A P e (x, (y, a, p), n) = (y, a, given_joins y P x e p n)

  given_splits : (A : Ending T → Type 0) (y : Ending T) (P : Value → T → Ending T → Type 0) (e : Ending T) → A y → ThenIfGives y (λ v u. EndingThen (P v u) next) e → EndingThen (EndingThen A P) next e
  given_splits A (gives v u) P e a (x, p, n) = (x, (gives v u, a, p), n)
  given_splits A (refuses f) P e a p = (refuses f, (refuses f, a, refl), p)
  given_splits A (stops limit) P e a p = (stops limit, (stops limit, a, refl), p)

  pub ending_splits : (A : Ending T → Type 0) (P : Value → T → Ending T → Type 0) (e : Ending T) → EndingThen A (λ v u. EndingThen (P v u) next) e → EndingThen (EndingThen A P) next e
  ending_splits A P e (y, a, p) = given_splits A y P e a p

-- the same of keeping values first
module _ (counting : Counting) (next : Value → counting.Tally → Ending counting.Tally → Type 0) where
  pub keeping_joins : (vs : List Value) (now : counting.Tally) (P : counting.Tally → Ending counting.Tally → Type 0) (e : Ending counting.Tally) → EndingThen (KeepAllThen counting vs now P) next e → KeepAllThen counting vs now (λ u. EndingThen (P u) next) e
  keeping_joins [] now P e p = p
  keeping_joins (v ∷ vs) now P e p =
      charged_from (counting.keeps v) now (λ u. EndingThen (KeepAllThen counting vs u P) next) (λ u. KeepAllThen counting vs u (λ k. EndingThen (P k) next)) (λ u x q. keeping_joins vs u P x q) e
      (charge_joins next (counting.keeps v) now (λ u. KeepAllThen counting vs u P) e p)

  pub keeping_splits : (vs : List Value) (now : counting.Tally) (P : counting.Tally → Ending counting.Tally → Type 0) (e : Ending counting.Tally) → KeepAllThen counting vs now (λ u. EndingThen (P u) next) e → EndingThen (KeepAllThen counting vs now P) next e
  keeping_splits [] now P e p = p
  keeping_splits (v ∷ vs) now P e p =
      charge_splits next (counting.keeps v) now (λ u. KeepAllThen counting vs u P) e
      (charged_from (counting.keeps v) now (λ u. KeepAllThen counting vs u (λ k. EndingThen (P k) next)) (λ u. EndingThen (KeepAllThen counting vs u P) next) (λ u x q. keeping_splits vs u P x q) e p)
