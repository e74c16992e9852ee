-- The places that a walk has met, and the trees that it is still to meet.
use Rattle.std.proofs.Common.{◌≡◌, ℕ, ◌+◌, ◌<◌, List, [], ◌∷◌, ◌++◌, Option, Some, None, Result, Ok, Err, OnOk, length, map, reverse, refl, sym, ap, ◌∙◌, subst, append_assoc, arith}
use Rattle.std.proofs.lemmas.List.{append-nil, map-append, reverse-reverse, length-reverse}
use Rattle.expr_syntax.specs.Places.{Part, parts_in, ArePlacesOf, IsPlaceOf, MeetPlaces}
use Rattle.expr_syntax.specs.Waits.{waits}
use Rattle.expr_syntax.specs.declared.places.Place.{Place}
use Rattle.expr_syntax.specs.declared.places.order.Waiting.{Waiting}
use Rattle.expr_tree.specs.Children.{children, block_children}
use Rattle.expr_tree.specs.Term.{Term, Block}
use Rattle.expr_tree.specs.TermOf.{term_of}
use Rattle.expr_tree.specs.Weight.{block_weight}
use Rattle.expr_tree.proofs.NodeChildren.{weight_of, weight_of-append, weight-inside, weight-block}
use Rattle.expr_tree.proofs.Waiting.{weight_falls}

pub waits-push : (ws : List Waiting) (w : Waiting) → waits (ws ++ w ∷ []) ≡ waits ws ++ (w.within, term_of w.node.now) ∷ []
waits-push ws w = map-append (λ (x : Waiting). (x.within, term_of x.node.now)) ws (w ∷ [])

pub parts_in-append : (p : Option Place) (xs ys : List Term) → parts_in p (xs ++ ys) ≡ parts_in p xs ++ parts_in p ys
parts_in-append p xs ys = map-append (λ (t : Term). (p, t)) xs ys

-- some trees wait, and then more
pub then_parts : {E : Type 0} (r : Result (Unit {0}) E) (p : Option Place) (old mid new : List Part) (xs ys all : List Term) → all ≡ xs ++ ys → mid ≡ old ++ parts_in p xs → OnOk r (new ≡ mid ++ parts_in p ys) → OnOk r (new ≡ old ++ parts_in p all)
then_parts (Ok u) p old mid new xs ys all whole first rest =
    rest ∙ ap (λ m. m ++ parts_in p ys) first ∙ append_assoc old (parts_in p xs) (parts_in p ys)
    ∙ ap (λ l. old ++ l) (sym (ap (parts_in p) whole ∙ parts_in-append p xs ys))
then_parts (Err e) p old mid new xs ys all whole first rest = tt

pub same_parts : {E : Type 0} (r : Result (Unit {0}) E) (p : Option Place) (old new : List Part) (ts us : List Term) → ts ≡ us → OnOk r (new ≡ old ++ parts_in p ts) → OnOk r (new ≡ old ++ parts_in p us)
same_parts (Ok u) p old new ts us same h = h ∙ ap (λ l. old ++ parts_in p l) same
same_parts (Err e) p old new ts us same h = tt

-- some trees wait, then more, and then the last
pub then_three : {E : Type 0} (r : Result (Unit {0}) E) (p : Option Place) (old one two new : List Part) (xs ys zs all : List Term) → all ≡ xs ++ (ys ++ zs) → one ≡ old ++ parts_in p xs → two ≡ one ++ parts_in p ys → OnOk r (new ≡ two ++ parts_in p zs) → OnOk r (new ≡ old ++ parts_in p all)
then_three r p old one two new xs ys zs all whole first second last =
    then_parts r p old two new (xs ++ ys) zs all (whole ∙ sym (append_assoc xs ys zs))
    (second ∙ ap (λ m. m ++ parts_in p ys) first ∙ append_assoc old (parts_in p xs) (parts_in p ys) ∙ ap (λ l. old ++ l) (sym (parts_in-append p xs ys)))
    last

abbrev pub trees : List Part → List Term
trees ws = map (λ w. w.1) ws

trees-append : (xs ys : List Part) → trees (xs ++ ys) ≡ trees xs ++ trees ys
trees-append xs ys = map-append (λ (w : Part). w.1) xs ys

trees-parts_in : (p : Option Place) (ts : List Term) → trees (parts_in p ts) ≡ ts
trees-parts_in p [] = refl
trees-parts_in p (t ∷ ts) = ap (λ us. t ∷ us) (trees-parts_in p ts)

-- the last tree that waits is taken, and its children wait
module _ (ws left more : List Part) (w : Part) (p : Place) (popped : ws ≡ left ++ w ∷ []) (pushed : more ≡ left ++ parts_in (Some p) (children w.1)) where
  taken : trees ws ≡ trees left ++ w.1 ∷ []
  taken = ap trees popped ∙ trees-append left (w ∷ [])

  waiting : trees more ≡ trees left ++ children w.1
  waiting = ap trees pushed ∙ trees-append left (parts_in (Some p) (children w.1)) ∙ ap (λ l. trees left ++ l) (trees-parts_in (Some p) (children w.1))

  pub parts_fall : weight_of (trees more) < weight_of (trees ws)
  parts_fall = weight_falls (trees ws) (trees left) (trees more) w.1 taken waiting

  one_fewer : weight_of (trees ws) ≡ 1 + weight_of (trees more)
  one_fewer = omega (arith, ap weight_of taken, weight_of-append (trees left) (w.1 ∷ []), ap weight_of waiting, weight_of-append (trees left) (children w.1), weight-inside w.1)

-- what was met and what is still to be met are the places of all
abbrev pub Meets : List ℕ → List Part → List Place → List Part → Type 0
Meets text all met ws = (rest : List Place) → MeetPlaces text ws rest → MeetPlaces text all (met ++ rest)

module _ (text : List ℕ) (all : List Part) where
  pub meets_at_first : (met : List Place) (ws : List Part) → met ≡ [] → ws ≡ all → Meets text all met ws
  meets_at_first met ws none same rest h = subst (λ l. MeetPlaces text all (l ++ rest)) (sym none) (subst (λ l. MeetPlaces text l rest) same h)

  pub meets_next : (met next : List Place) (ws left more : List Part) (w : Part) (p : Place) → Meets text all met ws → ws ≡ left ++ w ∷ [] → IsPlaceOf text w p → next ≡ met ++ p ∷ [] → more ≡ left ++ parts_in (Some p) (children w.1) → Meets text all next more
  meets_next met next ws left more w p meets popped is longer pushed rest h =
      subst (λ l. MeetPlaces text all l) (sym (ap (λ l. l ++ rest) longer ∙ append_assoc met (p ∷ []) rest))
      (meets (p ∷ rest) (left, w, popped, is, subst (λ l. MeetPlaces text l rest) pushed h))

  pub meets_all : (met : List Place) (ws : List Part) → Meets text all met ws → ws ≡ [] → MeetPlaces text all met
  meets_all met ws meets none = subst (λ l. MeetPlaces text all l) (append-nil met) (meets [] none)

-- a walk meets as many places as there are nodes
met_count : (text : List ℕ) (ws : List Part) (ps : List Place) → MeetPlaces text ws ps → length ps ≡ weight_of (trees ws)
met_count text ws [] none = sym (ap (λ l. weight_of (trees l)) none)
met_count text ws (p ∷ ps) (left, w, popped, is, more) =
    let rest = left ++ parts_in (Some p) (children w.1) in
    omega (arith, met_count text rest ps more, one_fewer ws left rest w p popped refl)

pub places_count : (text : List ℕ) (b : Block) (ps : List Place) → MeetPlaces text (parts_in None (block_children b)) ps → length ps ≡ block_weight b
places_count text b ps met = met_count text (parts_in None (block_children b)) ps met ∙ ap weight_of (trees-parts_in None (block_children b)) ∙ sym (weight-block b)

-- the places in post-order are those met, turned round
module _ (text : List ℕ) (b : Block) (met places : List Place) (all_met : MeetPlaces text (parts_in None (block_children b)) met) (turned : places ≡ reverse met) where
  pub walked : ArePlacesOf text b places
  walked = subst (λ l. MeetPlaces text (parts_in None (block_children b)) l) (sym (ap reverse turned ∙ reverse-reverse met)) all_met

  pub walked_count : length places ≡ block_weight b
  walked_count = ap length turned ∙ length-reverse met ∙ places_count text b met all_met
