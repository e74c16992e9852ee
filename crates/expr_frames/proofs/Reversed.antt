-- A block goes from its last instruction to its first: what is left to run is its front.
use Rattle.std.proofs.Common.{◌≡◌, ℕ, ◌+◌, ◌-◌, ◌<◌, ◌≤◌, List, [], ◌∷◌, ◌++◌, length, get_or, drop, take, map, reverse, sym, ap, ◌∙◌, arith, length-drop}
use Rattle.std.proofs.Math.Seq.{drop-append_seam, take-length}
use Rattle.std.proofs.lemmas.List.{length-map, length-reverse, length-take, reverse-append, take_more, take-take, take-append-drop}
use Rattle.std.specs.List.{drop-map}

-- the last of a front comes first
pub front_step : {X : Type 0} (block : List X) (n : ℕ) (x : X) → 0 < n → n ≤ length block → x ≡ get_or block (n - 1) x → reverse (take n block) ≡ x ∷ reverse (take (n - 1) block)
front_step block n x some within is =
    let below : n - 1 < length block = omega arith in
    let count : n ≡ n - 1 + 1 = omega arith in
    ap (λ k. reverse (take k block)) count
    ∙ ap reverse (take_more block (n - 1) x below)
    ∙ reverse-append (take (n - 1) block) (get_or block (n - 1) x ∷ [])
    ∙ ap (λ y. y ∷ reverse (take (n - 1) block)) (sym is)

-- and this many of the last come before the others
pub front_passed : {X : Type 0} (block : List X) (n skip : ℕ) → n ≤ length block → skip ≤ n → drop skip (reverse (take n block)) ≡ reverse (take (n - skip) block)
front_passed block n skip within short =
    let whole = take n block in
    let past = drop (n - skip) whole in
    let parts : reverse whole ≡ reverse past ++ reverse (take (n - skip) whole) =
    ap reverse (sym (take-append-drop (n - skip) whole)) ∙ reverse-append (take (n - skip) whole) past in
    let many : skip ≡ length (reverse past) = omega (arith, length-reverse past, length-drop (n - skip) whole, length-take n block) in
    ap (drop skip) parts
    ∙ ap (λ k. drop k (reverse past ++ reverse (take (n - skip) whole))) many
    ∙ drop-append_seam (reverse past) (reverse (take (n - skip) whole))
    ∙ ap reverse (take-take (n - skip) n block (omega arith))

module _ {X Y : Type 0} (f : X → Y) (block : List X) where
  -- what is left, in order
  abbrev pub front : ℕ → List Y
  front n = map f (reverse (take n block))

  pub front_first : (n : ℕ) (x : X) → 0 < n → n ≤ length block → x ≡ get_or block (n - 1) x → front n ≡ f x ∷ front (n - 1)
  front_first n x some within is = ap (map f) (front_step block n x some within is)

  pub front_rest : (n skip : ℕ) → n ≤ length block → skip ≤ n → drop skip (front n) ≡ front (n - skip)
  front_rest n skip within short = drop-map f skip (reverse (take n block)) ∙ ap (map f) (front_passed block n skip within short)

  pub front_length : (n : ℕ) → n ≤ length block → length (front n) ≡ n
  front_length n within = omega (arith, length-map (reverse (take n block)) f, length-reverse (take n block), length-take n block)

  pub front_all : (n : ℕ) → n ≡ length block → front n ≡ map f (reverse block)
  front_all n is = ap (λ k. map f (reverse (take k block))) is ∙ ap (λ l. map f (reverse l)) (take-length block)
