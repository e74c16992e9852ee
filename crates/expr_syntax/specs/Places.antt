-- The places of a program's nodes in its text.
use Rattle.std.specs.Prelude.{◌≡◌, ℕ, ◌<◌, ◌≤◌, ◌⊎◌, List, [], ◌∷◌, ◌++◌, Option, Some, None, IfSome, Result, Ok, Err, codes, map, reverse}
use Rattle.std.specs.List.{between}
use Rattle.std.specs.Str.{IsCharBoundary}
use Rattle.expr_error.specs.declared.error.Error.{Error}
use Rattle.expr_syntax.specs.declared.places.Place.{Place}
use Rattle.expr_syntax.specs.declared.places.PlacedProgram.{PlacedProgram}
use Rattle.expr_tree.specs.Children.{children, block_children}
use Rattle.expr_tree.specs.Term.{Term, name, literal, list, mapping, range, call, unary, operation, postfix, choice, Block}
use Rattle.expr_tree.specs.declared.node.Program.{Program}

-- a tree, and the place of the tree that it is a part of, if it is a part of one
abbrev pub Part : Type 0
Part = Option Place × Term

abbrev pub parts_in : Option Place → List Term → List Part
parts_in outer ts = map (λ t. (outer, t)) ts

-- the place lies in the outer one, and is another
abbrev pub IsInside : Place → Option Place → Type 0
IsInside p None = Unit {0}
IsInside p (Some outer) = (outer.start ≤ p.start) × (p.end ≤ outer.end) × ((outer.start < p.start) ⊎ (p.end < outer.end))

abbrev pub ident_of : Term → Option (List ℕ)
ident_of (name key) = Some key
ident_of (literal v) = None
ident_of (list ts) = None
ident_of (mapping ps) = None
ident_of (range first last) = None
ident_of (call key ts p) = None
ident_of (unary o t) = None
ident_of (operation o l r) = None
ident_of (postfix p t) = None
ident_of (choice c first second) = None

-- A name is what stands at its place. The `#` of a field stands at the dot.
abbrev pub IsSpelledAt : List ℕ → Term → Place → Type 0
IsSpelledAt text t p = IfSome (ident_of t) (λ key. (between p.start p.end text ≡ key) ⊎ (between p.start p.end text ≡ codes "."))

-- the place of a tree: between two characters, not empty, and inside the place of the tree that it is a part of
pub record IsPlaceOf (text : List ℕ) (part : Part) (p : Place) : Type 0 where
  pub some : p.start < p.end
  pub begins : IsCharBoundary text p.start
  pub ends : IsCharBoundary text p.end
  pub inside : IsInside p part.0
  pub spelled : IsSpelledAt text part.1 p

-- The places that a walk meets while trees wait. It takes the last tree that waits, whose children wait next.
abbrev pub MeetPlaces : List ℕ → List Part → List Place → Type 0
MeetPlaces text waiting [] = waiting ≡ []
MeetPlaces text waiting (p ∷ ps) = (left : List Part) × (part : Part) × (waiting ≡ left ++ part ∷ []) × IsPlaceOf text part p × MeetPlaces text (left ++ parts_in (Some p) (children part.1)) ps

-- The places of a program's nodes in post-order: those of a node's children, from the first to the last, and its own. So
-- a walk meets them from the last to the first.
abbrev pub ArePlacesOf : List ℕ → Block → List Place → Type 0
ArePlacesOf text b places = MeetPlaces text (parts_in None (block_children b)) (reverse places)

-- the program alone
abbrev pub program_alone : Result PlacedProgram Error → Result Program Error
program_alone (Ok placed) = Ok placed.program
program_alone (Err e) = Err e
