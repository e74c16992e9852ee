-- What is still to be written of a text: the text of each part, and whether it has one.
use Rattle.std.specs.Prelude.{◌≡◌, ℕ, ◌+◌, ◌*◌, ◌<◌, ◌≤◌, Bool, true, false, not, ◌&&◌, ◌||◌, List, [], ◌∷◌, ◌++◌, map, Option, Some, None, is_some, String, string_bytes, codes, if◌then◌else◌}
use Rattle.std.specs.declared.alloc.Global.{Global}
use Rattle.std.specs.Fmt.{signed_decimal}
use Rattle.expr_error.specs.Quoted.{quoted_text}
use Rattle.expr_functions.specs.declared.functions.HigherOrderCall.{HigherOrderCall}
use Rattle.expr_parts.specs.Promotion.{has_free_hash, bound_has_free_hash, block_has_free_hash, reduces}
use Rattle.expr_tokens.specs.Reading.{pieces_text}
use Rattle.expr_tokens.specs.Tokens.{is_word}
use Rattle.expr_tokens.specs.declared.operator_sign.InfixSign.{InfixSign}
use Rattle.expr_tree.specs.Term.{Term, Terms, no_terms, term, Bound, Block, LineTerms}
use Rattle.expr_tree.specs.TermOf.{term_of, program_term, line_term, terms_of}
use Rattle.expr_value.specs.declared.value.Value.{Value}
use Rattle.expr_text.specs.Layout.{bytes_text, pieces_of, bound_pieces, else_pieces, program_text}
use Rattle.expr_text.specs.Steps.{literal_steps, values_steps, term_steps, items_steps, block_steps, lines_steps}
use Rattle.expr_text.specs.Texts.{is_free_word, literal_has_text, has_text, bound_has_text, block_has_text}
use Rattle.expr_text.specs.Trees.{literal_tree, tree_at, bound_of, else_of, infix_at}
use Rattle.expr_text.specs.declared.part.Place.{Place}
use Rattle.expr_text.specs.declared.part.Ban.{Ban}
use Rattle.expr_text.specs.declared.part.Ban.TheVariants as ban
use Rattle.expr_text.specs.declared.part.Part.{Part}
use Rattle.expr_text.specs.declared.part.Part.TheVariants as part

-- Texts of nodes, literals and lists.
abbrev pub placed_text : Term → (left right : ℕ) → List ℕ
placed_text t left right = pieces_text (pieces_of (tree_at t left right))

abbrev pub written_literal : Value → List ℕ
written_literal v = pieces_text (pieces_of (literal_tree v))

abbrev pub else_text : Block → List ℕ
else_text b = pieces_text (else_pieces (else_of b))

-- a key of a map: a word, or else a string in quotes
abbrev pub written_key : List ℕ → List ℕ
written_key k = if is_word k then k else quoted_text k

-- the comma before an item
abbrev pub gap_text : (first : Bool) → List ℕ
gap_text true = []
gap_text false = codes ", "

abbrev pub items_text : (first : Bool) → Terms → List ℕ
items_text first no_terms = []
items_text first (term t ts) = gap_text first ++ (placed_text t 0 0 ++ items_text false ts)

abbrev pub pairs_text : (first : Bool) → LineTerms → List ℕ
pairs_text first [] = []
pairs_text first (p ∷ ps) = gap_text first ++ (written_key p.0 ++ (codes ": " ++ (placed_text p.1 0 0 ++ pairs_text false ps)))

abbrev pub members_text : (first : Bool) → List (List ℕ) → List Value → List ℕ
members_text first [] vs = []
members_text first (k ∷ ks) [] = []
members_text first (k ∷ ks) (v ∷ vs) = gap_text first ++ (written_key k ++ (codes ": " ++ (written_literal v ++ members_text false ks vs)))

abbrev pub lines_text : LineTerms → List ℕ
lines_text [] = []
lines_text (l ∷ ls) = codes "let " ++ (l.0 ++ (codes " = " ++ (placed_text l.1 0 0 ++ (codes ";\n" ++ lines_text ls))))

-- Whether there is a text, and no name with `#` is free where none may be.
abbrev pub stands : (hashless : Bool) → Term → Bool
stands hashless t = not (has_free_hash t && hashless) && has_text t

abbrev pub block_stands : (hashless : Bool) → Block → Bool
block_stands hashless b = not (block_has_free_hash b && hashless) && block_has_text b

abbrev pub lines_stand : (hashless : Bool) → LineTerms → Bool
lines_stand hashless [] = true
lines_stand hashless (l ∷ ls) = is_free_word l.0 && (stands hashless l.1 && lines_stand hashless ls)

abbrev pub pairs_stand : (hashless : Bool) → LineTerms → Bool
pairs_stand hashless [] = true
pairs_stand hashless (p ∷ ps) = stands hashless p.1 && pairs_stand hashless ps

abbrev pub members_stand : List (List ℕ) → List Value → Bool
members_stand [] vs = true
members_stand (k ∷ ks) [] = true
members_stand (k ∷ ks) (v ∷ vs) = literal_has_text v && members_stand ks vs

abbrev pub bound_text : Bound → List ℕ
bound_text b = pieces_text (bound_pieces (bound_of b))

abbrev pub bound_stands : (hashless : Bool) → Bound → Bool
bound_stands hashless b = not (bound_has_free_hash b && hashless) && bound_has_text b

-- two operands with an operator between
abbrev pub infix_at_text : InfixSign → (l r : Term) → (left right : ℕ) → List ℕ
infix_at_text o l r left right = pieces_text (pieces_of (infix_at o (tree_at l) (tree_at r) left right))

abbrev pub both_stand : (hashless : Bool) → (l r : Term) → Bool
both_stand hashless l r = not ((has_free_hash l || has_free_hash r) && hashless) && (has_text l && has_text r)

-- the symbols before an index, and before a member
abbrev pub open_text : (optional : Bool) → List ℕ
open_text true = codes "?.["
open_text false = codes "["

abbrev pub dot_text : (optional : Bool) → List ℕ
dot_text true = codes "?."
dot_text false = codes "."

-- what opens a predicate behind these arguments
abbrev pub brace_text : Terms → List ℕ
brace_text no_terms = codes "{"
brace_text (term t ts) = codes ", {"

-- which items may have no free name with `#`
abbrev pub ban_of_all : Bool → Ban
ban_of_all true = ban.All
ban_of_all false = ban.None

abbrev pub ban_by_name : Option HigherOrderCall → Ban
ban_by_name o = if reduces o then ban.FirstTwo else (if is_some o then ban.Last else ban.None)

abbrev pub ban_of_call : Option HigherOrderCall → Bool → Ban
ban_of_call o true = ban.All
ban_of_call o false = ban_by_name o

abbrev pub bans_first : Ban → (is_last : Bool) → Bool
bans_first ban.None is_last = false
bans_first ban.All is_last = true
bans_first ban.Last is_last = is_last
bans_first ban.First is_last = true
bans_first ban.FirstTwo is_last = true

abbrev pub ban_after : Ban → Ban
ban_after ban.None = ban.None
ban_after ban.All = ban.All
ban_after ban.Last = ban.Last
ban_after ban.First = ban.None
ban_after ban.FirstTwo = ban.First

abbrev pub has_no_terms : Terms → Bool
has_no_terms no_terms = true
has_no_terms (term t ts) = false

abbrev pub items_stand : Ban → Terms → Bool
items_stand b no_terms = true
items_stand b (term t ts) = stands (bans_first b (has_no_terms ts)) t && items_stand (ban_after b) ts

-- Parts.
abbrev pub apart : Bool → Place
apart hashless = record { left = 0; right = 0; is_hashless = hashless }

abbrev pub text_of_part : Part → List ℕ
text_of_part (part.Text s) = s.now
text_of_part (part.Quoted s) = quoted_text s.now
text_of_part (part.Bytes bs) = bytes_text bs.now
text_of_part (part.Integer n) = signed_decimal n
text_of_part (part.Node n place) = placed_text (term_of n.now) place.left place.right
text_of_part (part.Items ns b first) = items_text first (terms_of (map term_of ns.now))
text_of_part (part.Pairs ps hashless first) = pairs_text first (map line_term ps.now)
text_of_part (part.Members ks vs first) = members_text first ks.now vs.now
text_of_part (part.Literal v) = written_literal v.now
text_of_part (part.Lines ls hashless) = lines_text (map line_term ls.now)
text_of_part (part.Program p hashless) = program_text (program_term p.now)
text_of_part (part.Else p hashless) = else_text (program_term p.now)

abbrev pub part_stands : Part → Bool
part_stands (part.Text s) = true
part_stands (part.Quoted s) = true
part_stands (part.Bytes bs) = true
part_stands (part.Integer n) = true
part_stands (part.Node n place) = stands place.is_hashless (term_of n.now)
part_stands (part.Items ns b first) = items_stand b (terms_of (map term_of ns.now))
part_stands (part.Pairs ps hashless first) = pairs_stand hashless (map line_term ps.now)
part_stands (part.Members ks vs first) = members_stand ks.now vs.now
part_stands (part.Literal v) = literal_has_text v.now
part_stands (part.Lines ls hashless) = lines_stand hashless (map line_term ls.now)
part_stands (part.Program p hashless) = block_stands hashless (program_term p.now)
part_stands (part.Else p hashless) = block_stands hashless (program_term p.now)

abbrev pub part_steps : Part → ℕ
part_steps (part.Text s) = 1
part_steps (part.Quoted s) = 1
part_steps (part.Bytes bs) = 1
part_steps (part.Integer n) = 1
part_steps (part.Node n place) = term_steps (term_of n.now) + 3 * (place.left + place.right)
part_steps (part.Items ns b first) = items_steps (terms_of (map term_of ns.now))
part_steps (part.Pairs ps hashless first) = lines_steps (map line_term ps.now)
part_steps (part.Members ks vs first) = values_steps vs.now
part_steps (part.Literal v) = literal_steps v.now
part_steps (part.Lines ls hashless) = lines_steps (map line_term ls.now)
part_steps (part.Program p hashless) = block_steps (program_term p.now)
part_steps (part.Else p hashless) = 20 + block_steps (program_term p.now)

-- The parts that are pending, the next one last.
abbrev pub pending_text : List Part → List ℕ
pending_text [] = []
pending_text (p ∷ ps) = pending_text ps ++ text_of_part p

abbrev pub pending_stand : List Part → Bool
pending_stand [] = true
pending_stand (p ∷ ps) = part_stands p && pending_stand ps

abbrev pub pending_steps : List Part → ℕ
pending_steps [] = 0
pending_steps (p ∷ ps) = part_steps p + pending_steps ps

-- parts with this text are put on top of those that are pending
pub record PutsParts (old new : List Part) (text : List ℕ) (stand : Bool) (steps : ℕ) : Type 0 where
  pub texts : pending_text new ≡ text ++ pending_text old
  pub stands : pending_stand new ≡ (stand && pending_stand old)
  pub count : pending_steps new ≡ steps + pending_steps old

-- the same, in fewer steps
pub record Replaces (old new : List Part) (text : List ℕ) (stand : Bool) (steps : ℕ) : Type 0 where
  pub texts : pending_text new ≡ text ++ pending_text old
  pub stands : pending_stand new ≡ (stand && pending_stand old)
  pub fewer : pending_steps new < steps + pending_steps old

-- Where there is a text, its parts are put.
abbrev pub Expands : (done : Bool) → (old new : List Part) → List ℕ → (stand : Bool) → (steps : ℕ) → Type 0
Expands true old new text stand steps = Replaces old new text stand steps
Expands false old new text stand steps = stand ≡ false

abbrev pub NodeExpands : (done : Bool) → (old new : List Part) → Term → Place → Type 0
NodeExpands done old new t place = Expands done old new (placed_text t place.left place.right) (stands place.is_hashless t) (term_steps t + 3 * (place.left + place.right))

-- A part is written, or its parts are put in its place.
pub record WritesPart (part : Part) (out : List ℕ) (old : List Part) (more : List ℕ) (new : List Part) : Type 0 where
  pub texts : more ++ pending_text new ≡ out ++ (text_of_part part ++ pending_text old)
  pub stands : pending_stand new ≡ (part_stands part && pending_stand old)
  pub fewer : pending_steps new < part_steps part + pending_steps old

abbrev pub WritesOrNot : (done : Bool) → Part → List ℕ → List Part → List ℕ → List Part → Type 0
WritesOrNot true part out old more new = WritesPart part out old more new
WritesOrNot false part out old more new = part_stands part ≡ false

-- the whole text, where there is one
abbrev pub IsWhole : Option (String Global) → List ℕ → (stand : Bool) → Type 0
IsWhole None text stand = stand ≡ false
IsWhole (Some s) text stand = (string_bytes s ≡ text) × (stand ≡ true)

-- one part
pub record PartIs (p : Part) (text : List ℕ) (stand : Bool) (steps : ℕ) : Type 0 where
  pub texts : text_of_part p ≡ text
  pub stands : part_stands p ≡ stand
  pub most : part_steps p ≤ steps
