-- What each function puts makes up the node: from the facts of its calls.
use Rattle.std.proofs.Common.{◌≡◌, ℕ, suc, ◌+◌, ◌*◌, ◌<◌, ◌≤◌, nat_lt, Bool, true, false, not, ◌&&◌, List, [], ◌∷◌, ◌++◌, Option, Some, None, codes, refl, sym, ap, subst, ◌∙◌, append_assoc, append-nil, add-one, arith}
use Rattle.std.proofs.lemmas.Bool.{false≢true}
use Rattle.expr_text.proofs.Same.{item_is}
use Rattle.expr_functions.specs.Functions.{higher_order_named}
use Rattle.expr_functions.specs.declared.operator.UnaryOperator.{UnaryOperator}
use Rattle.expr_parts.specs.Maps.{has_expression}
use Rattle.expr_tokens.specs.Grammar.{infix_level, prefix_level}
use Rattle.expr_tokens.specs.Reading.{pieces_text}
use Rattle.expr_tokens.specs.Tokens.{is_word}
use Rattle.expr_tokens.specs.declared.operator_sign.InfixSign.{InfixSign}
use Rattle.expr_tokens.specs.declared.operator_sign.PrefixSign.{PrefixSign}
use Rattle.expr_value.specs.declared.value.Value.{Value}
use Rattle.expr_value.specs.declared.value.Value.TheVariants as value
use Rattle.expr_tree.specs.Term.{Term, name, literal, list, mapping, call, unary, postfix, choice, index, slice, pipe, ternary, method, Bound, Terms, no_predicate, predicate, Block, LineTerms, term_pairs}
use Rattle.expr_text.specs.Brackets.{infix_needs_brackets, postfix_needs_brackets, needs_brackets}
use Rattle.expr_text.specs.Layout.{infix_pieces, prefix_pieces, colon_text, program_text}
use Rattle.expr_text.specs.Parts.{placed_text, written_literal, else_text, written_key, items_text, pairs_text, lines_text, bound_text, infix_at_text, brace_text, open_text, dot_text, stands, both_stand, block_stands, bound_stands, lines_stand, pairs_stand, items_stand, ban_of_all, ban_of_call, apart, text_of_part, part_stands, part_steps, PutsParts, Replaces, NodeExpands, PartIs}
use Rattle.expr_text.specs.Steps.{literal_steps, term_steps, items_steps, bound_steps, block_steps, lines_steps}
use Rattle.expr_text.specs.Texts.{is_free_word, is_call_term, literal_has_text}
use Rattle.expr_text.specs.Trees.{infix_of, prefix_of, infix_catch, member_word, is_item, bound_of}
use Rattle.expr_text.specs.declared.part.Ban.{Ban}
use Rattle.expr_text.specs.declared.part.Part.{Part}
use Rattle.expr_text.specs.declared.part.Place.{Place}
use Rattle.expr_text.proofs.Counting.{pairs-steps, infix_low, prefix_low}
use Rattle.expr_text.proofs.Literals.{string_stands}
use Rattle.expr_text.proofs.Pending.{and_true, and_assoc, then_put, replaced}
use Rattle.expr_text.proofs.Standing.{both_nodes, all_stand, map_stands, call_stands, predicate_stands, choice_stands, slice_stands, ternary_stands, index_stands, pipe_stands, method_stands}
use Rattle.expr_text.proofs.Wording.{bracketed, beside, infix_bare, prefix_bare, list_text, map_text, call_text, predicate_call_text, choice_text, key_text, field_text, member_text, slice_text, pipe_text, ternary_text, method_text, name_text, six}

-- the steps and the text of a node at a place
abbrev pub node_steps : Term → Place → ℕ
node_steps t x = term_steps t + 3 * (x.left + x.right)

abbrev pub at_place : Term → Place → List ℕ
at_place t x = placed_text t x.left x.right

-- the place of an operand before an operator, or behind one
abbrev pub before_level : Place → ℕ → Place
before_level p n = record { left = p.left; right = n; is_hashless = p.is_hashless }

abbrev pub behind_level : Place → ℕ → Place
behind_level p n = record { left = n; right = p.right; is_hashless = p.is_hashless }

-- a node at a place that is known
pub same_text : (t : Term) (x y : Place) → x ≡ y → at_place t x ≡ at_place t y
same_text t x y e = ap (λ (p : Place). at_place t p) e

pub same_stand : (t : Term) (x y : Place) → x ≡ y → stands x.is_hashless t ≡ stands y.is_hashless t
same_stand t x y e = ap (λ (p : Place). stands p.is_hashless t) e

pub same_steps : (t : Term) (x y : Place) → x ≡ y → node_steps t x ≡ node_steps t y
same_steps t x y e = ap (λ (p : Place). node_steps t p) e

module _ {old new : List Part} (place : Place) where
  pub brackets_expand : (t : Term) (x : Place) → x ≡ apart place.is_hashless → needs_brackets t place.left place.right ≡ true
      → PutsParts old new (codes "(" ++ (at_place t x ++ codes ")")) (true && (stands x.is_hashless t && true)) (1 + (node_steps t x + 1)) → NodeExpands true old new t place
  brackets_expand t x e needs f =
      let some = beside t place.left place.right needs in
      replaced f _ _ _
      (ap (λ s. codes "(" ++ (s ++ codes ")")) (same_text t x _ e) ∙ sym (bracketed t place.left place.right needs))
      (and_true (stands x.is_hashless t) ∙ same_stand t x _ e)
      (omega (arith, some, same_steps t x _ e))

  pub name_expands : (key : List ℕ) → stands place.is_hashless (name key) ≡ true → PutsParts old new key true 1 → NodeExpands true old new (name key) place
  name_expands key stand f = replaced f _ _ _ (sym (name_text key)) (sym stand) (omega arith)

  pub literal_expands : (v : Value) → PutsParts old new (written_literal v) (literal_has_text v) (literal_steps v) → NodeExpands true old new (literal v) place
  literal_expands v f = replaced f _ _ _ refl refl (omega arith)

  pub list_expands : (ts : Terms) (b : Ban) → b ≡ ban_of_all place.is_hashless → PutsParts old new (codes "[" ++ (items_text true ts ++ codes "]")) (true && (items_stand b ts && true)) (1 + (items_steps ts + 1))
      → NodeExpands true old new (list ts) place
  list_expands ts b e f =
      replaced f _ _ _ (sym (list_text ts)) (and_true (items_stand b ts) ∙ ap (λ (x : Ban). items_stand x ts) e ∙ all_stand place.is_hashless ts) (omega arith)

  pub map_expands : (ps : LineTerms) → has_expression ps ≡ true → PutsParts old new (codes "{" ++ (pairs_text true ps ++ codes "}")) (true && (pairs_stand place.is_hashless ps && true)) (1 + (lines_steps ps + 1))
      → NodeExpands true old new (mapping (term_pairs ps)) place
  map_expands ps some f =
      replaced f _ _ _ (sym (map_text ps)) (and_true (pairs_stand place.is_hashless ps) ∙ sym (map_stands place.is_hashless ps some)) (omega (arith, pairs-steps ps))

  pub infix_expands : (o : InfixSign) (l r : Term) (x y : Place) (level catch : ℕ) (s : List ℕ)
      → infix_needs_brackets o place.left place.right ≡ false
      → x ≡ before_level place level → level ≡ infix_level o → s ≡ codes " " ++ (pieces_text (infix_pieces o) ++ codes " ") → y ≡ behind_level place (catch + 1) → catch ≡ infix_catch o
      → PutsParts old new (at_place l x ++ (s ++ at_place r y)) (stands x.is_hashless l && (true && stands y.is_hashless r)) (node_steps l x + (1 + node_steps r y))
      → Replaces old new (infix_at_text o l r place.left place.right) (both_stand place.is_hashless l r) (200 + (term_steps l + term_steps r) + 3 * (place.left + place.right))
  infix_expands o l r x y level catch s needs ex el es ey ec f =
      let first : x ≡ before_level place (infix_level o) = ex ∙ ap (before_level place) el in
      let second : y ≡ behind_level place (suc (infix_catch o)) = ey ∙ ap (behind_level place) (add-one catch ∙ ap suc ec) in
      let low = infix_low o in
      replaced f _ _ _
      ((λ i. same_text l x _ first i ++ (es i ++ same_text r y _ second i)) ∙ sym (infix_bare o l r place.left place.right needs))
      ((λ i. same_stand l x _ first i && same_stand r y _ second i) ∙ sym (both_nodes place.is_hashless l r))
      (omega (arith, low, same_steps l x _ first, same_steps r y _ second))

  pub prefix_expands : (o : UnaryOperator) (p : PrefixSign) (t : Term) (y : Place) (level : ℕ) (s : List ℕ)
      → needs_brackets (unary o t) place.left place.right ≡ false → p ≡ prefix_of o
      → s ≡ pieces_text (prefix_pieces p) → y ≡ behind_level place level → level ≡ prefix_level p
      → PutsParts old new (s ++ (at_place t y ++ [])) (true && (stands y.is_hashless t && true)) (1 + (node_steps t y + 1))
      → NodeExpands true old new (unary o t) place
  prefix_expands o p t y level s needs ep es ey el f =
      let second : y ≡ behind_level place (prefix_level (prefix_of o)) = ey ∙ ap (behind_level place) (el ∙ ap prefix_level ep) in
      let low = prefix_low (prefix_of o) in
      replaced f _ _ _
      ((λ i. (es ∙ ap (λ (q : PrefixSign). pieces_text (prefix_pieces q)) ep) i ++ (append-nil (at_place t y) ∙ same_text t y _ second) i) ∙ sym (prefix_bare o t place.left place.right needs))
      (and_true (stands y.is_hashless t) ∙ same_stand t y _ second)
      (omega (arith, low, same_steps t y _ second))

-- two groups of parts, the upper one put last
module _ {old mid new : List Part} (place : Place) where
  pub call_expands : (key : List ℕ) (ts : Terms) (b : Ban) → is_free_word key ≡ true → b ≡ ban_of_call (higher_order_named key) place.is_hashless
      → PutsParts old mid (codes "(" ++ (items_text true ts ++ codes ")")) (true && (items_stand b ts && true)) (1 + (items_steps ts + 1)) → PutsParts mid new key true 1
      → NodeExpands true old new (call key ts no_predicate) place
  call_expands key ts b word e f g =
      replaced (then_put f g) _ _ _ (sym (call_text key ts)) (and_true (items_stand b ts) ∙ ap (λ (x : Ban). items_stand x ts) e ∙ sym (call_stands place.is_hashless key ts word)) (omega arith)

  pub predicate_expands : (key : List ℕ) (ts : Terms) (p : Block) (b : Ban) (s : List ℕ) → is_free_word key ≡ true → b ≡ ban_of_all place.is_hashless → s ≡ brace_text ts
      → PutsParts old mid (s ++ (program_text p ++ codes "})")) (true && (block_stands false p && true)) (1 + (block_steps p + 1))
      → PutsParts mid new (key ++ (codes "(" ++ items_text true ts)) (true && (true && items_stand b ts)) (1 + (1 + items_steps ts))
      → NodeExpands true old new (call key ts (predicate p)) place
  predicate_expands key ts p b s word e es f g =
      replaced (then_put f g) _ _ _
      (six key (codes "(") (items_text true ts) s (program_text p) (codes "})") ∙ ap (λ x. key ++ (codes "(" ++ (items_text true ts ++ (x ++ (program_text p ++ codes "})"))))) es ∙ sym (predicate_call_text key ts p))
      ((λ i. items_stand (e i) ts && and_true (block_stands false p) i) ∙ sym (predicate_stands place.is_hashless key ts p word))
      (omega arith)

  pub choice_expands : (c : Term) (a b : Block) (x : Place) → x ≡ apart place.is_hashless
      → PutsParts old mid (program_text a ++ (codes " } else " ++ else_text b)) (block_stands place.is_hashless a && (true && block_stands place.is_hashless b)) (block_steps a + (1 + (20 + block_steps b)))
      → PutsParts mid new (codes "if " ++ (at_place c x ++ codes " { ")) (true && (stands x.is_hashless c && true)) (1 + (node_steps c x + 1))
      → NodeExpands true old new (choice c a b) place
  choice_expands c a b x e f g =
      replaced (then_put f g) _ _ _
      (six (codes "if ") (at_place c x) (codes " { ") (program_text a) (codes " } else ") (else_text b)
      ∙ ap (λ s. codes "if " ++ (s ++ (codes " { " ++ (program_text a ++ (codes " } else " ++ else_text b))))) (same_text c x _ e) ∙ sym (choice_text c a b))
      ((λ i. (and_true (stands x.is_hashless c) ∙ same_stand c x _ e) i && (block_stands place.is_hashless a && block_stands place.is_hashless b)) ∙ sym (choice_stands place.is_hashless c a b))
      (omega (arith, same_steps c x _ e))

  pub key_expands : (key t : Term) (optional : Bool) (x y : Place) (s : List ℕ) → member_word key ≡ None → x ≡ before_level place 13 → y ≡ apart place.is_hashless → s ≡ open_text optional
      → PutsParts old mid (s ++ (at_place key y ++ codes "]")) (true && (stands y.is_hashless key && true)) (1 + (node_steps key y + 1))
      → PutsParts mid new (at_place t x) (stands x.is_hashless t) (node_steps t x)
      → NodeExpands true old new (postfix (index key optional) t) place
  key_expands key t optional x y s none ex ey es f g =
      replaced (then_put f g) _ _ _
      ((λ i. same_text t x _ ex i ++ (es i ++ (same_text key y _ ey i ++ codes "]"))) ∙ sym (key_text key t optional place.left place.right none))
      ((λ i. same_stand t x _ ex i && (and_true (stands y.is_hashless key) ∙ same_stand key y _ ey) i) ∙ sym (index_stands place.is_hashless optional key t))
      (omega (arith, same_steps t x _ ex, same_steps key y _ ey))

  pub slice_expands : (a b : Bound) (t : Term) (x : Place) (s : List ℕ) (p q : Part) → x ≡ before_level place 13 → s ≡ colon_text (bound_of a) (bound_of b)
      → PartIs p (bound_text a) (bound_stands place.is_hashless a) (bound_steps a) → PartIs q (bound_text b) (bound_stands place.is_hashless b) (bound_steps b)
      → PutsParts old mid (s ++ (text_of_part q ++ codes "]")) (true && (part_stands q && true)) (1 + (part_steps q + 1))
      → PutsParts mid new (at_place t x ++ (codes "[" ++ text_of_part p)) (stands x.is_hashless t && (true && part_stands p)) (node_steps t x + (1 + part_steps p))
      → NodeExpands true old new (postfix (slice a b) t) place
  slice_expands a b t x s p q ex es hp hq f g =
      let most_p = hp.most in
      let most_q = hq.most in
      replaced (then_put f g) _ _ _
      (six (at_place t x) (codes "[") (text_of_part p) s (text_of_part q) (codes "]")
      ∙ (λ i. same_text t x _ ex i ++ (codes "[" ++ (hp.texts i ++ (es i ++ (hq.texts i ++ codes "]"))))) ∙ sym (slice_text a b t place.left place.right))
      (and_assoc (stands x.is_hashless t) (part_stands p) (part_stands q && true)
      ∙ (λ i. same_stand t x _ ex i && (hp.stands i && (and_true (part_stands q) ∙ hq.stands) i)) ∙ sym (slice_stands place.is_hashless a b t))
      (omega (arith, most_p, most_q, same_steps t x _ ex))

  pub ternary_expands : (u v t : Term) (x y z : Place) → postfix_needs_brackets (ternary u v) place.left place.right ≡ false → x ≡ before_level place 1 → y ≡ apart place.is_hashless → z ≡ apart place.is_hashless
      → PutsParts old mid (codes " : " ++ (at_place v z ++ [])) (true && (stands z.is_hashless v && true)) (1 + (node_steps v z + 1))
      → PutsParts mid new (at_place t x ++ (codes " ? " ++ at_place u y)) (stands x.is_hashless t && (true && stands y.is_hashless u)) (node_steps t x + (1 + node_steps u y))
      → NodeExpands true old new (postfix (ternary u v) t) place
  ternary_expands u v t x y z needs ex ey ez f g =
      replaced (then_put f g) _ _ _
      (six (at_place t x) (codes " ? ") (at_place u y) (codes " : ") (at_place v z) []
      ∙ (λ i. same_text t x _ ex i ++ (codes " ? " ++ (same_text u y _ ey i ++ (codes " : " ++ (append-nil (at_place v z) ∙ same_text v z _ ez) i)))) ∙ sym (ternary_text u v t place.left place.right needs))
      (and_assoc (stands x.is_hashless t) (stands y.is_hashless u) (stands z.is_hashless v && true)
      ∙ (λ i. same_stand t x _ ex i && (same_stand u y _ ey i && (and_true (stands z.is_hashless v) ∙ same_stand v z _ ez) i)) ∙ sym (ternary_stands place.is_hashless u v t))
      (omega (arith, same_steps t x _ ex, same_steps u y _ ey, same_steps v z _ ez))

  pub method_expands : (key : List ℕ) (ts : Terms) (t : Term) (x : Place) (b : Ban) → is_word key ≡ true → x ≡ before_level place 13 → b ≡ ban_of_all place.is_hashless
      → PutsParts old mid (codes "(" ++ (items_text true ts ++ codes ")")) (true && (items_stand b ts && true)) (1 + (items_steps ts + 1))
      → PutsParts mid new (at_place t x ++ (codes "." ++ key)) (stands x.is_hashless t && (true && true)) (node_steps t x + (1 + 1))
      → NodeExpands true old new (postfix (method key ts) t) place
  method_expands key ts t x b word ex e f g =
      replaced (then_put f g) _ _ _
      (six (at_place t x) (codes ".") key (codes "(") (items_text true ts) (codes ")")
      ∙ ap (λ s. s ++ (codes "." ++ (key ++ (codes "(" ++ (items_text true ts ++ codes ")"))))) (same_text t x _ ex) ∙ sym (method_text key ts t place.left place.right))
      ((λ i. (and_true (stands x.is_hashless t) ∙ same_stand t x _ ex) i && (and_true (items_stand b ts) ∙ ap (λ (y : Ban). items_stand y ts) e) i) ∙ sym (method_stands place.is_hashless key ts t word))
      (omega (arith, same_steps t x _ ex))

field_parts : (item optional : Bool) → (item && not optional) ≡ true → (item ≡ true) × (optional ≡ false)
field_parts true true e = absurd (false≢true e)
field_parts true false e = (refl, refl)
field_parts false optional e = absurd (false≢true e)

pub field_refused : (place : Place) (w : List ℕ) (t : Term) (optional : Bool) → (is_item t && not optional) ≡ true → place.is_hashless ≡ true → stands place.is_hashless (postfix (index (literal (value.String w)) optional) t) ≡ false
field_refused place w t optional field banned =
    let parts = field_parts (is_item t) optional field in
    let none : stands place.is_hashless t ≡ false = (λ i. stands (banned i) (item_is t parts.0 i)) in
    index_stands place.is_hashless optional (literal (value.String w)) t ∙ ap (λ b. b && stands place.is_hashless (literal (value.String w))) none

module _ {old new : List Part} (place : Place) where
  pub field_expands : (w : List ℕ) (t : Term) (optional : Bool) → is_word w ≡ true → (is_item t && not optional) ≡ true → place.is_hashless ≡ false
      → PutsParts old new (codes "." ++ (w ++ [])) true (1 + (1 + 1)) → NodeExpands true old new (postfix (index (literal (value.String w)) optional) t) place
  field_expands w t optional word field free f =
      let parts = field_parts (is_item t) optional field in
      let stand : stands place.is_hashless t ≡ true = (λ i. stands (free i) (item_is t parts.0 i)) in
      subst (λ o. NodeExpands true old new (postfix (index (literal (value.String w)) o) t) place) (sym parts.1) (
      replaced f _ _ _
      (ap (λ s. codes "." ++ s) (append-nil w) ∙ sym (field_text w t place.left place.right word parts.0))
      (sym (index_stands place.is_hashless false (literal (value.String w)) t ∙ (λ i. stand i && string_stands place.is_hashless w i)))
      (omega arith))

  pub member_expands : (w : List ℕ) (t : Term) (optional : Bool) (x : Place) (s : List ℕ) → is_word w ≡ true → (is_item t && not optional) ≡ false → x ≡ before_level place 13 → s ≡ dot_text optional
      → PutsParts old new (at_place t x ++ (s ++ w)) (stands x.is_hashless t && (true && true)) (node_steps t x + (1 + 1)) → NodeExpands true old new (postfix (index (literal (value.String w)) optional) t) place
  member_expands w t optional x s word none ex es f =
      replaced f _ _ _
      ((λ i. same_text t x _ ex i ++ (es i ++ w)) ∙ sym (member_text w t optional place.left place.right word none))
      ((λ i. same_stand t x _ ex i && sym (string_stands place.is_hashless w) i) ∙ sym (index_stands place.is_hashless optional (literal (value.String w)) t))
      (omega (arith, same_steps t x _ ex))

  pub pipe_expands : (u t : Term) (x y : Place) → is_call_term u ≡ true → nat_lt 2 place.left ≡ false → x ≡ before_level place 2 → y ≡ apart place.is_hashless
      → PutsParts old new (at_place t x ++ (codes " | " ++ at_place u y)) (stands x.is_hashless t && (true && stands y.is_hashless u)) (node_steps t x + (1 + node_steps u y))
      → NodeExpands true old new (postfix (pipe u) t) place
  pipe_expands u t x y is needs ex ey f =
      replaced f _ _ _
      ((λ i. same_text t x _ ex i ++ (codes " | " ++ same_text u y _ ey i)) ∙ sym (pipe_text u t place.left place.right is needs))
      ((λ i. same_stand t x _ ex i && same_stand u y _ ey i) ∙ sym (pipe_stands place.is_hashless u t is))
      (omega (arith, same_steps t x _ ex, same_steps u y _ ey))
