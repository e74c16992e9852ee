-- What each function puts makes up the list, the program or the literal: from the facts of its calls.
use Rattle.std.proofs.Common.{◌≡◌, ℕ, suc, ◌+◌, ◌*◌, ◌<◌, ◌≤◌, ◌==◌, ℤ, pos, negsuc, nat_lt, Bool, true, false, not, ◌&&◌, List, [], ◌∷◌, ◌++◌, map, length, get_or, Fits, w8, bytes_eq, codes, Global, String, string_bytes, refl, sym, ap, ◌∙◌, subst, append_assoc, append-nil, arith}
use Rattle.std.proofs.lemmas.Bool.{false≢true, and_from}
use Rattle.std.proofs.lemmas.Bool.Decides.{nat_tests}
use Rattle.expr_tree.proofs.Programs.{term_of-parts}
use Rattle.expr_tree.specs.Term.{Term, Terms, answers, choice, Block, LineTerms, block_with}
use Rattle.expr_tree.specs.TermOf.{term_of, program_term, line_term, terms_of}
use Rattle.expr_tree.specs.declared.node.Node.{Node}
use Rattle.expr_tree.specs.declared.node.Program.{Program}
use Rattle.std.specs.List.{list_all, IsDistinct}
use Rattle.std.specs.Map.{keys_of, values_of}
use Rattle.expr_value.specs.declared.value.Value.{Value}
use Rattle.expr_value.specs.declared.value.Value.TheVariants as value
use Rattle.expr_text.specs.Brackets.{block_is_if, is_choice_term}
use Rattle.expr_text.specs.Layout.{bytes_text, program_text}
use Rattle.expr_text.specs.Parts.{placed_text, written_literal, else_text, written_key, gap_text, items_text, pairs_text, members_text, lines_text, brace_text, stands, block_stands, lines_stand, pairs_stand, members_stand, items_stand, bans_first, ban_after, has_no_terms, apart, text_of_part, part_stands, part_steps, PutsParts, Replaces, PartIs}
use Rattle.expr_text.specs.Steps.{literal_steps, values_steps, term_steps, items_steps, block_steps, lines_steps}
use Rattle.expr_text.specs.Texts.{is_free_word, literal_has_text}
use Rattle.expr_text.specs.declared.part.Ban.{Ban}
use Rattle.expr_text.specs.declared.part.Part.{Part}
use Rattle.expr_text.specs.declared.part.Place.{Place}
use Rattle.expr_text.proofs.Counting.{block-steps}
use Rattle.expr_text.proofs.Expanding.{node_steps, at_place, same_text, same_stand, same_steps}
use Rattle.expr_text.proofs.Literals.{members_literal, map_members_stand, members_steps, distinct_keys, simple_bytes}
use Rattle.expr_text.proofs.Pending.{and_true, and_assoc, then_put, replaced, none_put}
use Rattle.expr_text.proofs.Standing.{block_all_stand}
use Rattle.expr_text.proofs.Wording.{block_text, else_choice, else_answers, else_lines, six}

abbrev items_of_nodes : List Node → Terms
items_of_nodes ns = terms_of (map term_of ns)

abbrev lines_of_nodes : List (String Global × Node) → LineTerms
lines_of_nodes ls = map line_term ls

not_empty : (n : ℕ) → (n + 1 == 0) ≡ false
not_empty n = grind (arith, nat_tests)

empty_terms : (ns : List Node) → (length ns == 0) ≡ has_no_terms (items_of_nodes ns)
empty_terms [] = refl
empty_terms (n ∷ ns) = grind (arith, nat_tests)

-- what opens a predicate
pub brace_is : (ns : List Node) (b : Bool) → b ≡ (length ns == 0) → (b ≡ true → codes "{" ≡ brace_text (items_of_nodes ns)) × (b ≡ false → codes ", {" ≡ brace_text (items_of_nodes ns))
brace_is [] b e = (λ h. refl, λ h. absurd (false≢true (sym h ∙ e)))
brace_is (n ∷ ns) b e = (λ h. absurd (false≢true (sym (empty_terms (n ∷ ns)) ∙ sym e ∙ h)), λ h. refl)

-- Items.
pub no_items : (old : List Part) (first : Bool) (b : Ban) (ns : List Node) → length ns ≡ 0 → Replaces old old (items_text first (items_of_nodes ns)) (items_stand b (items_of_nodes ns)) (items_steps (items_of_nodes ns))
no_items old first b [] e = none_put old _ _ _ refl refl (omega arith)
no_items old first b (n ∷ ns) e = absurd (omega (arith, e))

pub no_pairs : (old : List Part) (f first : Bool) (ps : List (String Global × Node)) → length ps ≡ 0 → Replaces old old (pairs_text first (lines_of_nodes ps)) (pairs_stand f (lines_of_nodes ps)) (lines_steps (lines_of_nodes ps))
no_pairs old f first [] e = none_put old _ _ _ refl refl (omega arith)
no_pairs old f first (p ∷ ps) e = absurd (omega (arith, e))

pub no_lines : (old : List Part) (f : Bool) (ls : List (String Global × Node)) → length ls ≡ 0 → Replaces old old (lines_text (lines_of_nodes ls)) (lines_stand f (lines_of_nodes ls)) (lines_steps (lines_of_nodes ls))
no_lines old f [] e = none_put old _ _ _ refl refl (omega arith)
no_lines old f (l ∷ ls) e = absurd (omega (arith, e))

pub no_keys : (old : List Part) (first : Bool) (ks : List (List ℕ)) (vs : List Value) → length ks ≡ 0 → Replaces old old (members_text first ks vs) (members_stand ks vs) (values_steps vs)
no_keys old first [] [] e = none_put old _ _ _ refl refl (omega arith)
no_keys old first [] (v ∷ vs) e = none_put old _ _ _ refl refl (omega arith)
no_keys old first (k ∷ ks) vs e = absurd (omega (arith, e))

pub no_values : (old : List Part) (first : Bool) (ks : List (List ℕ)) (vs : List Value) → length vs ≡ 0 → Replaces old old (members_text first ks vs) (members_stand ks vs) (values_steps vs)
no_values old first [] [] e = none_put old _ _ _ refl refl (omega arith)
no_values old first (k ∷ ks) [] e = none_put old _ _ _ refl refl (omega arith)
no_values old first ks (v ∷ vs) e = absurd (omega (arith, e))

module _ {old new : List Part} where
  pub items_expand : (first : Bool) (b c : Ban) (ns rest : List Node) (n : Node) (x : Place) (s : List ℕ) (f last : Bool)
      → ns ≡ n ∷ rest → s ≡ gap_text first → last ≡ (length rest == 0) → f ≡ bans_first b last → x ≡ apart f → c ≡ ban_after b
      → PutsParts old new (s ++ (at_place (term_of n) x ++ items_text false (items_of_nodes rest))) (true && (stands x.is_hashless (term_of n) && items_stand c (items_of_nodes rest))) (1 + (node_steps (term_of n) x + items_steps (items_of_nodes rest)))
      → Replaces old new (items_text first (items_of_nodes ns)) (items_stand b (items_of_nodes ns)) (items_steps (items_of_nodes ns))
  items_expand first b c ns rest n x s f last is es el ef ex ec p =
      let place : x ≡ apart (bans_first b (has_no_terms (items_of_nodes rest))) = ex ∙ ap apart (ef ∙ ap (bans_first b) (el ∙ empty_terms rest)) in
      let t = term_of n in
      subst (λ l. Replaces old new (items_text first (items_of_nodes l)) (items_stand b (items_of_nodes l)) (items_steps (items_of_nodes l))) (sym is) (
      replaced p _ _ _
      (λ i. es i ++ (same_text t x _ place i ++ items_text false (items_of_nodes rest)))
      (λ i. same_stand t x _ place i && items_stand (ec i) (items_of_nodes rest))
      (omega (arith, same_steps t x _ place)))

module _ {old mid new : List Part} where
  pub pairs_expand : (f first : Bool) (ps rest : List (String Global × Node)) (p : String Global × Node) (x : Place) (s : List ℕ) (q : Part)
      → ps ≡ p ∷ rest → s ≡ gap_text first → x ≡ apart f → PartIs q (written_key (string_bytes p.0)) true 1
      → PutsParts old mid (codes ": " ++ (at_place (term_of p.1) x ++ pairs_text false (lines_of_nodes rest))) (true && (stands x.is_hashless (term_of p.1) && pairs_stand f (lines_of_nodes rest))) (1 + (node_steps (term_of p.1) x + lines_steps (lines_of_nodes rest)))
      → PutsParts mid new (s ++ (text_of_part q ++ [])) (true && (part_stands q && true)) (1 + (part_steps q + 1))
      → Replaces old new (pairs_text first (lines_of_nodes ps)) (pairs_stand f (lines_of_nodes ps)) (lines_steps (lines_of_nodes ps))
  pairs_expand f first ps rest p x s q is es ex hq g h =
      let t = term_of p.1 in
      let most = hq.most in
      subst (λ l. Replaces old new (pairs_text first (lines_of_nodes l)) (pairs_stand f (lines_of_nodes l)) (lines_steps (lines_of_nodes l))) (sym is) (
      replaced (then_put g h) _ _ _
      (append_assoc s (text_of_part q ++ []) _
      ∙ (λ i. es i ++ ((append-nil (text_of_part q) ∙ hq.texts) i ++ (codes ": " ++ (same_text t x _ ex i ++ pairs_text false (lines_of_nodes rest))))))
      (λ i. (and_true (part_stands q) ∙ hq.stands) i && (same_stand t x _ ex i && pairs_stand f (lines_of_nodes rest)))
      (omega (arith, most, same_steps t x _ ex)))

  pub members_expand : (first : Bool) (ks other_keys : List (List ℕ)) (vs others : List Value) (k : List ℕ) (v : Value) (s : List ℕ) (q : Part)
      → ks ≡ k ∷ other_keys → vs ≡ v ∷ others → s ≡ gap_text first → PartIs q (written_key k) true 1
      → PutsParts old mid (codes ": " ++ (written_literal v ++ members_text false other_keys others)) (true && (literal_has_text v && members_stand other_keys others)) (1 + (literal_steps v + values_steps others))
      → PutsParts mid new (s ++ (text_of_part q ++ [])) (true && (part_stands q && true)) (1 + (part_steps q + 1))
      → Replaces old new (members_text first ks vs) (members_stand ks vs) (values_steps vs)
  members_expand first ks other_keys vs others k v s q ik iv es hq g h =
      let most = hq.most in
      subst (λ l. Replaces old new (members_text first l vs) (members_stand l vs) (values_steps vs)) (sym ik) (
      subst (λ l. Replaces old new (members_text first (k ∷ other_keys) l) (members_stand (k ∷ other_keys) l) (values_steps l)) (sym iv) (
      replaced (then_put g h) _ _ _
      (append_assoc s (text_of_part q ++ []) _ ∙ (λ i. es i ++ ((append-nil (text_of_part q) ∙ hq.texts) i ++ (codes ": " ++ (written_literal v ++ members_text false other_keys others)))))
      (λ i. (and_true (part_stands q) ∙ hq.stands) i && (literal_has_text v && members_stand other_keys others))
      (omega (arith, most))))

  pub lines_expand : (f : Bool) (ls rest : List (String Global × Node)) (l : String Global × Node) (k : List ℕ) (x : Place)
      → ls ≡ l ∷ rest → k ≡ string_bytes l.0 → is_free_word k ≡ true → x ≡ apart f
      → PutsParts old mid (at_place (term_of l.1) x ++ (codes ";\n" ++ lines_text (lines_of_nodes rest))) (stands x.is_hashless (term_of l.1) && (true && lines_stand f (lines_of_nodes rest))) (node_steps (term_of l.1) x + (1 + lines_steps (lines_of_nodes rest)))
      → PutsParts mid new (codes "let " ++ (k ++ codes " = ")) (true && (true && true)) (1 + (1 + 1))
      → Replaces old new (lines_text (lines_of_nodes ls)) (lines_stand f (lines_of_nodes ls)) (lines_steps (lines_of_nodes ls))
  lines_expand f ls rest l k x is ek word ex g h =
      let t = term_of l.1 in
      subst (λ m. Replaces old new (lines_text (lines_of_nodes m)) (lines_stand f (lines_of_nodes m)) (lines_steps (lines_of_nodes m))) (sym is) (
      replaced (then_put g h) _ _ _
      (six (codes "let ") k (codes " = ") (at_place t x) (codes ";\n") (lines_text (lines_of_nodes rest))
      ∙ (λ i. codes "let " ++ (ek i ++ (codes " = " ++ (same_text t x _ ex i ++ (codes ";\n" ++ lines_text (lines_of_nodes rest)))))))
      (λ i. sym (ap is_free_word (sym ek) ∙ word) i && (same_stand t x _ ex i && lines_stand f (lines_of_nodes rest)))
      (omega (arith, same_steps t x _ ex)))

no_free_word : (f : Bool) (l : String Global × Node) (rest : List (String Global × Node)) → is_free_word (string_bytes l.0) ≡ false → lines_stand f (lines_of_nodes (l ∷ rest)) ≡ false
no_free_word f l rest e = ap (λ b. b && (stands f (term_of l.1) && lines_stand f (lines_of_nodes rest))) e

pub line_refused : (f : Bool) (ls rest : List (String Global × Node)) (l : String Global × Node) (k : List ℕ) → ls ≡ l ∷ rest → k ≡ string_bytes l.0 → is_free_word k ≡ false → lines_stand f (lines_of_nodes ls) ≡ false
line_refused f ls rest l k is ek none = ap (λ m. lines_stand f (lines_of_nodes m)) is ∙ no_free_word f l rest (ap is_free_word (sym ek) ∙ none)

-- Programs.
braced : (ls : LineTerms) (t : Term) → block_is_if (block_with ls t) ≡ false → else_text (block_with ls t) ≡ codes "{ " ++ (program_text (block_with ls t) ++ codes " }")
braced [] t none = else_answers t none
braced (l ∷ ls) t none = else_lines l ls t

module _ {old new : List Part} where
  pub program_expand : (f : Bool) (p : Program) (ls : List (String Global × Node)) (x : Place) → ls ≡ p.lines.items → x ≡ apart f
      → PutsParts old new (lines_text (lines_of_nodes ls) ++ (at_place (term_of p.expr) x ++ [])) (lines_stand f (lines_of_nodes ls) && (stands x.is_hashless (term_of p.expr) && true)) (lines_steps (lines_of_nodes ls) + (node_steps (term_of p.expr) x + 1))
      → Replaces old new (program_text (program_term p)) (block_stands f (program_term p)) (block_steps (program_term p))
  program_expand f p ls x is ex g =
      let t = term_of p.expr in
      let lines = lines_of_nodes p.lines.items in
      let count = ap (λ l. lines_steps (lines_of_nodes l)) is in
      subst (λ b. Replaces old new (program_text b) (block_stands f b) (block_steps b)) (sym (term_of-parts p)) (
      replaced g _ _ _
      ((λ i. lines_text (lines_of_nodes (is i)) ++ (append-nil (at_place t x) ∙ same_text t x _ ex) i) ∙ sym (block_text lines t))
      ((λ i. lines_stand f (lines_of_nodes (is i)) && (and_true (stands x.is_hashless t) ∙ same_stand t x _ ex) i) ∙ sym (block_all_stand f lines t))
      (omega (arith, count, same_steps t x _ ex, block-steps lines t)))

  else_if_by : (f : Bool) (ls : LineTerms) (t : Term) (x : Place) → block_is_if (block_with ls t) ≡ true → x ≡ apart f
      → PutsParts old new (at_place t x) (stands x.is_hashless t) (node_steps t x) → Replaces old new (else_text (block_with ls t)) (block_stands f (block_with ls t)) (20 + block_steps (block_with ls t))
  else_if_by f [] (choice c a b) x is ex g =
      replaced g _ _ _ (same_text (choice c a b) x _ ex ∙ sym (else_choice c a b)) (same_stand (choice c a b) x _ ex) (omega (arith, same_steps (choice c a b) x _ ex))
  else_if_by f [] t x is ex g = absurd (false≢true is)
  else_if_by f (l ∷ ls) t x is ex g = absurd (false≢true is)

  pub else_if_expands : (f : Bool) (p : Program) (x : Place) → block_is_if (program_term p) ≡ true → x ≡ apart f
      → PutsParts old new (at_place (term_of p.expr) x) (stands x.is_hashless (term_of p.expr)) (node_steps (term_of p.expr) x)
      → Replaces old new (else_text (program_term p)) (block_stands f (program_term p)) (20 + block_steps (program_term p))
  else_if_expands f p x is ex g =
      subst (λ b. Replaces old new (else_text b) (block_stands f b) (20 + block_steps b)) (sym (term_of-parts p))
      (else_if_by f (lines_of_nodes p.lines.items) (term_of p.expr) x (ap block_is_if (sym (term_of-parts p)) ∙ is) ex g)

  pub else_expands : (f : Bool) (p : Program) → block_is_if (program_term p) ≡ false
      → PutsParts old new (codes "{ " ++ (program_text (program_term p) ++ codes " }")) (true && (block_stands f (program_term p) && true)) (1 + (block_steps (program_term p) + 1))
      → Replaces old new (else_text (program_term p)) (block_stands f (program_term p)) (20 + block_steps (program_term p))
  else_expands f p none g =
      let text : else_text (program_term p) ≡ codes "{ " ++ (program_text (program_term p) ++ codes " }") =
      subst (λ b. else_text b ≡ codes "{ " ++ (program_text b ++ codes " }")) (sym (term_of-parts p)) (braced (lines_of_nodes p.lines.items) (term_of p.expr) (ap block_is_if (sym (term_of-parts p)) ∙ none)) in
      replaced g _ _ _ (sym text) (and_true (block_stands f (program_term p))) (omega arith)

-- whether a program is an `if` alone
without_lines : (ls : List (String Global × Node)) (t : Term) → (length ls == 0) ≡ true → block_is_if (block_with (lines_of_nodes ls) t) ≡ is_choice_term t
without_lines [] t none = refl
without_lines (l ∷ ls) t none = absurd (false≢true (sym (not_empty (length ls)) ∙ ap (λ n. n == 0) (omega arith) ∙ none))

with_lines : (ls : List (String Global × Node)) (t : Term) → (length ls == 0) ≡ false → block_is_if (block_with (lines_of_nodes ls) t) ≡ false
with_lines [] t some = absurd (false≢true (sym some))
with_lines (l ∷ ls) t some = refl

pub if_alone : (p : Program) (ls : List (String Global × Node)) → ls ≡ p.lines.items → (length ls == 0) ≡ true → block_is_if (program_term p) ≡ is_choice_term (term_of p.expr)
if_alone p ls same none = ap block_is_if (term_of-parts p) ∙ without_lines p.lines.items (term_of p.expr) (ap (λ (l : List (String Global × Node)). length l == 0) (sym same) ∙ none)

pub if_behind_lines : (p : Program) (ls : List (String Global × Node)) → ls ≡ p.lines.items → (length ls == 0) ≡ false → block_is_if (program_term p) ≡ false
if_behind_lines p ls same some = ap block_is_if (term_of-parts p) ∙ with_lines p.lines.items (term_of p.expr) (ap (λ (l : List (String Global × Node)). length l == 0) (sym same) ∙ some)

-- a literal map
pub map_literal_expands : {old new : List Part} (v : Value) (m : List (List ℕ × Value)) (ks : List (List ℕ)) (vs : List Value) → v ≡ value.Map m → ks ≡ keys_of m → IsDistinct bytes_eq (keys_of m) → vs ≡ values_of m
    → PutsParts old new (codes "{" ++ (members_text true ks vs ++ codes "}")) (true && (members_stand ks vs && true)) (1 + (values_steps vs + 1))
    → Replaces old new (written_literal v) (literal_has_text v) (literal_steps v)
map_literal_expands {old} {new} v m ks vs is ek distinct ev g =
    let count = ap values_steps ev in
    subst (λ w. Replaces old new (written_literal w) (literal_has_text w) (literal_steps w)) (sym is) (
    replaced g _ _ _
    ((λ i. codes "{" ++ (members_text true (ek i) (ev i) ++ codes "}")) ∙ sym (members_literal m))
    (and_true (members_stand ks vs) ∙ (λ i. members_stand (ek i) (ev i)) ∙ sym (map_members_stand m (distinct_keys (keys_of m) distinct)))
    (omega (arith, count, members_steps m)))

pub bytes_expand : {old new : List Part} (bs : List ℕ) → list_all (λ b. nat_lt b 256) bs ≡ true → PutsParts old new (bytes_text bs) true 1 → Replaces old new (written_literal (value.Bytes bs)) (literal_has_text (value.Bytes bs)) (literal_steps (value.Bytes bs))
bytes_expand bs all g = let s = simple_bytes bs all in replaced g _ _ _ s.text s.stand (omega (arith, s.steps))

pub all_bytes : (bs : List ℕ) → ((i : ℕ) → Fits w8 (get_or bs i 0)) → list_all (λ b. nat_lt b 256) bs ≡ true
all_bytes [] fit = refl
all_bytes (b ∷ bs) fit =
    let here = fit 0 in
    let low : b < 256 = omega (arith, here) in
    and_from _ _ (below b low) (all_bytes bs (λ i. fit (suc i)))
  where
    below : (n : ℕ) → n < 256 → nat_lt n 256 ≡ true
    below n h = grind (arith, nat_tests)
