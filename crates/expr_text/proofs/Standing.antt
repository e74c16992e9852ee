-- Whether a node has a text, by whether its parts have.
use Rattle.std.proofs.Common.{◌≡◌, ℕ, Bool, true, false, not, ◌&&◌, ◌||◌, List, [], ◌∷◌, Option, Some, None, is_some, is_none, map, Global, String, if◌then◌else◌, refl, sym, ap, ◌∙◌}
use Rattle.std.proofs.lemmas.Bool.{cond-true, cond-false, false≢true}
use Rattle.expr_functions.specs.Functions.{higher_order_named}
use Rattle.expr_functions.specs.declared.functions.HigherOrderCall.{HigherOrderCall}
use Rattle.expr_parts.specs.Maps.{has_expression, value_of}
use Rattle.std.specs.List.{list_any}
use Rattle.expr_tree.specs.TermOf.{term_of, line_term}
use Rattle.expr_tree.specs.declared.node.Node.{Node}
use Rattle.expr_parts.specs.Promotion.{has_free_hash, bound_has_free_hash, any_free_hash, pairs_have_free_hash, block_has_free_hash, Promotion, reduces, last_promotion, reducer_promotion, promoted_by}
use Rattle.expr_tree.specs.Children.{term_list}
use Rattle.expr_tree.specs.Term.{Term, list, mapping, call, postfix, choice, index, slice, pipe, ternary, method, Bound, Terms, no_terms, term, no_predicate, predicate, Block, answers, line, LineTerms, block_with, term_pairs}
use Rattle.expr_text.specs.Parts.{stands, both_stand, block_stands, bound_stands, lines_stand, pairs_stand, items_stand, ban_of_all, ban_by_name, ban_of_call}
use Rattle.expr_text.specs.Texts.{is_free_word, is_no_predicate, promotes_none, pair_list, is_call_term, has_text, bound_has_text, terms_have_text, pairs_have_text, block_has_text}
use Rattle.expr_text.specs.declared.part.Ban.{Ban}
use Rattle.expr_text.specs.declared.part.Ban.TheVariants as ban
use Rattle.expr_tokens.specs.Tokens.{is_word}
use Rattle.expr_text.proofs.Pending.{and_swap, and_assoc, and_true}

-- what both parts have
pub both : (c d f a b : Bool) → (not ((c || d) && f) && (a && b)) ≡ ((not (c && f) && a) && (not (d && f) && b))
both true d true a b = refl
both true true false a b = refl
both true false false a b = refl
both false true true true b = refl
both false true true false b = refl
both false true false a b = refl
both false false f a b = refl

pub both_nodes : (f : Bool) (l r : Term) → both_stand f l r ≡ (stands f l && stands f r)
both_nodes f l r = both (has_free_hash l) (has_free_hash r) f (has_text l) (has_text r)

free_not : (c a : Bool) → (not (c && false) && a) ≡ a
free_not true a = refl
free_not false a = refl

pub stands_free : (t : Term) → stands false t ≡ has_text t
stands_free t = free_not (has_free_hash t) (has_text t)

pub block_stands_free : (b : Block) → block_stands false b ≡ block_has_text b
block_stands_free b = free_not (block_has_free_hash b) (block_has_text b)

-- Lists.
abbrev terms_stand : Bool → Terms → Bool
terms_stand f ts = not (any_free_hash ts && f) && terms_have_text ts

pub all_stand : (f : Bool) (ts : Terms) → items_stand (ban_of_all f) ts ≡ terms_stand f ts
all_stand true no_terms = refl
all_stand false no_terms = refl
all_stand true (term t ts) = ap (λ b. stands true t && b) (all_stand true ts) ∙ sym (both (has_free_hash t) (any_free_hash ts) true (has_text t) (terms_have_text ts))
all_stand false (term t ts) = ap (λ b. stands false t && b) (all_stand false ts) ∙ sym (both (has_free_hash t) (any_free_hash ts) false (has_text t) (terms_have_text ts))

pub pairs_all_stand : (f : Bool) (ps : LineTerms) → pairs_stand f ps ≡ (not (pairs_have_free_hash (term_pairs ps) && f) && pairs_have_text (term_pairs ps))
pairs_all_stand f [] = refl
pairs_all_stand f (p ∷ ps) =
    ap (λ b. stands f p.1 && b) (pairs_all_stand f ps) ∙ sym (both (has_free_hash p.1) (pairs_have_free_hash (term_pairs ps)) f (has_text p.1) (pairs_have_text (term_pairs ps)))

pair_list_back : (ps : LineTerms) → pair_list (term_pairs ps) ≡ ps
pair_list_back [] = refl
pair_list_back (p ∷ ps) = ap (λ l. p ∷ l) (pair_list_back ps)

map_parts : (h e t : Bool) → e ≡ true → (h && (e && t)) ≡ (h && t)
map_parts h true t is = refl
map_parts h false t is = absurd (false≢true is)

pub map_stands : (f : Bool) (ps : LineTerms) → has_expression ps ≡ true → stands f (mapping (term_pairs ps)) ≡ pairs_stand f ps
map_stands f ps some =
    map_parts (not (pairs_have_free_hash (term_pairs ps) && f)) (has_expression (pair_list (term_pairs ps))) (pairs_have_text (term_pairs ps)) (ap has_expression (pair_list_back ps) ∙ some)
    ∙ sym (pairs_all_stand f ps)

no_expression : (h e t : Bool) → e ≡ false → (h && (e && t)) ≡ false
no_expression true true t is = absurd (false≢true (sym is))
no_expression true false t is = refl
no_expression false e t is = refl

pub map_of_literals : (f : Bool) (ps : LineTerms) → has_expression ps ≡ false → stands f (mapping (term_pairs ps)) ≡ false
map_of_literals f ps none =
    no_expression (not (pairs_have_free_hash (term_pairs ps) && f)) (has_expression (pair_list (term_pairs ps))) (pairs_have_text (term_pairs ps)) (ap has_expression (pair_list_back ps) ∙ none)

-- Programs.
line_moved : (w a b c : Bool) → (w && (a && (b && c))) ≡ ((w && (a && b)) && c)
line_moved true a b c = sym (and_assoc a b c)
line_moved false a b c = refl

pub block_all_stand : (f : Bool) (ls : LineTerms) (t : Term) → block_stands f (block_with ls t) ≡ (lines_stand f ls && stands f t)
block_all_stand f [] t = refl
block_all_stand f (l ∷ ls) t =
    let rest = block_with ls t in
    and_swap (not ((has_free_hash l.1 || block_has_free_hash rest) && f)) (is_free_word l.0) (has_text l.1 && block_has_text rest)
    ∙ ap (λ b. is_free_word l.0 && b) (both (has_free_hash l.1) (block_has_free_hash rest) f (has_text l.1) (block_has_text rest) ∙ ap (λ b. stands f l.1 && b) (block_all_stand f ls t))
    ∙ line_moved (is_free_word l.0) (stands f l.1) (lines_stand f ls) (stands f t)

-- Calls.
abbrev keeps : Promotion → Bool
keeps p = is_no_predicate p.program

kept_one : (t : Term) → (stands true t && true) ≡ ((has_text t && true) && keeps (if has_free_hash t then record { arguments = []; program = predicate (answers t) } else record { arguments = t ∷ []; program = no_predicate }))
kept_one t = by (has_free_hash t) (has_text t)
  where
    by : (h a : Bool) → ((not (h && true) && a) && true) ≡ ((a && true) && keeps (if h then record { arguments = []; program = predicate (answers t) } else record { arguments = t ∷ []; program = no_predicate }))
    by true true = refl
    by true false = refl
    by false true = refl
    by false false = refl

kept_two : (t u : Term) (ts : List Term) (rest : Bool) → (stands true t && (stands true u && rest)) ≡ ((has_text t && (has_text u && rest)) && keeps (reducer_promotion (t ∷ u ∷ ts)))
kept_two t u ts rest = by (has_free_hash t) (has_free_hash u) (has_text t) (has_text u) rest
  where
    by : (h k a b c : Bool) → ((not (h && true) && a) && ((not (k && true) && b) && c))
        ≡ ((a && (b && c)) && keeps (if k then record { arguments = t ∷ ts; program = predicate (answers u) }
        else (if h then record { arguments = u ∷ ts; program = predicate (answers t) } else record { arguments = t ∷ u ∷ ts; program = no_predicate })))
    by true true true true true = refl
    by true true true true false = refl
    by true true true false c = refl
    by true true false b c = refl
    by true false true true true = refl
    by true false true true false = refl
    by true false true false c = refl
    by true false false b c = refl
    by false true true true true = refl
    by false true true true false = refl
    by false true true false c = refl
    by false true false b c = refl
    by false false a b c = sym (and_true (a && (b && c)))

free_items : (ts : Terms) → items_stand ban.None ts ≡ terms_have_text ts
free_items no_terms = refl
free_items (term t ts) = (λ i. stands_free t i && free_items ts i)

reducer_stands : (ts : Terms) → items_stand ban.FirstTwo ts ≡ (terms_have_text ts && keeps (reducer_promotion (term_list ts)))
reducer_stands no_terms = refl
reducer_stands (term t no_terms) = kept_one t
reducer_stands (term t (term u ts)) = ap (λ b. stands true t && (stands true u && b)) (free_items ts) ∙ kept_two t u (term_list ts) (terms_have_text ts)

last_stands : (ts : Terms) → items_stand ban.Last ts ≡ (terms_have_text ts && keeps (last_promotion (term_list ts)))
last_stands no_terms = refl
last_stands (term t no_terms) = kept_one t
last_stands (term t (term u ts)) =
    (λ i. stands_free t i && last_stands (term u ts) i) ∙ sym (and_assoc (has_text t) (terms_have_text (term u ts)) (keeps (last_promotion (term_list (term u ts)))))

abbrev ban_by : (reduces some : Bool) → Ban
ban_by r s = if r then ban.FirstTwo else (if s then ban.Last else ban.None)

abbrev promoted : (reduces some : Bool) → List Term → Promotion
promoted r s ts = if r then reducer_promotion ts else (if s then last_promotion ts else record { arguments = ts; program = no_predicate })

by_ban : (r s : Bool) (ts : Terms) → items_stand (ban_by r s) ts ≡ (terms_have_text ts && keeps (promoted r s (term_list ts)))
by_ban true s ts = reducer_stands ts
by_ban false true ts = last_stands ts
by_ban false false ts = free_items ts ∙ sym (and_true (terms_have_text ts))

-- where no name with `#` is free, none is promoted
unpromoted_one : (t : Term) → has_free_hash t ≡ false → keeps (if has_free_hash t then record { arguments = []; program = predicate (answers t) } else record { arguments = t ∷ []; program = no_predicate }) ≡ true
unpromoted_one t e = ap keeps (cond-false _ _ _ e)

or_parts : (a b : Bool) → (a || b) ≡ false → (a ≡ false) × (b ≡ false)
or_parts true b e = absurd (false≢true (sym e))
or_parts false b e = (refl, e)

last_unpromoted : (ts : Terms) → any_free_hash ts ≡ false → keeps (last_promotion (term_list ts)) ≡ true
last_unpromoted no_terms e = refl
last_unpromoted (term t no_terms) e = unpromoted_one t (or_parts _ _ e).0
last_unpromoted (term t (term u ts)) e = last_unpromoted (term u ts) (or_parts (has_free_hash t) _ e).1

reducer_unpromoted : (ts : Terms) → any_free_hash ts ≡ false → keeps (reducer_promotion (term_list ts)) ≡ true
reducer_unpromoted no_terms e = refl
reducer_unpromoted (term t no_terms) e = unpromoted_one t (or_parts _ _ e).0
reducer_unpromoted (term t (term u ts)) e =
    let here = or_parts (has_free_hash t) _ e in
    let next = or_parts (has_free_hash u) _ here.1 in
    ap keeps (cond-false _ _ _ next.0 ∙ cond-false _ _ _ here.0)

unpromoted : (r s : Bool) (ts : Terms) → any_free_hash ts ≡ false → keeps (promoted r s (term_list ts)) ≡ true
unpromoted true s ts e = reducer_unpromoted ts e
unpromoted false true ts e = last_unpromoted ts e
unpromoted false false ts e = refl

hashless_by : (h a k : Bool) → (h ≡ false → k ≡ true) → (not (h && true) && (a && k)) ≡ (not (h && true) && a)
hashless_by true a k f = refl
hashless_by false a k f = ap (λ b. a && b) (f refl) ∙ and_true a

call_by : (f : Bool) (o : Option HigherOrderCall) (ts : Terms) → (not (any_free_hash ts && f) && (terms_have_text ts && keeps (promoted_by o (term_list ts)))) ≡ items_stand (ban_of_call o f) ts
call_by true o ts = hashless_by (any_free_hash ts) (terms_have_text ts) _ (unpromoted (reduces o) (is_some o) ts) ∙ sym (all_stand true ts)
call_by false o ts = free_not (any_free_hash ts) _ ∙ sym (by_ban (reduces o) (is_some o) ts)

drop_word : (h w a : Bool) → w ≡ true → (h && (w && a)) ≡ (h && a)
drop_word h true a is = refl
drop_word h false a is = absurd (false≢true is)

pub call_stands : (f : Bool) (key : List ℕ) (ts : Terms) → is_free_word key ≡ true → stands f (call key ts no_predicate) ≡ items_stand (ban_of_call (higher_order_named key) f) ts
call_stands f key ts word = drop_word (not (any_free_hash ts && f)) (is_free_word key) _ word ∙ call_by f (higher_order_named key) ts

pub predicate_stands : (f : Bool) (key : List ℕ) (ts : Terms) (b : Block) → is_free_word key ≡ true → stands f (call key ts (predicate b)) ≡ (items_stand (ban_of_all f) ts && block_stands false b)
predicate_stands f key ts b word =
    drop_word (not (any_free_hash ts && f)) (is_free_word key) _ word ∙ sym (and_assoc (not (any_free_hash ts && f)) (terms_have_text ts) (block_has_text b))
    ∙ (λ i. sym (all_stand f ts) i && sym (block_stands_free b) i)

pub no_word : (h w a : Bool) → w ≡ false → (h && (w && a)) ≡ false
no_word = no_expression

-- Choices and postfix operators.
pub choice_stands : (f : Bool) (c : Term) (a b : Block) → stands f (choice c a b) ≡ (stands f c && (block_stands f a && block_stands f b))
choice_stands f c a b =
    both (has_free_hash c) (block_has_free_hash a || block_has_free_hash b) f (has_text c) (block_has_text a && block_has_text b)
    ∙ ap (λ x. stands f c && x) (both (block_has_free_hash a) (block_has_free_hash b) f (block_has_text a) (block_has_text b))

pub slice_stands : (f : Bool) (x y : Bound) (t : Term) → stands f (postfix (slice x y) t) ≡ (stands f t && (bound_stands f x && bound_stands f y))
slice_stands f x y t =
    both (has_free_hash t) (bound_has_free_hash x || bound_has_free_hash y) f (has_text t) (bound_has_text x && bound_has_text y)
    ∙ ap (λ z. stands f t && z) (both (bound_has_free_hash x) (bound_has_free_hash y) f (bound_has_text x) (bound_has_text y))

pub ternary_stands : (f : Bool) (u v t : Term) → stands f (postfix (ternary u v) t) ≡ (stands f t && (stands f u && stands f v))
ternary_stands f u v t =
    both (has_free_hash t) (has_free_hash u || has_free_hash v) f (has_text t) (has_text u && has_text v)
    ∙ ap (λ z. stands f t && z) (both (has_free_hash u) (has_free_hash v) f (has_text u) (has_text v))

pub index_stands : (f optional : Bool) (key t : Term) → stands f (postfix (index key optional) t) ≡ (stands f t && stands f key)
index_stands f optional key t = both (has_free_hash t) (has_free_hash key) f (has_text t) (has_text key)

pub pipe_stands : (f : Bool) (u t : Term) → is_call_term u ≡ true → stands f (postfix (pipe u) t) ≡ (stands f t && stands f u)
pipe_stands f u t is =
    both (has_free_hash t) (has_free_hash u) f (has_text t) (is_call_term u && has_text u) ∙ ap (λ z. stands f t && z) (drop_word (not (has_free_hash u && f)) (is_call_term u) (has_text u) is)

pub method_stands : (f : Bool) (key : List ℕ) (ts : Terms) (t : Term) → is_word key ≡ true → stands f (postfix (method key ts) t) ≡ (stands f t && items_stand (ban_of_all f) ts)
method_stands f key ts t word =
    both (has_free_hash t) (any_free_hash ts) f (has_text t) (is_word key && terms_have_text ts)
    ∙ ap (λ z. stands f t && z) (drop_word (not (any_free_hash ts && f)) (is_word key) (terms_have_text ts) word ∙ sym (all_stand f ts))

-- where a word is missing, there is no text
pub no_part : (h a w b : Bool) → w ≡ false → (h && (a && (w && b))) ≡ false
no_part true true true b is = absurd (false≢true (sym is))
no_part true true false b is = refl
no_part true false w b is = refl
no_part false a w b is = refl

pub any_expression : (ps : List (String Global × Node)) → list_any (λ p. is_none (value_of (term_of p.1))) ps ≡ has_expression (map line_term ps)
any_expression [] = refl
any_expression (p ∷ ps) = ap (λ b. is_none (value_of (term_of p.1)) || b) (any_expression ps)
