-- Which programs have a text.
use Rattle.std.specs.Prelude.{ℕ, ◌^◌, ℤ, pos, negsuc, nat_lt, Bool, true, false, not, ◌&&◌, ◌||◌, bytes_eq, List, [], ◌∷◌, Some, None, is_none}
use Rattle.std.specs.List.{list_all, list_any}
use Rattle.std.specs.Map.{keys_of}
use Rattle.expr_value.specs.declared.value.Value.{Value, fold-Value}
use Rattle.expr_value.specs.declared.value.Value.TheOpen.{Value-F}
use Rattle.expr_tokens.specs.Lexer.{reserved_of}
use Rattle.expr_tokens.specs.Tokens.{is_word, is_hash_name, is_raw_byte}
use Rattle.expr_tokens.specs.declared.token.Token.{Token}
use Rattle.expr_tokens.specs.declared.token.Token.TheVariants as token
use Rattle.expr_tokens.specs.Printed.{are_distinct}
use Rattle.expr_tree.specs.Children.{term_list}
use Rattle.expr_tree.specs.Term.{Term, name, literal, list, mapping, range, call, unary, operation, postfix, choice, Postfix, index, slice, coalesce, pipe, ternary, method, Bound, unbounded, bound, Terms, no_terms, term, TermPairs, pairs_end, pair, Predicate, no_predicate, predicate, Block, answers, line, LineTerms}
use Rattle.expr_parts.specs.Promotion.{promotion_of}
use Rattle.expr_parts.specs.Maps.{has_expression}

-- a word that isn't reserved
abbrev pub is_free_word : List ℕ → Bool
is_free_word w = is_word w && is_none (reserved_of w)

-- an integer literal below 2^63
abbrev pub is_literal : ℤ → Bool
is_literal (pos n) = nat_lt n (2 ^ 63)
is_literal (negsuc n) = false

-- nil, booleans, integers that literals write, texts, bytes, and maps of these
abbrev pub literal_has_text_layer : Value-F Bool → Bool
literal_has_text_layer (Value-F.Integer n) = is_literal n
literal_has_text_layer (Value-F.Bool b) = true
literal_has_text_layer Value-F.Nil = true
literal_has_text_layer (Value-F.String s) = true
literal_has_text_layer (Value-F.Bytes bs) = list_all (λ b. nat_lt b 256) bs
literal_has_text_layer (Value-F.Map pairs) = are_distinct (keys_of pairs) && list_all (λ p. p.1) pairs
literal_has_text_layer _ = false

abbrev pub literal_has_text : Value → Bool
literal_has_text = fold-Value Bool literal_has_text_layer

abbrev pub is_no_predicate : Predicate → Bool
is_no_predicate no_predicate = true
is_no_predicate (predicate b) = false

-- none of these arguments is promoted
abbrev pub promotes_none : List ℕ → Terms → Bool
promotes_none key ts = is_no_predicate (promotion_of key (term_list ts)).program

-- the pairs of a map literal
abbrev pub pair_list : TermPairs → LineTerms
pair_list pairs_end = []
pair_list (pair key t ps) = (key, t) ∷ pair_list ps

abbrev pub is_call_term : Term → Bool
is_call_term (call key ts p) = true
is_call_term t = false

abbrev mutual
  pub has_text : Term → Bool
  has_text (name key) = is_hash_name key || is_free_word key
  has_text (literal v) = literal_has_text v
  has_text (list ts) = terms_have_text ts
  -- a map of literals alone is a literal
  has_text (mapping ps) = has_expression (pair_list ps) && pairs_have_text ps
  has_text (range first last) = has_text first && has_text last
  has_text (call key ts p) = is_free_word key && (terms_have_text ts && predicate_has_text (promotes_none key ts) p)
  has_text (unary o t) = has_text t
  has_text (operation o l r) = has_text l && has_text r
  has_text (postfix p t) = has_text t && postfix_has_text p
  has_text (choice c first second) = has_text c && (block_has_text first && block_has_text second)

  pub postfix_has_text : Postfix → Bool
  postfix_has_text (index key optional) = has_text key
  postfix_has_text (slice start stop) = bound_has_text start && bound_has_text stop
  postfix_has_text (coalesce t) = has_text t
  postfix_has_text (pipe t) = is_call_term t && has_text t
  postfix_has_text (ternary first second) = has_text first && has_text second
  postfix_has_text (method key ts) = is_word key && terms_have_text ts

  pub bound_has_text : Bound → Bool
  bound_has_text unbounded = true
  bound_has_text (bound t) = has_text t

  pub terms_have_text : Terms → Bool
  terms_have_text no_terms = true
  terms_have_text (term t ts) = has_text t && terms_have_text ts

  pub pairs_have_text : TermPairs → Bool
  pairs_have_text pairs_end = true
  pairs_have_text (pair key t ps) = has_text t && pairs_have_text ps

  -- a predicate stands in braces; without one, no argument may be such that it would be promoted
  pub predicate_has_text : (unpromoted : Bool) → Predicate → Bool
  predicate_has_text unpromoted no_predicate = unpromoted
  predicate_has_text unpromoted (predicate b) = block_has_text b

  pub block_has_text : Block → Bool
  block_has_text (answers t) = has_text t
  block_has_text (line key t b) = is_free_word key && (has_text t && block_has_text b)

-- a token can be written so that it is read back: words aren't reserved, integers are below 2^63
abbrev pub token_has_text : Token → Bool
token_has_text (token.Integer (Some n)) = is_literal n
token_has_text (token.Integer None) = false
token_has_text (token.Word w) = is_free_word w
token_has_text (token.Hash h) = is_hash_name h
token_has_text (token.Raw s) = list_all is_raw_byte s
token_has_text (token.Bytes bs) = list_all (λ b. nat_lt b 256) bs
token_has_text t = true
