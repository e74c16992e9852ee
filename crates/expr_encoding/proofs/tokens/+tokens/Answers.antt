use Rattle.std.proofs.Common.{◌≡◌, ◌-◌, ◌<◌, ◌∷◌, ◌++◌, length, Some, None, refl, sym, ap, ◌∙◌, arith, rules, append-nil}
use Rattle.std.specs.Int.{w64}
use Rattle.std.proofs.lemmas.Int.{to_z-of_z}
use Rattle.std.proofs.lemmas.Option.{IfSome_then}
use mir.Val.{SFits}
use Rattle.json.specs.Token.{Token}
use Rattle.json.specs.Json.{parse_map, after_end_array, read_key, items, members, value}
use Rattle.json.specs.Reads.{token_of}
use Rattle.json.proofs.Grammar.{value_is, value-begin_array, value-begin_object, read_key-shorter}
use Rattle.serde_json.specs.Data.{no_members, put}
use Rattle.serde_json.specs.Read.{of_json, of_items, of_members, converted}
use Rattle.expr_value.specs.declared.value.Value as language
use Rattle.expr_encoding.specs.Reading.{pairs_of, value_of, values_of}
use Rattle.expr_encoding.specs.Tokens.{lent_pairs}
use Rattle.expr_encoding.proofs.Turns.{converted-array, converted-object, converted_some, item_read, items_over, member_read, members_over, array_value, object_value, number_value, item_value, one_more, pairs_of-put, pairs_over, lent_pairs-insert_entry}
use Rattle.expr_encoding.proofs.tokens.+tokens.Goals as goal

pub read_value-returns-in-String-clause-value : goal.read_value-returns-in-String-clause-value
read_value-returns-in-String-clause-value t c =
    let first : c.args.reader.now ≡ token_of c.in_ok-token.token ∷ c.next.new.self = grind arith in
    let is : c.args.reader.now ≡ Token.string c.in-String.text.now ∷ c.next.new.self = grind (arith, first) in
    let read = ap (λ o. converted value_of (converted of_json o)) (ap (value c.args.levels) is ∙ value_is c.args.levels _) in
    IfSome_then c.copied_text.result c.copied_text.ensures (λ v said. read ∙ ap (λ w. Some (w, c.next.new.self)) (sym said))

pub read_value-returns-in_ok-integer_of-in-Number-clause-value : goal.read_value-returns-in_ok-integer_of-in-Number-clause-value
read_value-returns-in_ok-integer_of-in-Number-clause-value t c =
    let first : c.args.reader.now ≡ token_of c.in_ok-token.token ∷ c.next.new.self = grind arith in
    let is : c.args.reader.now ≡ Token.number c.in-Number.text.now ∷ c.next.new.self = grind (arith, first) in
    let read = ap (λ o. converted value_of (converted of_json o)) (ap (value c.args.levels) is ∙ value_is c.args.levels _) in
    let n = c.in_ok-integer_of-in-Number.field-0 in
    let fits : SFits w64 n = search rules in
    read ∙ number_value c.in-Number.text.now n c.next.new.self c.in_ok-integer_of-in-Number.ensures
    ∙ ap (λ m. Some (language.Integer m, c.next.new.self)) (sym (to_z-of_z w64 n fits))

pub read_value-returns-in-Bool-clause-value : goal.read_value-returns-in-Bool-clause-value
read_value-returns-in-Bool-clause-value t c =
    let first : c.args.reader.now ≡ token_of c.in_ok-token.token ∷ c.next.new.self = grind arith in
    let is : c.args.reader.now ≡ Token.boolean c.in-Bool.b ∷ c.next.new.self = grind (arith, first) in
    ap (λ o. converted value_of (converted of_json o)) (ap (value c.args.levels) is ∙ value_is c.args.levels _)

pub read_value-returns-in-Null-clause-value : goal.read_value-returns-in-Null-clause-value
read_value-returns-in-Null-clause-value t c =
    let first : c.args.reader.now ≡ token_of c.in_ok-token.token ∷ c.next.new.self = grind arith in
    let is : c.args.reader.now ≡ Token.null ∷ c.next.new.self = grind (arith, first) in
    ap (λ o. converted value_of (converted of_json o)) (ap (value c.args.levels) is ∙ value_is c.args.levels _)

pub read_value-returns-in_ok-read_items-in-BeginArray-clause-value : goal.read_value-returns-in_ok-read_items-in-BeginArray-clause-value
read_value-returns-in_ok-read_items-in-BeginArray-clause-value t c =
    let rest = c.next.new.self in
    let below = value (c.args.levels - 1) in
    let first : c.args.reader.now ≡ token_of c.in_ok-token.token ∷ rest = grind arith in
    let opened = ap (λ o. converted value_of (converted of_json o)) (ap (value c.args.levels) (first ∙ ap (λ k. token_of k ∷ rest) c.in-BeginArray.is) ∙ value-begin_array c.args.levels rest (omega arith)) in
    opened ∙ ap (converted value_of) (converted-array (items below (length rest) rest)) ∙ array_value (converted of_items (items below (length rest) rest))
    ∙ ap (parse_map language.Array) c.in_ok-read_items-in-BeginArray.ensures.values

pub read_value-returns-in_ok-map_of-in-BeginObject-clause-value : goal.read_value-returns-in_ok-map_of-in-BeginObject-clause-value
read_value-returns-in_ok-map_of-in-BeginObject-clause-value t c =
    let rest = c.next.new.self in
    let below = value (c.args.levels - 1) in
    let first : c.args.reader.now ≡ token_of c.in_ok-token.token ∷ rest = grind arith in
    let opened = ap (λ o. converted value_of (converted of_json o)) (ap (value c.args.levels) (first ∙ ap (λ k. token_of k ∷ rest) c.in-BeginObject.is) ∙ value-begin_object c.args.levels rest (omega arith)) in
    opened ∙ ap (converted value_of) (converted-object (members below (length rest) rest)) ∙ object_value (converted (λ ms. of_members ms no_members) (members below (length rest) rest))
    ∙ ap (parse_map language.Map) c.in_ok-members-in-BeginObject.ensures.pairs ∙ ap (λ ps. Some (language.Map ps, c.read_members.new.reader)) (sym c.in_ok-map_of-in-BeginObject.ensures)

pub read_items-items-preserved : goal.read_items-items-preserved
read_items-items-preserved t c =
    let p = value c.args.levels in
    let l = c.items in
    let n = l.invariant.0 in
    let going : (after_end_array l.reader ≡ None) × (c.take_end_array.new.self ≡ l.reader) = grind arith in
    let done = c.in_ok-item.ensures in
    let v = c.in_ok-item.item in
    let r = c.read_value.new.reader in
    let less : length r < length l.reader = rw (← going.1) done.shorter in
    let first = converted_some value_of (converted of_json (p l.reader)) v r (rw (← going.1) done.value) in
    let turn = item_read p n l.reader r first.0 (omega (arith, l.invariant.1)) going.0 first.1 in
    let rest = converted of_items (items p (n - 1) r) in (
      n - 1,
      omega (arith, l.invariant.1),
      l.invariant.2 ∙ ap (λ o. parse_map (λ vs. l.found.items ++ vs) (converted values_of o)) turn ∙ ap (parse_map (λ vs. l.found.items ++ vs)) (item_value first.0 v first.2 rest)
          ∙ one_more l.found.items v (converted values_of rest) ∙ ap (λ vs. parse_map (λ more. vs ++ more) (converted values_of rest)) (sym c.in-Ok.ensures.items),
      omega (arith, l.invariant.3),
    )

pub read_items-returns-clause-values : goal.read_items-returns-clause-values
read_items-returns-clause-values t c =
    let p = value c.args.levels in
    let l = c.items in
    let n = l.invariant.0 in
    let r = c.take_end_array.new.self in
    l.invariant.2 ∙ ap (λ o. parse_map (λ vs. l.found.items ++ vs) (converted values_of o)) (items_over p n l.reader r l.invariant.1 (grind arith))
    ∙ ap (λ vs. Some (vs, r)) (append-nil l.found.items ∙ sym c.from_vec.ensures)

pub read_members-members-init : goal.read_members-members-init
read_members-members-init t c =
    let all = members (value c.args.levels) (length c.args.reader.now) c.args.reader.now in
    (length c.args.reader.now, omega arith, no_members, ap (λ es. Some (lent_pairs es)) (sym c.new-found.ensures.empty), refl, omega arith)

pub read_members-members-preserved : goal.read_members-members-preserved
read_members-members-preserved t c =
    let p = value c.args.levels in
    let l = c.members in
    let n = l.invariant.0 in
    let old = l.invariant.2 in
    let k = c.in-Some.name.now in
    let s = c.next_key.new.self in
    let key : read_key l.reader ≡ Some (Some k, s) = grind arith in
    let done = c.in_ok-member.ensures in
    let v = c.in_ok-member.member in
    let r = c.read_value.new.reader in
    let less = read_key-shorter l.reader (Some k) s key in
    let lesser = done.shorter in
    let first = converted_some value_of (converted of_json (p s)) v r done.value in
    let turn = member_read p old n k l.reader s r first.0 (omega (arith, l.invariant.1)) key first.1 in (
      n - 1,
      omega (arith, l.invariant.1),
      put k first.0 old,
      pairs_of-put k first.0 v first.2 old (lent_pairs l.found.entries) l.invariant.3 ∙ ap Some (sym (lent_pairs-insert_entry l.found.entries c.in-Some.name v) ∙ ap lent_pairs (sym c.in-Ok-insert.ensures.entries)),
      l.invariant.4 ∙ turn,
      omega (arith, l.invariant.5),
    )

pub read_members-returns-in_default-key-clause-pairs : goal.read_members-returns-in_default-key-clause-pairs
read_members-returns-in_default-key-clause-pairs t c =
    let p = value c.args.levels in
    let l = c.members in
    let n = l.invariant.0 in
    let old = l.invariant.2 in
    let r = c.next_key.new.self in
    let over = members_over p old n l.reader r l.invariant.1 (grind arith) in
    ap (converted pairs_of) (l.invariant.4 ∙ over) ∙ pairs_over old (lent_pairs l.found.entries) r l.invariant.3
