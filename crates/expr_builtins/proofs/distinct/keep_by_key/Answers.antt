use Rattle.std.proofs.Common.{◌≡◌, Some, None, sym, ◌∙◌, rules}
use Rattle.expr_value.specs.Values.{at_key, key_of}
use Rattle.std.specs.Option.{is_some}
use Rattle.std.specs.Prelude.{false, true}
use Rattle.expr_builtins.proofs.Keyed.{known_by_key, keys_without, new_by_key, key_goes_last}
use Rattle.expr_builtins.proofs.distinct.keep_by_key.Goals as goal

pub returns-then-has_key-clause-kept : goal.returns-then-has_key-clause-kept
returns-then-has_key-clause-kept c =
    let found : is_some (at_key c.args.item c.args.keys.now) ≡ true = search rules in
    sym (known_by_key c.args.keys.now c.args.kept.now.items c.args.item c.requires found)

pub returns-in-None-clause-keys : goal.returns-in-None-clause-keys
returns-in-None-clause-keys c =
    let none : key_of c.args.item ≡ None = search rules in
    let same = c.requires ∙ sym (keys_without c.args.kept.now.items c.args.item none) in
    search rules

pub returns-in_ok-push-in-Some-clause-keys : goal.returns-in_ok-push-in-Some-clause-keys
returns-in_ok-push-in-Some-clause-keys c =
    let absent : is_some (at_key c.args.item c.args.keys.now) ≡ false = search rules in
    let key : key_of c.args.item ≡ Some c.in-Some.key = search rules in
    let last = key_goes_last c.args.keys.now c.args.kept.now.items c.args.item c.in-Some.key c.requires key absent tt in
    search rules

pub returns-in_ok-push-in-Some-clause-kept : goal.returns-in_ok-push-in-Some-clause-kept
returns-in_ok-push-in-Some-clause-kept c =
    let absent : is_some (at_key c.args.item c.args.keys.now) ≡ false = search rules in
    let key : key_of c.args.item ≡ Some c.in-Some.key = search rules in
    let new = new_by_key c.args.keys.now c.args.kept.now.items c.args.item c.in-Some.key c.requires key absent in
    search rules
