use Rattle.std.proofs.Common.{◌≡◌, ◌∷◌, ap, ◌∙◌, arith, length}
use Rattle.std.proofs.lemmas.Option.{IfSome_then}
use Rattle.json.specs.Json.{members, parse_map, value}
use Rattle.json.specs.Reads.{token_of}
use Rattle.json.proofs.Grammar.{value-begin_object}
use Rattle.serde_json.specs.Data.{no_members}
use Rattle.serde_json.specs.Read.{converted, of_json, of_members}
use Rattle.expr_value.specs.declared.value.Value as language
use Rattle.expr_encoding.specs.Reading.{value_of}
use Rattle.expr_encoding.proofs.Turns.{converted-object, object_value}
use Rattle.expr_encoding.proofs.tokens.read_object.Goals as goal

pub returns-in-BeginObject : goal.returns-in-BeginObject
returns-in-BeginObject c =
    let rest = c.next.new.self in
    let first : c.args.reader.now ≡ token_of c.in_ok-token.token ∷ rest = grind arith in
    let opened = ap (λ o. converted value_of (converted of_json o)) (ap (value 127) (first ∙ ap (λ k. token_of k ∷ rest) c.in-BeginObject.is) ∙ value-begin_object 127 rest (omega arith)) in
    let read = opened ∙ ap (converted value_of) (converted-object (members (value 126) (length rest) rest)) ∙ object_value (converted (λ ms. of_members ms no_members) (members (value 126) (length rest) rest)) in
    IfSome_then c.read_members.result c.read_members.ensures.pairs (λ m found. read ∙ ap (parse_map language.Map) found)
