use Rattle.std.proofs.Common.{◌∙◌}
use Rattle.expr_encoding.specs.Reading.{json_value}
use Rattle.expr_records.proofs.Given.{flat, given_err, given_ok, none_before}
use Rattle.expr_error.specs.ErrorKind.{error_kind}
use Rattle.expr_value.specs.Values.{map_of}
use Rattle.expr_records.proofs.record.object_of.Goals as goal

pub returns-in-Ok-Some-clause-ok : goal.returns-in-Ok-Some-clause-ok
returns-in-Ok-Some-clause-ok c = flat map_of (json_value c.args.text.now) _ (given_ok _ _ c.in-Ok-Some.ensures) ∙ c.in-Ok-Some.field-0-is

pub returns-in-Ok-None-clause-err : goal.returns-in-Ok-None-clause-err
returns-in-Ok-None-clause-err c = flat map_of (json_value c.args.text.now) _ (given_ok _ _ c.in-Ok-None.ensures) ∙ c.in-Ok-None.field-0-is

pub returns-in-Err-clause-err : goal.returns-in-Err-clause-err
returns-in-Err-clause-err c = λ known. none_before map_of (json_value c.args.text.now) (given_err _ (error_kind c.in-Err.error) (c.in-Err.ensures known))
