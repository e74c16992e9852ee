use Rattle.std.proofs.Common.{[], ap, if◌then◌else◌}
use Rattle.expr_kinds.specs.Overloads.{flat_overloads, is_flat, on_collections}
use Rattle.expr_kinds.proofs.call_rows.collection_rows.Goals as goal

pub returns-in-Len : goal.returns-in-Len
returns-in-Len c = λ k. ([], ap (λ v. on_collections v k) c.in-Len.is)

pub returns-in-First : goal.returns-in-First
returns-in-First c = λ k. ([], ap (λ v. on_collections v k) c.in-First.is)

pub returns-in-Last : goal.returns-in-Last
returns-in-Last c = λ k. ([], ap (λ v. on_collections v k) c.in-Last.is)

pub returns-in-Take : goal.returns-in-Take
returns-in-Take c = λ k. ([], ap (λ v. on_collections v k) c.in-Take.is)

pub returns-in-Reverse : goal.returns-in-Reverse
returns-in-Reverse c = λ k. ([], ap (λ v. on_collections v k) c.in-Reverse.is)

pub returns-in-Uniq : goal.returns-in-Uniq
returns-in-Uniq c = λ k. ([], ap (λ v. on_collections v k) c.in-Uniq.is)

pub returns-in-Flatten : goal.returns-in-Flatten
returns-in-Flatten c = λ k. (if is_flat k then flat_overloads k else [], ap (λ v. on_collections v k) c.in-Flatten.is)

pub returns-in-Concat : goal.returns-in-Concat
returns-in-Concat c = λ k. ([], ap (λ v. on_collections v k) c.in-Concat.is)

pub returns-in-Keys : goal.returns-in-Keys
returns-in-Keys c = λ k. ([], ap (λ v. on_collections v k) c.in-Keys.is)

pub returns-in-Values : goal.returns-in-Values
returns-in-Values c = λ k. ([], ap (λ v. on_collections v k) c.in-Values.is)

pub returns-in-ToPairs : goal.returns-in-ToPairs
returns-in-ToPairs c = λ k. ([], ap (λ v. on_collections v k) c.in-ToPairs.is)

pub returns-in-Get : goal.returns-in-Get
returns-in-Get c = λ k. ([], ap (λ v. on_collections v k) c.in-Get.is)

pub returns-in-Join : goal.returns-in-Join
returns-in-Join c = λ k. ([], ap (λ v. on_collections v k) c.in-Join.is)

pub returns-in-FromPairs : goal.returns-in-FromPairs
returns-in-FromPairs c = λ k. ([], ap (λ v. on_collections v k) c.in-FromPairs.is)
