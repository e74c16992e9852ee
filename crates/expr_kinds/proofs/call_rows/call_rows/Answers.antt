use Rattle.std.proofs.Common.{[], map, append-nil, sym, ap, ◌∙◌}
use Rattle.expr_kinds.specs.BuiltinRows.{overload_view}
use Rattle.expr_kinds.specs.Overloads.{overloads}
use Rattle.expr_kinds.proofs.call_rows.call_rows.Goals as goal

pub returns-in-Sort : goal.returns-in-Sort
unfolding overloads
returns-in-Sort c = λ k. ([], ap (λ v. overloads v k) c.in-Sort.is)

pub returns-in-Collection : goal.returns-in-Collection
unfolding overloads
returns-in-Collection c = λ k. let (rest, q) = c.collection_rows.ensures k in (rest, ap (λ v. overloads v k) c.in-Collection.is ∙ q)

pub returns-in-Text : goal.returns-in-Text
unfolding overloads
returns-in-Text c = λ k. ([], ap (λ v. overloads v k) c.in-Text.is ∙ sym (c.text_rows.ensures k) ∙ sym (append-nil (map (overload_view k) c.text_rows.result.now)))

pub returns-in-Conversion : goal.returns-in-Conversion
unfolding overloads
returns-in-Conversion c = λ k. ([], ap (λ v. overloads v k) c.in-Conversion.is ∙ sym (c.conversion_rows.ensures k) ∙ sym (append-nil (map (overload_view k) c.conversion_rows.result.now)))

pub returns-in-Number : goal.returns-in-Number
unfolding overloads
returns-in-Number c = λ k. ([], ap (λ v. overloads v k) c.in-Number.is ∙ sym (c.number_rows.ensures k) ∙ sym (append-nil (map (overload_view k) c.number_rows.result.now)))

pub returns-in-Bit : goal.returns-in-Bit
unfolding overloads
returns-in-Bit c = λ k. ([], ap (λ v. overloads v k) c.in-Bit.is ∙ sym (c.bit_rows.ensures k) ∙ sym (append-nil (map (overload_view k) c.bit_rows.result.now)))

pub returns-in-Encoding : goal.returns-in-Encoding
unfolding overloads
returns-in-Encoding c = λ k. ([], ap (λ v. overloads v k) c.in-Encoding.is ∙ sym (c.encoding_rows.ensures k) ∙ sym (append-nil (map (overload_view k) c.encoding_rows.result.now)))

pub returns-in-Time : goal.returns-in-Time
unfolding overloads
returns-in-Time c = λ k. ([], ap (λ v. overloads v k) c.in-Time.is ∙ sym (c.time_rows.ensures k) ∙ sym (append-nil (map (overload_view k) c.time_rows.result.now)))
