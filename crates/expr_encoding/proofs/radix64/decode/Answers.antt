use Rattle.std.proofs.Common.{◌≡◌, ℕ, List, Ok, Err, Result, IsUtf8, refl, subst, sym, ap, ◌∙◌}
use Rattle.std.proofs.lemmas.Bool.{false≢true}
use Rattle.std.proofs.lemmas.Str.{IsUtf8-string_bytes}
use Rattle.base64.specs.Engines.{standard}
use Rattle.base64.specs.GeneralPurpose.{encode_of}
use Rattle.base64.specs.declared.decode.DecodeError.{DecodeError}
use Rattle.expr_encoding.proofs.TextBytes.{text_bytes}
use Rattle.expr_encoding.proofs.radix64.decode.Goals as goal

apart : (d : DecodeError) (b : List ℕ) (r : Result (List ℕ) DecodeError) → r ≡ Err d → r ≡ Ok b → ⊥
apart d b r failed gave = cc

same : (a b : List ℕ) (r : Result (List ℕ) DecodeError) → r ≡ Ok a → r ≡ Ok b → a ≡ b
same a b r first second = cc

pub returns-in-Err-DecodeError : goal.returns-in-Err-DecodeError
returns-in-Err-DecodeError c other = (
  c.refusal.ensures other,
  λ s utf8 is.
      let d = c.in-Err-DecodeError.ensures.strict (refl, refl) s (text_bytes s utf8) in
      apart _ s _ (rw c.in-Err-DecodeError.field-0-is at c.in-Err-DecodeError.ensures.err) (d.1 (c.as_bytes.ensures.value ∙ is)),
)

pub returns-in-Ok-from_utf8 : goal.returns-in-Ok-from_utf8
returns-in-Ok-from_utf8 c =
    let same : c.in-Ok.bytes.items ≡ c.from_string.result = ap (λ v. v.items) (sym c.in-Ok-from_utf8.ensures.ok) ∙ sym c.from_string.ensures in (
      subst IsUtf8 (sym c.from_string.ensures) (IsUtf8-string_bytes c.in-Ok-from_utf8.decoded),
      sym c.as_bytes.ensures.value ∙ c.in-Ok.ensures.exact (refl, refl) ∙ ap (encode_of standard) same,
    )

pub returns : goal.returns
returns c other = (
  c.refusal-in-Err.ensures other,
  λ s utf8 is.
      let d = c.in-Ok.ensures.strict (refl, refl) s (text_bytes s utf8) in
      let e : s ≡ c.in-Ok.bytes.items = same s c.in-Ok.bytes.items _ (d.1 (c.as_bytes.ensures.value ∙ is)) c.in-Ok.ensures.ok in
      let ok = c.from_utf8.ensures.succeeds (subst IsUtf8 e utf8) in
      absurd (false≢true (rw c.in-Err.is at ok)),
)
