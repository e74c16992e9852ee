-- Base64 of strings, in the standard alphabet with padding (RFC 4648, section 4).
use Rattle.std.specs.Prelude.{◌≡◌, ℕ, List, IsUtf8, Result, Ok, Err}
use Rattle.base64.specs.Engines.{standard}
use Rattle.base64.specs.GeneralPurpose.{encode_of}
use Rattle.expr_value.specs.Answers.{Answer}
use Rattle.expr_error.specs.ErrorKind.{ErrorKind, evaluation}
use Rattle.expr_value.specs.declared.value.Value as value
use Rattle.expr_value.specs.declared.value.Value.{Value, out-Value}
use Rattle.expr_value.specs.declared.value.Value.TheOpen.{Value-F}

abbrev pub encoded_text : List ℕ → Result (List ℕ) ErrorKind
encoded_text s = Ok (encode_of standard s)

-- The string whose standard encoding this is, or an error if there is no such string.
abbrev pub Decodes : List ℕ → Result (List ℕ) ErrorKind → Type 0
Decodes text (Ok s) = IsUtf8 s × (text ≡ encode_of standard s)
Decodes text (Err e) = (e ≡ evaluation) × ((s : List ℕ) → IsUtf8 s → ¬ (text ≡ encode_of standard s))

abbrev pub text_in_base64 : Value-F Value → Answer
text_in_base64 (Value-F.String s) = Ok (value.String (encode_of standard s))
text_in_base64 v = Err evaluation

-- the standard encoding of a string. Other kinds are an error.
abbrev pub in_base64 : Value → Answer
in_base64 v = text_in_base64 (out-Value v)

abbrev pub FromText : List ℕ → Answer → Type 0
FromText text (Ok v) = (s : List ℕ) × Decodes text (Ok s) × (v ≡ value.String s)
FromText text (Err e) = Decodes text (Err e)

abbrev pub FromBase64Layer : Value-F Value → Answer → Type 0
FromBase64Layer (Value-F.String text) answer = FromText text answer
FromBase64Layer v answer = answer ≡ Err evaluation

-- the string that a string encodes. Other kinds are an error.
abbrev pub FromBase64 : Value → Answer → Type 0
FromBase64 v answer = FromBase64Layer (out-Value v) answer
