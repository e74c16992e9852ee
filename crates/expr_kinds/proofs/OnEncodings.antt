-- Each overload of the built-ins for encodings holds.
use Rattle.std.proofs.Common.{ℕ, List, [], ◌∷◌, Option, Some, None, option_map, Ok, Err, refl, sym, subst, ◌≡◌}
use Rattle.expr_arguments.specs.Arguments.{any_value, one_of}
use Rattle.expr_encoding.specs.Base64.{FromBase64Layer, FromText, text_in_base64}
use Rattle.expr_encoding.specs.Calls.{EncodesArgument, EncodingMayReturn, Encodes}
use Rattle.expr_encoding.specs.Optional.{value_or_refusal}
use Rattle.expr_encoding.specs.Writing.{json_text}
use Rattle.expr_error.specs.ErrorKind.{evaluation}
use Rattle.expr_functions.specs.declared.functions.EncodingCall.{EncodingCall}
use Rattle.expr_functions.specs.declared.functions.EncodingCall.TheVariants as encoding
use Rattle.expr_value.specs.Answers.{Answer}
use Rattle.expr_value.specs.declared.value.Value as value
use Rattle.expr_value.specs.declared.value.Value.{Value, out-Value}
use Rattle.expr_value.specs.declared.value.Value.TheOpen.{Value-F}
use Rattle.expr_schema.specs.Kinds.{Kind, any, never, string, Each, Effect, total, failing}
use Rattle.expr_kinds.specs.Effects.{ResultIs, Yields}
use Rattle.expr_kinds.specs.Overloads.{HaveKindsThen, on_encodings}
use Rattle.expr_kinds.proofs.Held.{Of, OverloadHolds, exactly_one}
use Rattle.expr_kinds.proofs.Layers.{Layer, at-layer, string-layer}

-- a call of one argument
encoded : (c : EncodingCall) (e : Effect) (k gives : Kind) → ((v : Value) → Of k v → Yields e (Of gives) (Encodes c v)) → (vs : List Value) → HaveKindsThen (k ∷ []) never vs → Yields e (Of gives) (EncodingMayReturn c vs)
encoded c e k gives f = exactly_one k (λ us. Yields e (Of gives) (EncodingMayReturn c us)) f

of-anything : (a : Answer) → ResultIs failing (Of any) a
of-anything (Ok v) = tt
of-anything (Err f) = tt

json-string : (o : Option (List ℕ)) → ResultIs failing (Of string) (value_or_refusal (option_map value.String o))
json-string None = tt
json-string (Some s) = (s, refl)

decoded : (text : List ℕ) → Yields failing (Of string) (FromText text)
decoded text (Ok v) (s, decodes, is) = (s, is)
decoded text (Err f) p = tt

-- arguments of unknown kinds
no-string : Yields failing (Of string) (λ a. a ≡ Err evaluation)
no-string a is = subst (λ r. ResultIs failing (Of string) r) (sym is) tt

may-encode_layer : (l : Layer) → ResultIs failing (Of string) (text_in_base64 l)
may-encode_layer (Value-F.String s) = (_, refl)
may-encode_layer l = tt

may-encode : (o : Option Value) → Yields failing (Of string) (EncodesArgument encoding.ToBase64 o)
may-encode None a is = no-string a is
may-encode (Some v) a is = subst (λ r. ResultIs failing (Of string) r) (sym is) (may-encode_layer (out-Value v))

may-decode_layer : (l : Layer) → Yields failing (Of string) (FromBase64Layer l)
may-decode_layer (Value-F.String text) a p = decoded text a p
may-decode_layer l a is = no-string a is

may-decode : (o : Option Value) → Yields failing (Of string) (EncodesArgument encoding.FromBase64 o)
may-decode None a is = no-string a is
may-decode (Some v) a p = may-decode_layer (out-Value v) a p

pub encodings-hold : (c : EncodingCall) → Each (OverloadHolds (EncodingMayReturn c)) (on_encodings c)
encodings-hold encoding.FromJson = (λ known vs h is. encoded encoding.FromJson failing string any (λ v i a q. of-anything a) vs h, tt)
encodings-hold encoding.ToJson =
    (λ known vs h is. encoded encoding.ToJson failing any string (λ v i a q. subst (λ r. ResultIs failing (Of string) r) (sym q) (json-string (json_text v))) vs h, tt)
encodings-hold encoding.ToBase64 = (
  λ known vs h is. encoded encoding.ToBase64 total string string (λ v i a q.
      subst (λ r. ResultIs total (Of string) r) (sym q) (at-layer (λ l. ResultIs total (Of string) (text_in_base64 l)) v _ (string-layer v i) (_, refl))) vs h,
  (λ known vs h is. may-encode (one_of any_value vs), tt),
)
encodings-hold encoding.FromBase64 =
    (λ known vs h is. encoded encoding.FromBase64 failing string string (λ v i. at-layer (λ l. Yields failing (Of string) (FromBase64Layer l)) v _ (string-layer v i) (decoded i.0)) vs h, (λ known vs h is. may-decode (one_of any_value vs), tt))
