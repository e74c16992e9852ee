-- The bytes of a name.
use Rattle.std.specs.Prelude.{ℕ, List, String, string_bytes}
use Rattle.std.specs.declared.alloc.Global.{Global}

abbrev pub text_of : {N : Type 0} → (N → String Global) → N → List ℕ
text_of held name = string_bytes (held name)
