-- What the functions on versions return, by the definitions of the kit's `semver`.
use Rattle.std.specs.Prelude.{◌≡◌, ℕ, ℤ, pos, negsuc, List, Bool, Option, Some, None, Result, Ok, Err, IfSome, bytes_eq, codes, if◌then◌else◌}
use Rattle.std.specs.Ordering.{nat_cmp, ordering_then}
use Rattle.std.specs.declared.cmp.Ordering.{Ordering}
use Rattle.std.specs.declared.cmp.Ordering.TheVariants.{Less, Equal, Greater}
use Rattle.semver.specs.EvalViews.{matches_views}
use Rattle.semver.specs.Order.{pre_cmp}
use Rattle.semver.specs.Parse.{Parts, req_of, version_parts}
use Rattle.semver.specs.declared.error.Error.{Error as Unreadable}
use Rattle.expr_arguments.specs.Arguments.{answer_on, two_texts}
use Rattle.expr_error.specs.ErrorKind.{evaluation}
use Rattle.expr_value.specs.Answers.{Answer}
use Rattle.expr_value.specs.declared.value.Value as values
use Rattle.expr_value.specs.declared.value.Value.{Value}
use Rattle.expr_versions.specs.declared.functions.VersionFunction.{VersionFunction}
use Rattle.expr_versions.specs.declared.functions.VersionFunction.TheVariants.{Matches, Compare}

-- the function of a name
abbrev pub version_function : List ℕ → Option VersionFunction
version_function name =
    if bytes_eq name (codes "versionMatches") then Some Matches
    else if bytes_eq name (codes "versionCompare") then Some Compare
    else None

-- the function of a name, if a host has added the functions on versions
abbrev pub function_added : Bool → List ℕ → Option VersionFunction
function_added are_added name = if are_added then version_function name else None

-- an order as a number
abbrev pub ordering_number : Ordering → ℤ
ordering_number Less = negsuc 0
ordering_number Equal = pos 0
ordering_number Greater = pos 1

-- the precedence of two versions: by their numbers, then by their pre-releases. Build metadata counts nothing.
abbrev pub precedence : Parts → Parts → Ordering
precedence a b = ordering_then (nat_cmp a.0 b.0) (ordering_then (nat_cmp a.1 b.1)
    (ordering_then (nat_cmp a.2 b.2) (pre_cmp a.3 b.3)))

-- the result on what two strings are read as, or an error if one of them can't be read
abbrev pub on_both : {A B : Type 0} → Result A Unreadable → Result B Unreadable → (A → B → Value) → Answer
on_both (Ok a) (Ok b) value = Ok (value a b)
on_both (Ok a) (Err why) value = Err evaluation
on_both (Err why) second value = Err evaluation

-- what `versionMatches` returns for two strings
abbrev pub matched : List ℕ → List ℕ → Answer
matched version requirement =
    on_both (version_parts version) (req_of requirement) (λ v held. values.Bool (matches_views held v))

-- what `versionCompare` returns for two strings
abbrev pub compared : List ℕ → List ℕ → Answer
compared first second =
    on_both (version_parts first) (version_parts second) (λ a b. values.Integer (ordering_number (precedence a b)))

abbrev pub on_texts : VersionFunction → List ℕ → List ℕ → Answer
on_texts Matches version requirement = matched version requirement
on_texts Compare first second = compared first second

-- what a call returns. It takes two strings.
abbrev pub version_answer : VersionFunction → List Value → Answer
version_answer function vs = answer_on (two_texts vs) (λ texts. on_texts function texts.0 texts.1)

-- what a call of a name may return, if a host has added the functions on versions
abbrev pub VersionsReturn : Bool → List ℕ → List Value → Answer → Type 0
VersionsReturn are_added name vs answer = IfSome (function_added are_added name) (λ function. version_answer function vs ≡ answer)
