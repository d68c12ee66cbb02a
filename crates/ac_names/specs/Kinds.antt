-- The kinds of what names mean.
use Rattle.std.specs.Prelude.{Option, Some, None, Bool, true, false, not}
use Rattle.ac_names.specs.declared.kind.NameKind.{NameKind}
use Rattle.ac_names.specs.declared.kind.NameKind.TheVariants as k
use Rattle.ac_names.specs.declared.meaning.Meaning.{Meaning}
use Rattle.ac_names.specs.declared.meaning.Meaning.TheVariants as m

abbrev pub is_kind : NameKind → Meaning → Bool
is_kind k.Int (m.Global slot) = true
is_kind k.Int (m.Local depth slot) = true
is_kind k.Array (m.GlobalArray slot len) = true
is_kind k.Array (m.LocalArray depth slot len) = true
is_kind k.Array (m.ArrayParam slot) = true
is_kind k.Function (m.Function number) = true
is_kind k.Channel (m.Channel number) = true
is_kind k.File (m.File number) = true
is_kind k.Core (m.Core number) = true
is_kind _ _ = false

-- a name that is not declared breaks no rule on its kind
abbrev pub is_other : NameKind → Option Meaning → Bool
is_other kind None = false
is_other kind (Some meaning) = not (is_kind kind meaning)

abbrev pub is_undeclared : Option Meaning → Bool
is_undeclared None = true
is_undeclared (Some meaning) = false

abbrev pub is_declared : Option Meaning → Bool
is_declared None = false
is_declared (Some meaning) = true

abbrev pub either : Bool → Bool → Bool
either true b = true
either false b = b

abbrev pub both : Bool → Bool → Bool
both true b = b
both false b = false
