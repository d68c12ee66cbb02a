-- What is known of the functions and channels that names mean.
use Rattle.std.specs.Prelude.{ℕ, Option, Some, None, Bool, false, length, slice_get}
use Rattle.ac_names.specs.declared.meaning.Meaning.{Meaning}
use Rattle.ac_names.specs.declared.meaning.Meaning.TheVariants as m
use Rattle.ac_types.specs.declared.numbered.Signature.{Signature}
use Rattle.ac_types.specs.declared.numbered.Callee.{Callee}
use Rattle.ac_types.specs.declared.numbered.Ends.{Ends}
use Rattle.ac_types.specs.declared.numbered.Tables.{Tables}

abbrev pub callee_of : ℕ → Option Signature → Option Callee
callee_of number None = None
callee_of number (Some s) = Some (record { number = number; is_async = s.is_async; gives_int = s.gives_int; params = length s.params })

abbrev pub callee : Tables → Option Meaning → Option Callee
callee t (Some (m.Function number)) = callee_of number (slice_get t.functions number)
callee t _ = None

abbrev pub is_array_in : ℕ → Option Signature → Bool
is_array_in param None = false
is_array_in param (Some s) = is_true (slice_get s.params param)
  where
    is_true : Option Bool → Bool
    is_true None = false
    is_true (Some b) = b

-- whether the parameter of that number is an array
abbrev pub takes_array : Tables → Option Meaning → ℕ → Bool
takes_array t (Some (m.Function number)) param = is_array_in param (slice_get t.functions number)
takes_array t _ param = false

abbrev pub ends_named : Tables → Option Meaning → Option Ends
ends_named t (Some (m.Channel number)) = slice_get t.channels number
ends_named t _ = None

abbrev pub width_named : Tables → Option Meaning → Option ℕ
width_named t (Some (m.Channel number)) = slice_get t.widths number
width_named t _ = None
