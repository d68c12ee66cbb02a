-- How many ints a Send or a Recv names, and how many a message of a channel has.
use Rattle.std.specs.Prelude.{ℕ, zero, suc, ◌+◌, List, [], ◌∷◌, Option, None, Some, Bool, true, false, not, nat_eq, nat_le, if◌then◌else◌}
use Rattle.ac_names.specs.declared.meaning.Meaning.{Meaning}
use Rattle.ac_names.specs.declared.meaning.Meaning.TheVariants as m
use Rattle.ac_names.specs.Scopes.{Declaration, visible}
use Rattle.ac_names.specs.Kinds.{both}
use Rattle.ac_types.specs.declared.carried.Carried.{Carried}

-- how many elements an array has; of a parameter that is not known, and what is no array counts as one
abbrev pub length_meant : Option Meaning → Option ℕ
length_meant (Some (m.GlobalArray slot len)) = Some len
length_meant (Some (m.LocalArray depth slot len)) = Some len
length_meant (Some (m.ArrayParam slot)) = None
length_meant _ = Some 1

-- by the name that the value of a Send or the place of a Recv is, where it is one
abbrev pub length_named : Option (List ℕ) → List (List Declaration) → Option ℕ
length_named None scopes = Some 1
length_named (Some name) scopes = length_meant (visible name scopes)

-- a message has 1 to 16 ints; an array of another length names none
abbrev pub ints_of : Option ℕ → Option ℕ
ints_of None = None
ints_of (Some len) = if both (nat_le 1 len) (nat_le len 16) then Some len else None

-- what a Send or a Recv says of the channel that its name means
abbrev pub carried_on : Option Meaning → Option ℕ → Option Carried
carried_on (Some (m.Channel number)) len = Some (record { channel = number; len = len })
carried_on _ len = None

-- it names no number of ints, or another than a message of its channel has
abbrev pub is_unlike : Option ℕ → Option ℕ → Bool
is_unlike ints None = false
is_unlike None (Some width) = true
is_unlike (Some count) (Some width) = not (nat_eq count width)

abbrev pub count_or_one : Option ℕ → ℕ
count_or_one None = 1
count_or_one (Some count) = count

-- as many as the first that says something of the channel names; 1 where none does, or where that one names none
abbrev pub width_in : List Carried → ℕ → ℕ
width_in [] channel = 1
width_in (c ∷ cs) channel = if nat_eq c.channel channel then count_or_one (ints_of c.len) else width_in cs channel

-- of so many channels, from a number on
abbrev pub widths_in : List Carried → ℕ → ℕ → List ℕ
widths_in carried number zero = []
widths_in carried number (suc count) = width_in carried number ∷ widths_in carried (number + 1) count
