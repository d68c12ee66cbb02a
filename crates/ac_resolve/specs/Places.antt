-- What a name stands for, by what it means and by the number of async bodies round its use. Where a name means something else than its
-- place needs, something is given all the same: no program that breaks no rule has such a name.
use Rattle.std.specs.Prelude.{ℕ, ℤ, pos, negsuc, ◌-◌, Option, Some}
use Rattle.ac_tree.specs.declared.expr.Constant.{Constant}
use Rattle.ac_tree.specs.declared.expr.Constant.TheVariants as c
use Rattle.ac_names.specs.declared.meaning.Meaning.{Meaning}
use Rattle.ac_names.specs.declared.meaning.Meaning.TheVariants as m
use Rattle.ac_commands.specs.declared.value.Place.{Place}
use Rattle.ac_commands.specs.declared.value.Place.TheVariants as p
use Rattle.ac_commands.specs.declared.value.Array.{Array}
use Rattle.ac_commands.specs.declared.value.Array.TheVariants as a
use Rattle.ac_commands.specs.declared.value.Value.{Value}
use Rattle.ac_commands.specs.declared.value.Value.TheVariants as v
use Rattle.ac_commands.specs.declared.command.Target.{Target}
use Rattle.ac_commands.specs.declared.command.Target.TheVariants as t
use Rattle.ac_commands.specs.declared.command.Command.{Command}
use Rattle.ac_commands.specs.declared.command.Command.TheVariants as d

-- the numbers of the named results
abbrev pub constant_value : Constant → ℤ
constant_value c.Ok = pos 0
constant_value c.Cancelled = negsuc 0
constant_value c.Fault = negsuc 1

-- an int variable
abbrev pub place_of : Option Meaning → ℕ → Place
place_of (Some (m.Global slot)) depth = p.Global slot
place_of (Some (m.Local there slot)) depth = p.Local (depth - there) slot
place_of _ depth = p.Global 0

-- an array; a parameter is declared in no async body
abbrev pub array_of : Option Meaning → ℕ → Array
array_of (Some (m.GlobalArray slot len)) depth = a.Global slot len
array_of (Some (m.LocalArray there slot len)) depth = a.Local (depth - there) slot len
array_of (Some (m.ArrayParam slot)) depth = a.Param depth slot
array_of _ depth = a.Global 0 0

-- a name as an argument or as what is sent: a reference, where it is that of an array
abbrev pub name_argument : Option Meaning → ℕ → Value
name_argument (Some (m.GlobalArray slot len)) depth = v.Reference (a.Global slot len)
name_argument (Some (m.LocalArray there slot len)) depth = v.Reference (a.Local (depth - there) slot len)
name_argument (Some (m.ArrayParam slot)) depth = v.Reference (a.Param depth slot)
name_argument meaning depth = v.Variable (place_of meaning depth)

-- an int variable as an array of one element
abbrev pub array_at : Place → Array
array_at (p.Global slot) = a.Global slot 1
array_at (p.Local level slot) = a.Local level slot 1

-- a name as where a message is received: the array, or the int variable as an array of one element
abbrev pub received_in : Option Meaning → ℕ → Array
received_in (Some (m.GlobalArray slot len)) depth = a.Global slot len
received_in (Some (m.LocalArray there slot len)) depth = a.Local (depth - there) slot len
received_in (Some (m.ArrayParam slot)) depth = a.Param depth slot
received_in meaning depth = array_at (place_of meaning depth)

-- a reference to the one int that is a target
abbrev pub reference_to : Target → Value
reference_to (t.Variable place) = v.Reference (array_at place)
reference_to (t.Element array index) = v.Part array index

-- a label
abbrev pub cancel_of : Option Meaning → ℕ → Command
cancel_of (Some (m.Label there slot)) depth = d.Cancel (depth - there) slot
cancel_of _ depth = d.Cancel 0 0

abbrev pub function_of : Option Meaning → ℕ
function_of (Some (m.Function number)) = number
function_of _ = 0

abbrev pub channel_of : Option Meaning → ℕ
channel_of (Some (m.Channel number)) = number
channel_of _ = 0

abbrev pub file_of : Option Meaning → ℕ
file_of (Some (m.File number)) = number
file_of _ = 0

abbrev pub core_of : Option Meaning → ℕ
core_of (Some (m.Core number)) = number
core_of _ = 0
