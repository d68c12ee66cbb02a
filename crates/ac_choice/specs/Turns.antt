-- The ends of a list in turn: from one of them on, and round the end of the list.
use Rattle.std.specs.Prelude.{ℕ, ◌+◌, ◌-◌, nat_le, nat_lt, if◌then◌else◌}

-- how many of so many ends come before end e, where end `first` comes first
abbrev pub turn : ℕ → ℕ → ℕ → ℕ
turn count first e = if nat_le first e then e - first else (e + count) - first

-- the end that comes next
abbrev pub first_after : ℕ → ℕ → ℕ
first_after count e = if nat_lt (e + 1) count then e + 1 else 0
