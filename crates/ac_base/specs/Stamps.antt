-- Stamps are logical times (Lamport 1978): an entry's is above that of its party's last entry and above that of the one that it answers.
use Rattle.std.specs.Prelude.{ℕ, suc, max, ◌^◌, Option, Some, None, nat_lt, if◌then◌else◌}

-- the stamp after a party's last one, of an entry that answers one of stamp `seen`; each is 0 where there is none
abbrev pub next_stamp : ℕ → ℕ → ℕ
next_stamp last seen = suc (max last seen)

abbrev pub within : ℕ → Option ℕ
within stamp = if nat_lt stamp (2 ^ 60) then Some stamp else None

-- the greatest stamp is 2 ^ 60 - 1, and no entry comes after it
abbrev pub stamp_after : ℕ → ℕ → Option ℕ
stamp_after last seen = within (next_stamp last seen)
