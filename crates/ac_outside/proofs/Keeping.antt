-- The front that a sink keeps: what it had and as much of a piece as there is room for are together the first bytes of both. The piece is cut
-- at the room that is left, and a list that is cut at the sum of two lengths is cut at one after the other.
use Rattle.std.proofs.Common.{◌≡◌, ◌+◌, ◌-◌, ◌≤◌, ℕ, min, List, ◌++◌, length, take, sym, subst, arith}
use Rattle.std.proofs.lemmas.List.{take_min}
use Rattle.std.proofs.Math.Seq.{take-append-add}

-- a list and as much of a piece as there is room for
pub kept_front : (kept count : ℕ) (old piece : List ℕ) → length old ≤ kept → count ≡ min (length piece) (kept - length old) → old ++ take count piece ≡ take kept (old ++ piece)
kept_front kept count old piece small e =
    let room : length old + (kept - length old) ≡ kept = omega arith in
    let swapped : count ≡ min (kept - length old) (length piece) = omega arith in
    rw (swapped, take_min (kept - length old) piece) (sym (subst (λ k. take k (old ++ piece) ≡ old ++ take (kept - length old) piece) room (take-append-add old piece (kept - length old))))
