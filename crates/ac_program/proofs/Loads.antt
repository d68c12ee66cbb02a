-- The text of the file server is within the limit of sources.
-- It has at most 2,131 bytes, which `ac_file_server` proves, so no text is computed here.
use Rattle.std.proofs.Common.{ℕ, ◌≤◌, arith, length}
use Rattle.ac_file_server.specs.ServerText.{load_text}
use Rattle.ac_file_server.proofs.Length.{the_text_is_short}
use Rattle.program_reading.specs.Reading.{IsShort}

pub far_below : (count : ℕ) → count ≤ 2131 → count ≤ 1048576
far_below count le = omega (arith, le)

pub is_short : (turns : ℕ) → turns ≤ 500 → IsShort (load_text turns)
is_short turns few = far_below (length (load_text turns)) (the_text_is_short turns few)
