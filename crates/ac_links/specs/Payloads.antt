-- What offers carry, what is taken, and the answers to requests.
use Rattle.std.specs.Prelude.{ℕ, length, Option, Bool, true, ◌==◌, Some, None, false}
use Rattle.std.specs.Prelude.{◌&&◌, nat_lt, if◌then◌else◌, ◌+◌, bytes_eq, nat_le, ℤ, List}
use Rattle.ac_base.specs.Messages.{ints_eq}
use Rattle.ac_base.specs.declared.entry.Payload.{Payload}
use Rattle.ac_base.specs.declared.entry.Answer.{Answer}
use Rattle.ac_base.specs.declared.entry.Payload.TheVariants.{Int, Read, Write}
use Rattle.ac_base.specs.declared.entry.Answer.TheVariants.{Bytes, Count, Fault}

abbrev pub is_message : Payload → Bool
is_message (Int v) = true
is_message (Read f a n) = false
is_message (Write f a b) = false

-- a read or a write that a program may ask for
abbrev pub is_request : Payload → Bool
is_request (Int v) = false
is_request (Read f a n) = nat_lt f 16 && nat_le n 256 && nat_le (a + n) 1048576
is_request (Write f a b) = nat_lt f 16 && nat_le (length b) 256 && nat_le (a + length b) 1048576

-- a channel carries messages, and the other links requests
abbrev pub is_payload : Bool → Payload → Bool
is_payload requests payload = if requests then is_request payload else is_message payload

-- what the peer took: a message of a channel, or a request that it has done, with the answer
pub data Taking : Type 0 where
  Message : (value : List ℤ) → Taking
  Done : (answer : Answer) → Taking

-- an answer to a read of this length
abbrev pub fits_read : ℕ → Answer → Bool
fits_read n (Bytes bs) = nat_le (length bs) n
fits_read n (Count c) = false
fits_read n (Fault j) = j == 0

-- an answer to a write of this length
abbrev pub fits_write : ℕ → Answer → Bool
fits_write n (Bytes bs) = false
fits_write n (Count c) = c == n
fits_write n (Fault j) = nat_le j n

abbrev pub answer_fits : Answer → Payload → Bool
answer_fits answer (Int v) = false
answer_fits answer (Read f a n) = fits_read n answer
answer_fits answer (Write f a b) = fits_write (length b) answer

abbrev pub message_fits : List ℤ → Payload → Bool
message_fits value (Int v) = ints_eq v value
message_fits value (Read f a n) = false
message_fits value (Write f a b) = false

-- the offer of this payload may be taken so
abbrev pub carries : Taking → Payload → Bool
carries (Message value) payload = message_fits value payload
carries (Done answer) payload = answer_fits answer payload

abbrev pub answer_of : Taking → Option Answer
answer_of (Message value) = None
answer_of (Done answer) = Some answer

abbrev pub answer_eq : Answer → Answer → Bool
answer_eq (Bytes a) (Bytes b) = bytes_eq a b
answer_eq (Bytes a) (Count n) = false
answer_eq (Bytes a) (Fault n) = false
answer_eq (Count m) (Bytes b) = false
answer_eq (Count m) (Count n) = m == n
answer_eq (Count m) (Fault n) = false
answer_eq (Fault m) (Bytes b) = false
answer_eq (Fault m) (Count n) = false
answer_eq (Fault m) (Fault n) = m == n

abbrev pub has_answer : Answer → Option Answer → Bool
has_answer answer None = false
has_answer answer (Some it) = answer_eq answer it
