-- Which offers of a journal are still those of operations, and which requests wait for their answers.
use Rattle.std.specs.Prelude.{◌≡◌, ℕ, ◌+◌, List, length, All, Bool, true, false, nat_eq, nat_le, nat_lt, ◌&&◌}
use Rattle.ac_base.specs.declared.entry.Event.{Event}
use Rattle.ac_base.specs.declared.entry.Event.TheVariants as event
use Rattle.ac_base.specs.declared.entry.Entry.{Entry}
use Rattle.cancel_scope.specs.declared.operation.Asked.{Asked}
use Rattle.cancel_scope.specs.declared.operation.Asked.TheVariants as asked
use Rattle.cancel_scope.specs.declared.operation.Operation.{Operation}
use Rattle.cancel_scope.specs.Outstanding.{is_begun, is_offered, is_outgoing, is_request, is_waiting}
use Rattle.core_state.specs.Requests.{file_limit, request_limit}
use Rattle.code_safety.specs.Fit.{one_if, total}

-- ---- events

-- the event offers under that number on that link
abbrev pub is_offer_of : ℕ → ℕ → Event → Bool
is_offer_of link number (event.Offer l n payload) = nat_eq l link && nat_eq n number
is_offer_of link number _ = false

-- by the event such an offer has ended: it is known, or was withdrawn
abbrev pub is_end_of : ℕ → ℕ → Event → Bool
is_end_of link number (event.Know l n) = nat_eq l link && nat_eq n number
is_end_of link number (event.Withdraw l n) = nat_eq l link && nat_eq n number
is_end_of link number _ = false

-- it tells that such an offer is taken
abbrev pub is_know_of : ℕ → ℕ → Event → Bool
is_know_of link number (event.Know l n) = nat_eq l link && nat_eq n number
is_know_of link number _ = false

-- it gives the answer to such a request
abbrev pub is_reply_of : ℕ → ℕ → Event → Bool
is_reply_of link number (event.Reply l n answer) = nat_eq l link && nat_eq n number
is_reply_of link number _ = false

-- ---- counts of entries and of operations

abbrev pub offers_of : ℕ → ℕ → List Entry → ℕ
offers_of link number past = total (λ (e : Entry). one_if (is_offer_of link number e.event)) past

abbrev pub ends_of : ℕ → ℕ → List Entry → ℕ
ends_of link number past = total (λ (e : Entry). one_if (is_end_of link number e.event)) past

abbrev pub knows_of : ℕ → ℕ → List Entry → ℕ
knows_of link number past = total (λ (e : Entry). one_if (is_know_of link number e.event)) past

abbrev pub replies_of : ℕ → ℕ → List Entry → ℕ
replies_of link number past = total (λ (e : Entry). one_if (is_reply_of link number e.event)) past

abbrev pub standing_of : ℕ → ℕ → List Operation → ℕ
standing_of link number os = total (λ (o : Operation). one_if (is_offered link number o)) os

abbrev pub begun_of : ℕ → ℕ → List Operation → ℕ
begun_of link number os = total (λ (o : Operation). one_if (is_begun link number o)) os

-- ---- where an operation stands

-- so many bytes from that place of a file on, of which there are sixteen, are within the limits
abbrev pub is_transfer : ℕ → ℕ → ℕ → Bool
is_transfer file from len = nat_lt file 16 && (nat_le len request_limit && nat_le (from + len) file_limit)

abbrev pub keeps_limits : Asked → Bool
keeps_limits (asked.Read file from into) = is_transfer file from into.len
keeps_limits (asked.Write file from bytes) = is_transfer file from (length bytes)
keeps_limits _ = true

-- an operation is a request exactly where it stands on the link of requests, and then it is within the limits
pub record IsPlaced (requests : ℕ) (o : Operation) : Type 0 where
  pub link : is_request o.asked ≡ nat_eq o.link requests
  pub limits : keeps_limits o.asked ≡ true

-- As many operations stand on a link under a number as the journal has offers there that have not ended, and as many have begun on the link
-- of requests as were taken there and have no answer. An operation that receives is not offered.
pub record Tracks (requests : ℕ) (past : List Entry) (os : List Operation) : Type 0 where
  pub each : (link number : ℕ) → standing_of link number os + ends_of link number past ≡ offers_of link number past
  pub begun : (number : ℕ) → begun_of requests number os + replies_of requests number past ≡ knows_of requests number past
  pub receives : All (λ (o : Operation). is_outgoing o.asked ≡ false → is_waiting o.progress ≡ true) os
  pub placed : All (IsPlaced requests) os
