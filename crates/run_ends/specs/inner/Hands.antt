-- What the cores were dealt so far.
use Rattle.std.specs.Prelude.{◌≡◌, ℕ, suc, ◌++◌, List, [], ◌∷◌, Option, Some, None, false, ◌==◌, if◌then◌else◌, map, slice_get}
use Rattle.stack_code.specs.declared.parts.ChannelEnds.{ChannelEnds}
use Rattle.request_ends.specs.Asking.{Asking}
use Rattle.end_ports.specs.Held.{SendingAt, ReceivingAt, Held}

-- the ends of one core
pub record Handed : Type 0 where
  pub sends : List SendingAt
  pub recvs : List ReceivingAt
  pub ask : Asking

abbrev pub sends_in : Option Handed → List SendingAt
sends_in None = []
sends_in (Some h) = h.sends

abbrev pub recvs_in : Option Handed → List ReceivingAt
recvs_in None = []
recvs_in (Some h) = h.recvs

-- those of core k
abbrev pub sends_at : List Handed → ℕ → List SendingAt
sends_at hands k = sends_in (slice_get hands k)

abbrev pub recvs_at : List Handed → ℕ → List ReceivingAt
recvs_at hands k = recvs_in (slice_get hands k)

abbrev pub asks_of : List Handed → List Asking
asks_of hands = map (λ (h : Handed). h.ask) hands

-- the two ends of a channel are given to its two cores
pub record Gives (old : List Handed) (ends : ChannelEnds) (send : SendingAt) (recv : ReceivingAt) (new : List Handed) : Type 0 where
  pub sends : (k : ℕ) → sends_at new k ≡ (if ends.from == k then sends_at old k ++ send ∷ [] else sends_at old k)
  pub recvs : (k : ℕ) → recvs_at new k ≡ (if ends.to == k then recvs_at old k ++ recv ∷ [] else recvs_at old k)
  pub asks : asks_of new ≡ asks_of old

-- the ports over the ends of one core
abbrev pub port_of : ℕ → Handed → Held
port_of asked h = record {
  sends = h.sends;
  recvs = h.recvs;
  ask = record { link = asked; end = h.ask; polls = 0; tries = 0; settled = false };
  full = false;
}

-- and of all, where the requests of the first have this link, and those of the others the next ones
abbrev pub ports_from : ℕ → List Handed → List Held
ports_from asked [] = []
ports_from asked (h ∷ hs) = port_of asked h ∷ ports_from (suc asked) hs
