-- Words of all links of a code serve for the ends of its channels and of the requests of its cores.
use Rattle.std.proofs.Common.{◌≡◌, ℕ, ◌<◌, List, [], All, sym, ap, ◌∙◌, subst, arith, length, slice_index_or}
use Rattle.std.proofs.lemmas.List.{length-append}
use Rattle.stack_code.specs.declared.parts.ChannelEnds.{ChannelEnds}
use Rattle.stack_code.specs.Parts.{Parts}
use Rattle.stack_code.specs.Valid.{HasLinks}
use Rattle.completion_word.specs.declared.words.Words.{Words}
use Rattle.ac_base.specs.declared.entry.Payload.{Payload}
use Rattle.channel_ends.specs.Receiving.{Receiving}
use Rattle.request_ends.specs.Replying.{Replying}
use Rattle.end_ports.specs.Held.{Held}
use Rattle.file_worker.specs.declared.worker.Worker.{Worker}
use Rattle.file_worker.specs.Ends.{core_ends}
use Rattle.file_worker.specs.Workers.{desk_of}
use Rattle.run_parties.specs.declared.run_party.RunParty.{RunParty}
use Rattle.settled_rounds.specs.declared.party.Way.{Way}
use Rattle.core_runner.specs.inner.Parties.{AreNewCores, AreWaysOf}
use Rattle.core_runner.proofs.NewParties.{HasBegun}
use Rattle.run_ends.specs.Dealt.{IsBetween, AreDealt}
use Rattle.run_ends.specs.Unused.{AreUnused, seats_of}
use Rattle.run_ends.specs.declared.words.AllSeats.{AllSeats}

module _ (code : Parts) (well : HasLinks code) (words : List Words) (seats : AllSeats) (unused : AreUnused code.capacities words (seats_of seats))
    (channels : length seats.channels.items ≡ length code.ends) where
  -- after the channels there is a link for each core
  pub requests_count : length seats.requests.items ≡ length code.entries
  requests_count =
      let all = length-append seats.channels.items seats.requests.items in let count = unused.seats_count in let each = well.each in
      omega (arith, all, count, each, channels)

  pub all_between : All (IsBetween (length seats.requests.items)) code.ends
  all_between l d low = let is = well.channels l d low in let n = requests_count in
      (subst (λ m. (slice_index_or code.ends l d).from < m) (sym n) is.0, subst (λ m. (slice_index_or code.ends l d).to < m) (sym n) is.1, is.2)

  -- what is dealt over the lists of a code is dealt over that code
  pub dealt_over : (ends : List ChannelEnds) (capacities : List ℕ) (ports : List Held) (asks : List (Receiving Payload)) (replies : List Replying) → ends ≡ code.ends
      → capacities ≡ code.capacities → AreDealt ends capacities (length seats.requests.items) ports asks replies
      → AreDealt code.ends code.capacities (length code.entries) ports asks replies
  dealt_over ends capacities ports asks replies e c dealt =
      subst (λ x. AreDealt x code.capacities (length code.entries) ports asks replies) e
      (subst (λ x. AreDealt ends x (length code.entries) ports asks replies) c
      (subst (λ n. AreDealt ends capacities n ports asks replies) requests_count dealt))

pub begins : {D : Type 0} (code : Parts) (bound : ℕ) (ports : List Held) (asks : List (Receiving Payload)) (replies : List Replying) (cores : List (RunParty D)) (ways all : List Way)
    (w : Worker D) (ends first : List ChannelEnds) (entries : List ℕ) → AreDealt code.ends code.capacities (length code.entries) ports asks replies
    → AreNewCores code bound ports cores → all ≡ ways → ends ≡ code.ends → entries ≡ code.entries → AreWaysOf ends (length entries) ways → first ≡ code.ends
    → (desk_of w).first ≡ length first → (desk_of w).ends ≡ core_ends asks replies → (desk_of w).entries ≡ [] → HasBegun code bound cores all w
begins code bound ports asks replies cores ways all w ends first entries dealt new we ee ne wo fe f e n = record {
  ports = ports;
  asks = asks;
  replies = replies;
  dealt = dealt;
  new = new;
  ways_are = subst (λ x. AreWaysOf code.ends (length code.entries) x) (sym we)
      (subst (λ x. AreWaysOf x (length code.entries) ways) ee (subst (λ x. AreWaysOf ends (length x) ways) ne wo));
  first = f ∙ ap (λ (x : List ChannelEnds). length x) fe;
  ends = e;
  entries = n;
}
