-- What the definitions say of two cores with one channel, of which the first sends 5 and the second receives it, and of a worker that has
-- nothing to do.
use Rattle.std.proofs.Common.{◌≡◌, ℕ, zero, suc, ◌<◌, ◌≤◌, List, Bool, [], ◌∷◌, Some, None, true, false, refl, sym, ap, subst, inl, inr, arith, codes, cond}
use Rattle.std.specs.Prelude.{pos, ◌^◌, ◌-◌, ◌==◌, slice_get}
use Rattle.std.specs.List.{AllByRecursion, filter}
use Rattle.std.proofs.lemmas.Bool.Decides.{nat_tests}
use Rattle.ac_links.specs.Link.{link_of}
use Rattle.std.proofs.lemmas.List.Elements.{All-from_recursion}
use Rattle.ac_base.specs.declared.entry.Answer.TheVariants.{Count}
use Rattle.ac_base.specs.declared.entry.Payload.TheVariants.{Int, Read}
use Rattle.ac_base.specs.declared.entry.Entry.{Entry}
use Rattle.ac_base.specs.Stamps.{stamp_after}
use Rattle.ac_base.specs.declared.entry.Event.{Event}
use Rattle.ac_base.specs.declared.entry.Event.TheVariants.{Offer, Know, Got, Pass, Did}
use Rattle.ac_base.specs.declared.ends.EndWord.{EndWord}
use Rattle.ac_base.specs.declared.ends.EndWord.TheVariants as word
use Rattle.ac_base.specs.declared.ends.Waiting.{Waiting}
use Rattle.ac_base.specs.declared.ends.Phase.TheVariants as phase
use Rattle.ac_base.specs.declared.ends.MachineEnd.{MachineEnd}
use Rattle.stack_code.specs.declared.instr.Instr.TheVariants as i
use Rattle.stack_code.specs.Parts.{Parts}
use Rattle.core_state.specs.Moves.{ComesTo}
use Rattle.core_state.proofs.Simulation.{one_end}
use Rattle.code_meaning.specs.Machine.{exec, first_flat, FlatEnd}
use Rattle.ac_links.specs.Views.{OwnerOffer, owner_offer, known_at}
use Rattle.ac_links.specs.Order.{of_party, is_of_link}
use Rattle.ac_links.specs.Payloads.Taking.{Message}
use Rattle.ac_links.specs.declared.payloads.Terms.{Terms}
use Rattle.ac_links.specs.Party.{EndRuns}
use Rattle.ac_links.specs.Party.LinkEnd.{Owns, Decides, Absent}
use Rattle.core_channels.specs.LinkViews.{LinkViews, IsOffer, IsLink, link_at, no_link, new_link, terms_at}
use Rattle.core_channels.specs.Takes.{taken_decision}
use Rattle.ac_history.specs.Quiet.{waits_on}
use Rattle.core_ports.specs.Ends.{has_room, awaits_reply}
use Rattle.core_ports.specs.declared.side.Side.{Side}
use Rattle.core_ports.specs.declared.side.Side.TheVariants.{Owner, Peer, Neither}
use Rattle.run_laws.specs.Hands.{hand_at, heard_at}
use Rattle.core_ports.specs.Sides.{side_of}
use Rattle.file_ops.specs.Agreement.{is_own, worker_ends}
use Rattle.run_laws.specs.Workers.{WorkerAgreesWith, WorkerRests, WorkerHasNoStamp, WorkerIsDone}
use Rattle.program_run.specs.Parties.{owner_at, owner_of, peer_at, peer_of}
use Rattle.run_laws.specs.Network.{terms_in, offers_in, decisions_in, request_in, ends_in, heard_in, AreLinksOf}
use Rattle.run_laws.specs.Cores.{CoreView, EndsAs, AgreesWith, IsAtRest, HasNoStamp, HasFullClock, IsDone, IsCoreOf, AreCoresOf, journals_of, ends_of}
use Rattle.run_laws.specs.GoingOn.{IsLater, LeavesNothing, HasStopped}

-- ---- the code

abbrev pub crossing : Parts
crossing = record {
  instrs = i.Step ∷ i.Push (pos 5) ∷ i.Send 0 ∷ i.Drop ∷ i.Push (pos 0) ∷ i.Ret ∷ i.Step ∷ i.Arr 0 0 1 ∷ i.Recv 0 ∷ i.Drop ∷ i.Push (pos 0) ∷ i.Ret ∷ [];
  functions = record { name = codes "f"; at = 0; params = []; words = 0 } ∷ record { name = codes "g"; at = 6; params = []; words = 1 } ∷ [];
  texts = [];
  entries = 0 ∷ 1 ∷ [];
  names = codes "a" ∷ codes "b" ∷ [];
  globals = 0;
  capacities = 1 ∷ 16 ∷ 16 ∷ [];
  ends = record { from = 0; to = 1 } ∷ [];
  starts = [];
  widths = 1 ∷ [];
}

pub who_sends : owner_of crossing.ends 0 ∷ owner_of crossing.ends 1 ∷ owner_of crossing.ends 2 ∷ owner_at 1 2 None ∷ [] ≡ 0 ∷ 0 ∷ 1 ∷ 1 ∷ []
who_sends = refl

-- requests are for the worker, which is party 2
pub who_receives : peer_of crossing.ends 2 0 ∷ peer_of crossing.ends 2 1 ∷ peer_of crossing.ends 2 2 ∷ peer_at 2 None ∷ [] ≡ 1 ∷ 2 ∷ 2 ∷ 2 ∷ []
who_receives = refl

-- ---- its links

abbrev pub five : OwnerOffer
five = owner_offer (Int (pos 5 ∷ [])) 1

abbrev pub asking : LinkViews
asking = new_link (record { capacity = 16; requests = true })

abbrev pub links_with : LinkViews → List LinkViews
links_with v = v ∷ asking ∷ asking ∷ []

abbrev pub fresh : LinkViews
fresh = new_link (record { capacity = 1; requests = false })

abbrev pub offered : LinkViews
offered = record fresh { offers = five ∷ [] }

abbrev pub crossed : LinkViews
crossed = record fresh { offers = known_at 2 five ∷ []; decisions = taken_decision (pos 5 ∷ []) 2 1 ∷ [] }

pub what_is_seen_of_them : (terms_in (links_with crossed) 1 ≡ record { capacity = 16; requests = true }) × (offers_in (links_with crossed) 0 ≡ known_at 2 five ∷ [])
    × (decisions_in (links_with crossed) 0 ≡ taken_decision (pos 5 ∷ []) 2 1 ∷ []) × (offers_in (links_with crossed) 7 ≡ [])
what_is_seen_of_them = (refl, refl, refl, refl)

pub what_each_core_has : (ends_in crossing.ends 0 (links_with crossed) 0 ≡ Owns (known_at 2 five ∷ [])) × (ends_in crossing.ends 1 (links_with crossed) 0 ≡ Decides (taken_decision
    (pos 5 ∷ []) 2 1 ∷ []))
    × (ends_in crossing.ends 1 (links_with crossed) 1 ≡ Absent) × (heard_in crossing.ends 0 (links_with crossed) 0 ≡ 2) × (heard_in crossing.ends 1 (links_with crossed) 0 ≡ 1)
what_each_core_has = (refl, refl, refl, refl, refl)

pub its_links : AreLinksOf crossing (links_with crossed)
its_links = record {
  count = refl;
  terms = terms;
  agree = All-from_recursion IsLink (links_with crossed) (
    record {
      agree = ((omega arith, (Message (pos 5 ∷ []), refl, refl, refl), refl, omega arith, tt), tt);
      each = All-from_recursion (IsOffer false) (known_at 2 five ∷ [])
          (record { carried = refl; later = tt }, tt);
    },
    (none, (none, tt)),
  );
} where
  none : IsLink asking
  none = record { agree = tt; each = All-from_recursion (IsOffer true) [] tt }

  terms : (l : ℕ) → l < 3 → terms_in (links_with crossed) l ≡ terms_at 1 (1 ∷ 16 ∷ 16 ∷ []) l
  terms zero h = refl
  terms (suc zero) h = refl
  terms (suc (suc zero)) h = refl
  terms (suc (suc (suc l))) h = absurd (omega arith)

pub not_without_requests : AreLinksOf crossing (crossed ∷ []) → ⊥
not_without_requests h = let e = h.count in omega (arith, e)

-- ---- its cores

not_this : (m n : ℕ) → m < n → (m == n) ≡ false
not_this m n h = grind (arith, nat_tests)

none_of : (l channels p : ℕ) (j : List Entry) → channels ≤ l → AllByRecursion (λ e. link_of e.event < channels) j → filter (is_of_link l) (of_party p j) ≡ []
none_of l channels p [] h a = refl
none_of l channels p (e ∷ es) h a =
    let lt = a.0 in
    let out : (link_of e.event == l) ≡ false = not_this (link_of e.event) l (omega arith) in
    rw out (none_of l channels p es h a.1)

abbrev pub entry : ℕ → Event → Entry
entry stamp event = record { stamp = stamp; turn = 1; event = event }

abbrev pub stop : EndWord → List Waiting → Bool → MachineEnd
stop w waiting idle = record {
  core = record { word = w; steps = 1; output = []; globals = []; waiting = waiting; idle = idle };
  instructions = 6;
}

abbrev pub sender : CoreView
sender = record { code = crossing; core = 0; bound = 9; journal = entry 1 (Offer 0 0 (Int (pos 5 ∷ []))) ∷ entry 3 (Know 0 0) ∷ []; end = stop word.Finished [] false }

abbrev pub receiver : CoreView
receiver = record { code = crossing; core = 1; bound = 9; journal = entry 2 (Got 0 0 (pos 5 ∷ [])) ∷ []; end = stop word.Finished [] false }

pub the_sender_ends : EndsAs sender sender.end
the_sender_ends = record { function = _; begins = record { entry = 0; entry_is = refl; function_is = refl }; comes = (40, refl) }

pub the_receiver_ends : EndsAs receiver receiver.end
the_receiver_ends = record { function = _; begins = record { entry = 1; entry_is = refl; function_is = refl }; comes = (40, refl) }

-- the core does not come to another end
pub not_with_an_instruction_more : EndsAs sender (record sender.end { instructions = 7 }) → ⊥
unfolding the_sender_ends
not_with_an_instruction_more r =
    let at : 0 ≡ r.begins.entry = cc in
    let here : slice_get crossing.functions 0 ≡ Some r.function = subst (λ n. slice_get crossing.functions n ≡ Some r.function) (sym at) r.begins.function_is in
    let same : record { name = codes "f"; at = 0; params = []; words = 0 } ≡ r.function = cc in
    let other = subst (λ f. ComesTo (exec crossing 9) (first_flat crossing 0 f sender.journal) (record { core = Some sender.end.core; count = 7 })) (sym same) r.comes in
    let e = one_end (exec crossing 9) _ _ _ (the_sender_ends.comes.0, sym the_sender_ends.comes.1) (other.0, sym other.1) in
    let n : 6 ≡ 7 = ap (λ (x : FlatEnd). x.count) e in omega (arith, n)

pub it_agrees : AgreesWith sender (links_with crossed)
it_agrees = record { core = omega arith; party = record { runs = runs; stamps = (refl, (refl, tt)) } } where
  runs : (l : ℕ) → EndRuns (terms_in (links_with crossed) l) (ends_in crossing.ends 0 (links_with crossed) l) (filter (is_of_link l) (of_party 0 sender.journal))
  runs zero = (refl, omega arith, (refl, omega arith, refl))
  runs (suc zero) = refl
  runs (suc (suc zero)) = refl
  runs (suc (suc (suc l))) = none_of (suc (suc (suc l))) 1 0 sender.journal (omega arith) (omega arith, (omega arith, tt))

pub so_does_the_receiver : AgreesWith receiver (links_with crossed)
so_does_the_receiver = record { core = omega arith; party = record { runs = runs; stamps = (refl, tt) } } where
  runs : (l : ℕ) → EndRuns (terms_in (links_with crossed) l) (ends_in crossing.ends 1 (links_with crossed) l) (filter (is_of_link l) (of_party 1 receiver.journal))
  runs zero = (refl, omega arith, refl)
  runs (suc zero) = refl
  runs (suc (suc zero)) = refl
  runs (suc (suc (suc l))) = none_of (suc (suc (suc l))) 1 1 receiver.journal (omega arith) (omega arith, tt)

-- not with links on which nothing happened
pub not_with_others : AgreesWith sender (links_with fresh) → ⊥
not_with_others h = let r = (h.party.runs 0).2.2 in cc

pub it_has_ended : IsAtRest sender (links_with crossed)
it_has_ended = record { comes = the_sender_ends; rests = record { stopped = refl; owns = λ idle. let no : false ≡ true = idle in cc; decides = λ idle. let no : false ≡ true = idle in cc } }

pub so_has_the_receiver : IsAtRest receiver (links_with crossed)
so_has_the_receiver = record { comes = the_receiver_ends; rests = record { stopped = refl; owns = λ idle. let no : false ≡ true = idle in cc; decides = λ idle. let no : false ≡ true = idle in cc } }

-- one that waits for what is there is not at rest
abbrev pub waiting : CoreView
waiting = record receiver { journal = []; end = stop word.Stalled (record { link = 0; phase = phase.Waiting } ∷ []) true }

pub not_where_a_message_is_there : IsAtRest waiting (links_with offered) → ⊥
not_where_a_message_is_there h = let n = h.rests.decides refl 0 (omega arith) refl refl in omega (arith, n)

-- its journal ends with the last stamp
abbrev late : CoreView
late = record sender { journal = entry (2 ^ 60 - 2) (Offer 0 0 (Int (pos 5 ∷ []))) ∷ entry (2 ^ 60 - 1) (Know 0 0) ∷ [] }

it_ends_late : EndsAs late sender.end
it_ends_late = record { function = _; begins = record { entry = 0; entry_is = refl; function_is = refl }; comes = (40, refl) }

pub no_stamp_is_left : HasNoStamp late (λ l. 0)
no_stamp_is_left = record { end = sender.end; comes = it_ends_late; link = 0; full = refl }

pub stamps_are_left : HasNoStamp sender (λ l. 0) → ⊥
stamps_are_left h = let e = h.full in cc

pub its_clock_is_full : HasFullClock late (links_with crossed)
its_clock_is_full = record { end = sender.end; comes = it_ends_late; link = 0; full = refl }

no_stamp_there : (side : Side) → stamp_after 0 (heard_at no_link side) ≡ None → ⊥
no_stamp_there Owner e = cc
no_stamp_there Peer e = cc
no_stamp_there Neither e = cc

not_yet : (l : ℕ) → stamp_after 0 (heard_in crossing.ends 1 (links_with offered) l) ≡ None → ⊥
not_yet zero e = cc
not_yet (suc zero) e = cc
not_yet (suc (suc zero)) e = cc
not_yet (suc (suc (suc l))) e = no_stamp_there (side_of crossing.ends 1 (suc (suc (suc l)))) e

pub it_is_done : IsDone sender (links_with crossed)
it_is_done = inl it_has_ended

pub one_that_can_receive_is_not : IsDone waiting (links_with offered) → ⊥
one_that_can_receive_is_not (inl r) = not_where_a_message_is_there r
one_that_can_receive_is_not (inr f) = not_yet f.link f.full

-- ---- all cores

pub the_first_of_its_cores : IsCoreOf crossing 9 0 sender
the_first_of_its_cores = record { code_is = refl; core_is = refl; bound_is = refl }

pub not_the_second : IsCoreOf crossing 9 1 sender → ⊥
not_the_second h = let e = h.core_is in omega (arith, e)

pub by_place : (P : ℕ → CoreView → Type 0) → P 0 sender → P 1 receiver → (k : ℕ) (c : CoreView) → slice_get (sender ∷ receiver ∷ []) k ≡ Some c → P k c
by_place P p q zero c is = let e : sender ≡ c = cc in subst (P 0) e p
by_place P p q (suc zero) c is = let e : receiver ≡ c = cc in subst (P 1) e q
by_place P p q (suc (suc k)) c is = cc

pub both_cores : AreCoresOf crossing 9 (sender ∷ receiver ∷ []) (links_with crossed)
both_cores = record {
  count = refl;
  each = by_place (IsCoreOf crossing 9) the_first_of_its_cores (record { code_is = refl; core_is = refl; bound_is = refl });
  agree = by_place (λ k c. AgreesWith c (links_with crossed)) it_agrees so_does_the_receiver;
  linked = its_links;
}

pub not_one_alone : AreCoresOf crossing 9 (sender ∷ []) (links_with crossed) → ⊥
not_one_alone h = let e = h.count in omega (arith, e)

pub their_journals_and_ends : (journals_of (sender ∷ receiver ∷ []) [] ≡ sender.journal ∷ receiver.journal ∷ [] ∷ []) × (ends_of (sender ∷ receiver ∷ []) ≡ sender.end.core ∷ receiver.end.core ∷ [])
their_journals_and_ends = (refl, refl)

-- ---- a core that goes on

pub it_has_one_entry_more : IsLater (record sender { journal = entry 1 (Offer 0 0 (Int (pos 5 ∷ []))) ∷ [] }) sender
it_has_one_entry_more = record { code = refl; core = refl; bound = refl; entries = entry 3 (Know 0 0) ∷ []; journal = refl }

pub it_has_not_fewer : IsLater sender (record sender { journal = [] }) → ⊥
it_has_not_fewer h = let e = h.journal in cc

nothing_at : (side : Side) → (hand_at no_link side).decision ∷ (hand_at no_link side).front ∷ (hand_at no_link side).slot ∷ [] ≡ false ∷ false ∷ false ∷ []
nothing_at Owner = refl
nothing_at Peer = refl
nothing_at Neither = refl

no_reply_at : (side : Side) → (hand_at no_link side).reply ≡ false
no_reply_at Owner = refl
no_reply_at Peer = refl
no_reply_at Neither = refl

pub nothing_is_left_without_a_message : LeavesNothing waiting (terms_in (links_with fresh)) (ends_in crossing.ends 1 (links_with fresh))
    (λ l. hand_at (link_at (links_with fresh) l) (side_of crossing.ends 1 l))
nothing_is_left_without_a_message = record { decision = decision; front = front; reply = reply; slot = slot } where
  decision : (l : ℕ) → side_of crossing.ends 1 l ≡ Owner → (hand_at (link_at (links_with fresh) l) (side_of crossing.ends 1 l)).decision ≡ false
  decision zero h = cc
  decision (suc zero) h = cc
  decision (suc (suc zero)) h = refl
  decision (suc (suc (suc l))) h = let e = nothing_at (side_of crossing.ends 1 (suc (suc (suc l)))) in cc

  front : (l : ℕ) → side_of crossing.ends 1 l ≡ Peer → waits_on l waiting.end.core ≡ true → (hand_at (link_at (links_with fresh) l) (side_of crossing.ends 1 l)).front ≡ false
  front zero h w = refl
  front (suc zero) h w = cc
  front (suc (suc zero)) h w = cc
  front (suc (suc (suc l))) h w = let e = nothing_at (side_of crossing.ends 1 (suc (suc (suc l)))) in cc

  reply : (l : ℕ) → side_of crossing.ends 1 l ≡ Owner → (terms_in (links_with fresh) l).requests ≡ true → awaits_reply (ends_in crossing.ends 1 (links_with fresh) l) ≡ true
      → (hand_at (link_at (links_with fresh) l) (side_of crossing.ends 1 l)).reply ≡ false
  reply zero h r w = cc
  reply (suc zero) h r w = cc
  reply (suc (suc zero)) h r w = refl
  reply (suc (suc (suc l))) h r w = no_reply_at (side_of crossing.ends 1 (suc (suc (suc l))))

  slot : (l : ℕ) → side_of crossing.ends 1 l ≡ Owner → waits_on l waiting.end.core ≡ true → has_room (terms_in (links_with fresh) l) (ends_in crossing.ends 1 (links_with fresh) l) ≡ true
      → (hand_at (link_at (links_with fresh) l) (side_of crossing.ends 1 l)).slot ≡ false
  slot zero h w r = cc
  slot (suc zero) h w r = cc
  slot (suc (suc zero)) h w r = cc
  slot (suc (suc (suc l))) h w r = let e = nothing_at (side_of crossing.ends 1 (suc (suc (suc l)))) in cc

pub a_message_is_left : LeavesNothing waiting (terms_in (links_with offered)) (ends_in crossing.ends 1 (links_with offered))
    (λ l. hand_at (link_at (links_with offered) l) (side_of crossing.ends 1 l)) → ⊥
a_message_is_left h = let e = h.front 0 refl refl in cc

pub the_sender_has_stopped : HasStopped sender (terms_in (links_with crossed)) (ends_in crossing.ends 0 (links_with crossed))
    (λ l. hand_at (link_at (links_with crossed) l) (side_of crossing.ends 0 l))
the_sender_has_stopped = record { comes = the_sender_ends; stopped = refl; leaves = λ idle. let no : false ≡ true = idle in cc }

pub one_that_is_cut_off_has_not : HasStopped (record sender { end = stop word.Stalled [] false }) (terms_in (links_with crossed)) (ends_in crossing.ends 0 (links_with crossed))
    (λ l. hand_at (link_at (links_with crossed) l) (side_of crossing.ends 0 l)) → ⊥
one_that_is_cut_off_has_not h = let e = h.stopped in cc

-- ---- the worker

nothing_runs : (t : Terms) (own : Bool) → EndRuns t (cond own (Decides []) Absent) []
nothing_runs t true = refl
nothing_runs t false = refl

-- it has a link for each core, and has done nothing there
pub it_agrees_too : WorkerAgreesWith crossing [] (links_with crossed)
it_agrees_too = record { party = record { runs = runs; stamps = tt }; turns = tt } where
  runs : (l : ℕ) → EndRuns (terms_in (links_with crossed) l) (worker_ends 1 2 (links_with crossed) l) []
  runs zero = refl
  runs (suc zero) = refl
  runs (suc (suc zero)) = refl
  runs (suc (suc (suc l))) = nothing_runs (terms_in (links_with crossed) (suc (suc (suc l)))) (is_own 1 2 (suc (suc (suc l))))

pub not_with_an_entry_of_a_core : WorkerAgreesWith crossing sender.journal (links_with crossed) → ⊥
not_with_an_entry_of_a_core h = let e = h.turns.0 in omega (arith, e)

pub nothing_is_asked : WorkerRests crossing (links_with crossed)
nothing_is_asked zero low high = absurd (omega arith)
nothing_is_asked (suc zero) low high = omega arith
nothing_is_asked (suc (suc zero)) low high = omega arith
nothing_is_asked (suc (suc (suc l))) low high = absurd (omega arith)

-- a read of two bytes that the first core has asked for
abbrev pub wanting : LinkViews
wanting = record asking { offers = owner_offer (Read 0 0 2) 1 ∷ [] }

abbrev pub asked : List LinkViews
asked = crossed ∷ wanting ∷ asking ∷ []

pub not_where_a_request_is_left : WorkerRests crossing asked → ⊥
not_where_a_request_is_left h = let n = h 1 (omega arith) (omega arith) in omega (arith, n)

pub what_was_asked : (request_in asked (Did 1 0 (Count 0)) ≡ Some (Read 0 0 2)) × (request_in asked (Did 1 1 (Count 0)) ≡ None) × (request_in asked (Pass 1 0) ≡ None)
what_was_asked = (refl, refl, refl)

-- its last entry has the last stamp but one, and the request came with it
pub its_stamps_are_used : WorkerHasNoStamp (entry (2 ^ 60 - 1) (Pass 2 0) ∷ []) asked
its_stamps_are_used = record { link = 1; full = refl }

pub it_has_stamps : WorkerHasNoStamp [] asked → ⊥
it_has_stamps h = by h.link h.full
  where
    by : (l : ℕ) → stamp_after 0 (heard_at (link_at asked l) Peer) ≡ None → ⊥
    by zero e = cc
    by (suc zero) e = cc
    by (suc (suc zero)) e = cc
    by (suc (suc (suc l))) e = cc

pub it_can_go_on : WorkerIsDone crossing [] asked → ⊥
it_can_go_on (inl r) = not_where_a_request_is_left r
it_can_go_on (inr f) = it_has_stamps f

pub it_can_go_no_further : WorkerIsDone crossing [] (links_with crossed)
it_can_go_no_further = inl nothing_is_asked
