-- After the run the ends that the parties hold are settled ends of the code's links, and the worker's journal agrees with its own.
use Rattle.std.proofs.Common.{◌≡◌, ◌⊎◌, inl, inr, ℕ, ◌+◌, ◌-◌, ◌<◌, ◌≤◌, List, [], ◌∷◌, ◌++◌, Option, Some, None, Bool, true, false, cond, refl, sym, ap, ◌∙◌, subst, arith, length}
use Rattle.std.specs.Prelude.{slice_get, nat_le}
use Rattle.std.specs.List.{AllByRecursion}
use Rattle.std.proofs.lemmas.Bool.{cases_lt}
use Rattle.std.proofs.lemmas.Bool.Decides.{nat_tests}
use Rattle.std.proofs.lemmas.Option.{slice_get_past}
use Rattle.ac_base.specs.declared.entry.Entry.{Entry}
use Rattle.ac_links.specs.declared.payloads.Terms.{Terms}
use Rattle.ac_links.specs.Order.{of_party}
use Rattle.ac_links.specs.Party.{LinkEnd, PartyAgrees}
use Rattle.ac_links.specs.Party.LinkEnd.{Absent}
use Rattle.ac_outside.specs.Disks.{DiskTold}
use Rattle.stack_code.specs.Parts.{Parts}
use Rattle.stack_code.specs.Valid.{HasLinks}
use Rattle.core_channels.specs.LinkViews.{AreViews, terms_at}
use Rattle.core_ports.specs.PortsTold.{PortsTold}
use Rattle.end_ports.specs.OnLinks.{OnLink, on_link, not_held}
use Rattle.file_ops.specs.Agreement.{is_own}
use Rattle.file_worker.specs.declared.worker.Worker.{Worker}
use Rattle.file_worker.specs.Ends.{CoreEnds, AtDesk, end_or_absent, worker_ends}
use Rattle.file_worker.specs.Workers.{desk_of}
use Rattle.program_run.specs.declared.ended.Ended.{Ended}
use Rattle.program_run.specs.Parties.{owner_of, peer_of}
use Rattle.run_parties.specs.declared.run_party.RunParty.{RunParty}
use Rattle.run_parties.specs.declared.run_party.RunParty.TheVariants.{Disk}
use Rattle.run_parties.specs.Seats.{or_not_held, on_desk, popped_by, popped_at}
use Rattle.settled_run.specs.Ends.{owner_end, peer_end}
use Rattle.settled_run.specs.Settled.{IsSettledLink, AreSettledEnds}
use Rattle.settled_run.specs.Parties.{WorkerHolds}
use Rattle.settled_rounds.specs.declared.party.Way.{Way}
use Rattle.core_runner.specs.inner.Runs.{HaveRun}
use Rattle.core_runner.proofs.AfterRun.{its_ports, ports_are, not_its, worker_goes_on, IsSettledLinkAt, link_settled}
use Rattle.core_runner.proofs.NewParties.{HasBegun, desk_count}
use Rattle.core_runner.proofs.Ways.{is_low, is_high}

-- ---- what a worker has of each link

or_none : (o : Option CoreEnds) → end_or_absent o ≡ (or_not_held o).end
or_none None = refl
or_none (Some e) = refl

-- its end is the same to the law on links and to the run
pub desk_end : (v : AtDesk) (l : ℕ) → worker_ends v.first v.ends l ≡ (on_desk v l).end
desk_end v l = by (nat_le v.first l)
  where
    by : (t : Bool) → cond t (end_or_absent (slice_get v.ends (l - v.first))) Absent ≡ (cond t (or_not_held (slice_get v.ends (l - v.first))) not_held).end
    by true = or_none (slice_get v.ends (l - v.first))
    by false = refl

not_own : (m n l : ℕ) → is_own m n l ≡ false → (l < m) ⊎ ((m ≤ l) × (m + n ≤ l))
not_own m n l h = elim (cases_lt l m) [
  | inl low ↦ inl low
  | inr high ↦ elim (cases_lt l (m + n)) [
    | inl within ↦ absurd (let no : is_own m n l ≡ true = own m n l high within in let e : true ≡ false = sym no ∙ h in cc)
    | inr past ↦ inr (high, past)
  ]
]
  where
    own : (m n l : ℕ) → m ≤ l → l < m + n → is_own m n l ≡ true
    own m n l low within = grind (arith, nat_tests)

-- it has nothing of a link that is not one of its cores'
pub desk_none : (v : AtDesk) (m n l : ℕ) → v.first ≡ m → length v.ends ≡ n → is_own m n l ≡ false → (on_desk v l ≡ not_held) × (popped_at v l ≡ [])
desk_none v m n l first count h = elim (not_own m n l h) [
  | inl low ↦ (let t = is_low l v.first (omega (arith, low, first)) in
      (ap (λ b. cond b (or_not_held (slice_get v.ends (l - v.first))) not_held) t, ap (λ b. cond b (popped_by (slice_get v.ends (l - v.first))) []) t))
  | inr high ↦ (let p = high.0 in let q = high.1 in
      let t = is_high l v.first (omega (arith, p, first)) in
      let none = slice_get_past v.ends (l - v.first) (omega (arith, p, q, first, count)) in (
        ap (λ b. cond b (or_not_held (slice_get v.ends (l - v.first))) not_held) t ∙ ap or_not_held none,
        ap (λ b. cond b (popped_by (slice_get v.ends (l - v.first))) []) t ∙ ap popped_by none,
      ))
]

-- the entries of a party are those of its journal
pub all_turns : (p : ℕ) (es : List Entry) → AllByRecursion (λ e. e.entry.turn ≡ 0) (of_party p es) → AllByRecursion (λ (e : Entry). e.turn ≡ 0) es
all_turns p [] h = tt
all_turns p (e ∷ es) h = (h.0, all_turns p es h.1)

module _ {D : Type 0} (told : D → DiskTold) (code : Parts) (well : HasLinks code) (bound : ℕ) (files : List (List ℕ)) (cores : List (RunParty D)) (ways : List Way)
    (w : Worker D) (b : HasBegun code bound cores ways w) (left : DiskTold) (ended : Ended) (ran : HaveRun told ways bound files (cores ++ Disk w ∷ []) left ended) where
  abbrev pub desk : AtDesk
  desk = desk_of ran.worker

  abbrev pub worker : ℕ → LinkEnd
  worker = worker_ends desk.first desk.ends

  abbrev pub ports : ℕ → PortsTold
  ports = its_ports told code well bound files cores ways w b left ended ran

  abbrev LinkNow : ℕ → Type 0
  LinkNow = IsSettledLinkAt told code well bound files cores ways w b left ended ran

  pub link_now : (l : ℕ) → l < length code.capacities → LinkNow l
  link_now = link_settled told code well bound files cores ways w b left ended ran

  pub desk_first : desk.first ≡ length code.ends
  desk_first = (worker_goes_on told code well bound files cores ways w b left ended ran).first ∙ b.first

  pub desk_long : length desk.ends ≡ length code.entries
  desk_long = (worker_goes_on told code well bound files cores ways w b left ended ran).count ∙ desk_count code well bound cores ways w b

  -- ---- the two ends of a link

  pub owner_is : (l : ℕ) (s : LinkNow l) → owner_end code ports l ≡ (on_link s.owner.ports l).end
  owner_is l s = ap (λ (p : PortsTold). p.ends l) (ports_are told code well bound files cores ways w b left ended ran (owner_of code.ends l) s.owner s.owner_at)

  pub worker_is : (l : ℕ) → worker l ≡ (on_desk desk l).end
  worker_is l = desk_end desk l

  pub peer_is : (l : ℕ) (s : LinkNow l) → peer_end code ports worker l ≡ s.peer.end
  peer_is l s = elim (cases_lt l (length code.ends)) [
    | inl low ↦ (let (t, at, is) = s.by_core low in
        ap (λ b. cond b (worker l) ((ports (peer_of code.ends (length code.entries) l)).ends l)) (is_low l (length code.ends) low)
        ∙ ap (λ (p : PortsTold). p.ends l) (ports_are told code well bound files cores ways w b left ended ran (peer_of code.ends (length code.entries) l) t at)
        ∙ ap (λ (x : OnLink). x.end) (sym is))
    | inr high ↦ ap (λ b. cond b (worker l) ((ports (peer_of code.ends (length code.entries) l)).ends l)) (is_high l (length code.ends) high)
        ∙ worker_is l ∙ ap (λ (x : OnLink). x.end) (sym (s.by_worker high).0)
  ]

  link_is : (l : ℕ) (s : LinkNow l) → IsSettledLink (terms_at (length code.ends) code.capacities l) (owner_end code ports l) (peer_end code ports worker l)
  link_is l s = record {
    offers = s.settled.known.offers;
    decisions = s.settled.known.decisions;
    owns = owner_is l s ∙ s.settled.known.owns;
    decides = peer_is l s ∙ s.settled.known.decides;
    views = subst (λ t. AreViews t s.settled.known.offers s.settled.known.decisions) s.kind s.settled.known.views;
  }

  pub settled_ends : AreSettledEnds code ports worker
  settled_ends = record {
    links = λ l h. link_is l (link_now l h);
    cores = λ k l low side. (not_its told code well bound files cores ways w b left ended ran k l low side).0;
    others = λ l h. worker_is l ∙ ap (λ (x : OnLink). x.end) (desk_none desk (length code.ends) (length code.entries) l desk_first desk_long h).0;
  }

  -- ---- the worker

  abbrev pub terms : ℕ → Terms
  terms l = terms_at (length code.ends) code.capacities l

  pub worker_holds : WorkerHolds code terms worker desk.entries
  worker_holds = record {
    requests = λ l low high. is_high l (length code.ends) low;
    agrees = subst (λ n. PartyAgrees terms n worker desk.entries) desk_long
        (ran.agrees.journal terms (λ l low. is_high l (length code.ends) (let f = desk_first in omega (arith, f, low))));
    turns = all_turns (length desk.ends) desk.entries ran.agrees.turns;
  }
