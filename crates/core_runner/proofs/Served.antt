-- After the run the worker has taken the first requests of each core, and its disk has served what its journal says was done: as the run began
-- nothing was done, and each call of the worker kept it so.
use Rattle.std.proofs.Common.{◌≡◌, ℕ, ◌+◌, ◌-◌, List, [], ◌∷◌, ◌++◌, Option, Some, None, cond, refl, sym, ap, ◌∙◌, subst, arith, length, map}
use Rattle.std.specs.Prelude.{slice_get, IfSome}
use mathlib.Core.List.{IsPrefix}
use Rattle.ac_base.specs.declared.entry.Event.{Event}
use Rattle.ac_base.specs.declared.entry.Event.TheVariants.{Offer, Withdraw, Know, Room, Got, Pass, Did, Reply}
use Rattle.ac_base.specs.declared.entry.Payload.{Payload}
use Rattle.ac_links.specs.Order.{of_party}
use Rattle.ac_history.specs.Files.{padded, contents, IsServed, deeds_by}
use Rattle.ac_outside.specs.Disks.{Held, DiskTold}
use Rattle.stack_code.specs.Parts.{Parts}
use Rattle.stack_code.specs.Valid.{HasLinks}
use Rattle.file_ops.specs.Agreement.{files_of}
use Rattle.file_ops.specs.Asked.{texts}
use Rattle.file_worker.specs.declared.worker.Worker.{Worker}
use Rattle.file_worker.specs.Agreement.{TellsTaken, IsCounted, DiskServes}
use Rattle.file_worker.specs.Ends.{CoreEnds, AtDesk}
use Rattle.file_worker.specs.Rounds.{GoesOn}
use Rattle.file_worker.specs.Workers.{seen_of, told_of}
use Rattle.file_worker.proofs.Going.{starts_counted, starts_served}
use Rattle.program_run.specs.declared.ended.Ended.{Ended}
use Rattle.run_parties.specs.declared.run_party.RunParty.{RunParty}
use Rattle.run_parties.specs.declared.run_party.RunParty.TheVariants.{Disk}
use Rattle.run_parties.specs.Seats.{popped_by, popped_at}
use Rattle.settled_run.specs.Disk.{TellsPopped, payloads_at, ArePopped, LeavesHeld, HasServed}
use Rattle.settled_run.proofs.Linked.{own_low, own_high}
use Rattle.settled_rounds.specs.declared.party.Way.{Way}
use Rattle.core_runner.specs.inner.Runs.{HaveRun}
use Rattle.core_runner.proofs.AfterRun.{worker_goes_on}
use Rattle.core_runner.proofs.NewParties.{HasBegun}
use Rattle.core_runner.proofs.Settled.{desk, worker, ports, terms, link_now, owner_is, desk_first, desk_long, desk_none, worker_holds}
use Rattle.core_runner.proofs.Ways.{is_high}

-- ---- who tells what was taken

-- the requests that a worker has taken tell of themselves
abbrev request_taken : (ℕ → List Payload) → Event → Option Payload
request_taken popped (Offer l n payload) = None
request_taken popped (Withdraw l n) = None
request_taken popped (Know l n) = None
request_taken popped (Room l n) = None
request_taken popped (Got l n value) = None
request_taken popped (Pass l n) = None
request_taken popped (Did l n answer) = slice_get (popped l) n
request_taken popped (Reply l n answer) = None

they_tell : (popped : ℕ → List Payload) → TellsPopped (request_taken popped) popped
they_tell popped l n answer payload at = at

popped_here : (v : AtDesk) (c : ℕ) (e : CoreEnds) → slice_get v.ends c ≡ Some e → popped_at v (v.first + c) ≡ e.ask.popped
popped_here v c e at =
    let n : v.first + c - v.first ≡ c = omega arith in
    ap (λ b. cond b (popped_by (slice_get v.ends (v.first + c - v.first))) []) (is_high (v.first + c) v.first (omega arith))
    ∙ ap (λ k. popped_by (slice_get v.ends k)) n ∙ ap popped_by at

-- who tells of all that was taken tells it to the worker
tells_taken : (got : Event → Option Payload) (v : AtDesk) → TellsPopped got (popped_at v) → TellsTaken got v
tells_taken got v tells c n answer e x at there =
    tells (v.first + c) n answer x (ap (λ (xs : List Payload). slice_get xs n) (popped_here v c e at) ∙ there)

-- ---- the disk

module _ {D : Type 0} (told : D → DiskTold) (code : Parts) (well : HasLinks code) (bound : ℕ) (files : List (List ℕ)) (cores : List (RunParty D)) (ways : List Way)
    (w : Worker D) (b : HasBegun code bound cores ways w) (left : DiskTold) (ended : Ended) (ran : HaveRun told ways bound files (cores ++ Disk w ∷ []) left ended) where
  abbrev its_desk : AtDesk
  its_desk = desk told code well bound files cores ways w b left ended ran

  abbrev many : ℕ
  many = length code.entries

  abbrev pub popped : ℕ → List Payload
  popped l = popped_at its_desk l

  pub are_popped : ArePopped code (ports told code well bound files cores ways w b left ended ran) popped
  are_popped = record {
    offered = λ l own.
        let count = well.each in
        let low = own_low (length code.ends) many l own in
        let high = own_high (length code.ends) many l own in
        let s = link_now told code well bound files cores ways w b left ended ran l (omega (arith, high, count)) in
        subst (λ x. IsPrefix (popped l) (payloads_at x)) (sym (owner_is told code well bound files cores ways w b left ended ran l s)) (s.by_worker low).1;
    none = λ l other. (desk_none its_desk (length code.ends) many l (desk_first told code well bound files cores ways w b left ended ran)
        (desk_long told code well bound files cores ways w b left ended ran) other).1;
  }

  goes : GoesOn (seen_of told w) (seen_of told ran.worker)
  goes = worker_goes_on told code well bound files cores ways w b left ended ran

  counted : (got : Event → Option Payload) → TellsPopped got popped → IsCounted many got (told_of told w) (seen_of told ran.worker)
  counted got tells = goes.counted many got (told_of told w) (tells_taken got its_desk tells) (starts_counted many got (seen_of told w) b.entries)

  module _ (held : Held) (tells_held : (told_of told w).held ≡ Some held) (as_bound : (told_of told w).bound ≡ length held.files) (same : texts held ≡ files) where
    served_so : (got : Event → Option Payload) → TellsPopped got popped
        → (after : Held) × DiskServes many got (files_of held) (seen_of told ran.worker) after × (after.found ≡ held.found)
        × (map (λ f. f.name) after.files ≡ map (λ f. f.name) held.files)
    served_so got tells = goes.served many got (files_of held) held (tells_taken got its_desk tells) (starts_served many got (seen_of told w) held b.entries tells_held as_bound)

    same_start : files_of held ≡ padded files
    same_start = ap padded same

    same_held : (x y : Held) → Some x ≡ Some y → x ≡ y
    same_held x y e = cc

    abbrev Leaves : Type 0
    Leaves = (now : Held) × ((told_of told ran.worker).held ≡ Some now)
        × LeavesHeld (terms told code well bound files cores ways w b left ended ran) many (worker told code well bound files cores ways w b left ended ran) its_desk.entries popped files held now

    held_left : Leaves
    held_left =
        let (now, serves, found, names) = served_so (request_taken popped) (they_tell popped) in
        let count = serves.count in
        let stayed = goes.disk.bound in (
          now,
          serves.tells,
          record {
            served = λ got tells.
                let (other, does, f, n) = served_so got tells in
                let is : other ≡ now = same_held other now (sym does.tells ∙ serves.tells) in
                record {
                  journal = (worker_holds told code well bound files cores ways w b left ended ran).agrees;
                  served = subst (λ (start : List (List ℕ)). IsServed start (deeds_by got (of_party many its_desk.entries))) same_start does.served;
                  held = sym (ap files_of is) ∙ does.files ∙ ap (λ (start : List (List ℕ)). contents start (deeds_by got (of_party many its_desk.entries))) same_start;
                };
            as_many = sym count ∙ stayed ∙ as_bound;
            paths = names;
            others = found;
          },
        )

  pub has_served : IfSome (told_of told w).held (λ h. (told_of told w).bound ≡ length h.files) → IfSome (told_of told w).held (λ h. texts h ≡ files)
      → HasServed (terms told code well bound files cores ways w b left ended ran) many (worker told code well bound files cores ways w b left ended ran) its_desk.entries popped files
      (told_of told w) (told_of told ran.worker)
  has_served as_bound same = record { counted = λ got tells. (counted got tells).counted; held = by (told_of told w).held refl as_bound same }
    where
      by : (q : Option Held) → (told_of told w).held ≡ q → IfSome q (λ h. (told_of told w).bound ≡ length h.files) → IfSome q (λ h. texts h ≡ files)
          → IfSome q (λ h. (now : Held) × ((told_of told ran.worker).held ≡ Some now)
          × LeavesHeld (terms told code well bound files cores ways w b left ended ran) many (worker told code well bound files cores ways w b left ended ran) its_desk.entries popped files h now)
      by None e n s = tt
      by (Some h) e n s = held_left h e n s
