-- A disk that has served the journal of a worker, whose requests are those that were offered, is left as the history says.
use Rattle.std.proofs.Common.{◌≡◌, ℕ, zero, suc, List, [], ◌∷◌, Option, Some, None, Bool, true, false, refl, sym, ap, ◌∙◌, subst, length, map}
use Rattle.std.specs.Prelude.{IfSome, slice_get}
use Rattle.std.proofs.lemmas.List.{length-map}
use Rattle.ac_base.specs.declared.entry.Entry.{Entry}
use Rattle.ac_base.specs.declared.entry.Event.{Event}
use Rattle.ac_base.specs.declared.entry.Payload.{Payload}
use Rattle.ac_commands.specs.declared.program.Core.{Core}
use Rattle.ac_commands.specs.declared.program.Resolved.{Resolved}
use Rattle.ac_translation.specs.Translation.{code_of}
use Rattle.stack_code.specs.Parts.{Parts}
use Rattle.stack_code.specs.Valid.{HasLinks}
use Rattle.ac_links.specs.declared.payloads.Terms.{Terms}
use Rattle.ac_links.specs.Noted.{offer_payload}
use Rattle.ac_links.specs.Order.{of_party}
use Rattle.ac_links.specs.Party.{LinkEnd}
use Rattle.ac_links.specs.Views.{OwnerOffer}
use Rattle.ac_history.specs.Files.{padded, contents, IsServed, deeds, deeds_by}
use Rattle.ac_history.specs.History.{start}
use Rattle.ac_history.specs.Merged.{merged}
use Rattle.ac_outside.specs.Disks.{Held, DiskTold}
use Rattle.core_channels.specs.LinkViews.{LinkViews}
use Rattle.core_ports.specs.PortsTold.{PortsTold}
use Rattle.file_ops.specs.Agreement.{is_own}
use Rattle.file_ops.specs.Counting.{AreCounted}
use Rattle.program_run.specs.declared.ended.Ended.{Ended}
use Rattle.program_run.specs.DiskLeft.{deeds_of, LeavesFiles, LeavesDisk}
use Rattle.program_run.specs.Run.{history_of}
use Rattle.run_laws.specs.Cores.{CoreView, journals_of}
use Rattle.run_laws.specs.Laws.{IsRunOfCores}
use Rattle.run_laws.specs.Network.{offers_in, request_in}
use Rattle.run_laws.proofs.Together.{did}
use Rattle.settled_run.specs.Ends.{owner_end}
use Rattle.settled_run.specs.Settled.{AreSettledEnds}
use Rattle.settled_run.specs.Parties.{AreCoresWith, WorkerHolds}
use Rattle.settled_run.specs.Disk.{TellsPopped, payloads_at, ArePopped, LeavesHeld, HasServed}
use Rattle.settled_run.proofs.Agreed.{are_cores, worker_agrees}
use Rattle.settled_run.proofs.Linked.{links, owner_has, own_within}
use Rattle.settled_run.proofs.Serving.{in_front}

-- ---- lists

its_payload : (os : List OwnerOffer) (n : ℕ) → slice_get (map (λ (o : OwnerOffer). o.payload) os) n ≡ offer_payload (slice_get os n)
its_payload [] n = refl
its_payload (o ∷ os) zero = refl
its_payload (o ∷ os) (suc n) = its_payload os n

module _ (code : Parts) (valid : HasLinks code) (ports : ℕ → PortsTold) (worker : ℕ → LinkEnd) (settled : AreSettledEnds code ports worker) where
  abbrev its_links : List LinkViews
  its_links = links code valid ports worker settled

  -- ---- what the worker has taken is what was offered

  module _ (popped : ℕ → List Payload) (are : ArePopped code ports popped) where
    offered_by : (l n : ℕ) (payload : Payload) (b : Bool) → is_own (length code.ends) (length code.entries) l ≡ b → slice_get (popped l) n ≡ Some payload
        → offer_payload (slice_get (offers_in its_links l) n) ≡ Some payload
    offered_by l n payload true own there =
        let front = are.offered l own in
        let all : slice_get (payloads_at (owner_end code ports l)) n ≡ Some payload = sym (ap (λ ps. slice_get ps n) front.1) ∙ in_front (popped l) front.0 n payload there in
        sym (its_payload (offers_in its_links l) n)
        ∙ sym (ap (λ x. slice_get (payloads_at x) n) (owner_has code valid ports worker settled l (own_within code valid ports worker settled l own))) ∙ all
    offered_by l n payload false own there = absurd (let no : None ≡ Some payload = sym (ap (λ ps. slice_get ps n) (are.none l own)) ∙ there in cc)

    pub offered : TellsPopped (request_in its_links) popped
    offered l n answer payload there = offered_by l n payload (is_own (length code.ends) (length code.entries) l) refl there

  -- ---- what was done

  module _ (program : Resolved) (bound : ℕ) (files : List (List ℕ)) (cores : List CoreView) (terms : ℕ → Terms) (entries : List Entry) (popped : ℕ → List Payload)
      (before after : DiskTold) (ended : Ended) (is_code : code ≡ code_of program) (all : AreCoresWith code bound cores ports) (work : WorkerHolds code terms worker entries)
      (are : ArePopped code ports popped) (served : HasServed terms (length code.entries) worker entries popped files before after)
      (made : IsRunOfCores bound files cores entries ended) where
    abbrev got : Event → Option Payload
    got = request_in its_links

    as_many : length code.entries ≡ length program.cores
    as_many = ap (λ (x : Parts). length x.entries) is_code ∙ length-map program.cores (λ (core : Core). core.entry)

    same_deeds : deeds (start code.capacities code.widths (length code.entries)) (merged (journals_of cores entries)) ≡ deeds_of program ended.journals
    same_deeds = ap (λ js. deeds (start code.capacities code.widths (length code.entries)) (merged js)) (sym made.journals)
        ∙ ap (λ n. deeds (start code.capacities code.widths n) (history_of ended.journals)) as_many
        ∙ ap (λ (x : Parts). deeds (start x.capacities x.widths (length program.cores)) (history_of ended.journals)) is_code

    did_all : deeds_of program ended.journals ≡ deeds_by got (of_party (length code.entries) entries)
    did_all = sym same_deeds ∙ did code valid bound cores entries its_links (are_cores code valid ports worker settled bound cores all)
        (worker_agrees code valid ports worker settled terms entries work)

    held_by : (q : Option Held)
        → IfSome q (λ h. (left : Held) × (after.held ≡ Some left) × LeavesHeld terms (length code.entries) worker entries popped files h left)
        → IfSome q (λ h. (left : Held) × (after.held ≡ Some left) × LeavesFiles program files ended.journals h left)
    held_by None x = tt
    held_by (Some h) x =
        let d = x.2.served got (offered popped are) in (
          x.0,
          x.1,
          record {
            served = subst (IsServed (padded files)) (sym did_all) d.served;
            files = d.held ∙ ap (contents (padded files)) (sym did_all);
            as_many = x.2.as_many;
            paths = x.2.paths;
            others = x.2.others;
          },
        )

    pub disk_left : LeavesDisk program files ended.journals before after
    disk_left = record {
      counted = subst (AreCounted before after) (sym did_all) (served.counted got (offered popped are));
      held = held_by before.held served.held;
    }
