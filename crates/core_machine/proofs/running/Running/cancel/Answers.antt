use Rattle.std.proofs.Common.{Some, refl, sym, ◌∙◌, subst}
use Rattle.std.specs.Prelude.{IsSome}
use Rattle.core_state.specs.Cancelling.{is_to_try}
use Rattle.code_meaning.specs.Machine.{is_inside}
use Rattle.core_machine.specs.State.{flat_of}
use Rattle.core_machine.specs.Tried.{tried_within}
use Rattle.core_machine.proofs.CalledOff.{goes_past, none_begun, tries_oldest, asks_of}
use Rattle.core_machine.proofs.Places.{place_at}
use Rattle.core_machine.proofs.Rounds.{none_within, oldest_found, oldest_without}
use Rattle.core_machine.proofs.running.Running.cancel.Goals as goal

pub returns-in_default-clause-does : goal.returns-in_default-clause-does
returns-in_default-clause-does c done =
    let m = c.args.self.now in
    let block = c.block_in-block.result in
    let test = is_to_try (is_inside (flat_of m) block) in
    goes_past m c.requires.running c.args.level c.args.slot block c.block_in-block.ensures c.mark_cancelled.new.self c.mark_cancelled.ensures
    (none_within test m.outstanding.operations (sym c.oldest_within.ensures ∙ c.in_default.is)) c.go_on.new.self c.go_on.ensures

pub returns-in-Offered-clause-asks : goal.returns-in-Offered-clause-asks
returns-in-Offered-clause-asks c asks =
    let m = c.args.self.now in
    let block = c.block_in-block.result in
    let test = is_to_try (is_inside (flat_of m) block) in
    subst (λ b. IsSome (tried_within (flat_of m) (Some b))) c.block_in-block.ensures
    (asks_of (flat_of m) block c.get-operation.result.now c.in-Offered.number
    (oldest_found test m.outstanding.operations c.in-Some.place c.get-operation.result.now (sym c.oldest_within.ensures ∙ c.in-Some.is) c.get-operation.ensures) c.in-Offered.is)

pub resume-requires-clause-place : goal.resume-requires-clause-place
resume-requires-clause-place c = place_at c.args.self.now c.requires.places c.in-Some.place c.get-operation.result.now c.get-operation.ensures

pub returns-in-Waiting-clause-does : goal.returns-in-Waiting-clause-does
returns-in-Waiting-clause-does c done =
    let m = c.args.self.now in
    let block = c.block_in-block.result in
    let test = is_to_try (is_inside (flat_of m) block) in
    let first = sym c.oldest_within.ensures ∙ c.in-Some.is in
    let o = c.get-operation.result.now in
    tries_oldest m c.requires.running c.args.level c.args.slot block c.block_in-block.ensures
    c.mark_cancelled-in-Waiting.new.self c.mark_cancelled-in-Waiting.ensures o
    (oldest_found test m.outstanding.operations c.in-Some.place o first c.get-operation.ensures) c.in-Waiting.is c.end_at.new.self
    (c.end_at.ensures.operations ∙ sym (oldest_without test m.outstanding.operations c.in-Some.place o first c.get-operation.ensures))
    _ c.resume.new.self refl c.resume.ensures.flat c.resume.ensures.ended

pub unreachable-requires : goal.unreachable-requires
unreachable-requires c =
    let m = c.args.self.now in
    let block = c.block_in-block.result in
    let test = is_to_try (is_inside (flat_of m) block) in
    none_begun (flat_of m) block c.get-operation.result.now c.in-Started.number
    (oldest_found test m.outstanding.operations c.in-Some.place c.get-operation.result.now (sym c.oldest_within.ensures ∙ c.in-Some.is) c.get-operation.ensures) c.in-Started.is
