use Rattle.std.proofs.Common.{ap, sym, ◌∙◌, set}
use Rattle.std.specs.Prelude.{Some, None, Bool, if◌then◌else◌}
use Rattle.cancel_scope.specs.Outstanding.{is_to_offer, offered_as, change_first}
use Rattle.core_state.specs.Arrivals.{goes_on_waiting, offers}
use Rattle.interpreter_state.proofs.Finding.{none_found, found_at, changed_at}
use Rattle.interpreter_state.proofs.arrivals.offer.Goals as goal

pub returns-in-None : goal.returns-in-None
returns-in-None c = record {
  offered = λ store.
      ap (offers store c.args.operations.now.items c.args.link c.args.number c.args.payload.now)
      (none_found (is_to_offer c.args.link) c.args.operations.now.items c.as_slice.result.now c.in-None.ensures c.as_slice.ensures.value);
}

pub returns-then-not-carries : goal.returns-then-not-carries
returns-then-not-carries c = record {
  offered = λ store.
      let os = c.args.operations.now.items in
      let o = c.index.result.now in
      let offered = Some (goes_on_waiting store (change_first (is_to_offer c.args.link) (offered_as c.args.number) os)) in
      ap (offers store os c.args.link c.args.number c.args.payload.now)
      (found_at (is_to_offer c.args.link) os c.as_slice.result.now c.in-Some.index o c.in-Some.ensures c.as_slice.ensures.value c.index.ensures)
      ∙ ap (λ (b : Bool). if b then offered else None) (sym c.carries.ensures ∙ c.if-not-carries.true);
}

pub returns-else-not-carries : goal.returns-else-not-carries
returns-else-not-carries c = record {
  offered = λ store.
      let os = c.args.operations.now.items in
      let o = c.index.result.now in
      let offered = Some (goes_on_waiting store (change_first (is_to_offer c.args.link) (offered_as c.args.number) os)) in
      ap (offers store os c.args.link c.args.number c.args.payload.now)
      (found_at (is_to_offer c.args.link) os c.as_slice.result.now c.in-Some.index o c.in-Some.ensures c.as_slice.ensures.value c.index.ensures)
      ∙ ap (λ (b : Bool). if b then offered else None) (sym c.carries.ensures ∙ c.if-not-carries.false)
      ∙ ap (λ xs. Some (goes_on_waiting store xs))
      (changed_at (is_to_offer c.args.link) os c.as_slice.result.now c.in-Some.index c.index_mut-operation.result.now
      c.in-Some.ensures c.as_slice.ensures.value (offered_as c.args.number) c.index_mut-operation.ensures.value
      ∙ ap (set os c.in-Some.index) (sym c.offer.ensures));
}
