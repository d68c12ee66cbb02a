use Rattle.std.proofs.Common.{◌≡◌, ◌∙◌, ap, sym, [], List, ℕ, length, Option, Some, None}
use Rattle.std.specs.Prelude.{IfNone}
use Rattle.ac_history.specs.Served.{begun}
use Rattle.trace_audit.specs.inner.Replaying.{HasTaken}
use Rattle.trace_audit.proofs.auditing.audit_code.Goals as goal

where_none : {X : Type 0} (o : Option X) (P : Type 0) → o ≡ None → IfNone o P → P
where_none None P is h = h
where_none (Some x) P is h = cc

pub ends_well-requires : goal.ends_well-requires
ends_well-requires c =
    let t = c.args.trace.now in
    let begins : HasTaken c.args.code.now t [] c.in_ok-legal.legal c.in_ok-replays.replays.cores.items =
    record {
      legal_is = c.in_ok-legal.ensures ∙ ap (λ (capacities : List ℕ). begun capacities c.widths.result.now (length c.entries.result.now) t.start) c.capacities.ensures
          ∙ ap (λ (widths : List ℕ). begun c.args.code.now.capacities widths (length c.entries.result.now) t.start) c.widths.ensures
          ∙ ap (λ (entries : List ℕ). begun c.args.code.now.capacities c.args.code.now.widths (length entries) t.start) c.entries.ensures;
      replays = c.in_ok-replays.ensures.cores;
    } in
    (where_none c.in_ok-entry.field-0 _ c.in-None.is c.in_ok-entry.ensures.none c.args.code.now t (sym c.as_slice.ensures) begins).0
