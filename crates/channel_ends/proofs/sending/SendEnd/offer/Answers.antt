use Rattle.std.proofs.Common.{rules, ◌≡◌, ◌∙◌, sym, ap, subst}
use Rattle.core_channels.proofs.Stamping.{stamp_rises}
use Rattle.channel_ends.specs.Sending.{OwnerNotes, AreWithin}
use Rattle.channel_ends.proofs.sending.SendEnd.offer.Goals as goal
use Rattle.channel_ends.proofs.sending.SendEnd.offer.Goals.{else-cached_slots-eq0-via-then-cached_slots-eq0+else-slots-eq0, else-cached_slots-eq0-via-else-cached_slots-eq0}

pub offer-requires-clause-within : goal.offer-requires-clause-within
offer-requires-clause-within g c =
    let side : c.else-cached_slots-eq0.self-inside.side ≡ c.args.self.now.notes = elim c.else-cached_slots-eq0.branch [
      | else-cached_slots-eq0-via-then-cached_slots-eq0+else-slots-eq0 w ↦ ap (λ i. i.side) w.self-inside-is ∙ ap (λ v. v.notes) c.self.view_is
      | else-cached_slots-eq0-via-else-cached_slots-eq0 w ↦ ap (λ i. i.side) w.self-inside-is ∙ ap (λ v. v.notes) c.self.view_is
    ] in (
      c.args.clock.now,
      subst (λ (v : OwnerNotes). AreWithin c.args.clock.now v.offers) (sym side) c.requires.within,
      stamp_rises c.args.clock.now 0 c.in-Some.stamp (search rules),
    )
