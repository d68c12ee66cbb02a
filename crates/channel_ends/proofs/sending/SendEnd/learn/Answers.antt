use Rattle.std.proofs.Common.{◌∙◌, ℕ, sym, ap, subst}
use Rattle.channel_ends.specs.Sending.{Sending, AreWithin}
use Rattle.channel_ends.proofs.Keeping.{as_many_learned}
use Rattle.channel_ends.proofs.Within.{learns_within}
use Rattle.channel_ends.proofs.sending.SendEnd.learn.Goals as goal

pub invariant_of-self : goal.invariant_of-self
invariant_of-self g c =
    let kept = as_many_learned c.self.inside.side c.args.clock.now c.learn.result c.learn.new.self c.learn.ensures.answer in
    record {
      words = kept.table ∙ c.self.invariant.words;
      size = c.self.invariant.size ∙ sym (ap (λ t. t.words) kept.table);
      one_each = c.self.invariant.one_each ∙ sym kept.offers;
    }

pub returns-clause-within : goal.returns-clause-within
returns-clause-within g c = λ w.
    subst (λ (k : ℕ). AreWithin k c.learn.new.self.offers) (sym c.learn.ensures.clock)
    (learns_within c.self.inside.side c.args.clock.now c.learn.result c.learn.new.self c.learn.ensures.answer
    (subst (λ (v : Sending g.row.M.Denot). AreWithin c.args.clock.now v.notes.offers) (sym c.self.view_is) w))
