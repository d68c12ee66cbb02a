use Rattle.std.proofs.Common.{◌≡◌, ◌∙◌, ◌≤◌, ◌<◌, true, sym, ap, subst, length}
use Rattle.ac_links.specs.Views.{altered, replied_with}
use Rattle.ac_links.specs.Replies.{least_open}
use Rattle.core_channels.specs.LinkViews.{AreViews}
use Rattle.core_channels.specs.Requests.{ReplyIsNext}
use Rattle.core_channels.proofs.Keeping.{reply_within, views_reply}
use Rattle.core_channels.proofs.Leads.{lead_replied}
use Rattle.core_channels.proofs.Opens.{open_replied}
use Rattle.core_channels.proofs.kept_link.KeptLink.reply.Goals as goal

pub note_reply-requires : goal.note_reply-requires
note_reply-requires c =
    let next = subst (λ v. ReplyIsNext v c.args.answer c.args.of) (sym c.self.view_is) c.requires.next in
    let requests = subst (λ v. v.terms.requests ≡ true) (sym c.self.view_is) c.requires.requests in
    let views = subst (λ r. AreViews r c.self.inside.offers.items c.self.inside.decisions.items) requests c.self.invariant.views in
    subst (λ n. n < length c.self.inside.offers.items) (sym (c.open_from-number.ensures ∙ ap least_open c.as_slice.ensures.value))
    (reply_within c.self.inside.terms c.self.inside.offers.items c.self.inside.decisions.items (record { answer = c.args.answer; of = c.args.of }) next views)

pub returns-clause-link : goal.returns-clause-link
returns-clause-link c =
    let next = subst (λ v. ReplyIsNext v c.args.answer c.args.of) (sym c.self.view_is) c.requires.next in
    let requests = subst (λ v. v.terms.requests ≡ true) (sym c.self.view_is) c.requires.requests in
    let views = subst (λ r. AreViews r c.self.inside.offers.items c.self.inside.decisions.items) requests c.self.invariant.views in
    rw c.note_reply.ensures.offers
    (subst (λ n. AreViews c.self.inside.terms.requests (altered c.self.inside.offers.items n (replied_with c.args.answer c.args.of)) c.self.inside.decisions.items)
    (sym (c.open_from-number.ensures ∙ ap least_open c.as_slice.ensures.value))
    (subst (λ r. AreViews r (altered c.self.inside.offers.items (least_open c.self.inside.offers.items) (replied_with c.args.answer c.args.of)) c.self.inside.decisions.items) (sym requests)
    (views_reply c.self.inside.terms c.self.inside.offers.items c.self.inside.decisions.items c.args.answer c.args.of next views)))

pub invariant_of-self : goal.invariant_of-self
invariant_of-self c = record {
  views = returns-clause-link c;
  lead = rw c.note_reply.ensures.offers (c.self.invariant.lead ∙ sym (lead_replied c.self.inside.offers.items c.open_from-number.result c.args.answer c.args.of));
  open' = rw c.note_reply.ensures.offers
      (subst (λ n. n ≤ least_open (altered c.self.inside.offers.items c.open_from-number.result (replied_with c.args.answer c.args.of)))
      (sym (c.open_from-number.ensures ∙ ap least_open c.as_slice.ensures.value))
      (open_replied c.self.inside.offers.items c.open_from-number.result c.args.answer c.args.of));
  places = rw c.note_reply.ensures.len c.self.invariant.places;
}

pub returns-clause-number : goal.returns-clause-number
returns-clause-number c = c.open_from-number.ensures ∙ ap least_open c.as_slice.ensures.value ∙ ap (λ v. least_open v.offers) c.self.view_is
