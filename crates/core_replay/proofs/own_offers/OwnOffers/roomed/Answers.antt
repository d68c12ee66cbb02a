use Rattle.std.proofs.Common.{rules, ap, ◌∙◌}
use Rattle.std.specs.Prelude.{not}
use Rattle.std.specs.List.{filter}
use Rattle.std.proofs.lemmas.Fn.{filter_same}
use Rattle.core_replay.specs.Offering.{Offers, is_of}
use Rattle.core_replay.proofs.own_offers.OwnOffers.roomed.Goals as goal

pub returns-clause-kept : goal.returns-clause-kept
returns-clause-kept c =
    filter_same _ (λ o. not (is_of c.args.link c.args.number o)) _ (λ x b f' k. search rules) _ _ c.retain.ensures.filtered
    ∙ ap (λ (v : Offers). filter (λ o. not (is_of c.args.link c.args.number o)) v.kept) c.self.view_is
