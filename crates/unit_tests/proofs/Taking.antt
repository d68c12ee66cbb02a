-- What is received leaves the offers of a link as they were.
use Rattle.std.proofs.Common.{◌≡◌, refl}
use Rattle.std.specs.Prelude.{ℤ, List}
use Rattle.core_channels.specs.declared.answers.Receiving.{Receiving}
use Rattle.core_channels.specs.declared.answers.Receiving.TheVariants.{Took, Passed, Nothing, NotYet, ClockFull}
use Rattle.core_channels.specs.LinkViews.{LinkViews}
use Rattle.core_channels.specs.Takes.{after_receiving}

pub offers_stay : (v : LinkViews) (a : Receiving (List ℤ)) → (after_receiving v a).offers ≡ v.offers
offers_stay v (Took number value s) = refl
offers_stay v (Passed number s) = refl
offers_stay v Nothing = refl
offers_stay v NotYet = refl
offers_stay v ClockFull = refl
