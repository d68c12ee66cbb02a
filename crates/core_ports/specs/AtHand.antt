-- What ports may tell to be at hand on a link, so that the next call finds it.
use Rattle.std.specs.Prelude.{Bool}

pub record AtHand : Type 0 where
  -- the first offer that the core does not know is decided
  pub decision : Bool
  -- there is an offer that the core has not decided
  pub front : Bool
  -- the first request that is neither withdrawn nor replied has its reply
  pub reply : Bool
  -- there is a place for one more offer
  pub slot : Bool
