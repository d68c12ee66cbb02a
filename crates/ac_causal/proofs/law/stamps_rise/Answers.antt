use Rattle.ac_causal.proofs.Rising.{places_rise, stamps_rise}
use Rattle.ac_causal.proofs.law.stamps_rise.Goals as goal

pub returns-clause-places : goal.returns-clause-places
returns-clause-places c = places_rise

pub returns-clause-stamps : goal.returns-clause-stamps
returns-clause-stamps c = stamps_rise
