-- Ways that pass no `Step`, and the graph that is searched.
-- The graph has just the ways of the code without a `Step` (Known: an address has one shape). A cycle in it is a way of the code that takes
-- no step for ever; ranks that fall along it exclude one, since then an address would be below itself.
use Rattle.std.proofs.Common.{◌≡◌, ℕ, zero, suc, ◌<◌, List, length, Option, Some, None, Result, Ok, Err, sym, ◌∙◌, subst, arith}
use Rattle.std.specs.Prelude.{slice_get, slice_index, IfOk, IfSome, IfNone, MatchOption}
use Rattle.ac_base.specs.declared.memory.NoMemory.{NoMemory}
use Rattle.graph_ranks.specs.declared.graph.Ways.{Ways}
use Rattle.graph_ranks.specs.Graph.{Way, HasCycle, IsInside, IsRanking}
use Rattle.stack_code.specs.declared.instr.Instr.{Instr}
use Rattle.stack_code.specs.declared.instr.Instr.TheVariants as i
use Rattle.stack_code.specs.declared.shape.Shape.{Shape}
use Rattle.stack_code.specs.declared.shape.Leads.{Leads}
use Rattle.stack_code.specs.Parts.{Parts}
use Rattle.stack_code.specs.Shapes.{effect, LeadsTo}
use Rattle.stack_code.specs.Valid.{goes, Quiet, QuietWay, one, more, TakesSteps}
use Rattle.stack_code.specs.Kept.{Has, IsTable}
use Rattle.stack_code.specs.inner.Quiet.{IsLed, IsWays, IsGraph, IsSteady}
use Rattle.graph_ranks.proofs.Places.{within, got}
use Rattle.stack_code.proofs.Known.{same_has}

-- ---- one address

module _ (code : Parts) (table : List (Option Shape)) (at : ℕ) (s : Shape) (instr : Instr) (t : IsTable code table) (has : Has table at s) (here : slice_get code.instrs at ≡ Some instr) where
  from : (to : ℕ) (q : Quiet code at to) → effect code at instr s ≡ Some q.goes.fits.leads
  from to q =
      let f = q.goes.fits in
      let e : Some f.instr ≡ Some instr = sym f.here ∙ here in
      let ei : f.instr ≡ instr = cc in
      let es : q.shape ≡ s = same_has table at q.shape s (t.has at q.shape q.reached) has in
      subst (λ u. effect code at instr u ≡ Some f.leads) es (subst (λ j. effect code at j q.shape ≡ Some f.leads) ei f.finds)

  pub ways_led : (o : Option Leads) (l : Leads) (w : Ways) → o ≡ effect code at instr s → o ≡ Some l → (instr ≡ i.Step → ⊥) → IsLed l w → IsWays code at w
  ways_led o l w e ol ne led = record {
    sound = λ to h. (let x = led.sound to h in record {
      shape = s;
      next = x.0;
      reached = t.reached at s has;
      goes = record { fits = record { instr = instr; leads = l; here = here; finds = sym e ∙ ol }; leads = x.1 };
      no_step = λ st. (let z : Some instr ≡ Some i.Step = sym here ∙ st in ne (cc));
    });
    whole = λ to q. (let z : Some q.goes.fits.leads ≡ Some l = sym (from to q) ∙ sym e ∙ ol in
        let ll : q.goes.fits.leads ≡ l = cc in
        led.whole to q.next (subst (λ k. LeadsTo k to q.next) ll q.goes.leads));
  }

-- ---- the graph

module _ (code : Parts) (table : List (Option Shape)) (graph : List Ways) (t : IsTable code table) (g : IsGraph code graph) where
  pub graph_inside : IsInside graph
  graph_inside from to way =
      let q = (g.ways from way.0 way.1).sound to way.2 in
      let h : Has table to q.next = t.has to q.next (goes from q.shape to q.next q.reached q.goes) in
      let lt : to < length table = within table to (Some q.next) h in
      let l : length table ≡ length code.instrs = t.long in
      let k : length graph ≡ length code.instrs = g.long in
      omega arith

  quiet_one : (from to : ℕ) → Way graph 1 from to → Quiet code from to
  quiet_one from to w = subst (Quiet code from) w.1.1 ((g.ways from w.1.0.0 w.1.0.1).sound w.0 w.1.0.2)

  quiet_way : (k from to : ℕ) → Way graph (suc k) from to → QuietWay code from to
  quiet_way zero from to w = one from to (quiet_one from to w)
  quiet_way (suc k) from to w = more from w.0 to ((g.ways from w.1.0.0 w.1.0.1).sound w.0 w.1.0.2) (quiet_way k w.0 to w.1.1)

  pub not_steady : HasCycle graph → TakesSteps code → ⊥
  not_steady c v = v c.0 (quiet_way c.1.0 c.0 c.0 c.1.1)

  module _ (ranks : List ℕ) (r : IsRanking graph ranks) where
    falls : (at to : ℕ) → Quiet code at to → slice_index ranks to < slice_index ranks at
    falls at to q =
        let lt : at < length code.instrs = within code.instrs at q.goes.fits.instr q.goes.fits.here in
        let k : length graph ≡ length code.instrs = g.long in
        let w = got graph at (omega arith) in
        r.falls at to (w.0, w.1, (g.ways at w.0 w.1).whole to q)

    falls_along : (at to : ℕ) → QuietWay code at to → slice_index ranks to < slice_index ranks at
    falls_along at to (one _ _ q) = falls at to q
    falls_along at to (more _ next _ q w) =
        let a : slice_index ranks next < slice_index ranks at = falls at next q in
        let b : slice_index ranks to < slice_index ranks next = falls_along next to w in
        omega arith

    pub steady : IsSteady code ranks
    steady = record {
      steps = λ at w. (let lt : slice_index ranks at < slice_index ranks at = falls_along at at w in omega arith);
      ranked = record { long = r.long ∙ g.long; falls = falls };
    }

  -- what the ranks of the graph say of the code
  pub ranked_by : (o : Result (Option (List ℕ)) NoMemory) → IfOk o (λ found. IfSome found (λ ranks. IsRanking graph ranks)) → IfOk o (λ found. IfNone found (HasCycle graph))
      → IfOk o (λ found. MatchOption found (TakesSteps code → ⊥) (λ ranks. IsSteady code ranks))
  ranked_by (Ok (Some ranks)) r n = steady ranks r
  ranked_by (Ok None) r n = not_steady n
  ranked_by (Err e) r n = tt
