-- The journals and ends of the cores so far are those of the parties that were taken apart.
use Rattle.std.proofs.Common.{◌≡◌, ◌∙◌, refl, ap, sym, subst, map, ◌++◌, List, [], ◌∷◌, length, append_assoc, arith}
use Rattle.std.specs.List.{AllByRecursion}
use Rattle.std.specs.Vec.Iter.{into_iter_items}
use Rattle.std.proofs.lemmas.List.{map-append}
use Rattle.ac_history.specs.Merged.{entries_of}
use Rattle.run_laws.specs.Cores.{CoreView}
use Rattle.run_parties.specs.Seats.{CoreSeat, core_of}
use Rattle.run_parties.specs.Seated.{HasItsPorts}
use Rattle.core_runner.specs.inner.Parties.{seats_in}
use Rattle.core_runner.proofs.Lists.{all_were, all_both}
use Rattle.core_runner.proofs.Seats.{seats_more, map_twice}
use Rattle.core_runner.proofs.ended.ended_of.Goals as goal

one_more : {Y : Type 0} (f : CoreSeat → Y) (before more all : List CoreSeat) (old new : List Y) → new ≡ old ++ map f more → old ≡ map f before → all ≡ before ++ more → new ≡ map f all
one_more f before more all old new e was is = e ∙ ap (λ ys. ys ++ map f more) was ∙ sym (map-append f before more) ∙ sym (ap (map f) is)

pub loop-party-init : goal.loop-party-init
loop-party-init g c = record {
  left = refl;
  count = let gives = c.into_iter-party-iterator.ensures.into_iter_gives in let n = ap (λ xs. length xs) gives.0 in let m = gives.1 in omega arith;
  journals = ap (map entries_of) c.new-journals.ensures;
  ends = c.new-ends.ensures;
  ports = tt;
}

pub loop-party-preserved : goal.loop-party-preserved
loop-party-preserved g c =
    let at = c.loop-party in
    let x = c.in-Some.party in
    let steps : into_iter_items at.party-iterator ≡ x ∷ into_iter_items c.next.new.self = c.in-Some.ensures.steps.0 in
    let more = seats_more at.yielded (x ∷ []) in
    record {
      left = append_assoc at.yielded (x ∷ []) _ ∙ rw (← steps) at.invariant.left;
      count = let was = at.invariant.count in let gone = c.in-Some.ensures.steps.1 in let short = ap length steps in omega arith;
      journals = one_more (λ (s : CoreSeat). (core_of s).journal) (seats_in at.yielded) (seats_in (x ∷ [])) _ (map entries_of at.journals) _ c.in_ok-keep.ensures.journals
          at.invariant.journals more;
      ends = one_more (λ (s : CoreSeat). (core_of s).end) (seats_in at.yielded) (seats_in (x ∷ [])) _ at.ends _ c.in_ok-keep.ensures.ends at.invariant.ends more;
      ports = subst (AllByRecursion HasItsPorts) (sym more) (all_both HasItsPorts (seats_in at.yielded) (seats_in (x ∷ [])) at.invariant.ports c.in_ok-keep.ensures.ports);
    }

pub returns-clause-run : goal.returns-clause-run
returns-clause-run g c =
    let at = c.loop-party in
    let all = all_were at.yielded _ _ c.args.cores.items at.invariant.left c.into_iter-party-iterator.ensures.into_iter_gives.0 (sym at.invariant.count ∙ c.in-None.ensures.steps.0) in
    record {
      steps = refl;
      start = refl;
      journals = ap (map entries_of) c.in_ok-push.ensures.ok ∙ map-append entries_of at.journals (c.args.worker ∷ [])
          ∙ ap (λ js. js ++ c.args.worker.entries ∷ []) (at.invariant.journals ∙ ap (λ ps. map (λ (s : CoreSeat). (core_of s).journal) (seats_in ps)) all
          ∙ sym (map_twice core_of (λ (v : CoreView). v.journal) (seats_in c.args.cores.items)));
      ends = at.invariant.ends ∙ ap (λ ps. map (λ (s : CoreSeat). (core_of s).end) (seats_in ps)) all
          ∙ sym (map_twice core_of (λ (v : CoreView). v.end) (seats_in c.args.cores.items));
    }

pub returns-clause-ports : goal.returns-clause-ports
returns-clause-ports g c =
    let at = c.loop-party in
    let all = all_were at.yielded _ _ c.args.cores.items at.invariant.left c.into_iter-party-iterator.ensures.into_iter_gives.0 (sym at.invariant.count ∙ c.in-None.ensures.steps.0) in
    subst (λ ps. AllByRecursion HasItsPorts (seats_in ps)) all at.invariant.ports
