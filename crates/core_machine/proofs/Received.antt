-- Where an operation puts what it receives: into a frame that lives or into the globals. For `got`.
-- The invariant says this of each operation that receives; the one that a test finds is one of them.
use Rattle.std.proofs.Common.{◌≡◌, ℕ, Some, None, true, false, refl, subst}
use Rattle.std.specs.Prelude.{All, find, nat_eq, not}
use Rattle.std.proofs.lemmas.Bool.{and_parts}
use Rattle.work_item.specs.declared.cell.Place.{Place}
use Rattle.work_item.specs.Conditions.{HomeLives}
use Rattle.cancel_scope.specs.declared.operation.Asked.{Asked}
use Rattle.cancel_scope.specs.declared.operation.Asked.TheVariants as asked
use Rattle.cancel_scope.specs.declared.operation.Operation.{Operation}
use Rattle.cancel_scope.specs.Outstanding.{is_outgoing, is_to_receive}
use Rattle.code_safety.specs.Living.{AskedLives}
use Rattle.code_safety.proofs.NoDangling.{names_living}
use Rattle.code_safety.proofs.Waiting.{IsFound, found_at, one_of_all}
use Rattle.core_machine.specs.declared.running.Running.{Running}
use Rattle.core_machine.specs.State.{flat_of, IsSound}

module _ (m : Running) (sound : IsSound m) (still : m.ended ≡ None) (link : ℕ) (o : Operation) (found : find (is_to_receive link) m.outstanding.operations ≡ Some o) where
  its_place : IsFound (is_to_receive link) m.outstanding.operations o
  its_place = found_at (is_to_receive link) m.outstanding.operations o found

  of_all : (P : Operation → Type 0) → All P m.outstanding.operations → P o
  of_all P all = one_of_all P its_place.back o its_place.front (subst (All P) its_place.is all)

  -- it receives
  pub no_other : ((place : Place) → o.asked ≡ asked.Recv place → ⊥) → ⊥
  no_other none = by o.asked refl (and_parts (nat_eq o.link link) (not (is_outgoing o.asked)) its_place.passes).1
    where
      by : (a : Asked) → o.asked ≡ a → not (is_outgoing a) ≡ true → ⊥
      by (asked.Recv place) e passes = none place e
      by a e passes = let no : false ≡ true = passes in cc

  module _ (place : Place) (asks : o.asked ≡ asked.Recv place) where
    pub home_there : HomeLives m.frames place.home
    home_there =
        let names = names_living m.code.now (flat_of m) (sound.fit still) (sound.chained still) in
        subst (AskedLives m.frames) asks (of_all (λ (p : Operation). AskedLives m.frames p.asked) names.operations)
