-- A request that has its answer: what it has read goes into a frame that lives. For `replied`.
-- In a sound core each operation that has not ended refers to living frames alone (`names_living` of code_safety); the one found is among them.
use Rattle.std.proofs.Common.{◌≡◌, ℕ, Some, None, subst}
use Rattle.std.specs.Prelude.{All, find}
use Rattle.work_item.specs.Store.{Store}
use Rattle.cancel_scope.specs.declared.operation.Asked.{Asked}
use Rattle.cancel_scope.specs.declared.operation.Asked.TheVariants as asked
use Rattle.cancel_scope.specs.declared.operation.Operation.{Operation}
use Rattle.cancel_scope.specs.Outstanding.{is_begun}
use Rattle.core_operators.specs.Answers.{ReadsIntoLiving}
use Rattle.code_safety.specs.Living.{AskedLives}
use Rattle.code_safety.proofs.NoDangling.{names_living}
use Rattle.code_safety.proofs.Waiting.{found_at, one_of_all}
use Rattle.core_machine.specs.declared.running.Running.{Running}
use Rattle.core_machine.specs.State.{flat_of, IsSound}

into_living : (s : Store) (a : Asked) → AskedLives s a → ReadsIntoLiving s a
into_living s (asked.Send value) h = tt
into_living s (asked.Recv place) h = tt
into_living s (asked.Read file from into) h = h
into_living s (asked.Write file from bytes) h = tt

pub reads_into_living : (m : Running) → IsSound m → m.ended ≡ None → (link number : ℕ) (o : Operation) → find (is_begun link number) m.outstanding.operations ≡ Some o
    → ReadsIntoLiving m.frames o.asked
reads_into_living m sound still link number o found =
    let f = found_at (is_begun link number) m.outstanding.operations o found in
    let names = names_living m.code.now (flat_of m) (sound.fit still) (sound.chained still) in
    let P : Operation → Type 0 = λ p. AskedLives m.frames p.asked in
    into_living m.frames o.asked (one_of_all P f.back o f.front (subst (All P) f.is names.operations))
