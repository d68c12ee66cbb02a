-- Parties in a list, and the cores among them: after some calls each is at its place what it was before, a core or the worker.
use Rattle.std.proofs.Common.{◌≡◌, ℕ, zero, suc, ◌<◌, List, [], ◌∷◌, ◌++◌, Some, refl, ap, subst, arith, length, map}
use Rattle.std.specs.Prelude.{slice_get}
use Rattle.ac_outside.specs.Disks.{DiskTold}
use Rattle.file_worker.specs.declared.worker.Worker.{Worker}
use Rattle.file_worker.specs.Rounds.{GoesOn}
use Rattle.file_worker.specs.Workers.{loan_of, seen_of}
use Rattle.run_parties.specs.declared.run_party.RunParty.{RunParty}
use Rattle.run_parties.specs.declared.run_party.RunParty.TheVariants.{Core, Disk}
use Rattle.run_parties.specs.Seats.{CoreSeat}
use Rattle.run_parties.specs.Moving.{IsLaterSeat}
use Rattle.run_parties.specs.Parties.{IsLaterParty}
use Rattle.settled_rounds.specs.Linked.{Pointwise}
use Rattle.core_runner.specs.inner.Parties.{seats_in}
use Rattle.core_runner.proofs.Lists.{same_some}

-- ---- party by party

module _ {P : Type 0} (R : P → P → Type 0) where
  pub as_many : (ps qs : List P) → Pointwise R ps qs → length qs ≡ length ps
  as_many [] [] h = refl
  as_many [] (q ∷ qs) h = absurd h
  as_many (p ∷ ps) [] h = absurd h
  as_many (p ∷ ps) (q ∷ qs) h = ap suc (as_many ps qs h.1)

  -- the party that stands at this place after it
  pub after_at : (ps qs : List P) (k : ℕ) (p : P) → Pointwise R ps qs → slice_get ps k ≡ Some p → (q : P) × (slice_get qs k ≡ Some q) × R p q
  after_at [] [] k p h at = cc
  after_at [] (y ∷ qs) k p h at = absurd h
  after_at (x ∷ ps) [] k p h at = absurd h
  after_at (x ∷ ps) (y ∷ qs) zero p h at = (y, refl, subst (λ z. R z y) (same_some x p at) h.0)
  after_at (x ∷ ps) (y ∷ qs) (suc k) p h at = after_at ps qs k p h.1 at

module _ {D : Type 0} (told : D → DiskTold) where
  -- a core is a core after it, and the worker is the worker
  pub core_after : (s : CoreSeat) (q : RunParty D) → IsLaterParty told (Core s) q → (t : CoreSeat) × (q ≡ Core t) × IsLaterSeat s t
  core_after s (Core t) later = (t, refl, later)
  core_after s (Disk w) later = absurd later

  pub worker_after : (v : Worker D) (q : RunParty D) → IsLaterParty told (Disk v) q
      → (w : Worker D) × (q ≡ Disk w) × GoesOn (seen_of told v) (seen_of told w) × (loan_of w ≡ loan_of v)
  worker_after v (Core t) later = absurd later
  worker_after v (Disk w) later = (w, refl, later.0, later.1)

-- ---- the cores among them

module _ {D : Type 0} where
  pub same_core : (s t : CoreSeat) (p : RunParty D) → p ≡ Core s → p ≡ Core t → s ≡ t
  same_core s t p e f = cc

  pub same_worker : (v w : Worker D) → Disk v ≡ Disk w → v ≡ w
  same_worker v w e = cc

  pub seats_more : (ps qs : List (RunParty D)) → seats_in (ps ++ qs) ≡ seats_in ps ++ seats_in qs
  seats_more [] qs = refl
  seats_more (Core s ∷ ps) qs = ap (λ ss. s ∷ ss) (seats_more ps qs)
  seats_more (Disk w ∷ ps) qs = seats_more ps qs

  -- where all are cores, each stands at its place
  abbrev pub AreCores : List (RunParty D) → Type 0
  AreCores ps = (k : ℕ) → k < length ps → (s : CoreSeat) × (slice_get ps k ≡ Some (Core s))

  rest_are : (p : RunParty D) (ps : List (RunParty D)) → AreCores (p ∷ ps) → AreCores ps
  rest_are p ps all k h = all (suc k) (omega (arith, h))

  no_worker : (w : Worker D) (ps : List (RunParty D)) → AreCores (Disk w ∷ ps) → ⊥
  no_worker w ps all = let first = all 0 (omega arith) in let no : Disk w ≡ Core first.0 = same_some (Disk w) (Core first.0) first.1 in absurd cc

  pub all_seats : (ps : List (RunParty D)) → AreCores ps → length (seats_in ps) ≡ length ps
  all_seats [] all = refl
  all_seats (Core s ∷ ps) all = ap suc (all_seats ps (rest_are (Core s) ps all))
  all_seats (Disk w ∷ ps) all = absurd (no_worker w ps all)

  pub seat_at : (ps : List (RunParty D)) (k : ℕ) (s : CoreSeat) → AreCores ps → slice_get ps k ≡ Some (Core s) → slice_get (seats_in ps) k ≡ Some s
  seat_at [] k s all at = cc
  seat_at (Core t ∷ ps) zero s all at = ap Some (same_core t s (Core t) refl (same_some (Core t) (Core s) at))
  seat_at (Core t ∷ ps) (suc k) s all at = seat_at ps k s (rest_are (Core t) ps all) at
  seat_at (Disk w ∷ ps) k s all at = absurd (no_worker w ps all)

pub map_twice : {X Y Z : Type 0} (f : X → Y) (g : Y → Z) (xs : List X) → map g (map f xs) ≡ map (λ x. g (f x)) xs
map_twice f g [] = refl
map_twice f g (x ∷ xs) = ap (λ zs. g (f x) ∷ zs) (map_twice f g xs)
