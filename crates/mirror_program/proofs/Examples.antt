-- The mirror before its first call, which devices are alike under their prefixes, and what a call over it promises: each by a value for
-- which it holds and one for which it does not.
use Rattle.std.proofs.Common.{◌≡◌, refl, ap, ℕ, Bool, true, false, List, [], ◌∷◌, ◌++◌, codes, None, Some, inl, inr, arith}
use Rattle.std.specs.Prelude.{◌⊎◌}
use Rattle.std.specs.declared.option.Option.{Option}
use Rattle.ac_outside.specs.Told.{SinkTold}
use Rattle.ac_outside.specs.Disks.{DiskTold, Held}
use Rattle.ac_program.specs.declared.outcome.Outcome.{Outcome}
use Rattle.ac_program.specs.Lines.{usage_line as usage_of_ac}
use Rattle.ac_program.proofs.Examples.{its_library, no_disk, usage_is_told, usage_is_due}
use Rattle.mirror_program.specs.Mirroring.{prefix_at, AreAlikeUnder, mirror_at_first, told_by_pair, AnswersAsAc, usage_line, IsUsage, HasNoMemory}

-- ---- prefixes

abbrev words : List (List ℕ)
words = codes "a/" ∷ codes "b/" ∷ codes "run" ∷ []

pub the_first_prefix : prefix_at words 0 ≡ codes "a/"
the_first_prefix = refl

pub the_second_prefix : prefix_at words 1 ≡ codes "b/"
the_second_prefix = refl

pub none_is_empty : prefix_at [] 1 ≡ []
none_is_empty = refl

-- a disk that holds under each path the path itself
abbrev paths : Held
paths = record { files = []; found = λ path. Some path; calls = 0 }

-- one that holds the same under each path with `a/` as the other without it
abbrev shorter : Held
shorter = record { files = []; found = λ path. Some (codes "a/" ++ path); calls = 0 }

pub they_are_alike : AreAlikeUnder (codes "a/") [] (Some paths) (Some shorter)
they_are_alike = record { tells = refl; also = refl; found = refl }

pub under_one_prefix_they_are_not : AreAlikeUnder [] [] (Some paths) (Some shorter) → ⊥
under_one_prefix_they_are_not h = let e = ap (λ (f : List ℕ → Option (List ℕ)). f []) h.found in cc e

pub one_that_tells_nothing_is_not : AreAlikeUnder [] [] (Some paths) None → ⊥
one_that_tells_nothing_is_not h = let e = h.also in cc e

-- ---- the mirror before its first call

abbrev device : Held → DiskTold
device held = record { held = Some held; bound = 0; is_ready = true; binds = Some []; faults = 0; earlier = 0 }

abbrev told : DiskTold → DiskTold
told d = d

abbrev first_told : Bool → DiskTold
first_told is_alike = told_by_pair told told (mirror_at_first words (device paths) (device shorter) is_alike)

pub it_tells_what_the_first_holds : (first_told true).held ≡ Some (record { files = []; found = λ path. Some (codes "a/" ++ path); calls = 0 })
it_tells_what_the_first_holds = refl

pub it_has_bound_nothing : (first_told true).bound ≡ 0
it_has_bound_nothing = refl

pub else_it_tells_nothing : (first_told false).held ≡ None
else_it_tells_nothing = refl

pub both_are_in_use : (mirror_at_first words (device paths) (device shorter) true).b.in_use ≡ true
both_are_in_use = refl

-- ---- what a call owes

abbrev with_status : ℕ → Outcome
with_status number = record { status = record { number = number }; run = None }

abbrev taken : List ℕ → SinkTold
taken bytes = record { held = Some bytes; faults = 0 }

-- `run` without a file is no call
pub its_usage : AnswersAsAc (codes "run" ∷ []) its_library its_library no_disk no_disk (taken []) (taken usage_of_ac) (with_status 1)
its_usage = record {
  whole = λ _ _. record { text = usage_of_ac; due = usage_is_due; taken = refl };
  part = λ e. absurd (omega (arith, e));
  memory = λ e. absurd (omega (arith, e));
  usage = usage_is_told;
  library = record { told = λ e. absurd (omega (arith, e)); only = λ _ _. refl };
  fault = record { told = λ e. absurd (omega (arith, e)); only = λ _ _ _ _. refl };
  output = record { told = λ e. absurd (omega (arith, e)); only = λ _. refl };
  decided = λ of _ _ _. absurd (of.usage refl);
  judged = λ of _ _ _. absurd (of.usage refl);
  loaded = λ of _ _ _. absurd (of.usage refl);
  read_back = λ cores _ _ _ _. absurd (none cores);
} where
  none : (◌≡◌ {A = ℕ} 1 0) ⊎ (◌≡◌ {A = ℕ} 1 4) ⊎ (◌≡◌ {A = ℕ} 1 5) ⊎ (◌≡◌ {A = ℕ} 1 6) → ⊥
  none (inl e) = omega (arith, e)
  none (inr (inl e)) = omega (arith, e)
  none (inr (inr (inl e))) = omega (arith, e)
  none (inr (inr (inr e))) = omega (arith, e)

-- no call of the disk has failed
pub no_fault_without_a_cause : AnswersAsAc (codes "run" ∷ []) its_library its_library no_disk no_disk (taken []) (taken []) (with_status 9) → ⊥
no_fault_without_a_cause h = let rose = h.fault.told refl in omega (arith, rose)

pub the_line : usage_line ≡ codes "usage: ac_mirror PREFIX PREFIX WORDS\n"
the_line = refl

pub it_is_written : IsUsage its_library its_library (taken []) (taken usage_line) (with_status 1)
it_is_written = record {
  one = λ _. refl;
  whole = λ _. refl;
  part = λ e. absurd (omega (arith, e));
  output = record { told = λ e. absurd (omega (arith, e)); only = λ _. refl };
  untouched = refl;
  no_run = refl;
}

pub another_status_is_not : IsUsage its_library its_library (taken []) (taken usage_line) (with_status 0) → ⊥
another_status_is_not h = let e = h.one (λ e. omega (arith, e)) in omega (arith, e)

pub nothing_is_written : HasNoMemory its_library its_library (taken []) (taken []) (with_status 11)
nothing_is_written = record { refused = refl; nothing = refl; untouched = refl; no_run = refl }

pub a_line_is_too_much : HasNoMemory its_library its_library (taken []) (taken usage_line) (with_status 11) → ⊥
a_line_is_too_much h = let e = h.nothing in cc e
