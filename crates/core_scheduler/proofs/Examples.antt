-- What the definitions of Schedule say of a core with few threads: who runs, who is ready, and for how many more there is room.
-- All of them hold by computing; the calls of the scheduler need no lemma of their own.
use Rattle.std.proofs.Common.{◌≡◌, refl, ℕ, List, [], ◌∷◌, Option, None, Some}
use Rattle.work_item.specs.declared.ids.Item.{Item}
use Rattle.core_scheduler.specs.Schedule.{Schedule, at_back, at_front, suspended, yielded, yielded_to, dispatched, yielded_by, left_by, dispatched_from, front}

abbrev pub thread : ℕ → Item
thread number = record { number = number }

-- there is room for so many threads more
abbrev pub schedule : Option Item → List Item → ℕ → Schedule
schedule running ready spare = record { running = running; ready = ready; spare = spare }

-- the thread 1 runs, and then 2 and 3 will
abbrev pub one_runs : Schedule
one_runs = schedule (Some (thread 1)) (thread 2 ∷ thread 3 ∷ []) 4

abbrev pub none_runs : Schedule
none_runs = schedule None (thread 2 ∷ thread 3 ∷ []) 4

-- ---- a thread becomes ready

pub it_will_run_last : at_back one_runs (thread 9) ≡ schedule (Some (thread 1)) (thread 2 ∷ thread 3 ∷ thread 9 ∷ []) 3
it_will_run_last = refl

pub it_will_run_first : at_front one_runs (thread 9) ≡ schedule (Some (thread 1)) (thread 9 ∷ thread 2 ∷ thread 3 ∷ []) 3
it_will_run_first = refl

-- ---- the running thread stops

pub it_does_not_stay_ready : suspended one_runs ≡ none_runs
it_does_not_stay_ready = refl

pub it_yields : yielded one_runs ≡ schedule None (thread 2 ∷ thread 3 ∷ thread 1 ∷ []) 3
it_yields = refl

pub none_yields : yielded none_runs ≡ none_runs
none_yields = refl

-- the creator goes to the front, and the thread that it starts runs
pub it_yields_to_another : yielded_to one_runs (thread 9) ≡ schedule (Some (thread 9)) (thread 1 ∷ thread 2 ∷ thread 3 ∷ []) 3
it_yields_to_another = refl

-- ---- no thread runs

pub the_front_runs : dispatched none_runs ≡ schedule (Some (thread 2)) (thread 3 ∷ []) 5
the_front_runs = refl

pub none_is_ready : dispatched (schedule None [] 4) ≡ schedule None [] 4
none_is_ready = refl

-- ---- the parts of these

pub a_given_thread_yields : (yielded_by one_runs (Some (thread 1)) ≡ schedule None (thread 2 ∷ thread 3 ∷ thread 1 ∷ []) 3) × (yielded_by none_runs None ≡ none_runs)
a_given_thread_yields = (refl, refl)

pub a_given_thread_is_left : (left_by one_runs (Some (thread 1)) (thread 9) ≡ schedule (Some (thread 9)) (thread 1 ∷ thread 2 ∷ thread 3 ∷ []) 3)
    × (left_by none_runs None (thread 9) ≡ none_runs)
a_given_thread_is_left = (refl, refl)

pub the_first_of_a_list_runs : (dispatched_from none_runs (thread 7 ∷ thread 8 ∷ []) ≡ schedule (Some (thread 7)) (thread 8 ∷ []) 5) × (dispatched_from none_runs [] ≡ none_runs)
the_first_of_a_list_runs = (refl, refl)

pub who_is_in_front : front (thread 2 ∷ thread 3 ∷ []) ∷ front [] ∷ [] ≡ Some (thread 2) ∷ None ∷ []
who_is_in_front = refl
