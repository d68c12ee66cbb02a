-- Whether there are as many messages of each producer as it sends.
use Rattle.std.specs.Prelude.{◌≡◌, ℕ, ◌<◌, List, length}
use Rattle.ac_choice.specs.declared.answers.Tagged.{Tagged}
use Rattle.ac_choice.specs.Relaying.{of_end}

abbrev pub AreWhole : ℕ → ℕ → List Tagged → Type 0
AreWhole width count received = (i : ℕ) → i < width → length (of_end i received) ≡ count
