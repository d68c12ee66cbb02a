-- The two equal answers of a request, and the memory for them.
use Rattle.std.specs.Prelude.{◌≡◌, length}
use Rattle.ac_base.specs.declared.entry.Answer.{Answer}
use Rattle.file_worker.specs.declared.asking.Answers.{Answers}
use Rattle.file_worker.specs.declared.asking.Buffers.{Buffers}

-- each of the two is this answer
pub record AreBoth (answer : Answer) (it : Answers) : Type 0 where
  pub journal : it.journal ≡ answer
  pub ring : it.ring ≡ answer

-- there is room for the bytes of any read
pub record HasRoom (it : Buffers) : Type 0 where
  pub journal : length it.journal.items ≡ 256
  pub ring : length it.ring.items ≡ 256
