use Rattle.ac_compile.proofs.Staying.{programs_stay}
use Rattle.ac_compile.proofs.earlier.earlier_programs_stay.Goals as goal

pub returns : goal.returns
returns c = programs_stay
