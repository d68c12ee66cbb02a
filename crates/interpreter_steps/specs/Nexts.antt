-- What the interpreter's answers to a step stand for, beside what the core holds and the thread has still to do afterwards.
use Rattle.std.specs.Prelude.{List}
use Rattle.ac_semantics.specs.Work.{Work}
use Rattle.ac_semantics.specs.Held.{Held}
use Rattle.ac_semantics.specs.Statements as s
use Rattle.interpreter_state.specs.Operations.{asked_of}
use Rattle.interpreter_steps.specs.Works.{past_first}
use Rattle.interpreter_steps.specs.declared.statements.Next.{Next}
use Rattle.interpreter_steps.specs.declared.statements.Next.TheVariants as n

-- a cancel is what the thread has still to do first
abbrev pub next_with : Next → Held → List Work → s.Next
next_with n.Goes h ws = s.Goes h ws
next_with (n.Ends word) h ws = s.Ends word h
next_with (n.Starts frame own) h ws = s.Starts h frame own ws
next_with n.Yields h ws = s.Yields h ws
next_with (n.Arrives block) h ws = s.Arrives block h ws
next_with (n.Cancels block) h ws = s.Cancels block h ws (past_first ws)
next_with (n.Operates link asked) h ws = s.Operates link (asked_of asked) h ws
next_with (n.Dies frame) h ws = s.Dies frame h
next_with n.Stays h ws = s.Stays
