-- What a source comes to.
use Rattle.std.specs.Prelude.{◌≡◌, ℕ, ◌*◌, ◌<◌, ◌≤◌, List, [], map, length, Result, Ok, Err}
use Rattle.ac_lexer.specs.declared.token.Token.{Token}
use Rattle.ac_lexer.specs.declared.fault.LexFault.{LexFault}
use Rattle.ac_lexer.specs.declared.fault.LexFault.TheVariants as l
use Rattle.ac_lexer.specs.Tokens.{LexesFrom, IsTokensOf, IsFirstFaultOf}
use Rattle.ac_tree.specs.declared.item.Program.{Program}
use Rattle.ac_parser.specs.Places.{IsTree, UnexpectedAt, TooDeepAt}
use Rattle.program_reading.specs.declared.refusal.BrokenRule.{BrokenRule}
use Rattle.ac_types.specs.Reached.{BreaksNone, IsLeastBroken}
use Rattle.ac_names.specs.Numbered.{core_names, file_paths}
use Rattle.ac_resolve.specs.Resolution.{resolved}
use Rattle.program_reading.specs.declared.refusal.Refusal.{Refusal}
use Rattle.program_reading.specs.declared.refusal.Refusal.TheVariants as r
use Rattle.program_reading.specs.declared.refusal.Stop.{Stop}
use Rattle.program_reading.specs.declared.refusal.Stop.TheVariants as s
use Rattle.ac_words.specs.declared.task.Task.{Task}
use Rattle.ac_words.specs.declared.task.Task.TheVariants as t
use Rattle.ac_words.specs.Words.{steps_of}

-- ---- tokens

-- the tokens of the source, which has no others and no fault
pub record HasTokens (source : List ℕ) (tokens : List Token) : Type 0 where
  pub lexed : IsTokensOf source tokens
  pub only : (other : Result (List Token) LexFault) → LexesFrom 0 source other → other ≡ Ok tokens

-- the fault of least place that the source has, and it has no tokens
pub record HasFault (source : List ℕ) (fault : LexFault) : Type 0 where
  pub lexed : IsFirstFaultOf source fault
  pub only : (other : Result (List Token) LexFault) → LexesFrom 0 source other → other ≡ Err fault

-- ---- trees

-- the tokens of the source begin programs before the one at this place, and with it none
pub record IsUnexpected (source : List ℕ) (at : ℕ) : Type 0 where
  pub tokens : List Token
  pub lexed : HasTokens source tokens
  pub unexpected : UnexpectedAt (length source) tokens at

-- the first token of the source that is too deep stands at this place, and no unexpected one before it
pub record IsTooDeep (source : List ℕ) (at : ℕ) : Type 0 where
  pub tokens : List Token
  pub lexed : HasTokens source tokens
  pub deep : TooDeepAt tokens at

-- the source spells the program and no other, and no token is too deep
pub record IsSpelled (source : List ℕ) (program : Program) : Type 0 where
  pub tokens : List Token
  pub lexed : HasTokens source tokens
  pub tree : IsTree tokens program

-- ---- rules

-- the source spells the program, which breaks no rule
pub record IsAccepted (source : List ℕ) (program : Program) : Type 0 where
  pub spelled : IsSpelled source program
  pub clean : BreaksNone program.items

-- the source spells a program, of whose broken rules this is the least
pub record IsBroken (source : List ℕ) (rule : BrokenRule) : Type 0 where
  pub program : Program
  pub spelled : IsSpelled source program
  pub least : IsLeastBroken program.items rule.rule rule.at

-- ---- steps

-- the steps of all cores together that a task may take: none but for a run
abbrev pub all_steps : Program → Task → ℕ
all_steps program task = length (core_names program.items) * steps_of task

-- how many they may be at most
abbrev pub most_steps : ℕ
most_steps = 4000000

-- the source is accepted, and its cores may go too many steps
pub record IsTooMany (source : List ℕ) (task : Task) : Type 0 where
  pub program : Program
  pub is_accepted : IsAccepted source program
  pub over : most_steps < all_steps program task

-- nothing refuses the source, which spells this program: it is accepted and within the limit of steps
pub record IsReady (source : List ℕ) (task : Task) (program : Program) : Type 0 where
  pub is_accepted : IsAccepted source program
  pub within : all_steps program task ≤ most_steps

-- ---- files

-- the paths of the files that a task needs: those of the program for a run, in order
abbrev pub needed : Task → Program → List (List ℕ)
needed (t.Run steps telling) program = file_paths program.items
needed t.Check program = []
needed t.Code program = []

-- ---- refusals

-- What refuses a source for a task, by the first refusal in the order of work.
abbrev pub Refuses : List ℕ → Task → Refusal → Type 0
Refuses source task r.TooLong = 1048576 < length source
Refuses source task (r.BadByte at) = HasFault source (l.BadByte at)
Refuses source task (r.NumberTooLarge at) = HasFault source (l.NumberTooLarge at)
Refuses source task (r.OpenComment at) = HasFault source (l.OpenComment at)
Refuses source task (r.OpenText at) = HasFault source (l.OpenText at)
Refuses source task (r.Unexpected at) = IsUnexpected source at
Refuses source task (r.TooDeep at) = IsTooDeep source at
Refuses source task (r.Broken rule) = IsBroken source rule
Refuses source task r.TooManySteps = IsTooMany source task

-- the names of the cores of a program
abbrev pub names_of : Program → List (List ℕ)
names_of program = map (λ core. core.name) (resolved program).cores

-- ---- what work on a source gives

-- why work on a source stops, where memory was not refused
abbrev pub Stops : List ℕ → Task → Stop → Type 0
Stops source task (s.Refused refusal) = Refuses source task refusal
Stops source task s.NoMemory = Unit {0}

-- the program, where nothing refuses it for the task
abbrev pub GivesReady : List ℕ → Task → Result Program Stop → Type 0
GivesReady source task (Ok program) = IsReady source task program
GivesReady source task (Err stop) = Stops source task stop
