-- What each part of the front gives: what it makes, or why it stops.
use Rattle.std.specs.Prelude.{◌≤◌, ℕ, List, length, Result, Ok, Err}
use Rattle.ac_lexer.specs.declared.token.Token.{Token}
use Rattle.ac_lexer.specs.declared.fault.LexFault.{LexFault}
use Rattle.ac_lexer.specs.declared.fault.LexFault.TheVariants as l
use Rattle.ac_parser.specs.declared.faults.SyntaxFault.{SyntaxFault}
use Rattle.ac_parser.specs.declared.faults.SyntaxFault.TheVariants as p
use Rattle.ac_types.specs.declared.fault.CheckFault.{CheckFault}
use Rattle.ac_types.specs.declared.fault.CheckFault.TheVariants as c
use Rattle.ac_tree.specs.declared.item.Program.{Program}
use Rattle.ac_tree.specs.Shape.{HasShape}
use Rattle.ac_tree.specs.Weight.{IsSmall}
use Rattle.ac_words.specs.declared.task.Task.{Task}
use Rattle.program_reading.specs.declared.refusal.Refusal.TheVariants as r
use Rattle.program_reading.specs.declared.refusal.Stop.{Stop}
use Rattle.program_reading.specs.declared.refusal.Stop.TheVariants as s
use Rattle.program_reading.specs.Source.{HasTokens, IsSpelled, IsAccepted, Stops}

-- ---- why work stops, by the fault that stops it

abbrev pub lex_stop : LexFault → Stop
lex_stop l.TooLong = s.Refused r.TooLong
lex_stop (l.BadByte at) = s.Refused (r.BadByte at)
lex_stop (l.NumberTooLarge at) = s.Refused (r.NumberTooLarge at)
lex_stop (l.OpenComment at) = s.Refused (r.OpenComment at)
lex_stop (l.OpenText at) = s.Refused (r.OpenText at)
lex_stop l.NoMemory = s.NoMemory

abbrev pub syntax_stop : SyntaxFault → Stop
syntax_stop (p.Unexpected at) = s.Refused (r.Unexpected at)
syntax_stop (p.TooDeep at) = s.Refused (r.TooDeep at)
syntax_stop p.NoMemory = s.NoMemory

abbrev pub check_stop : CheckFault → Stop
check_stop (c.Broken rule at) = s.Refused (r.Broken (record { rule = rule; at = at }))
check_stop c.NoMemory = s.NoMemory

-- ---- what each part gives

abbrev pub GivesTokens : List ℕ → Task → Result (List Token) Stop → Type 0
GivesTokens source task (Ok tokens) = HasTokens source tokens × (length tokens ≤ length source)
GivesTokens source task (Err stop) = Stops source task stop

abbrev pub GivesProgram : List ℕ → Task → Result Program Stop → Type 0
GivesProgram source task (Ok program) = IsSpelled source program × IsSmall program × HasShape program
GivesProgram source task (Err stop) = Stops source task stop

abbrev pub GivesChecked : List ℕ → Task → Result Program Stop → Type 0
GivesChecked source task (Ok program) = IsAccepted source program
GivesChecked source task (Err stop) = Stops source task stop
