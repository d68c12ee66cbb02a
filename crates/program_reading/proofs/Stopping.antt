-- Why work on a source stops, from what a part of the front promises of its fault: case by case, the fault becomes the refusal with the
-- same place.
use Rattle.std.proofs.Common.{◌≡◌, refl, ℕ, ◌<◌, List, length, Result, Err}
use Rattle.ac_lexer.specs.declared.token.Token.{Token}
use Rattle.ac_lexer.specs.declared.fault.LexFault.{LexFault}
use Rattle.ac_lexer.specs.declared.fault.LexFault.TheVariants as l
use Rattle.ac_lexer.specs.Tokens.{Lexes, LexesFrom, Answers, max_len}
use Rattle.ac_tree.specs.declared.item.Program.{Program}
use Rattle.ac_parser.specs.declared.faults.SyntaxFault.{SyntaxFault}
use Rattle.ac_parser.specs.declared.faults.SyntaxFault.TheVariants as p
use Rattle.ac_parser.specs.Places.{Parses}
use Rattle.ac_types.specs.declared.fault.CheckFault.{CheckFault}
use Rattle.ac_types.specs.declared.fault.CheckFault.TheVariants as c
use Rattle.ac_types.specs.Verdicts.{IsFault}
use Rattle.ac_words.specs.declared.task.Task.{Task}
use Rattle.program_reading.specs.Source.{HasTokens, IsSpelled}
use Rattle.program_reading.specs.Source.{Stops}
use Rattle.program_reading.specs.inner.Parts.{lex_stop, syntax_stop, check_stop}

-- no tokens, by that fault
abbrev no_tokens : LexFault → Result (List Token) LexFault
no_tokens f = Err f

module _ (source : List ℕ) (task : Task) where
  pub lex_stops : (f : LexFault) → (no_tokens f ≡ no_tokens l.TooLong → max_len < length source)
      → Lexes source (no_tokens f) → ((r : Result (List Token) LexFault) → LexesFrom 0 source r → Answers (no_tokens f) r) → Stops source task (lex_stop f)
  lex_stops l.TooLong long lexes only = long refl
  lex_stops (l.BadByte at) long lexes only = record { lexed = lexes; only = only }
  lex_stops (l.NumberTooLarge at) long lexes only = record { lexed = lexes; only = only }
  lex_stops (l.OpenComment at) long lexes only = record { lexed = lexes; only = only }
  lex_stops (l.OpenText at) long lexes only = record { lexed = lexes; only = only }
  lex_stops l.NoMemory long lexes only = tt

  pub syntax_stops : (tokens : List Token) → HasTokens source tokens → (f : SyntaxFault) → Parses (length source) tokens (Err f)
      → Stops source task (syntax_stop f)
  syntax_stops tokens h (p.Unexpected at) u = record { tokens = tokens; lexed = h; unexpected = u }
  syntax_stops tokens h (p.TooDeep at) d = record { tokens = tokens; lexed = h; deep = d }
  syntax_stops tokens h p.NoMemory n = tt

  pub check_stops : (program : Program) → IsSpelled source program → (f : CheckFault) → IsFault program f → Stops source task (check_stop f)
  check_stops program s (c.Broken rule at) b = record { program = program; spelled = s; least = b }
  check_stops program s c.NoMemory n = tt
