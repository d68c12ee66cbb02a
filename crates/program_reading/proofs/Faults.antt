-- A lexical fault of a text is one of the four that have a place, as TooLong and NoMemory are faults of no text: by going over the rules
-- of faults. So a text with a fault is refused with status 2.
use Rattle.std.proofs.Common.{◌≡◌, ℕ, ◌+◌, List, length, refl}
use Rattle.std.specs.Prelude.{Result, Ok, Err}
use Rattle.ac_lexer.specs.declared.token.Token.{Token}
use Rattle.ac_lexer.specs.declared.fault.LexFault.{LexFault}
use Rattle.ac_lexer.specs.declared.fault.LexFault.TheVariants as l
use Rattle.ac_lexer.specs.Tokens.{before, FaultHere, LexesFrom}
use Rattle.ac_lexer.specs.Spelling.{placed}
use Rattle.ac_lexer.specs.Tokens.FaultHere.{stray, after_zero, after_number, large, open_comment, open_text, in_text}
use Rattle.ac_lexer.specs.Tokens.LexesFrom.{end, gap, token, fault}
use Rattle.program_reading.specs.declared.refusal.Refusal.{Refusal}
use Rattle.program_reading.specs.declared.refusal.Refusal.TheVariants as r
use Rattle.ac_words.specs.declared.task.Task.{Task}
use Rattle.program_reading.specs.Lines.{refusal_status}
use Rattle.program_reading.specs.Source.{HasFault, Refuses}

abbrev HasPlace : LexFault → Type 0
HasPlace l.TooLong = ⊥
HasPlace (l.BadByte at) = Unit {0}
HasPlace (l.NumberTooLarge at) = Unit {0}
HasPlace (l.OpenComment at) = Unit {0}
HasPlace (l.OpenText at) = Unit {0}
HasPlace l.NoMemory = ⊥

abbrev MayHavePlace : Result (List Token) LexFault → Type 0
MayHavePlace (Ok tokens) = Unit {0}
MayHavePlace (Err f) = HasPlace f

here_has : (at : ℕ) (bs : List ℕ) (f : LexFault) → FaultHere at bs f → HasPlace f
here_has at _ _ (stray b bs n m) = tt
here_has at _ _ (after_zero d a rest e s v) = tt
here_has at _ _ (after_number b c a rest e z i v) = tt
here_has at _ _ (large b a rest e s v) = tt
here_has at _ _ (open_comment bs n) = tt
here_has at _ _ (open_text a rest k e) = tt
here_has at _ _ (in_text a vs u c rest p b d k) = tt

before_has : (t : Token) (given : Result (List Token) LexFault) → MayHavePlace given → MayHavePlace (before t given)
before_has t (Ok ts) h = tt
before_has t (Err f) h = h

lexes_has : (at : ℕ) (bs : List ℕ) (given : Result (List Token) LexFault) → LexesFrom at bs given → MayHavePlace given
lexes_has _ _ _ (end at) = tt
lexes_has _ _ _ (gap at a rest given g h) = lexes_has (at + length a) rest given h
lexes_has _ _ _ (token at kind a rest given s h) = before_has (placed kind at (at + length a)) given (lexes_has (at + length a) rest given h)
lexes_has _ _ _ (fault at bs f h) = here_has at bs f h

-- what refuses a source that has a lexical fault
pub record IsFault (source : List ℕ) (task : Task) : Type 0 where
  pub refusal : Refusal
  pub status_is : refusal_status refusal ≡ 2
  pub refuses : Refuses source task refusal

fault_with : (source : List ℕ) (task : Task) (f : LexFault) → HasPlace f → HasFault source f → IsFault source task
fault_with source task l.TooLong p h = absurd p
fault_with source task (l.BadByte at) p h = record { refusal = r.BadByte at; status_is = refl; refuses = h }
fault_with source task (l.NumberTooLarge at) p h = record { refusal = r.NumberTooLarge at; status_is = refl; refuses = h }
fault_with source task (l.OpenComment at) p h = record { refusal = r.OpenComment at; status_is = refl; refuses = h }
fault_with source task (l.OpenText at) p h = record { refusal = r.OpenText at; status_is = refl; refuses = h }
fault_with source task l.NoMemory p h = absurd p

pub fault_refuses : (source : List ℕ) (task : Task) (f : LexFault) → HasFault source f → IsFault source task
fault_refuses source task f h = fault_with source task f (lexes_has 0 source (Err f) h.lexed) h
