-- Which texts spell a trace, and the first wrong line of one that spells none.
use Rattle.std.specs.Prelude.{◌≡◌, ◌⊎◌, ℕ, suc, ℤ, pos, negsuc, false, ◌<◌, ◌≤◌, ◌^◌, List, [], ◌∷◌, ◌++◌, length, All}
use Rattle.ac_base.specs.declared.entry.Payload.{Payload}
use Rattle.ac_base.specs.declared.entry.Payload.TheVariants as p
use Rattle.ac_base.specs.declared.entry.Answer.{Answer}
use Rattle.ac_base.specs.declared.entry.Answer.TheVariants as a
use Rattle.ac_base.specs.declared.entry.Event.{Event}
use Rattle.ac_base.specs.declared.entry.Event.TheVariants as e
use Rattle.ac_base.specs.declared.entry.Stamped.{Stamped}
use Rattle.trace_text.specs.declared.version.Version.{Version}
use Rattle.trace_text.specs.declared.version.Version.TheVariants.{Second}
use Rattle.trace_text.specs.declared.trace.Trace.{Trace}
use Rattle.trace_text.specs.declared.trace.TraceEnd.{TraceEnd}
use Rattle.trace_text.specs.Versions.{is_wide, CanSpell}
use Rattle.trace_text.specs.Text.{trace_lines, trace_text, joined}

-- ---- what a text can tell: numbers within their limits

abbrev pub AreBytes : List ℕ → Type 0
AreBytes bytes = All (λ b. b < 256) bytes

-- an int has 64 bits, one of them its sign
abbrev pub IsValue : ℤ → Type 0
IsValue (pos n) = n < 2 ^ 63
IsValue (negsuc n) = n < 2 ^ 63

-- a message has 1 to 16 ints
abbrev pub IsMessage : List ℤ → Type 0
IsMessage message = All IsValue message × ((1 ≤ length message) × (length message ≤ 16))

abbrev pub IsPayload : Payload → Type 0
IsPayload (p.Int message) = IsMessage message
IsPayload (p.Read file from len) = (file < 2 ^ 32) × ((from < 2 ^ 32) × (len < 2 ^ 32))
IsPayload (p.Write file from bytes) = (file < 2 ^ 32) × ((from < 2 ^ 32) × AreBytes bytes)

abbrev pub IsAnswer : Answer → Type 0
IsAnswer (a.Bytes bytes) = AreBytes bytes
IsAnswer (a.Count count) = count < 2 ^ 32
IsAnswer (a.Fault count) = count < 2 ^ 32

abbrev pub IsOffer : ℕ → ℕ → Type 0
IsOffer link number = (link < 2 ^ 32) × (number < 2 ^ 64)

abbrev pub IsEvent : Event → Type 0
IsEvent (e.Offer link number payload) = IsOffer link number × IsPayload payload
IsEvent (e.Withdraw link number) = IsOffer link number
IsEvent (e.Know link number) = IsOffer link number
IsEvent (e.Room link number) = IsOffer link number
IsEvent (e.Got link number message) = IsOffer link number × IsMessage message
IsEvent (e.Pass link number) = IsOffer link number
IsEvent (e.Did link number answer) = IsOffer link number × IsAnswer answer
IsEvent (e.Reply link number answer) = IsOffer link number × IsAnswer answer

pub record IsEntry (s : Stamped) : Type 0 where
  pub stamp_least : 1 ≤ s.entry.stamp
  pub stamp_most : s.entry.stamp < 2 ^ 60
  pub party : s.party < 2 ^ 32
  pub turn : s.entry.turn < 2 ^ 64
  pub event : IsEvent s.entry.event

pub record IsEnd (end : TraceEnd) : Type 0 where
  pub steps : end.steps < 2 ^ 64
  pub output : AreBytes end.output

-- a bound on steps is from 1 to 2,000,000, and at least one core has ended
pub record IsTrace (t : Trace) : Type 0 where
  pub steps_least : 1 ≤ t.steps
  pub steps_most : t.steps ≤ 2000000
  pub few_files : length t.start ≤ 2 ^ 32
  pub files : All AreBytes t.start
  pub entries : All IsEntry t.entries
  pub some_end : 1 ≤ length t.ends
  pub few_ends : length t.ends ≤ 2 ^ 32
  pub ends : All IsEnd t.ends

-- ---- the relation

pub record SpellsTrace (text : List ℕ) (t : Trace) : Type 0 where
  pub is_trace : IsTrace t
  pub is_text : text ≡ trace_text t

-- the text spells this trace, and no other
pub record IsTheTrace (text : List ℕ) (t : Trace) : Type 0 where
  pub spells : SpellsTrace text t
  pub only : (u : Trace) → SpellsTrace text u → u ≡ t

-- ---- in a version, whether the trace needs it or not

-- the text is this trace's in that version
pub record SpellsIn (version : Version) (text : List ℕ) (t : Trace) : Type 0 where
  pub is_trace : IsTrace t
  pub can_spell : CanSpell version t
  pub is_text : text ≡ joined (trace_lines version t)

-- some trace has these lines first, in some version
pub record Begins (lines : List (List ℕ)) : Type 0 where
  pub version : Version
  pub trace : Trace
  pub others : List (List ℕ)
  pub is_trace : IsTrace trace
  pub can_spell : CanSpell version trace
  pub form : trace_lines version trace ≡ lines ++ others

-- ---- the first wrong line

-- The lines before this one begin a trace, and none begins so that has the next line too; a line without its line feed is none.
pub record IsLineWrong (text : List ℕ) (line : ℕ) : Type 0 where
  pub before : List (List ℕ)
  pub rest : List ℕ
  pub place : line ≡ suc (length before)
  pub form : text ≡ joined before ++ rest
  pub begins : Begins before
  pub no_next : (next others : List ℕ) → rest ≡ next ++ (10 ∷ others) → Begins (before ++ next ∷ []) → ⊥
  -- in no version is it the text of a trace; else only its title would be needless
  pub in_none : (version : Version) (t : Trace) → SpellsIn version text t → ⊥

-- Each line is right, but version 1 would do: the first line should name it.
pub record IsNeedless (text : List ℕ) (line : ℕ) : Type 0 where
  pub trace : Trace
  pub narrow : is_wide trace ≡ false
  pub spells : SpellsIn Second text trace
  pub place : line ≡ 1

-- The text is that of no trace, and this is its first wrong line: a line that is itself wrong, or a title that is needless.
pub record IsFirstWrong (text : List ℕ) (line : ℕ) : Type 0 where
  pub fault : IsLineWrong text line ⊎ IsNeedless text line
  pub no_trace : (t : Trace) → SpellsTrace text t → ⊥
