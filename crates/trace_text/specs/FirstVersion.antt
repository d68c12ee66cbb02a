-- The text of a trace as it was when a message was one int, and what it spelled: the texts of version 1 for themselves. Only what tells
-- of no message is said elsewhere.
use Rattle.std.specs.Prelude.{◌≡◌, ℕ, ℤ, pos, ◌<◌, ◌≤◌, ◌^◌, List, [], ◌∷◌, ◌++◌, length, codes, All}
use Rattle.std.specs.Fmt.{decimal, signed_decimal}
use Rattle.ac_base.specs.Hexadecimal.{hex_of}
use Rattle.ac_base.specs.declared.entry.Payload.{Payload}
use Rattle.ac_base.specs.declared.entry.Payload.TheVariants as p
use Rattle.ac_base.specs.declared.entry.Event.{Event}
use Rattle.ac_base.specs.declared.entry.Event.TheVariants as e
use Rattle.ac_base.specs.declared.entry.Stamped.{Stamped}
use Rattle.trace_text.specs.declared.trace.Trace.{Trace}
use Rattle.trace_text.specs.Text.{spaced, offer_name, answer_text, steps_line, file_lines, end_lines, joined}
use Rattle.trace_text.specs.Spelling.{AreBytes, IsValue, IsAnswer, IsOffer, IsEnd}

-- the int that a message was
abbrev pub the_int : List ℤ → ℤ
the_int [] = pos 0
the_int (int ∷ ints) = int

-- ---- the text

abbrev pub first_payload : Payload → List ℕ
first_payload (p.Int message) = codes " int " ++ signed_decimal (the_int message)
first_payload (p.Read file from len) = codes " read " ++ (decimal file ++ (spaced from ++ spaced len))
first_payload (p.Write file from bytes) = codes " write " ++ (decimal file ++ (spaced from ++ (codes " " ++ hex_of bytes)))

abbrev pub first_event : Event → List ℕ
first_event (e.Offer link number payload) = codes " offer " ++ (offer_name link number ++ first_payload payload)
first_event (e.Withdraw link number) = codes " withdraw " ++ offer_name link number
first_event (e.Know link number) = codes " know " ++ offer_name link number
first_event (e.Room link number) = codes " room " ++ offer_name link number
first_event (e.Got link number message) = codes " got " ++ (offer_name link number ++ (codes " " ++ signed_decimal (the_int message)))
first_event (e.Pass link number) = codes " pass " ++ offer_name link number
first_event (e.Did link number answer) = codes " did " ++ (offer_name link number ++ answer_text answer)
first_event (e.Reply link number answer) = codes " reply " ++ (offer_name link number ++ answer_text answer)

abbrev pub first_entry : Stamped → List ℕ
first_entry s = decimal s.entry.stamp ++ (spaced s.party ++ (spaced s.entry.turn ++ first_event s.entry.event))

abbrev pub first_entries : List Stamped → List (List ℕ)
first_entries [] = []
first_entries (s ∷ ss) = first_entry s ∷ first_entries ss

abbrev pub first_lines : Trace → List (List ℕ)
first_lines t =
    codes "ac-trace 1" ∷ steps_line t.steps ∷ (file_lines 0 t.start ++ (first_entries t.entries ++ end_lines 0 t.ends))

abbrev pub first_text : Trace → List ℕ
first_text t = joined (first_lines t)

-- ---- what it could tell

abbrev pub IsFirstMessage : List ℤ → Type 0
IsFirstMessage message = (length message ≡ 1) × IsValue (the_int message)

abbrev pub IsFirstPayload : Payload → Type 0
IsFirstPayload (p.Int message) = IsFirstMessage message
IsFirstPayload (p.Read file from len) = (file < 2 ^ 32) × ((from < 2 ^ 32) × (len < 2 ^ 32))
IsFirstPayload (p.Write file from bytes) = (file < 2 ^ 32) × ((from < 2 ^ 32) × AreBytes bytes)

abbrev pub IsFirstEvent : Event → Type 0
IsFirstEvent (e.Offer link number payload) = IsOffer link number × IsFirstPayload payload
IsFirstEvent (e.Withdraw link number) = IsOffer link number
IsFirstEvent (e.Know link number) = IsOffer link number
IsFirstEvent (e.Room link number) = IsOffer link number
IsFirstEvent (e.Got link number message) = IsOffer link number × IsFirstMessage message
IsFirstEvent (e.Pass link number) = IsOffer link number
IsFirstEvent (e.Did link number answer) = IsOffer link number × IsAnswer answer
IsFirstEvent (e.Reply link number answer) = IsOffer link number × IsAnswer answer

pub record IsFirstEntry (s : Stamped) : Type 0 where
  pub stamp_least : 1 ≤ s.entry.stamp
  pub stamp_most : s.entry.stamp < 2 ^ 60
  pub party : s.party < 2 ^ 32
  pub turn : s.entry.turn < 2 ^ 64
  pub event : IsFirstEvent s.entry.event

pub record IsFirstTrace (t : Trace) : Type 0 where
  pub steps_least : 1 ≤ t.steps
  pub steps_most : t.steps ≤ 2000000
  pub few_files : length t.start ≤ 2 ^ 32
  pub files : All AreBytes t.start
  pub entries : All IsFirstEntry t.entries
  pub some_end : 1 ≤ length t.ends
  pub few_ends : length t.ends ≤ 2 ^ 32
  pub ends : All IsEnd t.ends

-- the text spelled this trace
pub record FirstSpells (text : List ℕ) (t : Trace) : Type 0 where
  pub is_trace : IsFirstTrace t
  pub is_text : text ≡ first_text t
