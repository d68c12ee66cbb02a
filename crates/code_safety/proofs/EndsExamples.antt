-- What a core reaches and which ends a code keeps, in small codes.
-- A code whose core sends at its own end, and codes that send or receive at another's or that reach a function by a call.
use Rattle.std.proofs.Common.{◌≡◌, ℕ, zero, suc, pos, List, [], ◌∷◌, codes, Option, Some, None, refl, sym, ap, ◌∙◌, inr, arith}
use Rattle.std.specs.Prelude.{slice_get}
use Rattle.std.proofs.lemmas.List.Elements.{All-nil, All-cons, All-head}
use Rattle.work_item.specs.declared.cell.Place.{Place}
use Rattle.cancel_scope.specs.declared.operation.Asked.TheVariants as asked
use Rattle.cancel_scope.specs.declared.operation.Operation.{Operation}
use Rattle.cancel_scope.specs.Outstanding.{started}
use Rattle.stack_code.specs.declared.instr.Instr.{Instr}
use Rattle.stack_code.specs.declared.instr.Instr.TheVariants as i
use Rattle.stack_code.specs.declared.parts.ChannelEnds.{ChannelEnds}
use Rattle.stack_code.specs.declared.parts.Entered.{Entered}
use Rattle.stack_code.specs.declared.shape.Home.TheVariants as home
use Rattle.stack_code.specs.declared.shape.Body.{Body}
use Rattle.stack_code.specs.declared.shape.CellKind.TheVariants as kind
use Rattle.stack_code.specs.declared.shape.Leads.TheVariants.{One, Two}
use Rattle.stack_code.specs.Parts.{Parts, Begins}
use Rattle.stack_code.specs.Shapes.{first, pushed}
use Rattle.stack_code.specs.Valid.{Reaches, begins, goes}
use Rattle.code_safety.specs.KeptEnds.{outermost, ReachesFunction, enters, calls, ReachesInstr, IsSender, IsReceiver, KeepsEnds, IsOwnLink, IsAtEnd, AreAtEnds, each_as}

-- ---- bodies

abbrev body : ℕ → Body
body number = record { home = home.Function number; slots = 0 }

abbrev async_body : ℕ → Body
async_body at = record { home = home.Async at; slots = 0 }

pub the_last_is_the_outermost : outermost (async_body 7 ∷ async_body 3 ∷ body 1 ∷ []) ≡ Some (home.Function 1)
the_last_is_the_outermost = refl

pub no_body_is_none : outermost [] ≡ None
no_body_is_none = refl

-- ---- codes of one core, which has the one end of the channel 0

abbrev function : ℕ → Entered
function at = record { name = codes "f"; at = at; params = []; words = 0 }

abbrev ends : ℕ → ℕ → ChannelEnds
ends from to = record { from = from; to = to }

-- the second function begins at address 2
abbrev with_ends : ChannelEnds → List Instr → Parts
with_ends channel instrs = record {
  instrs = instrs;
  functions = function 0 ∷ function 2 ∷ [];
  texts = [];
  entries = 0 ∷ [];
  names = codes "a" ∷ [];
  globals = 1;
  capacities = 4 ∷ 16 ∷ [];
  ends = channel ∷ [];
  starts = [];
  widths = 1 ∷ [];
}

abbrev sending : List Instr
sending = i.Push (pos 1) ∷ i.Send 0 ∷ i.Ret ∷ []

abbrev receiving : List Instr
receiving = i.ArrG 0 1 ∷ i.Recv 0 ∷ i.Ret ∷ []

-- the first function calls the second, which sends
abbrev calling : List Instr
calling = i.Call 1 0 ∷ i.Ret ∷ i.Push (pos 1) ∷ i.Send 0 ∷ i.Ret ∷ []

module _ (channel : ChannelEnds) (instrs : List Instr) where
  abbrev begins_so : Begins (with_ends channel instrs) 0 (function 0)
  begins_so = record { entry = 0; entry_is = refl; function_is = refl }

  at_entry : Reaches (with_ends channel instrs) 0 (first 0 (function 0))
  at_entry = begins 0 (function 0) begins_so

-- the core reaches what it enters, and what that calls
pub it_reaches_its_entry : ReachesFunction (with_ends (ends 0 1) sending) 0 0
it_reaches_its_entry = enters 0 refl

pub it_reaches_what_is_called : ReachesFunction (with_ends (ends 0 1) calling) 0 1
it_reaches_what_is_called = calls 0 1 0 0 (enters 0 refl) (record { shape = first 0 (function 0); reached = at_entry (ends 0 1) calling; round = refl }) refl

-- there is no second core
only_core : (instrs : List Instr) (channel : ChannelEnds) (core f : ℕ) → ReachesFunction (with_ends channel instrs) core f → core ≡ 0
only_core instrs channel zero f h = refl
only_core instrs channel (suc core) _ (enters f e) = let no : ◌≡◌ {A = Option ℕ} None (Some f) = e in absurd (cc)
only_core instrs channel (suc core) _ (calls caller f at count h lies here) = only_core instrs channel (suc core) caller h

pub another_core_reaches_nothing : (f : ℕ) → ReachesFunction (with_ends (ends 0 1) sending) 1 f → ⊥
another_core_reaches_nothing f h = let no : 1 ≡ 0 = only_core sending (ends 0 1) 1 f h in omega (arith, no)

-- its instructions
sent_in : (channel : ChannelEnds) → ReachesInstr (with_ends channel sending) 0 (i.Send 0)
sent_in channel = record {
  function = 0;
  reaches = enters 0 refl;
  at = 1;
  lies = record {
    shape = pushed kind.Int (first 0 (function 0));
    reached = goes 0 (first 0 (function 0)) 1 (pushed kind.Int (first 0 (function 0))) (at_entry channel sending) (record {
      fits = record { instr = i.Push (pos 1); leads = One 1 (pushed kind.Int (first 0 (function 0))); here = refl; finds = refl };
      leads = (refl, refl);
    });
    round = refl;
  };
  stands = refl;
}

received_in : (channel : ChannelEnds) → ReachesInstr (with_ends channel receiving) 0 (i.Recv 0)
received_in channel = record {
  function = 0;
  reaches = enters 0 refl;
  at = 1;
  lies = record {
    shape = pushed (kind.Reference (Some 1)) (first 0 (function 0));
    reached = goes 0 (first 0 (function 0)) 1 (pushed (kind.Reference (Some 1)) (first 0 (function 0))) (at_entry channel receiving) (record {
      fits = record { instr = i.ArrG 0 1; leads = One 1 (pushed (kind.Reference (Some 1)) (first 0 (function 0))); here = refl; finds = refl };
      leads = (refl, refl);
    });
    round = refl;
  };
  stands = refl;
}

pub it_reaches_the_send : ReachesInstr (with_ends (ends 0 1) sending) 0 (i.Send 0)
it_reaches_the_send = sent_in (ends 0 1)

pub it_reaches_no_receive : ReachesInstr (with_ends (ends 0 1) sending) 0 (i.Recv 0) → ⊥
it_reaches_no_receive z = by z.at z.stands where
  by : (at : ℕ) → slice_get sending at ≡ Some (i.Recv 0) → ⊥
  by zero e = cc
  by (suc zero) e = cc
  by (suc (suc zero)) e = cc
  by (suc (suc (suc at))) e = cc

-- ---- its ends

pub it_is_the_sender : IsSender (with_ends (ends 0 1) []) 0 0
it_is_the_sender = record { ends = ends 0 1; there = refl; from = refl }

pub the_other_core_is_not : IsSender (with_ends (ends 0 1) []) 1 0 → ⊥
the_other_core_is_not h =
    let same : ends 0 1 ≡ h.ends = let both : Some (ends 0 1) ≡ Some h.ends = h.there in cc in
    let no : 0 ≡ 1 = ap (λ (x : ChannelEnds). x.from) same ∙ h.from in
    omega (arith, no)

pub it_is_the_receiver : IsReceiver (with_ends (ends 1 0) []) 0 0
it_is_the_receiver = record { ends = ends 1 0; there = refl; to = refl }

pub the_sender_is_not : IsReceiver (with_ends (ends 0 1) []) 0 0 → ⊥
the_sender_is_not h =
    let same : ends 0 1 ≡ h.ends = let both : Some (ends 0 1) ≡ Some h.ends = h.there in cc in
    let no : 1 ≡ 0 = ap (λ (x : ChannelEnds). x.to) same ∙ h.to in
    omega (arith, no)

pub it_keeps_its_end : KeepsEnds (with_ends (ends 0 1) sending)
it_keeps_its_end = record {
  sends = λ core channel z. by core channel (only_core sending (ends 0 1) core z.function z.reaches) z.at z.stands;
  receives = λ core channel z. absurd (none channel z.at z.stands);
}
  where
    by : (core channel : ℕ) → core ≡ 0 → (at : ℕ) → slice_get sending at ≡ Some (i.Send channel) → IsSender (with_ends (ends 0 1) sending) core channel
    by core channel e zero s = absurd (cc)
    by core channel e (suc zero) s =
        let same : 0 ≡ channel = cc in
        record { ends = ends 0 1; there = ap (slice_get (ends 0 1 ∷ [])) (sym same); from = sym e }
    by core channel e (suc (suc zero)) s = absurd (cc)
    by core channel e (suc (suc (suc at))) s = absurd (cc)

    none : (channel at : ℕ) → slice_get sending at ≡ Some (i.Recv channel) → ⊥
    none channel zero s = cc
    none channel (suc zero) s = cc
    none channel (suc (suc zero)) s = cc
    none channel (suc (suc (suc at))) s = cc

not_from_one : (instrs : List Instr) → IsSender (with_ends (ends 1 0) instrs) 0 0 → ⊥
not_from_one instrs h =
    let same : ends 1 0 ≡ h.ends = let both : Some (ends 1 0) ≡ Some h.ends = h.there in cc in
    let no : 1 ≡ 0 = ap (λ (x : ChannelEnds). x.from) same ∙ h.from in
    omega (arith, no)

pub it_sends_at_the_other_end : KeepsEnds (with_ends (ends 1 0) sending) → ⊥
it_sends_at_the_other_end h = not_from_one sending (h.sends 0 0 (sent_in (ends 1 0)))

pub it_receives_at_the_other_end : KeepsEnds (with_ends (ends 0 1) receiving) → ⊥
it_receives_at_the_other_end h =
    let k = h.receives 0 0 (received_in (ends 0 1)) in
    let same : ends 0 1 ≡ k.ends = let both : Some (ends 0 1) ≡ Some k.ends = k.there in cc in
    let no : 1 ≡ 0 = ap (λ (x : ChannelEnds). x.to) same ∙ k.to in
    omega (arith, no)

pub what_it_calls_sends_at_the_other_end : KeepsEnds (with_ends (ends 1 0) calling) → ⊥
what_it_calls_sends_at_the_other_end h = not_from_one calling (h.sends 0 0 (record {
  function = 1;
  reaches = calls 0 1 0 0 (enters 0 refl) (record { shape = first 0 (function 0); reached = at_entry (ends 1 0) calling; round = refl }) refl;
  at = 3;
  lies = record {
    shape = pushed kind.Int (first 1 (function 2));
    reached = goes 2 (first 1 (function 2)) 3 (pushed kind.Int (first 1 (function 2)))
        (goes 0 (first 0 (function 0)) 2 (first 1 (function 2)) (at_entry (ends 1 0) calling) (record {
          fits = record { instr = i.Call 1 0; leads = Two 1 (pushed kind.Int (first 0 (function 0))) 2 (first 1 (function 2)); here = refl; finds = refl };
          leads = inr (refl, refl);
        }))
        (record {
          fits = record { instr = i.Push (pos 1); leads = One 3 (pushed kind.Int (first 1 (function 2))); here = refl; finds = refl };
          leads = (refl, refl);
        });
    round = refl;
  };
  stands = refl;
}))

-- ---- operations and states

pub a_send_at_its_end : IsAtEnd (with_ends (ends 0 1) []) 0 0 (asked.Send (pos 5 ∷ []))
a_send_at_its_end = it_is_the_sender

pub a_send_at_the_other_end : IsAtEnd (with_ends (ends 0 1) []) 1 0 (asked.Send (pos 5 ∷ [])) → ⊥
a_send_at_the_other_end h = the_other_core_is_not h

-- the own links of the cores come after the one channel
pub own_links : IsOwnLink (with_ends (ends 0 1) []) 0 1 × IsOwnLink (with_ends (ends 0 1) []) 1 2
own_links = (refl, refl)

pub the_link_of_another_core : IsOwnLink (with_ends (ends 0 1) []) 0 2 → ⊥
the_link_of_another_core h = let no : 2 ≡ 1 = h in omega (arith, no)

abbrev element : Place
element = record { home = None; start = 0; len = 1 }

pub a_read_at_its_end : IsAtEnd (with_ends (ends 0 1) []) 1 2 (asked.Read 3 64 element)
a_read_at_its_end = refl

pub a_write_at_its_end : IsAtEnd (with_ends (ends 0 1) []) 1 2 (asked.Write 3 64 (7 ∷ []))
a_write_at_its_end = refl

pub a_read_on_a_channel : IsAtEnd (with_ends (ends 0 1) []) 0 0 (asked.Read 3 64 element) → ⊥
a_read_on_a_channel h = let no : 0 ≡ 1 = h in omega (arith, no)

-- a core whose only operation sends on the channel
abbrev sends : Operation
sends = started 0 (asked.Send (pos 5 ∷ [])) (record { number = 0 })

abbrev at_end_of : ℕ → Operation → Type 0
at_end_of core o = IsAtEnd (with_ends (ends 0 1) []) core o.link o.asked

pub all_at_their_ends : AreAtEnds (with_ends (ends 0 1) []) 0 (sends ∷ [])
all_at_their_ends = All-cons (at_end_of 0) sends [] a_send_at_its_end (All-nil (at_end_of 0))

pub one_at_the_other_end : AreAtEnds (with_ends (ends 0 1) []) 1 (sends ∷ []) → ⊥
one_at_the_other_end h = a_send_at_the_other_end (All-head (at_end_of 1) sends [] h)

pub every_core_as_the_second : (each_as (record (with_ends (ends 0 1) []) { entries = 0 ∷ 1 ∷ [] }) 1).entries ≡ 1 ∷ 1 ∷ []
every_core_as_the_second = refl
