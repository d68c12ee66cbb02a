-- Two instructions at once, or three: a push of an int and an operator behind it, and a comparison and the jump at 0 behind it.
-- The first is a move and leaves the core sound, so what the next one finds there is known beforehand (`AtPush`, `AtComparison`): its address, and the ints on top.
-- What it leads to is what both lead to, by way of a state that no field ever holds (`pushed`, `applied`).
use Rattle.std.proofs.Common.{◌≡◌, ◌≢◌, ℕ, ℤ, ◌+◌, ◌<◌, ◌^◌, List, [], ◌∷◌, length, drop, None, Some, IsSome, Bool, true, false, ◌&&◌, refl, sym, ap, ◌∙◌, subst, arith, slice_get, slice_index_or}
use Rattle.std.proofs.lemmas.Option.{slice_get-get_or}
use Rattle.work_item.specs.declared.ids.Item.{Item}
use Rattle.work_item.specs.declared.cell.Cell.{Cell}
use Rattle.work_item.specs.declared.cell.Cell.TheVariants as cell
use Rattle.core_state.specs.Arithmetic.{is_equal, is_not_equal, is_less, is_at_most}
use Rattle.stack_code.specs.declared.instr.Instr.{Instr}
use Rattle.stack_code.specs.declared.instr.Instr.TheVariants as i
use Rattle.stack_code.specs.Parts.{Parts}
use Rattle.stack_code.specs.Kept.{IsRanked}
use Rattle.code_safety.specs.Fit.{is_int}
use Rattle.code_meaning.specs.Machine.{Flat, always, on_two, or_trap, goes}
use Rattle.thread_table.specs.Operands.{on_top}
use Rattle.core_machine.specs.declared.running.Running.{Running}
use Rattle.core_machine.specs.declared.went.Follows.{Follows}
use Rattle.core_machine.specs.declared.went.Follows.TheVariants.{Same, Away, Asks, Refused}
use Rattle.core_machine.specs.State.{flat_of, IsSound}
use Rattle.core_machine.specs.inner.Changes.{IsSameCode, KeepsCode, Does, Places, Stays}
use Rattle.core_machine.specs.inner.Left.{left_of}
use Rattle.core_machine.specs.inner.Led.{IsLed, onward, pushed, applied, DoesSome, DoesOn}
use Rattle.core_machine.specs.inner.Needs.{Finds, HasInts}
use Rattle.core_machine.specs.inner.Operands.{Stand, int_below}
use Rattle.core_machine.specs.inner.Operators.{binary, is_comparison, is_jump}
use Rattle.core_machine.proofs.Led.{led_once, led_none, led_on}
use Rattle.core_machine.proofs.Sound as sound
use Rattle.core_machine.proofs.Sound.{running, moved_by, still_sound, stays_sound, instr_placed, is_item, within, inside, finds_there}

finds_ints : (code : Parts) (m : Flat) (instr : Instr) → IsSome (binary instr) → Finds code m instr → HasInts m
finds_ints code m i.BitOr h f = f
finds_ints code m i.BitXor h f = f
finds_ints code m i.BitAnd h f = f
finds_ints code m i.Eq h f = f
finds_ints code m i.Ne h f = f
finds_ints code m i.Less h f = f
finds_ints code m i.LessEq h f = f
finds_ints code m i.More h f = f
finds_ints code m i.MoreEq h f = f
finds_ints code m i.Shl h f = f
finds_ints code m i.Shr h f = f
finds_ints code m i.Add h f = f
finds_ints code m i.Sub h f = f
finds_ints code m i.Mul h f = f
finds_ints code m i.Div h f = f
finds_ints code m i.Rem h f = f
finds_ints code m _ h f = let no : false ≡ true = h in cc

-- ---- one instruction after another

-- some instructions were done, the core is sound, and less is left to do
abbrev pub LeadsOn : List ℕ → Running → Running → Type 0
LeadsOn ranks m after = IsLed m after × (IsSound after × (left_of ranks after < left_of ranks m))

one_on : (ranks : List ℕ) (m after : Running) → m.ended ≡ None → IsSome m.schedule.running → IsSound m → IsRanked m.code.now ranks → (instr : Instr)
    → slice_get m.code.now.instrs m.place ≡ Some instr → Does m instr after → Places m instr after → KeepsCode m after → LeadsOn ranks m after
one_on ranks m after still runs is_sound ranked instr here does places kept =
    let t = is_item m.schedule.running runs in
    let moved = moved_by m after t.0 instr t.1 here does in (
      led_once m after still runs (sym moved),
      (
        still_sound m after still is_sound kept moved ranks ranked (instr_placed m after still is_sound kept moved t.0 instr t.1 here places),
        sound.less m after still is_sound kept moved ranks ranked,
      ),
    )

on_from : (ranks : List ℕ) (m p after : Running) → IsSameCode m p → LeadsOn ranks m p → LeadsOn ranks p after → LeadsOn ranks m after
on_from ranks m p after same a b = (led_on m p after same a.0 b.0, (b.1.0, omega (arith, a.1.1, b.1.1)))

-- an instruction that goes on to the next address, and changes operands alone
module _ (m : Running) (still : m.ended ≡ None) (runs : IsSome m.schedule.running) (is_sound : IsSound m) (ranks : List ℕ) (ranked : IsRanked m.code.now ranks)
    (instr : Instr) (operands : List Cell) (here : slice_get m.code.now.instrs m.place ≡ Some instr) (does : Does m instr (onward m operands))
    (places : Places m instr (onward m operands)) where
  abbrev p : Running
  p = onward m operands

  abbrev t : Item
  t = (is_item m.schedule.running runs).0

  run : m.schedule.running ≡ Some t
  run = (is_item m.schedule.running runs).1

  to_there : LeadsOn ranks m p
  to_there = one_on ranks m p still runs is_sound ranked instr here does places (record { code = refl; core = refl; bound = refl; journal = refl; seats = λ h. h })

  next_within : m.place + 1 < length m.code.now.instrs
  next_within = within m.code.now m.bound (flat_of p) (to_there.1.0.fit still) is_sound.valid t run

  next_inside : m.place + 1 < 2 ^ 32
  next_inside = inside m.code.now m.bound (flat_of p) (to_there.1.0.fit still) is_sound.valid t run

  next_there : (instrs : List Instr) → instrs ≡ m.code.now.instrs → slice_get m.code.now.instrs (m.place + 1) ≡ Some (slice_index_or instrs (m.place + 1) i.Step)
  next_there instrs own = slice_get-get_or m.code.now.instrs (m.place + 1) i.Step next_within ∙ ap (λ xs. Some (slice_index_or xs (m.place + 1) i.Step)) (sym own)

  next_finds : (next : Instr) → slice_get m.code.now.instrs (m.place + 1) ≡ Some next → Finds m.code.now (flat_of p) next
  next_finds next there = finds_there m.code.now m.bound (flat_of p) (to_there.1.0.fit still) is_sound.valid t run (to_there.1.0.chained still) next there

  then_on : (after : Running) → LeadsOn ranks p after → LeadsOn ranks m after
  then_on after on = on_from ranks m p after (record { code = refl; core = refl; bound = refl; seats = λ h. h }) to_there on

  two_on : (next : Instr) → slice_get m.code.now.instrs (m.place + 1) ≡ Some next → (after : Running) → Does p next after → Places p next after → KeepsCode m after → LeadsOn ranks m after
  two_on next there after does_next placed kept =
      let on : KeepsCode p after = record { code = kept.code; core = kept.core; bound = kept.bound; journal = kept.journal; seats = kept.seats } in
      then_on after (one_on ranks p after still runs to_there.1.0 ranked next there does_next placed on)

-- ---- a comparison

two_given : (m : Flat) (f : ℤ → ℤ → ℤ) (operands : List Cell) → Stand (is_int ∷ is_int ∷ []) operands
    → on_two m (λ x y below. or_trap m (always f (int_below (x ∷ []) 0) (int_below (y ∷ []) 0)) (λ v. goes m (cell.Int v ∷ below))) operands
    ≡ goes m (cell.Int (f (int_below operands 1) (int_below operands 0)) ∷ drop 2 operands)
two_given m f [] h = let no : false ≡ true = h.0 in cc
two_given m f (y ∷ []) h = let no : false ≡ true = h.1.0 in cc
two_given m f (y ∷ x ∷ below) h = refl

-- it leaves what it gives in the place of the two ints
compare_does : (m : Running) (instr : Instr) → m.ended ≡ None → is_comparison instr ≡ true → HasInts (flat_of m) → Does m instr (applied m instr)
compare_does m i.Eq still h ints = running (flat_of (applied m i.Eq)) m.ended still ∙ sym (two_given (flat_of m) is_equal m.operands ints)
compare_does m i.Ne still h ints = running (flat_of (applied m i.Ne)) m.ended still ∙ sym (two_given (flat_of m) is_not_equal m.operands ints)
compare_does m i.Less still h ints = running (flat_of (applied m i.Less)) m.ended still ∙ sym (two_given (flat_of m) is_less m.operands ints)
compare_does m i.LessEq still h ints = running (flat_of (applied m i.LessEq)) m.ended still ∙ sym (two_given (flat_of m) is_at_most m.operands ints)
compare_does m i.More still h ints = running (flat_of (applied m i.More)) m.ended still ∙ sym (two_given (flat_of m) (λ x y. is_less y x) m.operands ints)
compare_does m i.MoreEq still h ints = running (flat_of (applied m i.MoreEq)) m.ended still ∙ sym (two_given (flat_of m) (λ x y. is_at_most y x) m.operands ints)
compare_does m _ still h ints = let no : false ≡ true = h in cc

compare_places : (m : Running) (instr : Instr) → is_comparison instr ≡ true → Places m instr (applied m instr)
compare_places m i.Eq h = λ e. refl
compare_places m i.Ne h = λ e. refl
compare_places m i.Less h = λ e. refl
compare_places m i.LessEq h = λ e. refl
compare_places m i.More h = λ e. refl
compare_places m i.MoreEq h = λ e. refl
compare_places m _ h = let no : false ≡ true = h in cc

-- where the core has not ended by it, the places are as they were
compare_lives : (m after : Running) (instr : Instr) → is_comparison instr ≡ true → Places m instr after → after.ended ≡ None → after.threads.lives ≡ m.threads.lives
compare_lives m after i.Eq h p = p
compare_lives m after i.Ne h p = p
compare_lives m after i.Less h p = p
compare_lives m after i.LessEq h p = p
compare_lives m after i.More h p = p
compare_lives m after i.MoreEq h p = p
compare_lives m after _ h p = let no : false ≡ true = h in cc

jump_places : (m after : Running) (instr : Instr) → is_jump instr ≡ true → (after.ended ≡ None → after.threads.lives ≡ m.threads.lives) → Places m instr after
jump_places m after (i.Jz to) h same = same
jump_places m after _ h same = let no : false ≡ true = h in cc

is_binary : (instr : Instr) → is_comparison instr ≡ true → IsSome (binary instr)
is_binary i.Eq h = refl
is_binary i.Ne h = refl
is_binary i.Less h = refl
is_binary i.LessEq h = refl
is_binary i.More h = refl
is_binary i.MoreEq h = refl
is_binary _ h = let no : false ≡ true = h in cc

-- no jump at 0 is behind it
not_jump : (next : Instr) → ((to : ℕ) → next ≡ i.Jz to → ⊥) → is_jump next ≡ false
not_jump (i.Jz to) h = absurd (h to refl)
not_jump _ h = refl

pub done_alone : (m after : Running) (instr next : Instr) → ((to : ℕ) → next ≡ i.Jz to → ⊥) → Does m instr after → DoesOn m instr next after
done_alone m after instr next h d = by (is_comparison instr) (is_jump next) (not_jump next h)
  where
    by : (a b : Bool) → b ≡ false → DoesSome (a && b) m instr next after
    by true true e = let no : true ≡ false = e in cc
    by true false e = d
    by false b e = d

-- what is known where a thread is to compare two ints
pub record AtComparison (m : Running) (instr : Instr) (instrs : List Instr) (ranks : List ℕ) : Type 0 where
  pub within : m.place + 1 < length instrs
  pub two : (after : Running) → Does (applied m instr) (slice_index_or instrs (m.place + 1) i.Step) after → is_jump (slice_index_or instrs (m.place + 1) i.Step) ≡ true
      → Places m instr after → KeepsCode m after → LeadsOn ranks m after

pub at_comparison : (m : Running) → m.ended ≡ None → IsSome m.schedule.running → IsSound m → (instr : Instr) → slice_get m.code.now.instrs m.place ≡ Some instr
    → is_comparison instr ≡ true → (ranks : List ℕ) → IsRanked m.code.now ranks → (instrs : List Instr) → instrs ≡ m.code.now.instrs → AtComparison m instr instrs ranks
at_comparison m still runs is_sound instr here compares ranks ranked instrs own =
    let t = is_item m.schedule.running runs in
    let found = finds_there m.code.now m.bound (flat_of m) (is_sound.fit still) is_sound.valid t.0 t.1 (is_sound.chained still) instr here in
    let ints = finds_ints m.code.now (flat_of m) instr (is_binary instr compares) found in
    let does = compare_does m instr still compares ints in
    let places = compare_places m instr compares in
    let next = slice_index_or instrs (m.place + 1) i.Step in
    record {
      within = subst (λ xs. m.place + 1 < length xs) (sym own) (next_within m still runs is_sound ranks ranked instr (applied m instr).operands here does places);
      two = λ after does_next jumps placed kept. two_on m still runs is_sound ranks ranked instr (applied m instr).operands here does places next
          (next_there m still runs is_sound ranks ranked instr (applied m instr).operands here does places instrs own) after does_next
          (jump_places (applied m instr) after next jumps (compare_lives m after instr compares placed)) kept;
    }

-- an instruction was done, or a comparison and the jump behind it
pub does_on : (m : Running) → m.ended ≡ None → IsSome m.schedule.running → IsSound m → (instr : Instr) → slice_get m.code.now.instrs m.place ≡ Some instr
    → (ranks : List ℕ) → IsRanked m.code.now ranks → (instrs : List Instr) → instrs ≡ m.code.now.instrs → (after : Running)
    → DoesOn m instr (slice_index_or instrs (m.place + 1) i.Step) after → Places m instr after → KeepsCode m after → LeadsOn ranks m after
does_on m still runs is_sound instr here ranks ranked instrs own after does places kept = by (is_comparison instr) (is_jump next) refl refl does
  where
    next : Instr
    next = slice_index_or instrs (m.place + 1) i.Step

    by : (a b : Bool) → is_comparison instr ≡ a → is_jump next ≡ b → DoesSome (a && b) m instr next after → LeadsOn ranks m after
    by true true compares jumps d = (at_comparison m still runs is_sound instr here compares ranks ranked instrs own).two after d jumps places kept
    by true false compares jumps d = one_on ranks m after still runs is_sound ranked instr here d places kept
    by false b compares jumps d = one_on ranks m after still runs is_sound ranked instr here d places kept

-- so it went, or nothing was done
pub went_on : (m after : Running) (how : Follows) (ranks : List ℕ) → IsSound m → IsSameCode m after → (how ≢ Asks → how ≢ Refused → LeadsOn ranks m after)
    → (how ≡ Asks → Stays m after) → (how ≡ Refused → Stays m after) → IsLed m after × IsSound after
went_on m after Same ranks is_sound same done stays refused =
    let h = done (λ e. let no : Same ≡ Asks = e in cc) (λ e. let no : Same ≡ Refused = e in cc) in (h.0, h.1.0)
went_on m after Away ranks is_sound same done stays refused =
    let h = done (λ e. let no : Away ≡ Asks = e in cc) (λ e. let no : Away ≡ Refused = e in cc) in (h.0, h.1.0)
went_on m after Asks ranks is_sound same done stays refused = (led_none m after (stays refl), stays_sound m after is_sound (stays refl) same)
went_on m after Refused ranks is_sound same done stays refused = (led_none m after (refused refl), stays_sound m after is_sound (refused refl) same)

-- what is known where a thread is to push an int
pub record AtPush (m : Running) (value : ℤ) (instrs : List Instr) (ranks : List ℕ) : Type 0 where
  pub within : m.place + 1 < length instrs
  pub inside : m.place + 1 < 2 ^ 32
  pub int : IsSome (binary (slice_index_or instrs (m.place + 1) i.Step)) → on_top is_int m.operands ≡ true
  pub third : is_comparison (slice_index_or instrs (m.place + 1) i.Step) ≡ true → m.place + 1 + 1 < length instrs
  pub some : (after : Running) → DoesOn (pushed m value) (slice_index_or instrs (m.place + 1) i.Step) (slice_index_or instrs (m.place + 1 + 1) i.Step) after
      → Places (pushed m value) (slice_index_or instrs (m.place + 1) i.Step) after → KeepsCode m after → LeadsOn ranks m after

pub at_push : (m : Running) → m.ended ≡ None → IsSome m.schedule.running → IsSound m → (value : ℤ) → slice_get m.code.now.instrs m.place ≡ Some (i.Push value)
    → (ranks : List ℕ) → IsRanked m.code.now ranks → (instrs : List Instr) → instrs ≡ m.code.now.instrs → AtPush m value instrs ranks
at_push m still runs is_sound value here ranks ranked instrs own =
    let p = pushed m value in
    let does = running (flat_of p) p.ended still in
    let places : Places m (i.Push value) p = λ e. refl in
    let there = next_there m still runs is_sound ranks ranked (i.Push value) p.operands here does places instrs own in
    let next = slice_index_or instrs (m.place + 1) i.Step in
    let sound_there = (to_there m still runs is_sound ranks ranked (i.Push value) p.operands here does places).1.0 in
    record {
      within = subst (λ xs. m.place + 1 < length xs) (sym own) (next_within m still runs is_sound ranks ranked (i.Push value) p.operands here does places);
      inside = next_inside m still runs is_sound ranks ranked (i.Push value) p.operands here does places;
      int = λ h. (finds_ints m.code.now (flat_of p) next h (next_finds m still runs is_sound ranks ranked (i.Push value) p.operands here does places next there)).1.0;
      third = λ h. (at_comparison p still runs sound_there next there h ranks ranked instrs own).within;
      some = λ after d placed kept. then_on m still runs is_sound ranks ranked (i.Push value) p.operands here does places after
          (does_on p still runs sound_there next there ranks ranked instrs own after d placed
          (record { code = kept.code; core = kept.core; bound = kept.bound; journal = kept.journal; seats = kept.seats }));
    }
