-- A thread starts an operation, and waits for its end.
-- The operation is the same in both. In a cancelled block, which both tell alike (Paths), it has its value at once; else its thread is
-- parked where the value will come.
use Rattle.std.proofs.Common.{◌≡◌, ℕ, ◌+◌, List, [], ◌∷◌, ◌++◌, set, Option, Some, None, Bool, true, false, refl, sym, ap, ◌∙◌, subst, arith}
use Rattle.std.specs.Prelude.{slice_get}
use Rattle.std.proofs.lemmas.List.{length-set}
use Rattle.work_item.specs.declared.ids.Item.{Item}
use Rattle.work_item.specs.declared.cell.Cell.{Cell}
use Rattle.work_item.specs.declared.cell.Cell.TheVariants as cell
use Rattle.cancel_scope.specs.declared.operation.Asked.{Asked}
use Rattle.cancel_scope.specs.declared.operation.Operation.{Operation}
use Rattle.cancel_scope.specs.Outstanding.{started}
use Rattle.core_state.specs.Moves.{On}
use Rattle.core_state.specs.Arrivals.{cancelled}
use Rattle.ac_semantics.specs.Held.{Held, any_marked, with_started}
use Rattle.ac_semantics.specs.Work.{Work, given}
use Rattle.ac_semantics.specs.Statements.{Operates}
use Rattle.ac_semantics.specs.Threads.{Active, Thread, CoreState, thread_at, path, operates as operates_there}
use Rattle.stack_code.specs.declared.instr.Instr.{Instr}
use Rattle.stack_code.specs.Parts.{Parts}
use Rattle.code_meaning.specs.Machine.{Block, Flat, Thread as Stack, counted, is_cancelled, begin, operates, asks_in, asks}
use Rattle.ac_translation.proofs.Tables.{first, one_same, one_other, occ_append}
use Rattle.ac_translation.proofs.Blocks.{at, path_of}
use Rattle.ac_translation.proofs.Paths.{path_cancelled}
use Rattle.ac_translation.proofs.Wakes.{asked_by, runs_without}
use Rattle.ac_translation.proofs.Keeps.{Activation, thread_in, Around, flat, SameBirths, FollowsAt, turn_follows}
use Rattle.ac_translation.proofs.Works.{Sleeps, given_works, sleeps_closes, works_closes}
use Rattle.ac_translation.proofs.Standing.{running, around_of, resting, halted, seated, sitting, Seat, Parked, Together, Stands, rests, runs, with_births, in_stacks, others_put, on_together}

module _ (code : Parts) (bound : ℕ) (s0 : Held) (t : Item) (ws : List Work) (ready : List Item) (ts : List Thread) (activation : Activation) (stacks : List Stack)
    (bs : List (Option Block)) (x : Seat ts t ws activation)
    (h0 : Together code.instrs (seated ts t ws) s0.marks s0.operations ready (Some t) stacks bs) where
  abbrev R : CoreState → Flat → Type 0
  R = Stands code.instrs

  abbrev a : Around
  a = around_of t activation ready stacks bs

  abbrev c : CoreState
  c = running s0 t ws ready ts

  -- the thread stands in a cancelled block in the machine where it does so in the source
  cancelled_same : (s : Held) (work : List Work) (place : ℕ) (below : List Cell) → SameBirths s0 s → Sleeps code.instrs activation (place + 1) below work
      → is_cancelled bs (first (activation.entered ++ activation.around)) ≡ any_marked s.marks (path work (thread_at ts t))
  cancelled_same s work place below b w =
      let h = with_births code.instrs s0 s b h0 in
      let stood : path_of (at (seated ts t ws) t.number) ≡ activation.entered ++ activation.around =
      ap (λ l. l ++ (at (seated ts t ws) t.number).around) x.has ∙ ap (λ l. activation.entered ++ l) (sym x.round) in
      let stands : path work (thread_at ts t) ≡ activation.entered ++ activation.around =
      ap (λ l. l ++ (thread_at ts t).around) (sleeps_closes code.instrs activation (place + 1) below work w) ∙ ap (λ l. activation.entered ++ l) (sym x.was_around) in
      let here = path_cancelled s.marks bs (seated ts t ws) h.good h.tracks t.number h.blocks_are x.lives in
      subst (λ l. is_cancelled bs (first l) ≡ any_marked s.marks (path work (thread_at ts t))) stood
      (here ∙ ap (any_marked s.marks) (stood ∙ sym stands))

  -- it stands in none, and waits
  -- The thread is put away in both, with one operation more of which it is counted as the one that waits.
  waits_there : (link : ℕ) (asked : Asked) (instr : Instr) (s : Held) (place : ℕ) (operands below : List Cell) (work : List Work) → SameBirths s0 s →
      slice_get code.instrs place ≡ Some instr → any_marked s.marks (path work (thread_at ts t)) ≡ false →
      ((k : ℕ) → begin code bound (flat a s place operands k) t (Some instr) ≡ On (operates (flat a s place operands k) t link asked below)) →
      Sleeps code.instrs activation (place + 1) below work → FollowsAt code bound R a c s place operands (Operates link asked s work)
  waits_there link asked instr s place operands below work b is free begins w =
      let h = with_births code.instrs s0 s b h0 in
      let all = seated ts t ws in
      let new = sitting ts t Active work in
      let ts' = seated ts t work in
      let kept = thread_in activation (place + 1) below in
      let mine = started link asked t in
      let operations = s.operations ++ mine ∷ [] in
      let asked_then = λ (u : ℕ). occ_append (λ (o : Operation). o.item.number) u s.operations (mine ∷ []) in
      let on = on_together code.instrs ts t ws activation x work (sleeps_closes code.instrs activation (place + 1) below work w) h in
      let none = runs_without all s.operations ready t h.listed in
      let once : asked_by t.number operations ≡ 1 = let z = asked_then t.number in let o = one_same t.number in omega (arith, z, o, none) in
      let parked : Parked code.instrs 1 new kept = record { activation = activation; place = place + 1; operands = below; is = refl; around = x.was_around; works = w } in
      let together : Together code.instrs ts' s.marks operations ready None (set stacks t.number kept) bs = record {
        stacks_are = length-set stacks t.number kept ∙ on.stacks_are;
        blocks_are = on.blocks_are;
        good = on.good;
        waits = on.waits;
        listed = λ u. let k = on.listed u in let z = asked_then u in omega (arith, k, z);
        tracks = on.tracks;
        others = others_put code.instrs all ts' t new (x.changed Active work) s.operations stacks h.others operations
            (λ u ne. let z = asked_then u in let o = one_other u t.number (λ e. ne (sym e)) in omega (arith, z, o)) kept (in_stacks code.instrs ts t ws activation x h)
            (λ l. subst (λ n. Parked code.instrs n new kept) (sym once) parked);
      } in
      turn_follows code bound R a c instr (resting (with_started s link asked t) ready ts') (λ k. halted (with_started s link asked t) ready (set stacks t.number kept) bs (counted k)) is
      (ap (λ q. On (operates_there q c t link asked s work)) free) begins
      (λ k. rests (with_started s link asked t) ready ts' (set stacks t.number kept) bs (counted k) together)

  -- it has the value at once, and runs on
  goes_there : (link : ℕ) (asked : Asked) (instr : Instr) (s : Held) (place : ℕ) (operands below : List Cell) (work : List Work) → SameBirths s0 s →
      slice_get code.instrs place ≡ Some instr → any_marked s.marks (path work (thread_at ts t)) ≡ true →
      ((k : ℕ) → begin code bound (flat a s place operands k) t (Some instr)
      ≡ On (flat a s (place + 1) (cell.Int cancelled ∷ below) (counted k))) →
      Sleeps code.instrs activation (place + 1) below work → FollowsAt code bound R a c s place operands (Operates link asked s work)
  goes_there link asked instr s place operands below work b is marked begins w =
      let h = with_births code.instrs s0 s b h0 in
      let given_now = given_works code.instrs (cell.Int cancelled) activation (place + 1) below work w in
      let on = on_together code.instrs ts t ws activation x (given (cell.Int cancelled) work) (works_closes code.instrs activation (place + 1) (cell.Int cancelled ∷ below) _ given_now) h in
      turn_follows code bound R a c instr (running s t (given (cell.Int cancelled) work) ready ts) (λ k. flat a s (place + 1) (cell.Int cancelled ∷ below) (counted k)) is
      (ap (λ q. On (operates_there q c t link asked s work)) marked) begins
      (λ k. runs s t (given (cell.Int cancelled) work) ready ts activation (place + 1) (cell.Int cancelled ∷ below) stacks bs (counted k) x.was_active x.was_around on given_now)

  pub waits_follow : (link : ℕ) (asked : Asked) (instr : Instr) (s : Held) (place : ℕ) (operands below : List Cell) (work : List Work) → SameBirths s0 s →
      slice_get code.instrs place ≡ Some instr →
      ((k : ℕ) → begin code bound (flat a s place operands k) t (Some instr) ≡ asks (flat a s place operands k) t link asked below) →
      Sleeps code.instrs activation (place + 1) below work → FollowsAt code bound R a c s place operands (Operates link asked s work)
  waits_follow link asked instr s place operands below work b is begins w = go (any_marked s.marks (path work (thread_at ts t))) refl
    where
      by : (q : Bool) → any_marked s.marks (path work (thread_at ts t)) ≡ q → (k : ℕ) → begin code bound (flat a s place operands k) t (Some instr)
          ≡ asks_in q (flat a s place operands k) t link asked below
      by q e k = begins k ∙ ap (λ z. asks_in z (flat a s place operands k) t link asked below) (cancelled_same s work place below b w ∙ e)

      go : (q : Bool) → any_marked s.marks (path work (thread_at ts t)) ≡ q → FollowsAt code bound R a c s place operands (Operates link asked s work)
      go true e = goes_there link asked instr s place operands below work b is e (by true e) w
      go false e = waits_there link asked instr s place operands below work b is e (by false e) w
