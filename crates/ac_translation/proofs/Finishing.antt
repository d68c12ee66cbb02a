-- A thread arrives at the finish of a block.
-- It passes in both or waits in both, since the count in the table is 0 just where no thread within the block lives (Tracks).
use Rattle.std.proofs.Common.{◌≡◌, ℕ, ◌+◌, ◌<◌, List, [], ◌∷◌, ◌++◌, length, set, Option, Some, None, Bool, true, false, refl, sym, ap, ◌∙◌, subst, nat_eq}
use Rattle.std.specs.Prelude.{slice_get, ◌&&◌}
use Rattle.std.specs.List.{sum_by}
use Rattle.std.proofs.lemmas.List.{length-set}
use Rattle.work_item.specs.declared.ids.Item.{Item}
use Rattle.work_item.specs.declared.ids.BlockId.{BlockId}
use Rattle.core_state.specs.Moves.{Move, On}
use Rattle.ac_semantics.specs.Held.{Held}
use Rattle.ac_semantics.specs.Work.{Work, closes}
use Rattle.ac_semantics.specs.Statements.{Arrives}
use Rattle.ac_semantics.specs.Threads.{Active, AtFinish, Thread, CoreState, thread_at, with_phase, is_among, is_living, none_within, arrives}
use Rattle.stack_code.specs.declared.instr.Instr.TheVariants as i
use Rattle.stack_code.specs.Parts.{Parts}
use Rattle.code_meaning.specs.Machine.{Block, Flat, FlatEnd, Thread as Stack, block_at, with_block, counted, arrives_at, arrives_in, arrives as arrives_there}
use Rattle.ac_translation.proofs.Tables.{first}
use Rattle.ac_translation.proofs.Blocks.{entered, direct, at, none_set, direct_lives, count_tells}
use Rattle.ac_translation.proofs.Changes.{direct_change, same_good, leave_good}
use Rattle.ac_translation.proofs.Tracks.{waits_at, told, changed_same, tracks_leave, tracks_wait}
use Rattle.ac_translation.proofs.Counts.{block_put}
use Rattle.ac_translation.proofs.Wakes.{runs_without, listed_same, listed_gone, waits_change}
use Rattle.ac_translation.proofs.Keeps.{Activation, within, thread_in, Around, flat, SameBirths, FollowsAt, turn_follows}
use Rattle.ac_translation.proofs.Works.{Works, works_closes}
use Rattle.ac_translation.proofs.Standing.{running, around_of, resting, halted, seated, Together, Stands, rests, runs}
use Rattle.ac_translation.proofs.Standing.{with_births, still_stacks, in_stacks, others_kept, others_back, sitting, never_waits, Seat}

same_finish : (b c : BlockId) → AtFinish b ≡ AtFinish c → b ≡ c
same_finish b c e = cc

module _ (code : Parts) (bound : ℕ) (s0 : Held) (t : Item) (ws : List Work) (ready : List Item) (ts : List Thread) (activation : Activation) (stacks : List Stack)
    (bs : List (Option Block)) (x : Seat ts t ws activation)
    (h0 : Together code.instrs (seated ts t ws) s0.marks s0.operations ready (Some t) stacks bs) where
  abbrev R : CoreState → Flat → Type 0
  R = Stands code.instrs

  abbrev a : Around
  a = around_of t activation ready stacks bs

  abbrev c : CoreState
  c = running s0 t ws ready ts

  abbrev all : List Thread
  all = seated ts t ws

  -- the running thread is within the same wherever its work stands
  none_is : (b : BlockId) → none_within b all ≡ none_within b ts
  none_is b = none_set b ts t.number (sitting ts t Active ws) (ap (λ p. is_living p && is_among b (thread_at ts t).around) (sym x.was_active))

  module _ (s : Held) (h : Together code.instrs all s.marks s.operations ready (Some t) stacks bs) (place : ℕ) (block : BlockId) (below : List BlockId) (work : List Work)
      (is : activation.entered ≡ block ∷ below) (w : Works code.instrs (within activation below) place [] work) where
    -- what the table has of the block
    abbrev here : Block
    here = told s.marks all all t.number block below

    inside : entered (at all t.number) ≡ block ∷ below
    inside = x.has ∙ is

    here_is : block_at bs block ≡ Some here
    here_is = h.tracks t.number block [] below x.lives inside

    left : closes work ≡ below
    left = works_closes code.instrs (within activation below) place [] work w

    round_is : first (below ++ (at all t.number).around) ≡ first (below ++ activation.around)
    round_is = ap (λ l. first (below ++ l)) (sym x.round)

    passes : none_within block ts ≡ true → Together code.instrs (seated ts t work) s.marks s.operations ready (Some t) stacks (with_block bs block None)
    passes none =
        let ts' = seated ts t work in
        let new = sitting ts t Active work in
        let change = x.changed Active work in
        let bs' = with_block bs block None in
        let put = block_put bs block here None here_is in
        record {
          stacks_are = still_stacks code.instrs ts t ws activation x h Active work;
          blocks_are = length-set bs block.number None ∙ h.blocks_are;
          good = leave_good all ts' t.number new change (length s.marks) h.good block below x.lives tt x.around inside left (none_is block ∙ none);
          waits = waits_change all ts' t.number new change h.waits (direct_change all ts' t.number new change x.lives tt x.around) (λ b e. absurd (never_waits b e));
          listed = listed_same all ts' t.number new change s.operations ready (Some t) (sym x.active) h.listed;
          tracks = tracks_leave all ts' t.number new change bs bs' s.marks (length s.marks) h.good h.tracks block below (changed_same bs bs' block None put) x.lives
              (λ b ne. ap (λ p. waits_at p b) x.active) refl x.around inside left;
          others = others_kept code.instrs all ts' t new change s.operations stacks h.others;
        }

    abbrev kept : Stack
    kept = thread_in (within activation below) place []

    waits : none_within block ts ≡ false →
        Together code.instrs (with_phase ts t (AtFinish block) work) s.marks s.operations ready None (set stacks t.number kept) (with_block bs block (Some (record here { waits = true })))
    waits none =
        let ts' = with_phase ts t (AtFinish block) work in
        let new = sitting ts t (AtFinish block) work in
        let change = x.changed (AtFinish block) work in
        let y = record here { waits = true } in
        let bs' = with_block bs block (Some y) in
        let some = direct_lives all (length s.marks) h.good t.number block below x.lives inside (none_is block ∙ none) in
        let same : entered new ≡ entered (at all t.number) = ap (λ l. block ∷ l) left ∙ sym inside in
        record {
          stacks_are = length-set stacks t.number kept ∙ still_stacks code.instrs ts t ws activation x h (AtFinish block) work;
          blocks_are = length-set bs block.number (Some y) ∙ h.blocks_are;
          good = same_good all ts' t.number new change (length s.marks) h.good x.lives tt x.around same;
          waits = waits_change all ts' t.number new change h.waits (direct_change all ts' t.number new change x.lives tt x.around)
              (λ b e. subst (λ b. 0 < sum_by (direct b) all) (same_finish block b e) some);
          listed = listed_gone all ts' t.number new change s.operations ready t refl refl h.listed;
          tracks = tracks_wait all ts' t.number new change bs bs' s.marks (length s.marks) h.good h.tracks block below here here_is (block_put bs block here
              (Some y) here_is) x.active refl x.around inside same;
          others = others_back code.instrs all ts' t new change s.operations stacks h.others (runs_without all s.operations ready t h.listed) kept (in_stacks code.instrs ts t ws activation x h)
              (λ _. record { activation = within activation below; place = place; operands = []; is = refl; around = x.was_around; works = w });
        }

    count_is : nat_eq here.count 0 ≡ none_within block ts
    count_is = count_tells all (length s.marks) h.good t.number block below x.lives inside ∙ none_is block

  pub arrives_follow : (slot : ℕ) (s : Held) (place : ℕ) (block : BlockId) (below : List BlockId) (work : List Work) → SameBirths s0 s → slice_get code.instrs place ≡ Some (i.Finish slot) →
      activation.entered ≡ block ∷ below →
      Works code.instrs (within activation below) (place + 1) [] work → FollowsAt code bound R a c s place [] (Arrives block s work)
  arrives_follow slot s place block below work b is e w = go (none_within block ts) refl
    where
      h : Together code.instrs all s.marks s.operations ready (Some t) stacks bs
      h = with_births code.instrs s0 s b h0

      begins : (q : Bool) → none_within block ts ≡ q → (k : ℕ) → arrives_there (flat a s place [] k) t (first (activation.entered ++ activation.around))
          ≡ arrives_at q (flat a s place [] k) t block (here s h (place + 1) block below work e w)
      begins q n k =
          ap (λ l. arrives_there (flat a s place [] k) t (first (l ++ activation.around))) e
          ∙ ap (arrives_in (flat a s place [] k) t block) (here_is s h (place + 1) block below work e w)
          ∙ ap (λ z. arrives_at z (flat a s place [] k) t block (here s h (place + 1) block below work e w)) (count_is s h (place + 1) block below work e w ∙ n)

      go : (q : Bool) → none_within block ts ≡ q → FollowsAt code bound R a c s place [] (Arrives block s work)
      go true n =
          let bs' = with_block bs block None in
          let left = within activation below in
          let m = λ (k : ℕ). flat (around_of t left ready stacks bs') s (place + 1) [] (counted k) in
          turn_follows code bound R a c (i.Finish slot) (running s t work ready ts) m is (ap (λ q. On (arrives q c t block s work)) n)
          (λ k. begins true n k ∙ ap {A = Option BlockId} {B = Move Flat FlatEnd} (λ parent. On (record (m k) { current = record (thread_in left (place + 1) []) { block = parent } }))
          (round_is s h (place + 1) block below work e w))
          (λ k. runs s t work ready ts left (place + 1) [] stacks bs' (counted k) x.was_active x.was_around (passes s h (place + 1) block below work e w n) w)
      go false n =
          let y = record (here s h (place + 1) block below work e w) { waits = true } in
          let bs' = with_block bs block (Some y) in
          let kept = thread_in (within activation below) (place + 1) [] in
          turn_follows code bound R a c (i.Finish slot) (resting s ready (with_phase ts t (AtFinish block) work)) (λ k. halted s ready (set stacks t.number kept) bs' (counted k)) is
          (ap (λ q. On (arrives q c t block s work)) n)
          (λ k. begins false n k ∙ ap {A = Option BlockId} {B = Move Flat FlatEnd} (λ parent. On (halted s ready (set stacks t.number (record kept { block = parent })) bs' (counted k)))
          (round_is s h (place + 1) block below work e w))
          (λ k. rests s ready (with_phase ts t (AtFinish block) work) (set stacks t.number kept) bs' (counted k) (waits s h (place + 1) block below work e w n))
