-- A thread ends, and may wake the owner of its block.
-- In both its frame is given back and it is counted out. The source looks for a finish that may pass, the machine at the count of one
-- block; that these tell the same is Ends.
use Rattle.std.proofs.Common.{◌≡◌, ℕ, ◌+◌, ◌-◌, ◌<◌, List, [], ◌∷◌, ◌++◌, length, set, Option, Some, None, Bool, true, false, inl, inr, refl, sym, ap, ◌∙◌, subst, arith, nat_eq}
use Rattle.std.specs.Prelude.{slice_get, ◌&&◌}
use Rattle.std.specs.List.{sum_by}
use Rattle.std.proofs.lemmas.List.{length-set}
use Rattle.std.proofs.lemmas.Bool.{cases_lt, eqb-true}
use Rattle.std.proofs.lemmas.Bool.Decides.{nat_tests}
use Rattle.work_item.specs.declared.ids.Item.{Item}
use Rattle.work_item.specs.declared.ids.BlockId.{BlockId}
use Rattle.work_item.specs.Store.{released}
use Rattle.core_state.specs.Moves.{Move, On}
use Rattle.ac_semantics.specs.Held.{Held, with_store}
use Rattle.ac_semantics.specs.Work.{Work, closes}
use Rattle.ac_semantics.specs.Statements.{Dies}
use Rattle.ac_semantics.specs.Threads.{Active, AtFinish, Ended, Thread, nobody, CoreState, with_phase, woken, wakes}
use Rattle.stack_code.specs.declared.instr.Instr.TheVariants as i
use Rattle.stack_code.specs.Parts.{Parts}
use Rattle.code_meaning.specs.Machine.{Block, Flat, FlatEnd, Thread as Stack, nobody as no_stack, block_at, with_block, counted, counted_out, dies_in, dies as dies_there}
use Rattle.ac_translation.proofs.Tables.{Changed, set_changed, found, in_table, first, one_same}
use Rattle.ac_translation.proofs.Blocks.{other_block, Lives, entered, head_is, direct, at, OwnerOf, Good, Waits}
use Rattle.ac_translation.proofs.Tracks.{SameBut, waits_at, told, Tracks, changed_same, unequal, tracks_leave, tracks_count}
use Rattle.ac_translation.proofs.Counts.{block_put, counted_out_tells}
use Rattle.ac_translation.proofs.Wakes.{item, active as is_counted, asked_by, Listed, runs_without, listed_gone, listed_new}
use Rattle.ac_translation.proofs.Ends.{left_good, one_less, none_woken, some_left, not_arrived, at_finish, has_entered, owner_lives, owner_woken, freed_good, freed_waits}
use Rattle.ac_translation.proofs.WellFormed.{both_true}
use Rattle.ac_translation.proofs.Keeps.{Activation, Around, flat, SameBirths, FollowsAt, turn_follows}
use Rattle.ac_translation.proofs.Standing.{running, around_of, resting, halted, seated, stack_at, Parked, Others, Together}
use Rattle.ac_translation.proofs.Standing.{Stands, rests, with_births, still_stacks, in_stacks, others_back, sitting, Seat}

module _ (code : Parts) (bound : ℕ) (s0 : Held) (t : Item) (ws : List Work) (ready : List Item) (ts : List Thread) (activation : Activation) (stacks : List Stack)
    (bs : List (Option Block)) (x : Seat ts t ws activation)
    (h0 : Together code.instrs (seated ts t ws) s0.marks s0.operations ready (Some t) stacks bs) where
  abbrev R : CoreState → Flat → Type 0
  R = Stands code.instrs

  abbrev a : Around
  a = around_of t activation ready stacks bs

  abbrev c : CoreState
  c = running s0 t ws ready ts

  abbrev all : List Thread
  all = seated ts t ws

  -- the threads where it has ended
  abbrev dead : List Thread
  dead = with_phase ts t Ended []

  abbrev gone : Thread
  gone = sitting ts t Ended []

  abbrev stacks' : List Stack
  stacks' = set stacks t.number no_stack

  change : Changed nobody all dead t.number gone
  change = x.changed Ended []

  module _ (s : Held) (h : Together code.instrs all s.marks s.operations ready (Some t) stacks bs) (block : BlockId) (others : List BlockId) (e : activation.entered ≡ [])
      (r : activation.around ≡ block ∷ others) where
    empty : entered (at all t.number) ≡ []
    empty = x.has ∙ e

    around : (at all t.number).around ≡ block ∷ others
    around = sym x.round ∙ r

    own : OwnerOf all block others
    own = h.good.nested t.number block others x.lives around

    -- what the table has of its block
    abbrev here : Block
    here = told s.marks all all own.owner block own.outside

    here_is : block_at bs block ≡ Some here
    here_is = h.tracks own.owner block own.inside own.outside own.lives own.has

    abbrev fewer : List (Option Block)
    fewer = with_block bs block (Some (record here { count = here.count - 1 }))

    less : (b : BlockId) → sum_by (direct b) all ≡ sum_by (direct b) dead + head_is b (block ∷ others)
    less b =
        let k = one_less all dead t.number gone change (length s.marks) h.good h.waits x.lives refl empty b in
        let p = ap (head_is b) around in
        omega (arith, k, p)

    good' : Good dead (length s.marks)
    good' = left_good all dead t.number gone change (length s.marks) h.good h.waits x.lives refl empty

    listed' : Listed dead s.operations ready None
    listed' = listed_gone all dead t.number gone change s.operations ready t refl refl h.listed

    tracks' : Tracks s.marks dead fewer
    tracks' = tracks_count all dead t.number gone change bs fewer s.marks (length s.marks) h.good h.tracks (λ l. absurd l)
        (λ b y count q. counted_out_tells bs block others here y b (sum_by (direct b) dead) here_is (count ∙ less b) q)

    others' : Others code.instrs dead s.operations None stacks'
    others' = others_back code.instrs all dead t gone change s.operations stacks h.others (runs_without all s.operations ready t h.listed) no_stack
        (in_stacks code.instrs ts t ws activation x h) (λ l. absurd l)

    -- nobody is woken
    quiet : Waits dead → Together code.instrs dead s.marks s.operations ready None stacks' fewer
    quiet w = record {
      stacks_are = length-set stacks t.number no_stack ∙ still_stacks code.instrs ts t ws activation x h Ended [];
      blocks_are = length-set bs block.number (Some (record here { count = here.count - 1 })) ∙ h.blocks_are;
      good = good';
      waits = w;
      listed = listed';
      tracks = tracks';
      others = others';
    }

    quiet_woken : Waits dead → woken dead dead 0 ≡ None
    quiet_woken w = none_woken all dead t.number gone change (length s.marks) h.good h.waits x.lives refl empty w

    -- one thread less was started directly in the block
    last_is : here.count ≡ sum_by (direct block) dead + 1
    last_is = let k = less block in let o = one_same block.number in omega (arith, k, o)

    still_waits : nat_eq here.count 1 && here.waits ≡ false → Waits dead
    still_waits q = by (nat_eq here.count 1) here.waits refl refl q
      where
        some : nat_eq here.count 1 ≡ false → Waits dead
        some n =
            some_left all dead t.number gone change (length s.marks) h.good h.waits x.lives refl empty block others around own
            (elim (cases_lt 0 (sum_by (direct block) dead)) as (λ _. 0 < sum_by (direct block) dead) [
              | inl p ↦ p
              | inr p ↦ absurd (let k = last_is in one_no here.count (omega (arith, k, p)) n)
            ])
          where
            one_no : (n : ℕ) → n ≡ 1 → nat_eq n 1 ≡ false → ⊥
            one_no n e f = grind (arith, nat_tests)

        by : (p q : Bool) → nat_eq here.count 1 ≡ p → here.waits ≡ q → p && q ≡ false → Waits dead
        by false q n w f = some n
        by true true n w f = absurd (let no : true ≡ false = f in cc)
        by true false n w f = not_arrived all dead t.number gone change (length s.marks) h.good h.waits x.lives refl empty block others around own w

    -- the owner waits, and this was the last
    module _ (last : here.count ≡ 1) (arrived : here.waits ≡ true) where
      none : sum_by (direct block) dead ≡ 0
      none = let k = last_is in omega (arith, k, last)

      woken_is : woken dead dead 0 ≡ Some (item own.owner)
      woken_is = owner_woken all dead t.number gone change (length s.marks) h.good h.waits x.lives refl empty block others around own none arrived

      arrived_is : (at dead own.owner).phase ≡ AtFinish block
      arrived_is = at_finish all dead t.number gone change (length s.marks) h.good h.waits x.lives refl empty block others around own none arrived

      holds : entered (at dead own.owner) ≡ block ∷ closes (at dead own.owner).work
      holds = has_entered all dead t.number gone change (length s.marks) h.good h.waits x.lives refl empty block others around own none arrived

      owner_alive : Lives (at dead own.owner).phase
      owner_alive = owner_lives all dead t.number gone change (length s.marks) h.good h.waits x.lives refl empty block others around own none arrived

      -- the threads where the owner is awake
      abbrev freed : Thread
      freed = record (at dead own.owner) { phase = Active }

      abbrev next : List Thread
      next = with_phase dead (item own.owner) Active (at dead own.owner).work

      frees : Changed nobody dead next own.owner freed
      frees = set_changed nobody dead own.owner freed (in_table (λ (y : Thread). Lives y.phase) nobody dead own.owner (λ l. l) owner_alive)

      abbrev left : List (Option Block)
      left = with_block bs block None

      same : SameBut block fewer left
      same b ne = changed_same bs left block None (block_put bs block here None here_is) b ne
          ∙ sym (changed_same bs fewer block _ (block_put bs block here (Some (record here { count = here.count - 1 })) here_is) b ne)

      freed_tracks : Tracks s.marks next left
      freed_tracks =
          tracks_leave dead next own.owner freed frees fewer left s.marks (length s.marks) good' tracks' block (closes (at dead own.owner).work) same owner_alive
          (λ b ne. ap (λ p. waits_at p b) arrived_is ∙ unequal block.number b.number (other_block block b ne)) refl refl holds refl

      freed_others : Others code.instrs next s.operations None stacks'
      freed_others u _ l =
          elim (found nobody dead next own.owner freed frees u) as (λ _. Parked code.instrs (asked_by u s.operations) (at next u) (stack_at stacks' u)) [
            | inl q ↦
                let p = others' own.owner tt owner_alive in
                let now : Parked code.instrs (asked_by own.owner s.operations) freed (stack_at stacks' own.owner) =
                record { activation = p.activation; place = p.place; operands = p.operands; is = p.is; around = p.around; works = p.works } in
                subst (λ y. Parked code.instrs (asked_by u s.operations) y (stack_at stacks' u)) (sym q.1)
                (subst (λ z. Parked code.instrs (asked_by z s.operations) freed (stack_at stacks' z)) q.0 now)
            | inr q ↦ subst (λ y. Parked code.instrs (asked_by u s.operations) y (stack_at stacks' u)) (sym q.1) (others' u tt (subst (λ (y : Thread). Lives y.phase) q.1 l))
          ]

      awake : Together code.instrs next s.marks s.operations (item own.owner ∷ ready) None stacks' left
      awake = record {
        stacks_are = length-set stacks t.number no_stack ∙ still_stacks code.instrs ts t ws activation x h Ended [] ∙ sym (length-set dead own.owner freed);
        blocks_are = length-set bs block.number None ∙ h.blocks_are;
        good = freed_good all dead t.number gone change (length s.marks) h.good h.waits x.lives refl empty block others around own none arrived next frees;
        waits = freed_waits all dead t.number gone change (length s.marks) h.good h.waits x.lives refl empty block others around own none arrived next frees;
        listed = listed_new dead next own.owner freed frees s.operations ready (item own.owner ∷ ready) None None (ap is_counted arrived_is) refl (λ v. omega arith) listed';
        tracks = freed_tracks;
        others = freed_others;
      }

  -- its frame is given back
  abbrev given_back : Held → Held
  given_back s = with_store s (released s.store activation.frame)

  pub dies_follow : (s : Held) (place : ℕ) (block : BlockId) (others : List BlockId) → SameBirths s0 s → slice_get code.instrs place ≡ Some i.End → activation.entered ≡ [] →
      activation.around ≡ block ∷ others → FollowsAt code bound R a c s place [] (Dies activation.frame s)
  dies_follow s place block others b is e r = go (nat_eq (here s h block others e r).count 1 && (here s h block others e r).waits) refl
    where
      h : Together code.instrs all s.marks s.operations ready (Some t) stacks bs
      h = with_births code.instrs s0 s b h0

      ends : (k : ℕ) (q : Bool) → nat_eq (here s h block others e r).count 1 && (here s h block others e r).waits ≡ q →
          dies_there (flat a (given_back s) place [] k) t (first (activation.entered ++ activation.around)) ≡ counted_out q (flat a (given_back s) place [] k) t block (here s h block others e r)
      ends k q n =
          ap (λ l. dies_there (flat a (given_back s) place [] k) t (first (l ++ activation.around))) e
          ∙ ap (λ l. dies_there (flat a (given_back s) place [] k) t (first l)) r
          ∙ ap (dies_in (flat a (given_back s) place [] k) t block) (here_is s h block others e r)
          ∙ ap (λ z. counted_out z (flat a (given_back s) place [] k) t block (here s h block others e r)) n

      go : (q : Bool) → nat_eq (here s h block others e r).count 1 && (here s h block others e r).waits ≡ q → FollowsAt code bound R a c s place [] (Dies activation.frame s)
      go false n =
          let w = still_waits s h block others e r n in
          turn_follows code bound R a c i.End (resting (given_back s) ready dead) (λ k. halted (given_back s) ready stacks' (fewer s h block others e r) (counted k)) is
          (ap (λ o. On (wakes o (resting (given_back s) ready dead))) (quiet_woken s h block others e r w))
          (λ k. ap {A = Flat} {B = Move Flat FlatEnd} (λ m. On m) (ends k false n))
          (λ k. rests (given_back s) ready dead stacks' (fewer s h block others e r) (counted k) (quiet s h block others e r w))
      go true n =
          let parts = both_true (nat_eq (here s h block others e r).count 1) (here s h block others e r).waits n in
          let last = eqb-true (here s h block others e r).count 1 parts.0 in
          let owner = item (own s h block others e r).owner in
          let work = (at dead (own s h block others e r).owner).work in
          turn_follows code bound R a c i.End (resting (given_back s) (owner ∷ ready) (with_phase dead owner Active work))
          (λ k. halted (given_back s) (owner ∷ ready) stacks' (with_block bs block None) (counted k)) is
          (ap (λ o. On (wakes o (resting (given_back s) ready dead))) (woken_is s h block others e r last parts.1))
          (λ k. ap {A = Flat} {B = Move Flat FlatEnd} (λ m. On m) (ends k true n))
          (λ k. rests (given_back s) (owner ∷ ready) (with_phase dead owner Active work) stacks' (with_block bs block None) (counted k) (awake s h block others e r last parts.1))
