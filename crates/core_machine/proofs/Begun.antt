-- A core that begins stands at the first address of its function, in the frame that was made for it. For `new`.
-- By whether there is room for that frame: with it the state is the one with which the meaning begins, without it both end at once.
use Rattle.std.proofs.Common.{◌≡◌, ℕ, ◌+◌, ◌≤◌, List, [], ◌∷◌, length, Option, Some, None, Ok, Err, Bool, true, false, refl, sym, ap, ◌∙◌, subst, arith, count_by}
use Rattle.std.specs.Prelude.{ℤ, pos, replicate, if◌then◌else◌}
use Rattle.std.proofs.lemmas.List.{length-replicate}
use Rattle.std.proofs.lemmas.List.Elements.{All-nil}
use Rattle.ac_base.specs.declared.ends.Trap.TheVariants.{StackFull}
use Rattle.cancel_scope.specs.declared.operation.Operation.{Operation}
use Rattle.cancel_scope.specs.Outstanding.{is_outgoing, is_waiting}
use Rattle.work_item.specs.Store.{Store, Frame, made, no_frames, no_int}
use Rattle.core_state.specs.Moves.{Move, On, GoesOn}
use Rattle.core_state.proofs.Runs.{GoesOn-none}
use Rattle.core_state.specs.Frames.{has_words, begun, first_frame}
use Rattle.core_state.specs.Shared.{Shared, first_shared}
use Rattle.stack_code.specs.declared.parts.Entered.{Entered}
use Rattle.stack_code.specs.declared.parts.Start.{Start}
use Rattle.stack_code.specs.Parts.{Parts, Begins}
use Rattle.stack_code.specs.Valid.{IsValid}
use Rattle.code_meaning.specs.Machine.{Flat, FlatEnd, nobody, exec, first_flat, first_item, first_core, shared_at_first, with_starts, first_globals}
use Rattle.code_safety.specs.Fit.{IsFit}
use Rattle.code_safety.specs.Chains.{AreChained}
use Rattle.code_safety.proofs.Beginnings.{first_fit}
use Rattle.code_safety.proofs.NoDangling.{first_chained}
use Rattle.core_machine.specs.declared.ending.Ending.{Ending}
use Rattle.core_machine.specs.declared.ending.Ending.TheVariants.{Trapped}
use Rattle.core_machine.specs.declared.running.Running.{Running}
use Rattle.core_machine.specs.inner.Beginning.{HasBegun}
use Rattle.core_machine.specs.Machine.{IsFirst, IsOnItsWay}
use Rattle.core_machine.specs.State.{flat_of, end_or, own_link, state_of, machine_of, IsSound}
use Rattle.core_machine.specs.Tracks.{IsPlaced, Tracks}
use Rattle.core_machine.proofs.Lived.{AllPlaced, first_placed}

-- ---- the frame

abbrev pub bare : Parts → Store
bare code = record { globals = first_globals code; frames = [] }

pub is_bare : (code : Parts) (s t : Store) (globals : ℕ) (starts : List Start) → s ≡ no_frames globals → globals ≡ code.globals → starts ≡ code.starts → t.globals ≡ with_starts starts s.globals
    → t.frames ≡ s.frames → t ≡ bare code
is_bare code s t globals starts none many all set kept =
    let first : t.globals ≡ first_globals code = set ∙ ap (λ (x : Store). with_starts starts x.globals) none ∙ ap (λ n. with_starts starts (replicate n (pos 0))) many
    ∙ ap (λ xs. with_starts xs (replicate code.globals (pos 0))) all in
    let empty : t.frames ≡ [] = kept ∙ ap (λ (x : Store). x.frames) none in
    let with_frames : List (Option Frame) → Store = λ f. record { globals = first_globals code; frames = f } in
    let with_globals : List ℤ → Store = λ g. record { globals = g; frames = t.frames } in
    ap with_globals first ∙ ap with_frames empty

abbrev framed : Parts → Entered → Store
framed code function = made (bare code) None (replicate function.words no_int)

-- ---- the state

-- no thread runs, the first one is ready, and nothing has been done
pub first_stands : (m : Running) (function : Entered) → m.outstanding.operations ≡ [] → m.schedule.running ≡ None → m.schedule.ready ≡ first_item ∷ []
    → m.threads.threads ≡ record nobody { place = function.at } ∷ []
    → m.blocks.blocks ≡ []
    → (requests : ℕ) → m.requests ≡ requests → m.place ≡ 0 → m.frame ≡ first_frame → m.operands ≡ [] → m.callers ≡ [] → m.block ≡ None → m.journal.entries ≡ [] → m.output.items ≡ [] → m.steps ≡ 0
    → m.turn ≡ 0 → m.count ≡ 0
    → flat_of m ≡ first_core function (first_shared requests []) m.frames
first_stands m function operations running ready threads blocks requests link place frame operands callers block journal output steps turn count =
    rw (operations, running, ready, threads, blocks, link, place, frame, operands, callers, block, journal, output, steps, turn, count) refl

module _ (m : Running) (function : Entered) (b : Begins m.code.now m.core function) (journal : m.journal.entries ≡ [])
    (first : flat_of m ≡ first_core function (shared_at_first m.code.now m.core []) m.frames) where
  abbrev shared : Shared
  shared = shared_at_first m.code.now m.core []

  abbrev start : Move Flat FlatEnd
  start = first_flat m.code.now m.core function m.journal.entries

  first_begun : (r : Bool) → has_words (bare m.code.now) function.words ≡ r →
      begun (bare m.code.now) None (replicate function.words no_int) ≡ (if r then Ok (framed m.code.now function) else Err StackFull)
  first_begun r e =
      ap (λ n. if has_words (bare m.code.now) n then Ok (framed m.code.now function) else Err StackFull) (length-replicate function.words no_int)
      ∙ ap (λ (b : Bool). if b then Ok (framed m.code.now function) else Err StackFull) e

  stands_first : m.ended ≡ None → m.frames ≡ framed m.code.now function → has_words (bare m.code.now) function.words ≡ true → state_of m ≡ start
  stands_first still store room =
      let stands : state_of m ≡ On (first_core function shared (framed m.code.now function)) =
      ap (end_or (flat_of m)) still ∙ ap (λ f. On f) (first ∙ ap (first_core function shared) store) in
      let begins : start ≡ On (first_core function shared (framed m.code.now function)) = rw (first_begun true room, journal) refl in
      stands ∙ sym begins

  ends_first : m.ended ≡ Some (Trapped StackFull) → m.frames ≡ bare m.code.now → has_words (bare m.code.now) function.words ≡ false → state_of m ≡ start
  ends_first over store room =
      let ends : state_of m ≡ end_or (first_core function shared (bare m.code.now)) (Some (Trapped StackFull)) =
      ap (end_or (flat_of m)) over ∙ ap (λ f. end_or f (Some (Trapped StackFull))) (first ∙ ap (first_core function shared) store) in
      let begins : start ≡ end_or (first_core function shared (bare m.code.now)) (Some (Trapped StackFull)) = rw (first_begun false room, journal) refl in
      ends ∙ sym begins

  module _ (begun : HasBegun (bare m.code.now) m.frames function.words m.ended) where
    state_first : state_of m ≡ start
    state_first = go m.ended refl begun
      where
        go : (o : Option Ending) → m.ended ≡ o → HasBegun (bare m.code.now) m.frames function.words o → state_of m ≡ start
        go None e h = stands_first e h.1 h.0
        go (Some ending) e h = ends_first (e ∙ ap (λ p. Some p) h.2) h.1 h.0

    pub first_of : IsFirst (machine_of m)
    first_of = record { function = function; begins = b; state = state_first }

    pub run_of : IsOnItsWay (machine_of m)
    run_of = record { function = function; begins = b; goes = subst (GoesOn (exec m.code.now m.bound) start) (sym state_first) (GoesOn-none (exec m.code.now m.bound) start) }

    pub sound_first : IsValid m.code.now → m.threads.lives ≡ true ∷ [] → IsSound m
    sound_first v lives = record {
      fit = λ still. go m.ended still begun;
      chained = λ still. chains m.ended still begun;
      requests = λ still. ap (λ (f : Flat). f.shared.requests) first;
      tracks = λ still. subst (λ os. Tracks (own_link m) m.journal.entries os) (sym no_operations) (subst (λ past. Tracks (own_link m) past []) (sym journal) tracks_none);
      places = λ still. subst (λ f. AllPlaced f m.threads) (sym first) (first_placed m.threads function shared m.frames lives);
      seats = subst (λ (l : List Bool). count_by (λ (b : Bool). b) l ≤ length m.schedule.ready + m.schedule.spare) (sym lives) (let one = one_ready in omega (arith, one));
      valid = v;
      ran = run_of;
    }
      where
        one_ready : length m.schedule.ready ≡ 1
        one_ready = ap (λ (f : Flat). length f.ready) first

        no_operations : m.outstanding.operations ≡ []
        no_operations = ap (λ (f : Flat). f.operations) first

        tracks_none : Tracks (own_link m) [] []
        tracks_none = record {
          each = λ l n. refl;
          begun = λ n. refl;
          receives = All-nil (λ (o : Operation). is_outgoing o.asked ≡ false → is_waiting o.progress ≡ true);
          placed = All-nil (IsPlaced (own_link m));
        }

        stands : m.frames ≡ framed m.code.now function → has_words (bare m.code.now) function.words ≡ true → IsFit m.code.now (flat_of m)
        stands store room =
            let long : has_words (bare m.code.now) (length (replicate function.words no_int)) ≡ true = ap (has_words (bare m.code.now)) (length-replicate function.words no_int) ∙ room in
            subst (IsFit m.code.now) (sym (first ∙ ap (first_core function shared) store)) (first_fit m.code.now v m.core function b shared long)

        chains : (o : Option Ending) → o ≡ None → HasBegun (bare m.code.now) m.frames function.words o → AreChained m.code.now (flat_of m)
        chains None e h = subst (AreChained m.code.now) (sym (first ∙ ap (first_core function shared) h.1)) (first_chained m.code.now m.core function b shared)
        chains (Some ending) e h = let no : Some ending ≡ None = e in absurd (cc)

        go : (o : Option Ending) → o ≡ None → HasBegun (bare m.code.now) m.frames function.words o → IsFit m.code.now (flat_of m)
        go None e h = stands h.1 h.0
        go (Some ending) e h = let no : Some ending ≡ None = e in absurd (cc)
