-- The first state of valid code is fit, and from a fit state on a core comes to one end and to no other.
-- The end comes by induction on a bound of what is left to do and to come: each move leads to a fit state with less of it (Moving). Where
-- there is no room for the first frame, the core is over at once.
use Rattle.std.proofs.Common.{◌≡◌, ℕ, zero, suc, ◌+◌, ◌≤◌, ◌<◌, List, [], ◌∷◌, length, Some, None, Bool, true, false, refl, sym, ap, ◌∙◌, subst, arith}
use Rattle.std.specs.Prelude.{ℤ, pos, slice_index_or, slice_set, replicate, nat_le}
use Rattle.std.proofs.lemmas.Bool.Decides.{nat_tests}
use Rattle.std.proofs.lemmas.List.{length-set, length-replicate}
use Rattle.std.proofs.lemmas.List.Elements.{All-nil}
use Rattle.std.proofs.lemmas.Option.{slice_get_within, get_or_from_slice_get}
use Rattle.ac_base.specs.declared.ends.Trap.TheVariants.{StackFull}
use Rattle.ac_base.specs.declared.ends.EndWord.TheVariants as word
use Rattle.ac_base.specs.declared.entry.Entry.{Entry}
use Rattle.work_item.specs.declared.ids.Item.{Item}
use Rattle.work_item.specs.declared.cell.Cell.{Cell}
use Rattle.work_item.specs.Store.{Store, Frame, made, no_int}
use Rattle.cancel_scope.specs.declared.operation.Operation.{Operation}
use Rattle.core_state.specs.Moves.{Move, On, Over, moves, and_then, EndsAs, ComesTo}
use Rattle.core_state.specs.Frames.{first_store, first_frame, has_words}
use Rattle.core_state.specs.Shared.{Shared, seen}
use Rattle.core_state.proofs.Runs.{GoesOn-none}
use Rattle.stack_code.specs.declared.parts.Entered.{Entered}
use Rattle.stack_code.specs.declared.parts.Start.{Start}
use Rattle.stack_code.specs.declared.shape.Home.TheVariants as home
use Rattle.stack_code.specs.Parts.{Parts, Begins}
use Rattle.stack_code.specs.Shapes.{first, params_of, params_in}
use Rattle.stack_code.specs.Valid.{IsValid, IsEntry, begins}
use Rattle.stack_code.specs.Kept.{IsRanked}
use Rattle.code_meaning.specs.Machine.{Flat, FlatEnd, Thread, nobody, exec, told, with_starts, first_globals, first_item, first_core, shared_at_first, first_flat}
use Rattle.code_safety.specs.Fit.{Birth, IsStore, last, bottom, outside, IsThread, Going, AtFinish, Life, no_life, life_at, is_living, is_going}
use Rattle.code_safety.specs.Fit.{IsAlive, IsAsked, IsFit, one_if, one_at}
use Rattle.code_safety.specs.Left.{left_to_come}
use Rattle.code_safety.proofs.Plain.{Onward}
use Rattle.code_safety.proofs.Arguments.{slots_of_body}
use Rattle.code_safety.proofs.Lives.{one_other}
use Rattle.code_safety.proofs.Making.{made_store}
use Rattle.code_safety.proofs.Moving.{moves_on}

-- ---- the globals

pub length-starts : (starts : List Start) (globals : List ℤ) → length (with_starts starts globals) ≡ length globals
length-starts [] globals = refl
length-starts (x ∷ starts) globals = length-starts starts (slice_set globals x.slot x.value) ∙ length-set globals x.slot x.value

length_first : (code : Parts) → length (first_globals code) ≡ code.globals
length_first code = length-starts code.starts (replicate code.globals (pos 0)) ∙ length-replicate code.globals (pos 0)

-- ---- the first state

module _ (code : Parts) (v : IsValid code) (core : ℕ) (function : Entered) (b : Begins code core function) where
  no_params : params_of code (home.Function b.entry) ≡ []
  no_params =
      let within = slice_get_within code.entries core b.entry b.entry_is in
      let e = v.lists.cores.enters core b.entry within in
      let entry = subst (IsEntry code) (get_or_from_slice_get code.entries core b.entry b.entry b.entry_is) e in
      ap params_in entry.is ∙ entry.plain

  abbrev bare : Store
  bare = first_store (first_globals code)

  abbrev cells : List Cell
  cells = replicate function.words no_int

  abbrev birth : Birth
  birth = record { home = home.Function b.entry; slots = function.words; item = first_item }

  abbrev births : List Birth
  births = birth ∷ []

  abbrev store : Store
  store = made bare None cells

  abbrev thread : Thread
  thread = record nobody { place = function.at }

  abbrev life : Life
  life = record { phase = Going; start = None; thread = thread }

  abbrev lives : List Life
  lives = life ∷ []

  module _ (shared : Shared) (room : has_words bare (length cells) ≡ true) where
    few : length (first_globals code) + (0 + (length cells + 4)) ≤ 4194304
    few = let r : nat_le ((length (first_globals code) + 0) + (length cells + 4)) 4194304 ≡ true = room in
        let l : (length (first_globals code) + 0) + (length cells + 4) ≤ 4194304 = grind (arith, nat_tests) in omega (arith, l)

    bare_store : IsStore code [] bare
    bare_store = record {
      long = refl;
      globals = length_first code;
      few = let l = few in let g = length_first code in omega (arith, l, g);
      frames = λ f x e. let no : None ≡ Some x = e in absurd (cc);
    }

    is_store : IsStore code births store
    is_store = made_store code [] bare bare_store None cells birth (slots_of_body code births (home.Function b.entry) function.words v.one_use no_params)
        (length-replicate function.words no_int) (let l = few in omega (arith, l))

    abbrev frame : Frame
    frame = record { parent = None; cells = cells; over = false }

    first_thread : IsThread code births store [] first_item None thread
    first_thread = record {
      shape = first b.entry function;
      top = record {
        reached = begins core function b;
        have = tt;
        bodies = last (record { home = home.Function b.entry; slots = function.words }) first_frame
            (record { birth = birth; born = refl; home = refl; frame = frame; here = refl; slots = length-replicate function.words no_int });
        goes = record { birth = birth; born = refl; item = refl; frame = frame; here = refl; going = refl };
        blocks = tt;
      };
      below = 0;
      callers = bottom first_frame (first b.entry function) (λ lt. absurd (omega (arith, lt)));
      entered = outside;
    }

    first_alive : (t : Item) → is_living (life_at lives t).phase ≡ true → IsAlive code births store [] t (life_at lives t)
    first_alive t l = go t.number refl l
      where
        go : (n : ℕ) → t.number ≡ n → is_living (slice_index_or lives n no_life).phase ≡ true → IsAlive code births store [] t (life_at lives t)
        go zero e l =
            let same : first_item ≡ t = let make : ℕ → Item = λ k. record { number = k } in ap make (sym e) in
            let one : IsAlive code births store [] first_item (life_at lives first_item) = record {
              thread = first_thread;
              started = λ c k. let no : None ≡ Some c = k in absurd (cc);
              waiting = λ c k. let no : Going ≡ AtFinish c = k in absurd (cc);
            } in
            subst (λ u. IsAlive code births store [] u (life_at lives u)) same one
        go (suc n) e l = let no : false ≡ true = l in absurd (cc)

    pub first_fit : IsFit code (first_core function shared store)
    first_fit = record {
      births = births;
      lives = lives;
      store = is_store;
      alive = first_alive;
      block = λ c x e. let no : None ≡ Some x = e in absurd (cc);
      first = refl;
      free = refl;
      listed = listed;
      asks = All-nil (λ (o : Operation). IsAsked code births o.link o.asked);
      many = refl;
      current = λ t e. let no : None ≡ Some t = e in absurd (cc);
      parked = λ t l not. parked t.number l;
    }
      where
        listed : (u : ℕ) → 0 + ((one_at u first_item + 0) + 0) ≡ one_if (is_going (life_at lives (record { number = u })).phase)
        listed zero =
            let o : one_at 0 first_item ≡ 1 = refl in
            let g : one_if (is_going (life_at lives (record { number = 0 })).phase) ≡ 1 = refl in
            omega (arith, o, g)
        listed (suc u) =
            let z : one_at (suc u) first_item ≡ 0 = one_other (suc u) 0 (λ e. omega (arith, e)) in
            let g : one_if (is_going (life_at lives (record { number = suc u })).phase) ≡ 0 = refl in
            omega (arith, z, g)

        parked : (n : ℕ) → is_living (slice_index_or lives n no_life).phase ≡ true → slice_index_or (thread ∷ []) n nobody ≡ (slice_index_or lives n no_life).thread
        parked zero l = refl
        parked (suc n) l = refl

-- ---- the end

module _ (code : Parts) (bound : ℕ) (v : IsValid code) (ranks : List ℕ) (ranked : IsRanked code ranks) where
  pub ends_from : (n : ℕ) (m : Flat) → IsFit code m → left_to_come ranks bound m < n → (e : FlatEnd) × EndsAs (exec code bound) m e
  ends_from zero m fit lt = absurd (omega (arith, lt))
  ends_from (suc n) m fit lt = go (λ next f l. ends_from n next f l) (exec code bound m) refl (moves_on code bound v ranks ranked m fit)
    where
      go : ((next : Flat) → IsFit code next → left_to_come ranks bound next < n → (e : FlatEnd) × EndsAs (exec code bound) next e) → (x : Move Flat FlatEnd) → exec code bound m ≡ x
          → Onward (λ next. IsFit code next × (left_to_come ranks bound next < left_to_come ranks bound m)) x → (e : FlatEnd) × EndsAs (exec code bound) m e
      go later (Over e) same o = (e, (suc zero, ap (λ x. and_then x (moves (exec code bound) zero)) same))
      go later (On next) same o =
          let less = o.1 in
          let r = later next o.0 (omega (arith, lt, less)) in
          (r.0, (suc r.1.0, ap (λ x. and_then x (moves (exec code bound) r.1.0)) same ∙ r.1.1))

  module _ (core : ℕ) (function : Entered) (b : Begins code core function) (journal : List Entry) where
    pub comes_to : (e : FlatEnd) × ComesTo (exec code bound) (first_flat code core function journal) e
    comes_to = go (has_words (first_store (first_globals code)) (length (replicate function.words no_int))) refl
      where
        go : (r : Bool) → has_words (first_store (first_globals code)) (length (replicate function.words no_int)) ≡ r
            → (e : FlatEnd) × ComesTo (exec code bound) (first_flat code core function journal) e
        go true room =
            let fit = first_fit code v core function b (shared_at_first code core journal) room in
            let m = first_core function (shared_at_first code core journal) (made (first_store (first_globals code)) None (replicate function.words no_int)) in
            let r = ends_from (suc (left_to_come ranks bound m)) m fit (omega arith) in
            (r.0, (r.1.0, rw room (sym r.1.1)))
        go false room = (
          told 0 (seen (word.Trapped StackFull) false (first_globals code) [] (shared_at_first code core journal)),
          rw room
              (GoesOn-none (exec code bound) (Over (told 0 (seen (word.Trapped StackFull) false (first_globals code) [] (shared_at_first code core journal))))),
        )
