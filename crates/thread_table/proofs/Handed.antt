-- The threads that are kept, and the value that one of them is still to have on its operands. For `ThreadTable`, which keeps that value apart until its thread is asked for.
-- What is seen is the list of what is kept with the value in place, each as a thread and whether it is there. So an element that is set among what is kept is set in both lists.
use Rattle.std.proofs.Common.{◌≡◌, ℕ, ◌+◌, List, map, Option, Some, None, Bool, true, false, cond, [], ◌∷◌, refl, sym, ap, ◌∙◌}
use Rattle.std.specs.Prelude.{count_by, is_some, option_map, slice_set, slice_index_or}
use Rattle.std.proofs.lemmas.List.{map-set, set-get_or}
use Rattle.std.proofs.Math.Seq.{map-set_same}
use Rattle.std.proofs.Math.ListN.{get_or-map}
use Rattle.std.proofs.lemmas.List.Sums.{sum_by-cons}
use Rattle.work_item.specs.declared.ids.BlockId.{BlockId}
use Rattle.work_item.specs.declared.cell.Cell.{Cell}
use Rattle.code_meaning.specs.Machine.{Thread, given, nobody}
use Rattle.thread_table.specs.declared.given.Given.{Given}
use Rattle.thread_table.specs.Table.{or_nobody, with_given}

none_given : (o : Option Given) → is_some o ≡ false → o ≡ None
none_given None h = refl
none_given (Some g) h = let no : true ≡ false = h in cc

-- ---- a value that was given

given_thread : (value : Cell) (o : Option Thread) → is_some o ≡ true → or_nobody (option_map (given value) o) ≡ given value (or_nobody o)
given_thread value None h = let no : false ≡ true = h in cc
given_thread value (Some x) h = refl

given_lives : (value : Cell) (o : Option Thread) → is_some (option_map (given value) o) ≡ is_some o
given_lives value None = refl
given_lives value (Some x) = refl

given_to : (kept : List (Option Thread)) (o : Option Given) → map is_some (with_given kept o) ≡ map is_some kept
given_to kept None = refl
given_to kept (Some g) =
    map-set_same is_some kept g.item.number (option_map (given g.value) (slice_index_or kept g.item.number None)) None
    (given_lives g.value (slice_index_or kept g.item.number None))

-- as many live as are there
count_there : (kept : List (Option Thread)) → count_by is_some kept ≡ count_by (λ (b : Bool). b) (map is_some kept)
count_there [] = refl
count_there (x ∷ kept) =
    sum_by-cons (λ (o : Option Thread). cond (is_some o) 1 0) x kept ∙ ap (λ n. cond (is_some x) 1 0 + n) (count_there kept)
    ∙ sym (sum_by-cons (λ (b : Bool). cond b 1 0) (is_some x) (map is_some kept))

pub count_living : (kept : List (Option Thread)) (o : Option Given) (lives : List Bool) → map is_some (with_given kept o) ≡ lives
    → count_by is_some kept ≡ count_by (λ (b : Bool). b) lives
count_living kept o lives is = count_there kept ∙ ap (count_by (λ (b : Bool). b)) (sym (given_to kept o) ∙ is)

-- the innermost block
abbrev pub block_in : Option Thread → Option BlockId
block_in o = (or_nobody o).block

given_block : (value : Cell) (o : Option Thread) → block_in (option_map (given value) o) ≡ block_in o
given_block value None = refl
given_block value (Some x) = refl

blocks_same : (kept : List (Option Thread)) (o : Option Given) → map block_in (with_given kept o) ≡ map block_in kept
blocks_same kept None = refl
blocks_same kept (Some g) =
    map-set_same block_in kept g.item.number (option_map (given g.value) (slice_index_or kept g.item.number None)) None
    (given_block g.value (slice_index_or kept g.item.number None))

-- it is seen as it is kept
pub block_seen : (kept : List (Option Thread)) (o : Option Given) (threads : List Thread) (n : ℕ) (x : Thread) → map or_nobody (with_given kept o) ≡ threads
    → slice_index_or kept n None ≡ Some x → x.block ≡ (slice_index_or threads n nobody).block
block_seen kept o threads n x is here =
    sym (ap block_in here) ∙ sym (get_or-map block_in kept n None) ∙ ap (λ bs. slice_index_or bs n None) (sym (blocks_same kept o))
    ∙ get_or-map block_in (with_given kept o) n None ∙ ap (λ (h : Thread). h.block) (sym (get_or-map or_nobody (with_given kept o) n None))
    ∙ ap (λ ts. (slice_index_or ts n nobody).block) is

pub lives_same : (lives : List Bool) (n : ℕ) → slice_index_or lives n false ≡ true → slice_set lives n true ≡ lives
lives_same lives n h = ap (slice_set lives n) (sym h) ∙ set-get_or lives n false

-- ---- what is seen, where nothing is still to be put onto operands

module _ (kept : List (Option Thread)) (o : Option Given) (threads : List Thread) (lives : List Bool) (none : is_some o ≡ false)
    (are : map or_nobody (with_given kept o) ≡ threads) (live : map is_some (with_given kept o) ≡ lives) where
  threads_are : map or_nobody kept ≡ threads
  threads_are = ap (λ g. map or_nobody (with_given kept g)) (sym (none_given o none)) ∙ are

  lives_are : map is_some kept ≡ lives
  lives_are = ap (λ g. map is_some (with_given kept g)) (sym (none_given o none)) ∙ live

  pub threads_set : (n : ℕ) (x : Option Thread) → map or_nobody (with_given (slice_set kept n x) o) ≡ slice_set threads n (or_nobody x)
  threads_set n x =
      ap (λ g. map or_nobody (with_given (slice_set kept n x) g)) (none_given o none) ∙ map-set or_nobody kept n x
      ∙ ap (λ ts. slice_set ts n (or_nobody x)) threads_are

  pub lives_set : (n : ℕ) (x : Option Thread) → map is_some (with_given (slice_set kept n x) o) ≡ slice_set lives n (is_some x)
  lives_set n x =
      ap (λ g. map is_some (with_given (slice_set kept n x) g)) (none_given o none) ∙ map-set is_some kept n x
      ∙ ap (λ ls. slice_set ls n (is_some x)) lives_are

  pub threads_given : (n : ℕ) (value : Cell) → slice_index_or lives n false ≡ true
      → map or_nobody (slice_set kept n (option_map (given value) (slice_index_or kept n None))) ≡ slice_set threads n (given value (slice_index_or threads n nobody))
  threads_given n value has =
      let there : is_some (slice_index_or kept n None) ≡ true =
      sym (get_or-map is_some kept n None) ∙ ap (λ ls. slice_index_or ls n false) lives_are ∙ has in
      map-set or_nobody kept n (option_map (given value) (slice_index_or kept n None))
      ∙ ap (slice_set (map or_nobody kept) n) (given_thread value (slice_index_or kept n None) there ∙ ap (given value) (sym (get_or-map or_nobody kept n None)))
      ∙ ap (λ ts. slice_set ts n (given value (slice_index_or ts n nobody))) threads_are

  pub lives_given : (n : ℕ) (value : Cell)
      → map is_some (slice_set kept n (option_map (given value) (slice_index_or kept n None))) ≡ lives
  lives_given n value =
      map-set_same is_some kept n (option_map (given value) (slice_index_or kept n None)) None (given_lives value (slice_index_or kept n None)) ∙ lives_are
