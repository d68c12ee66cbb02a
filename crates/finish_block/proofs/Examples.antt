-- What the definitions of Table, Conditions and Ancestors say of three small blocks, one of which was given back.
-- Most hold by computing. That a block is not round another goes by the parents that the relation names.
use Rattle.std.specs.Prelude.{IsSomeAnd}
use Rattle.std.proofs.Common.{◌≡◌, refl, sym, ap, ◌∙◌, subst, ℕ, zero, suc, List, [], ◌∷◌, Option, None, Some, Bool, true, false, arith}
use Rattle.work_item.specs.declared.ids.Item.{Item}
use Rattle.work_item.specs.declared.ids.BlockId.{BlockId}
use Rattle.finish_block.specs.declared.block.Block.{Block}
use Rattle.finish_block.specs.declared.blocks.Arrival.TheVariants.{Passes, Waits}
use Rattle.finish_block.specs.Table.{Table, parent_at, block_at, next_block, entered, begun, woken, ended, arrival, arrived, marked, one_more}
use Rattle.finish_block.specs.Table.{with_block, new_block, wakes, woken_by, one_less, arrival_at, left_at, with_mark}
use Rattle.finish_block.specs.Conditions.{Lives, ParentLives, Childless, CanCountMore, HasThread, ChildlessAtEnd, ChildlessAtFinish, IsRooted}
use Rattle.finish_block.specs.Ancestors.{IsRound, itself, further, IsCancelled, AncestorsLive, IsMarked, few_round, round, is_marked, any_marked}

abbrev pub block : ℕ → BlockId
block number = record { number = number }

abbrev pub thread : ℕ → Item
thread number = record { number = number }

-- the block 0 lies in none, its owner is the thread 5; the block 2 lies in it, its owner is the thread 6
abbrev pub outer : ℕ → Bool → Bool → Block
outer count waits cancelled = record { parent = None; owner = thread 5; count = count; waits = waits; cancelled = cancelled }

abbrev pub inner : ℕ → Bool → Bool → Block
inner count waits cancelled = record { parent = Some (block 0); owner = thread 6; count = count; waits = waits; cancelled = cancelled }

-- the block 1 was given back; there is room for three more
abbrev pub with_blocks : Option Block → Option Block → Table
with_blocks first third = record { blocks = first ∷ None ∷ third ∷ []; spare = 3 }

-- two threads of the outer block live and one of the inner, and no owner waits
abbrev pub table : Table
table = with_blocks (Some (outer 2 false false)) (Some (inner 1 false false))

-- ---- a block is entered

-- the number of a block that was given back is not given again
pub the_next_number : next_block table.blocks ≡ block 3
the_next_number = refl

pub one_is_entered : entered table (Some (block 2)) (thread 7)
    ≡ record {
      blocks = Some (outer 2 false false) ∷ None ∷ Some (inner 1 false false) ∷ Some (record { parent = Some (block 2); owner = thread 7; count = 0; waits = false; cancelled = false })
          ∷ [];
      spare = 2;
    }
one_is_entered = refl

pub it_lies_in_its_parent : parent_at (block_at table.blocks (block 2)) ≡ Some (block 0)
it_lies_in_its_parent = refl

-- ---- threads start and end

pub one_more_thread : begun table (block 2) ≡ with_blocks (Some (outer 2 false false)) (Some (inner 2 false false))
one_more_thread = refl

-- the last thread of a block whose owner has not come to its finish wakes nobody, and the block stays
pub nobody_waits : woken table.blocks (block 2) ≡ None
nobody_waits = refl

pub the_block_stays : ended table (block 2) ≡ with_blocks (Some (outer 2 false false)) (Some (inner 0 false false))
the_block_stays = refl

-- that of a block whose owner waits wakes the owner, and the block is given back
abbrev pub waiting : Table
waiting = with_blocks (Some (outer 2 true false)) (Some (inner 1 true false))

pub the_owner_is_woken : woken waiting.blocks (block 2) ≡ Some (thread 6)
the_owner_is_woken = refl

pub the_block_is_given_back : ended waiting (block 2) ≡ with_blocks (Some (outer 2 true false)) None
the_block_is_given_back = refl

-- the last but one wakes nobody
pub another_thread_lives : woken waiting.blocks (block 0) ≡ None
another_thread_lives = refl

pub one_thread_less : ended waiting (block 0) ≡ with_blocks (Some (outer 1 true false)) (Some (inner 1 true false))
one_thread_less = refl

-- ---- the owner arrives

pub it_waits : arrival table.blocks (block 2) ≡ Waits
it_waits = refl

pub that_it_waits_is_kept : arrived table (block 2) ≡ with_blocks (Some (outer 2 false false)) (Some (inner 1 true false))
that_it_waits_is_kept = refl

abbrev pub without_thread : Table
without_thread = with_blocks (Some (outer 2 false false)) (Some (inner 0 false false))

pub it_passes : arrival without_thread.blocks (block 2) ≡ Passes
it_passes = refl

pub and_the_block_is_given_back : arrived without_thread (block 2) ≡ with_blocks (Some (outer 2 false false)) None
and_the_block_is_given_back = refl

-- ---- marks, and the blocks round a block

-- only the block itself gets the mark
pub one_is_marked : marked table (block 0) ≡ with_blocks (Some (outer 2 false true)) (Some (inner 1 false false))
one_is_marked = refl

pub the_outer_is_round_the_inner : IsRound table.blocks (block 0) (block 2)
the_outer_is_round_the_inner = further (block 2) (block 0) (inner 1 false false) refl refl (itself)

same_block : {a b : BlockId} → Some a ≡ Some b → a ≡ b
same_block e = cc

number_is : {a b : BlockId} → a ≡ b → a.number ≡ b.number
number_is e = ap (λ (b : BlockId). b.number) e

-- a block that lies in none has only itself round it
only_itself : (blocks : List (Option Block)) (a b : BlockId) → parent_at (block_at blocks b) ≡ None → IsRound blocks a b → a ≡ b
only_itself blocks a b e itself = refl
only_itself blocks a b e (further _ p x is lies _) = let f : parent_at (block_at blocks b) ≡ Some p = rw is lies in cc

pub the_inner_is_not_round_the_outer : IsRound table.blocks (block 2) (block 0) → ⊥
the_inner_is_not_round_the_outer h = let e : 2 ≡ 0 = number_is (only_itself table.blocks (block 2) (block 0) refl h) in omega (arith, e)

-- the innermost first; a block that was given back has only itself
pub from_the_inner_outwards : (round table.blocks (Some (block 2)) ≡ block 2 ∷ block 0 ∷ []) × (round table.blocks (Some (block 0)) ≡ block 0 ∷ [])
    × (round table.blocks (Some (block 1)) ≡ block 1 ∷ []) × (round table.blocks None ≡ [])
from_the_inner_outwards = (refl, refl, refl, refl)

pub not_more_than_one : few_round 1 table.blocks (Some (block 2)) ≡ block 2 ∷ []
not_more_than_one = refl

-- what lies in a marked block is cancelled without a mark of its own
abbrev pub outer_marked : Table
outer_marked = with_blocks (Some (outer 2 false true)) (Some (inner 1 false false))

pub the_inner_is_cancelled : IsCancelled outer_marked.blocks (block 2)
the_inner_is_cancelled = record { by = block 0; round = further (block 2) (block 0) (inner 1 false false) refl refl itself; mark = refl }

pub one_of_them_is_marked : (any_marked outer_marked.blocks (block 2 ∷ block 0 ∷ []) ≡ true) × (any_marked outer_marked.blocks (block 2 ∷ block 1 ∷ []) ≡ false)
one_of_them_is_marked = (refl, refl)

-- and a mark does not spread to what is round it
abbrev pub inner_marked : Table
inner_marked = with_blocks (Some (outer 2 false false)) (Some (inner 1 false true))

pub the_marked_one_is_cancelled : IsCancelled inner_marked.blocks (block 2)
the_marked_one_is_cancelled = record { by = block 2; round = itself; mark = refl }

pub the_outer_is_not : IsCancelled inner_marked.blocks (block 0) → ⊥
the_outer_is_not h = no h.by (only_itself inner_marked.blocks h.by (block 0) refl h.round) h.mark where
  no : (b : BlockId) → b ≡ block 0 → IsSomeAnd (block_at inner_marked.blocks b) (λ x. x.cancelled ≡ true) → ⊥
  no b e h = let m = subst (λ (b : BlockId). IsSomeAnd (block_at inner_marked.blocks b) (λ x. x.cancelled ≡ true)) e h in cc

-- ---- what calls ask for

pub the_inner_lives : Lives table.blocks (block 2)
the_inner_lives = refl

pub one_given_back_does_not : Lives table.blocks (block 1) → ⊥
one_given_back_does_not h = cc

pub no_parent_is_needed : ParentLives table.blocks None
no_parent_is_needed = tt

pub a_parent_was_given_back : ParentLives table.blocks (Some (block 1)) → ⊥
a_parent_was_given_back h = cc

pub a_thread_lives : HasThread table.blocks (block 2)
a_thread_lives = omega arith

pub no_thread_lives : HasThread without_thread.blocks (block 2) → ⊥
no_thread_lives h = omega arith

abbrev pub counted : ℕ → Table
counted count = with_blocks (Some (outer count false false)) None

pub one_less_than_the_most : CanCountMore (counted 18446744073709551614).blocks (block 0)
one_less_than_the_most = omega arith

pub the_most_threads : CanCountMore (counted 18446744073709551615).blocks (block 0) → ⊥
the_most_threads h = omega arith

pub the_outer_has_a_child : Childless table.blocks (block 0) → ⊥
the_outer_has_a_child h = h (block 2) (inner 1 false false) refl refl

no_two : ◌≡◌ {A = ℕ} 0 2 → ⊥
no_two e = omega (arith, e)

same_some : {x y : Block} → Some x ≡ Some y → x ≡ y
same_some e = cc

pub the_inner_has_none : Childless table.blocks (block 2)
the_inner_has_none c x is lies = no c.number is where
  no : (n : ℕ) → block_at table.blocks (block n) ≡ Some x → ⊥
  no zero is = let e : outer 2 false false ≡ x = same_some is in let f : x.parent ≡ None = rw (← e) refl in cc
  no (suc zero) is = cc
  no (suc (suc zero)) is = let e : inner 1 false false ≡ x = same_some is in let f : x.parent ≡ Some (block 0) = rw (← e) refl in no_two (number_is (same_block (sym f ∙ lies)))
  no (suc (suc (suc n))) is = cc

-- a child is asked about only where the block would be given back
pub not_yet_given_back : ChildlessAtEnd table.blocks (block 0)
not_yet_given_back count waits = omega arith

abbrev pub last_thread : Table
last_thread = with_blocks (Some (outer 1 true false)) (Some (inner 1 false false))

pub given_back_with_a_child : ChildlessAtEnd last_thread.blocks (block 0) → ⊥
given_back_with_a_child h = h refl refl (block 2) (inner 1 false false) refl refl

pub not_given_back_at_its_finish : ChildlessAtFinish table.blocks (block 0)
not_given_back_at_its_finish count = omega arith

abbrev pub no_thread_left : Table
no_thread_left = with_blocks (Some (outer 0 false false)) (Some (inner 1 false false))

pub given_back_at_its_finish : ChildlessAtFinish no_thread_left.blocks (block 0) → ⊥
given_back_at_its_finish h = h refl (block 2) (inner 1 false false) refl refl

-- a block in one that was given back
pub not_rooted : IsRooted (with_blocks None (Some (inner 1 false false))).blocks → ⊥
not_rooted h = let e = (h (block 2) (inner 1 false false) (block 0) refl refl).1 in cc

pub ancestors_do_not_live : AncestorsLive (with_blocks None (Some (inner 1 false false))).blocks (block 2) → ⊥
ancestors_do_not_live h = let e = h (block 0) (further (block 2) (block 0) (inner 1 false false) refl refl itself) in cc

-- ---- the parts of these

pub a_block_that_is_new : new_block (Some (block 0)) (thread 6) ≡ inner 0 false false
a_block_that_is_new = refl

pub another_stands_in_its_place : with_block table (block 0) None ≡ with_blocks None (Some (inner 1 false false))
another_stands_in_its_place = refl

-- only the last thread, and only where the owner waits
pub the_last_one_wakes : wakes (inner 1 true false) ∷ wakes (inner 2 true false) ∷ wakes (inner 1 false false) ∷ [] ≡ true ∷ false ∷ false ∷ []
the_last_one_wakes = refl

pub whom_it_wakes : (woken_by (Some (inner 1 true false)) ≡ Some (thread 6)) × (woken_by (Some (inner 2 true false)) ≡ None) × (woken_by None ≡ None)
whom_it_wakes = (refl, refl, refl)

pub a_thread_less : (one_less (Some (inner 1 true false)) ≡ None) × (one_less (Some (inner 2 true false)) ≡ Some (inner 1 true false)) × (one_less None ≡ None)
a_thread_less = (refl, refl, refl)

pub at_the_finish : arrival_at (Some (inner 0 false false)) ∷ arrival_at (Some (inner 1 false false)) ∷ arrival_at None ∷ [] ≡ Passes ∷ Waits ∷ Waits ∷ []
at_the_finish = refl

pub what_is_left_there : (left_at (Some (inner 0 false false)) ≡ None) × (left_at (Some (inner 1 false false)) ≡ Some (inner 1 true false)) × (left_at None ≡ None)
what_is_left_there = (refl, refl, refl)

pub it_gets_the_mark : (with_mark (Some (inner 1 false false)) ≡ Some (inner 1 false true)) × (with_mark None ≡ None)
it_gets_the_mark = (refl, refl)

pub the_outer_is_marked : IsMarked outer_marked.blocks (block 0)
the_outer_is_marked = refl

pub the_inner_is_not_marked : IsMarked outer_marked.blocks (block 2) → ⊥
the_inner_is_not_marked h = cc

pub which_bear_a_mark : (is_marked (Some (inner 1 false true)) ≡ true) × (is_marked (Some (inner 1 true false)) ≡ false) × (is_marked None ≡ false)
which_bear_a_mark = (refl, refl, refl)

pub what_was_given_back_is_not_marked : IsMarked outer_marked.blocks (block 1) → ⊥
what_was_given_back_is_not_marked h = h

pub a_thread_more : (one_more (Some (inner 1 false false)) ≡ Some (inner 2 false false)) × (one_more None ≡ None)
a_thread_more = (refl, refl)
