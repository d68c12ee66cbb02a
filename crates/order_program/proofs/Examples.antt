-- What is due of a run of two cores that send to one another, as `ac_order` answers: its two offers are concurrent, and at the cut of just
-- these both cores wait. Beside each answer stands one that is not due.
use Rattle.std.proofs.Common.{◌≡◌, inl, refl, sym, ap, subst, ℕ, List, [], ◌∷◌, length, codes, arith}
use Rattle.std.specs.Prelude.{suc}
use Rattle.std.proofs.lemmas.Fmt.{decimal_digit}
use Rattle.ac_base.specs.declared.ends.CoreEnd.{CoreEnd}
use Rattle.ac_base.specs.declared.ends.EndWord.TheVariants.{Stalled}
use Rattle.ac_causal.specs.declared.order.Order.TheVariants.{Same, Before, After, Concurrent}
use Rattle.ac_causal.specs.Cuts.{IsCut}
use Rattle.ac_causal.specs.States.{AreStates}
use Rattle.ac_causal.proofs.Examples.{entries, the_offers_are_concurrent, the_first_is_before_the_fourth, the_fifth_is_after_the_fourth}
use Rattle.ac_causal.proofs.CutExamples.{the_two_offers, more_than_there_are, they_are_closed, it_is_open_at_the_second_offer, it_is_not_closed}
use Rattle.ac_outside.specs.Told.{LibraryTold, SinkTold}
use Rattle.ac_resolve.specs.Resolution.{resolved}
use Rattle.ac_tree.specs.declared.item.Program.{Program}
use Rattle.trace_audit.specs.declared.verdict.Verdict.TheVariants.{NoAt}
use Rattle.trace_audit.specs.Judged.{Judges}
use Rattle.trace_audit.specs.RunTrace.{IsRunTrace}
use Rattle.trace_text.specs.declared.trace.Trace.{Trace}
use Rattle.program_reading.specs.declared.halt.Halt.TheVariants as h
use Rattle.program_reading.specs.TwoFiles.{AreBoth, RefusesBoth}
use Rattle.program_reading.specs.Source.{names_of}
use Rattle.order_words.specs.Words.{Orders}
use Rattle.order_words.proofs.Examples.{the_order, an_order, no_words_are_no_call}
use Rattle.order_program.specs.Lines.{usage_line, no_entry_line, no_cut_line, open_line, order_line, ending_of, states_text}
use Rattle.order_program.specs.Asking.{IsDueOfEntries, IsDueOfCut, IsDueOfRun, IsDueOfTrace, IsDueOfFiles}
use Rattle.order_program.specs.Asking.{misfit, is_run, no_one, no_other, stands, no_cut, is_open, is_closed, refused, read}
use Rattle.order_program.specs.Headline.{IsNoCall, IsDue, GaveUp, TellsUsage, usage, call}

-- ---- lines

pub the_usage : usage_line ≡ codes "usage: ac_order order FILE TRACE I J, ac_order cut FILE TRACE COUNTS\n"
the_usage = refl

pub the_lines_of_orders : order_line Same ∷ order_line Before ∷ order_line After ∷ order_line Concurrent ∷ []
    ≡ codes "same\n" ∷ codes "before\n" ∷ codes "after\n" ∷ codes "concurrent\n" ∷ []
the_lines_of_orders = refl

pub the_lines_of_refusals : no_entry_line 6 ∷ no_cut_line ∷ open_line 1 ∷ [] ≡ codes "no entry 6\n" ∷ codes "no such cut\n" ∷ codes "open at 1\n" ∷ []
the_lines_of_refusals = rw (decimal_digit 6 (omega arith), decimal_digit 1 (omega arith)) refl

-- ---- two entries

pub the_offers : IsDueOfEntries entries 0 1 0 (codes "concurrent\n")
the_offers = stands Concurrent refl refl (omega arith) (omega arith) the_offers_are_concurrent

pub not_before : IsDueOfEntries entries 0 1 0 (codes "before\n") → ⊥
not_before (no_one e x l) = omega (arith, e)
not_before (no_other e x l m) = omega (arith, e)
not_before (stands Same e x l m o) = cc (x)
not_before (stands Before e x l m o) = the_offers_are_concurrent.1 o
not_before (stands After e x l m o) = cc (x)
not_before (stands Concurrent e x l m o) = cc (x)

pub its_answer : IsDueOfEntries entries 0 3 0 (codes "before\n")
its_answer = stands Before refl refl (omega arith) (omega arith) the_first_is_before_the_fourth

pub the_other_way : IsDueOfEntries entries 4 3 0 (codes "after\n")
the_other_way = stands After refl refl (omega arith) (omega arith) the_fifth_is_after_the_fourth

pub there_is_no_seventh : IsDueOfEntries entries 0 6 16 (codes "no entry 6\n")
there_is_no_seventh = no_other refl (sym (rw (decimal_digit 6 (omega arith)) refl)) (omega arith) (omega arith)

-- ---- a cut, in any program of two cores

module _ (program : Program) (bound : ℕ) (cores : length (resolved program).cores ≡ 2) where
  three : suc (length (resolved program).cores) ≡ 3
  three = ap suc cores

  at_three : (counts : List ℕ) → IsCut entries 3 counts → IsCut entries (suc (length (resolved program).cores)) counts
  at_three counts cut = subst (λ (n : ℕ). IsCut entries n counts) (sym three) cut

  pub too_many : IsDueOfCut program bound entries (4 ∷ 0 ∷ 0 ∷ []) 18 (codes "no such cut\n")
  too_many = no_cut refl refl (λ cut. more_than_there_are (subst (λ (n : ℕ). IsCut entries n (4 ∷ 0 ∷ 0 ∷ [])) three cut))

  -- both cores wait, where they do under their offers
  pub the_offers_alone : (one other : CoreEnd) → one.word ≡ Stalled → one.steps ≡ 5 → other.word ≡ Stalled → other.steps ≡ 5 → names_of program ≡ codes "a" ∷ codes "b" ∷ []
      → AreStates (resolved program) bound entries (1 ∷ 1 ∷ 0 ∷ []) (one ∷ other ∷ [])
      → IsDueOfCut program bound entries (1 ∷ 1 ∷ 0 ∷ []) 0 (codes "a: stalled after 5 steps\nb: stalled after 5 steps\n")
  the_offers_alone one other a b c d names s =
      is_closed (one ∷ other ∷ []) refl (sym (rw (names, a, b, c, d, decimal_digit 5 (omega arith)) refl)) (at_three (1 ∷ 1 ∷ 0 ∷ []) the_two_offers) they_are_closed s

  pub not_closed : (text : List ℕ) → IsDueOfCut program bound entries (2 ∷ 0 ∷ 0 ∷ []) 0 text → ⊥
  not_closed text (no_cut e x n) = omega (arith, e)
  not_closed text (is_open entry e x c o) = omega (arith, e)
  not_closed text (is_closed ends e x c k s) = it_is_not_closed k

  pub open_at_the_second : IsCut entries 3 (2 ∷ 0 ∷ 0 ∷ []) → IsDueOfCut program bound entries (2 ∷ 0 ∷ 0 ∷ []) 17 (codes "open at 1\n")
  open_at_the_second cut = is_open 1 refl (sym (rw (decimal_digit 1 (omega arith)) refl)) (at_three (2 ∷ 0 ∷ 0 ∷ []) cut) it_is_open_at_the_second_offer

-- a core that waits
pub its_line : (end : CoreEnd) → end.word ≡ Stalled → end.steps ≡ 5 → ending_of end ≡ codes ": stalled after 5 steps\n"
its_line end w s = rw (w, s, decimal_digit 5 (omega arith)) refl

pub no_core_no_line : (end : CoreEnd) → states_text [] (end ∷ []) ≡ []
no_core_no_line end = refl

-- ---- traces and files

module _ (program : Program) (run : Trace) (one : run.entries ≡ entries) where
  abbrev IsAnswer : ℕ → List ℕ → Type 0
  IsAnswer status text = IsDueOfTrace program run (Orders 0 1) status text

  pub of_a_run : IsRunTrace (resolved program) run → IsAnswer 0 (codes "concurrent\n")
  of_a_run r = is_run r (subst (λ es. IsDueOfEntries es 0 1 0 (codes "concurrent\n")) (sym one) the_offers)

  pub of_no_run : Judges (resolved program) run (NoAt 1) → IsAnswer 13 (codes "no at 1\n")
  of_no_run j = misfit 1 refl (sym (rw (decimal_digit 1 (omega arith)) refl)) j

  pub not_its_status : (text : List ℕ) → IsDueOfRun program run (Orders 0 1) 13 text → ⊥
  not_its_status text (no_one e x l) = omega (arith, e)
  not_its_status text (no_other e x l m) = omega (arith, e)
  not_its_status text (stands order e x l m o) = omega (arith, e)

  module _ (before after : LibraryTold) where
    pub of_its_files : AreBoth (codes "x.ac") (codes "x.trace") before after program run → IsRunTrace (resolved program) run
        → IsDueOfFiles (codes "x.ac") (codes "x.trace") (Orders 0 1) before after 0 (codes "concurrent\n")
    of_its_files b r = read program run b (of_a_run r)

    pub of_their_call : AreBoth (codes "x.ac") (codes "x.trace") before after program run → IsRunTrace (resolved program) run
        → IsDue (codes "order" ∷ codes "x.ac" ∷ codes "x.trace" ∷ codes "0" ∷ codes "1" ∷ []) before after 0 (codes "concurrent\n")
    of_their_call b r = call the_order an_order (of_its_files b r)

pub a_failed_library : (before after : LibraryTold) → RefusesBoth (codes "x.ac") (codes "x.trace") before after h.LibraryFault
    → IsDueOfFiles (codes "x.ac") (codes "x.trace") (Orders 0 1) before after 7 (codes "library fault\n")
a_failed_library before after r = refused h.LibraryFault refl refl r

-- ---- words

pub nothing_is_no_call : IsNoCall []
nothing_is_no_call = no_words_are_no_call

pub usage_is_due : (library : LibraryTold) → IsDue [] library library 1 usage_line
usage_is_due library = usage refl refl nothing_is_no_call refl

pub it_is_told : TellsUsage [] 1
it_is_told = record { told = λ e. nothing_is_no_call; only = λ n. inl refl }

pub not_of_a_call : TellsUsage (codes "order" ∷ codes "x.ac" ∷ codes "x.trace" ∷ codes "0" ∷ codes "1" ∷ []) 1 → ⊥
not_of_a_call h = h.told refl the_order an_order

pub no_words_give_up : (before after : LibraryTold) (sink written : SinkTold) → GaveUp [] before after sink written → ⊥
no_words_give_up before after sink written g = no_words_are_no_call g.asked g.is_call
