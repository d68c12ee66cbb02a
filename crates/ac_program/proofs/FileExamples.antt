-- A program with a file, one that reads it, and what is left of a disk: files that are started, that stop a start and that are left by
-- want of memory, each beside another file, another order or another length.
use Rattle.std.proofs.Common.{◌≡◌, refl, sym, ap, ◌∙◌, subst, ℕ, ◌<◌, ◌≤◌, pos, List, [], ◌∷◌, length, codes, None, Some, true, false, Ok, inl, arith}
use Rattle.std.specs.Prelude.{slice_index, slice_index_or}
use Rattle.std.specs.declared.option.Option.{Option}
use Rattle.std.proofs.lemmas.List.Elements.{All-from_recursion}
use Rattle.ac_tree.specs.declared.expr.Expr.{Expr, fold-roll-Expr}
use Rattle.ac_tree.specs.declared.expr.Expr.TheOpen.{Expr-F}
use Rattle.ac_tree.specs.declared.expr.Expr.TheVariants as expr
use Rattle.ac_tree.specs.declared.stmt.Stmt.{Stmt}
use Rattle.ac_tree.specs.declared.stmt.Stmt.TheVariants as s
use Rattle.ac_tree.specs.declared.item.Item.TheVariants as item
use Rattle.ac_tree.specs.declared.item.Program.{Program}
use Rattle.ac_lexer.specs.inner.Reading.{piece_at, name_at, word_of, number_at, mark_of_one, mark_of_two}
use Rattle.ac_lexer.proofs.Lexed.{lexes, lexes_only, tokens_in}
use Rattle.reading_laws.specs.Letters.{same_word, same_mark}
use Rattle.reading_laws.specs.Readers.{many_at}
use Rattle.ac_expressions.specs.Reads.{chain_at, unary_at, place_of, place_step}
use Rattle.ac_parser.specs.inner.ReadsStatements.{stmt_at}
use Rattle.ac_parser.specs.inner.ReadsItems.{item_at, program_at}
use Rattle.ac_parser.proofs.Answered.{parsed_tree}
use Rattle.ac_parser.specs.Places.{IsTree}
use Rattle.ac_reach.specs.declared.reached.Reached.TheVariants as row
use Rattle.ac_types.specs.Reached.{BreaksNone}
use Rattle.ac_types.proofs.Forms.{expr_is, stmt_is}
use Rattle.ac_types.proofs.Judging.{program_told}
use Rattle.ac_outside.specs.Disks.{DiskTold, Held}
use Rattle.ac_base.specs.Log.{Log}
use Rattle.ac_base.specs.declared.entry.Answer.TheVariants.{Bytes}
use Rattle.ac_base.specs.declared.entry.Event.TheVariants.{Offer, Did}
use Rattle.ac_base.specs.declared.entry.Payload.TheVariants.{Read}
use Rattle.ac_outside.specs.Told.{AddsNames}
use Rattle.ac_outside.specs.Files.{file_of}
use Rattle.ac_outside.specs.Texts.{text_of}
use Rattle.ac_outside.proofs.Examples.{named}
use Rattle.starting_files.specs.declared.fault.StartFault.TheVariants as fault
use Rattle.ac_words.specs.declared.task.Task.TheVariants as t
use Rattle.ac_words.specs.declared.task.Telling.TheVariants as tell
use Rattle.program_reading.specs.Source.{HasTokens, IsAccepted, IsReady, needed}
use Rattle.program_reading.specs.Lines.{disk_line, limit_file_line}
use Rattle.ac_program.specs.Lines.{accepted_line}
use Rattle.starting_files.specs.Starting.{AreStarted, AreStopped}
use Rattle.ac_program.specs.Making.{AreLeft, IsDueOfProgram, IsTold, begun, disk_fault, untouched, stopped as halted}
use Rattle.ac_program.specs.Making.IsDueOfProgram.{long_file as long_file_due}
use Rattle.ac_program.specs.declared.execute.Done.{Done}
use Rattle.ac_program.specs.Headline.{IsLeft, alone, of_program, AreHeld, AreServed, AreShort, HasLong, HasRun, KnowsFiles, TellsDisk, CallsFor, made, long_file}
use Rattle.ac_program.proofs.Examples.{its_run, no_disk, reached_in, journal}

-- ---- programs with a file

-- a program with a file that is never used
abbrev pub filing_text : List ℕ
filing_text = codes "core a(f); file p(\"x\"); async void f() {}"

abbrev pub filing_tree : Program
filing_tree = record {
  items = item.Core 0 (codes "a") (codes "f") ∷ item.File 11 (codes "p") (codes "x")
      ∷ item.Function (record { at = 24; is_async = true; gives_int = false; name = codes "f"; params = []; body = [] }) ∷ [];
}

a_file : IsTree (tokens_in filing_text) filing_tree
unfolding piece_at name_at word_of number_at mark_of_one mark_of_two program_at item_at many_at stmt_at chain_at unary_at same_word same_mark
a_file = parsed_tree _ _ [] refl

filing_tokens : HasTokens filing_text (tokens_in filing_text)
unfolding piece_at name_at word_of number_at mark_of_one mark_of_two
filing_tokens = record { lexed = lexes 99 0 _ _ refl; only = λ other d. lexes_only 99 0 filing_text (Ok (tokens_in filing_text)) other refl d }

a_file_breaks_none : BreaksNone filing_tree.items
a_file_breaks_none = program_told filing_tree.items (row.ByOne 0 ∷ []) (reached_in filing_tree.items refl refl) None refl

filing_is_accepted : IsAccepted filing_text filing_tree
filing_is_accepted = record { spelled = record { tokens = tokens_in filing_text; lexed = filing_tokens; tree = a_file }; clean = a_file_breaks_none }

-- it is ready, and a run needs its file, and no other task does
pub a_file_is_ready : IsReady filing_text (t.Run 100 tell.Report) filing_tree
a_file_is_ready = record { is_accepted = filing_is_accepted; within = omega arith }

pub what_is_needed : needed (t.Run 100 tell.Report) filing_tree ∷ needed t.Check filing_tree ∷ needed t.Code filing_tree ∷ [] ≡ (codes "x" ∷ []) ∷ [] ∷ [] ∷ []
what_is_needed = refl

-- where the disk tells a longer file, a run of it is refused, and a check is not
abbrev pub long_disk : List ℕ → DiskTold
long_disk bytes = record { held = Some (record { files = []; found = λ path. Some bytes; calls = 0 }); bound = 0; is_ready = true; binds = Some []; faults = 0; earlier = 0 }

-- after its file was bound
abbrev pub bound_in : List ℕ → Held
bound_in bytes = record { files = named (codes "x") bytes ∷ []; found = λ path. Some bytes; calls = 1 }

its_file_is_long : (bytes : List ℕ) → length bytes ≡ 1048577 → HasLong (long_disk bytes) (codes "x" ∷ [])
its_file_is_long bytes e = record { path = codes "x"; is_one = (0, omega arith, refl); over = omega (arith, e) }

pub a_long_file_calls_for_10 : (bytes : List ℕ) → length bytes ≡ 1048577 → CallsFor filing_text (t.Run 100 tell.Report) (long_disk bytes) 10
a_long_file_calls_for_10 bytes e = long_file filing_tree refl (omega arith) a_file_is_ready (its_file_is_long bytes e)

pub a_long_file_is_not_short : (bytes : List ℕ) → length bytes ≡ 1048577 → AreShort (long_disk bytes) (codes "x" ∷ []) → ⊥
a_long_file_is_not_short bytes e short = let few = short 0 (codes "x") (omega arith) in omega (arith, e, few)

pub a_check_accepts_it : CallsFor filing_text t.Check no_disk 0
a_check_accepts_it = made filing_tree (omega arith) (record { is_accepted = filing_is_accepted; within = omega arith }) tt refl

-- a disk that tells nothing does not decide a run of it, and decides a check
pub a_run_asks_the_disk : KnowsFiles filing_text (t.Run 100 tell.Report) no_disk → ⊥
a_run_asks_the_disk knows = let e = knows filing_tree a_file_is_ready (omega arith) in cc (e)

pub a_check_does_not : KnowsFiles filing_text t.Check no_disk
a_check_does_not program ready some = absurd (omega (arith, some))

-- core a(f); file p("x"); async void f() { int b[1]; Read(p, 0, 1, b); } reads it
abbrev pub reading_text : List ℕ
reading_text = codes "core a(f); file p(\"x\"); async void f() { int b[1]; Read(p, 0, 1, b); }"

abbrev pub nought : Expr
nought = expr.Number 59 (pos 0)

abbrev pub one : Expr
one = expr.Number 62 (pos 1)

abbrev pub a_read : Expr
a_read = expr.Read 51 (codes "p") nought one (codes "b")

-- its statement stands at a place
abbrev reads_at : ℕ → List Stmt
reads_at at = s.Array 41 (codes "b") (pos 1) ∷ s.Call at a_read ∷ []

abbrev pub reading_at : ℕ → Program
reading_at at = record {
  items = item.Core 0 (codes "a") (codes "f") ∷ item.File 11 (codes "p") (codes "x")
      ∷ item.Function (record { at = 24; is_async = true; gives_int = false; name = codes "f"; params = []; body = reads_at at }) ∷ [];
}

-- which is that of the read
abbrev pub reading_tree : Program
reading_tree = reading_at 51

place_of_the_read : place_of a_read ≡ 51
place_of_the_read =
    ap place_of (sym (expr.rolls-Read 51 (codes "p") nought one (codes "b")))
    ∙ fold-roll-Expr ℕ (Unit {0}) place_step (λ l. tt) (Expr-F.Read 51 (codes "p") nought one (codes "b"))

reading_found : IsTree (tokens_in reading_text) (reading_at (place_of a_read))
unfolding piece_at name_at word_of number_at mark_of_one mark_of_two program_at item_at many_at stmt_at chain_at unary_at same_word same_mark
reading_found = parsed_tree _ _ [] refl

reading_parsed : IsTree (tokens_in reading_text) reading_tree
reading_parsed = subst (λ (at : ℕ). IsTree (tokens_in reading_text) (reading_at at)) place_of_the_read reading_found

reading_tokens : HasTokens reading_text (tokens_in reading_text)
unfolding piece_at name_at word_of number_at mark_of_one mark_of_two
reading_tokens = record { lexed = lexes 99 0 _ _ refl; only = λ other d. lexes_only 99 0 reading_text (Ok (tokens_in reading_text)) other refl d }

reading_breaks_none : BreaksNone reading_tree.items
reading_breaks_none = program_told reading_tree.items (row.ByOne 0 ∷ [])
    (reached_in reading_tree.items refl
    (rw (
      stmt_is _ (s.rolls-Array 41 (codes "b") (pos 1)),
      stmt_is _ (s.rolls-Call 51 a_read),
      expr_is _ (expr.rolls-Read 51 (codes "p") nought one (codes "b")),
      expr_is _ (expr.rolls-Number 59 (pos 0)),
      expr_is _ (expr.rolls-Number 62 (pos 1)),
    ) refl)) None
    (rw (
      stmt_is _ (s.rolls-Array 41 (codes "b") (pos 1)),
      stmt_is _ (s.rolls-Call 51 a_read),
      expr_is _ (expr.rolls-Read 51 (codes "p") nought one (codes "b")),
      expr_is _ (expr.rolls-Number 59 (pos 0)),
      expr_is _ (expr.rolls-Number 62 (pos 1)),
    ) refl)

reading_is_accepted : IsAccepted reading_text reading_tree
reading_is_accepted = record { spelled = record { tokens = tokens_in reading_text; lexed = reading_tokens; tree = reading_parsed }; clean = reading_breaks_none }

-- it is ready for a run and for a listing
pub a_read_is_ready : IsReady reading_text (t.Run 100 tell.Report) reading_tree
a_read_is_ready = record { is_accepted = reading_is_accepted; within = omega arith }

pub there_is_a_listing_of_it : CallsFor reading_text t.Code no_disk 0
there_is_a_listing_of_it = made reading_tree (omega arith) (record { is_accepted = reading_is_accepted; within = omega arith }) tt refl

-- ---- a disk with the file x

abbrev pub a_disk : DiskTold
a_disk = record { held = Some (record { files = []; found = text_of (named (codes "x") (codes "ab") ∷ []); calls = 0 }); bound = 0; is_ready = true; binds = Some []; faults = 0; earlier = 0 }

abbrev pub its_files : Held
its_files = record { files = named (codes "x") (codes "ab") ∷ []; found = text_of (named (codes "x") (codes "ab") ∷ []); calls = 2 }

-- after its file was bound and read, and after its bind failed
abbrev pub its_disk : DiskTold
its_disk = record { held = Some its_files; bound = 1; is_ready = true; binds = Some (codes "x" ∷ []); faults = 0; earlier = 0 }

abbrev pub a_failed_disk : DiskTold
a_failed_disk = record {
  held = Some (record { files = []; found = text_of (named (codes "x") (codes "ab") ∷ []); calls = 1 });
  bound = 0;
  is_ready = true;
  binds = Some
      (codes "x" ∷ []);
  faults = 1;
  earlier = 0;
}

two_bytes : 2 ≤ 1048576
two_bytes = omega arith

pub its_file_is_started : AreStarted (codes "x" ∷ []) (codes "ab" ∷ []) a_disk its_disk
its_file_is_started = record {
  well = refl;
  bound = refl;
  is_ready = refl;
  asked = refl;
  count = refl;
  short = All-from_recursion (λ (bytes : List ℕ). length bytes ≤ 1048576) (codes "ab" ∷ []) (two_bytes, tt);
  told = (refl, refl);
}

-- but not where it was not bound, not read, or changed
pub no_file_is_left_out : (start : List (List ℕ)) → AreStarted (codes "x" ∷ []) start no_disk no_disk → ⊥
no_file_is_left_out start h = let e = h.bound in omega (arith, e)

abbrev calls_of : Option Held → ℕ
calls_of None = 0
calls_of (Some held) = held.calls

pub no_read_is_skipped : AreStarted (codes "x" ∷ []) (codes "ab" ∷ []) a_disk (record its_disk { held = Some (record its_files { calls = 1 }) }) → ⊥
no_read_is_skipped h = let e : 1 ≡ 2 = ap calls_of h.told.1 in omega (arith, e)

abbrev length_of : Option Held → ℕ
length_of None = 0
length_of (Some held) = length (file_of held.files 0).bytes

pub its_file_is_not_changed :
    AreStarted (codes "x" ∷ []) (codes "ab" ∷ []) a_disk (record its_disk { held = Some (record its_files { files = named (codes "x") (codes "a") ∷ [] }) }) → ⊥
its_file_is_not_changed h = let e : 1 ≡ 2 = ap length_of h.told.1 in omega (arith, e)

pub its_start_is_held : AreHeld a_disk (codes "x" ∷ []) (codes "ab" ∷ [])
its_start_is_held = refl

pub no_part_is_held : AreHeld a_disk (codes "x" ∷ []) (codes "a" ∷ []) → ⊥
no_part_is_held e = let n : 1 ≡ 2 = ap (λ start. length (slice_index_or start 0 [])) e in omega (arith, n)

below_nought : (k : ℕ) → k < 0 → ⊥
below_nought k less = omega (arith, less)

pub its_file_stops_it : AreStopped (codes "x" ∷ []) fault.Failed a_disk a_failed_disk
its_file_stops_it = record {
  number = 0;
  within = omega arith;
  is_number = tt;
  asked = refl;
  cause = (omega arith, omega arith);
  latest = refl;
  told = record { path = codes "x"; here = refl; short = λ k d less. absurd (below_nought k less); stops = inl (inl refl) };
}

-- no file stops it where no call failed, and no file that there is not
pub nothing_stops_it : AreStopped (codes "x" ∷ []) fault.Failed a_disk a_disk → ⊥
nothing_stops_it h = let rose = h.cause.1 in omega (arith, rose)

pub there_is_no_second_file : (later : DiskTold) → AreStopped (codes "x" ∷ []) (fault.TooLong 1) a_disk later → ⊥
there_is_no_second_file later h = let less = h.within in let same = h.is_number in omega (arith, less, same)

pub a_disk_fault_is_due : IsDueOfProgram (t.Run 100 tell.Report) filing_tree a_disk a_failed_disk 9 disk_line None
a_disk_fault_is_due = disk_fault refl refl refl its_file_stops_it

-- a file that is too long is told by its number
abbrev bound_disk : List ℕ → DiskTold
bound_disk bytes = record (long_disk bytes) { held = Some (bound_in bytes); bound = 1; binds = Some (codes "x" ∷ []) }

its_length_stops_it : (bytes : List ℕ) → length bytes ≡ 1048577 → AreStopped (codes "x" ∷ []) (fault.TooLong 0) (long_disk bytes) (bound_disk bytes)
its_length_stops_it bytes e = record {
  number = 0;
  within = omega arith;
  is_number = refl;
  asked = refl;
  cause = refl;
  latest = tt;
  told = record { path = codes "x"; here = refl; short = λ k d less. absurd (below_nought k less); stops = (refl, omega (arith, e), refl) };
}

pub a_long_file_is_due : (bytes : List ℕ) → length bytes ≡ 1048577
    → IsDueOfProgram (t.Run 100 tell.Report) filing_tree (long_disk bytes) (bound_disk bytes) 10 (limit_file_line 0) None
a_long_file_is_due bytes e = long_file_due 0 refl refl refl (its_length_stops_it bytes e)

pub nothing_is_left_undone : AreLeft (codes "x" ∷ []) a_disk a_disk
nothing_is_left_undone = untouched refl

pub want_of_memory_leaves_it : IsLeft (Some filing_text) (t.Run 100 tell.Report) a_disk its_disk
want_of_memory_leaves_it = of_program filing_text filing_tree refl a_file_is_ready (begun (codes "ab" ∷ []) its_disk its_file_is_started (record { bound = refl; is_ready = refl; binds = refl }))

-- also where the run had written to its file, and a call had failed
pub it_leaves_what_the_run_made : AreLeft (codes "x" ∷ []) a_disk (record its_disk { held = Some (record its_files { files = named (codes "x") (codes "aX") ∷ [] }); faults = 1 })
it_leaves_what_the_run_made = begun (codes "ab" ∷ []) its_disk its_file_is_started (record { bound = refl; is_ready = refl; binds = refl })

abbrev first_of : List (List ℕ) → ℕ
first_of names = slice_index (slice_index_or names 0 []) 0

-- but no file under another path was to be bound, before the run or in it
pub not_with_another_file : AreLeft (codes "x" ∷ []) a_disk (record its_disk { held = None; binds = Some (codes "y" ∷ []) }) → ⊥
not_with_another_file (untouched e) = let n : 1 ≡ 0 = ap (λ (told : DiskTold). told.bound) e in omega (arith, n)
not_with_another_file (halted h) = let n : 121 ≡ 120 = ap first_of h.asked in omega (arith, n)
not_with_another_file (begun start between h none) =
    let asked = subst (λ (names : Option (List (List ℕ))). AddsNames (Some []) names (codes "x" ∷ [])) (sym none.binds) h.asked in
    let n : 121 ≡ 120 = ap first_of asked in omega (arith, n)

-- nor did a check leave anything
pub a_check_leaves_nothing : IsLeft (Some filing_text) t.Check a_disk its_disk → ⊥
a_check_leaves_nothing (alone e) = let n : 1 ≡ 0 = ap (λ (told : DiskTold). told.bound) e in omega (arith, n)
a_check_leaves_nothing (of_program text program g k left) = none left where
  none : AreLeft [] a_disk its_disk → ⊥
  none (untouched e) = let n : 1 ≡ 0 = ap (λ (told : DiskTold). told.bound) e in omega (arith, n)
  none (halted h) = let less = h.within in omega (arith, less)
  none (begun start between h keeps) = let n = h.bound in let m = keeps.bound in omega (arith, n, m)

-- a file of 1,048,576 bytes is short, and one byte more is too long
pub the_longest_file : (bytes : List ℕ) → length bytes ≡ 1048576 → AreShort (long_disk bytes) (codes "x" ∷ [])
the_longest_file bytes e = All-from_recursion (λ (path : List ℕ). length bytes ≤ 1048576) (codes "x" ∷ []) (omega (arith, e), tt)

pub one_byte_more : (bytes : List ℕ) → length bytes ≡ 1048577 → AreShort (long_disk bytes) (codes "x" ∷ []) → ⊥
one_byte_more bytes e short = let few = short 0 [] (omega arith) in omega (arith, e, few)

pub it_does_not_stop_it : (bytes : List ℕ) (later : DiskTold) → length bytes ≡ 1048576 → AreStopped (codes "x" ∷ []) (fault.TooLong 0) (long_disk bytes) later → ⊥
it_does_not_stop_it bytes later e h = let over = h.told.stops.1 in omega (arith, e, over)

-- a check leaves the disk alone
pub no_check_binds_a_file : (done : Done) → IsTold accepted_line a_disk its_disk done → ⊥
no_check_binds_a_file done h = let e : 1 ≡ 0 = ap (λ (told : DiskTold). told.bound) h.alone in omega (arith, e)

pub a_fault_of_the_disk : TellsDisk a_disk a_failed_disk 9 None
a_fault_of_the_disk = record { told = λ e. omega arith; only = λ n. absurd (n refl) }

pub no_fault_of_the_disk : TellsDisk a_disk its_disk 9 None → ⊥
no_fault_of_the_disk h = let le = h.told refl in omega (arith, le)

-- what failed in a run is told by its answers, and what failed in no run by the status
pub a_fault_in_a_run : TellsDisk a_disk a_failed_disk 0 (Some its_run)
a_fault_in_a_run = record { told = λ e. omega (arith, e); only = λ _ _ _ none. let no : Some its_run ≡ None = none in cc (no) }

pub a_fault_that_is_not_told : TellsDisk a_disk a_failed_disk 10 None → ⊥
a_fault_that_is_not_told h = let e = h.only (omega arith) (omega arith) (omega arith) refl in omega (arith, e)

-- no run begins with other bytes than the disk holds
pub no_run_begins_otherwise : (status : ℕ) (h : HasRun filing_tree 100 tell.Report a_disk status) → h.start ≡ codes "a" ∷ [] → ⊥
no_run_begins_otherwise status h e = let n : 1 ≡ 2 = ap (λ start. length (slice_index_or start 0 [])) (sym e ∙ h.are_held) in omega (arith, n)

-- ---- what a run reads

-- the core asks for the first byte of its file, and the worker answers with this one
abbrev pub reading_journals : ℕ → List Log
reading_journals byte = journal (record { stamp = 1; turn = 1; event = Offer 0 0 (Read 0 0 1) } ∷ [])
    ∷ journal (record { stamp = 2; turn = 0; event = Did 0 0 (Bytes (byte ∷ [])) } ∷ []) ∷ []

pub its_read_is_served : AreServed a_disk reading_tree (codes "ab" ∷ []) (reading_journals 97)
its_read_is_served = (refl, tt)

pub not_with_another_byte : AreServed a_disk reading_tree (codes "ab" ∷ []) (reading_journals 98) → ⊥
not_with_another_byte h = let e : false ≡ true = h.0 in cc (e)
