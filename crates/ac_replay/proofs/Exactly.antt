-- Where the texts and the files call for a report, no other status is due unless something failed: the program and the trace are the only ones that
-- their texts spell, the trace is a run, no file is too long, and none differs.
use Rattle.std.proofs.Common.{◌≡◌, ◌≢◌, ℕ, zero, suc, ◌+◌, ◌*◌, ◌<◌, ◌≤◌, List, [], ◌∷◌, ◌++◌, length, map, Option, None, Some, refl, sym, ap, ◌∙◌, subst, append_assoc, length-append, arith}
use Rattle.std.specs.Prelude.{All, IfSome, slice_get}
use Rattle.std.proofs.lemmas.Option.{get_or_from_slice_get, slice_get_within}
use Rattle.ac_base.specs.declared.entry.Stamped.{Stamped}
use Rattle.ac_commands.specs.declared.program.Resolved.{Resolved}
use Rattle.ac_history.specs.Files.{file_of}
use Rattle.ac_names.specs.Numbered.{core_names, file_paths}
use Rattle.ac_outside.specs.Disks.{DiskTold, Held}
use Rattle.ac_outside.specs.Told.{LibraryTold}
use Rattle.ac_resolve.specs.Resolution.{resolved}
use Rattle.ac_tree.specs.declared.item.Program.{Program}
use Rattle.ac_words.specs.declared.task.Task.TheVariants as t
use Rattle.program_reading.specs.TwoFiles.{IsTraceFor, RefusesBoth, RefusesSource, RefusesTrace, RefusesTraced, halt_status}
use Rattle.program_reading.specs.TwoFiles.RefusesBoth.{library_fault, too_long, source}
use Rattle.program_reading.specs.TwoFiles.RefusesSource.{refused as is_refused, ready}
use Rattle.program_reading.specs.TwoFiles.RefusesTrace.{library_fault as trace_fault, too_long as trace_too_long, told as is_told}
use Rattle.program_reading.specs.TwoFiles.RefusesTraced.{wrong, too_many}
use Rattle.program_reading.specs.Reading.{Gave, TookBytes}
use Rattle.program_reading.specs.Source.{IsReady, Refuses, most_steps}
use Rattle.program_reading.specs.declared.halt.Halt.{Halt}
use Rattle.program_reading.proofs.Refusals.{refused_not, same_program}
use Rattle.starting_files.specs.declared.fault.StartFault.TheVariants as f
use Rattle.starting_files.specs.Starting.{AreStarted, AreStopped, StartsFiles, StopsAtFile, bytes_at}
use Rattle.trace_audit.specs.Judged.{IsFirstMisfit}
use Rattle.trace_audit.specs.RunTrace.{AllFit, Fits}
use Rattle.trace_text.specs.declared.trace.Trace.{Trace}
use Rattle.trace_text.specs.Outcomes.{trace_limit}
use Rattle.trace_text.specs.Spelling.{SpellsTrace}
use Rattle.ac_replay.specs.Due.{IsDueOfCall, IsDueOfFiles, IsDueOfRun, IsFirstOther}
use Rattle.ac_replay.specs.Due.IsDueOfCall.{refused, both}
use Rattle.ac_replay.specs.Due.IsDueOfFiles.{disk_fault, long_file, differs, torn, repeated}
use Rattle.ac_replay.specs.Due.IsDueOfRun.{misfit, other_end, run}
use Rattle.ac_replay.specs.Headline.{IsOfCores, IsToRunAgain}
use Rattle.ac_replay.proofs.Statuses.{of_cores}

-- ---- texts

gave_is : (told : Option (List ℕ)) (known given : List ℕ) → told ≡ Some known → Gave told given → given ≡ known
gave_is None known given e g = absurd (cc (e))
gave_is (Some bytes) known given e g = let same : bytes ≡ known = cc (e) in g ∙ same

not_long : (limit : ℕ) (told left : Option (List ℕ)) (known : List ℕ) → told ≡ Some known → TookBytes told left (limit + 1) → length known ≤ limit → ⊥
not_long limit None left known e k short = absurd (cc (e))
not_long limit (Some bytes) None known e k short = absurd k.consumed
not_long limit (Some bytes) (Some rest) known e k short =
    let same : known ≡ bytes = cc (e) in
    let long : length known ≡ length k.taken + length rest = ap length (same ∙ k.consumed) ∙ length-append k.taken rest in
    let count = k.count in
    omega (arith, long, count, short)

-- ---- entries

append_nil : (bs : List Stamped) → bs ++ [] ≡ bs
append_nil [] = refl
append_nil (b ∷ bs) = ap (λ cs. b ∷ cs) (append_nil bs)

fit_there : (program : Resolved) (t : Trace) (before es : List Stamped) (s : Stamped) (others front : List Stamped) → es ≡ front ++ s ∷ others → AllFit program t before es
    → Fits program t (before ++ front) s
fit_there program t before [] s others [] e a = absurd (cc (e))
fit_there program t before (x ∷ es) s others [] e a =
    let same : x ≡ s = cc (e) in subst (λ bs. Fits program t bs s) (sym (append_nil before)) (subst (λ (y : Stamped). Fits program t before y) same a.0)
fit_there program t before [] s others (f ∷ front) e a = absurd (cc (e))
fit_there program t before (x ∷ es) s others (f ∷ front) e a =
    let same : x ≡ f = cc (e) in
    let rest : es ≡ front ++ s ∷ others = cc (e) in
    subst (λ bs. Fits program t bs s) (append_assoc before (x ∷ []) front ∙ ap (λ (y : Stamped). before ++ y ∷ front) same)
    (fit_there program t (before ++ x ∷ []) es s others front rest a.1)

pub no_misfit : (program : Resolved) (t : Trace) (place : ℕ) → IsFirstMisfit program t place → AllFit program t [] t.entries → ⊥
no_misfit program t place m a = m.fits_not (fit_there program t [] t.entries m.misfit m.others m.before m.form a)

-- ---- files

mapped_at : (g : List ℕ → List ℕ) (paths : List (List ℕ)) (k : ℕ) (path : List ℕ) → slice_get paths k ≡ Some path → slice_get (map g paths) k ≡ Some (g path)
mapped_at g [] k path here = absurd (cc (here))
mapped_at g (p ∷ paths) zero path here = let same : p ≡ path = cc (here) in ap (λ x. Some (g x)) same
mapped_at g (p ∷ paths) (suc k) path here = mapped_at g paths k path here

module _ (program : Program) (t : Trace) (disk later : DiskTold) (held : Held) (holds : disk.held ≡ Some held) (start : t.start ≡ map (bytes_at held) (file_paths program.items)) where
  same_start : (other : List (List ℕ)) → AreStarted (file_paths program.items) other disk later → other ≡ t.start
  same_start other s = (subst (λ (o : Option Held). IfSome o (λ it. StartsFiles it later.held (file_paths program.items) other)) holds s.told).0 ∙ sym start

  not_other : (other : List (List ℕ)) (file : ℕ) → AreStarted (file_paths program.items) other disk later → IsFirstOther other t.start file → ⊥
  not_other other file s o = o.other (ap (λ files. file_of files file) (same_start other s))

  not_too_long : (file : ℕ) → All (λ bytes. length bytes ≤ 1048576) t.start → AreStopped (file_paths program.items) (f.TooLong file) disk later → ⊥
  not_too_long file short s =
      let stop = subst (λ (o : Option Held). IfSome o (λ it. StopsAtFile it later.held (file_paths program.items) s.number (f.TooLong file))) holds s.told in
      let there : slice_get t.start s.number ≡ Some (bytes_at held stop.path) =
      ap (λ files. slice_get files s.number) start ∙ mapped_at (bytes_at held) (file_paths program.items) s.number stop.path stop.here in
      let fits : length (bytes_at held stop.path) ≤ 1048576 =
      subst (λ bytes. length bytes ≤ 1048576) (get_or_from_slice_get t.start s.number (bytes_at held stop.path) [] there)
      (short s.number [] (slice_get_within t.start s.number (bytes_at held stop.path) there)) in
      let over = stop.stops.1 in
      omega (arith, fits, over)

-- ---- all of it

module _ (file trace : List ℕ) (before after : LibraryTold) (disk later : DiskTold) (status : ℕ) (text : List ℕ) (is : IsToRunAgain file trace before disk)
    (well_read : status ≢ 7) (well_done : status ≢ 9) where
  same_trace : (program : Program) (traced : List ℕ) (told : Trace) → traced ≡ is.traced → IsTraceFor program traced told → told ≡ is.told
  same_trace program traced told e w = is.is_trace.spelled.only told (subst (λ (bytes : List ℕ). SpellsTrace bytes told) e w.spelled.spells)

  program_is : (bytes : List ℕ) (program : Program) → bytes ≡ is.source → IsReady bytes t.Check program → program ≡ is.program
  program_is bytes program e k = let own = subst (λ (b : List ℕ). IsReady b t.Check program) e k in
      same_program is.source program is.program own.is_accepted.spelled is.is_ready.is_accepted.spelled

  no_traced : (program : Program) (traced : List ℕ) (halt : Halt) → program ≡ is.program → traced ≡ is.traced → RefusesTraced program traced halt → ⊥
  no_traced program traced halt p e (wrong line n w) = w.no_trace is.told (subst (λ (bytes : List ℕ). SpellsTrace bytes is.told) (sym e) is.is_trace.spelled.spells)
  no_traced program traced halt p e (too_many told n s over) =
      let same = is.is_trace.spelled.only told (subst (λ (bytes : List ℕ). SpellsTrace bytes told) e s.spells) in
      let most = is.is_trace.within in
      let more = subst (λ (q : Program). most_steps < length (core_names q.items) * is.told.steps) p
      (subst (λ (u : Trace). most_steps < length (core_names program.items) * u.steps) same over) in
      omega (arith, most, more)

  no_trace : (program : Program) (between : LibraryTold) (halt : Halt) → status ≡ halt_status halt → program ≡ is.program → between.text_at ≡ before.text_at
      → RefusesTrace program trace between after halt → ⊥
  no_trace program between halt n p e (trace_fault x j r) = well_read (n ∙ ap halt_status x)
  no_trace program between halt n p e (trace_too_long x r took) =
      not_long trace_limit (between.text_at trace) after.left is.traced (ap (λ (g : List ℕ → Option (List ℕ)). g trace) e ∙ is.has_trace) took is.short_trace
  no_trace program between halt n p e (is_told traced r g s w) =
      no_traced program traced halt p (gave_is (between.text_at trace) is.traced traced (ap (λ (g : List ℕ → Option (List ℕ)). g trace) e ∙ is.has_trace) g) w

  no_source : (bytes : List ℕ) (between : LibraryTold) (halt : Halt) → status ≡ halt_status halt → bytes ≡ is.source → between.text_at ≡ before.text_at
      → RefusesSource bytes trace between after halt → ⊥
  no_source bytes between halt n b e (is_refused refusal x r same) =
      refused_not is.source t.Check is.short_source refusal is.program (subst (λ (s : List ℕ). Refuses s t.Check refusal) b r) is.is_ready
  no_source bytes between halt n b e (ready program k r) = no_trace program between halt n (program_is bytes program b k) e r

  no_halt : (halt : Halt) → status ≡ halt_status halt → RefusesBoth file trace before after halt → ⊥
  no_halt halt n (library_fault x j r) = well_read (n ∙ ap halt_status x)
  no_halt halt n (too_long x r took) = not_long 1048576 (before.text_at file) after.left is.source is.has_source took is.short_source
  no_halt halt n (source bytes between r g s e w) = no_source bytes between halt n (gave_is (before.text_at file) is.source bytes is.has_source g) e w

  of_files : IsDueOfFiles is.program is.told disk later status text → IsOfCores status
  of_files (disk_fault e x s) = absurd (well_done e)
  of_files (long_file number e x s) = absurd (not_too_long is.program is.told disk later is.held is.holds is.start number is.is_run.end.short s)
  of_files (differs start number e x s o) = absurd (not_other is.program is.told disk later is.held is.holds is.start start number s o)
  of_files (torn between e x s d) = absurd (well_done e)
  of_files (repeated between s m d r) = subst IsOfCores (sym r.status_is) (of_cores r.ends)

  of_run : IsDueOfRun is.program is.told disk later status text → IsOfCores status
  of_run (misfit entry e x m a) = absurd (no_misfit (resolved is.program) is.told entry m is.is_run.entries)
  of_run (other_end e x a n l) = absurd (n is.is_run.end)
  of_run (run r d) = of_files d

  pub is_of_cores : IsDueOfCall file trace before after disk later status text → IsOfCores status
  is_of_cores (refused halt n x r a) = absurd (no_halt halt n r)
  is_of_cores (both program told b d) =
      let p = program_is b.bytes program (gave_is (before.text_at file) is.source b.bytes is.has_source b.gave) b.is_ready in
      let texts = ap (λ (g : List ℕ → Option (List ℕ)). g trace) b.same in
      let traced = gave_is (b.between.text_at trace) is.traced b.has_trace.traced (texts ∙ is.has_trace) b.has_trace.gave in
      let same = same_trace program b.has_trace.traced told traced b.has_trace.is_trace in
      of_run (subst (λ (q : Program). IsDueOfRun q is.told disk later status text) p (subst (λ (u : Trace). IsDueOfRun program u disk later status text) same d))
