-- The run that a call gives has few entries: its program is small, as few bytes spell it, so a statement has few calls and operations
-- (FewActions), and its cores take few steps together. That it is such a run follows from what is due, which is gone through case by case.
use Rattle.std.proofs.Common.{◌≡◌, ◌≢◌, ℕ, ◌+◌, ◌*◌, ◌<◌, ◌≤◌, ◌^◌, ◌⊎◌, inl, inr, List, length, Option, None, Ok, sym, subst, arith}
use Rattle.std.specs.Prelude.{IfSome}
use Rattle.std.proofs.Math.Nat.{mul_left_comm}
use Rattle.std.proofs.lemmas.Bool.{cases_eq}
use Rattle.std.proofs.lemmas.List.Elements.{All-from_recursion}
use Rattle.std.proofs.lemmas.Nat.{mul-le}
use Rattle.ac_lexer.proofs.WholeText.{lexes_few}
use Rattle.ac_tree.specs.declared.item.Program.{Program}
use Rattle.ac_tree.specs.Weight.{items_weight, IsSmall}
use Rattle.ac_parser.proofs.Weights.{is_small}
use Rattle.ac_names.specs.Items.{outermost}
use Rattle.ac_names.specs.Numbered.{core_names}
use Rattle.ac_resolve.specs.Resolution.{resolved}
use Rattle.ac_outside.specs.Told.{LibraryTold, SinkTold}
use Rattle.ac_outside.specs.Disks.{DiskTold}
use Rattle.journal_bounds.specs.Actions.{most_actions}
use Rattle.program_run.specs.declared.ended.Ended.{Ended}
use Rattle.program_run.specs.Run.{IsRunOf, history_of}
use Rattle.ac_words.specs.declared.task.Task.{Task}
use Rattle.ac_words.specs.declared.task.Task.TheVariants as t
use Rattle.ac_words.proofs.Bounded.{load_bounded}
use Rattle.ac_file_server.specs.ServerText.{load_text}
use Rattle.ac_program.specs.declared.execute.Done.{Done}
use Rattle.program_reading.specs.Reading.{IsShort}
use Rattle.program_reading.specs.Source.{IsAccepted, IsReady}
use Rattle.ac_program.specs.Making.{Makes, IsDueOf}
use Rattle.ac_program.specs.Making.IsDueOf.{refused, ready}
use Rattle.ac_program.specs.Making.IsDueOfProgram.{disk_fault, long_file, made}
use Rattle.ac_program.specs.Headline.{IsDueOfFile, IsDue, TookWhole, TookPart, GaveUp, HasFewEntries, summed}
use Rattle.ac_program.specs.Headline.IsDueOfFile.{library_fault, too_long, source}
use Rattle.ac_program.specs.Headline.IsDue.{usage, call, audit, load}
use Rattle.ac_program.proofs.FewActions.{few_actions}
use Rattle.ac_program.proofs.Loads.{is_short}
use Rattle.ac_program.proofs.Names.{cores_there}
use Rattle.ac_program.proofs.RunHistories.{short_history}

-- ---- a run

few_in_all : (many most bound : ℕ) → most ≤ 1048576 → many * bound ≤ 4000000 → many * (4 * (most * bound)) < 2 ^ 45
few_in_all many most bound a b =
    let e = mul_left_comm many 4 (most * bound) in
    let f = mul_left_comm many most bound in
    let few : most * (many * bound) ≤ 1048576 * 4000000 = mul-le most (many * bound) 1048576 4000000 a b in
    omega arith

few_of_run : (p : Program) (bound : ℕ) (start : List (List ℕ)) (ended : Ended) → IsRunOf (resolved p) bound start ended → IsSmall p → length (core_names p.items) * bound ≤ 4000000
    → HasFewEntries ended
few_of_run p bound start ended run small within =
    let short = short_history (resolved p) bound start ended run in
    let most = few_actions p in
    let few = few_in_all (length (resolved p).cores) (most_actions (resolved p)) bound (omega (arith, most, small))
    (subst (λ (n : ℕ). n * bound ≤ 4000000) (sym (cores_there p.items (outermost p.items))) within) in
    record {
      entries = let all = short.entries in omega (arith, all, few);
      stamps = All-from_recursion (λ s. s.entry.stamp ≤ length (history_of ended.journals)) (history_of ended.journals) short.stamps;
    }

-- as many tokens as bytes at most
small_program : (bytes : List ℕ) (p : Program) → IsShort bytes → IsAccepted bytes p → IsSmall p
small_program bytes p short a =
    let few = lexes_few bytes (Ok a.spelled.tokens) a.spelled.lexed.lexed in
    is_small a.spelled.tokens p a.spelled.tree (omega (arith, few, short))

-- ---- what is due

pub few_in_none : (run : Option Ended) → run ≡ None → IfSome run HasFewEntries
few_in_none run none = subst (λ (o : Option Ended). IfSome o HasFewEntries) (sym none) tt

few_made : (bytes : List ℕ) (task : Task) (p : Program) (disk later : DiskTold) (done : Done) → IsShort bytes → IsReady bytes task p → Makes task p disk later done → IfSome done.run HasFewEntries
few_made bytes (t.Run steps telling) p disk later done short k d =
    subst (λ (o : Option Ended). IfSome o HasFewEntries) (sym d.kept) (few_of_run p steps d.start d.ended d.is_run (small_program bytes p short k.is_accepted) k.within)
few_made bytes t.Check p disk later done short k d = few_in_none done.run d.no_run
few_made bytes t.Code p disk later done short k d = few_in_none done.run d.no_run

module _ (disk later : DiskTold) (status : ℕ) (text : List ℕ) (run : Option Ended) where
  few_of_source : (bytes : List ℕ) (task : Task) → IsShort bytes → IsDueOf bytes task disk later status text run → IfSome run HasFewEntries
  few_of_source bytes task short (refused y n x r h a) = few_in_none run r
  few_of_source bytes task short (ready p k (disk_fault n x r h)) = few_in_none run r
  few_of_source bytes task short (ready p k (long_file file n x r h)) = few_in_none run r
  few_of_source bytes task short (ready p k (made done n x r d)) =
      subst (λ (o : Option Ended). IfSome o HasFewEntries) (sym r) (few_made bytes task p disk later done short k d)

  few_of_file : (file : List ℕ) (task : Task) (before after : LibraryTold) → IsDueOfFile file task before after disk later status text run → IfSome run HasFewEntries
  few_of_file file task before after (library_fault n x r j u a) = few_in_none run r
  few_of_file file task before after (too_long n x r w took a) = few_in_none run r
  few_of_file file task before after (source bytes w g short due) = few_of_source bytes task short due

  few_of_due : (words : List (List ℕ)) (before after : LibraryTold) → IsDue words before after disk later status text run → IfSome run HasFewEntries
  few_of_due words before after (usage n x r w s a) = few_in_none run r
  few_of_due words before after (call task file c due) = few_of_file file task before after due
  few_of_due words before after (audit file trace c r a due) = few_in_none run r
  few_of_due words before after (load turns steps c a due) =
      few_of_source (load_text turns) (summed turns steps) (is_short turns (load_bounded words turns steps c).most_turns) due

-- ---- what a call gives: what is due, whole or in part, or no run where memory was refused

pub few_entries : (words : List (List ℕ)) (before after : LibraryTold) (disk later : DiskTold) (status : ℕ) (run : Option Ended) (sink written : SinkTold)
    → (status ≢ 8 → status ≢ 11 → TookWhole (IsDue words before after disk later) status run sink written)
    → (status ≡ 8 → TookPart (IsDue words before after disk later) run sink written)
    → (status ≡ 11 → GaveUp words before after disk later run sink written) → IfSome run HasFewEntries
few_entries words before after disk later status run sink written whole part memory = by (cases_eq status 8) (cases_eq status 11) where
  by : (status ≡ 8) ⊎ (status ≡ 8 → ⊥) → (status ≡ 11) ⊎ (status ≡ 11 → ⊥) → IfSome run HasFewEntries
  by (inl failed) h = let some = part failed in few_of_due disk later some.status some.text run words before after some.due
  by (inr well) (inl short) = few_in_none run (memory short).no_run
  by (inr well) (inr enough) = let all = whole well enough in few_of_due disk later status all.text run words before after all.due
