-- What the parts of the writer make together. Each loop keeps that the text so far and the lines of the items that are left are the whole; the
-- four parts, one behind the other, are the text of the trace; and a part that is too long makes the whole too long.
use Rattle.std.proofs.Common.{◌≡◌, ℕ, suc, ◌+◌, ◌<◌, List, [], ◌∷◌, ◌++◌, length, get_or, drop, drop-cons, Result, Err, refl, sym, ap, ◌∙◌, subst, append-nil, append_assoc, length-append, arith}
use Rattle.ac_base.specs.declared.entry.Stamped.{Stamped}
use Rattle.trace_text.specs.declared.faults.WriteFault.{WriteFault}
use Rattle.trace_text.specs.declared.faults.WriteFault.TheVariants as w
use Rattle.trace_text.specs.declared.version.Version.{Version}
use Rattle.trace_text.specs.declared.trace.Trace.{Trace}
use Rattle.trace_text.specs.declared.trace.TraceEnd.{TraceEnd}
use Rattle.trace_text.specs.Versions.{version_of}
use Rattle.trace_text.specs.Text.{title, steps_line, file_line, file_lines, entry_line, entry_lines, end_line, end_lines, joined, trace_text}
use Rattle.trace_text.specs.Outcomes.{Writes}
use Rattle.trace_text.specs.inner.Adding.{Adds}
use Rattle.trace_text.proofs.TextLines.{joined_append}

-- ---- one line more

-- the line of an item has gone behind the text, and the other lines are left
one_more : (text new whole line : List ℕ) (left lines : List (List ℕ)) → new ≡ text ++ joined (line ∷ []) → lines ≡ line ∷ left → text ++ joined lines ≡ whole → new ++ joined left ≡ whole
one_more text new whole line left lines added is all =
    ap (λ (bs : List ℕ). bs ++ joined left) added ∙ append_assoc text (joined (line ∷ [])) (joined left)
    ∙ (ap (λ (bs : List ℕ). text ++ bs) (sym (joined_append (line ∷ []) left)) ∙ (ap (λ (ls : List (List ℕ)). text ++ joined ls) (sym is) ∙ all))

module _ (text new whole : List ℕ) (i : ℕ) where
  next : suc i ≡ i + 1
  next = omega arith

  pub one_file_more : (files : List (List ℕ)) (file now item : List ℕ) → i < length files → file ≡ get_or files i item → now ≡ file
      → new ≡ text ++ joined (file_line i now ∷ []) → text ++ joined (file_lines i (drop i files)) ≡ whole → new ++ joined (file_lines (i + 1) (drop (i + 1) files)) ≡ whole
  one_file_more files file now item less is same added all =
      subst (λ (n : ℕ). new ++ joined (file_lines n (drop n files)) ≡ whole) next
      (one_more text new whole (file_line i now) (file_lines (suc i) (drop (suc i) files)) (file_lines i (drop i files)) added
      (ap (file_lines i) (drop-cons files i item less) ∙ ap (λ (bytes : List ℕ). file_line i bytes ∷ file_lines (suc i) (drop (suc i) files)) (sym (same ∙ is))) all)

  pub one_entry_more : (version : Version) (entries : List Stamped) (entry item : Stamped) → i < length entries → entry ≡ get_or entries i item
      → new ≡ text ++ joined (entry_line version entry ∷ []) → text ++ joined (entry_lines version (drop i entries)) ≡ whole
      → new ++ joined (entry_lines version (drop (i + 1) entries)) ≡ whole
  one_entry_more version entries entry item less is added all =
      subst (λ (n : ℕ). new ++ joined (entry_lines version (drop n entries)) ≡ whole) next
      (one_more text new whole (entry_line version entry) (entry_lines version (drop (suc i) entries)) (entry_lines version (drop i entries)) added
      (ap (entry_lines version) (drop-cons entries i item less) ∙ ap (λ (s : Stamped). entry_line version s ∷ entry_lines version (drop (suc i) entries)) (sym is)) all)

  pub one_end_more : (ends : List TraceEnd) (end item : TraceEnd) → i < length ends → end ≡ get_or ends i item
      → new ≡ text ++ joined (end_line i end ∷ []) → text ++ joined (end_lines i (drop i ends)) ≡ whole → new ++ joined (end_lines (i + 1) (drop (i + 1) ends)) ≡ whole
  one_end_more ends end item less is added all =
      subst (λ (n : ℕ). new ++ joined (end_lines n (drop n ends)) ≡ whole) next
      (one_more text new whole (end_line i end) (end_lines (suc i) (drop (suc i) ends)) (end_lines i (drop i ends)) added
      (ap (end_lines i) (drop-cons ends i item less) ∙ ap (λ (e : TraceEnd). end_line i e ∷ end_lines (suc i) (drop (suc i) ends)) (sym is)) all)

-- ---- the whole

-- the four parts of a text: its two first lines, its files, its entries, its ends
abbrev pub head_part : Trace → List ℕ
head_part t = joined (title (version_of t) ∷ steps_line t.steps ∷ [])

abbrev pub file_part : Trace → List ℕ
file_part t = joined (file_lines 0 t.start)

abbrev pub entry_part : Trace → List ℕ
entry_part t = joined (entry_lines (version_of t) t.entries)

abbrev pub end_part : Trace → List ℕ
end_part t = joined (end_lines 0 t.ends)

-- and the text so far
abbrev pub with_files : Trace → List ℕ
with_files t = head_part t ++ file_part t

abbrev pub with_entries : Trace → List ℕ
with_entries t = with_files t ++ entry_part t

parts_are_text : (t : Trace) → with_entries t ++ end_part t ≡ trace_text t
parts_are_text t =
    append_assoc (with_files t) (entry_part t) (end_part t)
    ∙ (append_assoc (head_part t) (file_part t) (entry_part t ++ end_part t)
    ∙ (ap (λ (bs : List ℕ). head_part t ++ (file_part t ++ bs)) (sym (joined_append (entry_lines (version_of t) t.entries) (end_lines 0 t.ends)))
    ∙ (ap (λ (bs : List ℕ). head_part t ++ bs) (sym (joined_append (file_lines 0 t.start) (entry_lines (version_of t) t.entries ++ end_lines 0 t.ends)))
    ∙ sym (joined_append (title (version_of t) ∷ steps_line t.steps ∷ []) (file_lines 0 t.start ++ (entry_lines (version_of t) t.entries ++ end_lines 0 t.ends))))))

-- ---- what is written

pub head_written : (t : Trace) (version : Version) (a b c : List ℕ) → version ≡ version_of t → a ≡ [] → b ≡ a ++ joined (title version ∷ []) → c ≡ b ++ joined (steps_line t.steps ∷ [])
    → c ≡ head_part t
head_written t version a b c v h g k =
    k ∙ (ap (λ (bs : List ℕ). bs ++ joined (steps_line t.steps ∷ [])) (g ∙ ap (λ (bs : List ℕ). bs ++ joined (title version ∷ [])) h)
    ∙ (append_assoc (title version) (10 ∷ []) (joined (steps_line t.steps ∷ [])) ∙ ap (λ (version : Version). joined (title version ∷ steps_line t.steps ∷ [])) v))

pub files_written : (t : Trace) (files : List (List ℕ)) (a b : List ℕ) → a ≡ head_part t → files ≡ t.start → b ≡ a ++ joined (file_lines 0 files) → b ≡ with_files t
files_written t files a b h e k =
    k ∙ (ap (λ (bs : List ℕ). bs ++ joined (file_lines 0 files)) h ∙ ap (λ (fs : List (List ℕ)). head_part t ++ joined (file_lines 0 fs)) e)

pub entries_written : (t : Trace) (version : Version) (entries : List Stamped) (a b : List ℕ) → version ≡ version_of t → a ≡ with_files t → entries ≡ t.entries
    → b ≡ a ++ joined (entry_lines version entries) → b ≡ with_entries t
entries_written t version entries a b v h e k =
    k ∙ (ap (λ (bs : List ℕ). bs ++ joined (entry_lines version entries)) h ∙ (ap (λ (es : List Stamped). with_files t ++ joined (entry_lines version es)) e
    ∙ ap (λ (version : Version). with_files t ++ joined (entry_lines version t.entries)) v))

pub ends_written : (t : Trace) (ends : List TraceEnd) (a b : List ℕ) → a ≡ with_entries t → ends ≡ t.ends → b ≡ a ++ joined (end_lines 0 ends) → b ≡ trace_text t
ends_written t ends a b h e k =
    k ∙ (ap (λ (bs : List ℕ). bs ++ joined (end_lines 0 ends)) h ∙ (ap (λ (es : List TraceEnd). with_entries t ++ joined (end_lines 0 es)) e ∙ parts_are_text t))

-- ---- what is not

-- a part that was not written leaves the trace without a text, for its reason
not_written : (t : Trace) (old new more rest : List ℕ) (f : WriteFault) → Adds old new more (Err f) → (old ++ more) ++ rest ≡ trace_text t → Writes t (Err f)
not_written t old new more rest w.TooLong h e = omega (arith, h, length-append (old ++ more) rest, ap (λ (bs : List ℕ). length bs) e)
not_written t old new more rest w.NoMemory h e = tt

pub no_files : (t : Trace) (files : List (List ℕ)) (old new : List ℕ) (f : WriteFault) → old ≡ head_part t → files ≡ t.start → Adds old new (joined (file_lines 0 files)) (Err f)
    → Writes t (Err f)
no_files t files old new f h e a =
    not_written t old new (joined (file_lines 0 files)) (entry_part t ++ end_part t) f a
    (ap (λ (bs : List ℕ). bs ++ (entry_part t ++ end_part t)) (files_written t files old (old ++ joined (file_lines 0 files)) h e refl)
    ∙ (sym (append_assoc (with_files t) (entry_part t) (end_part t)) ∙ parts_are_text t))

pub no_entries : (t : Trace) (version : Version) (entries : List Stamped) (old new : List ℕ) (f : WriteFault) → version ≡ version_of t → old ≡ with_files t → entries ≡ t.entries
    → Adds old new (joined (entry_lines version entries)) (Err f) → Writes t (Err f)
no_entries t version entries old new f v h e a =
    not_written t old new (joined (entry_lines version entries)) (end_part t) f a
    (ap (λ (bs : List ℕ). bs ++ end_part t) (entries_written t version entries old (old ++ joined (entry_lines version entries)) v h e refl) ∙ parts_are_text t)

pub no_ends : (t : Trace) (ends : List TraceEnd) (old new : List ℕ) (f : WriteFault) → old ≡ with_entries t → ends ≡ t.ends → Adds old new (joined (end_lines 0 ends)) (Err f)
    → Writes t (Err f)
no_ends t ends old new f h e a =
    not_written t old new (joined (end_lines 0 ends)) [] f a
    (append-nil (old ++ joined (end_lines 0 ends)) ∙ ends_written t ends old (old ++ joined (end_lines 0 ends)) h e refl)

pub too_long : (t : Trace) (text new : List ℕ) (f : WriteFault) → text ≡ trace_text t → Adds text new [] (Err f) → Writes t (Err f)
too_long t text new f h a = not_written t text new [] [] f a (append-nil (text ++ []) ∙ (append-nil text ∙ h))

pub by_fault : (t : Trace) (r : Result (List ℕ) WriteFault) (f : WriteFault) → r ≡ Err f → Writes t (Err f) → Writes t r
by_fault t r f e h = rw e h
