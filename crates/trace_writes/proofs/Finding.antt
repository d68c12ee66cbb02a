-- The writes of a history are those that its entries do one after the other: of the past, only what the links hold decides which request is
-- done.
use Rattle.std.proofs.Common.{◌≡◌, ℕ, List, [], ◌∷◌, ◌++◌, refl, sym, ap, ◌∙◌, append_assoc, length}
use Rattle.std.specs.Prelude.{replicate}
use Rattle.ac_base.specs.declared.entry.Stamped.{Stamped}
use Rattle.ac_history.specs.Files.{Deed, deeds, deeds_at}
use Rattle.ac_history.specs.History.{Past, after, start}
use Rattle.trace_writes.specs.Writes.{write_of, writes_of}
use Rattle.trace_writes.specs.inner.Finding.{writes_at, writes_from}

writes_append : (ds es : List Deed) → writes_of (ds ++ es) ≡ writes_of ds ++ writes_of es
writes_append [] es = refl
writes_append (d ∷ ds) es =
    ap (λ ws. write_of d.payload d.answer ++ ws) (writes_append ds es) ∙ sym (append_assoc (write_of d.payload d.answer) (writes_of ds) (writes_of es))

found : (past : Past) (es : List Stamped) → writes_of (deeds past es) ≡ writes_from past.links es
found past [] = refl
found past (e ∷ es) =
    writes_append (deeds_at past e) (deeds (after past e) es) ∙ ap (λ ws. writes_at past.links e ++ ws) (found (after past e) es)

pub all_found : (capacities widths : List ℕ) (cores : ℕ) (es : List Stamped) → writes_of (deeds (start capacities widths cores) es)
    ≡ writes_from (replicate (length capacities) []) es
all_found capacities widths cores es = found (start capacities widths cores) es
