use Rattle.std.proofs.Common.{◌≡◌, ◌∙◌, sym, Err, rules}
use Rattle.trace_text.proofs.Outcome.{head_written, files_written, entries_written, ends_written, no_files, no_entries, no_ends, too_long, by_fault}
use Rattle.trace_text.proofs.writer.write_trace.Goals as goal

pub returns-in_err-add_files-clause-writes : goal.returns-in_err-add_files-clause-writes
returns-in_err-add_files-clause-writes c =
    let head = head_written c.args.trace.now c.version_of-version.result c.new-text.result.items c.add_title.new.text.items c.add_steps.new.text.items c.version_of-version.ensures
    c.new-text.ensures.items
    c.in_ok-add_title.ensures c.in_ok-add_steps.ensures in
    let fault : c.from_residual-in_err-add_files.result ≡ Err c.in_err-add_files.field-0.0 = search rules in
    by_fault c.args.trace.now c.from_residual-in_err-add_files.result c.in_err-add_files.field-0.0 fault
    (no_files c.args.trace.now c.as_slice.result.now c.add_steps.new.text.items c.add_files.new.text.items c.in_err-add_files.field-0.0 head c.as_slice.ensures
    c.in_err-add_files.ensures.adds)

pub returns-in_err-add_entries-clause-writes : goal.returns-in_err-add_entries-clause-writes
returns-in_err-add_entries-clause-writes c =
    let head = head_written c.args.trace.now c.version_of-version.result c.new-text.result.items c.add_title.new.text.items c.add_steps.new.text.items c.version_of-version.ensures
    c.new-text.ensures.items
    c.in_ok-add_title.ensures c.in_ok-add_steps.ensures in
    let files = files_written c.args.trace.now c.as_slice.result.now c.add_steps.new.text.items c.add_files.new.text.items head c.as_slice.ensures c.in_ok-add_files.ensures.adds in
    let fault : c.from_residual-in_err-add_entries.result ≡ Err c.in_err-add_entries.field-0.0 = search rules in
    by_fault c.args.trace.now c.from_residual-in_err-add_entries.result c.in_err-add_entries.field-0.0 fault
    (no_entries c.args.trace.now c.version_of-version.result c.as_slice-2.result.now c.add_files.new.text.items c.add_entries.new.text.items c.in_err-add_entries.field-0.0
    c.version_of-version.ensures files c.as_slice-2.ensures
    c.in_err-add_entries.ensures.adds)

pub returns-in_err-add_ends-clause-writes : goal.returns-in_err-add_ends-clause-writes
returns-in_err-add_ends-clause-writes c =
    let head = head_written c.args.trace.now c.version_of-version.result c.new-text.result.items c.add_title.new.text.items c.add_steps.new.text.items c.version_of-version.ensures
    c.new-text.ensures.items
    c.in_ok-add_title.ensures c.in_ok-add_steps.ensures in
    let files = files_written c.args.trace.now c.as_slice.result.now c.add_steps.new.text.items c.add_files.new.text.items head c.as_slice.ensures c.in_ok-add_files.ensures.adds in
    let entries = entries_written c.args.trace.now c.version_of-version.result c.as_slice-2.result.now c.add_files.new.text.items c.add_entries.new.text.items
    c.version_of-version.ensures files c.as_slice-2.ensures
    c.in_ok-add_entries.ensures.adds in
    let fault : c.from_residual-in_err-add_ends.result ≡ Err c.in_err-add_ends.field-0.0 = search rules in
    by_fault c.args.trace.now c.from_residual-in_err-add_ends.result c.in_err-add_ends.field-0.0 fault
    (no_ends c.args.trace.now c.as_slice-3.result.now c.add_entries.new.text.items c.add_ends.new.text.items c.in_err-add_ends.field-0.0 entries c.as_slice-3.ensures
    c.in_err-add_ends.ensures.adds)

pub returns-in_err-check-clause-writes : goal.returns-in_err-check-clause-writes
returns-in_err-check-clause-writes c =
    let head = head_written c.args.trace.now c.version_of-version.result c.new-text.result.items c.add_title.new.text.items c.add_steps.new.text.items c.version_of-version.ensures
    c.new-text.ensures.items
    c.in_ok-add_title.ensures c.in_ok-add_steps.ensures in
    let files = files_written c.args.trace.now c.as_slice.result.now c.add_steps.new.text.items c.add_files.new.text.items head c.as_slice.ensures c.in_ok-add_files.ensures.adds in
    let entries = entries_written c.args.trace.now c.version_of-version.result c.as_slice-2.result.now c.add_files.new.text.items c.add_entries.new.text.items
    c.version_of-version.ensures files c.as_slice-2.ensures
    c.in_ok-add_entries.ensures.adds in
    let whole = ends_written c.args.trace.now c.as_slice-3.result.now c.add_entries.new.text.items c.add_ends.new.text.items entries c.as_slice-3.ensures
    c.in_ok-add_ends.ensures.adds in
    let fault : c.from_residual-in_err-check.result ≡ Err c.in_err-check.field-0.0 = search rules in
    by_fault c.args.trace.now c.from_residual-in_err-check.result c.in_err-check.field-0.0 fault
    (too_long c.args.trace.now c.as_slice-4.result.now c.as_slice-4.result.now c.in_err-check.field-0.0 (c.as_slice-4.ensures.value ∙ whole) c.in_err-check.ensures.adds)

pub returns-clause-writes : goal.returns-clause-writes
returns-clause-writes c =
    let head = head_written c.args.trace.now c.version_of-version.result c.new-text.result.items c.add_title.new.text.items c.add_steps.new.text.items c.version_of-version.ensures
    c.new-text.ensures.items
    c.in_ok-add_title.ensures c.in_ok-add_steps.ensures in
    let files = files_written c.args.trace.now c.as_slice.result.now c.add_steps.new.text.items c.add_files.new.text.items head c.as_slice.ensures c.in_ok-add_files.ensures.adds in
    let entries = entries_written c.args.trace.now c.version_of-version.result c.as_slice-2.result.now c.add_files.new.text.items c.add_entries.new.text.items
    c.version_of-version.ensures files c.as_slice-2.ensures
    c.in_ok-add_entries.ensures.adds in
    let whole = ends_written c.args.trace.now c.as_slice-3.result.now c.add_entries.new.text.items c.add_ends.new.text.items entries c.as_slice-3.ensures
    c.in_ok-add_ends.ensures.adds in
    let short = c.in_ok-check.ensures.short in
    let slice = c.as_slice-4.ensures.value in
    let made = c.from_vec.ensures in
    (made ∙ whole, rw (slice ∙ sym made) at short)
