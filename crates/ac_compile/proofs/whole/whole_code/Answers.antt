use Rattle.std.proofs.Common.{List, ◌++◌, length, map, replicate, ap, ◌∙◌}
use Rattle.ac_commands.specs.declared.program.Core.{Core}
use Rattle.ac_commands.specs.declared.program.Channel.{Channel}
use Rattle.ac_translation.specs.Translation.{ends_of, start_of, request_capacity}
use Rattle.ac_compile.proofs.Making.{all_instrs, all_functions, made}
use Rattle.ac_compile.proofs.whole.whole_code.Goals as goal

pub returns : goal.returns
returns c =
    let p = c.args.program.now in
    made p c.from_vec-instrs.result c.in_ok-functions.functions c.in_ok-texts.texts c.in_ok-entries.entries c.in_ok-names.names c.in_ok-capacities.capacities c.in_ok-ends.ends c.in_ok-starts.starts
    c.in_ok-widths.widths
    (
    all_instrs c.as_slice.result.now p.functions c.new-emitter.result c.emit_functions.new.emitter c.from_vec-instrs.result c.as_slice.ensures c.new-emitter.ensures c.in_ok-functions.ensures.code
    (c.from_vec-instrs.ensures ∙ c.into_instrs.ensures)
    )
    (all_functions c.as_slice.result.now p.functions c.new-emitter.result c.in_ok-functions.functions c.as_slice.ensures c.new-emitter.ensures c.in_ok-functions.ensures.list)
    (c.in_ok-texts.ensures ∙ c.as_slice-2.ensures)
    (c.in_ok-entries.ensures ∙ ap (map (λ (core : Core). core.entry)) c.as_slice-3.ensures)
    (c.in_ok-names.ensures ∙ ap (map (λ (core : Core). core.name)) c.as_slice-4.ensures)
    (c.in_ok-capacities.ensures ∙ ap (λ (xs : List Channel). map (λ (channel : Channel). channel.capacity) xs ++ replicate (length p.cores) request_capacity) c.as_slice-5.ensures)
    (c.in_ok-ends.ensures ∙ ap (map ends_of) c.as_slice-6.ensures)
    (c.in_ok-starts.ensures ∙ ap (map start_of) c.as_slice-7.ensures)
    (c.in_ok-widths.ensures ∙ ap (map (λ (channel : Channel). channel.width)) c.as_slice-8.ensures)
