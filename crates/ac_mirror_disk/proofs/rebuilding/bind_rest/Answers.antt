use Rattle.std.proofs.Common.{◌<◌, ◌+◌, length, map, ap, ◌∙◌, arith}
use Rattle.std.specs.Prelude.{string_bytes}
use Rattle.std.proofs.lemmas.List.{length-map}
use Rattle.ac_mirror_disk.proofs.RestBound.{may_rest, kept_rest, rest_found, some_then, path_at}
use Rattle.ac_mirror_disk.proofs.OnlyBound.{binds_on}
use Rattle.ac_mirror_disk.proofs.Short.{short_next}
use Rattle.ac_mirror_disk.proofs.rebuilding.bind_rest.Goals as goal

pub bind_next-requires-clause-fresh : goal.bind_next-requires-clause-fresh
bind_next-requires-clause-fresh g c =
    let i = c.loop-place.invariant in
    let place : c.loop-place.place < length c.args.paths.now = grind (arith, c.loop-place-test.true) in
    let long = length-map c.args.paths.now string_bytes in
    may_rest g.T.Disk.told g.met.T.Disk.tells_bound c.loop-place.t (map string_bytes c.args.paths.now) c.as_str.result.now i.kept c.requires.differ (omega (arith, i.bound, place, long))
    (λ d. path_at string_bytes c.args.paths.now c.loop-place.place
    (g.T.Disk.told c.loop-place.t.disk).bound c.index-paths-place.result c.as_str.result.now d i.bound place c.index-paths-place.is c.as_str.ensures.value)

pub loop-place-preserved : goal.loop-place-preserved
loop-place-preserved g c =
    let i = c.loop-place.invariant in
    let b = c.in_ok-bind_next.ensures.bound in
    let place : c.loop-place.place < length c.args.paths.now = grind (arith, c.loop-place-test.true) in
    let long = length-map c.args.paths.now string_bytes in
    let few = c.requires.few in
    let found = rest_found g.T.Disk.told g.met.T.Disk.tells_bound (g.T.Disk.told c.args.t.now.disk).held c.loop-place.t c.bind_next.new.self c.as_str.result.now c.in_ok-bind_next.field-0 i.found b in
    record {
      kept = kept_rest g.T.Disk.told g.met.T.Disk.tells_bound c.loop-place.t c.bind_next.new.self (map string_bytes c.args.paths.now) c.as_str.result.now c.in_ok-bind_next.field-0 i.kept
          (omega (arith, i.bound, place, long)) (omega (arith, long, few))
          (λ d. path_at string_bytes c.args.paths.now c.loop-place.place
          (g.T.Disk.told c.loop-place.t.disk).bound c.index-paths-place.result c.as_str.result.now d i.bound place c.index-paths-place.is c.as_str.ensures.value)
          (c.in_ok-bind_next.ensures.in_use ∙ i.out) b c.in_ok-bind_next.ensures.lens;
      bound = b.bound ∙ ap (λ n. n + 1) i.bound;
      later = let same = b.cause in let before = i.later in omega (arith, same, before);
      short = λ short. i.short (short_next g.T.Disk.told c.loop-place.t c.bind_next.new.self c.as_str.result.now _ b c.in_ok-bind_next.ensures.lens short);
      out = c.in_ok-bind_next.ensures.in_use ∙ i.out;
      tells = some_then (g.T.Disk.told c.args.t.now.disk).held (g.T.Disk.told c.bind_next.new.self.disk).held found;
      found = found;
      only = binds_on g.T.Disk.told c.args.t.now c.loop-place.t c.bind_next.new.self c.as_str.result.now _ i.only i.found b c.in_ok-bind_next.ensures.lens;
      silent = λ e. b.silent (i.silent e);
    }
