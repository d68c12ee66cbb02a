-- Neither side was refused memory, and what the two were to do is told by the calls in their order.
use Rattle.std.proofs.Common.{sym, ◌∙◌, inl}
use Rattle.ac_mirror_disk.proofs.LastFile.{used_is, binds_dropped, last_bound, first_as, second_as, even_as}
use Rattle.ac_mirror_disk.proofs.pairs.bind_both.Goals as goal

pub compare_last-requires-clause-last : goal.compare_last-requires-clause-last
compare_last-requires-clause-last g c =
    let dropped = c.drop_failed.ensures in
    let a = c.bind-of_a.new.self in
    let b = c.bind-of_b.new.self in
    let failed_b = c.has_failed-4.ensures in
    last_bound g.A.Disk.told g.B.Disk.told g.met.A.Disk.tells_bound g.met.B.Disk.tells_bound c.args.a.now c.drop_failed.new.a c.args.b.now c.drop_failed.new.b c.args.path.now c.bind-of_a.result
    c.bind-of_b.result c.requires.first c.requires.second c.requires.as_many c.bind-of_a.ensures.called c.bind-of_b.ensures.called
    (binds_dropped g.A.Disk.told g.met.A.Disk.tells_bound c.args.a.now a c.drop_failed.new.a c.args.path.now c.bind-of_a.result _ dropped.a c.bind-of_a.ensures.binds)
    (binds_dropped g.B.Disk.told g.met.B.Disk.tells_bound c.args.b.now b c.drop_failed.new.b c.args.path.now c.bind-of_b.result _ dropped.b c.bind-of_b.ensures.binds)
    (used_is a c.drop_failed.new.a _ dropped.a ∙ first_as _ _ _ _ _ _ _ _ c.bind-of_a.ensures.in_use c.has_failed-3.ensures c.bind-of_b.ensures.in_use failed_b)
    (used_is b c.drop_failed.new.b _ dropped.b ∙ second_as _ _ _ _ _ _ c.bind-of_a.ensures.in_use c.bind-of_b.ensures.in_use failed_b)

pub returns : goal.returns
returns g c =
    let dropped = c.drop_failed.ensures in
    let a = c.bind-of_a.new.self in
    let b = c.bind-of_b.new.self in
    let failed_a = c.has_failed-3.ensures in
    let failed_b = c.has_failed-4.ensures in
    inl (record {
      of_a = c.bind-of_a.result;
      of_b = c.bind-of_b.result;
      between_a = c.drop_failed.new.a;
      between_b = c.drop_failed.new.b;
      called_a = c.bind-of_a.ensures.called;
      called_b = c.bind-of_b.ensures.called;
      given_a = sym c.wants_memory.ensures ∙ c.if-wants_memory.false;
      given_b = sym c.wants_memory-2.ensures ∙ c.if-wants_memory-2.false;
      on_a = binds_dropped g.A.Disk.told g.met.A.Disk.tells_bound c.args.a.now a c.drop_failed.new.a c.args.path.now c.bind-of_a.result _ dropped.a c.bind-of_a.ensures.binds;
      on_b = binds_dropped g.B.Disk.told g.met.B.Disk.tells_bound c.args.b.now b c.drop_failed.new.b c.args.path.now c.bind-of_b.result _ dropped.b c.bind-of_b.ensures.binds;
      use_a = used_is a c.drop_failed.new.a _ dropped.a ∙ first_as _ _ _ _ _ _ _ _ c.bind-of_a.ensures.in_use failed_a c.bind-of_b.ensures.in_use failed_b;
      use_b = used_is b c.drop_failed.new.b _ dropped.b ∙ second_as _ _ _ _ _ _ c.bind-of_a.ensures.in_use c.bind-of_b.ensures.in_use failed_b;
      even_is = c.stays_even.ensures ∙ even_as _ _ _ _ _ c.has_failed.ensures c.has_failed-2.ensures;
      compared = c.compare_last.ensures;
      answer = c.standing.ensures;
    })
