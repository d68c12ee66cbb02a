use Rattle.std.proofs.Common.{◌≡◌, [], ◌∷◌, ◌++◌, length, None, refl, ap, ◌∙◌, subst}
use Rattle.work_item.specs.Store.{Store}
use Rattle.core_scheduler.specs.Schedule.{Schedule}
use Rattle.core_state.specs.Shared.{request_link}
use Rattle.code_meaning.specs.Machine.{first_core, first_item, shared_at_first}
use Rattle.core_machine.specs.declared.running.Running.{Running}
use Rattle.core_machine.specs.inner.Beginning.{HasBegun}
use Rattle.core_machine.specs.State.{flat_of}
use Rattle.core_machine.proofs.Begun.{bare, is_bare, first_stands, first_of, run_of, sound_first}
use Rattle.core_machine.proofs.machine.CoreMachine.new.Goals as goal

begun : (c : goal.After-new-9) → HasBegun (bare c.args.code.now) c.make_first.new.frames c.begin-entered.result.now.words c.in_ok-ended.ended
begun c =
    let e = is_bare c.args.code.now c.in_ok-frames.frames c.set_starts.new.frames c.globals.result c.starts.result.now c.in_ok-frames.ensures c.globals.ensures c.starts.ensures.same
    c.set_starts.ensures.globals c.set_starts.ensures.frames in
    subst (λ (s : Store). HasBegun s c.make_first.new.frames c.begin-entered.result.now.words c.in_ok-ended.ended) e c.in_ok-ended.ensures

abbrev first : goal.After-new-9 → Running
first c = record {
  code = c.args.code;
  core = c.args.core;
  bound = c.args.steps;
  requests = c.request_link.result;
  journal = c.new-3.result;
  frames = c.make_first.new.frames;
  outstanding = c.new-4.result;
  frame = record { number = 0 };
  place = 0;
  operands = c.new-5.result;
  callers = c.new-6.result;
  block = None;
  schedule = c.schedule-2.new.self;
  threads = c.in_ok-threads.threads;
  blocks = c.new-7.result;
  steps = 0;
  turn = 0;
  output = c.new-8.result;
  count = c.new-9.result;
  ended = c.in_ok-ended.ended;
  alloc = c.args.alloc;
}

stands : (c : goal.After-new-9) → flat_of (first c) ≡ first_core c.begin-entered.result.now (shared_at_first c.args.code.now c.args.core []) c.make_first.new.frames
stands c =
    let running = ap (λ (s : Schedule). s.running) c.schedule-2.ensures ∙ c.reserve.ensures.running ∙ c.new-schedule.ensures.running in
    let ready = ap (λ (s : Schedule). s.ready) c.schedule-2.ensures ∙ ap (λ l. l ++ first_item ∷ []) (c.reserve.ensures.ready ∙ c.new-schedule.ensures.ready) in
    let threads = c.in_ok-threads.ensures.threads ∙ ap (λ x. x ∷ []) c.new-first.ensures in
    first_stands (first c) c.begin-entered.result.now c.new-4.ensures running ready threads
    c.new-7.ensures (request_link (length c.args.code.now.ends) c.args.core) c.request_link.ensures refl refl c.new-5.ensures c.new-6.ensures refl c.new-3.ensures c.new-8.ensures.items refl refl
    c.new-9.ensures

pub invariant_of-result : goal.invariant_of-result
invariant_of-result c =
    sound_first (first c) c.begin-entered.result.now c.begin-entered.ensures c.new-3.ensures (stands c) (begun c) c.starts.ensures.valid c.in_ok-threads.ensures.lives

pub returns-clause-first : goal.returns-clause-first
returns-clause-first c = first_of (first c) c.begin-entered.result.now c.begin-entered.ensures c.new-3.ensures (stands c) (begun c)

pub returns-clause-run : goal.returns-clause-run
returns-clause-run c = run_of (first c) c.begin-entered.result.now c.begin-entered.ensures c.new-3.ensures (stands c) (begun c)
