use Rattle.std.proofs.Common.{◌≡◌, ◌≢◌, IsSome, sym, ◌∙◌, subst, arith}
use Rattle.core_scheduler.specs.Schedule.{Schedule}
use Rattle.core_machine.specs.declared.went.Follows.TheVariants.{Same, Away, Asks, Refused}
use Rattle.core_machine.specs.inner.Changes.{at_address}
use Rattle.core_machine.proofs.Sound.{keeps_on, keeps_to, keeps_at, code_of}
use Rattle.core_machine.proofs.Led.{led_on}
use Rattle.core_machine.proofs.Next.{went_less}
use Rattle.core_machine.proofs.running.Running.stretch.Goals as goal

pub steps-preserved : goal.steps-preserved
steps-preserved c =
    let a = c.args.self.now in
    let b = at_address c.steps.self c.steps.address in
    let d = at_address c.one_or_two.new.self c.one_or_two.new.address in
    let same_code = code_of a b (keeps_to a c.steps.self c.steps.address c.steps.invariant.keeps) in
    let asks : c.one_or_two.result ≢ Asks = λ e. let no : Same ≡ Asks = sym c.in-Same.is ∙ e in cc in
    let refused : c.one_or_two.result ≢ Refused = λ e. let no : Same ≡ Refused = sym c.in-Same.is ∙ e in cc in
    let same = c.one_or_two.ensures.continues c.in-Same.is in
    let less = c.one_or_two.ensures.less asks refused in
    record {
      led = led_on a b d same_code c.steps.invariant.led c.one_or_two.ensures.led;
      keeps = keeps_on a c.steps.self c.one_or_two.new.self c.steps.invariant.keeps c.one_or_two.ensures.keeps;
      sound = c.one_or_two.ensures.sound;
      running = same.ended ∙ c.steps.invariant.running;
      runs = subst (λ (s : Schedule). IsSome s.running) (sym same.schedule) c.steps.invariant.runs;
      settled = same.pending ∙ c.steps.invariant.settled;
      here = c.next_instr-instr-in-Same.ensures.here;
      inside = c.next_instr-instr-in-Same.ensures.inside;
      finds = c.next_instr-instr-in-Same.ensures.finds;
      less = omega (arith, less, c.steps.invariant.less);
      asks = λ some. omega (arith, less, c.steps.invariant.less);
    }

pub returns-in-Away : goal.returns-in-Away
returns-in-Away c =
    let a = c.args.self.now in
    let b = at_address c.steps.self c.steps.address in
    let d = at_address c.one_or_two.new.self c.one_or_two.new.address in
    let same_code = code_of a b (keeps_to a c.steps.self c.steps.address c.steps.invariant.keeps) in
    let kept = keeps_at c.steps.self c.one_or_two.new.self c.steps.address c.one_or_two.new.address c.one_or_two.ensures.keeps in
    let given : c.one_or_two.result ≢ Refused = λ e. let no : Away ≡ Refused = sym c.in-Away.is ∙ e in cc in
    record {
      led = led_on a b d same_code c.steps.invariant.led c.one_or_two.ensures.led;
      keeps = keeps_to a c.one_or_two.new.self c.one_or_two.new.address (keeps_on a c.steps.self c.one_or_two.new.self c.steps.invariant.keeps c.one_or_two.ensures.keeps);
      sound = c.one_or_two.ensures.sound;
      less = went_less a b d c.one_or_two.result kept c.one_or_two.ensures.stays c.args._ranks.now given c.one_or_two.ensures.less c.one_or_two.ensures.asks
          c.steps.invariant.less c.steps.invariant.asks;
    }

pub returns-in-Asks : goal.returns-in-Asks
returns-in-Asks c =
    let a = c.args.self.now in
    let b = at_address c.steps.self c.steps.address in
    let d = at_address c.one_or_two.new.self c.one_or_two.new.address in
    let same_code = code_of a b (keeps_to a c.steps.self c.steps.address c.steps.invariant.keeps) in
    let kept = keeps_at c.steps.self c.one_or_two.new.self c.steps.address c.one_or_two.new.address c.one_or_two.ensures.keeps in
    let given : c.one_or_two.result ≢ Refused = λ e. let no : Asks ≡ Refused = sym c.in-Asks.is ∙ e in cc in
    record {
      led = led_on a b d same_code c.steps.invariant.led c.one_or_two.ensures.led;
      keeps = keeps_to a c.one_or_two.new.self c.one_or_two.new.address (keeps_on a c.steps.self c.one_or_two.new.self c.steps.invariant.keeps c.one_or_two.ensures.keeps);
      sound = c.one_or_two.ensures.sound;
      less = went_less a b d c.one_or_two.result kept c.one_or_two.ensures.stays c.args._ranks.now given c.one_or_two.ensures.less c.one_or_two.ensures.asks
          c.steps.invariant.less c.steps.invariant.asks;
    }

pub returns-in-Refused-clause-led : goal.returns-in-Refused-clause-led
returns-in-Refused-clause-led c =
    let a = c.args.self.now in
    let b = at_address c.steps.self c.steps.address in
    let d = at_address c.one_or_two.new.self c.one_or_two.new.address in
    led_on a b d (code_of a b (keeps_to a c.steps.self c.steps.address c.steps.invariant.keeps)) c.steps.invariant.led c.one_or_two.ensures.led

pub returns-in-Refused-clause-keeps : goal.returns-in-Refused-clause-keeps
returns-in-Refused-clause-keeps c =
    let a = c.args.self.now in
    keeps_to a c.one_or_two.new.self c.one_or_two.new.address (keeps_on a c.steps.self c.one_or_two.new.self c.steps.invariant.keeps c.one_or_two.ensures.keeps)
