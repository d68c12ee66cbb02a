use Rattle.std.proofs.Common.{rules, ◌≡◌, ◌-◌, ◌≤◌, ◌<◌, ◌+◌, ◌∙◌, ◌++◌, ◌∷◌, List, true, [], length, refl, sym, ap, subst, arith}
use mathlib.Core.List.{IsPrefix}
use Rattle.core_ports.specs.Ends.{awaits_reply}
use Rattle.ac_base.specs.Stamps.{stamp_after}
use Rattle.ac_links.specs.Replies.{least_open}
use Rattle.ac_links.specs.Views.{Response}
use Rattle.request_ends.specs.Asking.{Asking, end_of, requests_of}
use Rattle.request_ends.specs.Answered.{OnlyLooks, HasReply}
use Rattle.request_ends.specs.Replying.{response_of}
use Rattle.request_ends.specs.Marking.{asking_of}
use Rattle.request_ends.proofs.Keeping.{awaits_is, some_started, replies_below, reply_keeps, reply_lists, number_is, popped_stamp, none_come, looks_only}
use Rattle.request_ends.proofs.Nexts.{as_many}
use Rattle.request_ends.proofs.asking.AskEnd.reply.Goals as goal

pub returns-in_default-clause-answer : goal.returns-in_default-clause-answer
returns-in_default-clause-answer c =
    let looks = c.next_stamp.ensures.looks in
    let none = none_come c.next_stamp.new.self (sym c.next_stamp.ensures.first ∙ c.in_default.is) in
    let before : (it : List Response) → IsPrefix it c.next_stamp.new.self.items → it ≡ [] = λ it p. empty_prefix it (subst (λ l. IsPrefix it l) none.1 p) in
    subst (λ (a : Asking). (a.gathered ≡ []) × (a.items ≡ []) × OnlyLooks a (asking_of (record {
      send = c.self.inside.send;
      inbox = c.next_stamp.new.self;
      marks = c.self.inside.marks;
      replied = c.self.inside.replied;
    }))) c.self.view_is
    (sym looks.gathered ∙ none.0, before c.self.inside.inbox.items looks.items, looks_only c.self.inside c.next_stamp.new.self looks)
  where
    empty_prefix : (it : List Response) → IsPrefix it [] → it ≡ []
    empty_prefix [] p = refl
    empty_prefix (r ∷ it) p = absurd cc

pub overflow_sub-number : goal.overflow_sub-number
overflow_sub-number c =
    let v = c.self.invariant in
    let n = as_many v.over c.self.inside.send.notes.offers c.self.inside.inbox.had c.self.inside.marks.list v.noted in
    let a = c.offered.ensures in
    let b = c.len.ensures in
    omega arith

pub pass-requires : goal.pass-requires
pass-requires c = some_started c.self.inside.marks.list
    (sym (awaits_is c.self.inside c.self.invariant) ∙ subst (λ (a : Asking). awaits_reply (end_of a) ≡ true) (sym c.self.view_is) c.requires)

pub overflow_add-self : goal.overflow_add-self
overflow_add-self c =
    let started = sym (awaits_is c.self.inside c.self.invariant) ∙ subst (λ (a : Asking). awaits_reply (end_of a) ≡ true) (sym c.self.view_is) c.requires in
    let l : c.self.inside.replied + 1 ≤ length c.self.inside.send.notes.offers = replies_below c.self.inside c.self.invariant started in
    let a : c.offered.result ≡ length c.self.inside.send.notes.offers = c.offered.ensures in
    let b : c.offered.result < 18446744073709551616 = c.offered.type_inv in
    let r : c.self.inside.replied + 1 ≤ 18446744073709551615 = omega arith in
    search rules

pub invariant_of-self-2 : goal.invariant_of-self-2
invariant_of-self-2 c =
    let started = sym (awaits_is c.self.inside c.self.invariant) ∙ subst (λ (a : Asking). awaits_reply (end_of a) ≡ true) (sym c.self.view_is) c.requires in
    reply_keeps c.self.inside (response_of c.pop-reply.result) c.pop-reply.new.self c.pass.new.self c.skip.new.self c.self.invariant started
    (c.pop-reply.ensures.had ∙ ap (λ (rs : List Response). rs ++ response_of c.pop-reply.result ∷ []) c.next_stamp.ensures.looks.had) c.pass.ensures.list c.skip.ensures

pub returns-clause-answer : goal.returns-clause-answer
returns-clause-answer c =
    let i = c.self.inside in
    let started = sym (awaits_is i c.self.invariant) ∙ subst (λ (a : Asking). awaits_reply (end_of a) ≡ true) (sym c.self.view_is) c.requires in
    let of : c.pop-reply.result.of ≡ c.in-Some.of =
    popped_stamp c.next_stamp.new.self c.pop-reply.new.self (response_of c.pop-reply.result) c.in-Some.of (sym c.next_stamp.ensures.first ∙ c.in-Some.is) c.pop-reply.ensures in (
      c.pop-reply.result.of,
      ap (λ n. stamp_after c.args.clock.now n) of ∙ sym c.after.ensures ∙ c.in-Some-after.is,
      ap (λ n. n - c.len.result) c.offered.ensures ∙ ap (λ n. length i.send.notes.offers - n) c.len.ensures ∙ number_is i c.self.invariant
          ∙ ap (λ (a : Asking). least_open (requests_of a)) c.self.view_is,
      subst (λ (a : Asking). HasReply a (response_of c.pop-reply.result) (asking_of (record { send = i.send; inbox = c.pop-reply.new.self; marks = c.skip.new.self; replied = i.replied + 1 })))
          c.self.view_is
          (reply_lists i (response_of c.pop-reply.result) c.next_stamp.new.self c.pop-reply.new.self c.skip.new.self (i.replied + 1) c.self.invariant started
          c.next_stamp.ensures.looks c.pop-reply.ensures),
    )
