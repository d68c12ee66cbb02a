-- A party in its part of a round: each call without an entry is one more in vain, and one with an entry begins the count anew. So as many in a row
-- have looked as often at each link.
use Rattle.std.proofs.Common.{◌≡◌, ◌≤◌, ◌<◌, ◌+◌, ℕ, Bool, true, false, sym, ap, ◌∙◌, subst, inr, arith, List}
use Rattle.std.proofs.lemmas.Option.{slice_get_within}
use Rattle.ac_base.specs.declared.entry.Entry.{Entry}
use Rattle.ac_links.specs.Journals.{last_of}
use Rattle.channel_ends.specs.Receiving.{SawFull}
use Rattle.core_ports.specs.declared.side.Side.TheVariants.{Neither}
use Rattle.core_ports.specs.Sides.{side_of}
use Rattle.stack_code.specs.Parts.{Parts}
use Rattle.file_worker.specs.declared.turns.Round.TheVariants.{ClockFull}
use Rattle.file_worker.specs.Agreement.{Seen}
use Rattle.file_worker.specs.Ends.{AtEach}
use Rattle.file_worker.specs.Rounds.{GoesOn, LooksOnce, Says}
use Rattle.file_worker.proofs.EndLists.{found}
use Rattle.file_worker.proofs.Going.{goes_on_both}
use Rattle.run_parties.specs.Seats.{CoreSeat}
use Rattle.run_parties.specs.Moving.{IsLaterSeat}
use Rattle.run_parties.specs.Working.{HavePolled, IsOver, HasLookedFor, DeskWorked}
use Rattle.run_parties.specs.inner.Keeping.{later_seat, later_seat_then}
use Rattle.run_parties.specs.inner.Working.{IsTrying, IsLooking}

-- ---- a core

pub not_yet_tried : (s : CoreSeat) → IsTrying 0 false s s
not_yet_tried s = record {
  later = later_seat s;
  clock = omega arith;
  few = omega arith;
  polled = λ e. λ l own. omega arith;
  over = λ e. let no : false ≡ true = e in absurd (cc);
}

module _ (s t u : CoreSeat) (later : IsLaterSeat t u) where
  polled_on : (k : ℕ) → HavePolled k s t → HavePolled 1 t u → HavePolled (k + 1) s u
  polled_on k a b = λ l own.
      let before : side_of t.driven.machine.code.ends t.driven.machine.core l ≡ Neither → ⊥ = λ e.
      own (ap (λ n. side_of u.driven.machine.code.ends n l) later.machine.core ∙ (ap (λ (c : Parts). side_of c.ends t.driven.machine.core l) later.machine.code ∙ e)) in
      let p = a l before in let q = b l own in omega (arith, p, q)

  fewer : (k : ℕ) → HavePolled k s u → HavePolled 0 s u
  fewer k a = λ l own. let p = a l own in omega (arith, p)

  module _ (k : ℕ) (before : Bool) (going : before ≡ false) (was : IsTrying k before s t)
      (clock : last_of 0 t.driven.machine.journal ≤ last_of 0 u.driven.machine.journal)
      (is_over : Bool) (over : is_over ≡ true → IsOver u) (tried : is_over ≡ false → HavePolled 1 t u) where
    pub once_more_in_vain : k < 10000 → IsTrying (k + 1) is_over s u
    once_more_in_vain less = record {
      later = later_seat_then s t u was.later later;
      clock = let a = was.clock in omega (arith, a, clock);
      few = omega (arith, less);
      polled = λ e. polled_on k (was.polled going) (tried e);
      over = over;
    }

    pub tries_anew : IsTrying 0 is_over s u
    tries_anew = record {
      later = later_seat_then s t u was.later later;
      clock = let a = was.clock in omega (arith, a, clock);
      few = omega arith;
      polled = λ e. fewer (k + 1) (polled_on k (was.polled going) (tried e));
      over = over;
    }

-- ---- the worker

module _ (s t u : Seen) (k : ℕ) (was : IsLooking k s t) (later : GoesOn t u) where
  pub goes_on_so : GoesOn s u
  goes_on_so = goes_on_both s t u was.goes_on later

  module _ (once : AtEach LooksOnce t.desk.ends u.desk.ends) where
    looked_on : AtEach (HasLookedFor (k + 1)) s.desk.ends u.desk.ends
    looked_on c a b p q =
        let there = found t.desk.ends c (let n = slice_get_within s.desk.ends c a p in let m = was.goes_on.count in omega (arith, n, m)) in
        let before = was.looked c a there.0 p there.1 in
        let now = once c there.0 b there.1 q in
        omega (arith, before, now)

    pub looks_once_more : k < 10000 → IsLooking (k + 1) s u
    looks_once_more less = record { goes_on = goes_on_so; few = omega (arith, less); looked = looked_on }

    pub looks_anew : IsLooking 0 s u
    looks_anew = record {
      goes_on = goes_on_so;
      few = omega arith;
      looked = λ c a b p q. let n = looked_on c a b p q in omega (arith, n);
    }

  pub has_no_stamp : Says ClockFull t u → DeskWorked 10000 s.desk u.desk
  has_no_stamp says =
      let one = says.2 in
      let first = found s.desk.ends one.core
      (let n = slice_get_within t.desk.ends one.core one.old one.before' in let m = was.goes_on.count in omega (arith, n, m)) in
      inr (record {
        core = one.core;
        old = first.0;
        new = one.new;
        before' = first.1;
        after' = one.after';
        holds = subst (λ (es : List Entry). SawFull (last_of 0 es) one.new.ask.peer) (sym says.0.entries) one.holds;
      })
