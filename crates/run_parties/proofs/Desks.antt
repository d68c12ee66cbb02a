-- The worker at its desk: which link is that of which core; what a round without an entry leaves, and why the worker can then go no further; and
-- what the settling with one core leaves of the links of the others.
use Rattle.std.proofs.Common.{◌≡◌, ◌⊎◌, ◌≤◌, ◌<◌, ◌+◌, ◌-◌, ℕ, zero, suc, List, [], ◌∷◌, true, false, Option, None, Some, refl, sym, ap, ◌∙◌, subst, inl, inr, arith, length, nat_lt, cond}
use Rattle.std.specs.Prelude.{slice_get, slice_set, nat_le}
use Rattle.std.proofs.Math.Nat.{le_refl}
use Rattle.std.proofs.lemmas.Bool.{cases_lt, cases_eq}
use Rattle.std.proofs.lemmas.Bool.Decides.{nat_tests}
use Rattle.std.proofs.lemmas.Option.{slice_get_past, slice_get_within}
use Rattle.ac_base.specs.Stamps.{stamp_after}
use Rattle.ac_base.specs.declared.entry.Entry.{Entry}
use Rattle.ac_base.specs.declared.entry.Payload.{Payload}
use Rattle.ac_links.specs.Journals.{last_of}
use Rattle.ac_links.specs.Party.LinkEnd.{Decides}
use Rattle.ac_links.specs.Views.{Response}
use Rattle.atomic_table.specs.Seated.{TableId}
use Rattle.completion_word.specs.declared.answers.Look.{Look}
use Rattle.completion_word.specs.declared.views.Decision.{Decision}
use Rattle.completion_word.specs.declared.views.Peer.{Peer}
use Rattle.completion_word.specs.Steps.{stamp_seen}
use Rattle.request_ends.specs.Asking.{Asking}
use Rattle.end_ports.specs.OnLinks.{OnLink, not_held}
use Rattle.file_worker.specs.declared.turns.Round.{Round}
use Rattle.file_worker.specs.declared.turns.Round.TheVariants.{Did, Quiet, NotYet, ClockFull}
use Rattle.file_worker.specs.Ends.{CoreEnds, AtDesk, AtEach, IsReady, AreReady, decisions_of}
use Rattle.file_worker.specs.Agreement.{Seen}
use Rattle.file_worker.specs.Rounds.{GoesOn, Rests, LacksStamp, Waits, MadeNone, Says}
use Rattle.file_worker.specs.Settling.{SettlesCore}
use Rattle.run_parties.specs.Seats.{on_request, or_not_held, on_desk, popped_by, popped_at}
use Rattle.run_parties.specs.Settling.{StaysOn, IsQuietOn}
use Rattle.run_parties.specs.Moving.{DeskStays, DeskButAt, DeskStops}
use Rattle.run_parties.specs.inner.Working.{has_done}
use Rattle.run_parties.specs.inner.Keeping.{stays_on}

is_low : (m n : ℕ) → m < n → nat_le n m ≡ false
is_low m n h = grind (arith, nat_tests)

is_high : (m n : ℕ) → n ≤ m → nat_le n m ≡ true
is_high m n h = grind (arith, nat_tests)

not_below : (m n : ℕ) → n ≤ m → nat_lt m n ≡ false
not_below m n h = grind (arith, nat_tests)

same_some : {X : Type 0} (x y : X) → Some x ≡ Some y → x ≡ y
same_some x y e = cc

found : {X : Type 0} (xs : List X) (k : ℕ) → k < length xs → (x : X) × (slice_get xs k ≡ Some x)
found [] k h = absurd (omega arith)
found (x ∷ xs) zero h = (x, refl)
found (x ∷ xs) (suc k) h = found xs k (omega arith)

-- ---- which link is that of which core

pub desk_at : (w : AtDesk) (l core : ℕ) (e : CoreEnds) → w.first + core ≡ l → slice_get w.ends core ≡ Some e → on_desk w l ≡ on_request e
desk_at w l core e is at =
    let n : l - w.first ≡ core = omega (arith, is) in
    ap (λ b. cond b (or_not_held (slice_get w.ends (l - w.first))) not_held) (is_high l w.first (omega (arith, is)))
    ∙ ap (λ k. or_not_held (slice_get w.ends k)) n ∙ ap or_not_held at

pub popped_here : (w : AtDesk) (l core : ℕ) (e : CoreEnds) → w.first + core ≡ l → slice_get w.ends core ≡ Some e → popped_at w l ≡ e.ask.popped
popped_here w l core e is at =
    let n : l - w.first ≡ core = omega (arith, is) in
    ap (λ b. cond b (popped_by (slice_get w.ends (l - w.first))) []) (is_high l w.first (omega (arith, is)))
    ∙ ap (λ k. popped_by (slice_get w.ends k)) n ∙ ap popped_by at

-- no core's, however the ends of these cores are
abbrev IsNoCores : AtDesk → ℕ → Type 0
IsNoCores w l = (u : AtDesk) → u.first ≡ w.first → length u.ends ≡ length w.ends → (on_desk u l ≡ not_held) × (popped_at u l ≡ [])

abbrev IsOfCore : AtDesk → ℕ → Type 0
IsOfCore w l = (core : ℕ) × (e : CoreEnds) × (w.first + core ≡ l) × (slice_get w.ends core ≡ Some e)

pub desk_where : (w : AtDesk) (l : ℕ) → IsNoCores w l ⊎ IsOfCore w l
desk_where w l = elim (cases_lt l w.first) [
  | inl low ↦ inl (λ u first count.
      let is = is_low l u.first (omega (arith, low, first)) in
      (ap (λ b. cond b (or_not_held (slice_get u.ends (l - u.first))) not_held) is, ap (λ b. cond b (popped_by (slice_get u.ends (l - u.first))) []) is))
  | inr high ↦ elim (cases_lt (l - w.first) (length w.ends)) [
    | inl within ↦ (let f = found w.ends (l - w.first) within in inr (l - w.first, f.0, omega (arith, high), f.1))
    | inr past ↦ inl (λ u first count.
        let is = is_high l u.first (omega (arith, high, first)) in
        let none = slice_get_past u.ends (l - u.first) (omega (arith, past, first, count)) in (
          ap (λ b. cond b (or_not_held (slice_get u.ends (l - u.first))) not_held) is ∙ ap or_not_held none,
          ap (λ b. cond b (popped_by (slice_get u.ends (l - u.first))) []) is ∙ ap popped_by none,
        ))
  ]
]

-- ---- after a round without an entry

rests_on : (a b : CoreEnds) → Rests a b → StaysOn (on_request a) (on_request b)
rests_on a b r = record {
  terms = ap (λ (t : TableId). record { capacity = t.words; requests = true }) r.ask.table;
  end = ap (λ (ds : List Decision). Decides (decisions_of ds b.reply.replies)) r.ask.decisions
      ∙ ap (λ (rs : List Response). Decides (decisions_of a.ask.peer.decisions rs)) r.reply.replies;
  decision = refl;
  front = ap (λ (ds : List Decision). nat_lt (length ds) b.ask.peer.told_offers) r.ask.decisions
      ∙ ap (λ n. nat_lt (length a.ask.peer.decisions) n) r.ask.told;
  reply = refl;
  slot = λ room. refl;
}

no_front : (a b : CoreEnds) → Rests a b → a.ask.peer.told_offers ≤ length a.ask.peer.decisions → (on_request b).hand.front ≡ false
no_front a b r h = (rests_on a b r).front ∙ not_below (length a.ask.peer.decisions) a.ask.peer.told_offers h

waits_none : (a b : CoreEnds) → Rests a b → IsReady a → Waits a b → (on_request b).hand.front ≡ false
waits_none a b r ready h = elim h [
  | inl nothing ↦ no_front a b r nothing.1
  | inr room ↦ elim room.1 [
    | inl items ↦ (let i = ready.items in let n : length a.ask.items ≡ 0 = ap (λ (xs : List Payload). length xs) items in no_front a b r (omega (arith, i, n)))
    | inr free ↦ (let p = ready.places in no_front a b r (omega (arith, p, free)))
  ]
]

module _ (s t : Seen) (goes : GoesOn s t) (none : MadeNone s t) (ready : AreReady s.desk) where
  beside : (core : ℕ) (a : CoreEnds) → slice_get s.desk.ends core ≡ Some a → (b : CoreEnds) × (slice_get t.desk.ends core ≡ Some b)
  beside core a at = let w = slice_get_within s.desk.ends core a at in let n = goes.count in found t.desk.ends core (omega (arith, w, n))

  pub desk_stays : DeskStays s.desk t.desk
  desk_stays l = elim (desk_where s.desk l) [
    | inl none_here ↦ (let x = (none_here s.desk refl refl).0 in let y = (none_here t.desk goes.first goes.count).0 in
        subst (λ (z : OnLink). StaysOn z (on_desk t.desk l)) (sym x) (subst (λ (z : OnLink). StaysOn not_held z) (sym y) (stays_on not_held)))
    | inr here ↦ (let (core, a, is, at) = here in let (b, now) = beside core a at in
        let x = desk_at s.desk l core a is at in let y = desk_at t.desk l core b (ap (λ n. n + core) goes.first ∙ is) now in
        subst (λ (z : OnLink). StaysOn z (on_desk t.desk l)) (sym x) (subst (λ (z : OnLink). StaysOn (on_request a) z) (sym y)
        (rests_on a b (none.rests core a b at now))))
  ]

  -- no core has a request that was told of
  all_waited : AtEach Waits s.desk.ends t.desk.ends → (l : ℕ) → (on_desk t.desk l).hand.front ≡ false
  all_waited each l = elim (desk_where s.desk l) [
    | inl none_here ↦ ap (λ (z : OnLink). z.hand.front) (none_here t.desk goes.first goes.count).0
    | inr here ↦ (let (core, a, is, at) = here in let (b, now) = beside core a at in
        ap (λ (z : OnLink). z.hand.front) (desk_at t.desk l core b (ap (λ n. n + core) goes.first ∙ is) now)
        ∙ waits_none a b (none.rests core a b at now) (ready core a at) (each core a b at now))
  ]

  lacks_stamp : (core : ℕ) (a b : CoreEnds) → slice_get t.desk.ends core ≡ Some b → LacksStamp (last_of 0 s.desk.entries) a b
      → stamp_after (last_of 0 t.desk.entries) (on_desk t.desk (t.desk.first + core)).heard ≡ None
  lacks_stamp core a b now full =
      ap (λ (es : List Entry). stamp_after (last_of 0 es) (on_desk t.desk (t.desk.first + core)).heard) none.entries
      ∙ ap (λ (z : OnLink). stamp_after (last_of 0 s.desk.entries) z.heard) (desk_at t.desk (t.desk.first + core) core b refl now)
      ∙ ap (λ (o : Option Look). stamp_after (last_of 0 s.desk.entries) (stamp_seen o)) full.last_look ∙ full.none

pub round_rests : (r : Round) (s t : Seen) → GoesOn s t → AreReady s.desk → Says r s t → has_done r ≡ false
    → DeskStays s.desk t.desk × DeskStops t.desk
round_rests Did s t goes ready says e = absurd cc
round_rests Quiet s t goes ready says e =
    (desk_stays s t goes says.0 ready, inl (all_waited s t goes says.0 ready (λ core a b p q. inl (says.1 core a b p q))))
round_rests NotYet s t goes ready says e =
    (desk_stays s t goes says.0 ready, inl (all_waited s t goes says.0 ready says.1))
round_rests ClockFull s t goes ready says e =
    let one = says.2 in (
      desk_stays s t goes says.0 ready,
      inr (t.desk.first + one.core, lacks_stamp s t goes says.0 ready one.core one.old one.new one.after' one.holds),
    )

-- ---- after a settling with one core

set_same : {X : Type 0} (xs : List X) (k : ℕ) (y : X) → k < length xs → slice_get (slice_set xs k y) k ≡ Some y
set_same [] k y h = absurd (omega arith)
set_same (x ∷ xs) zero y h = refl
set_same (x ∷ xs) (suc k) y h = set_same xs k y (omega arith)

set_other : {X : Type 0} (xs : List X) (k l : ℕ) (y : X) → (k ≡ l → ⊥) → slice_get (slice_set xs k y) l ≡ slice_get xs l
set_other [] k l y n = refl
set_other (x ∷ xs) zero zero y n = absurd (n refl)
set_other (x ∷ xs) zero (suc l) y n = refl
set_other (x ∷ xs) (suc k) zero y n = refl
set_other (x ∷ xs) (suc k) (suc l) y n = set_other xs k l y (λ e. n (ap suc e))

set_long : {X : Type 0} (xs : List X) (k : ℕ) (y : X) → length (slice_set xs k y) ≡ length xs
set_long [] k y = refl
set_long (x ∷ xs) zero y = refl
set_long (x ∷ xs) (suc k) y = ap suc (set_long xs k y)

module _ (core : ℕ) (v w : AtDesk) (ask ask' : Asking) (settles : SettlesCore core v ask w ask') where
  first_same : w.first ≡ v.first
  first_same = ap (λ (d : AtDesk). d.first) settles.is

  pub entries_same : w.entries ≡ v.entries
  entries_same = ap (λ (d : AtDesk). d.entries) settles.is

  ends_are : w.ends ≡ slice_set v.ends core settles.after
  ends_are = ap (λ (d : AtDesk). d.ends) settles.is

  count_same : length w.ends ≡ length v.ends
  count_same = ap (λ (xs : List CoreEnds). length xs) ends_are ∙ set_long v.ends core settles.after

  pub core_now : slice_get w.ends core ≡ Some settles.after
  core_now = ap (λ xs. slice_get xs core) ends_are ∙ set_same v.ends core settles.after (slice_get_within v.ends core settles.before settles.was)

  other_now : (c : ℕ) → (core ≡ c → ⊥) → slice_get w.ends c ≡ slice_get v.ends c
  other_now c n = ap (λ xs. slice_get xs c) ends_are ∙ set_other v.ends core c settles.after n

  pub desk_others : (l : ℕ) → (v.first + core ≡ l → ⊥) → on_desk w l ≡ on_desk v l
  desk_others l n = elim (desk_where v l) [
    | inl none_here ↦ (none_here w first_same count_same).0 ∙ sym (none_here v refl refl).0
    | inr here ↦ (let (c, e, is, at) = here in
        desk_at w l c e (ap (λ n. n + c) first_same ∙ is) (other_now c (λ q. n (ap (λ n. v.first + n) q ∙ is)) ∙ at) ∙ sym (desk_at v l c e is at))
  ]

  popped_same : (l : ℕ) → popped_at w l ≡ popped_at v l
  popped_same l = elim (desk_where v l) [
    | inl none_here ↦ (none_here w first_same count_same).1 ∙ sym (none_here v refl refl).1
    | inr here ↦ (let (c, e, is, at) = here in elim (cases_eq core c) [
      | inl same ↦ popped_here w l c settles.after (ap (λ n. n + c) first_same ∙ is) (subst (λ n. slice_get w.ends n ≡ Some settles.after) same core_now)
          ∙ settles.ends.recv.popped
          ∙ ap (λ (x : CoreEnds). x.ask.popped) (same_some settles.before e (sym settles.was ∙ subst (λ n. slice_get v.ends n ≡ Some e) (sym same) at))
          ∙ sym (popped_here v l c e is at)
      | inr other ↦ popped_here w l c e (ap (λ n. n + c) first_same ∙ is) (other_now c other ∙ at) ∙ sym (popped_here v l c e is at)
    ])
  ]

  asked_same : IsQuietOn (on_request settles.before) (on_request settles.after)
  asked_same = record {
    terms = ap (λ (t : TableId). record { capacity = t.words; requests = true }) settles.ends.recv.table;
    end = ap (λ (p : Peer). Decides (decisions_of p.decisions settles.after.reply.replies)) settles.ends.recv.peer
        ∙ ap (λ (rs : List Response). Decides (decisions_of settles.before.ask.peer.decisions rs)) settles.ends.end.replies;
    heard = subst (λ (p : Peer). stamp_seen settles.before.ask.peer.look ≤ stamp_seen p.look) (sym settles.ends.recv.peer)
        (le_refl (stamp_seen settles.before.ask.peer.look));
  }

  pub desk_apart : (l : ℕ) → v.first + core ≡ l → DeskButAt l v w
  desk_apart l is = record {
    entries = entries_same;
    popped = popped_same;
    here = subst (λ (x : OnLink). IsQuietOn x (on_desk w l)) (sym (desk_at v l core settles.before is settles.was))
        (subst (λ (x : OnLink). IsQuietOn (on_request settles.before) x)
        (sym (desk_at w l core settles.after (ap (λ n. n + core) first_same ∙ is) core_now)) asked_same);
    others = λ k n. desk_others k (λ e. n (sym e ∙ is));
  }
