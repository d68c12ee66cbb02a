-- A call on one of the ends of a core: what is told of its link, and that all that is told of the others stays.
use Rattle.std.proofs.Common.{◌≡◌, ℕ, zero, suc, ◌<◌, List, [], ◌∷◌, Some, None, Bool, true, false, cond, refl, sym, ap, ◌∙◌, subst, arith, length, set, inl, inr, position, find}
use Rattle.std.specs.Prelude.{slice_get, ◌==◌, ltb}
use Rattle.std.specs.List.{position_or_len}
use Rattle.std.proofs.lemmas.Bool.{cases_lt, lt-ltb}
use Rattle.std.proofs.lemmas.Bool.Decides.{nat_tests}
use Rattle.std.proofs.lemmas.List.Folds.{find_at, find-set}
use Rattle.std.proofs.lemmas.Option.{slice_get_past}
use Rattle.end_ports.specs.Held.{Held, SendingAt, ReceivingAt, AskingAt, IsSameSendAt, IsSameRecvAt, IsSameAskAt}
use Rattle.end_ports.specs.Held.HeldEnd.{OfSend, OfRecv, OfAsk}
use Rattle.end_ports.specs.OnLinks.{sent_on, received_on, or_sent, or_received, end_on}
use Rattle.end_ports.specs.PortsTold.{EachSo, each_self, same_send, same_recv, same_ask}
use Rattle.end_ports.specs.inner.Places.{OnlyOn}

are_equal : (m n : ℕ) → m ≡ n → (m == n) ≡ true
are_equal m n h = grind (arith, nat_tests)

equal_if : (m n : ℕ) → (m == n) ≡ true → m ≡ n
equal_if m n h = grind (arith, nat_tests)

pub not_equal : (m n : ℕ) → (m ≡ n → ⊥) → (m == n) ≡ false
not_equal m n h = grind (arith, nat_tests)

-- ---- the first place that passes a test

placed : {X : Type 0} (p : X → Bool) (xs : List X) (at : ℕ) → position p xs ≡ Some at → (at ≡ position_or_len p xs) × (at < length xs)
placed p xs at found =
    elim (cases_lt (position_or_len p xs) (length xs)) [
      | inl within ↦ let test : ltb (position_or_len p xs) (length xs) ≡ true = lt-ltb _ _ within in
          let same : at ≡ position_or_len p xs = cc (rw test at found) in (same, omega (arith, within, same))
      | inr past ↦ let test : ltb (position_or_len p xs) (length xs) ≡ false = grind (arith, nat_tests) in absurd (cc (rw test at found))
    ]

pub not_placed : {X : Type 0} (p : X → Bool) (xs : List X) → position p xs ≡ None → find p xs ≡ None
not_placed p xs none =
    elim (cases_lt (position_or_len p xs) (length xs)) [
      | inl within ↦ let test : ltb (position_or_len p xs) (length xs) ≡ true = lt-ltb _ _ within in absurd (cc (rw test at none))
      | inr past ↦ find_at p xs ∙ slice_get_past xs _ past
    ]

pub place_within : {X : Type 0} (p : X → Bool) (xs : List X) (at : ℕ) → position p xs ≡ Some at → at < length xs
place_within p xs at found = (placed p xs at found).1

pub found_at : {X : Type 0} (p : X → Bool) (xs : List X) (at : ℕ) (x : X) → position p xs ≡ Some at → slice_get xs at ≡ Some x → find p xs ≡ Some x
found_at p xs at x found was = find_at p xs ∙ sym (ap (slice_get xs) (placed p xs at found).0) ∙ was

found_passes : {X : Type 0} (p : X → Bool) (xs : List X) (x : X) → find p xs ≡ Some x → p x ≡ true
found_passes p [] x h = cc
found_passes p (y ∷ ys) x h = by (p y) refl h (found_passes p ys x)
  where
    by : (b : Bool) → p y ≡ b → cond b (Some y) (find p ys) ≡ Some x → (find p ys ≡ Some x → p x ≡ true) → p x ≡ true
    by true e h more = let same : y ≡ x = cc in subst (λ z. p z ≡ true) same e
    by false e h more = more h

found_other : {X : Type 0} (p : X → Bool) (xs : List X) (at : ℕ) (x y : X) → slice_get xs at ≡ Some x → p x ≡ false → p y ≡ false → find p (set xs at y) ≡ find p xs
found_other p [] at x y was e f = cc
found_other p (z ∷ zs) zero x y was e f =
    let same : z ≡ x = cc in ap (λ b. cond b (Some y) (find p zs)) f ∙ sym (ap (λ b. cond b (Some z) (find p zs)) (ap p same ∙ e))
found_other p (z ∷ zs) (suc at) x y was e f = ap (λ q. cond (p z) (Some z) q) (found_other p zs at x y was e f)

each_set : {X : Type 0} (R : X → X → Type 0) → ((x : X) → R x x) → (xs : List X) (at : ℕ) (x y : X) → slice_get xs at ≡ Some x → R x y → EachSo R xs (set xs at y)
each_set R h [] at x y was r = cc
each_set R h (z ∷ zs) zero x y was r = let same : z ≡ x = cc in (subst (λ z. R z y) (sym same) r, each_self R h zs)
each_set R h (z ∷ zs) (suc at) x y was r = (h z, each_set R h zs at x y was r)

-- ---- the end that was found, and the one that took its place

module _ {X : Type 0} (link : X → ℕ) (xs : List X) (l at : ℕ) (found : position (λ x. link x == l) xs ≡ Some at) (x y : X) (was : slice_get xs at ≡ Some x) (kept : link y ≡ link x) where
  pub link_is : link x ≡ l
  link_is = equal_if (link x) l (found_passes (λ x. link x == l) xs x (found_at (λ x. link x == l) xs at x found was))

  pub found_new : find (λ x. link x == l) (set xs at y) ≡ Some y
  found_new = let p = placed (λ x. link x == l) xs at found in
      find-set (λ x. link x == l) xs at y p.0 p.1 (are_equal (link y) l (kept ∙ link_is))

  pub found_same : (k : ℕ) → (l ≡ k → ⊥) → find (λ x. link x == k) (set xs at y) ≡ find (λ x. link x == k) xs
  found_same k n = found_other (λ x. link x == k) xs at x y was
      (not_equal (link x) k (λ e. n (sym link_is ∙ e)))
      (not_equal (link y) k (λ e. n (sym (kept ∙ link_is) ∙ e)))

-- ---- the ports

module _ (h : Held) (l : ℕ) where
  pub asked_here : h.ask.link ≡ l → end_on h l ≡ OfAsk h.ask
  asked_here e = ap (λ b. cond b (OfAsk h.ask) (or_sent (sent_on h.sends l) (received_on h.recvs l))) (are_equal h.ask.link l e)

  pub not_asked : (h.ask.link == l) ≡ false → end_on h l ≡ or_sent (sent_on h.sends l) (received_on h.recvs l)
  not_asked e = ap (λ b. cond b (OfAsk h.ask) (or_sent (sent_on h.sends l) (received_on h.recvs l))) e

  -- a call on the requests
  pub ask_only : (a : AskingAt) → h.ask.link ≡ l → IsSameAskAt h.ask a → OnlyOn h l (record h { ask = a })
  ask_only a e same = record {
    others = λ k n. ap (λ b. cond b (OfAsk a) (or_sent (sent_on h.sends k) (received_on h.recvs k))) (not_equal a.link k (λ f. n (sym (same.link ∙ e) ∙ f)))
        ∙ sym (ap (λ b. cond b (OfAsk h.ask) (or_sent (sent_on h.sends k) (received_on h.recvs k))) (not_equal h.ask.link k (λ f. n (sym e ∙ f))));
    full = refl;
    stays = record {
      sends = each_self IsSameSendAt same_send h.sends;
      recvs = each_self IsSameRecvAt same_recv h.recvs;
      ask = same;
    };
  }

  -- on a channel on which the core sends
  module _ (at : ℕ) (s t : SendingAt) (found : position (λ s. s.link == l) h.sends ≡ Some at) (was : slice_get h.sends at ≡ Some s) (same : IsSameSendAt s t) where
    pub sent_here : (h.ask.link == l) ≡ false → end_on h l ≡ OfSend s
    sent_here e = not_asked e ∙ ap (λ q. or_sent q (received_on h.recvs l)) (found_at (λ s. s.link == l) h.sends at s found was)

    pub sent_after : (h.ask.link == l) ≡ false → end_on (record h { sends = set h.sends at t }) l ≡ OfSend t
    sent_after e = ap (λ b. cond b (OfAsk h.ask) (or_sent (sent_on (set h.sends at t) l) (received_on h.recvs l))) e
        ∙ ap (λ q. or_sent q (received_on h.recvs l)) (found_new (λ (s : SendingAt). s.link) h.sends l at found s t was same.link)

    pub send_link : s.link ≡ l
    send_link = link_is (λ (s : SendingAt). s.link) h.sends l at found s t was same.link

    pub send_only : OnlyOn h l (record h { sends = set h.sends at t })
    send_only = record {
      others = λ k n. ap (λ q. cond (h.ask.link == k) (OfAsk h.ask) (or_sent q (received_on h.recvs k)))
          (found_same (λ (s : SendingAt). s.link) h.sends l at found s t was same.link k n);
      full = refl;
      stays = record {
        sends = each_set IsSameSendAt same_send h.sends at s t was same;
        recvs = each_self IsSameRecvAt same_recv h.recvs;
        ask = same_ask h.ask;
      };
    }

  -- on one on which it receives
  module _ (at : ℕ) (r t : ReceivingAt) (found : position (λ r. r.link == l) h.recvs ≡ Some at) (was : slice_get h.recvs at ≡ Some r) (same : IsSameRecvAt r t) where
    pub received_here : (h.ask.link == l) ≡ false → sent_on h.sends l ≡ None → end_on h l ≡ OfRecv r
    received_here e none = not_asked e ∙ ap (λ q. or_sent q (received_on h.recvs l)) none ∙ ap or_received (found_at (λ r. r.link == l) h.recvs at r found was)

    pub received_after : (h.ask.link == l) ≡ false → sent_on h.sends l ≡ None → end_on (record h { recvs = set h.recvs at t }) l ≡ OfRecv t
    received_after e none = ap (λ b. cond b (OfAsk h.ask) (or_sent (sent_on h.sends l) (received_on (set h.recvs at t) l))) e
        ∙ ap (λ q. or_sent q (received_on (set h.recvs at t) l)) none
        ∙ ap or_received (found_new (λ (r : ReceivingAt). r.link) h.recvs l at found r t was same.link)

    pub recv_link : r.link ≡ l
    recv_link = link_is (λ (r : ReceivingAt). r.link) h.recvs l at found r t was same.link

    pub recv_only : OnlyOn h l (record h { recvs = set h.recvs at t })
    recv_only = record {
      others = λ k n. ap (λ q. cond (h.ask.link == k) (OfAsk h.ask) (or_sent (sent_on h.sends k) q))
          (found_same (λ (r : ReceivingAt). r.link) h.recvs l at found r t was same.link k n);
      full = refl;
      stays = record {
        sends = each_self IsSameSendAt same_send h.sends;
        recvs = each_set IsSameRecvAt same_recv h.recvs at r t was same;
        ask = same_ask h.ask;
      };
    }
