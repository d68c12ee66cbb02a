-- Ports that stay over the same ends keep their ends of each pair: an end stands under the number of its link as before, and is of the same
-- words and the same ring. And what is told of a pair is what its two ends tell.
use Rattle.std.proofs.Common.{◌≡◌, ℕ, List, [], ◌∷◌, Some, None, Bool, true, false, cond, refl, sym, ap, ◌∙◌, subst, find}
use Rattle.std.specs.Prelude.{◌==◌}
use Rattle.end_ports.specs.Held.{Held, IsSameSendAt, IsSameRecvAt}
use Rattle.end_ports.specs.OnLinks.{or_sent, or_received, received_on, on_send, on_recv, on_ask, told_by, on_link}
use Rattle.end_ports.specs.PortsTold.{EachSo, Stays}
use Rattle.end_ports.specs.SettledLinks.{HavePair}
use Rattle.end_ports.proofs.Placing.{not_equal, not_asked, asked_here}

-- ---- the first end of a link, in lists of which each element is that of the other at its place

module _ {X : Type 0} (link : X → ℕ) (R : X → X → Type 0) (same : (x y : X) → R x y → link y ≡ link x) (l : ℕ) where
  abbrev here : X → Bool
  here x = link x == l

  pub still_found : (xs ys : List X) → EachSo R xs ys → (x : X) → find here xs ≡ Some x → (y : X) × (find here ys ≡ Some y) × R x y
  still_found [] [] e x f = cc
  still_found [] (y ∷ ys) e x f = absurd e
  still_found (z ∷ zs) [] e x f = absurd e
  still_found (z ∷ zs) (y ∷ ys) e x f = by (here z) (ap (λ n. n == l) (same z y e.0)) f (still_found zs ys e.1 x)
    where
      by : (b : Bool) → here y ≡ b → cond b (Some z) (find here zs) ≡ Some x
          → (find here zs ≡ Some x → (w : X) × (find here ys ≡ Some w) × R x w) → (w : X) × (find here (y ∷ ys) ≡ Some w) × R x w
      by true t f more = let is : z ≡ x = cc in (y, ap (λ b. cond b (Some y) (find here ys)) t, subst (λ v. R v y) is e.0)
      by false t f more = let (w, at, r) = more f in (w, ap (λ b. cond b (Some y) (find here ys)) t ∙ at, r)

  pub still_none : (xs ys : List X) → EachSo R xs ys → find here xs ≡ None → find here ys ≡ None
  still_none [] [] e f = refl
  still_none [] (y ∷ ys) e f = absurd e
  still_none (z ∷ zs) [] e f = absurd e
  still_none (z ∷ zs) (y ∷ ys) e f = by (here z) (ap (λ n. n == l) (same z y e.0)) f (still_none zs ys e.1)
    where
      by : (b : Bool) → here y ≡ b → cond b (Some z) (find here zs) ≡ None → (find here zs ≡ None → find here ys ≡ None) → find here (y ∷ ys) ≡ None
      by true t f more = cc
      by false t f more = ap (λ b. cond b (Some y) (find here ys)) t ∙ more f

-- ---- the ends of one pair

pub pair_lasts : (l : ℕ) (from to from' to' : Held) → HavePair from to l → Stays from from' → Stays to to' → HavePair from' to' l
pair_lasts l from to from' to' h s t =
    let (send, sends, a) = still_found (λ x. x.link) IsSameSendAt (λ x y r. r.link) l from.sends from'.sends s.sends h.send h.sends in
    let (recv, recvs, b) = still_found (λ x. x.link) IsSameRecvAt (λ x y r. r.link) l to.recvs to'.recvs t.recvs h.recv h.recvs in
    record {
      send = send;
      recv = recv;
      sends = sends;
      from_asks = λ e. h.from_asks (sym s.ask.link ∙ e);
      recvs = recvs;
      to_sends = still_none (λ x. x.link) IsSameSendAt (λ x y r. r.link) l to.sends to'.sends t.sends h.to_sends;
      to_asks = λ e. h.to_asks (sym t.ask.link ∙ e);
      ends = (a.end.table ∙ h.ends.0 ∙ sym b.end.table, a.end.ring ∙ h.ends.1 ∙ sym b.end.ring);
    }

-- ---- what is told of the two

pub shown_send : (l : ℕ) (a b : Held) (h : HavePair a b l) → on_link a l ≡ on_send h.send
shown_send l a b h = ap told_by (not_asked a l (not_equal a.ask.link l h.from_asks) ∙ ap (λ q. or_sent q (received_on a.recvs l)) h.sends)

pub shown_recv : (l : ℕ) (a b : Held) (h : HavePair a b l) → on_link b l ≡ on_recv h.recv
shown_recv l a b h = ap told_by (not_asked b l (not_equal b.ask.link l h.to_asks) ∙ ap (λ q. or_sent q (received_on b.recvs l)) h.to_sends
    ∙ ap or_received h.recvs)

pub shown_ask : (l : ℕ) (h : Held) → h.ask.link ≡ l → on_link h l ≡ on_ask h.ask
shown_ask l h e = ap told_by (asked_here h l e)
