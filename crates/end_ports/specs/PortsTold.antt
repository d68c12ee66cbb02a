-- What the ports of a core over ends tell, and what stays of them.
use Rattle.std.specs.Prelude.{List, [], ◌∷◌, refl}
use Rattle.std.proofs.Common.{◌∙◌}
use Rattle.core_ports.specs.PortsTold.{PortsTold}
use Rattle.end_ports.specs.Held.{Held, SendingAt, ReceivingAt, AskingAt, IsSameSendAt, IsSameRecvAt, IsSameAskAt}
use Rattle.end_ports.specs.OnLinks.{on_link}

abbrev pub told_of : Held → PortsTold
told_of h = record {
  terms = λ l. (on_link h l).terms;
  ends = λ l. (on_link h l).end;
  at_hand = λ l. (on_link h l).hand;
  heard = λ l. (on_link h l).heard;
  polls = λ l. (on_link h l).polls;
  tries = λ l. (on_link h l).tries;
  full = h.full;
}

-- each element of the one list is as R says to that of the other at its place
abbrev pub EachSo : {X : Type 0} → (X → X → Type 0) → List X → List X → Type 0
EachSo R [] [] = Unit {0}
EachSo R [] (y ∷ ys) = ⊥
EachSo R (x ∷ xs) [] = ⊥
EachSo R (x ∷ xs) (y ∷ ys) = R x y × EachSo R xs ys

-- they are ports over the same ends of the same links
pub record Stays (before after : Held) : Type 0 where
  pub sends : EachSo IsSameSendAt before.sends after.sends
  pub recvs : EachSo IsSameRecvAt before.recvs after.recvs
  pub ask : IsSameAskAt before.ask after.ask

-- ---- it is reflexive and transitive

pub each_self : {X : Type 0} (R : X → X → Type 0) → ((x : X) → R x x) → (xs : List X) → EachSo R xs xs
each_self R h [] = tt
each_self R h (x ∷ xs) = (h x, each_self R h xs)

pub each_then : {X : Type 0} (R : X → X → Type 0) → ((x y z : X) → R x y → R y z → R x z) → (xs ys zs : List X)
    → EachSo R xs ys → EachSo R ys zs → EachSo R xs zs
each_then R h [] [] [] a b = tt
each_then R h [] [] (z ∷ zs) a b = absurd b
each_then R h [] (y ∷ ys) zs a b = absurd a
each_then R h (x ∷ xs) [] zs a b = absurd a
each_then R h (x ∷ xs) (y ∷ ys) [] a b = absurd b
each_then R h (x ∷ xs) (y ∷ ys) (z ∷ zs) a b = (h x y z a.0 b.0, each_then R h xs ys zs a.1 b.1)

pub same_send : (s : SendingAt) → IsSameSendAt s s
same_send s = record { link = refl; end = record { table = refl; ring = refl } }

pub same_recv : (r : ReceivingAt) → IsSameRecvAt r r
same_recv r = record { link = refl; end = record { table = refl; ring = refl } }

pub same_ask : (a : AskingAt) → IsSameAskAt a a
same_ask a = record { link = refl; end = record { send = record { table = refl; ring = refl }; ring = refl } }

send_then : (r s t : SendingAt) → IsSameSendAt r s → IsSameSendAt s t → IsSameSendAt r t
send_then r s t a b = record {
  link = b.link ∙ a.link;
  end = record { table = b.end.table ∙ a.end.table; ring = b.end.ring ∙ a.end.ring };
}

recv_then : (r s t : ReceivingAt) → IsSameRecvAt r s → IsSameRecvAt s t → IsSameRecvAt r t
recv_then r s t a b = record {
  link = b.link ∙ a.link;
  end = record { table = b.end.table ∙ a.end.table; ring = b.end.ring ∙ a.end.ring };
}

ask_then : (r s t : AskingAt) → IsSameAskAt r s → IsSameAskAt s t → IsSameAskAt r t
ask_then r s t a b = record {
  link = b.link ∙ a.link;
  end = record {
    send = record { table = b.end.send.table ∙ a.end.send.table; ring = b.end.send.ring ∙ a.end.send.ring };
    ring = b.end.ring ∙ a.end.ring;
  };
}

pub stays_self : (h : Held) → Stays h h
stays_self h = record {
  sends = each_self IsSameSendAt same_send h.sends;
  recvs = each_self IsSameRecvAt same_recv h.recvs;
  ask = same_ask h.ask;
}

pub stays_then : (h i j : Held) → Stays h i → Stays i j → Stays h j
stays_then h i j a b = record {
  sends = each_then IsSameSendAt send_then h.sends i.sends j.sends a.sends b.sends;
  recvs = each_then IsSameRecvAt recv_then h.recvs i.recvs j.recvs a.recvs b.recvs;
  ask = ask_then h.ask i.ask j.ask a.ask b.ask;
}
