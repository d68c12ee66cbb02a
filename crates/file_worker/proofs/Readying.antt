-- What a settling told of is known with what it asks, and with a place for its reply: after a turn as before it, and after a settling.
use Rattle.std.proofs.Common.{◌≡◌, ℕ, ◌+◌, ◌≤◌, List, [], ◌∷◌, ◌++◌, ap, arith, length, length-append}
use Rattle.std.specs.Prelude.{◌<◌, Result, Ok, Err, OnOk, OnErr, IfErr}
use mathlib.Core.List.{IsPrefix}
use Rattle.ac_base.specs.declared.entry.Payload.{Payload}
use Rattle.ac_base.specs.declared.entry.Entry.{Entry}
use Rattle.ac_outside.specs.Disks.{DiskTold}
use Rattle.channel_ends.specs.Receiving.{Receiving}
use Rattle.channel_ends.specs.Sending.{Sending}
use Rattle.channel_ends.specs.Settled.{AreSettled}
use Rattle.completion_word.specs.declared.views.Decision.{Decision}
use Rattle.request_ends.specs.Replying.{HasLooked}
use Rattle.request_ends.specs.Answered.{HasAllReplies}
use Rattle.end_ports.specs.Held.{AskingAt}
use Rattle.end_ports.specs.SettledLinks.{IsSettledAsk}
use Rattle.file_worker.specs.Ends.{CoreEnds, IsReady}
use Rattle.file_worker.specs.Rounds.{Rests}
use Rattle.file_worker.specs.inner.Turns.{DoesNext, PassesNext}

prefix_long : {X : Type 0} (xs ys : List X) → IsPrefix xs ys → length xs ≤ length ys
prefix_long xs ys p = let n = length-append xs p.0 in let e = ap length p.1 in omega (arith, n, e)

one_longer : (xs ys : List Decision) (d : Decision) → ys ≡ xs ++ d ∷ [] → length ys ≡ length xs + 1
one_longer xs ys d e = let n = length-append xs (d ∷ []) in let f = ap length e in omega (arith, n, f)

-- where no request was decided
pub rests_ready : (a b : CoreEnds) → Rests a b → IsReady a → IsReady b
rests_ready a b x r =
    let told = x.ask.told in
    let n = ap (λ (ds : List Decision). length ds) x.ask.decisions in
    let items = prefix_long a.ask.items b.ask.items x.ask.items in
    record {
      items = let l = r.items in omega (arith, told, n, items, l);
      places = let l = r.places in let f = x.reply.free in omega (arith, told, n, f, l);
    }

-- where one was, with an item and at most one place fewer
module _ (a b : CoreEnds) (d : Decision) (x : Payload) (told : b.ask.peer.told_offers ≡ a.ask.peer.told_offers)
    (decisions : b.ask.peer.decisions ≡ a.ask.peer.decisions ++ d ∷ []) (items : IsPrefix a.ask.items (x ∷ b.ask.items)) (free : a.reply.free ≤ b.reply.free + 1) where
  decided_ready : IsReady a → IsReady b
  decided_ready r =
      let n = one_longer a.ask.peer.decisions b.ask.peer.decisions d decisions in
      let m = prefix_long a.ask.items (x ∷ b.ask.items) items in
      record {
        items = let l = r.items in omega (arith, told, n, m, l);
        places = let l = r.places in omega (arith, told, n, free, l);
      }

pub does_ready : (l last : ℕ) (a b : CoreEnds) (before after : DiskTold) (e : Entry) → DoesNext l last a before e b after → IsReady a → IsReady b
does_ready l last a b before after e x = decided_ready a b _ x.payload x.ask.told x.ask.decisions x.ask.items x.reply.free

pub passes_ready : (l last : ℕ) (a b : CoreEnds) (before after : DiskTold) (e : Entry) → PassesNext l last a before e b after → IsReady a → IsReady b
passes_ready l last a b before after e x = decided_ready a b _ x.payload x.ask.told x.ask.decisions x.ask.items (let f = x.reply.free in omega (arith, f))

-- a settling shows each item, and with sixteen places each request has one
pub settled_ready : (send : Sending Payload) (e : CoreEnds) → AreSettled send e.ask → e.reply.free ≡ 16 → length send.notes.offers ≤ length e.ask.peer.decisions + 16
    → IsReady e
settled_ready send e s free few =
    let told = s.offers_told in
    let popped = s.one_popped in
    let sent = s.one_sent in
    let both = length-append e.ask.popped e.ask.items in
    let all = ap (λ (xs : List Payload). length xs) s.in_order in
    record { items = omega (arith, told, popped, sent, both, all); places = omega (arith, told, free, few) }

-- whether a settling had memory or not
pub either_ready : {X E : Type 0} (r : Result X E) (ask : AskingAt) (a b : CoreEnds) (S Q H : Type 0) → OnOk r (AreSettled ask.end.send b.ask × S)
    → OnOk r (HasAllReplies ask.end b.reply × (0 < ask.end.places) × IsSettledAsk ask b.ask b.reply) → IfErr r (λ _. Q × (b.ask ≡ a.ask) × H)
    → HasLooked a.reply b.reply → IsReady a → IsReady b
either_ready (Ok x) ask a b S Q H s all none looked r = settled_ready ask.end.send b s.0 all.0.free all.2.few
either_ready (Err e) ask a b S Q H s all none looked r =
    let told = ap (λ (x : Receiving Payload). x.peer.told_offers) none.1 in
    let n = ap (λ (x : Receiving Payload). length x.peer.decisions) none.1 in
    let m = ap (λ (x : Receiving Payload). length x.items) none.1 in
    record {
      items = let l = r.items in omega (arith, told, n, m, l);
      places = let l = r.places in let f = looked.free in omega (arith, told, n, f, l);
    }

pub on_both : {X E : Type 0} (r : Result X E) (P Q R : Type 0) → OnOk r P → OnOk r Q → (P → Q → R) → OnOk r R
on_both (Ok x) P Q R p q f = f p q
on_both (Err e) P Q R p q f = tt

pub on_err : {X E : Type 0} (r : Result X E) (P Q : Type 0) → IfErr r (λ _. P) → (P → Q) → OnErr r Q
on_err (Ok x) P Q p f = tt
on_err (Err e) P Q p f = f p
