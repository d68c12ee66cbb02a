-- What an owner's answers tell of the list of its offers: each entry is one that the owner may make, and leaves the list that it says.
use Rattle.std.proofs.Common.{◌≡◌, ℕ, zero, suc, ◌-◌, ◌<◌, ◌≤◌, List, [], ◌∷◌, ◌++◌, Option, Some, None, Bool}
use Rattle.std.proofs.Common.{true, false, cond, ◌&&◌, is_some, is_none, refl, sym, ap, ◌∙◌, subst, arith, length, nat_lt}
use Rattle.std.specs.Prelude.{slice_get, ◌==◌, map, IfSome}
use Rattle.std.specs.Option.{ForSome, option_map}
use Rattle.std.specs.List.{AllByRecursion}
use Rattle.std.proofs.lemmas.Bool.Decides.{nat_tests}
use Rattle.std.proofs.lemmas.List.{length-map}
use Rattle.std.proofs.lemmas.Option.{slice_get-map}
use Rattle.ac_base.specs.declared.entry.Payload.{Payload}
use Rattle.ac_base.specs.declared.entry.Answer.{Answer}
use Rattle.ac_base.specs.declared.entry.Event.TheVariants.{Offer, Withdraw, Know, Room, Reply}
use Rattle.ac_base.specs.Stamps.{stamp_after}
use Rattle.ac_links.specs.declared.payloads.Terms.{Terms}
use Rattle.ac_links.specs.Payloads.{is_payload}
use Rattle.ac_links.specs.Views.{OwnerOffer, owner_lead, altered, withdrawn_at, known_at, replied_with, owner_offer, may_withdraw, may_free, may_reply}
use Rattle.ac_links.specs.Noted.{known_stamp, reply_stamp}
use Rattle.ac_links.specs.Party.LinkEnd.{Owns}
use Rattle.core_channels.proofs.Stamping.{stamp_is_next}
use Rattle.channel_ends.specs.Sending.{MadeOffer, OwnerNotes, AreWithin, capacity_of, made_at, known_lead}
use Rattle.channel_ends.specs.Sending as notes
use Rattle.channel_ends.specs.Learns.{is_withdrawn}
use Rattle.channel_ends.specs.Withdraws.{MayWithdraw}
use Rattle.core_ports.specs.Ends as ends
use Rattle.core_ports.specs.Ends.{IsOfferUpTo, IsUpTo}
use Rattle.end_ports.specs.inner.Calls.{TellsOneAt}

-- ---- the same offers, without what they carry

abbrev pub made : OwnerOffer → MadeOffer
made o = record { stamp = o.stamp; withdrawn = o.withdrawn; known = o.known }

pub lead_is : (os : List OwnerOffer) (ms : List MadeOffer) → map made os ≡ ms → owner_lead os ≡ known_lead ms
lead_is os ms e = by os ∙ ap known_lead e
  where
    by : (os : List OwnerOffer) → owner_lead os ≡ known_lead (map made os)
    by [] = refl
    by (o ∷ os) = ap (λ n. cond (is_some o.known) (suc n) 0) (by os)

pub count_is : (os : List OwnerOffer) (ms : List MadeOffer) → map made os ≡ ms → length os ≡ length ms
count_is os ms e = sym (length-map os made) ∙ ap length e

pub room_is : (terms : Terms) (os : List OwnerOffer) (n : OwnerNotes) → map made os ≡ n.offers → terms.capacity ≡ capacity_of n
    → ends.has_room terms (Owns os) ≡ notes.has_room n
room_is terms os n e c =
    ap (λ k. nat_lt (k - owner_lead os) terms.capacity) (count_is os n.offers e) ∙ ap (λ k. nat_lt (length n.offers - k) terms.capacity) (lead_is os n.offers e)
    ∙ ap (λ k. nat_lt (length n.offers - known_lead n.offers) k) c

-- the clock is at least at each stamp of the list
at_most : (last : ℕ) (q : Option ℕ) → IfSome q (λ w. w ≤ last) → ForSome q (λ w. w ≤ last)
at_most last None h = λ w is. cc
at_most last (Some v) h = λ w is. let same : v ≡ w = cc in omega (arith, h)

within_first : (last : ℕ) (o : OwnerOffer) (ms : List MadeOffer) → IsOfferUpTo last o → AreWithin last ms → AreWithin last (made o ∷ ms)
within_first last o ms h w zero l = (h.made, at_most last o.withdrawn h.withdrawn)
within_first last o ms h w (suc n) l = w n (omega arith)

each_within : (last : ℕ) (os : List OwnerOffer) → AllByRecursion (IsOfferUpTo last) os → AreWithin last (map made os)
each_within last [] h = λ n l. absurd (omega arith)
each_within last (o ∷ os) h = within_first last o (map made os) h.0 (each_within last os h.1)

pub within : (last : ℕ) (os : List OwnerOffer) (ms : List MadeOffer) → map made os ≡ ms → IsUpTo last (Owns os) → AreWithin last ms
within last os ms e h = subst (AreWithin last) e (each_within last os h)

none_of : {X : Type 0} (q : Option X) → is_none q ≡ true → q ≡ None
none_of None h = refl
none_of (Some x) h = cc

first_of : (a b : Bool) → (a && b) ≡ true → (a ≡ true) × (b ≡ true)
first_of true b h = (refl, h)
first_of false b h = cc

-- what the owner may withdraw its end may
pub open_made : (os : List OwnerOffer) (ms : List MadeOffer) (n : ℕ) → map made os ≡ ms → may_withdraw (slice_get os n) ≡ true → MayWithdraw (slice_get ms n)
open_made os ms n e h = subst (λ ms. MayWithdraw (slice_get ms n)) e (subst MayWithdraw (sym (slice_get-map made os n)) (by (slice_get os n) h))
  where
    by : (o : Option OwnerOffer) → may_withdraw o ≡ true → MayWithdraw (option_map made o)
    by None h = cc
    by (Some o) h = let b = first_of (is_none o.withdrawn) (is_none o.known) h in (none_of o.withdrawn b.0, none_of o.known b.1)

pub below_count : (os : List OwnerOffer) (n : ℕ) → may_withdraw (slice_get os n) ≡ true → n < length os
below_count [] n h = cc
below_count (o ∷ os) zero h = omega arith
below_count (o ∷ os) (suc n) h = let up = below_count os n h in omega arith

abbrev Opens : List OwnerOffer → ℕ → Type 0
Opens os k = (is_withdrawn (slice_get (map made os) k) ≡ false → may_withdraw (slice_get os k) ≡ true)
    × (is_withdrawn (slice_get (map made os) k) ≡ true → may_free (slice_get os k) ≡ true)

-- the first whose decision is not known may be learned: as a taking, or where it is withdrawn as room
pub lead_opens : (os : List OwnerOffer) (ms : List MadeOffer) (n : ℕ) → map made os ≡ ms → n ≡ known_lead ms → known_lead ms < length ms
    → ((is_withdrawn (slice_get ms n) ≡ false → may_withdraw (slice_get os n) ≡ true) × (is_withdrawn (slice_get ms n) ≡ true → may_free (slice_get os n) ≡ true))
lead_opens os ms n e at below =
    subst (λ k. (is_withdrawn (slice_get ms k) ≡ false → may_withdraw (slice_get os k) ≡ true) × (is_withdrawn (slice_get ms k) ≡ true → may_free (slice_get os k) ≡ true))
    (lead_is os ms e ∙ sym at)
    (subst (λ ms. (is_withdrawn (slice_get ms (owner_lead os)) ≡ false → may_withdraw (slice_get os (owner_lead os)) ≡ true)
    × (is_withdrawn (slice_get ms (owner_lead os)) ≡ true → may_free (slice_get os (owner_lead os)) ≡ true)) e
    (by os (omega (arith, lead_is os ms e, count_is os ms e))))
  where
    here : (w k : Option ℕ) → is_some k ≡ false → ((is_some w ≡ false → (is_none w && is_none k) ≡ true) × (is_some w ≡ true → (is_some w && is_none k) ≡ true))
    here None None h = (λ e. refl, λ e. cc)
    here None (Some k) h = cc
    here (Some w) None h = (λ e. cc, λ e. refl)
    here (Some w) (Some k) h = cc

    at_first : (o : OwnerOffer) (os : List OwnerOffer) (b : Bool) → is_some o.known ≡ b → (owner_lead os < length os → Opens os (owner_lead os))
        → cond b (suc (owner_lead os)) 0 < length (o ∷ os) → Opens (o ∷ os) (cond b (suc (owner_lead os)) 0)
    at_first o os true e further h = further (omega arith)
    at_first o os false e further h = here o.withdrawn o.known e

    by : (os : List OwnerOffer) → owner_lead os < length os → Opens os (owner_lead os)
    by [] h = absurd (omega arith)
    by (o ∷ os) h = at_first o os (is_some o.known) refl (by os) h

-- ---- what the list is told to be after a call

known_is : (os : List OwnerOffer) (n of : ℕ) (o : OwnerOffer) → slice_get os n ≡ Some o → known_stamp (slice_get (altered os n (known_at of)) n) ≡ of
known_is [] n of o h = cc
known_is (x ∷ os) zero of o h = refl
known_is (x ∷ os) (suc n) of o h = known_is os n of o h

replied_is : (os : List OwnerOffer) (n : ℕ) (w : Answer) (of : ℕ) → may_reply (slice_get os n) ≡ true → reply_stamp (slice_get (altered os n (replied_with w of)) n) ≡ of
replied_is [] n w of h = cc
replied_is (x ∷ os) zero w of h = refl
replied_is (x ∷ os) (suc n) w of h = replied_is os n w of h

there : (q : Option OwnerOffer) (may : Option OwnerOffer → Bool) → may None ≡ false → may q ≡ true → (o : OwnerOffer) × (q ≡ Some o)
there None may f h = let no : false ≡ true = sym f ∙ h in cc
there (Some o) may f h = (o, refl)

are_equal : (m n : ℕ) → m ≡ n → (m == n) ≡ true
are_equal m n h = grind (arith, nat_tests)

three : (a b c : Bool) → a ≡ true → b ≡ true → c ≡ true → (a && b && c) ≡ true
three true true true h k m = refl
three true true false h k m = m
three true false c h k m = cc
three false b c h k m = cc

module _ (terms : Terms) (os : List OwnerOffer) (l last : ℕ) where
  pub offer_tells : (payload : Payload) (number s : ℕ) → ends.has_room terms (Owns os) ≡ true → is_payload terms.requests payload ≡ true → number ≡ length os
      → stamp_after last 0 ≡ Some s
      → TellsOneAt terms (Owns os) l last (record { event = Offer l number payload; stamp = s }) (Owns (os ++ owner_offer payload s ∷ [])) s
  offer_tells payload number s room fits at next = record {
    link = refl;
    answers = 0;
    fits = three (number == length os) (ends.has_room terms (Owns os)) (is_payload terms.requests payload) (are_equal number (length os) at) room fits;
    next = stamp_is_next last 0 s next;
    noted = refl;
    end = refl;
    clock = refl;
  }

  pub withdraw_tells : (n s : ℕ) → may_withdraw (slice_get os n) ≡ true → stamp_after last 0 ≡ Some s
      → TellsOneAt terms (Owns os) l last (record { event = Withdraw l n; stamp = s }) (Owns (altered os n (withdrawn_at s))) s
  withdraw_tells n s may next = record {
    link = refl;
    answers = 0;
    fits = may;
    next = stamp_is_next last 0 s next;
    noted = refl;
    end = refl;
    clock = refl;
  }

  pub know_tells : (n s of : ℕ) → may_withdraw (slice_get os n) ≡ true → stamp_after last of ≡ Some s
      → TellsOneAt terms (Owns os) l last (record { event = Know l n; stamp = s }) (Owns (altered os n (known_at of))) s
  know_tells n s of may next = let o = there (slice_get os n) may_withdraw refl may in record {
    link = refl;
    answers = of;
    fits = may;
    next = stamp_is_next last of s next;
    noted = sym (known_is os n of o.0 o.1);
    end = refl;
    clock = refl;
  }

  pub room_tells : (n s of : ℕ) → may_free (slice_get os n) ≡ true → stamp_after last of ≡ Some s
      → TellsOneAt terms (Owns os) l last (record { event = Room l n; stamp = s }) (Owns (altered os n (known_at of))) s
  room_tells n s of may next = let o = there (slice_get os n) may_free refl may in record {
    link = refl;
    answers = of;
    fits = may;
    next = stamp_is_next last of s next;
    noted = sym (known_is os n of o.0 o.1);
    end = refl;
    clock = refl;
  }

  pub reply_tells : (n s of : ℕ) (answer : Answer) → may_reply (slice_get os n) ≡ true → stamp_after last of ≡ Some s
      → TellsOneAt terms (Owns os) l last (record { event = Reply l n answer; stamp = s }) (Owns (altered os n (replied_with answer of))) s
  reply_tells n s of answer may next = record {
    link = refl;
    answers = of;
    fits = may;
    next = stamp_is_next last of s next;
    noted = sym (replied_is os n answer of may);
    end = refl;
    clock = refl;
  }
