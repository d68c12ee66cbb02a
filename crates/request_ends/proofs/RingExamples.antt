-- The two ends of a ring of replies: as they are made, as a look finds a free place or none, and as a reply is put there.
use Rattle.std.proofs.Common.{◌≡◌, ℕ, List, [], ◌∷◌, true, false, refl, ap, arith, map}
use Rattle.ac_base.specs.declared.entry.Answer.TheVariants.{Bytes}
use Rattle.ac_links.specs.Views.{Response}
use Rattle.rtrb.specs.Ring.{sent, received, known_items, known_free, producer_capacity}
use Rattle.channel_ends.specs.Rings.{RingName}
use Rattle.request_ends.specs.declared.replying.Reply.{Reply}
use Rattle.request_ends.specs.declared.replying.ReplyEnd.TheInside as put
use Rattle.request_ends.specs.declared.replying.ReplySide.TheInside as taken
use Rattle.request_ends.specs.Replying.{response_of, Replying, ReplyRing, IsNewReplies, HasLooked, FindsPlace, Puts}
use Rattle.request_ends.specs.Rings.{ring_of, replying_of, HasPlaces, side_of}
use Rattle.request_ends.proofs.RowExamples.{a_ring, seven, eight}

abbrev worker : List Response → ℕ → Replying
worker replies free = record { ring = a_ring 2; replies = replies; free = free }

abbrev core : List Reply → ReplyRing
core items = record { ring = a_ring 2; taken = []; items = items }

abbrev a_reply : ℕ → ℕ → Reply
a_reply byte of = record { answer = Bytes (byte ∷ []); of = of }

pub as_a_response : response_of (a_reply 7 2) ≡ seven
as_a_response = refl

-- ---- new ends

pub they_are_new : IsNewReplies (worker [] 16) (core [])
they_are_new = record { name = refl; replies = refl; free = refl; taken = refl; items = refl }

pub not_with_a_reply : IsNewReplies (worker (seven ∷ []) 15) (core (a_reply 7 2 ∷ [])) → ⊥
not_with_a_reply h = let e = h.replies in cc

abbrev ring_number : RingName → ℕ
ring_number r = r.names.0

pub not_of_two_rings : IsNewReplies (worker [] 16) (record (core []) { ring = a_ring 3 }) → ⊥
not_of_two_rings h = let e = ap ring_number h.name in omega (arith, e)

-- ---- a free place

pub a_place_is_shown : HasLooked (worker (seven ∷ []) 0) (worker (seven ∷ []) 1) × FindsPlace (worker (seven ∷ []) 0) true (worker (seven ∷ []) 1)
a_place_is_shown = (record { ring = refl; replies = refl; free = omega arith }, omega arith)

pub none_is_free : FindsPlace (worker (seven ∷ []) 0) false (worker (seven ∷ []) 0)
none_is_free = (refl, refl)

pub one_is : FindsPlace (worker (seven ∷ []) 0) false (worker (seven ∷ []) 1) → ⊥
one_is h = let e = h.1 in omega (arith, e)

pub not_without_one : FindsPlace (worker (seven ∷ []) 0) true (worker (seven ∷ []) 0) → ⊥
not_without_one h = let e = h in omega (arith, e)

pub a_look_forgets_none : HasLooked (worker (seven ∷ []) 2) (worker (seven ∷ []) 1) → ⊥
a_look_forgets_none h = let l = h.free in omega (arith, l)

-- ---- a reply

pub eight_is_put : Puts (worker (seven ∷ []) 15) eight (worker (seven ∷ eight ∷ []) 14)
eight_is_put = record { ring = refl; replies = refl; free = refl }

abbrev first : List Response → Response
first [] = eight
first (r ∷ rs) = r

pub not_before_seven : Puts (worker (seven ∷ []) 15) eight (worker (eight ∷ seven ∷ []) 14) → ⊥
not_before_seven h = let e = ap first h.replies in let f = ap (λ (r : Response). r.of) e in omega (arith, f)

pub not_without_its_place : Puts (worker (seven ∷ []) 15) eight (worker (seven ∷ eight ∷ []) 15) → ⊥
not_without_its_place h = let e = h.free in omega (arith, e)

-- ---- the ends, from their fields

pub both_are_seen_there : (it : put.Inside) → sent it.ring ≡ a_reply 7 2 ∷ a_reply 8 6 ∷ [] → known_free it.ring ≡ 14 → ring_of it.ring.end ≡ a_ring 2
    → replying_of it ≡ worker (seven ∷ eight ∷ []) 14
both_are_seen_there it all free name = search (ap (map response_of) all, free, name)

pub eight_places_are_too_few : (it : put.Inside) → producer_capacity it.ring ≡ 8 → HasPlaces it → ⊥
eight_places_are_too_few it e h = omega (arith, e, h)

pub sixteen_are_not : (it : put.Inside) → producer_capacity it.ring ≡ 16 → HasPlaces it
sixteen_are_not it e = e

pub one_was_taken : (it : taken.Inside) → received it.ring ≡ a_reply 7 2 ∷ [] → known_items it.ring ≡ a_reply 8 6 ∷ []
    → ((side_of it).taken ≡ a_reply 7 2 ∷ []) × ((side_of it).items ≡ a_reply 8 6 ∷ [])
one_was_taken it had items = (had, items)
