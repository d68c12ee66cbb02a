-- What a look for a reply is answered in the row, from those that were gathered and from the ring, and what gathering makes of them.
use Rattle.std.proofs.Common.{◌≡◌, ℕ, List, [], ◌∷◌, None, refl, ap, sym, subst, arith, inl, inr, ⊎_elim}
use Rattle.ac_base.specs.Stamps.{stamp_after}
use Rattle.ac_base.specs.declared.entry.Answer.TheVariants.{Bytes}
use Rattle.ac_links.specs.Views.{Response}
use Rattle.request_ends.specs.declared.asking.Replied.TheVariants.{Reply, Nothing, ClockFull}
use Rattle.request_ends.specs.Asking.{Asking}
use Rattle.request_ends.specs.Answered.{OnlyLooks, HasReply, Replies, replied_clock, Gathers, HasAllReplies}
use Rattle.request_ends.specs.Replying.{Replying}
use Rattle.request_ends.proofs.RowExamples.{a_ring, seven, eight, an_end, both_sent, both_known, both_on_ring, both_gathered, first_had, both_had}

abbrev last : ℕ
last = 1152921504606846975

-- ---- the first reply is that of the first request

pub first_comes : Replies both_gathered 8 (Reply 0 (Bytes (7 ∷ [])) 9) first_had
first_comes = (2, refl, refl, record { rest = refl; replies = refl; waiting = inl (refl, ([], refl)); list = refl })

pub not_as_that_of_the_third : Replies both_gathered 8 (Reply 2 (Bytes (7 ∷ [])) 9) first_had → ⊥
not_as_that_of_the_third h = let e = h.2 in omega (arith, e)

abbrev answer_had : List Response → Response
answer_had [] = eight
answer_had (r ∷ rs) = r

pub not_the_second_before_it : HasReply both_gathered eight (an_end both_sent (eight ∷ []) (seven ∷ []) [] 66) → ⊥
not_the_second_before_it h = ⊎_elim (λ w. of_another (ap answer_had w.0)) (λ w. let e = w.0 in cc) h.waiting
  where
    of_another : seven ≡ eight → ⊥
    of_another e = let f = ap (λ (r : Response). r.of) e in omega (arith, f)

-- ---- and the next that of the third, since the second is withdrawn

pub next_is_that_of_the_third : Replies first_had 9 (Reply 2 (Bytes (8 ∷ [])) 10) both_had
next_is_that_of_the_third = (6, refl, refl, record { rest = refl; replies = refl; waiting = inl (refl, ([], refl)); list = refl })

pub not_that_of_the_withdrawn_one : Replies first_had 9 (Reply 1 (Bytes (8 ∷ [])) 10) both_had → ⊥
not_that_of_the_withdrawn_one h = let e = h.2 in omega (arith, e)

-- ---- where none is gathered it comes from the ring, also one that a look has shown

pub first_comes_from_the_ring : Replies both_on_ring 8 (Reply 0 (Bytes (7 ∷ [])) 9) (an_end both_sent (seven ∷ []) [] (eight ∷ []) 63)
first_comes_from_the_ring = (2, refl, refl, record { rest = refl; replies = refl; waiting = inr (refl, refl, ([], refl)); list = refl })

pub first_is_shown : Replies both_known 8 (Reply 0 (Bytes (7 ∷ [])) 9) (an_end both_sent (seven ∷ []) [] (eight ∷ []) 63)
first_is_shown = (2, refl, refl, record { rest = refl; replies = refl; waiting = inr (refl, refl, (seven ∷ eight ∷ [], refl)); list = refl })

-- ---- the answers that make no entry

pub nothing_has_come : Replies both_known 8 Nothing both_on_ring
nothing_has_come = (refl, refl, record { rest = refl; items = (seven ∷ eight ∷ [], refl) })

pub one_has : Replies both_gathered 8 Nothing both_gathered → ⊥
one_has h = let e = h.0 in cc

pub no_stamp_to_have_it : Replies both_gathered last ClockFull both_gathered
no_stamp_to_have_it = (seven, refl, refl, record { rest = refl; items = ([], refl) })

pub a_stamp_is_left : Replies both_gathered 8 ClockFull both_gathered → ⊥
a_stamp_is_left h = let of : seven ≡ h.0 = cc in never h.0 of h.2
  where
    never : (r : Response) → seven ≡ r → stamp_after 8 r.of ≡ None → ⊥
    never r e n = let at : stamp_after 8 2 ≡ None = subst (λ (r : Response). stamp_after 8 r.of ≡ None) (sym e) n in cc

pub a_look_loses_none : OnlyLooks both_on_ring both_known → ⊥
a_look_loses_none h = let e = h.items.1 in cc

pub clocks_after_a_look : replied_clock 8 (Reply 0 (Bytes (7 ∷ [])) 9) ∷ replied_clock 8 Nothing ∷ replied_clock last ClockFull ∷ [] ≡ 9 ∷ 8 ∷ last ∷ []
clocks_after_a_look = refl

-- ---- gathering

pub both_are_gathered : Gathers both_on_ring both_gathered
both_are_gathered = record { rest = refl; all = refl; places = omega arith }

pub none_is_dropped : Gathers both_on_ring (an_end both_sent [] (seven ∷ []) [] 64) → ⊥
none_is_dropped h = let e = h.all in cc

pub no_place_is_lost : Gathers both_on_ring (record both_gathered { places = 60 }) → ⊥
no_place_is_lost h = let l = h.places in omega (arith, l)

pub nor_had : Gathers both_on_ring (an_end both_sent (seven ∷ []) [] (eight ∷ []) 64) → ⊥
nor_had h = let e = ap (λ (a : Asking). a.replies) h.rest in cc

abbrev worker : List Response → ℕ → Replying
worker replies free = record { ring = a_ring 2; replies = replies; free = free }

pub all_have_come : HasAllReplies first_had (worker (seven ∷ eight ∷ []) 16)
all_have_come = record { items = refl; all = refl; free = refl }

pub one_has_not : HasAllReplies (record first_had { gathered = [] }) (worker (seven ∷ eight ∷ []) 16) → ⊥
one_has_not h = let e = h.all in cc

pub a_place_is_not_known : HasAllReplies first_had (worker (seven ∷ eight ∷ []) 15) → ⊥
a_place_is_not_known h = let e = h.free in omega (arith, e)
