-- The offers of one link, which entries fit after them, and what an entry makes of them.
use Rattle.std.specs.Prelude.{ℕ, suc, ◌-◌, List, [], ◌∷◌, length, Option, Bool, true, ◌==◌, slice_set, ◌++◌, slice_get, Some, None, false}
use Rattle.std.specs.Prelude.{not, ◌&&◌, nat_lt, if◌then◌else◌}
use Rattle.ac_base.specs.declared.entry.Payload.{Payload}
use Rattle.ac_base.specs.declared.entry.Answer.{Answer}
use Rattle.ac_base.specs.declared.entry.Event.{Event}
use Rattle.ac_base.specs.declared.entry.Event.TheVariants.{Offer, Withdraw, Know, Room, Got, Pass, Did, Reply}
use Rattle.ac_links.specs.declared.offer.Standing.{Standing}
use Rattle.ac_links.specs.declared.offer.LinkOffer.{LinkOffer}
use Rattle.ac_links.specs.declared.offer.Standing.TheVariants.{Offered, Taken, Withdrawn, Passed}
use Rattle.ac_links.specs.declared.payloads.Terms.{Terms}
use Rattle.ac_links.specs.Payloads.{is_payload, Taking, carries, answer_of, has_answer}
use Rattle.ac_links.specs.Payloads.Taking.{Message, Done}

abbrev pub is_offered : Standing → Bool
is_offered Offered = true
is_offered Taken = false
is_offered Withdrawn = false
is_offered Passed = false

abbrev pub is_taken : Standing → Bool
is_taken Offered = false
is_taken Taken = true
is_taken Withdrawn = false
is_taken Passed = false

abbrev pub is_withdrawn : Standing → Bool
is_withdrawn Offered = false
is_withdrawn Taken = false
is_withdrawn Withdrawn = true
is_withdrawn Passed = false

abbrev pub is_passed : Standing → Bool
is_passed Offered = false
is_passed Taken = false
is_passed Withdrawn = false
is_passed Passed = true

abbrev pub is_decided : Standing → Bool
is_decided Offered = false
is_decided Taken = true
is_decided Withdrawn = false
is_decided Passed = true

-- the number of the least offer that is not decided
abbrev pub front_of : List LinkOffer → ℕ
front_of [] = 0
front_of (o ∷ os) = if is_decided o.standing then suc (front_of os) else 0

-- how many offers before the first unknown one
abbrev pub known_lead : List LinkOffer → ℕ
known_lead [] = 0
known_lead (o ∷ os) = if o.known then suc (known_lead os) else 0

-- the next number, room by the offers that are not known, and what the link carries
abbrev pub can_offer : Terms → List LinkOffer → ℕ → Payload → Bool
can_offer terms os number payload =
    (number == length os) && nat_lt (length os - known_lead os) terms.capacity && is_payload terms.requests payload

-- ---- what each event needs of the offer that it is about

abbrev pub takes : Taking → Option LinkOffer → Bool
takes taking None = false
takes taking (Some o) = is_offered o.standing && carries taking o.payload

abbrev pub can_take : List LinkOffer → ℕ → Taking → Bool
can_take os number taking = (number == front_of os) && takes taking (slice_get os number)

abbrev pub knows : Option LinkOffer → Bool
knows None = false
knows (Some o) = is_taken o.standing && not o.known

abbrev pub can_know : List LinkOffer → ℕ → Bool
can_know os number = knows (slice_get os number)

abbrev pub withdraws : Option LinkOffer → Bool
withdraws None = false
withdraws (Some o) = is_offered o.standing

abbrev pub can_withdraw : List LinkOffer → ℕ → Bool
can_withdraw os number = withdraws (slice_get os number)

abbrev pub passes : Option LinkOffer → Bool
passes None = false
passes (Some o) = is_withdrawn o.standing

abbrev pub can_pass : List LinkOffer → ℕ → Bool
can_pass os number = (number == front_of os) && passes (slice_get os number)

abbrev pub frees : Option LinkOffer → Bool
frees None = false
frees (Some o) = is_passed o.standing && not o.known

abbrev pub can_free : List LinkOffer → ℕ → Bool
can_free os number = frees (slice_get os number)

abbrev pub replies : Answer → Option LinkOffer → Bool
replies answer None = false
replies answer (Some o) = has_answer answer o.answer && not o.replied

abbrev pub can_reply : List LinkOffer → ℕ → Answer → Bool
can_reply os number answer = replies answer (slice_get os number)

-- whether a link of these terms allows the entry after these offers
abbrev pub link_fits : Terms → List LinkOffer → Event → Bool
link_fits terms os (Offer l n payload) = can_offer terms os n payload
link_fits terms os (Withdraw l n) = can_withdraw os n
link_fits terms os (Know l n) = can_know os n
link_fits terms os (Room l n) = can_free os n
link_fits terms os (Got l n value) = can_take os n (Message value)
link_fits terms os (Pass l n) = can_pass os n
link_fits terms os (Did l n answer) = can_take os n (Done answer)
link_fits terms os (Reply l n answer) = can_reply os n answer

-- the stamp of the entry that gave the offer its standing
abbrev pub standing_stamp : Option LinkOffer → ℕ
standing_stamp None = 0
standing_stamp (Some o) = o.stamp

-- the stamp of the entry that this one answers; 0 where it answers none
abbrev pub answered : List LinkOffer → Event → ℕ
answered os (Offer l n payload) = 0
answered os (Withdraw l n) = 0
answered os (Know l n) = standing_stamp (slice_get os n)
answered os (Room l n) = standing_stamp (slice_get os n)
answered os (Got l n value) = standing_stamp (slice_get os n)
answered os (Pass l n) = standing_stamp (slice_get os n)
answered os (Did l n answer) = standing_stamp (slice_get os n)
answered os (Reply l n answer) = standing_stamp (slice_get os n)

abbrev pub offered_payload : Option LinkOffer → Option Payload
offered_payload None = None
offered_payload (Some o) = Some o.payload

-- the request that this entry answers; none where it answers none
abbrev pub asked : List LinkOffer → Event → Option Payload
asked os (Offer l n payload) = None
asked os (Withdraw l n) = None
asked os (Know l n) = None
asked os (Room l n) = None
asked os (Got l n value) = None
asked os (Pass l n) = None
asked os (Did l n answer) = offered_payload (slice_get os n)
asked os (Reply l n answer) = None

-- the offers with that at n, if there is one, changed
abbrev pub changed : List LinkOffer → ℕ → (LinkOffer → LinkOffer) → Option LinkOffer → List LinkOffer
changed os n f None = os
changed os n f (Some o) = slice_set os n (f o)

-- decided or withdrawn by an entry of this stamp
abbrev pub stands : Standing → ℕ → LinkOffer → LinkOffer
stands standing stamp o = record o { standing = standing; stamp = stamp }

-- taken by an entry of this stamp; a request has this answer then
abbrev pub taken_with : Option Answer → ℕ → LinkOffer → LinkOffer
taken_with answer stamp o = record o { standing = Taken; stamp = stamp; answer = answer }

abbrev pub now_taken : Taking → ℕ → LinkOffer → LinkOffer
now_taken taking = taken_with (answer_of taking)

abbrev pub now_known : LinkOffer → LinkOffer
now_known o = record o { known = true }

abbrev pub now_replied : LinkOffer → LinkOffer
now_replied o = record o { replied = true }

-- an offer that this entry makes
abbrev pub new_offer : Payload → ℕ → LinkOffer
new_offer payload stamp = record {
  payload = payload;
  standing = Offered;
  stamp = stamp;
  known = false;
  answer = None;
  replied = false;
}

-- the offers after an entry of this stamp
abbrev pub link_after : List LinkOffer → ℕ → Event → List LinkOffer
link_after os stamp (Offer l n payload) = os ++ new_offer payload stamp ∷ []
link_after os stamp (Withdraw l n) = changed os n (stands Withdrawn stamp) (slice_get os n)
link_after os stamp (Know l n) = changed os n now_known (slice_get os n)
link_after os stamp (Room l n) = changed os n now_known (slice_get os n)
link_after os stamp (Got l n value) = changed os n (now_taken (Message value) stamp) (slice_get os n)
link_after os stamp (Pass l n) = changed os n (stands Passed stamp) (slice_get os n)
link_after os stamp (Did l n answer) = changed os n (now_taken (Done answer) stamp) (slice_get os n)
link_after os stamp (Reply l n answer) = changed os n now_replied (slice_get os n)

-- the number of the offer that the event is about, and its link
abbrev pub number_of : Event → ℕ
number_of (Offer l n payload) = n
number_of (Withdraw l n) = n
number_of (Know l n) = n
number_of (Room l n) = n
number_of (Got l n value) = n
number_of (Pass l n) = n
number_of (Did l n answer) = n
number_of (Reply l n answer) = n

abbrev pub link_of : Event → ℕ
link_of (Offer l n payload) = l
link_of (Withdraw l n) = l
link_of (Know l n) = l
link_of (Room l n) = l
link_of (Got l n value) = l
link_of (Pass l n) = l
link_of (Did l n answer) = l
link_of (Reply l n answer) = l
