-- What is done in a legal history was offered in it, so it names what the offers of its cores name. Each link keeps that its offers name files
-- below the number: an offer brings a name, what is done takes that of an offer, and no other entry has one.
use Rattle.std.proofs.Common.{◌≡◌, ℕ, ◌<◌, List, [], ◌∷◌, length, Option, Some, None, Bool, true, false, refl, sym, ap, ◌∙◌, subst, inl, inr, arith}
use Rattle.std.specs.Prelude.{All, ◌&&◌, ◌==◌, nat_lt, slice_get, slice_index_or}
use Rattle.std.specs.List.{AllByRecursion}
use Rattle.std.proofs.lemmas.Bool.{and_parts}
use Rattle.std.proofs.lemmas.Bool.Decides.{leb_tells, nat_tests}
use Rattle.std.proofs.lemmas.List.{get_or_past}
use Rattle.std.proofs.lemmas.List.Elements.{All-nil, All-push, All-set, All-replicate, All-get_or}
use Rattle.std.proofs.lemmas.Option.{slice_get_within, get_or_from_slice_get}
use Rattle.ac_base.specs.declared.entry.Answer.{Answer}
use Rattle.ac_base.specs.declared.entry.Event.{Event}
use Rattle.ac_base.specs.declared.entry.Event.TheVariants.{Offer, Withdraw, Know, Room, Got, Pass, Did, Reply}
use Rattle.ac_base.specs.declared.entry.Payload.{Payload}
use Rattle.ac_base.specs.declared.entry.Payload.TheVariants.{Int, Read, Write}
use Rattle.ac_base.specs.declared.entry.Stamped.{Stamped}
use Rattle.ac_links.specs.declared.offer.LinkOffer.{LinkOffer}
use Rattle.ac_links.specs.Link.{asked, can_take, changed, front_of, is_offered, link_after, link_fits, link_of, new_offer, offered_payload, takes}
use Rattle.ac_links.specs.Payloads.{answer_fits}
use Rattle.ac_links.specs.Payloads.Taking.{Done}
use Rattle.ac_history.specs.Files.{Deed, deed_of, deeds, deeds_at}
use Rattle.ac_history.specs.History.{Past, after, fits, has_stamp, in_range, is_later, link_at, makes, may_make, has_its_width, start, terms_of, IsLegal}
use Rattle.ac_history.proofs.Parts.{each_append}
use Rattle.program_run.specs.Naming.{IsNamed, AreNamed}
use Rattle.program_run.proofs.Naming.{carries_below, offers_below}

module _ (n : ℕ) where
  abbrev IsIn : LinkOffer → Type 0
  IsIn o = carries_below n o.payload ≡ true

  abbrev AreIn : List LinkOffer → Type 0
  AreIn os = All IsIn os

  -- ---- the offers of a link

  in_one : (os : List LinkOffer) → AreIn os → (k : ℕ) (o : LinkOffer) → slice_get os k ≡ Some o → IsIn o
  in_one os all k o here = subst IsIn (get_or_from_slice_get os k o o here) (all k o (slice_get_within os k o here))

  changed_in : (os : List LinkOffer) (k : ℕ) (f : LinkOffer → LinkOffer) → ((o : LinkOffer) → (f o).payload ≡ o.payload) → AreIn os → AreIn (changed os k f (slice_get os k))
  changed_in os k f same all = go (slice_get os k) refl where
    go : (r : Option LinkOffer) → slice_get os k ≡ r → AreIn (changed os k f r)
    go None e = all
    go (Some o) e = All-set IsIn os k (f o) (subst (λ (p : Payload). carries_below n p ≡ true) (sym (same o)) (in_one os all k o e)) all

  after_in : (os : List LinkOffer) (stamp : ℕ) (v : Event) → offers_below n v ≡ true → AreIn os → AreIn (link_after os stamp v)
  after_in os stamp (Offer l k payload) below all = All-push IsIn os (new_offer payload stamp) all below
  after_in os stamp (Withdraw l k) below all = changed_in os k _ (λ o. refl) all
  after_in os stamp (Know l k) below all = changed_in os k _ (λ o. refl) all
  after_in os stamp (Room l k) below all = changed_in os k _ (λ o. refl) all
  after_in os stamp (Got l k value) below all = changed_in os k _ (λ o. refl) all
  after_in os stamp (Pass l k) below all = changed_in os k _ (λ o. refl) all
  after_in os stamp (Did l k answer) below all = changed_in os k _ (λ o. refl) all
  after_in os stamp (Reply l k answer) below all = changed_in os k _ (λ o. refl) all

  at_link : (links : List (List LinkOffer)) (l : ℕ) → All AreIn links → AreIn (slice_index_or links l [])
  at_link links l all = elim (leb_tells (length links) l) [
    | inl q ↦ subst AreIn (sym (get_or_past links l [] q.1)) (All-nil IsIn)
    | inr q ↦ All-get_or AreIn links l [] q.1 all
  ]

  -- ---- what is done

  is_named : (p : Payload) (answer : Answer) → answer_fits answer p ≡ true → carries_below n p ≡ true → IsNamed n p
  is_named (Int v) answer f c = absurd (let no : false ≡ true = f in cc (no))
  is_named (Read file from len) answer f c = grind (arith, nat_tests)
  is_named (Write file from bytes) answer f c = grind (arith, nat_tests)

  abbrev NamesOne : Deed → Type 0
  NamesOne d = IsNamed n d.payload

  done_one : (os : List LinkOffer) (l k : ℕ) (answer : Answer) → AreIn os → can_take os k (Done answer) ≡ true → AllByRecursion NamesOne (deed_of (offered_payload (slice_get os k)) (Did l k answer))
  done_one os l k answer all can = go (slice_get os k) refl (and_parts (k == front_of os) (takes (Done answer) (slice_get os k)) can).1 where
    go : (r : Option LinkOffer) → slice_get os k ≡ r → takes (Done answer) r ≡ true → AllByRecursion NamesOne (deed_of (offered_payload r) (Did l k answer))
    go None e t = tt
    go (Some o) e t = (is_named o.payload answer (and_parts (is_offered o.standing) (answer_fits answer o.payload) t).1 (in_one os all k o e), tt)

  done_by : (os : List LinkOffer) (v : Event) (past : Past) → AreIn os → link_fits (terms_of past.capacities past.channels (link_of v)) os v ≡ true
      → AllByRecursion NamesOne (deed_of (asked os v) v)
  done_by os (Did l k answer) past all f = done_one os l k answer all f
  done_by os (Offer l k payload) past all f = tt
  done_by os (Withdraw l k) past all f = tt
  done_by os (Know l k) past all f = tt
  done_by os (Room l k) past all f = tt
  done_by os (Got l k value) past all f = tt
  done_by os (Pass l k) past all f = tt
  done_by os (Reply l k answer) past all f = tt

  -- ---- a history

  -- only a core makes an offer
  offered_by : (core worker requests : Bool) (v : Event) → makes core worker requests v ≡ true → (core ≡ true → offers_below n v ≡ true) → offers_below n v ≡ true
  offered_by core worker requests (Offer l k payload) m below = below m
  offered_by core worker requests v m below = refl

  module _ (cores : ℕ) where
    abbrev Below : Stamped → Type 0
    Below e = e.party < cores → offers_below n e.entry.event ≡ true

    fits_parts : (past : Past) (e : Stamped) → fits past e ≡ true → (may_make past.channels past.cores e ≡ true)
        × (link_fits (terms_of past.capacities past.channels (link_of e.entry.event)) (link_at past (link_of e.entry.event)) e.entry.event ≡ true)
    fits_parts past e f =
        let a = and_parts (in_range past e && is_later past.stamp past.party e && has_stamp past e && may_make past.channels past.cores e && has_its_width past.widths e.entry.event) _ f in
        let b = and_parts (in_range past e && is_later past.stamp past.party e && has_stamp past e && may_make past.channels past.cores e) _ a.0 in
        ((and_parts (in_range past e && is_later past.stamp past.party e && has_stamp past e) _ b.0).1, a.1)

    core_is : (party : ℕ) → nat_lt party cores ≡ true → party < cores
    core_is party h = grind (arith, nat_tests)

    all_named : (past : Past) (es : List Stamped) → past.cores ≡ cores → All AreIn past.links → IsLegal past es → AllByRecursion Below es → AllByRecursion NamesOne (deeds past es)
    all_named past [] many all legal below = tt
    all_named past (e ∷ es) many all legal below =
        let two = fits_parts past e legal.0 in
        let l = link_of e.entry.event in
        let here = at_link past.links l all in
        let made = (and_parts (makes (nat_lt e.party past.cores) (e.party == past.cores) _ e.entry.event) _ two.0).0 in
        let one = offered_by _ _ _ e.entry.event made (λ is. below.0 (core_is e.party (ap (nat_lt e.party) (sym many) ∙ is))) in
        each_append NamesOne (deeds_at past e) (deeds (after past e) es) (done_by (link_at past l) e.entry.event past here two.1)
        (all_named (after past e) es many (All-set AreIn past.links l (link_after (link_at past l) e.entry.stamp e.entry.event) (after_in
        (link_at past l) e.entry.stamp e.entry.event one here) all) legal.1 below.1)

pub deeds_are_named : (n cores : ℕ) (capacities widths : List ℕ) (history : List Stamped) → IsLegal (start capacities widths cores) history
    → AllByRecursion (λ e. e.party < cores → offers_below n e.entry.event ≡ true) history → AreNamed n (deeds (start capacities widths cores) history)
deeds_are_named n cores capacities widths history legal below =
    all_named n cores (start capacities widths cores) history refl (All-replicate (AreIn n) (length capacities) [] (All-nil (IsIn n))) legal below
