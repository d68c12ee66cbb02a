-- One party with an end of each of its links, and when its journal agrees with all of them.
use Rattle.std.specs.Prelude.{◌≡◌, ℕ, List, [], ◌∷◌, Bool, true, ◌==◌, ◌++◌, false, if◌then◌else◌}
use Rattle.std.specs.List.{filter}
use Rattle.ac_base.specs.declared.entry.Event.{Event}
use Rattle.ac_base.specs.declared.entry.Entry.{Entry}
use Rattle.ac_base.specs.declared.entry.Stamped.{Stamped}
use Rattle.ac_base.specs.Stamps.{next_stamp}
use Rattle.ac_links.specs.declared.payloads.Terms.{Terms}
use Rattle.ac_links.specs.Link.{link_of}
use Rattle.ac_links.specs.Order.{of_party, is_of_link}
use Rattle.ac_links.specs.Journals.{HasStamps, last_of}
use Rattle.ac_links.specs.Views.{OwnerOffer, PeerDecision, owner_fits, owner_after, peer_fits, decision_of, OwnerRuns, PeerRuns}
use Rattle.ac_links.specs.Noted.{owner_noted, peer_noted}

-- an end of a link, as one party holds it
pub data LinkEnd : Type 0 where
  Owns : (offers : List OwnerOffer) → LinkEnd
  Decides : (decisions : List PeerDecision) → LinkEnd
  Absent : LinkEnd

-- what the party may enter at this end
abbrev pub end_fits : Terms → LinkEnd → Event → Bool
end_fits terms (Owns os) e = owner_fits terms os e
end_fits terms (Decides ds) e = peer_fits terms ds e
end_fits terms Absent e = false

-- the end after an entry of this stamp, which answers one of stamp `of`
abbrev pub end_after : LinkEnd → ℕ → ℕ → Event → LinkEnd
end_after (Owns os) s of e = Owns (owner_after os s of e)
end_after (Decides ds) s of e = Decides (ds ++ decision_of s of e ∷ [])
end_after Absent s of e = Absent

-- the stamp that the end noted of what an event answers
abbrev pub end_noted : LinkEnd → Event → ℕ
end_noted (Owns os) e = owner_noted os e
end_noted (Decides ds) e = peer_noted ds e
end_noted Absent e = 0

-- the entries of the end's link in its party's journal lead to the end
abbrev pub EndRuns : Terms → LinkEnd → List Stamped → Type 0
EndRuns terms (Owns os) es = OwnerRuns terms (owner_noted os) [] es os
EndRuns terms (Decides ds) es = PeerRuns terms (peer_noted ds) [] es ds
EndRuns terms Absent es = es ≡ []

abbrev pub party_noted : (ℕ → LinkEnd) → Event → ℕ
party_noted ends e = end_noted (ends (link_of e)) e

abbrev pub with_end : (ℕ → LinkEnd) → ℕ → LinkEnd → ℕ → LinkEnd
with_end ends l x k = if l == k then x else ends k

-- the journal of one party agrees with all of its ends
pub record PartyAgrees (terms : ℕ → Terms) (p : ℕ) (ends : ℕ → LinkEnd) (j : List Entry) : Type 0 where
  pub runs : (l : ℕ) → EndRuns (terms l) (ends l) (filter (is_of_link l) (of_party p j))
  pub stamps : HasStamps (party_noted ends) 0 j

-- the party may enter this at its end of the entry's link, where it answers one of stamp `of`: its stamp is the next, and its end notes it
pub record MayEnter (terms : ℕ → Terms) (ends : ℕ → LinkEnd) (j : List Entry) (e : Entry) (of : ℕ) : Type 0 where
  pub fits : end_fits (terms (link_of e.event)) (ends (link_of e.event)) e.event ≡ true
  pub next : e.stamp ≡ next_stamp (last_of 0 j) of
  pub noted : of ≡ end_noted (end_after (ends (link_of e.event)) e.stamp of e.event) e.event
