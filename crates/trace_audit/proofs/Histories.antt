-- A history, entry by entry: how it goes on, how it rises, and which parties have made it. What the step from one entry to the next tests is
-- taken apart once, and the rest goes by the list.
use Rattle.std.proofs.Common.{◌≡◌, ℕ, ◌<◌, List, [], ◌∷◌, ◌++◌, Bool, true, false, refl, sym, ◌∙◌, subst, append_assoc, length}
use Rattle.std.specs.Prelude.{◌&&◌, nat_lt}
use Rattle.std.specs.List.{AllByRecursion}
use Rattle.std.proofs.lemmas.Bool.{and_parts}
use Rattle.std.proofs.lemmas.Bool.Decides.{nat_tests}
use Rattle.std.proofs.lemmas.List.{length-set}
use Rattle.std.proofs.Common.{arith}
use Rattle.ac_base.specs.declared.entry.Stamped.{Stamped}
use Rattle.ac_commands.specs.declared.program.Resolved.{Resolved}
use Rattle.ac_links.specs.Link.{link_fits, link_of, link_after}
use Rattle.ac_history.specs.History.{in_range, is_later, has_stamp, may_make, has_its_width, fits, link_at, terms_of}
use Rattle.ac_history.specs.Quiet.{after_all_of}
use Rattle.ac_history.specs.Served.{HistoryState, serves_all, can_follow, state_after, IsHistory, after_all}
use Rattle.ac_history.specs.Files.{deeds_at}
use Rattle.ac_history.proofs.Parts.{IsRising}
use Rattle.trace_text.specs.declared.trace.Trace.{Trace}
use Rattle.trace_audit.specs.RunTrace.{journal_of, HasReplay, nothing_yet, AllFit}

pub after_append : (h : HistoryState) (xs ys : List Stamped) → after_all h (xs ++ ys) ≡ after_all (after_all h xs) ys
after_append h [] ys = refl
after_append h (x ∷ xs) ys = after_append (state_after h x) xs ys

pub past_after : (h : HistoryState) (es : List Stamped) → (after_all h es).past ≡ after_all_of h.past es
past_after h [] = refl
past_after h (e ∷ es) = past_after (state_after h e) es

pub as_many_links : (h : HistoryState) (es : List Stamped) → length (after_all h es).past.links ≡ length h.past.links
as_many_links h [] = refl
as_many_links h (e ∷ es) = as_many_links (state_after h e) es
    ∙ length-set h.past.links (link_of e.entry.event) (link_after (link_at h.past (link_of e.entry.event)) e.entry.stamp e.entry.event)

lt_of : (m n : ℕ) → nat_lt m n ≡ true → m < n
lt_of m n h = grind (arith, nat_tests)

first_two : (a b c d e f : Bool) → (a && b && c && d && e && f) ≡ true → (a ≡ true) × (b ≡ true)
first_two true true c d e f h = (refl, refl)
first_two true false c d e f h = cc
first_two false b c d e f h = cc

-- what an entry shows that can follow
pub record Shows (h : HistoryState) (e : Stamped) : Type 0 where
  pub later : is_later h.past.stamp h.past.party e ≡ true
  pub party : e.party < length h.past.lasts

pub shows : (h : HistoryState) (e : Stamped) → can_follow h e ≡ true → Shows h e
shows h e c =
    let fit = (and_parts (fits h.past e) (serves_all h.files (deeds_at h.past e)) c).0 in
    let p = first_two (in_range h.past e) (is_later h.past.stamp h.past.party e) (has_stamp h.past e) (may_make h.past.channels h.past.cores e)
    (has_its_width h.past.widths e.entry.event) (link_fits (terms_of h.past.capacities h.past.channels (link_of e.entry.event)) (link_at h.past (link_of e.entry.event)) e.entry.event) fit in
    record {
      later = p.1;
      party = lt_of e.party (length h.past.lasts)
          (and_parts (nat_lt (link_of e.entry.event) (length h.past.links)) (nat_lt e.party (length h.past.lasts)) p.0).1;
    }

pub rising : (h : HistoryState) (es : List Stamped) → IsHistory h es → IsRising h.past.stamp h.past.party es
rising h [] i = tt
rising h (e ∷ es) i = ((shows h e i.0).later, rising (state_after h e) es i.1)

pub parties_below : (n : ℕ) (h : HistoryState) (es : List Stamped) → length h.past.lasts ≡ n → IsHistory h es → AllByRecursion (λ s. s.party < n) es
parties_below n h [] is i = tt
parties_below n h (e ∷ es) is i = (
  subst (λ k. e.party < k) is (shows h e i.0).party,
  parties_below n (state_after h e) es (length-set h.past.lasts e.party e.entry.stamp ∙ is) i.1,
)

-- ---- entries that fit

pub fit_history : (program : Resolved) (t : Trace) (before es : List Stamped) → AllFit program t before es → IsHistory (after_all (nothing_yet program t) before) es
fit_history program t before [] a = tt
fit_history program t before (s ∷ ss) a = (
  a.0.follows,
  subst (λ h. IsHistory h ss) (after_append (nothing_yet program t) before (s ∷ [])) (fit_history program t (before ++ s ∷ []) ss a.1),
)

-- where each front of this history gives its cores a replay
pub history_fits : (program : Resolved) (t : Trace) (whole : List Stamped)
    → ((p : ℕ) (front rest : List Stamped) → whole ≡ front ++ rest → p < length program.cores → HasReplay program p t.steps (journal_of p front))
    → (before es : List Stamped) → whole ≡ before ++ es → IsHistory (after_all (nothing_yet program t) before) es → AllFit program t before es
history_fits program t whole has before [] is i = tt
history_fits program t whole has before (s ∷ ss) is i =
    let apart : whole ≡ (before ++ s ∷ []) ++ ss = is ∙ sym (append_assoc before (s ∷ []) ss) in (
      record { follows = i.0; replay = has s.party (before ++ s ∷ []) ss apart },
      history_fits program t whole has (before ++ s ∷ []) ss apart (subst (λ h. IsHistory h ss) (sym (after_append (nothing_yet program t) before (s ∷ []))) i.1),
    )
