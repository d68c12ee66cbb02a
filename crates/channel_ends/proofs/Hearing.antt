-- What an owner hears as it learns: of the leading offers nothing new, and of the next one what its mark or its word says.
use Rattle.std.proofs.Common.{◌≡◌, ℕ, ◌+◌, ◌<◌, ◌≤◌, [], ◌∷◌, ◌++◌, Option, Some, None, Bool, true, false, refl, sym, ap, ◌∙◌, subst, arith, length, is_some, ⊎_elim, length-append}
use Rattle.std.proofs.lemmas.Bool.{cases_lt}
use mathlib.Core.Logic.{dite}
use native.Mathlib.Decide.{ℕ_discrete}
use Rattle.completion_word.specs.declared.views.Owner.{Owner}
use Rattle.completion_word.specs.declared.views.DecisionKind.{DecisionKind}
use Rattle.completion_word.specs.declared.views.DecisionKind.TheVariants as outcome
use Rattle.completion_word.specs.declared.answers.Learnt.{Learnt}
use Rattle.completion_word.specs.declared.answers.Learnt.TheVariants as learnt
use Rattle.completion_word.specs.declared.standing.Standing.{Standing}
use Rattle.completion_word.specs.declared.standing.Standing.TheVariants as word
use Rattle.completion_word.specs.Link.{offer_at, decided_by, decision_at}
use Rattle.completion_word.specs.Steps.{after_learn, learnt_of, Shows, SeesFirst, IsLearntAsFound, IsLearntAsTold}
use Rattle.channel_ends.specs.declared.marks.Heard.{Heard}
use Rattle.channel_ends.specs.declared.marks.Heard.TheVariants.{Decided, Nothing}
use Rattle.channel_ends.specs.declared.marks.Mark.{Mark}
use Rattle.channel_ends.specs.declared.marks.Mark.TheVariants.{Open, Known, Seen}
use Rattle.channel_ends.specs.inner.Noted.{heard_at, is_known, MarkFits}
use Rattle.channel_ends.specs.inner.Catching.{IsSame, GoesOn, CatchesUp, HearsOne}
use Rattle.channel_ends.proofs.Heard.{heard_learned, heard_found, heard_more, heard_last}

some_of : (q : Option ℕ) → is_some q ≡ true → (t : ℕ) × (q ≡ Some t)
some_of None e = absurd cc
some_of (Some t) e = (t, refl)

-- one that a withdrawal has found taken is learned as taken
module _ (lead : ℕ) (start o o' : Owner) (told : Learnt) (saw : Standing) (is : o' ≡ after_learn told saw o) (found : IsLearntAsFound o told) (goes : GoesOn lead start o)
    (below : length o.learned < lead) (known : is_some (heard_at start (length o.learned)) ≡ true) where
  taking : (t : ℕ) × ((offer_at o.offers (length o.learned)).found_taken ≡ Some t)
  taking = some_of (offer_at o.offers (length o.learned)).found_taken
      (ap is_some (sym (heard_found o (length o.learned) (omega arith)) ∙ goes.heard (length o.learned)) ∙ known)

  more : o'.learned ≡ o.learned ++ outcome.Taken taking.0 ∷ []
  more = ap (λ x. x.learned) is ∙ ap (λ x. (after_learn x saw o).learned) (found taking.0 taking.1)

  pub one_more : length o'.learned ≡ length o.learned + 1
  one_more = omega (arith, ap length more, length-append o.learned (outcome.Taken taking.0 ∷ []))

  heard_same : (k : ℕ) → heard_at o' k ≡ heard_at o k
  heard_same k = dite (ℕ_discrete k (length o.learned))
      (λ e. subst (λ (j : ℕ). heard_at o' j ≡ heard_at o j) (sym e) (heard_last o o' (outcome.Taken taking.0) more ∙ sym (heard_found o (length o.learned) (omega arith) ∙ taking.1)))
      (λ ne. heard_more o o' (outcome.Taken taking.0) k (ap (λ x. x.offers) is) more ne)

  pub goes_further : GoesOn lead start o'
  goes_further = record {
    same = record {
      offers = ap (λ x. x.offers) is ∙ goes.same.offers;
      last = ap (λ x. x.last) is ∙ goes.same.last;
      told = ap (λ x. x.told) is ∙ goes.same.told;
    };
    heard = λ k. heard_same k ∙ goes.heard k;
    kept = omega (arith, one_more, goes.kept);
    most = omega (arith, one_more, goes.most, goes.kept, below);
    loads = omega (arith, ap (λ x. x.loads) is, goes.loads);
  }

-- ---- the first that is not known

-- a decision tells of itself
never_undecided : (d : DecisionKind) → learnt.Undecided ≡ learnt_of (decided_by d) → ⊥
never_undecided (outcome.Taken t) e = cc
never_undecided (outcome.Passed t) e = cc

abbrev pub heard_from : Learnt → Heard
heard_from (learnt.Taken t) = Decided false t
heard_from (learnt.Passed t) = Decided true t
heard_from learnt.Undecided = Nothing

module _ (lead : ℕ) (old mid new : Owner) (up : CatchesUp lead old mid) (near : length old.learned ≤ lead + 1) (nothing : heard_at old lead ≡ None) (sees : SeesFirst mid new.saw) where
  here : length mid.learned ≡ lead
  here = ⊎_elim
      (λ (l : lead < length mid.learned). absurd (none_some (sym nothing ∙ sym (up.goes.heard lead) ∙ heard_learned mid lead l)))
      (λ (l : length mid.learned ≤ lead). omega (arith, up.learned))
      (cases_lt lead (length mid.learned))
    where
      none_some : {t : ℕ} → None ≡ Some t → ⊥
      none_some e = cc

  shows : Shows (offer_at old.offers lead).stamp (offer_at old.offers lead).withdrawn new.saw
  shows = subst (λ k. Shows (offer_at old.offers k).stamp (offer_at old.offers k).withdrawn new.saw) here
      (subst (λ xs. Shows (offer_at xs (length mid.learned)).stamp (offer_at xs (length mid.learned)).withdrawn new.saw) up.goes.same.offers sees)

  abbrev same_of : (told : Learnt) → new ≡ after_learn told new.saw mid → IsSame old new
  same_of told is = record {
    offers = ap (λ x. x.offers) is ∙ up.goes.same.offers;
    last = ap (λ x. x.last) is ∙ up.goes.same.last;
    told = ap (λ x. x.told) is ∙ up.goes.same.told;
  }

  gone_by : (saw : Standing) (stamp : ℕ) (w : Option ℕ) (t : ℕ) → Shows stamp w saw → learnt.Taken t ≡ learnt_of saw → false ≡ is_some w
  gone_by word.Unused stamp w t s e = absurd s
  gone_by (word.Offered x) stamp w t s e = absurd cc
  gone_by (word.Withdrawn x) stamp w t s e = absurd cc
  gone_by (word.Taken x) stamp w t s e = sym (ap is_some s.0)
  gone_by (word.Passed x) stamp w t s e = absurd cc

  gone_too : (saw : Standing) (stamp : ℕ) (w : Option ℕ) (t : ℕ) → Shows stamp w saw → learnt.Passed t ≡ learnt_of saw → true ≡ is_some w
  gone_too word.Unused stamp w t s e = absurd s
  gone_too (word.Offered x) stamp w t s e = absurd cc
  gone_too (word.Withdrawn x) stamp w t s e = absurd cc
  gone_too (word.Taken x) stamp w t s e = absurd cc
  gone_too (word.Passed x) stamp w t s e = sym (ap is_some s.1)

  not_before : (t s : ℕ) → heard_at old lead ≡ Some s → s ≡ t
  not_before t s e = absurd (none_or_some s (sym nothing ∙ e))
    where
      none_or_some : (s : ℕ) → None ≡ Some s → ⊥
      none_or_some s e = cc

  pub hears_load : (told : Learnt) → new ≡ after_learn told new.saw mid → told ≡ learnt_of new.saw → IsLearntAsTold mid told → HearsOne lead old (heard_from told) new
  hears_load (learnt.Taken t) is cause as_told =
      let more : new.learned ≡ mid.learned ++ outcome.Taken t ∷ [] = ap (λ x. x.learned) is in
      record {
        same = same_of (learnt.Taken t) is;
        told_so = (
          subst (λ k. heard_at new k ≡ Some t) here (heard_last mid new (outcome.Taken t) more),
          gone_by new.saw (offer_at old.offers lead).stamp (offer_at old.offers lead).withdrawn t shows cause,
          not_before t,
        );
        others = λ k ne. heard_more mid new (outcome.Taken t) k (ap (λ x. x.offers) is) more (λ e. ne (e ∙ here)) ∙ up.goes.heard k;
        learned = omega (arith, here, ap length more, length-append mid.learned (outcome.Taken t ∷ []));
        loads = omega (arith, ap (λ x. x.loads) is, up.goes.loads);
      }
  hears_load (learnt.Passed t) is cause as_told =
      let more : new.learned ≡ mid.learned ++ outcome.Passed t ∷ [] = ap (λ x. x.learned) is in
      record {
        same = same_of (learnt.Passed t) is;
        told_so = (
          subst (λ k. heard_at new k ≡ Some t) here (heard_last mid new (outcome.Passed t) more),
          gone_too new.saw (offer_at old.offers lead).stamp (offer_at old.offers lead).withdrawn t shows cause,
          not_before t,
        );
        others = λ k ne. heard_more mid new (outcome.Passed t) k (ap (λ x. x.offers) is) more (λ e. ne (e ∙ here)) ∙ up.goes.heard k;
        learned = omega (arith, here, ap length more, length-append mid.learned (outcome.Passed t ∷ []));
        loads = omega (arith, ap (λ x. x.loads) is, up.goes.loads);
      }
  hears_load learnt.Undecided is cause as_told =
      let same_heard : (k : ℕ) → heard_at new k ≡ heard_at mid k = λ k. ap (λ x. heard_at x k) is in
      record {
        same = same_of learnt.Undecided is;
        told_so = (
          same_heard lead ∙ up.goes.heard lead ∙ nothing,
          nothing,
          ⊎_elim (λ (l : length mid.learned < length mid.told). absurd (never_undecided (decision_at mid.told (length mid.learned)).outcome (as_told l)))
              (λ (l : length mid.told ≤ length mid.learned). omega (arith, here, ap length up.goes.same.told))
              (cases_lt (length mid.learned) (length mid.told)),
          omega (arith, ap (λ x. x.loads) is, up.goes.loads),
          sym cause,
        );
        others = λ k ne. same_heard k ∙ up.goes.heard k;
        learned = omega (arith, here, ap (λ x. length x.learned) is);
        loads = omega (arith, ap (λ x. x.loads) is, up.goes.loads);
      }

-- of an offer whose mark says neither that it is known nor that it was seen, nothing was heard
pub heard_nothing : (m : Mark) (h : Option ℕ) (w : Bool) → is_known m ≡ false → ((gone : Bool) (stamp : ℕ) → m ≡ Seen gone stamp → ⊥) → MarkFits m h w → h ≡ None
heard_nothing Open h w unknown other f = f
heard_nothing Known h w unknown other f = absurd cc
heard_nothing (Seen gone stamp) h w unknown other f = absurd (other gone stamp refl)
