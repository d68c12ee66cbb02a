-- What the ports tell of all links after a call on one of them.
use Rattle.std.proofs.Common.{◌≡◌, ℕ, Option, Some, None, true, cond, sym, ap, ◌∙◌, subst, inl, inr}
use Rattle.std.specs.Prelude.{IfNone, ◌==◌}
use Rattle.std.proofs.Math.Path.{fun_ext}
use Rattle.std.proofs.lemmas.Bool.Decides.{eqb_tells}
use Rattle.ac_links.specs.Party.{LinkEnd, end_fits, end_noted, end_after, with_end}
use Rattle.core_channels.specs.Counts.{counted}
use Rattle.core_channels.specs.Laws.{Told}
use Rattle.core_ports.specs.Counts.{with_one_more}
use Rattle.core_ports.specs.Tells.{Tells}
use Rattle.end_ports.specs.Held.{Held}
use Rattle.end_ports.specs.OnLinks.{OnLink, told_by, on_link}
use Rattle.end_ports.specs.PortsTold.{told_of}
use Rattle.end_ports.specs.SettledLinks.{IsQuiet, Settles}
use Rattle.end_ports.specs.inner.Calls.{TellsAt}
use Rattle.end_ports.specs.inner.Places.{OnlyOn}

module _ (h : Held) (l : ℕ) (h' : Held) (only : OnlyOn h l h') where
  -- a field that is the same on this link is so on all
  each_same : {A : Type 0} (f : OnLink → A) → f (on_link h' l) ≡ f (on_link h l) → (k : ℕ) → f (on_link h' k) ≡ f (on_link h k)
  each_same f e k = elim (eqb_tells l k) [
    | inl q ↦ subst (λ k. f (on_link h' k) ≡ f (on_link h k)) q.1 e
    | inr q ↦ ap (λ x. f (told_by x)) (only.others k q.1)
  ]

  pub all_same : {A : Type 0} (f : OnLink → A) → f (on_link h' l) ≡ f (on_link h l) → ◌≡◌ {A = ℕ → A} (λ k. f (on_link h' k)) (λ k. f (on_link h k))
  all_same f e = fun_ext (each_same f e)

  -- one that changes on this link alone
  all_with : {A : Type 0} (f : OnLink → A) (x : A) → f (on_link h' l) ≡ x → ◌≡◌ {A = ℕ → A} (λ k. f (on_link h' k)) (λ k. cond (l == k) x (f (on_link h k)))
  all_with f x e = fun_ext (λ k. elim (eqb_tells l k) [
    | inl q ↦ subst (λ k. f (on_link h' k) ≡ x) q.1 e ∙ sym (ap (λ b. cond b x (f (on_link h k))) q.0)
    | inr q ↦ ap (λ x. f (told_by x)) (only.others k q.1) ∙ sym (ap (λ b. cond b x (f (on_link h k))) q.0)
  ])

  counts_more : (f : OnLink → ℕ) → f (on_link h' l) ≡ counted (f (on_link h l)) → ◌≡◌ {A = ℕ → ℕ} (λ k. f (on_link h' k)) (with_one_more (λ k. f (on_link h k)) l)
  counts_more f e = fun_ext (λ k. elim (eqb_tells l k) [
    | inl q ↦ subst (λ k. f (on_link h' k) ≡ counted (f (on_link h k))) q.1 e ∙ sym (ap (λ b. cond b (counted (f (on_link h k))) (f (on_link h k))) q.0)
    | inr q ↦ ap (λ x. f (told_by x)) (only.others k q.1) ∙ sym (ap (λ b. cond b (counted (f (on_link h k))) (f (on_link h k))) q.0)
  ])

  pub all_terms : (on_link h' l).terms ≡ (on_link h l).terms → (told_of h').terms ≡ (told_of h).terms
  all_terms = all_same (λ x. x.terms)

  pub all_polls : (on_link h' l).polls ≡ (on_link h l).polls → (told_of h').polls ≡ (told_of h).polls
  all_polls = all_same (λ x. x.polls)

  pub all_tries : (on_link h' l).tries ≡ (on_link h l).tries → (told_of h').tries ≡ (told_of h).tries
  all_tries = all_same (λ x. x.tries)

  pub more_polls : (on_link h' l).polls ≡ counted (on_link h l).polls → (told_of h').polls ≡ with_one_more (told_of h).polls l
  more_polls = counts_more (λ x. x.polls)

  pub more_tries : (on_link h' l).tries ≡ counted (on_link h l).tries → (told_of h').tries ≡ with_one_more (told_of h).tries l
  more_tries = counts_more (λ x. x.tries)

  pub all_hands : (told : Option Told) → IfNone told ((on_link h' l).hand ≡ (on_link h l).hand) → IfNone told ((told_of h').at_hand ≡ (told_of h).at_hand)
  all_hands None e = all_same (λ x. x.hand) e
  all_hands (Some t) e = e

  pub all_tell : (last now : ℕ) (told : Option Told) → TellsAt (on_link h l).terms (on_link h l).end l last told (on_link h' l).end now
      → Tells (told_of h).terms (told_of h).ends last told (told_of h').ends now
  all_tell last now None t = (all_same (λ x. x.end) t.0, t.1)
  all_tell last now (Some e) t =
      let ends = (told_of h).ends in
      let after : ℕ → LinkEnd = λ m. end_after (ends m) e.stamp t.answers e.event in
      record {
        answers = t.answers;
        fits = subst (λ m. end_fits ((told_of h).terms m) (ends m) e.event ≡ true) (sym t.link) t.fits;
        next = t.next;
        noted = subst (λ m. t.answers ≡ end_noted (after m) e.event) (sym t.link) (t.noted ∙ ap (λ x. end_noted x e.event) t.end);
        ends = subst (λ m. (told_of h').ends ≡ with_end ends m (after m)) (sym t.link) (all_with (λ x. x.end) (after l) t.end);
        clock = t.clock;
      }

  -- settling
  pub settles : IsQuiet (on_link h l) (on_link h' l) → Settles h l h'
  settles q = record {
    terms = all_same (λ x. x.terms) q.terms;
    ends = all_same (λ x. x.end) q.end;
    heard = all_same (λ x. x.heard) q.heard;
    polls = all_same (λ x. x.polls) q.polls;
    tries = all_same (λ x. x.tries) q.tries;
    full = only.full;
    others = only.others;
    stays = only.stays;
  }
