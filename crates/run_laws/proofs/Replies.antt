-- Where a reply waits on a link, the link carries requests.
use Rattle.std.proofs.Common.{◌≡◌, ℕ, List, [], ◌∷◌, Option, Some, None, Bool, true, false, cond, refl, sym, ap, ◌∙◌, subst}
use Rattle.std.specs.Prelude.{◌++◌, is_some, slice_get}
use Rattle.std.specs.List.{All, AllByRecursion}
use Rattle.std.proofs.lemmas.List.Elements.{recursion_from_All}
use Rattle.ac_base.specs.declared.entry.Answer.{Answer}
use Rattle.ac_base.specs.declared.entry.Payload.{Payload}
use Rattle.ac_base.specs.declared.entry.Payload.TheVariants.{Int, Read, Write}
use Rattle.ac_links.specs.Payloads.{Taking, is_payload, carries}
use Rattle.ac_links.specs.Payloads.Taking.{Message, Done}
use Rattle.ac_links.specs.Views.{Response, OwnerOffer, PeerDecision, DecisionFits, ViewsAgree}
use Rattle.ac_links.specs.Replies.{response_at, waiting_replies}
use Rattle.core_channels.specs.LinkViews.{LinkViews, IsOffer, IsLink}
use Rattle.run_laws.specs.Hands.{next_reply}

-- ---- a channel has no replies

no_done : (answer : Answer) (value : Payload) (g : Taking) → Done answer ≡ g → is_payload false value ≡ true → carries g value ≡ true → ⊥
no_done answer (Int v) g e p h = let no : false ≡ true = subst (λ x. carries x (Int v) ≡ true) (sym e) h in cc
no_done answer (Read f a n) g e p h = cc
no_done answer (Write f a b) g e p h = cc

no_answer : (payload : Payload) (v : Option Taking) (w : Option ℕ) (s : ℕ) (d : PeerDecision) → d.value ≡ v → is_payload false payload ≡ true → DecisionFits payload s d w → (t : ℕ) → response_at t v
    ≡ []
no_answer payload None w s d e p f t = refl
no_answer payload (Some (Message value)) w s d e p f t = refl
no_answer payload (Some (Done answer)) (Some k) s d e p f t = absurd (let no : Some (Done answer) ≡ None = sym e ∙ f.0 in cc)
no_answer payload (Some (Done answer)) None s d e p f t =
    absurd (let is : Some (Done answer) ≡ Some f.0 = sym e ∙ f.1 in let g : Done answer ≡ f.0 = cc in let c = f.2 in no_done answer payload f.0 g p c)

by_reply : (b : Bool) (first rest : List Response) → first ≡ [] → rest ≡ [] → cond b rest (first ++ rest) ≡ []
by_reply true first rest a h = h
by_reply false first rest a h = rw (a, h) refl

no_replies_of : (os : List OwnerOffer) (ds : List PeerDecision) → ViewsAgree os ds → AllByRecursion (IsOffer false) os → waiting_replies os ds ≡ []
no_replies_of [] ds a p = refl
no_replies_of (o ∷ os) [] a p = refl
no_replies_of (o ∷ os) (d ∷ ds) a p =
    by_reply (is_some o.reply) (response_at d.stamp d.value) (waiting_replies os ds) (no_answer o.payload d.value o.withdrawn o.stamp d refl p.0.carried a.0.1 d.stamp) (no_replies_of os ds a.1 p.1)

no_replies : (v : LinkViews) → v.terms.requests ≡ false → IsLink v → waiting_replies v.offers v.decisions ≡ []
no_replies v channel it = no_replies_of v.offers v.decisions it.agree
    (recursion_from_All (IsOffer false) v.offers (subst (λ b. All (IsOffer b) v.offers) channel it.each))

no_next : (v : LinkViews) → v.terms.requests ≡ false → IsLink v → next_reply v ≡ None
no_next v channel it = ap (λ (rs : List Response). slice_get rs 0) (no_replies v channel it)

-- so where a reply waits, the link carries requests
pub carries_requests : (v : LinkViews) (r : Response) → IsLink v → next_reply v ≡ Some r → v.terms.requests ≡ true
carries_requests v r it here = by v.terms.requests refl
  where
    by : (b : Bool) → v.terms.requests ≡ b → v.terms.requests ≡ true
    by true e = e
    by false e = absurd (let no : Some r ≡ None = sym here ∙ no_next v e it in cc)
