-- The two parties of each link of a code, in a list, link by link; and a run is quiet by any two functions that tell the same parties of its
-- links.
use Rattle.std.proofs.Common.{◌≡◌, ℕ, zero, suc, ◌+◌, ◌<◌, List, [], ◌∷◌, ◌++◌, Some, refl, ap, ◌∙◌, subst, inl, inr, arith, length}
use Rattle.std.specs.Prelude.{slice_get}
use Rattle.std.proofs.lemmas.Bool.Decides.{leb_tells}
use Rattle.std.proofs.lemmas.List.{length-append}
use Rattle.ac_base.specs.declared.ends.CoreEnd.{CoreEnd}
use Rattle.stack_code.specs.Parts.{Parts}
use Rattle.ac_history.specs.declared.quiet.LinkParties.{LinkParties}
use Rattle.ac_history.specs.History.{Past}
use Rattle.ac_history.specs.Quiet.{owner_at, owner_in, peer_at, peer_in, CoreIsQuiet, IsQuiet}
use Rattle.program_run.specs.Parties.{owner_of, peer_of}

-- the parties of the first so many links
pub record AreParties (code : Parts) (ps : List LinkParties) (n : ℕ) : Type 0 where
  pub count : length ps ≡ n
  pub owners : (l : ℕ) → l < n → owner_in ps l ≡ owner_of code.ends l
  pub peers : (l : ℕ) → l < n → peer_in ps l ≡ peer_of code.ends (length code.entries) l

pub get_old : {X : Type 0} (xs : List X) (x : X) (k : ℕ) → k < length xs → slice_get (xs ++ x ∷ []) k ≡ slice_get xs k
get_old [] x k h = absurd (omega arith)
get_old (y ∷ xs) x zero h = refl
get_old (y ∷ xs) x (suc k) h = get_old xs x k (omega arith)

pub get_new : {X : Type 0} (xs : List X) (x : X) → slice_get (xs ++ x ∷ []) (length xs) ≡ Some x
get_new [] x = refl
get_new (y ∷ xs) x = get_new xs x

pub none_yet : (code : Parts) → AreParties code [] 0
none_yet code = record { count = refl; owners = λ l h. absurd (omega arith); peers = λ l h. absurd (omega arith) }

more_count : (ps : List LinkParties) (p : LinkParties) (n : ℕ) → length ps ≡ n → length (ps ++ p ∷ []) ≡ n + 1
more_count ps p n h = length-append ps (p ∷ []) ∙ (omega arith)

pub one_more : (code : Parts) (ps : List LinkParties) (p : LinkParties) (n : ℕ) → AreParties code ps n → p.owner ≡ owner_of code.ends n
    → p.peer ≡ peer_of code.ends (length code.entries) n → AreParties code (ps ++ p ∷ []) (n + 1)
one_more code ps p n are owner peer = record { count = more_count ps p n are.count; owners = owners; peers = peers }
  where
    owners : (l : ℕ) → l < n + 1 → owner_in (ps ++ p ∷ []) l ≡ owner_of code.ends l
    owners l h = elim (leb_tells n l) [
      | inr w ↦ ap owner_at (get_old ps p l (let e = are.count in let lt = w.1 in omega arith)) ∙ are.owners l w.1
      | inl w ↦
          let same : length ps ≡ l = (let e = are.count in let le = w.1 in omega arith) in
          let here : n ≡ l = (let e = are.count in omega arith) in
          subst (λ k. owner_in (ps ++ p ∷ []) k ≡ owner_of code.ends l) same (ap owner_at (get_new ps p) ∙ subst (λ k. p.owner ≡ owner_of code.ends k) here owner)
    ]

    peers : (l : ℕ) → l < n + 1 → peer_in (ps ++ p ∷ []) l ≡ peer_of code.ends (length code.entries) l
    peers l h = elim (leb_tells n l) [
      | inr w ↦ ap peer_at (get_old ps p l (let e = are.count in let lt = w.1 in omega arith)) ∙ are.peers l w.1
      | inl w ↦
          let same : length ps ≡ l = (let e = are.count in let le = w.1 in omega arith) in
          let here : n ≡ l = (let e = are.count in omega arith) in
          subst (λ k. peer_in (ps ++ p ∷ []) k ≡ peer_of code.ends (length code.entries) l) same
          (ap peer_at (get_new ps p) ∙ subst (λ k. p.peer ≡ peer_of code.ends (length code.entries) k) here peer)
    ]

-- ---- a run is quiet by any functions that tell the parties of its links

module _ (owner peer owners peers : ℕ → ℕ) (past : Past) (same : (l : ℕ) → l < length past.links → owner l ≡ owners l) (alike : (l : ℕ) → l < length past.links → peer l ≡ peers l) where
  core_as : (k : ℕ) (c : CoreEnd) → CoreIsQuiet owner peer past k c → CoreIsQuiet owners peers past k c
  core_as k c q = record {
    stopped = q.stopped;
    owns = λ idle l lt is. q.owns idle l lt (same l lt ∙ is);
    decides = λ idle l lt is. q.decides idle l lt (alike l lt ∙ is);
  }

  pub quiet_as : (ends : List CoreEnd) → IsQuiet owner peer past ends → IsQuiet owners peers past ends
  quiet_as ends q = record { core = λ k c is. core_as k c (q.core k c is); worker = q.worker }
