-- The clock of a core has risen where its journal has grown.
use Rattle.std.proofs.Common.{◌≡◌, ℕ, ◌<◌, ◌≤◌, List, [], ◌∷◌, ◌++◌, false, refl, ap, ◌∙◌, subst, arith, length}
use Rattle.std.specs.Prelude.{nat_lt}
use Rattle.std.proofs.lemmas.Bool.Decides.{nat_tests}
use Rattle.std.proofs.lemmas.List.{length-append, append-nil}
use Rattle.ac_base.specs.declared.entry.Event.{Event}
use Rattle.ac_base.specs.declared.entry.Entry.{Entry}
use Rattle.ac_base.specs.Stamps.{next_stamp}
use Rattle.ac_links.specs.Journals.{HasStamps, last_of}

last_of_both : (last : ℕ) (xs ys : List Entry) → last_of last (xs ++ ys) ≡ last_of (last_of last xs) ys
last_of_both last [] ys = refl
last_of_both last (x ∷ xs) ys = last_of_both x.stamp xs ys

stamps_of_rest : (seen : Event → ℕ) (last : ℕ) (xs ys : List Entry) → HasStamps seen last (xs ++ ys) → HasStamps seen (last_of last xs) ys
stamps_of_rest seen last [] ys h = h
stamps_of_rest seen last (x ∷ xs) ys h = stamps_of_rest seen x.stamp xs ys h.1

rises : (last of s : ℕ) → s ≡ next_stamp last of → last < s
rises last of s h = grind (arith, nat_tests)

later : (seen : Event → ℕ) (last : ℕ) (j : List Entry) → HasStamps seen last j → last ≤ last_of last j
later seen last [] h = omega arith
later seen last (e ∷ es) h = let up = rises last (seen e.event) e.stamp h.0 in let end = later seen e.stamp es h.1 in omega arith

both_less : (m n k l : ℕ) → m < n → k < l → nat_lt m n ≡ nat_lt k l
both_less m n k l a b = grind (arith, nat_tests)

neither_less : (m k : ℕ) → nat_lt m m ≡ nat_lt k k
neither_less m k = grind (arith, nat_tests)

grown_by : (seen : Event → ℕ) (old entries : List Entry) → HasStamps seen 0 (old ++ entries) → nat_lt (length old) (length (old ++ entries)) ≡ nat_lt (last_of 0 old) (last_of 0 (old ++ entries))
grown_by seen old [] h = rw (append-nil old) (neither_less (length old) (last_of 0 old))
grown_by seen old (e ∷ es) h =
    let rest = stamps_of_rest seen 0 old (e ∷ es) h in
    let up = rises (last_of 0 old) (seen e.event) e.stamp rest.0 in
    let end = later seen e.stamp es rest.1 in
    let is = last_of_both 0 old (e ∷ es) in
    let n = length-append old (e ∷ es) in
    both_less (length old) (length (old ++ e ∷ es)) (last_of 0 old) (last_of 0 (old ++ e ∷ es)) (omega arith) (omega arith)

module _ (seen : Event → ℕ) (old new entries : List Entry) (is : new ≡ old ++ entries) (stamps : HasStamps seen 0 new) where
  pub not_before : last_of 0 old ≤ last_of 0 new
  not_before =
      let up = later seen (last_of 0 old) entries (stamps_of_rest seen 0 old entries (subst (HasStamps seen 0) is stamps)) in
      let e = last_of_both 0 old entries in
      let f = ap (last_of 0) is in
      omega arith

  -- it has more entries just where its last stamp is greater
  pub grown : nat_lt (length old) (length new) ≡ nat_lt (last_of 0 old) (last_of 0 new)
  grown = rw is (grown_by seen old entries (subst (HasStamps seen 0) is stamps))

  -- and where it has not more, it is as it was
  none_more : (es : List Entry) → nat_lt (length old) (length (old ++ es)) ≡ false → old ++ es ≡ old
  none_more [] h = append-nil old
  none_more (e ∷ es) h = absurd (let n = length-append old (e ∷ es) in grind (arith, nat_tests))

  pub same : nat_lt (length old) (length new) ≡ false → new ≡ old
  same h = is ∙ none_more entries (subst (λ (x : List Entry). nat_lt (length old) (length x) ≡ false) is h)
