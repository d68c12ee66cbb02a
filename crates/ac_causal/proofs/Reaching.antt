-- What is kept of a run tells its order and its vectors: the theorem on vectors, for the numbers that the calls read in the table.
use Rattle.std.proofs.Common.{◌≡◌, ℕ, suc, ◌+◌, ◌*◌, ◌^◌, ◌<◌, ◌≤◌, List, length, Some, true, sym, ap, ◌∙◌, subst, arith, ◌⊎◌, add-one, refl}
use Rattle.std.specs.Prelude.{slice_get, slice_index, nat_le}
use Rattle.std.proofs.lemmas.Bool.{leb-true}
use Rattle.std.proofs.lemmas.Bool.Decides.{nat_tests}
use Rattle.ac_base.specs.declared.entry.Stamped.{Stamped}
use Rattle.stack_code.specs.Parts.{Parts}
use Rattle.trace_text.specs.declared.trace.Trace.{Trace}
use Rattle.ac_causal.specs.Before.{IsBefore, IsVector}
use Rattle.ac_causal.specs.Run.{CausalRun, IsAudited}
use Rattle.ac_causal.specs.inner.Kept.{IsKept}
use Rattle.ac_causal.specs.inner.Marks.{no_marks, count_at, last_mark, seen_mark, IsTable}
use Rattle.ac_causal.specs.inner.Opening.{AreSeen, AreVectors}
use Rattle.ac_causal.proofs.Audited.{audited_legal}
use Rattle.ac_causal.proofs.Answered.{marks, party_in}
use Rattle.ac_causal.proofs.Ticks.{Ticks, told, tells}
use Rattle.ac_causal.proofs.Tables.{at_row, ticks_of}
use Rattle.ac_causal.proofs.Counting.{get_some, is_vector}

pub count_same : (parties cores : ℕ) (table : List ℕ) (entry party q : ℕ) → parties ≡ suc cores → party ≡ q
    → count_at parties table (entry + 1) party ≡ at_row (suc cores) table entry q
count_same parties cores table entry party q p same =
    ap (λ m. count_at parties table m party) (add-one entry) ∙ ap (λ x. slice_index table (entry * x + party)) p
    ∙ ap (λ x. slice_index table (entry * suc cores + x)) same

module _ (es : List Stamped) (parties : ℕ) (table : List ℕ) (k : IsKept es parties table) where
  pub ticks : Ticks es (suc k.cores) (at_row (suc k.cores) table) (λ j e. last_mark (marks k.capacities k.widths k.cores es k.legal j) e) (λ j e. seen_mark
      (marks k.capacities k.widths k.cores es k.legal j) e)
  ticks = ticks_of k.capacities k.widths k.cores es table k.legal (subst (λ p. IsTable p (no_marks (length k.capacities) p) es (length es) table) k.parties_are k.rows)

  pub party_within : (one : ℕ) (a : Stamped) → slice_get es one ≡ Some a → a.party < parties
  party_within one a is = let lt = party_in k.capacities k.widths k.cores es k.legal one a is in let p = k.parties_are in omega (arith, lt, p)

  pub reaches_told : (one other party own seen : ℕ) (a : Stamped) → slice_get es one ≡ Some a → other < length es → party ≡ a.party
      → own ≡ count_at parties table (one + 1) party → seen ≡ count_at parties table (other + 1) party → own ≤ seen → (one ≡ other) ⊎ IsBefore es one other
  reaches_told one other party own seen a is lt same p q le =
      let e = get_some es other lt in
      let x : own ≡ at_row (suc k.cores) table one a.party = p ∙ count_same parties k.cores table one party a.party k.parties_are same in
      let y : seen ≡ at_row (suc k.cores) table other a.party = q ∙ count_same parties k.cores table other party a.party k.parties_are same in
      told es (suc k.cores) (at_row (suc k.cores) table) _ _ ticks one other a e.0 is e.1 (omega (arith, x, y, le))

  pub reaches_tells : (one other party own seen : ℕ) (a : Stamped) → slice_get es one ≡ Some a → party ≡ a.party
      → own ≡ count_at parties table (one + 1) party → seen ≡ count_at parties table (other + 1) party → (one ≡ other) ⊎ IsBefore es one other → own ≤ seen
  reaches_tells one other party own seen a is same p q h =
      let x : own ≡ at_row (suc k.cores) table one a.party = p ∙ count_same parties k.cores table one party a.party k.parties_are same in
      let y : seen ≡ at_row (suc k.cores) table other a.party = q ∙ count_same parties k.cores table other party a.party k.parties_are same in
      let z = tells es (suc k.cores) (at_row (suc k.cores) table) _ _ ticks one other a is h in
      omega (arith, x, y, z)

  pub vector_is : (entry : ℕ) (counts : List ℕ) → entry < length es → length counts ≡ parties
      → ((p : ℕ) → p < parties → slice_index counts p ≡ count_at parties table (entry + 1) p) → IsVector es parties entry counts
  vector_is entry counts lt as_many each =
      subst (λ p. IsVector es p entry counts) (sym k.parties_are)
      (is_vector es (suc k.cores) (at_row (suc k.cores) table) _ _ ticks entry counts lt (as_many ∙ k.parties_are)
      (λ p within. (let q = k.parties_are in each p (omega (arith, within, q))) ∙ count_same parties k.cores table entry p p k.parties_are refl))

-- ---- as contracts see it

pub le_true : (x y : ℕ) → x ≤ y → nat_le x y ≡ true
le_true x y h = grind (arith, nat_tests)

pub reaches_by : {code : Parts} {steps : ℕ} (es : List Stamped) (parties : ℕ) (table : List ℕ) (k : IsKept es parties table) (r : CausalRun)
    → record { code = code; steps = steps; entries = es; parties = parties } ≡ r
    → (one other party own seen : ℕ) (a : Stamped) → slice_get es one ≡ Some a → other < length r.entries → party ≡ a.party
    → own ≡ count_at parties table (one + 1) party → seen ≡ count_at parties table (other + 1) party
    → (nat_le own seen ≡ true → (one ≡ other) ⊎ IsBefore r.entries one other) × ((one ≡ other) ⊎ IsBefore r.entries one other → nat_le own seen ≡ true)
reaches_by es parties table k r view one other party own seen a is lt same p q =
    let e : es ≡ r.entries = ap (λ (x : CausalRun). x.entries) view in
    let within : other < length es = subst (λ x. other < length x) (sym e) lt in (
      (λ h. subst (λ x. (one ≡ other) ⊎ IsBefore x one other) e (reaches_told es parties table k one other party own seen a is within same p q (leb-true own seen h))),
      (λ h. le_true own seen (reaches_tells es parties table k one other party own seen a is same p q (subst (λ x. (one ≡ other) ⊎ IsBefore x one other) (sym e) h))),
    )

pub vector_by : {code : Parts} {steps : ℕ} (es : List Stamped) (parties : ℕ) (table : List ℕ) (k : IsKept es parties table) (r : CausalRun)
    → record { code = code; steps = steps; entries = es; parties = parties } ≡ r
    → (entry : ℕ) (counts : List ℕ) → entry < length r.entries → length counts ≡ parties
    → ((p : ℕ) → p < parties → slice_index counts p ≡ count_at parties table (entry + 1) p) → IsVector r.entries r.parties entry counts
vector_by es parties table k r view entry counts lt as_many each =
    let e : es ≡ r.entries = ap (λ (x : CausalRun). x.entries) view in
    let within : entry < length es = subst (λ x. entry < length x) (sym e) lt in
    subst (λ (x : CausalRun). IsVector x.entries x.parties entry counts) view (vector_is es parties table k entry counts within as_many each)

-- what is made of a trace that is a run
pub are_vectors : (code : Parts) (t : Trace) (links parties : ℕ) (es : List Stamped) (table seen : List ℕ) → IsAudited code t → length t.entries < 2 ^ 32 → es ≡ t.entries
    → parties ≡ suc (length code.entries) → links ≡ length code.capacities → IsTable parties (no_marks links parties) es (length es) table
    → AreSeen (no_marks links parties) es (length es) seen → AreVectors code t parties table seen
are_vectors code t links parties es table seen audited few is many all rows marks = record {
  audited = audited;
  parties_are = many;
  whole = record {
    kept = record {
      capacities = code.capacities;
      widths = code.widths;
      cores = length code.entries;
      legal = audited_legal code t audited;
      parties_are = many;
      few = few;
      rows = subst (λ l. IsTable parties (no_marks l parties) t.entries (length t.entries) table) all
          (subst (λ xs. IsTable parties (no_marks links parties) xs (length xs) table) is rows);
    };
    marks = subst (λ l. AreSeen (no_marks l parties) t.entries (length t.entries) seen) all
        (subst (λ xs. AreSeen (no_marks links parties) xs (length xs) seen) is marks);
  };
}
