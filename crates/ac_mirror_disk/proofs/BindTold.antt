-- What a mirror tells after a bind is what the side that answers has made of what the mirror told before.
use Rattle.std.proofs.Common.{◌≡◌, ◌≢◌, ℕ, Bool, true, false, ◌^◌, ◌<◌, ◌≤◌, List, [], ◌∷◌, ◌++◌, length, None, Some, refl, sym, ap, ◌∙◌, subst, ◌⊎◌, inl, inr, arith}
use Rattle.std.specs.Prelude.{◌&&◌, ◌||◌, IfSome, if◌then◌else◌, unwrap_or, AllPairs, Ok, Err}
use Rattle.std.specs.Str.{bytes_eq}
use Rattle.std.specs.declared.option.Option.{Option}
use Rattle.std.specs.declared.result.Result.{Result}
use Rattle.std.proofs.lemmas.List.{length-append}
use Rattle.ac_outside.specs.declared.failed.BindFault.{BindFault}
use Rattle.ac_outside.specs.declared.failed.BindFault.TheVariants.{Failed, NoMemory}
use Rattle.ac_outside.specs.Told.{one_more, AddsName}
use Rattle.ac_outside.specs.Disks.{DiskTold, Held, BindLeaves, bound_by, called, stays_ready, with_bound, with_made}
use Rattle.ac_outside.specs.Files.{file_at, told_length}
use Rattle.ac_mirror_disk.specs.declared.side.Side.{Side}
use Rattle.ac_mirror_disk.specs.Calls.{HasBound}
use Rattle.ac_mirror_disk.specs.Sides.{SideBinds}
use Rattle.ac_mirror_disk.specs.Pairs.{BothBound}
use Rattle.ac_mirror_disk.specs.Mirrors.{Mirrored, bound_of, counted, mirror_contents, told_by_mirror, EachRose, StayEqual}
use Rattle.ac_mirror_disk.specs.inner.BindsNew.{BindsNew, IsNew, is_refused, is_bound, bind_failed, paths_after}
use Rattle.ac_mirror_disk.specs.Sound.{IsKept, IsReady, IsSound}
use Rattle.ac_mirror_disk.proofs.InUse.{first_answers, second_answers}
use Rattle.ac_mirror_disk.proofs.Telling.{Like, Holding, Turns, Known, known, untold, Respects, told_next}
use Rattle.ac_mirror_disk.proofs.Going.{turns_then}
use Rattle.ac_mirror_disk.proofs.Steps.{either, stands_second, each_rose}
use Rattle.ac_mirror_disk.proofs.NewPath.{still_differ}
use Rattle.ac_mirror_disk.proofs.BindSteps.{BindChanges, bind_cause_of, bind_uses, bind_equal, after, ready_after}

-- what is held makes this, where it was told
turn_of : (F G : Held → Held) → ((h : Held) → Like (G h) (F h)) → (x y : Option Held) (h : Held) → x ≡ Some h → y ≡ Some (G h) → Turns F x y
turn_of F G like x y h e f = subst (λ (o : Option Held). Turns F o y) (sym e) (record { held = G h; is = f; like = like h })

turn_bound : (path : List ℕ) (len : ℕ) (x y : Option Held) → IfSome x (λ h. (len ≡ told_length (file_at h.found path).bytes) × (y ≡ Some (with_bound h path))) → Turns (λ h. with_bound h path) x y
turn_bound path len None y leaves = tt
turn_bound path len (Some h) y leaves = record { held = with_bound h path; is = leaves.1; like = record { files = refl; found = refl } }

long_bound : (path : List ℕ) (len : ℕ) (x y : Option Held) (held : Held) → IfSome x (λ h. (len ≡ told_length (file_at h.found path).bytes) × (y ≡ Some (with_bound h path))) → Holding held x
    → len ≡ told_length (file_at held.found path).bytes
long_bound path len x y held leaves h =
    let here = subst (λ (o : Option Held). IfSome o (λ k. (len ≡ told_length (file_at k.found path).bytes) × (y ≡ Some (with_bound k path)))) h.is leaves in
    here.0 ∙ ap (λ (found : List ℕ → Option (List ℕ)). told_length (file_at found path).bytes) h.like.found

binds_alike : (path : List ℕ) → (x y : Held) → Like x y → Like (with_bound x path) (with_bound y path)
binds_alike path x y e = record {
  files = ap (λ fs. fs ++ file_at x.found path ∷ []) e.files ∙ ap (λ (found : List ℕ → Option (List ℕ)). y.files ++ file_at found path ∷ []) e.found;
  found = e.found;
}

makes_alike : (path : List ℕ) → (x y : Held) → Like x y → Like (with_made x path) (with_made y path)
makes_alike path x y e = record {
  files = e.files;
  found = ap (λ (found : List ℕ → Option (List ℕ)). λ other. if bytes_eq other path then Some (unwrap_or (found path) []) else found other) e.found;
}

abbrev pub bound_so : ℕ → Result ℕ BindFault
bound_so len = Ok len

abbrev pub failed_so : Result ℕ BindFault
failed_so = Err Failed

abbrev pub refused_so : Result ℕ BindFault
refused_so = Err NoMemory

off_by : (r l : Bool) → l ≡ false → (r && l) ≡ false
off_by true l e = e
off_by false l e = refl

pub off_first : (r l : Bool) → r ≡ false → (r && l) ≡ false
off_first false l e = refl
off_first true l e = absurd (cc e)

module _ {A B : Type 0} (told_a : A → DiskTold) (told_b : B → DiskTold) (law_a : (d : A) → IfSome (told_a d).held (λ held. (told_a d).bound ≡ length held.files))
    (law_b : (d : B) → IfSome (told_b d).held (λ held. (told_b d).bound ≡ length held.files)) where
  held_bound : {D : Type 0} (told : D → DiskTold) (law : (d : D) → IfSome (told d).held (λ held. (told d).bound ≡ length held.files)) (s : Side D) (paths : List (List ℕ)) (held : Held)
      → IsKept told s paths → s.in_use ≡ true → Holding held (told s.disk).held → length held.files ≡ length paths
  held_bound told law s paths held k used h =
      let here = subst (λ (o : Option Held). IfSome o (λ x. (told s.disk).bound ≡ length x.files)) h.is (law s.disk) in
      ap (λ fs. length fs) (sym h.like.files) ∙ sym here ∙ k.whole used

  -- a mirror has bound as many files as it has paths
  pub bound_is : (m : Mirrored A B) → IsReady told_a told_b m → m.is_ready ≡ true → bound_of (mirror_contents told_a told_b m) m.paths ≡ length m.paths
  bound_is m k ready = elim (either m.is_alike) [
    | inl alike ↦
        let t = known told_a told_b m k ready alike k.some in
        ap (λ o. bound_of o m.paths) t.is ∙ elim (either m.a.in_use) [
          | inl used ↦ held_bound told_a law_a m.a m.paths t.held k.on_a used (t.first used)
          | inr unused ↦
              let other : m.b.in_use ≡ true = sym (ap (λ b. b || m.b.in_use) unused) ∙ k.some in
              held_bound told_b law_b m.b m.paths t.held k.on_b other (t.second other)
        ]
    | inr off ↦ ap (λ o. bound_of o m.paths) (untold told_a told_b m (off_by m.is_ready m.is_alike off))
  ]

  module _ (m m' : Mirrored A B) (path : List ℕ) where
    as_told : (F : Held → Held) (t : Known told_a told_b m) → mirror_contents told_a told_b m' ≡ Some (counted m'.calls (F t.held)) → m'.calls ≡ one_more m.calls
        → mirror_contents told_a told_b m' ≡ Some (counted (one_more t.held.calls) (F t.held))
    as_told F t next calls = next ∙ ap (λ n. Some (counted n (F t.held))) (calls ∙ ap one_more (sym t.calls_is))

    module _ (result : Result ℕ BindFault) (k : IsReady told_a told_b m) (r : BothBound told_a told_b m.a m.b m'.a m'.b path m.is_even m'.is_even result) (t : Known told_a told_b m)
        (ready' : m'.is_ready ≡ true) (alike' : m'.is_alike ≡ true) where
      next_first : (F : Held → Held) → Respects told_a told_b F → m'.a.in_use ≡ true → Turns F (told_a m.a.disk).held (told_a r.between_a.disk).held
          → mirror_contents told_a told_b m' ≡ Some (counted m'.calls (F t.held))
      next_first F respects used turns =
          let u = bind_uses told_a told_b law_a law_b m m' path result k r in
          let reads = (after told_a told_b law_a law_b m m' path result k r).reads_a in
          told_next told_a told_b F respects m m' t ready' alike' (record {
            was_a = u.was_a;
            was_b = stands_second told_a told_b m m' (bind_failed result) u;
            first = λ _. turns_then F (told_a m.a.disk).held (told_a r.between_a.disk).held (told_a m'.a.disk).held turns reads.same;
            second = λ unused. absurd (cc (sym used ∙ unused));
          })

      next_second : (F : Held → Held) → Respects told_a told_b F → m'.a.in_use ≡ false → Turns F (told_b m.b.disk).held (told_b r.between_b.disk).held
          → mirror_contents told_a told_b m' ≡ Some (counted m'.calls (F t.held))
      next_second F respects unused turns =
          let u = bind_uses told_a told_b law_a law_b m m' path result k r in
          let reads = (after told_a told_b law_a law_b m m' path result k r).reads_b in
          told_next told_a told_b F respects m m' t ready' alike' (record {
            was_a = u.was_a;
            was_b = stands_second told_a told_b m m' (bind_failed result) u;
            first = λ used. absurd (cc (sym used ∙ unused));
            second = λ _. turns_then F (told_b m.b.disk).held (told_b r.between_b.disk).held (told_b m'.b.disk).held turns reads.same;
          })

    bind_leaves : (result : Result ℕ BindFault) (k : IsReady told_a told_b m) (r : BothBound told_a told_b m.a m.b m'.a m'.b path m.is_even m'.is_even result) (t : Known told_a told_b m)
        → m'.is_ready ≡ stays_ready result → m'.is_alike ≡ true → m'.calls ≡ one_more m.calls → BindLeaves t.held (mirror_contents told_a told_b m') path result
    bind_leaves (Ok len) k r t ready alike calls =
        let F : Held → Held = λ h. with_bound h path in
        let u = bind_uses told_a told_b law_a law_b m m' path (bound_so len) k r in
        let respects : Respects told_a told_b F = record { like = binds_alike path } in
        elim (either m'.a.in_use) [
          | inl used ↦
              let on = (subst (λ of. SideBinds told_a m.a r.between_a path of) (first_answers m'.a.in_use r.of_a r.of_b (bound_so len) r.answer used) r.on_a).0.leaves in (
                long_bound path len (told_a m.a.disk).held (told_a r.between_a.disk).held t.held on (t.first (u.was_a used)),
                as_told F t (next_first (bound_so len) k r t ready alike F respects used (turn_bound path len (told_a m.a.disk).held (told_a r.between_a.disk).held on)) calls,
              )
          | inr unused ↦
              let on = (subst (λ of. SideBinds told_b m.b r.between_b path of) (second_answers m'.a.in_use r.of_a r.of_b (bound_so len) r.answer unused) r.on_b).0.leaves in (
                long_bound path len (told_b m.b.disk).held (told_b r.between_b.disk).held t.held on (t.second (stands_second told_a told_b m m' false u unused)),
                as_told F t (next_second (bound_so len) k r t ready alike F respects unused (turn_bound path len (told_b m.b.disk).held (told_b r.between_b.disk).held on)) calls,
              )
        ]
    bind_leaves (Err Failed) k r t ready alike calls =
        let I : Held → Held = λ h. h in
        let F : Held → Held = λ h. with_made h path in
        let u = bind_uses told_a told_b law_a law_b m m' path failed_so k r in
        let same : Respects told_a told_b I = record { like = λ x y e. e } in
        let made : Respects told_a told_b F = record { like = makes_alike path } in
        elim (either m'.a.in_use) [
          | inl used ↦
              let on = (subst (λ of. SideBinds told_a m.a r.between_a path of) (first_answers m'.a.in_use r.of_a r.of_b failed_so r.answer used) r.on_a).0.leaves in
              let h = t.first (u.was_a used) in
              elim (subst (λ (o : Option Held). IfSome o (λ x. ((told_a r.between_a.disk).held ≡ Some (called x)) ⊎ ((told_a r.between_a.disk).held ≡ Some (with_made x path)))) h.is on) [
                | inl e ↦ inl (as_told I t (next_first failed_so k r t ready alike I same used (turn_of I called (λ _. record { files = refl; found = refl })
                    (told_a m.a.disk).held _ h.side h.is e)) calls)
                | inr e ↦ inr (as_told F t (next_first failed_so k r t ready alike F made used (turn_of F F (λ _. record { files = refl; found = refl }) (told_a m.a.disk).held _ h.side h.is e)) calls)
              ]
          | inr unused ↦
              let on = (subst (λ of. SideBinds told_b m.b r.between_b path of) (second_answers m'.a.in_use r.of_a r.of_b failed_so r.answer unused) r.on_b).0.leaves in
              let h = t.second (stands_second told_a told_b m m' true u unused) in
              elim (subst (λ (o : Option Held). IfSome o (λ x. ((told_b r.between_b.disk).held ≡ Some (called x)) ⊎ ((told_b r.between_b.disk).held ≡ Some (with_made x path)))) h.is on) [
                | inl e ↦ inl (as_told I t (next_second failed_so k r t ready alike I same unused (turn_of I called (λ _. record { files = refl; found = refl })
                    (told_b m.b.disk).held _ h.side h.is e)) calls)
                | inr e ↦ inr (as_told F t (next_second failed_so k r t ready alike F made unused (turn_of F F (λ _. record { files = refl; found = refl })
                    (told_b m.b.disk).held _ h.side h.is e)) calls)
              ]
        ]
    bind_leaves (Err NoMemory) k r t ready alike calls = untold told_a told_b m' (off_first m'.is_ready m'.is_alike ready)

    -- ---- the whole call

    paths_long : (result : Result ℕ BindFault) → m'.paths ≡ paths_after m.paths path result → length m'.paths ≡ bound_by (length m.paths) result
    paths_long (Ok len) e = ap (λ (ps : List (List ℕ)). length ps) e ∙ length-append m.paths (path ∷ [])
    paths_long (Err fault) e = ap (λ (ps : List (List ℕ)). length ps) e

    -- no memory: nothing is told any more
    pub told_refused : (result : Result ℕ BindFault) → result ≡ refused_so → IsSound told_a told_b m → m.is_ready ≡ true → m.faults < 2 ^ 64 → m'.paths ≡ m.paths → BindChanges m m' result
        → HasBound (told_by_mirror told_a told_b m) (told_by_mirror told_a told_b m') path refused_so
    told_refused result e sound ready few paths ch =
        let off : m'.is_ready ≡ false = ch.is_ready ∙ ap stays_ready e in
        let none = untold told_a told_b m' (off_first m'.is_ready m'.is_alike off) in
        record {
          bound = ap (λ o. bound_of o m'.paths) none ∙ ap (λ (ps : List (List ℕ)). length ps) paths ∙ sym (bound_is m (sound.ready ready) ready);
          ready = off;
          leaves = everywhere (mirror_contents told_a told_b m) none;
          silent = λ _. none;
          cause = ch.faults ∙ ap (λ res. if bind_failed res then one_more m.faults else m.faults) e;
        }
      where
        everywhere : (x : Option Held) → mirror_contents told_a told_b m' ≡ None → IfSome x (λ held. BindLeaves held (mirror_contents told_a told_b m') path refused_so)
        everywhere None e = tt
        everywhere (Some h) e = e

    pub told_bound : (result : Result ℕ BindFault) → IsSound told_a told_b m → m.is_ready ≡ true → m.faults < 2 ^ 64 → length m.paths < 16 → AllPairs (λ (p q : List ℕ). p ≢ q)
        (paths_after m.paths path result)
        → BothBound told_a told_b m.a m.b m'.a m'.b path m.is_even m'.is_even result → m'.paths ≡ paths_after m.paths path result → BindChanges m m' result
        → stays_ready result ≡ true → HasBound (told_by_mirror told_a told_b m) (told_by_mirror told_a told_b m') path result
    told_bound result sound ready few room apart r paths ch stays =
        let k = sound.ready ready in
        let ready' : m'.is_ready ≡ true = ch.is_ready ∙ stays in
        let k' = ready_after told_a told_b law_a law_b m m' path result k r result refl room paths apart ch in
        record {
          bound = bound_is m' k' ready' ∙ paths_long result paths ∙ ap (λ n. bound_by n result) (sym (bound_is m k ready));
          ready = ch.is_ready;
          leaves = elim (either m.is_alike) [
            | inl alike ↦
                let t = known told_a told_b m k ready alike k.some in
                subst (λ (o : Option Held). IfSome o (λ held. BindLeaves held (mirror_contents told_a told_b m') path result)) (sym t.is)
                (bind_leaves result k r t ch.is_ready (ch.is_alike ∙ alike) ch.calls)
            | inr off ↦ subst (λ (o : Option Held). IfSome o (λ held. BindLeaves held (mirror_contents told_a told_b m') path result)) (sym (untold told_a told_b m
                (off_by m.is_ready m.is_alike off))) tt
          ];
          silent = λ e. elim (either m.is_alike) [
            | inl alike ↦ let t = known told_a told_b m k ready alike k.some in absurd (cc (sym t.is ∙ e))
            | inr off ↦ untold told_a told_b m' (off_by m'.is_ready m'.is_alike (ch.is_alike ∙ off))
          ];
          cause = bind_cause_of m.faults m'.faults result few ch.faults;
        }

-- ---- a bind of a path that is new, or was refused

refusal_or_not : (result : Result ℕ BindFault) → (result ≡ refused_so) ⊎ (stays_ready result ≡ true)
refusal_or_not (Ok len) = inr refl
refusal_or_not (Err Failed) = inr refl
refusal_or_not (Err NoMemory) = inl refl

one_path_more : (paths : List (List ℕ)) (path : List ℕ) (result : Result ℕ BindFault) → length paths < 16 → length (paths_after paths path result) ≤ 16
one_path_more paths path (Ok len) room = omega (arith, room, length-append paths (path ∷ []))
one_path_more paths path (Err fault) room = omega (arith, room)

apart_after : (paths : List (List ℕ)) (path : List ℕ) (result : Result ℕ BindFault) → AllPairs (λ (p q : List ℕ). p ≢ q) paths → IsNew paths path → AllPairs (λ (p q : List ℕ). p ≢ q)
    (paths_after paths path result)
apart_after paths path (Ok len) apart new = still_differ paths path apart new
apart_after paths path (Err fault) apart new = apart

unchanged_by : (paths paths' : List (List ℕ)) (path : List ℕ) (result : Result ℕ BindFault) → result ≡ refused_so → paths' ≡ paths_after paths path result → paths' ≡ paths
unchanged_by paths paths' path result e p = p ∙ ap (paths_after paths path) e

asked_by : (ready ready' : Bool) (binds binds' : List (List ℕ)) (path : List ℕ) → ready ≡ true → (ready' ≡ true → binds' ≡ binds ++ path ∷ [])
    → AddsName (if ready then Some binds else None) (if ready' then Some binds' else None) path
asked_by true true binds binds' path r e = e refl
asked_by true false binds binds' path r e = tt
asked_by false ready' binds binds' path r e = absurd (cc r)

module _ {A B : Type 0} (told_a : A → DiskTold) (told_b : B → DiskTold) (law_a : (d : A) → IfSome (told_a d).held (λ held. (told_a d).bound ≡ length held.files))
    (law_b : (d : B) → IfSome (told_b d).held (λ held. (told_b d).bound ≡ length held.files)) (m m' : Mirrored A B) (path : List ℕ) (result : Result ℕ BindFault) where
  abbrev Binds : Type 0
  Binds = BindsNew told_a told_b m.a m.b m'.a m'.b m.paths m'.paths m.binds m'.binds path m.is_even m'.is_even result

  pub new_sound : IsSound told_a told_b m → m.is_ready ≡ true → length m.paths < 16 → Binds → BindChanges m m' result → IsSound told_a told_b m'
  new_sound sound ready room (is_refused e paths) ch = record {
    few = subst (λ (ps : List (List ℕ)). length ps ≤ 16) (sym paths) sound.few;
    ready = λ still. absurd (cc (sym still ∙ (ch.is_ready ∙ ap stays_ready e)));
  }
  new_sound sound ready room (is_bound r paths binds new) ch =
      let k = sound.ready ready in
      record {
        few = subst (λ (ps : List (List ℕ)). length ps ≤ 16) (sym paths) (one_path_more m.paths path result room);
        ready = λ _. ready_after told_a told_b law_a law_b m m' path result k r result refl room paths (apart_after m.paths path result k.differ new) ch;
      }

  pub new_told : IsSound told_a told_b m → m.is_ready ≡ true → m.faults < 2 ^ 64 → length m.paths < 16 → Binds → BindChanges m m' result
      → HasBound (told_by_mirror told_a told_b m) (told_by_mirror told_a told_b m') path result
  new_told sound ready few room (is_refused e paths) ch =
      subst (HasBound (told_by_mirror told_a told_b m) (told_by_mirror told_a told_b m') path) (sym e) (told_refused told_a told_b law_a law_b m m' path result e sound ready few paths ch)
  new_told sound ready few room (is_bound r paths binds new) ch = elim (refusal_or_not result) [
    | inl e ↦ subst (HasBound (told_by_mirror told_a told_b m) (told_by_mirror told_a told_b m') path) (sym e)
        (told_refused told_a told_b law_a law_b m m' path result e sound ready few (unchanged_by m.paths m'.paths path result e paths) ch)
    | inr stays ↦ told_bound told_a told_b law_a law_b m m' path result sound ready few room (apart_after m.paths path result (sound.ready ready).differ new) r paths ch stays
  ]

  pub new_asked : m.is_ready ≡ true → Binds → BindChanges m m' result → AddsName (told_by_mirror told_a told_b m).binds (told_by_mirror told_a told_b m').binds path
  new_asked ready (is_refused e paths) ch = asked_by m.is_ready m'.is_ready m.binds m'.binds path ready (λ still. absurd (cc (sym still ∙ (ch.is_ready ∙ ap stays_ready e))))
  new_asked ready (is_bound r paths binds new) ch = asked_by m.is_ready m'.is_ready m.binds m'.binds path ready (λ _. binds)

  pub new_sides : Binds → (result ≡ refused_so → ⊥) → BothBound told_a told_b m.a m.b m'.a m'.b path m.is_even m'.is_even result
  new_sides (is_refused e paths) not_refused = absurd (not_refused e)
  new_sides (is_bound r paths binds new) not_refused = r

  pub new_blame : IsSound told_a told_b m → m.is_ready ≡ true → Binds → result ≡ failed_so → EachRose told_a told_b m m'
  new_blame sound ready b failed =
      let r = new_sides b (λ e. absurd (cc (sym failed ∙ e))) in
      each_rose told_a told_b m m' (bind_failed result) (bind_uses told_a told_b law_a law_b m m' path result (sound.ready ready) r) (ap bind_failed failed)

  pub new_equal : IsSound told_a told_b m → m.is_ready ≡ true → Binds → (result ≡ refused_so → ⊥) → StayEqual told_a told_b m m'
  new_equal sound ready b not_refused ua ub ua' ub' equal =
      bind_equal told_a told_b law_a law_b m m' path result (sound.ready ready) (new_sides b not_refused) equal ua' ub'
