-- How what a side holds goes on from call to call: what holds of both sides before a call holds of both after it, where each goes on so.
use Rattle.std.proofs.Common.{◌≡◌, ℕ, true, false, List, None, Some, refl, sym, ap, subst, ◌⊎◌, inl, inr}
use Rattle.std.specs.Prelude.{IfSome, is_some, Ok, Err, ⊤}
use Rattle.std.specs.declared.option.Option.{Option}
use Rattle.std.specs.declared.result.Result.{Result}
use Rattle.ac_outside.specs.declared.failed.BindFault.{BindFault}
use Rattle.ac_outside.specs.declared.failed.BindFault.TheVariants.{Failed, NoMemory}
use Rattle.ac_outside.specs.declared.failed.Torn.{Torn}
use Rattle.ac_outside.specs.Disks.{DiskTold, Held, called, with_bound, with_made, with_written}
use Rattle.ac_outside.specs.Files.{bytes_in, file_at, told_length, written}
use Rattle.ac_mirror_disk.specs.declared.side.Side.{Side}
use Rattle.ac_mirror_disk.specs.Sides.{SideBinds, SideWrites, IsLeft, has_failed, wants_memory}
use Rattle.ac_mirror_disk.specs.Pairs.{IfBoth, OnlyReads}
use Rattle.ac_mirror_disk.proofs.ReadOnly.{Holds}
use Rattle.ac_mirror_disk.proofs.Telling.{Like, Turns}

-- what is held goes on so
pub record Gone (S : Held → Held → Type 0) (h : Held) (after : Option Held) : Type 0 where
  pub held : Held
  pub is : after ≡ Some held
  pub so : S h held

abbrev pub Goes : (Held → Held → Type 0) → Option Held → Option Held → Type 0
Goes S x x' = IfSome x (λ h. Gone S h x')

-- and nothing is told where nothing was told
pub record GoesOn (S : Held → Held → Type 0) (x x' : Option Held) : Type 0 where
  pub goes : Goes S x x'
  pub silent : x ≡ None → x' ≡ None

pub some_goes : (S : Held → Held → Type 0) (x x' : Option Held) → Goes S x x' → is_some x ≡ true → is_some x' ≡ true
some_goes S None x' goes some = absurd (cc some)
some_goes S (Some h) x' goes some = ap (λ (o : Option Held). is_some o) goes.is

module _ (S T P Q : Held → Held → Type 0) (step : (h h' k k' : Held) → S h h' → T k k' → P h k → Q h' k') where
  none_first : (x' y' : Option Held) → x' ≡ None → IfBoth x' y' Q
  none_first x' y' e = subst (λ (o : Option Held). IfBoth o y' Q) (sym e) tt

  none_second : (x' y' : Option Held) (h : Held) → x' ≡ Some h → y' ≡ None → IfBoth x' y' Q
  none_second x' y' h e f = subst (λ (o : Option Held). IfBoth o y' Q) (sym e) (subst (λ (o : Option Held). IfSome o (λ k. Q h k)) (sym f) tt)

  pub both_go : (x x' y y' : Option Held) → GoesOn S x x' → GoesOn T y y' → IfBoth x y P → IfBoth x' y' Q
  both_go None x' y y' p q h = none_first x' y' (p.silent refl)
  both_go (Some h) x' None y' p q f = none_second x' y' p.goes.held p.goes.is (q.silent refl)
  both_go (Some h) x' (Some k) y' p q f =
      subst (λ (o : Option Held). IfBoth o y' Q) (sym p.goes.is)
      (subst (λ (o : Option Held). IfSome o (λ other. Q p.goes.held other)) (sym q.goes.is) (step h p.goes.held k q.goes.held p.goes.so q.goes.so f))

-- ---- how each call goes on

abbrev pub KeepsFound : Held → Held → Type 0
KeepsFound h h' = h'.found ≡ h.found

abbrev pub KeepsAll : Held → Held → Type 0
KeepsAll h h' = (h'.files ≡ h.files) × (h'.found ≡ h.found)

abbrev pub Writes : ℕ → ℕ → List ℕ → Held → Held → Type 0
Writes file from bytes h h' = h'.files ≡ written h.files file from bytes

goes_by : (S : Held → Held → Type 0) (G : Held → Held) → ((h : Held) → S h (G h)) → (x x' : Option Held) → IfSome x (λ h. x' ≡ Some (G h)) → Goes S x x'
goes_by S G so None x' e = tt
goes_by S G so (Some h) x' e = record { held = G h; is = e; so = so h }

goes_then : (S T R : Held → Held → Type 0) → ((h k l : Held) → S h k → T k l → R h l) → (x y z : Option Held) → Goes S x y → Goes T y z → Goes R x z
goes_then S T R join None y z p q = tt
goes_then S T R join (Some h) y z p q =
    let r = subst (λ (o : Option Held). Goes T o z) p.is q in
    record { held = r.held; is = r.is; so = join h p.held r.held p.so r.so }

pub goes_on_then : (S T R : Held → Held → Type 0) → ((h k l : Held) → S h k → T k l → R h l) → (x y z : Option Held) → GoesOn S x y → GoesOn T y z → GoesOn R x z
goes_on_then S T R join x y z p q = record { goes = goes_then S T R join x y z p.goes q.goes; silent = λ e. q.silent (p.silent e) }

read_on_goes : (x x' : Option Held) → Holds x x' → Goes KeepsAll x x'
read_on_goes None x' h = tt
read_on_goes (Some held) x' h = record { held = record held { calls = h.0 }; is = h.1; so = (refl, refl) }

pub read_goes : (before after : DiskTold) → OnlyReads before after → GoesOn KeepsAll before.held after.held
read_goes before after o = record { goes = read_on_goes before.held after.held o.same; silent = o.silent }

pub found_of : (S : Held → Held → Type 0) → ((h h' : Held) → S h h' → KeepsFound h h') → (x x' : Option Held) → GoesOn S x x' → GoesOn KeepsFound x x'
found_of S so x x' g = record { goes = weaker x x' g.goes; silent = g.silent } where
  weaker : (x x' : Option Held) → Goes S x x' → Goes KeepsFound x x'
  weaker None x' g = tt
  weaker (Some h) x' g = record { held = g.held; is = g.is; so = so h g.held g.so }

same_told : (x : Option Held) → Goes KeepsAll x x
same_told None = tt
same_told (Some h) = record { held = h; is = refl; so = (refl, refl) }

module _ {D : Type 0} (told : D → DiskTold) where
  pub left_goes : (s s' : Side D) → IsLeft s s' → GoesOn KeepsAll (told s.disk).held (told s'.disk).held
  left_goes s s' l = subst (λ d. GoesOn KeepsAll (told s.disk).held (told d).held) (sym l.disk) (record { goes = same_told (told s.disk).held; silent = λ e. e })

  -- a write leaves alone what is not bound
  pub write_found : (s s' : Side D) (file from : ℕ) (bytes : List ℕ) (of : Option (Result ⊤ Torn)) → SideWrites told s s' file from bytes of
      → GoesOn KeepsFound (told s.disk).held (told s'.disk).held
  write_found s s' file from bytes None h = found_of KeepsAll (λ _ _ e. e.1) (told s.disk).held (told s'.disk).held (left_goes s s' h)
  write_found s s' file from bytes (Some result) h = record {
    goes = goes_by KeepsFound (λ (held : Held). with_written held file from (bytes_in result bytes)) (λ _. refl) (told s.disk).held (told s'.disk).held h.0.left;
    silent = h.0.silent;
  }

  -- and one that has not failed writes all
  pub write_files : (s s' : Side D) (file from : ℕ) (bytes : List ℕ) (of : Option (Result ⊤ Torn)) → is_some of ≡ true → has_failed of ≡ false → SideWrites told s s' file from bytes of
      → GoesOn (Writes file from bytes) (told s.disk).held (told s'.disk).held
  write_files s s' file from bytes None called well h = absurd (cc called)
  write_files s s' file from bytes (Some (Err torn)) called well h = absurd (cc well)
  write_files s s' file from bytes (Some (Ok done)) called well h = record {
    goes = goes_by (Writes file from bytes) (λ (held : Held). with_written held file from bytes) (λ _. refl) (told s.disk).held (told s'.disk).held h.0.left;
    silent = h.0.silent;
  }

  bound_found : (path : List ℕ) (len : ℕ) (x x' : Option Held) → IfSome x (λ h. (len ≡ told_length (file_at h.found path).bytes) × (x' ≡ Some (with_bound h path))) → Goes KeepsFound x x'
  bound_found path len None x' l = tt
  bound_found path len (Some h) x' l = record { held = with_bound h path; is = l.1; so = refl }

  -- a bind that has not failed leaves alone what stands under a path
  pub bind_found : (s s' : Side D) (path : List ℕ) (of : Option (Result ℕ BindFault)) → has_failed of ≡ false → SideBinds told s s' path of
      → GoesOn KeepsFound (told s.disk).held (told s'.disk).held
  bind_found s s' path None well h = found_of KeepsAll (λ _ _ e. e.1) (told s.disk).held (told s'.disk).held (left_goes s s' h)
  bind_found s s' path (Some (Err fault)) well h = absurd (cc well)
  bind_found s s' path (Some (Ok len)) well h = record { goes = bound_found path len (told s.disk).held (told s'.disk).held h.0.leaves; silent = h.0.silent }

  failed_tells : (path : List ℕ) (x x' : Option Held) → IfSome x (λ h. (x' ≡ Some (called h)) ⊎ (x' ≡ Some (with_made h path))) → Goes (λ _ _. ⊤) x x'
  failed_tells path None x' l = tt
  failed_tells path (Some h) x' (inl e) = record { held = called h; is = e; so = tt }
  failed_tells path (Some h) x' (inr e) = record { held = with_made h path; is = e; so = tt }

  -- and a bind that was not refused memory goes on telling
  pub bind_tells : (s s' : Side D) (path : List ℕ) (of : Option (Result ℕ BindFault)) → wants_memory of ≡ false → SideBinds told s s' path of → Goes (λ _ _. ⊤) (told s.disk).held (told s'.disk).held
  bind_tells s s' path None given h = anything (told s.disk).held (told s'.disk).held (left_goes s s' h).goes where
    anything : (x x' : Option Held) → Goes KeepsAll x x' → Goes (λ _ _. ⊤) x x'
    anything None x' g = tt
    anything (Some h) x' g = record { held = g.held; is = g.is; so = tt }
  bind_tells s s' path (Some (Ok len)) given h = well path len (told s.disk).held (told s'.disk).held h.0.leaves where
    well : (path : List ℕ) (len : ℕ) (x x' : Option Held) → IfSome x (λ h. (len ≡ told_length (file_at h.found path).bytes) × (x' ≡ Some (with_bound h path))) → Goes (λ _ _. ⊤) x x'
    well path len None x' l = tt
    well path len (Some h) x' l = record { held = with_bound h path; is = l.1; so = tt }
  bind_tells s s' path (Some (Err Failed)) given h = failed_tells path (told s.disk).held (told s'.disk).held h.0.leaves
  bind_tells s s' path (Some (Err NoMemory)) given h = absurd (cc given)

-- ---- what the side that answers has made

pub turns_by : (F G : Held → Held) → ((h : Held) → Like (G h) (F h)) → (x x' : Option Held) → IfSome x (λ h. x' ≡ Some (G h)) → Turns F x x'
turns_by F G like None x' e = tt
turns_by F G like (Some h) x' e = record { held = G h; is = e; like = like h }

-- reads after it change nothing
pub turns_then : (F : Held → Held) (x y z : Option Held) → Turns F x y → Holds y z → Turns F x z
turns_then F None y z p q = tt
turns_then F (Some h) y z p q =
    let r = subst (λ (o : Option Held). Holds o z) p.is q in
    record { held = record p.held { calls = r.0 }; is = r.1; like = record { files = p.like.files; found = p.like.found } }
