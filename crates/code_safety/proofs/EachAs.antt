-- The code in which every core enters what one of them does is valid as well, and what is reached in it lies in the functions that this
-- core reaches.
-- What is reached in a code is reached from any of its cores; to speak of one core alone, all are made to enter its function. Then by
-- induction on how an address is reached.
use Rattle.std.proofs.Common.{◌≡◌, ℕ, zero, suc, ◌+◌, ◌-◌, ◌<◌, List, [], ◌∷◌, length, map, Option, Some, None, refl, sym, ap, ◌∙◌, subst, arith}
use Rattle.std.specs.Prelude.{All, slice_get, slice_index, slice_index_or, nat_lt, if◌then◌else◌}
use Rattle.std.proofs.lemmas.List.{length-map}
use Rattle.std.proofs.lemmas.Option.{slice_get-get_or}
use Rattle.stack_code.specs.declared.instr.Instr.{Instr}
use Rattle.stack_code.specs.declared.instr.Instr.TheVariants as i
use Rattle.stack_code.specs.declared.parts.ChannelEnds.{ChannelEnds}
use Rattle.stack_code.specs.declared.parts.Entered.{Entered}
use Rattle.stack_code.specs.declared.shape.Home.{Home}
use Rattle.stack_code.specs.declared.shape.Home.TheVariants as home
use Rattle.stack_code.specs.declared.shape.CellKind.TheVariants as kind
use Rattle.stack_code.specs.declared.shape.Want.TheVariants as want
use Rattle.stack_code.specs.declared.shape.Shape.{Shape}
use Rattle.stack_code.specs.Parts.{Parts, Begins}
use Rattle.stack_code.specs.Shapes.{after, pushes, channels_of, effect, width_of}
use Rattle.stack_code.specs.Valid.{Fits, Goes, Reaches, begins, goes, IsShaped, Quiet, QuietWay, one, more, Use, Uses, param, loads, sets, enters}
use Rattle.stack_code.specs.Valid.{IsEntry, HasCores, HasLinks, IsChannel, HasLists, IsValid}
use Rattle.stack_code.specs.Kept.{IsRanked}
use Rattle.code_safety.specs.KeptEnds as kept
use Rattle.code_safety.specs.KeptEnds.{outermost, ReachesFunction, calls, each_as}
use Rattle.code_safety.proofs.OwnFunction.{Stays, within, into, called, stays, still_outermost}

-- ---- lists

-- what stands in a list of one thing alone
only : (entries : List ℕ) (e k x : ℕ) → slice_get (map (λ (entry : ℕ). e) entries) k ≡ Some x → e ≡ x
only [] e k x h = let no : ◌≡◌ {A = Option ℕ} None (Some x) = h in cc
only (y ∷ entries) e zero x h = cc
only (y ∷ entries) e (suc k) x h = only entries e k x h

all_only : (P : ℕ → Type 0) (entries : List ℕ) (e : ℕ) → P e → All P (map (λ (entry : ℕ). e) entries)
all_only P [] e p k d lt = absurd (omega (arith, lt))
all_only P (y ∷ entries) e p zero d lt = p
all_only P (y ∷ entries) e p (suc k) d lt = all_only P entries e p k d (omega (arith, lt))

module _ (code : Parts) (core : ℕ) where
  abbrev like : Parts
  like = each_as code core

  abbrev entry : ℕ
  entry = slice_index code.entries core

  as_many : length like.entries ≡ length code.entries
  as_many = length-map code.entries (λ (e : ℕ). entry)

  -- ---- instructions find the same

  same_channels : channels_of like ≡ channels_of code
  same_channels = ap (λ n. length code.capacities - n) as_many

  effect_same : (at : ℕ) (instr : Instr) (s : Shape) → effect like at instr s ≡ effect code at instr s
  effect_same at (i.Send channel) s = ap (λ n. if nat_lt channel n then after (want.Message (width_of code channel) ∷ []) s (pushes at kind.Int) else None) same_channels
  effect_same at (i.Recv channel) s = ap (λ n. if nat_lt channel n then after (want.Elements (width_of code channel) ∷ []) s (pushes at kind.Int) else None) same_channels
  effect_same at instr s = refl

  abbrev fits_back : (at : ℕ) (s : Shape) → Fits like at s → Fits code at s
  fits_back at s f = record { instr = f.instr; leads = f.leads; here = f.here; finds = sym (effect_same at f.instr s) ∙ f.finds }

  fits_too : (at : ℕ) (s : Shape) → Fits code at s → Fits like at s
  fits_too at s f = record { instr = f.instr; leads = f.leads; here = f.here; finds = effect_same at f.instr s ∙ f.finds }

  goes_back : (at : ℕ) (s : Shape) (to : ℕ) (t : Shape) → Goes like at s to t → Goes code at s to t
  goes_back at s to t g = record { fits = fits_back at s g.fits; leads = g.leads }

  module _ (lt : core < length code.entries) where
    entry_there : slice_get code.entries core ≡ Some entry
    entry_there = slice_get-get_or code.entries core 0 lt

    abbrev begins_back : (k : ℕ) (function : Entered) → Begins like k function → Begins code core function
    begins_back k function b = record {
      entry = b.entry;
      entry_is = entry_there ∙ ap Some (only code.entries entry k b.entry b.entry_is);
      function_is = b.function_is;
    }

    reaches_back : (at : ℕ) (s : Shape) → Reaches like at s → Reaches code at s
    reaches_back _ _ (begins k function b) = begins core function (begins_back k function b)
    reaches_back _ _ (goes at s to t r g) = goes at s to t (reaches_back at s r) (goes_back at s to t g)

    -- ---- it is valid

    quiet_back : (at to : ℕ) → Quiet like at to → Quiet code at to
    quiet_back at to q = record {
      shape = q.shape;
      next = q.next;
      reached = reaches_back at q.shape q.reached;
      goes = goes_back at q.shape to q.next q.goes;
      no_step = q.no_step;
    }

    way_back : (at to : ℕ) → QuietWay like at to → QuietWay code at to
    way_back _ _ (one at to q) = one at to (quiet_back at to q)
    way_back _ _ (more at next to q w) = more at next to (quiet_back at next q) (way_back next to w)

    uses_back : (h : Home) (slot : ℕ) (u : Use) → Uses like h slot u → Uses code h slot u
    uses_back h slot _ (param array e) = param array e
    uses_back h slot _ (loads at level s r here e) = loads at level s (reaches_back at s r) here e
    uses_back h slot _ (sets at s instr slots r here e f le less) = sets at s instr slots (reaches_back at s r) here e f le less
    uses_back h slot _ (enters at s r here e) = enters at s (reaches_back at s r) here e

    module _ (v : IsValid code) where
      cores_too : HasCores like
      cores_too =
          let c = v.lists.cores in
          let some = c.some in
          let few = c.few in
          let e = c.enters core 0 lt in
          record {
            some = omega (arith, some, as_many);
            few = omega (arith, few, as_many);
            named = c.named ∙ sym as_many;
            enters = all_only (IsEntry like) code.entries entry (record { function = e.function; is = e.is; plain = e.plain });
          }

      links_too : HasLinks like
      links_too =
          let l = v.lists.links in
          record {
            few = l.few;
            each = l.each ∙ ap (λ n. length code.ends + n) (sym as_many);
            capacities = l.capacities;
            channels = λ k d less. channel_too (slice_index_or code.ends k d) (l.channels k d less);
            wide = l.wide;
            widths = l.widths;
          }
        where
          channel_too : (ends : ChannelEnds) → IsChannel code ends → IsChannel like ends
          channel_too ends c = (subst (λ n. ends.from < n) (sym as_many) c.0, subst (λ n. ends.to < n) (sym as_many) c.1, c.2)

      lists_too : HasLists like
      lists_too = let l = v.lists in record {
        few = l.few;
        cores = cores_too;
        links = links_too;
        starts = record { rising = l.starts.rising; starts = l.starts.starts };
        functions = l.functions;
      }

      shaped_too : IsShaped like
      shaped_too = record {
        fits = λ at s r. fits_too at s (v.shaped.fits at s (reaches_back at s r));
        same = λ at s t r q. v.shaped.same at s t (reaches_back at s r) (reaches_back at t q);
      }

      pub valid_too : IsValid like
      valid_too = record {
        lists = lists_too;
        shaped = shaped_too;
        one_use = λ h slot a b x y. v.one_use h slot a b (uses_back h slot a x) (uses_back h slot b y);
        steps = λ at w. v.steps at (way_back at at w);
      }

    pub ranked_too : (ranks : List ℕ) → IsRanked code ranks → IsRanked like ranks
    ranked_too ranks r = record { long = r.long; falls = λ at to q. r.falls at to (quiet_back at to q) }

    -- the core itself begins so
    pub begins_too : (function : Entered) → Begins code core function → Begins like core function
    begins_too function b = record {
      entry = entry;
      entry_is = each_there code.entries core lt;
      function_is = ap (slice_get code.functions) (let both : Some entry ≡ Some b.entry = sym entry_there ∙ b.entry_is in cc) ∙ b.function_is;
    }
      where
        each_there : (entries : List ℕ) (k : ℕ) → k < length entries → slice_get (map (λ (e : ℕ). entry) entries) k ≡ Some entry
        each_there [] k less = absurd (omega (arith, less))
        each_there (x ∷ entries) zero less = refl
        each_there (x ∷ entries) (suc k) less = each_there entries k (omega (arith, less))

    -- ---- it comes to nothing else

    -- the function in which an address lies, which the core reaches
    record Own (s : Shape) : Type 0 where
      function : ℕ
      round : outermost s.bodies ≡ Some (home.Function function)
      reaches : ReachesFunction code core function

    own : (at : ℕ) (s : Shape) → Reaches like at s → Own s
    own _ _ (begins k function b) = let c = begins_back k function b in record { function = b.entry; round = refl; reaches = kept.enters b.entry c.entry_is }
    own _ _ (goes at s to t r g) = led (own at s r) (stays code at s g.fits.leads to t g.leads g.fits.instr (fits_back at s g.fits).finds)
      where
        led : Own s → Stays code g.fits.instr s to t → Own t
        led o (within e) = record { function = o.function; round = ap outermost e ∙ o.round; reaches = o.reaches }
        led o (into inner e) = record {
          function = o.function;
          round = ap outermost e ∙ still_outermost inner s.bodies (home.Function o.function) o.round;
          reaches = o.reaches;
        }
        led o (called number count f is there here e) = record {
          function = number;
          round = ap (λ (x : Shape). outermost x.bodies) (sym e);
          reaches = calls o.function number at count o.reaches (record { shape = s; reached = reaches_back at s r; round = o.round }) (g.fits.here ∙ ap Some is);
        }

    pub reached_instr : (at : ℕ) (s : Shape) (instr : Instr) → Reaches like at s → slice_get code.instrs at ≡ Some instr → kept.ReachesInstr code core instr
    reached_instr at s instr r here = let o = own at s r in record {
      function = o.function;
      reaches = o.reaches;
      at = at;
      lies = record { shape = s; reached = reaches_back at s r; round = o.round };
      stands = here;
    }
