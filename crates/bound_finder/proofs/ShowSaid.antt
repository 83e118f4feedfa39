-- What earlier sections say of the targets of a found section is what it is told.
use Rattle.std.proofs.Common.{◌≡◌, ℕ, ◌+◌, ◌*◌, ◌<◌, ◌&&◌, ◌||◌, Bool, true, false, List, [], ◌∷◌, map, Option, Some, None, refl, sym, ap, ap₂, ◌∙◌, arith}
use Rattle.std.specs.Prelude.{◌↔◌, IsTrue, if◌then◌else◌}
use Rattle.std.specs.Option.{option_map}
use Rattle.lists.specs.Members.{heads, tails}
use Rattle.loop_nest.specs.Nest.{NaturalLoop}
use Rattle.section_check.specs.Bounded.{holds}
use Rattle.section_check.specs.Section.{CertifiedLoop}
use Rattle.bytecode_model.specs.Program.{Program}
use Rattle.method_flow.specs.Calls.{IsCall, IsTarget}
use Rattle.method_flow.specs.Keeping.{BoundOf}
use Rattle.method_flow.specs.Nodes.{At, IsEdge, IsReached}
use Rattle.method_flow.specs.Recursion.{MayCall}
use Rattle.method_flow.specs.Regions.{load}
use Rattle.method_flow.specs.declared.timing.Timing.{Timing}
use Rattle.bound_rules.specs.Fitting.{RegionFits, loads_of}
use Rattle.bound_rules.specs.Laws.{CalledFit, ReachesStarts}
use Rattle.bound_rules.specs.Numbers.{is_in_charged}
use Rattle.bound_rules.specs.Told.{Valued, value_in, with_cycles, SaysFull, SaysCalled, is_in_region}
use Rattle.bound_rules.specs.Told.SaysFull.{fits as says_fits, exceeds as says_exceeds}
use Rattle.bound_rules.proofs.Numbering.{in_charged}
use Rattle.compact_walks.specs.Limited.{cycles_limit, limited}
use Rattle.bound_finder.specs.declared.known.Known.{Known}
use Rattle.bound_finder.specs.declared.prepared.Prepared.{Prepared}
use Rattle.bound_finder.specs.Known.{known_at, CalleesAreKnown, IsToldOf, IsFullBy}
use Rattle.bound_finder.specs.Known.IsFullBy.{fits as full_fits, exceeds as full_exceeds}
use Rattle.bound_finder.specs.Prepared.{IsPreparedFor, AreChargesOf, is_without_at, nest_of}
use Rattle.bound_finder.specs.Prepared.AreChargesOf.{none as no_charge, some as some_charge}
use Rattle.bound_finder.specs.Found.{Cover}
use Rattle.bound_finder.proofs.Parts.{loop_called_fit}
use Rattle.bound_finder.proofs.ShowTold.{exact, more_by, told_by, told, without, may_call}

-- ---- charged loops

if_or : (a b : Bool) → (a || b) ≡ (if a then true else b)
if_or true b = refl
if_or false b = refl

-- a section's regions have the nodes that its charged loops have
pub same_regions : (ks : List NaturalLoop) (flags : List Bool) (ls : List CertifiedLoop) → map (λ (l : CertifiedLoop). l.members) ls ≡ map (λ (k : NaturalLoop). k.members) ks → map (λ (l : CertifiedLoop). l.region) ls ≡ flags → (u : ℕ)
    → is_in_region ls u ≡ is_in_charged ks flags u
same_regions [] flags [] members marks u = refl
same_regions [] flags (l ∷ ls) members marks u = absurd (cc)
same_regions (k ∷ ks) flags [] members marks u = absurd (cc)
same_regions (k ∷ ks) [] (l ∷ ls) members marks u = absurd (cc)
same_regions (k ∷ ks) (flag ∷ flags) (l ∷ ls) members marks u =
    let one = ap₂ (λ (b : Bool) (us : List ℕ). b && holds us u) (heads l.region flag (map (λ (x : CertifiedLoop). x.region) ls) flags marks) (heads l.members k.members (map (λ (x : CertifiedLoop). x.members) ls) (map (λ (x : NaturalLoop). x.members) ks) members) in
    let rest = same_regions ks flags ls (tails l.members k.members (map (λ (x : CertifiedLoop). x.members) ls) (map (λ (x : NaturalLoop). x.members) ks) members) (tails l.region flag (map (λ (x : CertifiedLoop). x.region) ls) flags marks) u in
    ap₂ (λ (a b : Bool). a || b) one rest ∙ if_or (flag && holds k.members u) (is_in_charged ks flags u)

-- ---- fitting

fits_is : (P : Program) (t : Timing) (x : ℕ) (k : Known) → IsToldOf P t x k → ((RegionFits P t x → ⊥) → ⊥) → k.fits ≡ true
fits_is P t x k of some = by k.fits of.fits
  where
    by : (b : Bool) → IsTrue b ↔ RegionFits P t x → b ≡ true
    by true both = refl
    by false both = absurd (some (λ together. let bad : false ≡ true = both.1 together in cc))

module _ (called : CalledFit) (P : Program) (t : Timing) (bound_of : BoundOf) (table : List Known) (m : ℕ) (p : Prepared) (starts : ReachesStarts P m) (ends : CalleesAreKnown P t table m) (h : IsPreparedFor P t bound_of table m p)
    (earlier : List Valued) (cover : Cover P table earlier m) where
  abbrev back : ℕ
  back = load P t.read m

  -- what may be called where calls cost nothing for loads
  called_fits : (q x : ℕ) → IsReached (IsEdge P m) (At q) → IsTarget P m q x → IsCall P m q → without P t bound_of table m p starts ends h q ≡ true → (known_at table x).fits ≡ true
  called_fits q x r target call e =
      let may = may_call P t bound_of table m p starts ends h q x r target in
      fits_is P t x (known_at table x) (ends x may) (λ never. by p.fits h.fits h.charges e never may)
    where
      by : (b : Bool) → IsTrue b ↔ RegionFits P t m → AreChargesOf P t m p.shape b p.charges → is_without_at b p.shape p.charges.flags.items (2 * q) ≡ true → (RegionFits P t x → ⊥) → MayCall P m x → ⊥
      by true fit charges e' never may = called P t m x (fit.0 refl) may never
      by false fit (no_charge whole none) e' never may = absurd (let bad : false ≡ true = whole in cc)
      by false fit (some_charge apart charged loads) e' never may =
          let c = in_charged (nest_of p.shape) p.charges.flags.items (2 * q) e' in
          loop_called_fit P t m q x c.loop.members ((charged.each c.place c.loop c.at).0 c.flagged).fits c.has (starts q r) call target never

  -- the number of a target that fits, without loads
  says_inside : (x : ℕ) → MayCall P m x → (known_at table x).fits ≡ true → Some (known_at table x).asked ≡ value_in true x earlier
  says_inside x may e = sym (cover x may) ∙ ap (λ (b : Bool). value_in b x earlier) e

  full_within : (asked : Option ℕ) (loads : ℕ) → ((n : ℕ) → option_map (λ a. limited (a + loads)) asked ≡ Some n → n < cycles_limit) → option_map (λ a. limited (a + loads)) asked ≡ option_map (λ a. a + loads) asked
  full_within None loads small = refl
  full_within (Some a) loads small = ap (λ (n : ℕ). Some n) (exact (a + loads) (small (limited (a + loads)) refl)).1

  -- the number of a target with all its loads
  says_full : (x : ℕ) → MayCall P m x → ((n : ℕ) → (known_at table x).full ≡ Some n → n < cycles_limit) → SaysFull P t earlier x (Some (known_at table x).full)
  says_full x may small = by (ends x may).sum
    where
      k : Known
      k = known_at table x

      value : (b : Bool) → k.fits ≡ b → value_in b x earlier ≡ Some k.asked
      value b e = ap (λ (c : Bool). value_in c x earlier) (sym e) ∙ cover x may

      not_fits : (RegionFits P t x → ⊥) → (b : Bool) → IsTrue b ↔ RegionFits P t x → b ≡ false
      not_fits alone true both = absurd (alone (both.0 refl))
      not_fits alone false both = refl

      full_is : (loads : ℕ) → k.full ≡ option_map (λ n. limited (n + loads)) k.asked → (b : Bool) → k.fits ≡ b → Some k.full ≡ with_cycles loads (value_in b x earlier)
      full_is loads is b e =
          let within = full_within k.asked loads (λ n same. small n (is ∙ same)) in
          ap (λ (o : Option ℕ). Some o) (is ∙ within) ∙ ap (λ (o : Option (Option ℕ)). with_cycles loads o) (sym (value b e))

      by : IsFullBy P t x k → SaysFull P t earlier x (Some k.full)
      by (full_fits together is) = says_fits together (full_is (loads_of together) is true ((ends x may).fits.1 together))
      by (full_exceeds alone is) = says_exceeds alone (full_is (load P t.read x) is false (not_fits alone k.fits (ends x may).fits))

  -- what is told of a target is what earlier sections say of it
  pub says : (q x : ℕ) → IsReached (IsEdge P m) (At q) → IsTarget P m q x → IsCall P m q → ((n : ℕ) → told_by back (without P t bound_of table m p starts ends h q) (known_at table x) ≡ Some n → n < cycles_limit)
      → SaysCalled P t earlier (without P t bound_of table m p starts ends h q) m x (told P t bound_of table m p starts ends h q x)
  says q x r target call small = by (without P t bound_of table m p starts ends h q) (called_fits q x r target call) small
    where
      may : MayCall P m x
      may = may_call P t bound_of table m p starts ends h q x r target

      below : (o : Option ℕ) → ((n : ℕ) → more_by back o ≡ Some n → n < cycles_limit) → (n : ℕ) → o ≡ Some n → n < cycles_limit
      below o less n is = let lt = less (n + back) (ap (λ (a : Option ℕ). more_by back a) is) in omega arith

      by : (b : Bool) → (b ≡ true → (known_at table x).fits ≡ true) → ((n : ℕ) → told_by back b (known_at table x) ≡ Some n → n < cycles_limit) → SaysCalled P t earlier b m x (Some (told_by back b (known_at table x)))
      by true fits less = says_inside x may (fits refl)
      by false fits less = (Some (known_at table x).full, says_full x may (below (known_at table x).full less), refl)
