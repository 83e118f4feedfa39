-- The walks of a settled method end, and none of them and none of its nodes costs too much.
use Rattle.std.proofs.Common.{◌≡◌, ℕ, Bool, true, false, List, length, All, Option, refl, sym, ◌∙◌, subst, inl, inr}
use Rattle.std.specs.Prelude.{◌⊎◌, ◌↔◌, IsSome, IsTrue}
use Rattle.std.proofs.lemmas.Bool.{cases_lt}
use Rattle.std.proofs.lemmas.List.{get_or_past}
use Rattle.std.proofs.lemmas.List.Elements.{All-get_or}
use Rattle.bytecode_model.specs.Program.{Program}
use Rattle.method_flow.specs.Recursion.{MayCall}
use Rattle.method_flow.specs.Regions.{load}
use Rattle.method_flow.specs.declared.timing.Timing.{Timing}
use Rattle.bound_rules.specs.Fitting.{RegionFits, loads_of}
use Rattle.compact_walks.specs.Limited.{cycles_limit}
use Rattle.bound_finder.specs.declared.fit.Fit.{Fit}
use Rattle.bound_finder.specs.declared.known.Known.{Known}
use Rattle.bound_finder.specs.declared.found.Walked.{Walked}
use Rattle.bound_finder.specs.declared.found.Walked.TheVariants.{Never, Large}
use Rattle.method_flow.specs.Flow.{Coded}
use Rattle.bound_finder.specs.declared.prepared.Prepared.{Prepared}
use Rattle.bound_finder.specs.Known.{BoundSetting, unknown, known_at, bounds_in, IsLimited, IsKnownOf, Agrees, HasNumbers}
use Rattle.bound_finder.specs.Laws.{numbers_by}
use Rattle.bound_finder.specs.Found.{IsFitOf, IsWalked, found_by}
use Rattle.bound_finder.specs.Found.IsFitOf.{fits, exceeds}
use Rattle.bound_finder.specs.WalkedMethods.{WalkedMethod}
use Rattle.bound_finder.specs.FoundLaws.{KnownIs}
use Rattle.bound_finder.proofs.FoundNumbers.{has_agrees}
use Rattle.bound_report.specs.Settled.{asked_in}
use Rattle.bound_report.specs.Laws.{SettledAreWalked}

pub known_limited : (table : List Known) → All IsLimited table → (x : ℕ) → IsLimited (known_at table x)
known_limited table are x =
    elim (cases_lt x (length table)) [
      | inl below ↦ All-get_or IsLimited table x unknown below are
      | inr past ↦ subst IsLimited (sym (get_or_past table x unknown past)) (record { asked = tt; full = tt })
    ]

-- the numbers that are known agree with themselves
pub agree_with : (P : Program) (t : Timing) (table : List Known) → All IsLimited table → (x : ℕ) → Agrees P t (numbers_by table) x (known_at table x)
agree_with P t table few x =
    let has : HasNumbers P t (numbers_by table) x (known_at table x) = record { inside = λ together. refl; loops = λ apart. refl; full = refl } in
    has_agrees P t (numbers_by table) x (known_at table x) (known_limited table few x) has

-- whether all that may run fits the cache together, with loads
pub record Fitted (P : Program) (t : Timing) (m : ℕ) (b : Bool) : Type 0 where
  pub fit : Fit
  pub same : b ≡ fit.fits
  pub is : IsFitOf P t m fit

pub fitted : (P : Program) (t : Timing) (m : ℕ) (b : Bool) → IsTrue b ↔ RegionFits P t m → Fitted P t m b
fitted P t m true told =
    let together = told.0 refl in
    record { fit = record { fits = true; more = loads_of together }; same = refl; is = fits refl together refl }
fitted P t m false told = record {
  fit = record { fits = false; more = load P t.read m };
  same = refl;
  is = exceeds refl (λ together. let bad : false ≡ true = told.1 together in cc) refl;
}

-- the method, whatever its walks cost
abbrev method_with : (P : Program) (set : BoundSetting) (table : List Known) (m : ℕ) (k : Coded) (p : Prepared) (fit : Fit) → Walked → WalkedMethod
method_with P set table m k p fit walked = record {
  program = P;
  timing = set.timing;
  bound_of = bounds_in set;
  flow = set.flow;
  table = table;
  method = m;
  coded = k;
  prepared = p;
  fit = fit;
  walked = walked;
}

pub settled_are_walked : KnownIs → SettledAreWalked
settled_are_walked known_is P set table m k p h w = by w
  where
    fit : Fitted P set.timing m p.fits
    fit = fitted P set.timing m p.fits h.prepared.fits

    found : (w : Walked) → IsWalked p w → IsKnownOf P set.timing (bounds_in set) table m (found_by m fit.fit w).known
    found w is = known_is (method_with P set table m k p fit.fit w) (record { flow = h.flow; at = h.at; coded = h.coded; callees = h.settled.told; shape = h.shape; prepared = h.prepared; fits = fit.same; walked = is })
        h.waits.read h.waits.write h.limited fit.is

    by : IsWalked p Never ⊎ IsWalked p (Large cycles_limit) → ⊥
    by (inl never) =
        let some : IsSome (asked_in table m) = subst (λ (o : Option ℕ). IsSome o) (sym h.settled.is_number) refl in
        let ends = h.settled.known.told.asked.0 some in
        let bad : false ≡ true = (found Never never).told.asked.1 ends in
        cc
    by (inr large) =
        let agree : (x : ℕ) → MayCall P m x → Agrees P set.timing (numbers_by table) x (known_at table x) = λ x call. agree_with P set.timing table h.limited x in
        let exceeds = ((found (Large cycles_limit) large).exceeds (numbers_by table) agree h.settled.numbers).0 refl in
        let too_large = (h.settled.known.exceeds (numbers_by table) agree h.settled.numbers).1 exceeds in
        let bad : false ≡ true = sym h.settled.small ∙ too_large in
        cc
