-- Where none of its numbers is too large, what is found of a method are its numbers.
use Rattle.std.proofs.Common.{◌≡◌, ℕ, ◌+◌, ◌≤◌, false, List, length, All, Option, Some, None, IfSome, refl, sym, ap, ◌∙◌, subst, inl, inr}
use Rattle.std.specs.Prelude.{option_map}
use Rattle.std.proofs.lemmas.Bool.{cases_lt, leb-false}
use Rattle.std.proofs.lemmas.List.{get_or_past}
use Rattle.std.proofs.lemmas.List.Elements.{All-get_or}
use Rattle.section_check.specs.Bounded.{BoundedLoop, IsGreatest}
use Rattle.bytecode_model.specs.Program.{Program}
use Rattle.method_flow.specs.Flow.{Coded, IsCoded, IsCodedOf}
use Rattle.method_flow.specs.Keeping.{BoundOf}
use Rattle.method_flow.specs.Recursion.{MayCall}
use Rattle.method_flow.specs.Regions.{load}
use Rattle.method_flow.specs.declared.timing.Timing.{Timing}
use Rattle.bound_rules.specs.Costs.{added}
use Rattle.bound_rules.specs.Fitting.{RegionFits, loads_of}
use Rattle.bound_rules.specs.Numbers.{Numbers, LiveNest, charged_loops, no_fees, IsGreatestValue, loops_adds, IsInside, IsLoops, IsFull}
use Rattle.bound_rules.specs.Numbers.IsFull.{fits as fits_full, exceeds as exceeds_full}
use Rattle.compact_walks.specs.Limited.{cycles_limit, limited, limited_of, AreSmallAt}
use Rattle.bound_finder.specs.declared.known.Known.{Known}
use Rattle.bound_finder.specs.declared.prepared.Prepared.{Prepared}
use Rattle.bound_finder.specs.declared.fit.Fit.{Fit}
use Rattle.bound_finder.specs.declared.found.Walked.{Walked}
use Rattle.bound_finder.specs.declared.found.Walked.TheVariants.{Never, Shown, Large}
use Rattle.bound_finder.specs.Known.{unknown, known_at, IsLimited, CalleesAreKnown, AreNumbersOf, Agrees, HasNumbers}
use Rattle.bound_finder.specs.Prepared.{nest_of, IsInShape, IsPreparedFor}
use Rattle.bound_finder.specs.Found.{IsFitOf, IsWalked, found_by}
use Rattle.bound_finder.specs.Found.IsFitOf.{fits, exceeds}
use Rattle.bound_finder.proofs.Costing.{exact_costs}
use Rattle.bound_finder.proofs.Limiting.{limited_at_most, small_is}
use Rattle.bound_finder.proofs.Measuring.{OwnAreSmall, fees_in, loops_in, live_nest, loops_are}
use Rattle.bound_finder.proofs.OneAgrees.{fits_where, exceeds_where}
use Rattle.bound_finder.proofs.OneValue.{AreFoundLaws, plain_fees, told_inside, told_loops, loop_charges}
use Rattle.bound_finder.proofs.Valuing.{exit_in, greatest_out}

-- ---- exact numbers are limited ones

limited_already : (o : Option ℕ) → IfSome o (λ n. n ≤ cycles_limit) → o ≡ limited_of o
limited_already None le = refl
limited_already (Some n) le = ap (λ (k : ℕ). Some k) (sym (limited_at_most n le))

known_limited : (table : List Known) → All IsLimited table → (x : ℕ) → IsLimited (known_at table x)
known_limited table are x =
    elim (cases_lt x (length table)) [
      | inl below ↦ All-get_or IsLimited table x unknown below are
      | inr past ↦ subst IsLimited (sym (get_or_past table x unknown past)) (record { asked = tt; full = tt })
    ]

-- a family that has these numbers agrees on them
pub has_agrees : (P : Program) (t : Timing) (N : Numbers) (x : ℕ) (known : Known) → IsLimited known → HasNumbers P t N x known → Agrees P t N x known
has_agrees P t N x known few has = record {
  inside = λ together. limited_already known.asked few.asked ∙ ap limited_of (sym (has.inside together));
  loops = λ apart. limited_already known.asked few.asked ∙ ap limited_of (sym (has.loops apart));
  full = limited_already known.full few.full ∙ ap limited_of (sym has.full);
}

-- where no number is too large, that with all loads isn't limited
exact_full : (m : ℕ) (fit : Fit) (w : Walked) → (found_by m fit w).known.too_large ≡ false → (found_by m fit w).known.full ≡ option_map (λ n. n + fit.more) (found_by m fit w).known.asked
exact_full m fit Never e = refl
exact_full m fit (Shown n s) e = ap (λ (v : ℕ). Some v) (small_is (n + fit.more) (leb-false cycles_limit (limited (n + fit.more)) e))
exact_full m fit (Large n) e = absurd (cc)

module _ (laws : AreFoundLaws) (P : Program) (t : Timing) (bound_of : BoundOf) (k : Coded) (table : List Known) (m : ℕ) (p : Prepared) (c : IsCoded k) (of : IsCodedOf P m k) (ends : CalleesAreKnown P t table m) (shape : IsInShape p)
    (h : IsPreparedFor P t bound_of table m p) (small : OwnAreSmall P t m) (fit : Fit) (same_fits : p.fits ≡ fit.fits) (fit_of : IsFitOf P t m fit) (walked : Walked) (is : IsWalked p walked) (limited_table : All IsLimited table)
    (none : (found_by m fit walked).known.too_large ≡ false) (N : Numbers) (has : (x : ℕ) → MayCall P m x → HasNumbers P t N x (known_at table x)) (has_own : HasNumbers P t N m (found_by m fit walked).known) where
  abbrev known : Known
  known = (found_by m fit walked).known

  abbrev flow : LiveNest P bound_of m
  flow = live_nest laws.walks P t bound_of table m p h small

  abbrev loops : List BoundedLoop
  loops = loops_in laws.walks P t bound_of table m p h small

  abbrev fees : List ℕ
  fees = fees_in laws.walks P t bound_of table m p h small

  agree : (x : ℕ) → MayCall P m x → Agrees P t N x (known_at table x)
  agree x call = has_agrees P t N x (known_at table x) (known_limited table limited_table x) (has x call)

  few : AreSmallAt p.shape.nodes p.costs.items
  few = by walked is none
    where
      by : (w : Walked) → IsWalked p w → (found_by m fit w).known.too_large ≡ false → AreSmallAt p.shape.nodes p.costs.items
      by Never never e = never.0
      by (Shown n s) shown e = shown.small
      by (Large n) large e = absurd (cc)

  -- what is found is the value of the live graph
  value_is : IsGreatestValue h.graph p.costs.items loops known.asked
  value_is = by walked is none
    where
      by : (w : Walked) → IsWalked p w → (found_by m fit w).known.too_large ≡ false → IsGreatestValue h.graph p.costs.items loops (found_by m fit w).known.asked
      by Never never e = λ reach. never.1 (exit_in laws.walks P t bound_of table m p h small reach)
      by (Shown n s) shown e = subst (λ (v : ℕ). IsGreatest h.graph p.costs.items loops v) (sym shown.value_is) (greatest_out laws.walks P t bound_of table m p h small shown.solution.value shown.shown.greatest)
      by (Large n) large e = absurd (cc)

  value_of : (others : List ℕ) (value : Option ℕ) → others ≡ fees → value ≡ known.asked → IsGreatestValue h.graph p.costs.items (charged_loops flow others) value
  value_of others value same e =
      subst (λ (ls : List BoundedLoop). IsGreatestValue h.graph p.costs.items ls value) (sym (ap (λ (fs : List ℕ). charged_loops flow fs) same ∙ loops_are laws.walks P t bound_of table m p h small))
      (subst (λ (o : Option ℕ). IsGreatestValue h.graph p.costs.items loops o) (sym e) value_is)

  inside : RegionFits P t m → IsInside P t bound_of N m
  inside together =
      let fits = fits_where laws P t bound_of k table m p c of ends shape h small fit same_fits fit_of together in
      record {
        flow = flow;
        costs = p.costs.items;
        are_costs = exact_costs laws.walks P t bound_of table m p h small (λ q. added P m q N.inside) (told_inside laws P t bound_of k table m p c of ends shape h small fits together N agree) few;
        value = value_of (no_fees flow) (N.inside m) (plain_fees laws P t bound_of k table m p c of ends shape h small fits flow) (has_own.inside together);
      }

  by_loops : (RegionFits P t m → ⊥) → IsLoops P t bound_of N m
  by_loops apart =
      let exceeds = exceeds_where laws P t bound_of k table m p c of ends shape h small fit same_fits fit_of apart in
      let charges = loop_charges laws P t bound_of k table m p c of ends shape h small exceeds in
      record {
        flow = flow;
        flags = p.charges.flags.items;
        charged = charges.charged;
        fees = fees;
        are_fees = charges.loads;
        costs = p.costs.items;
        are_costs = exact_costs laws.walks P t bound_of table m p h small (loops_adds P t N m (nest_of p.shape) p.charges.flags.items) (told_loops laws P t bound_of k table m p c of ends shape h small exceeds N agree) few;
        value = value_of fees (N.loops m) refl (has_own.loops apart);
      }

  full_by : (value : Option ℕ) (more : ℕ) → value ≡ known.asked → fit.more ≡ more → N.full m ≡ option_map (λ n. n + more) value
  full_by value more asked loads =
      has_own.full ∙ (exact_full m fit walked none ∙ (ap (option_map (λ n. n + fit.more)) (sym asked) ∙ ap (λ (b : ℕ). option_map (λ n. n + b) value) loads))

  full : IsFitOf P t m fit → IsFull P t N m
  full (fits e together loads) = fits_full together (full_by (N.inside m) (loads_of together) (has_own.inside together) loads)
  full (exceeds e apart loads) = exceeds_full apart (full_by (N.loops m) (load P t.read m) (has_own.loops apart) loads)

  pub are_numbers : AreNumbersOf P t bound_of N m
  are_numbers = record { inside = inside; loops = by_loops; full = full fit_of }
