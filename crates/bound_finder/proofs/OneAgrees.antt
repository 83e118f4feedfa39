-- What is found of a method agrees with each family of numbers that agrees on all that it may call, and says whether one of its numbers is too large.
use Rattle.std.proofs.Common.{◌≡◌, ◌↔◌, ℕ, ◌+◌, ◌≤◌, true, false, List, Option, Some, None, refl, sym, ap, ◌∙◌, subst, arith}
use Rattle.std.specs.Prelude.{option_map, IsTrue}
use Rattle.std.proofs.lemmas.Bool.{leb-true}
use Rattle.lists.proofs.Lemmas.{none≢some, some_same}
use Rattle.loop_nest.specs.Digraph.{Digraph}
use Rattle.section_check.specs.Bounded.{BoundedLoop}
use Rattle.path_solver.specs.Longest.{IterationsExceed}
use Rattle.bytecode_model.specs.Program.{Program}
use Rattle.method_flow.specs.Flow.{Coded, IsCoded, IsCodedOf}
use Rattle.method_flow.specs.Keeping.{BoundOf}
use Rattle.method_flow.specs.Recursion.{MayCall}
use Rattle.method_flow.specs.Regions.{load}
use Rattle.method_flow.specs.declared.timing.Timing.{Timing}
use Rattle.bound_rules.specs.Fitting.{RegionFits, loads_of}
use Rattle.bound_rules.specs.Numbers.{Numbers, charged_loops, no_fees, IsInside, IsLoops, IsFull}
use Rattle.bound_rules.specs.Numbers.IsFull.{fits as fits_full, exceeds as exceeds_full}
use Rattle.bound_rules.proofs.Sums.{same_loads}
use Rattle.compact_walks.specs.Limited.{cycles_limit, limited, limited_of, AreSmallAt}
use Rattle.compact_walks.specs.Solving.{loops_of}
use Rattle.bound_finder.specs.declared.known.Known.{Known}
use Rattle.bound_finder.specs.declared.prepared.Prepared.{Prepared}
use Rattle.bound_finder.specs.declared.fit.Fit.{Fit}
use Rattle.bound_finder.specs.declared.found.Walked.{Walked}
use Rattle.bound_finder.specs.declared.found.Walked.TheVariants.{Never, Shown, Large}
use Rattle.bound_finder.specs.Known.{known_at, CalleesAreKnown, AreNumbersOf, Agrees, ExceedsBeside}
use Rattle.bound_finder.specs.Known.ExceedsBeside.{full as exceeds_whole, inside as exceeds_inside, loops as exceeds_loops}
use Rattle.bound_finder.specs.Telling.{with_back}
use Rattle.bound_finder.specs.Prepared.{IsInShape, IsPreparedFor}
use Rattle.bound_finder.specs.Found.{costs_of, problem_of, IsFitOf, IsWalked, found_by}
use Rattle.bound_finder.specs.Found.IsFitOf.{fits, exceeds}
use Rattle.bound_finder.specs.Found.IsLargeBy.{node, walk, iterations}
use Rattle.bound_finder.proofs.Exceeding.{iterations_out, exceeding_is_found}
use Rattle.bound_finder.proofs.Knowing.{found_full, large_found}
use Rattle.bound_finder.proofs.Limiting.{limited_above, large_is, back_limited}
use Rattle.bound_finder.proofs.Measuring.{OwnAreSmall, loops_in}
use Rattle.bound_finder.proofs.OneValue.{AreFoundLaws, IsOne, one_inside, one_loops_number}
use Rattle.bound_finder.proofs.Valuing.{found_is_value}

module _ (laws : AreFoundLaws) (P : Program) (t : Timing) (bound_of : BoundOf) (k : Coded) (table : List Known) (m : ℕ) (p : Prepared) (c : IsCoded k) (of : IsCodedOf P m k) (ends : CalleesAreKnown P t table m) (shape : IsInShape p)
    (h : IsPreparedFor P t bound_of table m p) (small : OwnAreSmall P t m) (fit : Fit) (same_fits : p.fits ≡ fit.fits) (fit_of : IsFitOf P t m fit) where
  abbrev loops : List BoundedLoop
  loops = loops_in laws.walks P t bound_of table m p h small

  -- ---- the loads beside walks

  pub fits_where : RegionFits P t m → p.fits ≡ true
  fits_where together = by fit_of
    where
      by : IsFitOf P t m fit → p.fits ≡ true
      by (fits e region more) = same_fits ∙ e
      by (exceeds e apart more) = absurd (apart together)

  pub exceeds_where : (RegionFits P t m → ⊥) → p.fits ≡ false
  exceeds_where apart = by fit_of
    where
      by : IsFitOf P t m fit → p.fits ≡ false
      by (fits e region more) = absurd (apart region)
      by (exceeds e apart' more) = same_fits ∙ e

  pub more_together : (together : RegionFits P t m) → fit.more ≡ loads_of together
  more_together together = by fit_of
    where
      by : IsFitOf P t m fit → fit.more ≡ loads_of together
      by (fits e region more) = more ∙ same_loads region together
      by (exceeds e apart more) = absurd (apart together)

  pub more_own : (RegionFits P t m → ⊥) → fit.more ≡ load P t.read m
  more_own apart = by fit_of
    where
      by : IsFitOf P t m fit → fit.more ≡ load P t.read m
      by (fits e region more) = absurd (apart region)
      by (exceeds e apart' more) = more

  -- ---- a family that agrees

  module _ (walked : Walked) (is : IsWalked p walked) (N : Numbers) (agree : (x : ℕ) → MayCall P m x → Agrees P t N x (known_at table x)) (numbers : AreNumbersOf P t bound_of N m) where
    abbrev known : Known
    known = (found_by m fit walked).known

    abbrev AreOne : (graph : Digraph) (bounded : List BoundedLoop) (costs : List ℕ) (value : Option ℕ) → Type 0
    AreOne graph bounded costs value = IsOne laws P t bound_of k table m p c of ends shape h small graph bounded costs value

    one_in : (together : RegionFits P t m) (x : IsInside P t bound_of N m) → AreOne x.flow.graph (charged_loops x.flow (no_fees x.flow)) x.costs (N.inside m)
    one_in together x = one_inside laws P t bound_of k table m p c of ends shape h small (fits_where together) together N agree x

    one_by_loops : (RegionFits P t m → ⊥) → (x : IsLoops P t bound_of N m) → AreOne x.flow.graph (charged_loops x.flow x.fees) x.costs (N.loops m)
    one_by_loops apart x = one_loops_number laws P t bound_of k table m p c of ends shape h small (exceeds_where apart) N agree x

    asked_is : (graph : Digraph) (bounded : List BoundedLoop) (costs : List ℕ) (value : Option ℕ) → AreOne graph bounded costs value → known.asked ≡ limited_of value
    asked_is graph bounded costs value one = found_is_value laws.walks P t bound_of table m p h small costs one.are_limited value one.is_value fit walked is

    asked_inside : RegionFits P t m → known.asked ≡ limited_of (N.inside m)
    asked_inside together = let x = numbers.inside together in asked_is x.flow.graph (charged_loops x.flow (no_fees x.flow)) x.costs (N.inside m) (one_in together x)

    asked_loops : (RegionFits P t m → ⊥) → known.asked ≡ limited_of (N.loops m)
    asked_loops apart = let x = numbers.loops apart in asked_is x.flow.graph (charged_loops x.flow x.fees) x.costs (N.loops m) (one_by_loops apart x)

    full_by : (value : Option ℕ) (more : ℕ) → known.asked ≡ limited_of value → fit.more ≡ more → N.full m ≡ option_map (λ n. n + more) value → known.full ≡ limited_of (N.full m)
    full_by value more asked loads full =
        found_full m fit walked ∙ (ap (with_back fit.more) asked ∙ (back_limited fit.more value ∙ (ap (λ (b : ℕ). limited_of (option_map (λ n. n + b) value)) loads ∙ ap limited_of (sym full))))

    full_agrees : IsFull P t N m → known.full ≡ limited_of (N.full m)
    full_agrees (fits_full together e) = full_by (N.inside m) (loads_of together) (asked_inside together) (more_together together) e
    full_agrees (exceeds_full apart e) = full_by (N.loops m) (load P t.read m) (asked_loops apart) (more_own apart) e

    pub agrees : Agrees P t N m known
    agrees = record { inside = asked_inside; loops = asked_loops; full = full_agrees numbers.full }

    -- ---- numbers that are too large

    over_there : (graph : Digraph) (bounded : List BoundedLoop) (costs : List ℕ) (value : Option ℕ) → AreOne graph bounded costs value → IterationsExceed h.graph costs loops → IterationsExceed graph costs bounded
    over_there graph bounded costs value one over =
        subst (λ (g : Digraph). IterationsExceed g costs bounded) (sym one.same_graph) (subst (λ (ls : List BoundedLoop). IterationsExceed h.graph costs ls) (sym one.same_loops) over)

    over_here : (graph : Digraph) (bounded : List BoundedLoop) (costs : List ℕ) (value : Option ℕ) → AreOne graph bounded costs value → IterationsExceed graph costs bounded → IterationsExceed h.graph costs loops
    over_here graph bounded costs value one over =
        subst (λ (ls : List BoundedLoop). IterationsExceed h.graph costs ls) one.same_loops (subst (λ (g : Digraph). IterationsExceed g costs bounded) one.same_graph over)

    whole_exceeds : (v : ℕ) → cycles_limit ≤ v → Some v ≡ limited_of (N.full m) → (o : Option ℕ) → N.full m ≡ o → ExceedsBeside P t bound_of N m
    whole_exceeds v large same None e = absurd (none≢some v (sym (same ∙ ap limited_of e)))
    whole_exceeds v large same (Some n) e = let one = some_same v (limited n) (same ∙ ap limited_of e) in exceeds_whole n e (large_is n (omega arith))

    iterations_exceed : AreSmallAt p.shape.nodes p.costs.items → IterationsExceed p.shape.graph (costs_of p) (loops_of (problem_of p)) → IsFitOf P t m fit → ExceedsBeside P t bound_of N m
    iterations_exceed few over (fits e together more) =
        let x = numbers.inside together in
        let one = one_in together x in
        exceeds_inside together x (over_there x.flow.graph (charged_loops x.flow (no_fees x.flow)) x.costs (N.inside m) one (iterations_out laws.walks P t bound_of table m p h small x.costs one.are_limited few over))
    iterations_exceed few over (exceeds e apart more) =
        let x = numbers.loops apart in
        let one = one_by_loops apart x in
        exceeds_loops apart x (over_there x.flow.graph (charged_loops x.flow x.fees) x.costs (N.loops m) one (iterations_out laws.walks P t bound_of table m p h small x.costs one.are_limited few over))

    large_exceeds : (w : Walked) → IsWalked p w → (found_by m fit w).known.full ≡ limited_of (N.full m) → IsTrue (found_by m fit w).known.too_large → ExceedsBeside P t bound_of N m
    large_exceeds Never never full e = absurd (cc)
    large_exceeds (Shown n s) shown full e = whole_exceeds (limited (n + fit.more)) (leb-true cycles_limit (limited (n + fit.more)) e) full (N.full m) refl
    large_exceeds (Large n) (node x same) full e = let top = limited_above (n + fit.more) (omega arith) in whole_exceeds (limited (n + fit.more)) (omega arith) full (N.full m) refl
    large_exceeds (Large n) (walk few x same) full e = let top = limited_above (n + fit.more) (omega arith) in whole_exceeds (limited (n + fit.more)) (omega arith) full (N.full m) refl
    large_exceeds (Large n) (iterations few greatest below over) full e = iterations_exceed few over fit_of

    exceeding_large : ExceedsBeside P t bound_of N m → IsTrue known.too_large
    exceeding_large (exceeds_whole n e large) = large_found m fit walked (full_agrees numbers.full ∙ (ap limited_of e ∙ ap (λ (v : ℕ). Some v) (limited_above n large)))
    exceeding_large (exceeds_inside together x over) =
        let one = one_in together x in
        exceeding_is_found laws.walks P t bound_of table m p h small x.costs one.are_limited fit walked is (over_here x.flow.graph (charged_loops x.flow (no_fees x.flow)) x.costs (N.inside m) one over)
    exceeding_large (exceeds_loops apart x over) =
        let one = one_by_loops apart x in
        exceeding_is_found laws.walks P t bound_of table m p h small x.costs one.are_limited fit walked is (over_here x.flow.graph (charged_loops x.flow x.fees) x.costs (N.loops m) one over)

    pub says_exceeding : IsTrue known.too_large ↔ ExceedsBeside P t bound_of N m
    says_exceeding = (large_exceeds walked is (full_agrees numbers.full), exceeding_large)
