-- What is found of a method says whether what may run while it does fits the cache together, whether it can end, and what it has with all loads.
use Rattle.std.proofs.Common.{◌≡◌, ◌↔◌, ℕ, ◌+◌, true, false, List, Option, Some, None, refl, sym, ap, ◌∙◌, subst, arith}
use Rattle.std.specs.Prelude.{IsSome, IsTrue}
use Rattle.std.proofs.lemmas.Bool.{le-leb}
use Rattle.lists.proofs.Lemmas.{none≢some, some_same}
use Rattle.section_check.specs.Bounded.{BoundedLoop, IsBoundedWalk}
use Rattle.path_solver.specs.Reaching.{ReachesExit}
use Rattle.bytecode_model.specs.Program.{Program}
use Rattle.method_flow.specs.Flow.{Coded, IsCoded, IsCodedOf}
use Rattle.method_flow.specs.Keeping.{BoundOf}
use Rattle.method_flow.specs.Live.{CanEnd}
use Rattle.method_flow.specs.declared.timing.Timing.{Timing}
use Rattle.bound_rules.specs.Fitting.{RegionFits}
use Rattle.compact_walks.specs.Limited.{cycles_limit, limited}
use Rattle.bound_finder.specs.declared.known.Known.{Known}
use Rattle.bound_finder.specs.declared.prepared.Prepared.{Prepared}
use Rattle.bound_finder.specs.declared.fit.Fit.{Fit}
use Rattle.bound_finder.specs.declared.found.Walked.{Walked}
use Rattle.bound_finder.specs.declared.found.Walked.TheVariants.{Never, Shown, Large}
use Rattle.bound_finder.specs.Known.{CalleesAreKnown, IsFullBy, IsToldOf}
use Rattle.bound_finder.specs.Known.IsFullBy.{fits as full_fits, exceeds as full_exceeds}
use Rattle.bound_finder.specs.Telling.{with_back}
use Rattle.bound_finder.specs.Prepared.{IsInShape, IsPreparedFor}
use Rattle.bound_finder.specs.Found.{IsFitOf, IsWalked, IsLargeBy, found_by}
use Rattle.bound_finder.specs.Found.IsFitOf.{fits, exceeds}
use Rattle.bound_finder.specs.Found.IsLargeBy.{node, walk, iterations}
use Rattle.bound_finder.proofs.Measuring.{OwnAreSmall, loops_in, dear_walk}
use Rattle.bound_finder.proofs.OneValue.{AreFoundLaws}
use Rattle.bound_finder.proofs.Reached.{ends_at_exit}
use Rattle.bound_finder.proofs.Valuing.{exit_out, exit_in}

-- ---- what is found, by its parts

pub found_fits : (m : ℕ) (fit : Fit) (w : Walked) → (found_by m fit w).known.fits ≡ fit.fits
found_fits m fit Never = refl
found_fits m fit (Shown n s) = refl
found_fits m fit (Large n) = refl

pub found_full : (m : ℕ) (fit : Fit) (w : Walked) → (found_by m fit w).known.full ≡ with_back fit.more (found_by m fit w).known.asked
found_full m fit Never = refl
found_full m fit (Shown n s) = refl
found_full m fit (Large n) = refl

same_some : (more : ℕ) (o : Option ℕ) → IsSome (with_back more o) ↔ IsSome o
same_some more None = (λ e. e, λ e. e)
same_some more (Some n) = (λ e. refl, λ e. refl)

-- a number with all loads that is limited is known to be too large
pub large_found : (m : ℕ) (fit : Fit) (w : Walked) → (found_by m fit w).known.full ≡ Some cycles_limit → IsTrue (found_by m fit w).known.too_large
large_found m fit Never e = absurd (none≢some cycles_limit e)
large_found m fit (Shown n s) e = let same = some_same (limited (n + fit.more)) cycles_limit e in le-leb cycles_limit (limited (n + fit.more)) (omega arith)
large_found m fit (Large n) e = refl

module _ (laws : AreFoundLaws) (P : Program) (t : Timing) (bound_of : BoundOf) (k : Coded) (table : List Known) (m : ℕ) (p : Prepared) (c : IsCoded k) (of : IsCodedOf P m k) (ends : CalleesAreKnown P t table m) (shape : IsInShape p)
    (h : IsPreparedFor P t bound_of table m p) (small : OwnAreSmall P t m) (fit : Fit) (same_fits : p.fits ≡ fit.fits) (fit_of : IsFitOf P t m fit) (walked : Walked) (is : IsWalked p walked) where
  abbrev known : Known
  known = (found_by m fit walked).known

  abbrev loops : List BoundedLoop
  loops = loops_in laws.walks P t bound_of table m p h small

  -- ---- told

  exit_of : (ns : List ℕ) → IsBoundedWalk h.graph loops ns → ReachesExit p.shape.graph 0
  exit_of ns w = exit_in laws.walks P t bound_of table m p h small (record { exit = w.last; among = w.exit; nodes = ns; walk = w.walk })

  large_exit : (n : ℕ) → IsLargeBy p n → ReachesExit p.shape.graph 0
  large_exit n (node e same) = let w = dear_walk laws.walks P t bound_of table m p h small e in exit_of w.walk w.bounded
  large_exit n (walk few w same) = record { exit = w.bounded.last; among = w.bounded.exit; nodes = w.walk; walk = w.bounded.walk }
  large_exit n (iterations few greatest below over) = record { exit = greatest.bounded.last; among = greatest.bounded.exit; nodes = greatest.walk; walk = greatest.bounded.walk }

  asked_at_exit : (w : Walked) → IsWalked p w → IsSome (found_by m fit w).known.asked ↔ ReachesExit p.shape.graph 0
  asked_at_exit Never never = (λ e. let bad : false ≡ true = e in absurd (cc), λ reach. absurd (never.1 reach))
  asked_at_exit (Shown n s) shown = (λ e. shown.shown.reached, λ reach. refl)
  asked_at_exit (Large n) large = (λ e. large_exit n large, λ reach. refl)

  ends_if_asked : IsSome known.asked ↔ CanEnd P m
  ends_if_asked =
      let ending = ends_at_exit P m h.graph h.is_live laws.ending in
      let asked = asked_at_exit walked is in (
        λ e. ending.1 (exit_out laws.walks P t bound_of table m p h small (asked.0 e)),
        λ end. asked.1 (exit_in laws.walks P t bound_of table m p h small (ending.0 end)),
      )

  fits_told : IsFitOf P t m fit → IsTrue known.fits ↔ RegionFits P t m
  fits_told (fits e together more) = (λ yes'. together, λ region. found_fits m fit walked ∙ e)
  fits_told (exceeds e apart more) = (λ fits'. let bad : false ≡ true = sym e ∙ (sym (found_fits m fit walked) ∙ fits') in absurd (cc), λ region. absurd (apart region))

  full_by : IsFitOf P t m fit → IsFullBy P t m known
  full_by (fits e together more) = full_fits together (found_full m fit walked ∙ ap (λ (b : ℕ). with_back b known.asked) more)
  full_by (exceeds e apart more) = full_exceeds apart (found_full m fit walked ∙ ap (λ (b : ℕ). with_back b known.asked) more)

  pub is_told : IsToldOf P t m known
  is_told =
      let same = same_some fit.more known.asked in
      let full = found_full m fit walked in
      record {
        fits = fits_told fit_of;
        asked = ends_if_asked;
        full = (λ e. ends_if_asked.0 (same.0 (subst (λ (o : Option ℕ). IsSome o) full e)), λ end. subst (λ (o : Option ℕ). IsSome o) (sym full) (same.1 (ends_if_asked.1 end)));
        sum = full_by fit_of;
      }
