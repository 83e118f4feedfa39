-- What is found of one method: what is known of it, and its section.
use Rattle.std.specs.Prelude.{◌≡◌, ◌≢◌, ℕ, ◌+◌, ◌<◌, ◌≤◌, nat_le, ◌||◌, Bool, true, false, if◌then◌else◌, List, [], All, Option, Some, None, IfSome}
use Rattle.section_check.specs.Bounded.{IsGreatest}
use Rattle.section_check.specs.Section.{Certified}
use Rattle.section_check.specs.Renumbering.{moved}
use Rattle.path_solver.specs.Reaching.{ReachesExit}
use Rattle.path_solver.specs.Longest.{WalkExceeds, IterationsExceed}
use Rattle.path_solver.specs.Solution.{Solution}
use Rattle.bytecode_model.specs.Program.{Program}
use Rattle.certificates.specs.declared.lines.line.SectionKind.{SectionKind}
use Rattle.certificates.specs.declared.lines.line.SectionKind.TheVariants.{Inside, Loops}
use Rattle.certificates.specs.declared.cert.CertSection.{CertSection}
use Rattle.certificates.specs.Certificate.{IsSectionInText}
use Rattle.method_flow.specs.Keeping.{BoundOf}
use Rattle.method_flow.specs.Recursion.{MayCall}
use Rattle.method_flow.specs.declared.timing.Timing.{Timing}
use Rattle.method_flow.specs.Regions.{load}
use Rattle.bound_rules.specs.Fitting.{RegionFits, loads_of}
use Rattle.bound_rules.specs.Told.{Valued, value_in}
use Rattle.bound_rules.specs.Sections.{MeetsSection}
use Rattle.bound_finder.specs.declared.known.Known.{Known}
use Rattle.compact_walks.specs.Limited.{cycles_limit, limited, picked, AreSmallAt, SomeExceeds}
use Rattle.compact_walks.specs.Solving.{Problem, loops_of, IsShownWalk}
use Rattle.bound_finder.specs.declared.fit.Fit.{Fit}
use Rattle.bound_finder.specs.declared.found.Walked.{Walked}
use Rattle.bound_finder.specs.declared.found.Walked.TheVariants.{Never, Shown, Large}
use Rattle.bound_finder.specs.declared.found.Found.{Found}
use Rattle.bound_finder.specs.declared.prepared.Prepared.{Prepared}
use Rattle.bound_finder.specs.Prepared.{node_of}
use Rattle.bound_finder.specs.Known.{BoundSetting, bounds_in, ForEach, known_at, IsLimited, CalleesAreKnown, IsKnownOf}

-- ---- the loads beside walks

-- whether what may run while the method does fits the cache together, and what its number with all loads has beside the one that is asked of it
pub data IsFitOf (P : Program) (t : Timing) (m : ℕ) (fit : Fit) : Type 0 where
  fits : fit.fits ≡ true → (together : RegionFits P t m) → fit.more ≡ loads_of together → IsFitOf P t m fit
  exceeds : fit.fits ≡ false → ¬ RegionFits P t m → fit.more ≡ load P t.read m → IsFitOf P t m fit

-- ---- walks

abbrev pub costs_of : Prepared → List ℕ
costs_of p = picked p.shape.nodes p.costs.items

abbrev pub problem_of : Prepared → Problem
problem_of p = record {
  graph = p.shape.graph;
  nest = p.shape.nest;
  costs = costs_of p;
  bounds = p.bounds.items;
  loads = p.charges.loads.items;
  regions
      = p.charges.flags.items;
}

-- the greatest walk costs so much, by a solution that this section has under the other numbers
pub record IsShownBy (p : Prepared) (value : ℕ) (s : Certified) : Type 0 where
  pub small : AreSmallAt p.shape.nodes p.costs.items
  pub solution : Solution
  pub shown : IsShownWalk (problem_of p) solution
  pub value_is : value ≡ solution.value
  pub section_is : s ≡ moved (node_of p.shape) solution.section
  pub iterations : All (λ l. l.iteration_cost < cycles_limit) s.loops

-- a node costs too much, or a walk does; or the greatest walk costs so much, and iterations exceed 64 bits together
pub data IsLargeBy (p : Prepared) (value : ℕ) : Type 0 where
  node : SomeExceeds p.shape.nodes p.costs.items → value ≡ cycles_limit → IsLargeBy p value
  walk : AreSmallAt p.shape.nodes p.costs.items → WalkExceeds p.shape.graph (costs_of p) (loops_of (problem_of p)) → value ≡ cycles_limit → IsLargeBy p value
  iterations : AreSmallAt p.shape.nodes p.costs.items → IsGreatest p.shape.graph (costs_of p) (loops_of (problem_of p)) value → value < cycles_limit
      → IterationsExceed p.shape.graph (costs_of p) (loops_of (problem_of p)) → IsLargeBy p value

abbrev pub IsWalked : Prepared → Walked → Type 0
IsWalked p Never = AreSmallAt p.shape.nodes p.costs.items × (¬ ReachesExit p.shape.graph 0)
IsWalked p (Shown value s) = IsShownBy p value s
IsWalked p (Large value) = IsLargeBy p value

-- its number is limited
abbrev pub IsSmallWalked : Walked → Type 0
IsSmallWalked (Large value) = value ≤ cycles_limit
IsSmallWalked w = Unit {0}

-- ---- what is found

abbrev pub kind_of : (fits : Bool) → SectionKind
kind_of true = Inside
kind_of false = Loops

-- what is known of a method whose greatest walk costs so much
abbrev pub known_by : Fit → (value : ℕ) → (too_large : Bool) → Known
known_by fit value too_large = record {
  fits = fit.fits;
  asked = Some value;
  full = Some (limited (value + fit.more));
  too_large = too_large || nat_le cycles_limit (limited (value + fit.more));
}

abbrev pub section_by : (method : ℕ) → Fit → Certified → CertSection
section_by m fit s = record { kind = kind_of fit.fits; method = m; section = s }

abbrev pub section_unless : (too_large : Bool) → CertSection → Option CertSection
section_unless too_large s = if too_large then None else Some s

abbrev pub found_by : (method : ℕ) → Fit → Walked → Found
found_by m fit Never = record {
  known = record { fits = fit.fits; asked = None; full = None; too_large = false };
  section = Some
      (section_by m fit (record { nodes = []; loops = [] }));
}
found_by m fit (Shown value s) = record { known = known_by fit value false; section = section_unless (known_by fit value false).too_large (section_by m fit s) }
found_by m fit (Large value) = record { known = known_by fit value true; section = None }

-- ---- what it says

-- earlier sections have the number of each method that m may call, in the kind that its region asks for
abbrev pub Cover : Program → (table : List Known) → (earlier : List Valued) → (method : ℕ) → Type 0
Cover P table earlier m = (x : ℕ) → MayCall P m x → value_in (known_at table x).fits x earlier ≡ Some (known_at table x).asked

-- the section is that of the method, in the kind that its region asks for, and can be written
pub record IsSectionOf (m : ℕ) (k : Known) (s : CertSection) : Type 0 where
  pub method : s.method ≡ m
  pub kind : s.kind ≡ kind_of k.fits
  pub in_text : IsSectionInText 2 s

-- it meets its conditions behind all sections that have these numbers
abbrev pub ShowsNumber : Program → Timing → BoundOf → (table : List Known) → (method : ℕ) → Known → CertSection → Type 0
ShowsNumber P t bound_of table m k s = (earlier : List Valued) → Cover P table earlier m → MeetsSection P t bound_of earlier s k.asked

-- a section of the method m shows what is known of it
pub record HasSection (P : Program) (t : Timing) (bound_of : BoundOf) (table : List Known) (m : ℕ) (k : Known) : Type 0 where
  pub section : CertSection
  pub of_method : IsSectionOf m k section
  pub shows : ShowsNumber P t bound_of table m k section

-- What is found of the method m: for each program of the table, where the numbers of all that it may call are known, what is known of it; and where
-- none of its numbers is too large, its section.
pub record IsFoundOf (set : BoundSetting) (table : List Known) (m : ℕ) (f : Found) : Type 0 where
  pub limited : IsLimited f.known
  pub known : ForEach set (λ P. CalleesAreKnown P set.timing table m → IsKnownOf P set.timing (bounds_in set) table m f.known)
  pub none : f.known.too_large ≡ true → f.section ≡ None
  pub some : f.known.too_large ≡ false → f.section ≢ None
  pub section : IfSome f.section (λ s. IsSectionOf m f.known s
      × ForEach set (λ P. CalleesAreKnown P set.timing table m → ShowsNumber P set.timing (bounds_in set) table m f.known s))
  pub empty : IfSome f.section (λ s. f.known.asked ≡ None → s.section.nodes ≡ [])
