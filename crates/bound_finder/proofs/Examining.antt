-- What is found of a method by its walks is what is said of it for each program of the table.
use Rattle.std.proofs.Common.{◌≡◌, ◌≢◌, ℕ, ◌+◌, ◌^◌, ◌<◌, Bool, true, false, List, [], All, Option, Some, None, refl, sym, ap, ◌∙◌, inl, inr, arith}
use Rattle.std.specs.Prelude.{IfSome, slice_get}
use Rattle.std.proofs.lemmas.Bool.{cases_lt}
use Rattle.lists.proofs.Lemmas.{none≢some}
use Rattle.path_solver.specs.Longest.WalksAreTooLarge.{walk}
use Rattle.bytecode_model.specs.Program.{Program}
use Rattle.certificates.specs.declared.cert.CertSection.{CertSection}
use Rattle.method_flow.specs.Flow.{Coded, IsCoded}
use Rattle.compact_walks.specs.Limited.{cycles_limit, limited}
use Rattle.bound_finder.specs.declared.fit.Fit.{Fit}
use Rattle.bound_finder.specs.declared.found.Walked.{Walked}
use Rattle.bound_finder.specs.declared.found.Walked.TheVariants.{Never, Shown, Large}
use Rattle.bound_finder.specs.declared.known.Known.{Known}
use Rattle.bound_finder.specs.declared.prepared.Prepared.{Prepared}
use Rattle.bound_finder.specs.Known.{BoundSetting, IsBoundSetting, bounds_in, ForEach, CalleesAreKnown, IsLimited}
use Rattle.bound_finder.specs.Prepared.{AreBounds, IsInShape, IsPreparedFor}
use Rattle.bound_finder.specs.Found.{IsFitOf, IsFoundOf, IsSectionOf, IsShownBy, IsSmallWalked, IsWalked, ShowsNumber, found_by, known_by, section_by, section_unless}
use Rattle.bound_finder.specs.WalkedMethods.{WalkedMethod}
use Rattle.bound_finder.specs.FoundLaws.{KnownIs}
use Rattle.bound_finder.specs.ShowLaws.{FoundShows, FoundInText}
use Rattle.bound_finder.proofs.Limiting.{limited_most}

-- the greatest walk of a solution is within 64 bits
shown_small : (p : Prepared) (value : ℕ) (s : _) → IsShownBy p value s → value < cycles_limit
shown_small p value s w =
    elim (cases_lt w.solution.value cycles_limit) [
      | inl less ↦ let is = w.value_is in omega arith
      | inr more ↦
          let g = w.shown.greatest in
          absurd (w.shown.small (walk (record { walk = g.walk; bounded = g.bounded; exceeds = let is = g.attained in omega arith })))
    ]

module _ (m : ℕ) (p : Prepared) (fit : Fit) where
  found_limited : (walked : Walked) → IsWalked p walked → IsSmallWalked walked → IsLimited (found_by m fit walked).known
  found_limited Never w small = record { asked = tt; full = tt }
  found_limited (Shown value s) w small = record { asked = (let less = shown_small p value s w in omega arith); full = limited_most (value + fit.more) }
  found_limited (Large value) w small = record { asked = small; full = limited_most (value + fit.more) }

  none_if : (large : Bool) (s : CertSection) → large ≡ true → section_unless large s ≡ None
  none_if large s e = ap (λ (b : Bool). section_unless b s) e

  some_if : (large : Bool) (s : CertSection) → large ≡ false → section_unless large s ≢ None
  some_if large s e none = none≢some s (sym none ∙ ap (λ (b : Bool). section_unless b s) e)

  found_none : (walked : Walked) → (found_by m fit walked).known.too_large ≡ true → (found_by m fit walked).section ≡ None
  found_none Never e = absurd (let bad : false ≡ true = e in cc)
  found_none (Shown value s) e = none_if (known_by fit value false).too_large (section_by m fit s) e
  found_none (Large value) e = refl

  found_some : (walked : Walked) → (found_by m fit walked).known.too_large ≡ false → (found_by m fit walked).section ≢ None
  found_some Never e = λ none. none≢some _ (sym none)
  found_some (Shown value s) e = some_if (known_by fit value false).too_large (section_by m fit s) e
  found_some (Large value) e = absurd (let bad : true ≡ false = e in cc)

-- a section that is there is so
if_there : (large : Bool) (s : CertSection) (K : CertSection → Type 0) → K s → IfSome (section_unless large s) K
if_there true s K k = tt
if_there false s K k = k

-- that of a method that can't end lists no node
found_empty : (m : ℕ) (fit : Fit) (walked : Walked) → IfSome (found_by m fit walked).section (λ s. (found_by m fit walked).known.asked ≡ None → s.section.nodes ≡ [])
found_empty m fit Never = λ e. refl
found_empty m fit (Shown value s) =
    if_there (known_by fit value false).too_large (section_by m fit s) (λ x. (known_by fit value false).asked ≡ None → x.section.nodes ≡ []) (λ e. absurd (none≢some value (sym e)))
found_empty m fit (Large value) = tt

-- what holds of the section for each program holds of it for all of them
for_each : (set : BoundSetting) (table : List Known) (m : ℕ) (o : Option CertSection) (K : CertSection → Type 0) (L : Program → CertSection → Type 0) → IfSome o K
    → ForEach set (λ P. CalleesAreKnown P set.timing table m → IfSome o (L P)) → IfSome o (λ s. K s × ForEach set (λ P. CalleesAreKnown P set.timing table m → L P s))
for_each set table m None K L k l = tt
for_each set table m (Some s) K L k l = (k, l)

-- the method for a program of the setting
abbrev method_with : (set : BoundSetting) (table : List Known) (m : ℕ) (k : Coded) (p : Prepared) (fit : Fit) (walked : Walked) → Program → WalkedMethod
method_with set table m k p fit walked P = record {
  program = P;
  timing = set.timing;
  bound_of = bounds_in set;
  flow = set.flow;
  table = table;
  method = m;
  coded = k;
  prepared = p;
  fit = fit;
  walked = walked;
}

pub found_of : KnownIs → FoundShows → FoundInText → (set : BoundSetting) (table : List Known) (m : ℕ) (k : Coded) (p : Prepared) (fit : Fit) (walked : Walked) → IsBoundSetting set → slice_get set.flow.methods m ≡ Some k → IsCoded k → m < 2 ^ 32
    → p.shape.size < 2 ^ 32 → All IsLimited table → IsInShape p → p.fits ≡ fit.fits → AreBounds (bounds_in set) m p.shape p.bounds.items
    → ForEach set (λ P. CalleesAreKnown P set.timing table m → IsPreparedFor P set.timing (bounds_in set) table m p) → ForEach set (λ P. IsFitOf P set.timing m fit) → IsWalked p walked → IsSmallWalked walked
    → IsFoundOf set table m (found_by m fit walked)
found_of known_is shows in_text set table m k p fit walked waits at c method size limited in_shape same bounds prepared fits w small = record {
  limited = found_limited m p fit walked w small;
  known = λ P of told. known_is (method_with set table m k p fit walked P) (record { flow = of; at = at; coded = c; callees = told; shape = in_shape; prepared = prepared P of told; fits = same; walked = w }) waits.read waits.write limited (fits P of);
  none = found_none m p fit walked;
  some = found_some m p fit walked;
  empty = found_empty m fit walked;
  section =
      for_each set table m (found_by m fit walked).section (IsSectionOf m (found_by m fit walked).known) (λ P. ShowsNumber P set.timing (bounds_in set) table m (found_by m fit walked).known)
      (in_text (bounds_in set) m p fit walked method (let less = size in omega arith) in_shape bounds same w)
      (λ P of told. shows (method_with set table m k p fit walked P) (record { flow = of; at = at; coded = c; callees = told; shape = in_shape; prepared = prepared P of told; fits = same; walked = w }));
}
