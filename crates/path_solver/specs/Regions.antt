-- Greatest walks where some loops are regions: only these are charged a load.
use Rattle.std.specs.Prelude.{◌≡◌, ◌≢◌, ℕ, Bool, if◌then◌else◌, List, [], ◌∷◌, map, Contains}
use Rattle.loop_nest.specs.Nest.{NaturalLoop}
use Rattle.section_check.specs.Section.{CertifiedLoop}
use Rattle.section_check.specs.Placing.{IsEntryAt}
use Rattle.section_check.specs.Regions.{IsRegionLoop}

-- what an entry of each loop is charged: its load where it is a region, and else nothing
abbrev pub charged : List ℕ → List Bool → List ℕ
charged [] regions = []
charged (load ∷ loads) [] = []
charged (load ∷ loads) (region ∷ regions) = (if region then load else 0) ∷ charged loads regions

-- no region lies in another
abbrev pub AreRegionsApart : List NaturalLoop → List Bool → Type 0
AreRegionsApart nest regions =
    (i k : ℕ) (l m : NaturalLoop) → IsEntryAt nest i l → IsEntryAt nest k m → k ≢ i → IsRegionLoop regions i → IsRegionLoop regions k
    → ¬ ((x : ℕ) → Contains l.members x → Contains m.members x)

-- the loops of a section are those of a nest, in its order, marked as these say
pub record AreMarkedLoopsOf (nest : List NaturalLoop) (regions : List Bool) (loops : List CertifiedLoop) : Type 0 where
  pub headers : map (λ l. l.header) loops ≡ map (λ l. l.header) nest
  pub members : map (λ l. l.members) loops ≡ map (λ l. l.members) nest
  pub marks : map (λ l. l.region) loops ≡ regions
