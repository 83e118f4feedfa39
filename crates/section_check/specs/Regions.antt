-- Loops of a section that are marked as regions.
use Rattle.std.specs.Prelude.{◌≡◌, ◌≢◌, ℕ, Bool, true, false, List, [], ◌∷◌, length, slice_index_or, Option, None}
use Rattle.loop_nest.specs.Digraph.{Digraph}
use Rattle.section_check.specs.Section.{CertifiedLoop, Certified, priced}
use Rattle.section_check.specs.Placing.{IsEntryAt, LiesIn}
use Rattle.section_check.specs.Conditions.{IsAccepted, value_of}

-- each loop is marked as these say, and the loops of which they don't speak are as they were
abbrev pub marked : List CertifiedLoop → List Bool → List CertifiedLoop
marked [] regions = []
marked (l ∷ ls) [] = l ∷ ls
marked (l ∷ ls) (region ∷ regions) = record l { region = region } ∷ marked ls regions

abbrev pub with_regions : Certified → List Bool → Certified
with_regions c regions = record c { loops = marked c.loops regions }

-- loop i is to be a region
abbrev pub IsRegionLoop : List Bool → ℕ → Type 0
IsRegionLoop regions i = slice_index_or regions i false ≡ true

-- it is said of each loop whether it is a region, each region has a load, and none lies in another
pub record AreRegions (ls : List CertifiedLoop) (loads : List (Option ℕ)) (regions : List Bool) : Type 0 where
  pub long : length regions ≡ length ls
  pub loaded : (i : ℕ) → IsRegionLoop regions i → ¬ IsEntryAt loads i None
  pub apart : (i k : ℕ) (l m : CertifiedLoop) → IsEntryAt ls i l → IsEntryAt ls k m → k ≢ i → IsRegionLoop regions i → IsRegionLoop regions k → ¬ LiesIn l m

-- an accepted section stays accepted, with its value, where its loops are marked as regions
abbrev pub MarkedStaysAccepted : Type 0
MarkedStaysAccepted =
    (g : Digraph) (costs : List ℕ) (c : Certified) (bounds : List ℕ) (loads : List (Option ℕ)) (regions : List Bool) → AreRegions c.loops loads regions
    → IsAccepted g costs c bounds loads
    → IsAccepted g costs (with_regions c regions) bounds loads
    × (value_of (with_regions c regions) (priced (marked c.loops regions) bounds loads) ≡ value_of c (priced c.loops bounds loads))
