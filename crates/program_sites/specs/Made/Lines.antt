-- What is found of the first lines of a method: the ints that they push, and what they make.
use Rattle.std.specs.Prelude.{◌≡◌, ℕ, ℤ, List, [], ◌∷◌, ◌++◌, map, Contains, Option, Some, None}
use Rattle.std.specs.List.Sorted.{IsStrictlyIncreasing}
use Rattle.bytecode_model.specs.declared.Value.TheVariants.{Int}
use Rattle.bytecode_model.specs.Program.{Program}
use Rattle.bytecode_model.specs.Rows as rows
use Rattle.bytecode_model.specs.Rows.{Row}
use Rattle.method_flow.specs.Flow.{Coded, IsCodedOf}
use Rattle.code_lines.specs.Lines.{IsLine}
use Rattle.code_scan.specs.Lines.{ArePushed}
use Rattle.code_scan.specs.Scans.{Scanned, IsScanOf}
use Rattle.code_scan.specs.declared.scan.PushedInt.{PushedInt}
use Rattle.memory_rules.specs.declared.sites.Site.{Site}
use Rattle.memory_rules.specs.Heap.{Made, made_by}
use Rattle.memory_rules.specs.declared.sites.Makes.{Makes}
use Rattle.memory_rules.specs.Sites.{places_of, IsSiteOf, IsToldAs}
use Rattle.program_sites.specs.declared.made.making.MadeWords.{MadeWords}
use Rattle.program_sites.specs.Made.Making.{made_seen}

-- lines begin at just these places, which rise
pub record AreLinePlaces (P : Program) (m : ℕ) (starts : List ℕ) : Type 0 where
  pub rising : IsStrictlyIncreasing starts
  pub lines : (p : ℕ) → Contains starts p → (next : ℕ) × (r : Row) × IsLine P m p next r
  pub only : (p next : ℕ) (r : Row) → IsLine P m p next r → Contains starts p

-- the ints that are pushed at these places
pub record ArePushedAt (P : Program) (m : ℕ) (places : List ℕ) (xs : List PushedInt) : Type 0 where
  pub rising : IsStrictlyIncreasing (map (λ x. x.place) xs)
  pub each : (x : PushedInt) (next : ℕ) → Contains places x.place → IsLine P m x.place next (rows.Push (Int x.value)) → Contains xs x
  pub only : (x : PushedInt) → Contains xs x → Contains places x.place × ((next : ℕ) × IsLine P m x.place next (rows.Push (Int x.value)))

-- what is made at these places
pub record AreSitesAt (P : Program) (m : ℕ) (places : List ℕ) (sites : List Site) : Type 0 where
  pub rising : IsStrictlyIncreasing (places_of sites)
  pub each : (p next : ℕ) (r : Row) (made : Made) → Contains places p → IsLine P m p next r → made_by P r ≡ Some made → Contains (places_of sites) p
  pub only : (s : Site) → Contains sites s → Contains places s.place × IsSiteOf P m s

-- what is made there is told with the length of an array where it is a constant
abbrev pub IsMadeWith : Program → (method place : ℕ) → MadeWords → Makes → Type 0
IsMadeWith P m p made makes = (x : Made) → made_seen (Some made) ≡ Some x → IsToldAs P m p x makes

-- ---- of each program with such a method

abbrev pub AreLinesOf : Coded → (starts : List ℕ) → Type 0
AreLinesOf k starts = (P : Program) (m : ℕ) → IsCodedOf P m k → AreLinePlaces P m starts

abbrev pub IsToldBy : Scanned → List PushedInt → (place : ℕ) → MadeWords → Makes → Type 0
IsToldBy scan pushed p made makes = (P : Program) (m : ℕ) → IsScanOf P m scan → ArePushed P m pushed → IsMadeWith P m p made makes

-- these are the method's instructions that make objects, at the places of its lines
pub record AreSitesIn (P : Program) (m : ℕ) (sites : List Site) : Type 0 where
  pub places : List ℕ
  pub lines : AreLinePlaces P m places
  pub are : AreSitesAt P m places sites

-- ---- lists with one more

abbrev pub with_pushed : List PushedInt → (place : ℕ) → Option ℤ → List PushedInt
with_pushed xs p None = xs
with_pushed xs p (Some c) = xs ++ record { place = p; value = c } ∷ []

abbrev pub with_site : List Site → (place : ℕ) → Option Makes → List Site
with_site sites p None = sites
with_site sites p (Some makes) = sites ++ record { place = p; makes = makes } ∷ []

-- nothing is made, or it is told with the length of an array where it is a constant
abbrev pub IsToldOr : Program → (method place : ℕ) → Option MadeWords → Option Makes → Type 0
IsToldOr P m p None None = Unit {0}
IsToldOr P m p None (Some makes) = ⊥
IsToldOr P m p (Some made) None = ⊥
IsToldOr P m p (Some made) (Some makes) = IsMadeWith P m p made makes

abbrev pub IsToldOrBy : Scanned → List PushedInt → (place : ℕ) → Option MadeWords → Option Makes → Type 0
IsToldOrBy scan pushed p made makes = (P : Program) (m : ℕ) → IsScanOf P m scan → ArePushed P m pushed → IsToldOr P m p made makes
