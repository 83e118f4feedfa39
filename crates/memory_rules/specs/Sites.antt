-- What the instructions of a program make, as a table: for each method with code the words of its frame, and the instructions that make objects.
use Rattle.std.specs.Prelude.{◌≡◌, ◌↔◌, ℕ, ℤ, ◌<◌, List, length, map, Contains, Option, MatchOption, IsSome, Some, slice_get}
use Rattle.std.specs.List.Sorted.{IsStrictlyIncreasing}
use Rattle.bytecode_model.specs.Program.{Program, body_of}
use Rattle.bytecode_model.specs.Rows.{Row}
use Rattle.code_lines.specs.Lines.{IsLine, IsPushedBefore}
use Rattle.memory_rules.specs.declared.sites.Makes.{Makes}
use Rattle.memory_rules.specs.declared.sites.Makes.TheVariants.{Object, Array}
use Rattle.memory_rules.specs.declared.sites.Site.{Site}
use Rattle.memory_rules.specs.Stack.{method_words}
use Rattle.memory_rules.specs.Heap.{Made, AnObject, AnArray, made_by}

-- a method: the words of its frame, and its instructions that make objects
pub record MethodNeeds : Type 0 where
  pub words : ℕ
  pub sites : List Site

abbrev pub places_of : List Site → List ℕ
places_of sites = map (λ s. s.place) sites

-- what the site at the place makes, or none where no site is there
abbrev pub IsMadeAt : List Site → (place : ℕ) → Option Makes → Type 0
IsMadeAt sites p o = MatchOption o (¬ Contains (places_of sites) p) (λ makes. Contains sites (record { place = p; makes = makes }))

-- the int that is pushed directly before the place, or none where none is
abbrev pub IsConstantAt : Program → (method place : ℕ) → Option ℤ → Type 0
IsConstantAt P m p constant = MatchOption constant ((c : ℤ) → ¬ IsPushedBefore P m p c) (IsPushedBefore P m p)

-- what is made there is told so
abbrev pub IsToldAs : Program → (method place : ℕ) → Made → Makes → Type 0
IsToldAs P m p (AnObject words) (Object told) = told ≡ words
IsToldAs P m p (AnArray element) (Array told constant) = (told ≡ element) × IsConstantAt P m p constant
IsToldAs P m p made makes = ⊥

-- an instruction that makes objects stands at the place of the site, which tells what it makes
pub record IsSiteOf (P : Program) (m : ℕ) (s : Site) : Type 0 where
  pub next : ℕ
  pub row : Row
  pub line : IsLine P m s.place next row
  pub made : Made
  pub makes : made_by P row ≡ Some made
  pub told : IsToldAs P m s.place made s.makes

-- these are just the method's instructions that make objects, rising by place, and so many words its frame
pub record AreNeedsOf (P : Program) (m : ℕ) (k : MethodNeeds) : Type 0 where
  pub words : k.words ≡ method_words P m
  pub rising : IsStrictlyIncreasing (places_of k.sites)
  pub each : (p next : ℕ) (r : Row) (made : Made) → IsLine P m p next r → made_by P r ≡ Some made → Contains (places_of k.sites) p
  pub only : (s : Site) → Contains k.sites s → IsSiteOf P m s

-- the table is the program's: it has just the methods with code
pub record AreSitesOf (P : Program) (ks : List MethodNeeds) : Type 0 where
  pub coded : (m : ℕ) → IsSome (body_of P m) ↔ (m < length ks)
  pub methods : (m : ℕ) (k : MethodNeeds) → slice_get ks m ≡ Some k → AreNeedsOf P m k
