-- Certificates: sections of methods, whose potentials show what a run of each takes at most.
use Rattle.std.specs.Prelude.{◌≡◌, ◌≢◌, ℕ, ◌%◌, ◌<◌, ◌^◌, Bool, true, false, List, map, All, AllPairs, Option}
use Rattle.std.specs.List.Sorted.{IsStrictlyIncreasing}
use Rattle.section_check.specs.Section.{CertifiedLoop, listed, ArePotentials}
use Rattle.certificates.specs.declared.lines.line.SectionKind.{SectionKind}
use Rattle.certificates.specs.declared.lines.line.SectionKind.TheVariants.{Inside, Alone, Loops}
use Rattle.certificates.specs.Loop.{AreLoopMembers}
use Rattle.certificates.specs.CertLines.{IsVersion, IsBoundValue}
use Rattle.certificates.specs.declared.cert.SectionSort.{SectionSort}
use Rattle.certificates.specs.declared.cert.CertSection.{CertSection}

-- The last line says never where the bound is none. Nodes of a method are the numbers 2p, the instruction at place p, and 2p + 1, the raise step at it.
pub record Certificate : Type 0 where
  pub version : ℕ
  pub root : ℕ
  pub sections : List CertSection
  pub bound : Option ℕ

-- ---- what can be written

-- its header is an instruction, and it has members, which rise
pub record IsLoopInText (l : CertifiedLoop) : Type 0 where
  pub instruction : l.header % 2 ≡ 0
  pub header : l.header < 2 ^ 32
  pub members : AreLoopMembers l.members
  pub cost : l.iteration_cost < 2 ^ 64

-- sections of the kind loops are of version 2, and regions are loops of such sections
pub record IsSectionInText (version : ℕ) (s : CertSection) : Type 0 where
  pub kind : s.kind ≡ Loops → version ≡ 2
  pub method : s.method < 2 ^ 32
  pub nodes : IsStrictlyIncreasing (listed s.section.nodes)
  pub places : All (λ u. u < 2 ^ 32) (listed s.section.nodes)
  pub potentials : ArePotentials s.section.nodes
  pub headers : IsStrictlyIncreasing (map (λ l. l.header) s.section.loops)
  pub loops : All IsLoopInText s.section.loops
  pub regions : All (λ l. l.region ≡ true → s.kind ≡ Loops) s.section.loops

abbrev pub is_inside : SectionKind → Bool
is_inside Inside = true
is_inside Alone = false
is_inside Loops = false

-- what stands once: of a method at most one section is inside, and at most one is alone or of its loops
abbrev pub sort_of : CertSection → SectionSort
sort_of s = record { method = s.method; inside = is_inside s.kind }

-- a certificate that can be written as a text
pub record IsInGrammar (c : Certificate) : Type 0 where
  pub version : IsVersion c.version
  pub root : c.root < 2 ^ 32
  pub sections : All (IsSectionInText c.version) c.sections
  pub apart : AllPairs (λ a b. a ≢ b) (map sort_of c.sections)
  pub bound : IsBoundValue c.bound
