-- The lines of a certificate. Nodes of a method are the numbers 2p, the instruction at place p, and 2p + 1, the raise step at it.
use Rattle.std.specs.Prelude.{◌≡◌, ◌⊎◌, ℕ, ◌/◌, ◌%◌, ◌==◌, ◌<◌, ◌^◌, if◌then◌else◌, List, [], ◌∷◌, ◌++◌, flat_map, Option, Some}
use Rattle.std.specs.Prelude.{None, codes, decimal}
use Rattle.std.specs.Fmt.{signed_decimal}
use Rattle.certificates.specs.declared.lines.line.SectionKind.{SectionKind}
use Rattle.certificates.specs.declared.lines.line.SectionKind.TheVariants.{Inside, Alone, Loops}
use Rattle.certificates.specs.declared.lines.line.CertLine.{CertLine}
use Rattle.certificates.specs.declared.lines.line.CertLine.TheVariants.{Version, Root, Start, Node, Loop, Bound}
use Rattle.certificates.specs.Loop.{IsLoopSaid}
use Rattle.section_check.specs.Section.{IsPotential}

-- ---- their parts

abbrev pub behind_space : List ℕ → List ℕ
behind_space text = 32 ∷ text

-- a raise step has its place and an r
abbrev pub node_text : ℕ → List ℕ
node_text u = decimal (u / 2) ++ (if u % 2 == 1 then codes "r" else [])

abbrev pub kind_text : SectionKind → List ℕ
kind_text Inside = codes "inside"
kind_text Alone = codes "alone"
kind_text Loops = codes "loops"

-- each behind a space
abbrev pub members_text : List ℕ → List ℕ
members_text members = flat_map (λ u. behind_space (node_text u)) members

abbrev pub bound_text : Option ℕ → List ℕ
bound_text None = codes "never"
bound_text (Some n) = decimal n

-- ---- the ranges of their numbers

abbrev pub IsVersion : ℕ → Type 0
IsVersion version = (version ≡ 1) ⊎ (version ≡ 2)

-- 64 bits and a sign
abbrev pub IsBoundValue : Option ℕ → Type 0
IsBoundValue None = Unit {0}
IsBoundValue (Some n) = n < 2 ^ 64

-- ---- a line

abbrev pub line_text : CertLine → List ℕ
line_text (Version version) = codes "JOPC " ++ decimal version
line_text (Root method) = codes "root " ++ decimal method
line_text (Start kind method) = codes "section " ++ kind_text kind ++ behind_space (decimal method)
line_text (Node u potential) = (if u % 2 == 1 then codes "raise " else codes "node ") ++ (decimal (u / 2) ++ behind_space (signed_decimal potential))
line_text (Loop l) = (if l.region then codes "region " else codes "loop ")
    ++ (decimal (l.header / 2) ++ behind_space (decimal l.cost ++ members_text l.members))
line_text (Bound bound) = codes "bound " ++ bound_text bound

-- its numbers are in their ranges
abbrev pub IsLineInRange : CertLine → Type 0
IsLineInRange (Version version) = IsVersion version
IsLineInRange (Root method) = method < 2 ^ 32
IsLineInRange (Start kind method) = method < 2 ^ 32
IsLineInRange (Node u potential) = (u < 2 ^ 32) × IsPotential potential
IsLineInRange (Loop l) = IsLoopSaid l
IsLineInRange (Bound bound) = IsBoundValue bound
