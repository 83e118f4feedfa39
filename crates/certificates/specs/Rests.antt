-- What stands behind the first word of some lines.
use Rattle.std.specs.Prelude.{ℕ, ◌<◌, ◌^◌, ℤ, List, ◌++◌, decimal}
use Rattle.std.specs.Fmt.{signed_decimal}
use Rattle.certificates.specs.declared.lines.line.CertLine.{CertLine}
use Rattle.certificates.specs.declared.lines.line.CertLine.TheVariants.{Version, Root, Start, Node, Loop, Bound}
use Rattle.certificates.specs.Finding.{IsBehindPart}
use Rattle.certificates.specs.CertLines.{behind_space}
use Rattle.section_check.specs.Section.{IsPotential}

-- a place and a potential
abbrev pub node_rest : ℕ × ℤ → List ℕ
node_rest x = decimal x.0 ++ behind_space (signed_decimal x.1)

abbrev pub IsNodeRest : ℕ × ℤ → Type 0
IsNodeRest x = (x.0 < 2 ^ 31) × IsPotential x.1

-- the place of a header, the cost of an iteration, and the text of the members
abbrev pub loop_rest : ℕ × ℕ × List ℕ → List ℕ
loop_rest x = decimal x.0 ++ behind_space (decimal x.1 ++ x.2)

abbrev pub IsLoopRest : ℕ × ℕ × List ℕ → Type 0
IsLoopRest x = (x.0 < 2 ^ 31) × (x.1 < 2 ^ 64) × IsBehindPart x.2

-- neither of a node nor of a loop
abbrev pub IsFrame : CertLine → Type 0
IsFrame (Version version) = Unit {0}
IsFrame (Root method) = Unit {0}
IsFrame (Start kind method) = Unit {0}
IsFrame (Node u potential) = ⊥
IsFrame (Loop l) = ⊥
IsFrame (Bound bound) = Unit {0}
