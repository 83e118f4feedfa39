-- Lines as they are written.
use Rattle.std.specs.Prelude.{ℕ, ℤ, List, [], ◌∷◌, ◌++◌, flat_map}
use Rattle.section_check.specs.Section.{CertifiedLoop}
use Rattle.certificates.specs.declared.lines.line.CertLine.{CertLine}
use Rattle.certificates.specs.declared.lines.line.CertLine.TheVariants.{Start, Node, Loop}
use Rattle.certificates.specs.CertLines.{line_text}
use Rattle.certificates.specs.declared.cert.CertSection.{CertSection}
use Rattle.certificates.specs.Texts.{loop_said}

-- a line and its LF
abbrev pub fed : CertLine → List ℕ
fed line = line_text line ++ 10 ∷ []

abbrev pub node_fed : ℕ × ℤ → List ℕ
node_fed n = fed (Node n.0 n.1)

abbrev pub loop_fed : CertifiedLoop → List ℕ
loop_fed l = fed (Loop (loop_said l))

abbrev pub section_fed : CertSection → List ℕ
section_fed s = fed (Start s.kind s.method) ++ (flat_map node_fed s.section.nodes ++ flat_map loop_fed s.section.loops)
