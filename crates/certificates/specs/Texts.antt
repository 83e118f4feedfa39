-- The text of a certificate, line by line.
use Rattle.std.specs.Prelude.{◌≡◌, ℕ, ◌+◌, ◌<◌, ◌≤◌, List, [], ◌∷◌, ◌++◌, length, map, take, flat_map, codes}
use Rattle.section_check.specs.Section.{CertifiedLoop}
use Rattle.certificates.specs.declared.lines.line.CertLine.{CertLine}
use Rattle.certificates.specs.declared.lines.line.CertLine.TheVariants.{Version, Root, Start, Node, Loop, Bound}
use Rattle.certificates.specs.Loop.{LoopSaid}
use Rattle.certificates.specs.CertLines.{line_text}
use Rattle.certificates.specs.declared.cert.CertSection.{CertSection}
use Rattle.certificates.specs.Certificate.{Certificate, IsInGrammar}

-- ---- what the lines say, one by one

abbrev pub loop_said : CertifiedLoop → LoopSaid
loop_said l = record { region = l.region; header = l.header; cost = l.iteration_cost; members = l.members }

abbrev pub section_said : CertSection → List CertLine
section_said s = Start s.kind s.method ∷ (map (λ e. Node e.0 e.1) s.section.nodes ++ map (λ l. Loop (loop_said l)) s.section.loops)

abbrev pub said : Certificate → List CertLine
said c = Version c.version ∷ Root c.root ∷ (flat_map section_said c.sections ++ Bound c.bound ∷ [])

-- ---- the text

abbrev pub lines_of : Certificate → List (List ℕ)
lines_of c = map line_text (said c)

-- as it is written, each line with its LF
abbrev pub text_of : Certificate → List ℕ
text_of c = flat_map (λ line. line ++ codes "\n") (lines_of c)

-- ---- reading

-- the lines are those of the certificate
pub record AreLinesOf (lines : List (List ℕ)) (c : Certificate) : Type 0 where
  pub grammar : IsInGrammar c
  pub text : lines ≡ lines_of c

-- they are the first lines of a certificate, or all of them
pub record BeginOne (lines : List (List ℕ)) : Type 0 where
  pub further : List (List ℕ)
  pub certificate : Certificate
  pub whole : AreLinesOf (lines ++ further) certificate

-- Line n, counted from 1, is the first with which no certificate begins. Where the lines begin one and end too early, it is the one behind the last.
pub record IsFirstRefusedLine (lines : List (List ℕ)) (n : ℕ) : Type 0 where
  pub none : (c : Certificate) → ¬ AreLinesOf lines c
  pub counted : (1 ≤ n) × (n ≤ length lines + 1)
  pub before : (k : ℕ) → k < n → BeginOne (take k lines)
  pub at : n ≤ length lines → ¬ BeginOne (take n lines)
