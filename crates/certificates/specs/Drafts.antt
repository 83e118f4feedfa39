-- A certificate as it is read, line by line.
use Rattle.std.specs.Prelude.{◌≡◌, ℕ, ℤ, true, List, [], ◌∷◌, ◌++◌, map, Option, Some, None, IsSomeAnd}
use Rattle.std.specs.Option.{option_map, option_to_list}
use Rattle.section_check.specs.Section.{CertifiedLoop, listed}
use Rattle.certificates.specs.declared.lines.line.SectionKind.{SectionKind}
use Rattle.certificates.specs.declared.lines.line.SectionKind.TheVariants.{Loops}
use Rattle.certificates.specs.declared.lines.line.CertLine.{CertLine}
use Rattle.certificates.specs.declared.lines.line.CertLine.TheVariants.{Version, Root, Start, Node, Loop, Bound}
use Rattle.certificates.specs.Loop.{LoopSaid, IsAbove, last_of}
use Rattle.certificates.specs.CertLines.{line_text, IsVersion, IsLineInRange}
use Rattle.certificates.specs.declared.cert.CertSection.{CertSection}
use Rattle.certificates.specs.Certificate.{Certificate, IsInGrammar}

-- what some lines have given: nothing, the version, the parts up to the section to which further lines add, or a whole certificate
pub data Draft : Type 0 where
  Blank : Draft
  Versioned : (version : ℕ) → Draft
  Begun : (version root : ℕ) (closed : List CertSection) (current : Option CertSection) → Draft
  Whole : Certificate → Draft

-- the certificate with these sections of a method that never ends
abbrev pub never_with : (version root : ℕ) → List CertSection → Certificate
never_with version root sections = record { version = version; root = root; sections = sections; bound = None }

abbrev pub IsDraft : Draft → Type 0
IsDraft Blank = Unit {0}
IsDraft (Versioned version) = IsVersion version
IsDraft (Begun version root closed current) = IsInGrammar (never_with version root (closed ++ option_to_list current))
IsDraft (Whole c) = IsInGrammar c

abbrev pub empty_section : SectionKind → ℕ → CertSection
empty_section kind method = record { kind = kind; method = method; section = record { nodes = []; loops = [] } }

-- y, where the list is empty
abbrev pub if_empty : {X Y : Type 0} → List X → Y → Option Y
if_empty [] y = Some y
if_empty (x ∷ xs) y = None

-- with a node behind the others, which stand before the loops
abbrev pub with_node : ℕ → ℤ → CertSection → Option CertSection
with_node u potential s = if_empty s.section.loops (record s { section = record s.section { nodes = s.section.nodes ++ (u, potential) ∷ [] } })

abbrev pub certified : LoopSaid → CertifiedLoop
certified l = record { header = l.header; iteration_cost = l.cost; members = l.members; region = l.region }

abbrev pub with_loop : LoopSaid → CertSection → CertSection
with_loop l s = record s { section = record s.section { loops = s.section.loops ++ certified l ∷ [] } }

-- what one line more gives, whether or not a certificate goes on so
abbrev pub put : Draft → CertLine → Option Draft
put Blank (Version version) = Some (Versioned version)
put (Versioned version) (Root root) = Some (Begun version root [] None)
put (Begun version root closed current) (Start kind method) = Some (Begun version root (closed ++ option_to_list current) (Some (empty_section kind method)))
put (Begun version root closed (Some s)) (Node u potential) = option_map (λ t. Begun version root closed (Some t)) (with_node u potential s)
put (Begun version root closed (Some s)) (Loop l) = Some (Begun version root closed (Some (with_loop l s)))
put (Begun version root closed current) (Bound bound) = Some
    (Whole (record { version = version; root = root; sections = closed ++ option_to_list current; bound = bound }))
put draft line = None

-- a certificate goes on so
abbrev pub GoesOn : Draft → CertLine → Type 0
GoesOn draft line = IsSomeAnd (put draft line) IsDraft

-- the line is one of a certificate that goes on so, and gives the next draft
pub record Adds (draft : Draft) (line : List ℕ) (next : Draft) : Type 0 where
  pub said : CertLine
  pub text : line ≡ line_text said
  pub range : IsLineInRange said
  pub put : put draft said ≡ Some next
  pub goes_on : IsDraft next

-- no certificate goes on with the line
abbrev pub Refuses : Draft → (line : List ℕ) → Type 0
Refuses draft line = (said : CertLine) → IsLineInRange said → line ≡ line_text said → ¬ GoesOn draft said

-- a section takes a node: nodes rise and stand before the loops
pub record TakesNode (s : CertSection) (u : ℕ) : Type 0 where
  pub no_loop : s.section.loops ≡ []
  pub above : IsAbove (last_of (listed s.section.nodes)) u

-- a section takes a loop: headers rise, and regions stand in sections of loops
pub record TakesLoop (s : CertSection) (l : LoopSaid) : Type 0 where
  pub region : l.region ≡ true → s.kind ≡ Loops
  pub above : IsAbove (last_of (map (λ m. m.header) s.section.loops)) l.header
