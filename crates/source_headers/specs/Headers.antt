-- The headers of loops as lines of a text of bounds: with a number, or as a remark that wants one.
use Rattle.std.specs.Prelude.{◌≡◌, ◌⊎◌, ℕ, ◌==◌, ◌&&◌, min, List, [], ◌∷◌, ◌++◌, Option, Some, None, codes, decimal, flat_map, if◌then◌else◌}
use Rattle.class_pool.specs.declared.class.ClassFile.{ClassFile}
use Rattle.bytecode_model.specs.Program.{Program}
use Rattle.loop_rules.specs.declared.found.FoundLoop.{FoundLoop}
use Rattle.bound_texts.specs.Sources.Notes.{AtLine, AtPlace, Note, noted_bound}
use Rattle.certificates.specs.CertLines.{node_text}
use Rattle.bound_causes.specs.Shapes.{IsShape}
use Rattle.bound_causes.specs.declared.shapes.Shape.{Shape}
use Rattle.bound_causes.specs.declared.shapes.Shape.TheVariants.{Irreducible, Reducible}
use Rattle.answer_lines.specs.LoopLine.{loop_line}
use Rattle.source_places.specs.Methods.Sources.{source_at}

-- ---- one header

-- the instruction at the place heads a loop; the file and line of its source where they are told, and the number that is found for the loop, if one is
pub record Header : Type 0 where
  pub place : ℕ
  pub source : Option (List ℕ × ℕ)
  pub found : Option ℕ

-- the lesser of two numbers, or the one that there is
abbrev pub lesser : Option ℕ → Option ℕ → Option ℕ
lesser None b = b
lesser (Some a) None = Some a
lesser (Some a) (Some b) = Some (min a b)

-- what the notes say of a line
abbrev pub said_of_line : List Note → Option (List ℕ × ℕ) → Option ℕ
said_of_line notes None = None
said_of_line notes (Some s) = noted_bound (AtLine s.0 s.1) notes

-- what they say of the loop of the method of this name: the lesser of what is said of its line and of its place
abbrev pub said : List Note → (name : List ℕ) → Header → Option ℕ
said notes name h = lesser (said_of_line notes h.source) (noted_bound (AtPlace name h.place) notes)

-- the number that is written: the least of those that are found or said, so that a run which keeps what is said keeps it
abbrev pub number_written : List Note → (name : List ℕ) → Header → Option ℕ
number_written notes name h = lesser h.found (said notes name h)

-- ---- lines

abbrev pub source_line : Option (List ℕ × ℕ) → List ℕ
source_line None = []
source_line (Some s) = codes "# " ++ (s.0 ++ (codes ":" ++ (decimal s.1 ++ codes "\n")))

-- the remark that wants a number
abbrev pub wanting_line : (name : List ℕ) → (place : ℕ) → List ℕ
wanting_line name place = codes "# " ++ (name ++ (codes " " ++ (decimal place ++ codes " loop<=\n")))

abbrev pub number_line : (name : List ℕ) → (place : ℕ) → Option ℕ → List ℕ
number_line name place None = wanting_line name place
number_line name place (Some n) = loop_line name place n

abbrev pub header_lines : List Note → (name : List ℕ) → Header → List ℕ
header_lines notes name h = source_line h.source ++ number_line name h.place (number_written notes name h)

-- a node behind a space: its place, and an r where it is a raise step
abbrev pub spaced : (node : ℕ) → List ℕ
spaced u = codes " " ++ node_text u

-- the remark on a method whose loops have several entries: the nodes that the reduction of its graph leaves
abbrev pub irreducible_line : (name : List ℕ) → (nodes : List ℕ) → List ℕ
irreducible_line name nodes = codes "# " ++ (name ++ (codes " irreducible" ++ (flat_map spaced nodes ++ codes "\n")))

-- ---- a method

-- the number that is found for the loop
abbrev pub found_at : List FoundLoop → (method place : ℕ) → Option ℕ
found_at [] m p = None
found_at (x ∷ xs) m p = if x.method == m && x.place == p then Some x.bound else found_at xs m p

abbrev pub header_at : List ClassFile → List FoundLoop → (method place : ℕ) → Header
header_at cs found m p = record { place = p; source = source_at cs m p; found = found_at found m p }

-- the lines of a method by the shape of its loops: a header's, behind one another, or the remark on it
abbrev pub method_lines : List ClassFile → List Note → List FoundLoop → (method : ℕ) → (name : List ℕ) → Shape → List ℕ
method_lines cs notes found m name (Reducible places) = flat_map (λ p. header_lines notes name (header_at cs found m p)) places.items
method_lines cs notes found m name (Irreducible nodes) = irreducible_line name nodes.items

-- The text is that of the method: none of the one that is run first.
abbrev pub IsMethodText : Program → List ClassFile → List Note → List FoundLoop → (name : ℕ → List ℕ) → (method : ℕ) → (text : List ℕ) → Type 0
IsMethodText P cs notes found name m text =
    ((m ≡ P.boot) × (text ≡ [])) ⊎ (¬ (m ≡ P.boot) × ((shape : Shape) × IsShape P m shape × (text ≡ method_lines cs notes found m (name m) shape)))
