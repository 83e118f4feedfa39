-- What a line says behind its labels.
use Rattle.std.specs.Prelude.{ℕ, ◌-◌, ◌^◌, true, false, ◌&&◌, ◌==◌, if◌then◌else◌, List, [], ◌∷◌, Option, Some, None, codes, option_and_then, option_map}
use Rattle.std.specs.Prelude.{position}
use Rattle.std.specs.List.{slice_split}
use Rattle.microcode.specs.declared.isa.Body.{Body}
use Rattle.microcode.specs.declared.isa.Body.TheVariants.{Plain, Stm, Ldm, Ldi}
use Rattle.microcode.specs.Isa.Words.{word_of}
use Rattle.microcode.specs.declared.isa.Turns.{Turns}
use Rattle.microcode.specs.declared.isa.Turns.TheVariants.{Count, PerPair, PerEntry}
use Rattle.microcode_asm.specs.declared.statement.Branch.{Branch}
use Rattle.microcode_asm.specs.declared.statement.Branch.TheVariants.{IfZero, IfNotZero, Always}
use Rattle.microcode_asm.specs.Parts.{is, is_name, number_up_to, constant_value, labels_of, behind_labels, parts_of}

-- nothing, a microinstruction or a directive
pub data Statement : Type 0 where
  nothing : Statement
  word : (bits : ℕ) → Statement
  branch : Branch → (label : List ℕ) → Statement
  entry : (op : ℕ) → Statement
  raise : Statement
  constant : (number value : ℕ) → Statement
  turns : Turns → Statement

-- how many words a statement makes
abbrev pub size_of : Statement → ℕ
size_of (word bits) = 1
size_of (branch how label) = 1
size_of other = 0

-- ---- microinstructions

-- the names of the operations, in the order of their codes
unfoldable pub operation_names : List (List ℕ)
operation_names = slice_split (λ byte. byte == 32)
    (codes "nop pop dup add sub and or xor shl shr ushr mul slt sltu ldo ldo8 ldo16 ldl stl ld0 ld1 ld2 ld3 st0 st1 st2 st3 ldvp stvp ldsp stsp ldjpc stjpc star ldmi stmi stmra stmwa stmwd wait ldmrd stbc jbr jbg ldin stout hltb hltu")

-- the microinstruction with these flags behind it: `opd`, then `nxt`
abbrev pub with_flags : Body → (flags : List (List ℕ)) → Option Statement
with_flags body [] = Some (word (word_of (record { body = body; opd = false; nxt = false })))
with_flags body (flag ∷ []) =
    if is flag (codes "opd") then Some (word (word_of (record { body = body; opd = true; nxt = false })))
    else if is flag (codes "nxt") then Some (word (word_of (record { body = body; opd = false; nxt = true })))
    else None
with_flags body (first ∷ second ∷ []) =
    if is first (codes "opd") && is second (codes "nxt") then Some (word (word_of (record { body = body; opd = true; nxt = true }))) else None
with_flags body flags = None

-- one with a number from 0 to 31
abbrev pub numbered : (ℕ → Body) → (parts : List (List ℕ)) → Option Statement
numbered body [] = None
numbered body (number ∷ flags) = option_and_then (λ n. with_flags (body n) flags) (number_up_to 31 number)

-- one with a label, and no flag
abbrev pub branching : Branch → (parts : List (List ℕ)) → Option Statement
branching how (label ∷ []) = if is_name label then Some (branch how label) else None
branching how parts = None

abbrev pub plain : (name : List ℕ) → (flags : List (List ℕ)) → Option Statement
plain name flags = option_and_then (λ code. with_flags (Plain code) flags) (position (λ operation. is name operation) operation_names)

abbrev pub microinstruction : (name : List ℕ) → (parts : List (List ℕ)) → Option Statement
microinstruction name parts =
    if is name (codes "stm") then numbered Stm parts
    else if is name (codes "ldm") then numbered Ldm parts
    else if is name (codes "ldi") then numbered Ldi parts
    else if is name (codes "bz") then branching IfZero parts
    else if is name (codes "bnz") then branching IfNotZero parts
    else if is name (codes "jmp") then branching Always parts
    else plain name parts

-- ---- directives

-- `.entry OP`
abbrev pub entering : (parts : List (List ℕ)) → Option Statement
entering (op ∷ []) = option_map entry (number_up_to 255 op)
entering parts = None

-- `.raise`
abbrev pub raising : (parts : List (List ℕ)) → Option Statement
raising [] = Some raise
raising parts = None

-- `.const K V`
abbrev pub setting : (parts : List (List ℕ)) → Option Statement
setting (number ∷ value ∷ []) = option_and_then (λ k. option_map (constant k) (constant_value value)) (number_up_to 31 number)
setting parts = None

-- `N`, `pairs` or `entries`
abbrev pub turns_of : (count : List ℕ) → Option Turns
turns_of count =
    if is count (codes "pairs") then Some PerPair
    else if is count (codes "entries") then Some PerEntry
    else option_map Count (number_up_to (2 ^ 32 - 1) count)

-- `.turns N`, `.turns pairs`, `.turns entries`
abbrev pub turning : (parts : List (List ℕ)) → Option Statement
turning (count ∷ []) = option_map turns (turns_of count)
turning parts = None

-- the statement that parts make, if they make one
abbrev pub statement_of : (parts : List (List ℕ)) → Option Statement
statement_of [] = Some nothing
statement_of (name ∷ parts) =
    if is name (codes ".entry") then entering parts
    else if is name (codes ".raise") then raising parts
    else if is name (codes ".const") then setting parts
    else if is name (codes ".turns") then turning parts
    else microinstruction name parts

-- ---- a line

pub record Line : Type 0 where
  pub labels : List (List ℕ)
  pub statement : Statement

-- the line that a text is, if it is one of the grammar
abbrev pub line_of : (text : List ℕ) → Option Line
line_of text =
    let parts = parts_of text in
    option_map (λ s. record { labels = labels_of parts; statement = s }) (statement_of (behind_labels parts))
