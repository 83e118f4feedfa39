-- Which instructions write a local variable, part by part.
use Rattle.std.proofs.Common.{◌≡◌, ℕ, List, [], Contains, refl, sym, ap, subst, inl, inr}
use Rattle.lists.specs.Members.{nil_contains}
use Rattle.bytecode_model.specs.Program.{Program}
use Rattle.bytecode_model.specs.Rows as rows
use Rattle.bytecode_model.specs.Rows.{Row}
use Rattle.bytecode_model.specs.Types.{IntType, LongType, Numbers, References}
use Rattle.code_lines.specs.Lines.{IsLine, Writes, written_by}
use Rattle.code_lines.specs.Laws.{LinesAreOne}
use Rattle.loop_rules.specs.Further.Known.{Known}
use Rattle.known_ints.specs.declared.parts.Part.{Part}
use Rattle.known_ints.specs.declared.parts.Part.TheVariants as does
use Rattle.known_ints.specs.Parts.{AreParts, HasRow, IsOtherPart, IsPart, part_at, written}

other_writes : (r : Row) → IsOtherPart r → written_by r ≡ []
other_writes (rows.Store sort k) h = absurd h
other_writes (rows.Increment k n) h = absurd h
other_writes _ h = refl

module _ (one : LinesAreOne) (P : Program) (known : Known) (m : ℕ) (parts : List Part) (are : AreParts P known m parts) where
  by_row : (p next : ℕ) (r s : Row) → IsLine P m p next r → HasRow P m p s → written_by r ≡ written_by s
  by_row p next r s line has = ap written_by (sym (one P m p has.0 next s r has.1 line).1)

  written_same : (p next : ℕ) (r : Row) → IsLine P m p next r → (part : Part) → IsPart P known m p part → written_by r ≡ written part
  written_same p next r line (does.Int c) h = by_row p next r _ line h
  written_same p next r line does.Constant h = by_row p next r _ line h.push
  written_same p next r line (does.Field c) h = by_row p next r (rows.GetStatic h.1) line (h.0, h.2)
  written_same p next r line (does.StaticArray c) h = by_row p next r _ line h.read
  written_same p next r line (does.FieldArray c) h = by_row p next r _ line h.read
  written_same p next r line (does.Load k) h = by_row p next r _ line h
  written_same p next r line (does.LoadReference k) h = by_row p next r _ line h
  written_same p next r line (does.Store k) h = by_row p next r _ line h
  written_same p next r line (does.StoreReference k) h = by_row p next r _ line h
  written_same p next r line (does.StoreLong k) h = by_row p next r _ line h
  written_same p next r line (does.Increment k) h = by_row p next r _ line h.1
  written_same p next r line does.Copy h = by_row p next r _ line h
  written_same p next r line (does.Compute a) h = by_row p next r _ line h
  written_same p next r line does.NewArray (inl h) = by_row p next r _ line h.1
  written_same p next r line does.NewArray (inr h) = by_row p next r _ line h.1
  written_same p next r line does.Length h = by_row p next r _ line h
  written_same p next r line does.StoreNumber h = by_row p next r _ line h.store
  written_same p next r line does.Other h = other_writes r (h.other next r line)

  -- a part that writes is that of an instruction
  pub line_of : (p k : ℕ) (part : Part) → IsPart P known m p part → Contains (written part) k → Writes P m p k
  line_of p k (does.Store l) h has = (h.0, rows.Store (Numbers IntType) l, h.1, has)
  line_of p k (does.StoreReference l) h has = (h.0, rows.Store References l, h.1, has)
  line_of p k (does.StoreLong l) h has = (h.0, rows.Store (Numbers LongType) l, h.1, has)
  line_of p k (does.Increment l) h has = (h.1.0, rows.Increment l h.0, h.1.1, has)
  line_of p k _ h has = absurd (nil_contains k has)

  pub writes_part : (p k : ℕ) → Writes P m p k → Contains (written (part_at parts p)) k
  writes_part p k w = subst (λ (xs : List ℕ). Contains xs k) (written_same p w.0 w.1 w.2 (part_at parts p) (are p)) w.3
