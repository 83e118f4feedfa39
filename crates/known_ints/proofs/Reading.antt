-- What is told of an instruction is what it does.
use Rattle.std.proofs.Common.{◌≡◌, ℕ, ℤ, pos, [], ◌∷◌, Option, Some, None, refl, sym, ap, ◌∙◌, subst, inl, inr}
use Rattle.std.specs.Prelude.{MatchOption, List}
use Rattle.lists.proofs.Lemmas.{none≢some}
use Rattle.bytecode_model.specs.declared.Value.TheVariants.{Int}
use Rattle.bytecode_model.specs.Program.{Program}
use Rattle.bytecode_model.specs.Rows as rows
use Rattle.bytecode_model.specs.Rows.{Row}
use Rattle.bytecode_model.specs.Types.{IntType, LongType, Numbers, References}
use Rattle.code_lines.specs.Lines.{IsLine}
use Rattle.code_lines.specs.Laws.{LinesAreOne}
use Rattle.code_scan.specs.declared.rows.Comparison.{Comparison}
use Rattle.code_scan.specs.declared.rows.IntRow.{IntRow}
use Rattle.code_scan.specs.declared.rows.IntRow.TheVariants as ints
use Rattle.code_scan.specs.Rows.{Tells, IsOther}
use Rattle.loop_rules.specs.Further.Known.{Known}
use Rattle.loop_rules.specs.Further.Arrays.{AreArraysRead, ReadsArray, length_at}
use Rattle.loop_rules.specs.Sites.{AreSitesOf, IsPushAt, IsReadAt, SitesOf, int_at}
use Rattle.known_ints.specs.declared.rows.Arithmetic.{Arithmetic}
use Rattle.known_ints.specs.declared.rows.ValueRow.{ValueRow}
use Rattle.known_ints.specs.declared.rows.ValueRow.TheVariants as told
use Rattle.known_ints.specs.declared.parts.Part.TheVariants as does
use Rattle.known_ints.specs.Rows.{computed_of, TellsValue, IsOtherValue}
use Rattle.known_ints.specs.Parts.{HasRow, IsPart, IsOtherPart}
use Rattle.known_ints.specs.Lines.{field_part, part_by, part_of, part_told, static_part}

-- it loads no int and writes no local variable
abbrev IsPlain : Row → Type 0
IsPlain (rows.Load (Numbers IntType) k) = ⊥
IsPlain (rows.Store sort k) = ⊥
IsPlain (rows.Increment k n) = ⊥
IsPlain r = Unit {0}

other_plain : (r : Row) → IsOther r → IsPlain r
other_plain (rows.Load (Numbers IntType) k) h = absurd h
other_plain (rows.Store sort k) h = absurd h
other_plain (rows.Increment k n) h = absurd h
other_plain _ h = tt

push_plain : (n : ℤ) (r : Row) → Tells (ints.Push n) r → IsPlain r
push_plain n (rows.Push (Int c)) h = tt
push_plain n _ h = absurd h

entry_plain : (r : Row) → Tells ints.PushEntry r → IsPlain r
entry_plain (rows.Push v) h = tt
entry_plain _ h = absurd h

zero_plain : (c : Comparison) (o : ℤ) (r : Row) → Tells (ints.BranchZero c o) r → IsPlain r
zero_plain c o (rows.Branch (IntType ∷ []) test offset) h = tt
zero_plain c o _ h = absurd h

ints_plain : (c : Comparison) (o : ℤ) (r : Row) → Tells (ints.BranchInts c o) r → IsPlain r
ints_plain c o (rows.Branch (IntType ∷ IntType ∷ []) test offset) h = tt
ints_plain c o _ h = absurd h

other_part : (r : Row) → IsPlain r → IsOtherValue r → IsOtherPart r
other_part (rows.Push v) plain h = absurd h
other_part (rows.Load (Numbers IntType) k) plain h = absurd plain
other_part (rows.Load References k) plain h = absurd h
other_part (rows.Store sort k) plain h = absurd plain
other_part (rows.Increment k n) plain h = absurd plain
other_part (rows.Shuffle rows.Copy rows.One rows.Zero) plain h = absurd h
other_part (rows.Compute (IntType ∷ IntType ∷ []) IntType compute) plain h = absurd h
other_part (rows.NewNumbers code) plain h = absurd h
other_part (rows.NewReferences k) plain h = absurd h
other_part rows.Length plain h = absurd h
other_part (rows.StoreNumber t codes kept) plain h = absurd h
other_part _ plain h = tt

load_row : (k : ℕ) (r : Row) → Tells (ints.Load k) r → r ≡ rows.Load (Numbers IntType) k
load_row k (rows.Load (Numbers IntType) l) h = ap (λ (j : ℕ). rows.Load (Numbers IntType) j) h
load_row k _ h = absurd h

store_row : (k : ℕ) (r : Row) → Tells (ints.Store k) r → r ≡ rows.Store (Numbers IntType) k
store_row k (rows.Store (Numbers IntType) l) h = ap (λ (j : ℕ). rows.Store (Numbers IntType) j) h
store_row k _ h = absurd h

store_long_row : (k : ℕ) (r : Row) → Tells (ints.StoreLong k) r → r ≡ rows.Store (Numbers LongType) k
store_long_row k (rows.Store (Numbers LongType) l) h = ap (λ (j : ℕ). rows.Store (Numbers LongType) j) h
store_long_row k _ h = absurd h

store_reference_row : (k : ℕ) (r : Row) → Tells (ints.StoreReference k) r → r ≡ rows.Store References k
store_reference_row k (rows.Store References l) h = ap (λ (j : ℕ). rows.Store References j) h
store_reference_row k _ h = absurd h

increment_row : (k : ℕ) (n : ℤ) (r : Row) → Tells (ints.Increment k n) r → r ≡ rows.Increment k n
increment_row k n (rows.Increment l s) (at, by) = ap (λ (j : ℕ). rows.Increment j s) at ∙ ap (λ (z : ℤ). rows.Increment k z) by
increment_row k n _ h = absurd h

load_reference_row : (k : ℕ) (r : Row) → TellsValue (told.LoadReference k) r → r ≡ rows.Load References k
load_reference_row k (rows.Load References l) h = ap (λ (j : ℕ). rows.Load References j) h
load_reference_row k _ h = absurd h

copy_row : (r : Row) → TellsValue told.Copy r → r ≡ rows.Shuffle rows.Copy rows.One rows.Zero
copy_row (rows.Shuffle rows.Copy rows.One rows.Zero) h = refl
copy_row _ h = absurd h

length_row : (r : Row) → TellsValue told.Length r → r ≡ rows.Length
length_row rows.Length h = refl
length_row _ h = absurd h

compute_row : (a : Arithmetic) (r : Row) → TellsValue (told.Compute a) r → r ≡ rows.Compute (IntType ∷ IntType ∷ []) IntType (λ y x. computed_of a y x)
compute_row a (rows.Compute (IntType ∷ IntType ∷ []) IntType compute) h = ap (λ (f : ℤ → ℤ → Option ℤ). rows.Compute (IntType ∷ IntType ∷ []) IntType f) h
compute_row a _ h = absurd h

static_other : (r : Row) → TellsValue told.ReadStatic r → IsOtherPart r
static_other (rows.GetStatic f) h = tt
static_other _ h = absurd h

field_other : (r : Row) → TellsValue told.ReadField r → IsOtherPart r
field_other (rows.GetField named owner index) h = tt
field_other _ h = absurd h

-- by what is told, the instruction at the place reads a field that is known to hold arrays of this length, or none
abbrev pub IsArrayTold : Program → Known → (method place : ℕ) → Option ℤ → Type 0
IsArrayTold P known m p (Some c) = (n : ℕ) × (c ≡ pos n) × ReadsArray P known m p n
IsArrayTold P known m p None = (n : ℕ) → ¬ ReadsArray P known m p n

pub array_told : (P : Program) (known : Known) (m p : ℕ) (xs : List (Option ℤ)) → AreArraysRead P known m xs → IsArrayTold P known m p (length_at xs p)
array_told P known m p xs are = by (length_at xs p) refl
  where
    by : (o : Option ℤ) → length_at xs p ≡ o → IsArrayTold P known m p o
    by (Some c) is = (are p c).0 is
    by None is = λ n reads. none≢some (pos n) (sym is ∙ (are p (pos n)).1 (n, refl, reads))

module _ (one : LinesAreOne) (P : Program) (known : Known) (m p : ℕ) (no_int : (c : ℤ) → ¬ IsPushAt P m p c) (no_field : (c : ℤ) → ¬ IsReadAt P known.constants m p c)
    (array : Option ℤ) (array_is : IsArrayTold P known m p array) where
  constant_is : (next : ℕ) (r : Row) → IsLine P m p next r → TellsValue told.Push r → IsPart P known m p does.Constant
  constant_is next (rows.Push v) line h = record { value = v; push = (next, line); no_int = no_int }
  constant_is next _ line h = absurd h

  new_is : (next : ℕ) (r : Row) → IsLine P m p next r → TellsValue told.NewArray r → IsPart P known m p does.NewArray
  new_is next (rows.NewNumbers code) line h = inl (code, (next, line))
  new_is next (rows.NewReferences k) line h = inr (k, (next, line))
  new_is next _ line h = absurd h

  store_is : (next : ℕ) (r : Row) → IsLine P m p next r → TellsValue told.StoreNumber r → IsPart P known m p does.StoreNumber
  store_is next (rows.StoreNumber t codes kept) line h = record { type = t; codes = codes; kept = kept; store = (next, line) }
  store_is next _ line h = absurd h

  row_is : (next : ℕ) (r s : Row) → IsLine P m p next r → r ≡ s → HasRow P m p s
  row_is next r s line e = (next, subst (IsLine P m p next) e line)

  -- each line of the place is of this row
  others_are : (next : ℕ) (r : Row) → IsLine P m p next r → IsOtherPart r → (n : ℕ) (s : Row) → IsLine P m p n s → IsOtherPart s
  others_are next r line is n s other = subst IsOtherPart (one P m p next n r s line other).1 is

  static_is : (next : ℕ) (r : Row) → IsLine P m p next r → TellsValue told.ReadStatic r → (o : Option ℤ) → IsArrayTold P known m p o → IsPart P known m p (static_part o)
  static_is next r line h (Some c) (n, is, inl (f, q, other, holds)) = record { elements = n; is = is; field = f; read = (q, other); holds = holds }
  static_is next r line h (Some c) (n, is, inr (named, owner, index, q, other, holds)) =
      absurd (subst (λ (s : Row). TellsValue told.ReadStatic s) (one P m p next q r (rows.GetField named owner index) line other).1 h)
  static_is next r line h None none = record { no_field = no_field; no_array = none; other = others_are next r line (static_other r h) }

  field_is : (next : ℕ) (r : Row) → IsLine P m p next r → TellsValue told.ReadField r → (o : Option ℤ) → IsArrayTold P known m p o → IsPart P known m p (field_part o)
  field_is next r line h (Some c) (n, is, inr (named, owner, index, q, other, holds)) =
      record { elements = n; is = is; named = named; owner = owner; index = index; read = (q, other); holds = holds }
  field_is next r line h (Some c) (n, is, inl (f, q, other, holds)) = absurd (subst (λ (s : Row). TellsValue told.ReadField s) (one P m p next q r (rows.GetStatic f) line other).1 h)
  field_is next r line h None none = record { no_field = no_field; no_array = none; other = others_are next r line (field_other r h) }

  no_array : (next : ℕ) (r : Row) → IsLine P m p next r → IsOtherValue r → (n : ℕ) → ¬ ReadsArray P known m p n
  no_array next r line h n (inl (f, q, other, holds)) = subst (λ (s : Row). IsOtherValue s) (one P m p next q r (rows.GetStatic f) line other).1 h
  no_array next r line h n (inr (named, owner, index, q, other, holds)) =
      subst (λ (s : Row). IsOtherValue s) (one P m p next q r (rows.GetField named owner index) line other).1 h

  value_is : (next : ℕ) (r : Row) → IsLine P m p next r → IsPlain r → (value : ValueRow) → TellsValue value r → IsPart P known m p (part_of array value)
  value_is next r line plain told.Push h = constant_is next r line h
  value_is next r line plain (told.LoadReference k) h = row_is next r _ line (load_reference_row k r h)
  value_is next r line plain told.ReadStatic h = static_is next r line h array array_is
  value_is next r line plain told.ReadField h = field_is next r line h array array_is
  value_is next r line plain told.Copy h = row_is next r _ line (copy_row r h)
  value_is next r line plain (told.Compute a) h = row_is next r _ line (compute_row a r h)
  value_is next r line plain told.NewArray h = new_is next r line h
  value_is next r line plain told.Length h = row_is next r _ line (length_row r h)
  value_is next r line plain told.StoreNumber h = store_is next r line h
  value_is next r line plain told.Other h =
      record { no_field = no_field; no_array = no_array next r line h; other = others_are next r line (other_part r plain h) }

  pub part_is : (next : ℕ) (r : Row) → IsLine P m p next r → (row : IntRow) → Tells row r → (value : ValueRow) → TellsValue value r → IsPart P known m p (part_told array row value)
  part_is next r line (ints.Push n) h value v = value_is next r line (push_plain n r h) value v
  part_is next r line ints.PushEntry h value v = value_is next r line (entry_plain r h) value v
  part_is next r line (ints.Load k) h value v = row_is next r _ line (load_row k r h)
  part_is next r line (ints.Store k) h value v = row_is next r _ line (store_row k r h)
  part_is next r line (ints.StoreLong k) h value v = row_is next r _ line (store_long_row k r h)
  part_is next r line (ints.StoreReference k) h value v = row_is next r _ line (store_reference_row k r h)
  part_is next r line (ints.Increment k n) h value v = (n, row_is next r _ line (increment_row k n r h))
  part_is next r line (ints.BranchZero c o) h value v = value_is next r line (zero_plain c o r h) value v
  part_is next r line (ints.BranchInts c o) h value v = value_is next r line (ints_plain c o r h) value v
  part_is next r line ints.Other h value v = value_is next r line (other_plain r h) value v

-- so with the constants that are told of it
pub by_sites : LinesAreOne → (P : Program) (known : Known) (m p : ℕ) (x : SitesOf) → AreSitesOf P known.constants m x → (xs : List (Option ℤ)) → AreArraysRead P known m xs
    → (next : ℕ) (r : Row) → IsLine P m p next r → (row : IntRow) → Tells row r → (value : ValueRow) → TellsValue value r
    → IsPart P known m p (part_by (int_at x.pushed p) (int_at x.fields p) (length_at xs p) row value)
by_sites one P known m p x sites xs are next r line row h value v = by (int_at x.pushed p) (int_at x.fields p) (sites.pushed p) (sites.fields p)
  where
    by : (pushed field : Option ℤ) → MatchOption pushed ((c : ℤ) → ¬ IsPushAt P m p c) (IsPushAt P m p)
        → MatchOption field ((c : ℤ) → ¬ IsReadAt P known.constants m p c) (IsReadAt P known.constants m p) → IsPart P known m p (part_by pushed field (length_at xs p) row value)
    by (Some c) field is other = is
    by None (Some c) none is = is
    by None None no_int no_field = part_is one P known m p no_int no_field (length_at xs p) (array_told P known m p xs are) next r line row h value v
