-- Rows that are told, and which rows these can be.
use Rattle.std.proofs.Common.{◌≡◌, ℕ, ℤ, pos, Bool, [], ◌∷◌, refl, sym, ap, ap₂}
use Rattle.bytecode_model.specs.declared.Value.TheVariants.{Int}
use Rattle.bytecode_model.specs.Rows as rows
use Rattle.bytecode_model.specs.Rows.{Row}
use Rattle.bytecode_model.specs.Types.{IntType, LongType, Numbers, References}
use Rattle.code_scan.specs.declared.rows.Comparison.{Comparison}
use Rattle.code_scan.specs.declared.rows.IntRow.{IntRow}
use Rattle.code_scan.specs.declared.rows.IntRow.TheVariants as told
use Rattle.code_scan.specs.Rows.{Tells, test_of}

-- ---- the row that is told

pub tells_load : (k : ℕ) (r : Row) → Tells (told.Load k) r → r ≡ rows.Load (Numbers IntType) k
tells_load k (rows.Load (Numbers IntType) l) h = ap (λ (j : ℕ). rows.Load (Numbers IntType) j) h
tells_load k _ h = absurd h

pub tells_store : (k : ℕ) (r : Row) → Tells (told.Store k) r → r ≡ rows.Store (Numbers IntType) k
tells_store k (rows.Store (Numbers IntType) l) h = ap (λ (j : ℕ). rows.Store (Numbers IntType) j) h
tells_store k _ h = absurd h

pub tells_store_long : (k : ℕ) (r : Row) → Tells (told.StoreLong k) r → r ≡ rows.Store (Numbers LongType) k
tells_store_long k (rows.Store (Numbers LongType) l) h = ap (λ (j : ℕ). rows.Store (Numbers LongType) j) h
tells_store_long k _ h = absurd h

pub tells_store_reference : (k : ℕ) (r : Row) → Tells (told.StoreReference k) r → r ≡ rows.Store References k
tells_store_reference k (rows.Store References l) h = ap (λ (j : ℕ). rows.Store References j) h
tells_store_reference k _ h = absurd h

pub tells_increment : (k : ℕ) (n : ℤ) (r : Row) → Tells (told.Increment k n) r → r ≡ rows.Increment k n
tells_increment k n (rows.Increment l s) h = ap₂ (λ (j : ℕ) (z : ℤ). rows.Increment j z) h.0 h.1
tells_increment k n _ h = absurd h

pub tells_zero : (c : Comparison) (o : ℤ) (r : Row) → Tells (told.BranchZero c o) r → r ≡ rows.Branch (IntType ∷ []) (λ (x : ℤ). test_of c (pos 0) x) o
tells_zero c o (rows.Branch (IntType ∷ []) test offset) h = ap₂ (λ (t : ℤ → Bool) (z : ℤ). rows.Branch (IntType ∷ []) t z) h.0 h.1
tells_zero c o _ h = absurd h

pub tells_ints : (c : Comparison) (o : ℤ) (r : Row) → Tells (told.BranchInts c o) r → r ≡ rows.Branch (IntType ∷ IntType ∷ []) (λ (y x : ℤ). test_of c y x) o
tells_ints c o (rows.Branch (IntType ∷ IntType ∷ []) test offset) h = ap₂ (λ (t : ℤ → ℤ → Bool) (z : ℤ). rows.Branch (IntType ∷ IntType ∷ []) t z) h.0 h.1
tells_ints c o _ h = absurd h

-- ---- what is told of a row

pub load_told : (t : IntRow) (k : ℕ) → Tells t (rows.Load (Numbers IntType) k) → t ≡ told.Load k
load_told (told.Load j) k h = ap told.Load (sym h)
load_told told.Other k h = absurd h
load_told _ k h = absurd h

pub zero_told : (t : IntRow) (test : ℤ → Bool) (offset : ℤ) → Tells t (rows.Branch (IntType ∷ []) test offset)
    → (c : Comparison) × (o : ℤ) × (t ≡ told.BranchZero c o) × (test ≡ (λ (x : ℤ). test_of c (pos 0) x)) × (offset ≡ o)
zero_told (told.BranchZero c o) test offset h = (c, o, refl, h.0, h.1)
zero_told told.Other test offset h = absurd h
zero_told _ test offset h = absurd h

pub ints_told : (t : IntRow) (test : ℤ → ℤ → Bool) (offset : ℤ) → Tells t (rows.Branch (IntType ∷ IntType ∷ []) test offset)
    → (c : Comparison) × (o : ℤ) × (t ≡ told.BranchInts c o) × (test ≡ (λ (y x : ℤ). test_of c y x)) × (offset ≡ o)
ints_told (told.BranchInts c o) test offset h = (c, o, refl, h.0, h.1)
ints_told told.Other test offset h = absurd h
ints_told _ test offset h = absurd h

-- ---- parts of rows

abbrev pub int_in : Row → ℤ
int_in (rows.Push (Int c)) = c
int_in r = pos 0

abbrev pub field_in : Row → ℕ
field_in (rows.GetStatic f) = f
field_in r = 0

abbrev pub IsPush : Row → Type 0
IsPush (rows.Push v) = Unit {0}
IsPush r = ⊥
