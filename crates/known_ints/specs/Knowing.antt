-- Which ints, and arrays of which lengths, lines push, as far as that is found already.
use Rattle.std.specs.Prelude.{◌≡◌, ◌↔◌, ℕ, ◌≤ℤ◌, ℤ, pos, false, List, Some, None}
use Rattle.std.specs.declared.option.Option.{Option}
use Rattle.bytecode_model.specs.Program.{Program}
use Rattle.method_flow.specs.Nodes.{At}
use Rattle.code_scan.specs.Scans.{is_named, line_before}
use Rattle.loop_rules.specs.Further.Writing.{MayBeLast}
use Rattle.loop_rules.specs.declared.further.table.KnownInt.{KnownInt}
use Rattle.loop_rules.specs.Further.Found.{IsFollowing, Table, known_at}
use Rattle.known_ints.specs.declared.knowing.Local.{Local}
use Rattle.known_ints.specs.declared.knowing.Holds.{Holds}
use Rattle.known_ints.specs.declared.knowing.Holds.TheVariants as kinds
use Rattle.known_ints.specs.declared.rows.Arithmetic.{Arithmetic}
use Rattle.known_ints.specs.declared.parts.Part.{Part}
use Rattle.known_ints.specs.declared.parts.Part.TheVariants as does
use Rattle.known_ints.specs.Arithmetic.{IsComputed}
use Rattle.known_ints.specs.Parts.{part_at}
use Rattle.known_ints.specs.Code.{CodeOf}

-- ---- what is found already

abbrev pub an_int : (local : ℕ) → Local
an_int k = record { index = k; holds = kinds.AnInt }

abbrev pub an_array : (local : ℕ) → Local
an_array k = record { index = k; holds = kinds.AnArray }

-- what stores into the local variable
abbrev pub store_of : Local → Part
store_of l = elim l.holds [ kinds.AnInt ↦ does.Store l.index | kinds.AnArray ↦ does.StoreReference l.index ]

-- what loads it
abbrev pub load_of : Local → Part
load_of l = elim l.holds [ kinds.AnInt ↦ does.Load l.index | kinds.AnArray ↦ does.LoadReference l.index ]

-- what is found of ints, or of lengths of arrays
abbrev pub found_of : Table → Holds → List (Option KnownInt)
found_of t kinds.AnInt = t.ints
found_of t kinds.AnArray = t.lengths

-- by what is found, the instruction at the place stores this number in the local variable
pub record IsStoredBy (parts : List Part) (found : List (Option KnownInt)) (l : Local) (place : ℕ) (c : ℤ) : Type 0 where
  pub is : part_at parts place ≡ store_of l
  pub from : ℕ
  pub pushed : known_at found place ≡ Some (record { from = from; value = c })

-- so does each instruction that may have written the local variable last before the place
pub record AreStoredBy (P : Program) (m : ℕ) (parts : List Part) (found : List (Option KnownInt)) (l : Local) (place : ℕ) (c : ℤ) : Type 0 where
  pub written : ¬ MayBeLast P m l.index (At place) None
  pub stored : (w : ℕ) → MayBeLast P m l.index (At place) (Some w) → IsStoredBy parts found l w c

-- the lines push it, of which the one at the place is the only one
abbrev pub IsLoadedBy : Program → (method : ℕ) → List Part → List (Option KnownInt) → Local → (place from : ℕ) → ℤ → Type 0
IsLoadedBy P m parts found l p from x = (from ≡ p) × AreStoredBy P m parts found l p x

-- an int that is computed of two that are found
pub record IsComputedBy (ints : List (Option KnownInt)) (a : Arithmetic) (place from : ℕ) (c : ℤ) : Type 0 where
  pub second : ℕ
  pub x : ℤ
  pub y : ℤ
  pub upper : known_at ints place ≡ Some (record { from = second; value = y })
  pub lower : known_at ints second ≡ Some (record { from = from; value = x })
  pub computed : IsComputed a y x c

-- By what is found, lines push the int, the last of which stands at the place and does so.
abbrev pub GivesInt : Program → (method : ℕ) → CodeOf → Table → (place : ℕ) → Part → (from : ℕ) → ℤ → Type 0
GivesInt P m code t p (does.Int c) from x = (from ≡ p) × (x ≡ c)
GivesInt P m code t p (does.Field c) from x = (from ≡ p) × (x ≡ c)
GivesInt P m code t p (does.Load k) from x = IsLoadedBy P m code.parts t.ints (an_int k) p from x
GivesInt P m code t p does.Length from x = known_at t.lengths p ≡ Some (record { from = from; value = x })
GivesInt P m code t p (does.Compute a) from x = IsComputedBy t.ints a p from x
GivesInt P m code t p part from x = ⊥

-- it pushes a constant
abbrev pub IsConstantPart : Part → Type 0
IsConstantPart (does.Int c) = Unit {0}
IsConstantPart does.Constant = Unit {0}
IsConstantPart part = ⊥

-- nothing names the place, and the instruction at the other place, directly before it, does so
pub record IsDoneBefore (code : CodeOf) (Does : Part → Type 0) (place before : ℕ) : Type 0 where
  pub unnamed : is_named code.scan place ≡ false
  pub is : line_before code.scan place ≡ Some before
  pub does_so : Does (part_at code.parts before)

-- the store at the place fills an element of an array of this length, as an array initialiser does: behind a copy of the array, an index and the element
pub record IsFilledBefore (code : CodeOf) (lengths : List (Option KnownInt)) (store from : ℕ) (c : ℤ) : Type 0 where
  pub value : ℕ
  pub index : ℕ
  pub copy : ℕ
  pub value_is : IsDoneBefore code IsConstantPart store value
  pub index_is : IsDoneBefore code IsConstantPart value index
  pub copy_is : IsDoneBefore code (λ part. part ≡ does.Copy) index copy
  pub array : known_at lengths copy ≡ Some (record { from = from; value = c })

-- it pushes the reference of a local variable
abbrev pub IsReferenceLoad : Part → Type 0
IsReferenceLoad (does.LoadReference k) = Unit {0}
IsReferenceLoad part = ⊥

-- the same of an array of this length
abbrev pub GivesLength : Program → (method : ℕ) → CodeOf → Table → (place : ℕ) → Part → (from : ℕ) → ℤ → Type 0
GivesLength P m code t p does.NewArray from x = (known_at t.ints p ≡ Some (record { from = from; value = x })) × (pos 0 ≤ℤ x)
GivesLength P m code t p (does.LoadReference k) from x = IsLoadedBy P m code.parts t.lengths (an_array k) p from x
GivesLength P m code t p (does.StaticArray c) from x = (from ≡ p) × (x ≡ c)
GivesLength P m code t p (does.FieldArray c) from x = IsDoneBefore code IsReferenceLoad p from × (x ≡ c)
GivesLength P m code t p does.StoreNumber from x = IsFilledBefore code t.lengths p from x
GivesLength P m code t p part from x = ⊥

-- so where they end at the place, which is such a one
pub record GivesAt (P : Program) (m : ℕ) (code : CodeOf) (Gives : (place : ℕ) → Part → (from : ℕ) → ℤ → Type 0) (p from : ℕ) (x : ℤ) : Type 0 where
  pub following : IsFollowing P m p
  pub last : ℕ
  pub before : line_before code.scan p ≡ Some last
  pub gives : Gives last (part_at code.parts last) from x

-- it is just what is given
abbrev pub IsGiven : (Gives : (from : ℕ) → ℤ → Type 0) → Option KnownInt → Type 0
IsGiven Gives o = (x : KnownInt) → (o ≡ Some x) ↔ Gives x.from x.value

abbrev pub GivesIntAt : Program → (method : ℕ) → CodeOf → Table → (place from : ℕ) → ℤ → Type 0
GivesIntAt P m code t = GivesAt P m code (GivesInt P m code t)

abbrev pub GivesLengthAt : Program → (method : ℕ) → CodeOf → Table → (place from : ℕ) → ℤ → Type 0
GivesLengthAt P m code t = GivesAt P m code (GivesLength P m code t)

abbrev pub GivesBy : Program → (method : ℕ) → CodeOf → Table → Holds → (place from : ℕ) → ℤ → Type 0
GivesBy P m code t kinds.AnInt = GivesIntAt P m code t
GivesBy P m code t kinds.AnArray = GivesLengthAt P m code t
