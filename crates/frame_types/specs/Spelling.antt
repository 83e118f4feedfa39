-- The bytes of a StackMapTable: JVM Specification SE 8, 4.7.4.
use Rattle.std.specs.Prelude.{◌≡◌, ◌⊎◌, ℕ, ◌+◌, ◌-◌, ◌*◌, ◌<◌, ◌≤◌, List, [], ◌∷◌, ◌++◌, length, Some}
use Rattle.class_pool.specs.declared.entry.Entry.{Entry}
use Rattle.class_pool.specs.Grammar.{entry_at, class_name_of, text_at}
use Rattle.frame_types.specs.declared.types.VarType.{VarType}
use Rattle.frame_types.specs.declared.types.VarType.TheVariants.{Top, Integer, Null, UninitializedThis, Object, Uninitialized, Long}
use Rattle.frame_types.specs.declared.read.Change.{Change}
use Rattle.frame_types.specs.declared.read.Change.TheVariants.{Same, OneItem, Chop, Append, Full}
use Rattle.frame_types.specs.declared.read.MapEntry.{MapEntry}

-- bytes of the one sort, and behind them bytes of the other
abbrev pub Joined : (first second : List ℕ → Type 0) → List ℕ → Type 0
Joined first second bytes = (front : List ℕ) × (rest : List ℕ) × (bytes ≡ front ++ rest) × first front × second rest

abbrev pub IsByte : ℕ → List ℕ → Type 0
IsByte n bytes = bytes ≡ n ∷ []

-- a number of two bytes
abbrev pub IsTwo : ℕ → List ℕ → Type 0
IsTwo n bytes = (high : ℕ) × (low : ℕ) × (bytes ≡ high ∷ low ∷ []) × (high * 256 + low ≡ n)

-- ---- verification_type_info

-- the index of a Class entry that has this name
abbrev pub IsClassNamed : List Entry → (name : List ℕ) → List ℕ → Type 0
IsClassNamed pool name bytes = (index : ℕ) × (text : ℕ) × IsTwo index bytes × (class_name_of (entry_at pool index) ≡ Some text) × (text_at pool text ≡ name)

-- a tag, and what stands behind it; float (2) and double (3) aren't supported
abbrev pub IsType : List Entry → VarType → List ℕ → Type 0
IsType pool Top bytes = IsByte 0 bytes
IsType pool Integer bytes = IsByte 1 bytes
IsType pool Long bytes = IsByte 4 bytes
IsType pool Null bytes = IsByte 5 bytes
IsType pool UninitializedThis bytes = IsByte 6 bytes
IsType pool (Object name) bytes = Joined (IsByte 7) (IsClassNamed pool name) bytes
IsType pool (Uninitialized place) bytes = Joined (IsByte 8) (IsTwo place) bytes

abbrev pub AreTypes : List Entry → List VarType → List ℕ → Type 0
AreTypes pool [] bytes = bytes ≡ []
AreTypes pool (t ∷ ts) bytes = Joined (IsType pool t) (AreTypes pool ts) bytes

-- how many they are, and behind it they
abbrev pub AreCounted : List Entry → List VarType → List ℕ → Type 0
AreCounted pool ts bytes = Joined (IsTwo (length ts)) (AreTypes pool ts) bytes

-- ---- stack_map_frame

-- same_frame and same_frame_extended; same_locals_1_stack_item_frame and its extended form; chop_frame; append_frame; full_frame
abbrev pub IsEntry : List Entry → (offset : ℕ) → Change → List ℕ → Type 0
IsEntry pool offset Same bytes = ((offset < 64) × IsByte offset bytes) ⊎ Joined (IsByte 251) (IsTwo offset) bytes
IsEntry pool offset (OneItem item) bytes =
    ((offset < 64) × Joined (IsByte (64 + offset)) (IsType pool item) bytes) ⊎ Joined (IsByte 247) (Joined (IsTwo offset) (IsType pool item)) bytes
IsEntry pool offset (Chop n) bytes = (0 < n) × (n ≤ 3) × Joined (IsByte (251 - n)) (IsTwo offset) bytes
IsEntry pool offset (Append more) bytes = (0 < length more) × (length more ≤ 3)
    × Joined (IsByte (251 + length more)) (Joined (IsTwo offset) (AreTypes pool more)) bytes
IsEntry pool offset (Full all operands) bytes = Joined (IsByte 255) (Joined (IsTwo offset) (Joined (AreCounted pool all) (AreCounted pool operands))) bytes

abbrev pub AreEntries : List Entry → List MapEntry → List ℕ → Type 0
AreEntries pool [] bytes = bytes ≡ []
AreEntries pool (e ∷ es) bytes = Joined (IsEntry pool e.offset e.change) (AreEntries pool es) bytes

-- a number of frames, and just so many of them
abbrev pub IsTable : List Entry → List MapEntry → List ℕ → Type 0
IsTable pool es bytes = Joined (IsTwo (length es)) (AreEntries pool es) bytes
