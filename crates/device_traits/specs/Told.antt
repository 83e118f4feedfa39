-- What a device tells, and what each of its calls does to that.
use Rattle.std.specs.Prelude.{◌≡◌, ℕ, ◌^◌, ◌<◌, ◌≤◌, Bool, true, false, List, [], ◌∷◌, ◌++◌, Some, None, Ok, Err}
use Rattle.std.specs.List.{flat_map}
use Rattle.std.specs.declared.option.Option.{Option}
use Rattle.std.specs.declared.result.Result.{Result}
use Rattle.base.specs.Telling.{Grew, Rose}
use Rattle.device_traits.specs.declared.fault.DeviceFault.{DeviceFault}
use Rattle.device_traits.specs.declared.fault.DeviceFault.TheVariants.{Input, Output, Seen as SeenFault}
use Rattle.device_traits.specs.declared.seen.Seen.{Seen}

-- a thing that a device notes: a byte that it was given, or a state that it was handed
pub data DeviceNote : Type 0 where
  Wrote : ℕ → DeviceNote
  Saw : Seen → DeviceNote

-- What is left of a device's input, what it holds of its output, what it has written of all that it noted and which states it was handed, each where it
-- tells; the line that it writes of a thing, if any. Its counts of faults.
pub record Told : Type 0 where
  pub left : Option (List ℕ)
  pub held : Option (List ℕ)
  pub line : DeviceNote → List ℕ
  pub noted : Option (List ℕ)
  pub handed : Option (List Seen)
  pub read_faults : ℕ
  pub write_faults : ℕ
  pub seen_faults : ℕ

-- a device that writes nothing of what it notes
abbrev pub silent : DeviceNote → List ℕ
silent note = []

-- the lines of things in order grew what it has written, which goes on to write such lines
pub record Noted (old new : Told) (notes : List DeviceNote) : Type 0 where
  pub line : new.line ≡ old.line
  pub written : Grew old.noted new.noted (flat_map old.line notes)

-- A device was given these bytes and handed these states, noted all of it in this order, and no byte was taken from it.
pub record Passed (old new : Told) (out : List ℕ) (seen : List Seen) (notes : List DeviceNote) : Type 0 where
  pub left : new.left ≡ old.left
  pub held : Grew old.held new.held out
  pub noted : Noted old new notes
  pub handed : Grew old.handed new.handed seen

-- What is told now was told before, and these are added to it, and then a front of the last, which is all of it only where the last is empty.
pub record GrewInPart {A : Type 0} (old new : Option (List A)) (more last : List A) : Type 0 where
  pub grown : (ys : List A) → new ≡ Some ys
      → (xs : List A) × (old ≡ Some xs) × (front : List A) × (rest : List A) × (last ≡ front ++ rest) × (rest ≡ [] → front ≡ []) × (ys ≡ xs ++ (more ++ front))

-- the lines of things in order and a front of one more
pub record NotedInPart (old new : Told) (notes : List DeviceNote) (last : DeviceNote) : Type 0 where
  pub line : new.line ≡ old.line
  pub written : GrewInPart old.noted new.noted (flat_map old.line notes) (old.line last)

-- A device was handed these states and noted them, and of one thing more, on which it failed, no more than a part. Nothing was put out or taken.
pub record PassedInPart (old new : Told) (seen : List Seen) (notes : List DeviceNote) (last : DeviceNote) : Type 0 where
  pub left : new.left ≡ old.left
  pub held : Grew old.held new.held []
  pub noted : NotedInPart old new notes last
  pub handed : Grew old.handed new.handed seen

-- the counts never fall
pub record CountsRise (old new : Told) : Type 0 where
  pub reads : old.read_faults ≤ new.read_faults
  pub writes : old.write_faults ≤ new.write_faults
  pub sees : old.seen_faults ≤ new.seen_faults

-- of the counts, only that of reads may have risen
pub record OnlyReads (old new : Told) : Type 0 where
  pub reads : old.read_faults ≤ new.read_faults
  pub writes : new.write_faults ≡ old.write_faults
  pub sees : new.seen_faults ≡ old.seen_faults

-- of the counts, only that of writes may have risen
pub record OnlyWrites (old new : Told) : Type 0 where
  pub reads : new.read_faults ≡ old.read_faults
  pub writes : old.write_faults ≤ new.write_faults
  pub sees : new.seen_faults ≡ old.seen_faults

-- of the counts, only that of handed states may have risen
pub record OnlySees (old new : Told) : Type 0 where
  pub reads : new.read_faults ≡ old.read_faults
  pub writes : new.write_faults ≡ old.write_faults
  pub sees : old.seen_faults ≤ new.seen_faults

-- what is given is a byte, or the end
abbrev pub IsGiven : Option ℕ → Type 0
IsGiven None = Unit {0}
IsGiven (Some byte) = byte < 2 ^ 8

-- the first byte that is left was given and is left no more; none is given exactly where none is left
abbrev pub GivesFirst : Option (List ℕ) → Option (List ℕ) → Option ℕ → Type 0
GivesFirst None new byte = Unit {0}
GivesFirst (Some (b ∷ bytes)) new byte = (byte ≡ Some b) × (new ≡ Some bytes)
GivesFirst (Some []) new byte = (byte ≡ None) × (new ≡ Some [])

abbrev pub GivesByte : Option (List ℕ) → Option (List ℕ) → Option ℕ → Type 0
GivesByte old new byte = IsGiven byte × GivesFirst old new byte

-- a byte was asked for, and all else stays
pub record TookByte (old new : Told) (byte : Option ℕ) : Type 0 where
  pub left : GivesByte old.left new.left byte
  pub held : Grew old.held new.held []
  pub noted : Noted old new []
  pub handed : Grew old.handed new.handed []

-- where a byte was asked for it was given, and else nothing was
abbrev pub GivesWhere : (asked : Bool) → Option (List ℕ) → Option (List ℕ) → Option ℕ → Type 0
GivesWhere true old new byte = GivesByte old new byte
GivesWhere false old new byte = (new ≡ old) × (byte ≡ None)

-- A device gave a byte where one was asked for, was given these bytes and handed these states, and noted what it was given in this order.
pub record Exchanged (old new : Told) (asked : Bool) (byte : Option ℕ) (out : List ℕ) (seen : List Seen) (notes : List DeviceNote) : Type 0 where
  pub left : GivesWhere asked old.left new.left byte
  pub held : Grew old.held new.held out
  pub noted : Noted old new notes
  pub handed : Grew old.handed new.handed seen

-- these answers were given, one after the other
abbrev pub GivesEach : Option (List ℕ) → Option (List ℕ) → List (Option ℕ) → Type 0
GivesEach old new [] = new ≡ old
GivesEach old new (answer ∷ answers) = (mid : Option (List ℕ)) × GivesByte old mid answer × GivesEach mid new answers

-- A device gave these answers, was given these bytes and handed these states, noted what it was given in this order, and none of its counts fell.
pub record Attended (old new : Told) (answers : List (Option ℕ)) (out : List ℕ) (seen : List Seen) (notes : List DeviceNote) : Type 0 where
  pub left : GivesEach old.left new.left answers
  pub held : Grew old.held new.held out
  pub noted : Noted old new notes
  pub handed : Grew old.handed new.handed seen
  pub counts : CountsRise old new

-- what `input` does
abbrev pub Inputs : Told → Told → Result (Option ℕ) DeviceFault → Type 0
Inputs old new (Ok byte) = TookByte old new byte × OnlyReads old new
Inputs old new (Err Input) = Passed old new [] [] [] × OnlyReads old new × Rose old.read_faults new.read_faults
Inputs old new (Err fault) = ⊥

-- what `output` does
abbrev pub Outputs : {T : Type 0} → Told → Told → ℕ → Result T DeviceFault → Type 0
Outputs old new byte (Ok x) = Passed old new (byte ∷ []) [] (Wrote byte ∷ []) × OnlyWrites old new
Outputs old new byte (Err Output) = PassedInPart old new [] [] (Wrote byte) × OnlyWrites old new × Rose old.write_faults new.write_faults
Outputs old new byte (Err fault) = ⊥

-- what `seen` does
abbrev pub Sees : {T : Type 0} → Told → Told → Seen → Result T DeviceFault → Type 0
Sees old new at (Ok x) = Passed old new [] (at ∷ []) (Saw at ∷ []) × OnlySees old new
Sees old new at (Err SeenFault) = PassedInPart old new [] [] (Saw at) × OnlySees old new × Rose old.seen_faults new.seen_faults
Sees old new at (Err fault) = ⊥
