-- What calls on files, a source and a sink do to what these tell, and when they may fail.
use Rattle.std.specs.Prelude.{◌≡◌, ◌≢◌, ◌↔◌, ℕ, ◌<◌, ◌≤◌, List, [], ◌++◌, length, take, drop, ⊤, None, Some, Ok, Err}
use Rattle.std.specs.declared.option.Option.{Option}
use Rattle.std.specs.declared.result.Result.{Result}
pub use Rattle.base.specs.Telling.{Rose, HasCause, Counted, Grew}

-- What a sink tells after a call that was handed a piece: the front that the call took is added, and after an error all is as it was.
abbrev pub Puts : {E : Type 0} → Option (List ℕ) → Option (List ℕ) → Result ℕ E → List ℕ → Type 0
Puts old new (Ok n) piece = Grew old new (take n piece)
Puts old new (Err e) piece = new ≡ old

-- The front of a piece was filled with the first bytes that were left, and these are left no more.
-- Into a piece that isn't empty no byte is given exactly where none was left.
pub record Gave (old new : List ℕ) (n : ℕ) (piece : List ℕ) : Type 0 where
  pub given : old ≡ take n piece ++ new
  pub end : 0 < length piece → (n ≡ 0) ↔ (old ≡ [])

-- Where a source told what was left, it still tells, and the front of a piece was filled with that.
abbrev pub GaveWhereTold : Option (List ℕ) → Option (List ℕ) → ℕ → List ℕ → Type 0
GaveWhereTold None new n piece = ⊤
GaveWhereTold (Some old) None n piece = ⊥
GaveWhereTold (Some old) (Some new) n piece = Gave old new n piece

-- What a source tells after a call that was lent a piece: what the call gave is left no more, and after an error all is as it was.
abbrev pub Takes : {E : Type 0} → Option (List ℕ) → Option (List ℕ) → Result ℕ E → List ℕ → Type 0
Takes old new (Ok n) piece = GaveWhereTold old new n piece
Takes old new (Err e) piece = new ≡ old

-- A call on one word leaves the number of words, the counts of all other words and all contents as they were.
pub record OnlyWord (words words' : ℕ) (told told' : ℕ → Option (List ℕ)) (faults faults' : ℕ → ℕ) (word : ℕ) : Type 0 where
  pub same_words : words' ≡ words
  pub contents : (k : ℕ) → told' k ≡ told k
  pub counts : (k : ℕ) → k ≢ word → faults' k ≡ faults k

-- The first n bytes of a piece are those of a file from a place on.
-- Into a piece that isn't empty no byte is read only where the place is at or past the file's end.
pub record IsReadFrom (bytes : List ℕ) (place n : ℕ) (piece : List ℕ) : Type 0 where
  pub same : take n piece ≡ take n (drop place bytes)
  pub within : n ≤ length (drop place bytes)
  pub end : n ≡ 0 → 0 < length piece → length bytes ≤ place

-- Where a word's file is told, a read gave its bytes from a place on.
abbrev pub ReadAt : Option (List ℕ) → ℕ → ℕ → List ℕ → Type 0
ReadAt None place n piece = ⊤
ReadAt (Some bytes) place n piece = IsReadFrom bytes place n piece

-- Where a word's file is told, this is its length.
abbrev pub HasFileLength : Option (List ℕ) → ℕ → Type 0
HasFileLength None n = ⊤
HasFileLength (Some bytes) n = n ≡ length bytes

-- Where a word's file is told, these are all its bytes.
abbrev pub IsWhole : Option (List ℕ) → List ℕ → Type 0
IsWhole None bytes = ⊤
IsWhole (Some whole) bytes = bytes ≡ whole
