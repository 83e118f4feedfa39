-- What is found from round to round.
use Rattle.std.specs.Prelude.{◌≡◌, ℕ, ◌+◌, ◌<◌, ℤ, pos, Bool, true, false, List, length, All, Contains, Some, None, filter, is_none, set, take, IsSome, IsTrue}
use Rattle.std.specs.declared.option.Option.{Option}
use Rattle.bytecode_model.specs.Program.{Program}
use Rattle.code_scan.specs.Scans.{line_before}
use Rattle.loop_rules.specs.Further.Known.{Known, Pushes, PushesArray}
use Rattle.loop_rules.specs.declared.further.table.KnownInt.{KnownInt}
use Rattle.loop_rules.specs.Further.Found.{IsFollowing, Table, known_at}
use Rattle.known_ints.specs.declared.parts.Part.{Part}
use Rattle.known_ints.specs.declared.parts.Part.TheVariants as does
use Rattle.known_ints.specs.declared.knowing.Holds.{Holds}
use Rattle.known_ints.specs.declared.knowing.Holds.TheVariants.{AnInt, AnArray}
use Rattle.known_ints.specs.declared.answers.Answer.{Answer}
use Rattle.known_ints.specs.declared.lines.Line.{Line}
use Rattle.known_ints.specs.Answers.{AreAnswers}
use Rattle.known_ints.specs.Code.{CodeOf, IsCodeOf}
use Rattle.known_ints.specs.Knowing.{GivesBy, found_of}

-- ---- lines

-- of which sort it is what lines push of which the last one does so
abbrev pub gives_of : Part → Option Holds
gives_of (does.Int c) = Some AnInt
gives_of (does.Field c) = Some AnInt
gives_of (does.Load k) = Some AnInt
gives_of does.Length = Some AnInt
gives_of (does.Compute a) = Some AnInt
gives_of does.NewArray = Some AnArray
gives_of (does.LoadReference k) = Some AnArray
gives_of (does.StaticArray c) = Some AnArray
gives_of (does.FieldArray c) = Some AnArray
gives_of does.StoreNumber = Some AnArray
gives_of part = None

-- control comes to the place from the last of the lines alone
pub record IsLineOf (code : CodeOf) (line : Line) : Type 0 where
  pub place_within : line.place < length code.parts
  pub last_within : line.last < length code.parts
  pub follows : (P : Program) (known : Known) (m : ℕ) → IsCodeOf P known m code
      → IsFollowing P m line.place × (line_before code.scan line.place ≡ Some line.last)

-- whatever follows by whatever is found, of lines that end at the place, it is of this sort
abbrev pub GivesOnly : CodeOf → (place : ℕ) → (Holds → Type 0) → Type 0
GivesOnly code p Only =
    (P : Program) (known : Known) (m : ℕ) → IsCodeOf P known m code → (t : Table) (h : Holds) (from : ℕ) (x : ℤ) → GivesBy P m code t h p from x → Only h

-- these are lines, and all that end at the first so many places of which something may follow
pub record AreLines (code : CodeOf) (n : ℕ) (lines : List Line) : Type 0 where
  pub each : All (IsLineOf code) lines
  pub all : (p : ℕ) → p < n → GivesOnly code p (λ h. (line : Line) × Contains lines line × (line.place ≡ p) × (line.holds ≡ h))

-- ---- what is found

-- it is so what is found
pub record IsSound (P : Program) (known : Known) (m : ℕ) (t : Table) : Type 0 where
  pub ints : (p : ℕ) (x : KnownInt) → known_at t.ints p ≡ Some x → IsFollowing P m p × Pushes P known m x.from p x.value
  pub lengths : (p : ℕ) (x : KnownInt) → known_at t.lengths p ≡ Some x → IsFollowing P m p × (n : ℕ) × (x.value ≡ pos n) × PushesArray P known m x.from p n

-- so it is, and so is what is told of loads
pub record IsFinding (code : CodeOf) (t : Table) (ts : List (Option Answer)) : Type 0 where
  pub sound : (P : Program) (known : Known) (m : ℕ) → IsCodeOf P known m code → IsSound P known m t
  pub answers : AreAnswers code t ts

-- each list has an entry for each place
pub record AreSized (code : CodeOf) (t : Table) (ts : List (Option Answer)) : Type 0 where
  pub found : (h : Holds) → length (found_of t h) ≡ length code.parts
  pub answers : length ts ≡ length code.parts

-- at how many places nothing is found
abbrev pub left : Table → ℕ
left t = length (filter is_none t.ints) + length (filter is_none t.lengths)

-- what follows of lines that end at the place is found
abbrev pub IsClosedAt : CodeOf → Table → Holds → (place : ℕ) → Type 0
IsClosedAt code t h p =
    (P : Program) (known : Known) (m : ℕ) → IsCodeOf P known m code → (from : ℕ) (x : ℤ) → GivesBy P m code t h p from x → IsSome (known_at (found_of t h) p)

-- ---- steps

-- this is put, and nothing else
abbrev pub IsPut : Table → Holds → (place : ℕ) → KnownInt → (new : Table) → Type 0
IsPut t AnInt p k t' = (t'.ints ≡ set t.ints p (Some k)) × (t'.lengths ≡ t.lengths)
IsPut t AnArray p k t' = (t'.lengths ≡ set t.lengths p (Some k)) × (t'.ints ≡ t.ints)

-- what is given of lines is put, if anything is
abbrev pub IsPutIfGiven : Line → (given : Option KnownInt) → (old new : Table) → (is : Bool) → Type 0
IsPutIfGiven line None t t' b = (t' ≡ t) × (b ≡ false)
IsPutIfGiven line (Some k) t t' b = IsPut t line.holds line.place k t' × (b ≡ true)

-- What was found and told was so, and so it is now; something is found now of which nothing was, or else nothing is, and this is closed.
pub record IsStep (code : CodeOf) (Closed : Type 0) (t t' : Table) (ts ts' : List (Option Answer)) (grown : Bool) : Type 0 where
  pub sized : AreSized code t' ts'
  pub finding : IsFinding code t ts → IsFinding code t' ts'
  pub less : IsTrue grown → left t' < left t
  pub same : grown ≡ false → t' ≡ t
  pub closed : IsFinding code t ts → grown ≡ false → Closed

-- a visit of a line
abbrev pub IsVisited : CodeOf → Line → (old new : Table) → (told now : List (Option Answer)) → (grown : Bool) → Type 0
IsVisited code line t = IsStep code (IsClosedAt code t line.holds line.place) t

-- a visit of the first so many lines
abbrev pub IsRound : CodeOf → List Line → (n : ℕ) → (old new : Table) → (told now : List (Option Answer)) → (grown : Bool) → Type 0
IsRound code lines n t = IsStep code ((line : Line) → Contains (take n lines) line → IsClosedAt code t line.holds line.place) t

-- nothing is found at so many places
pub record AreEmpty (places : ℕ) (t : Table) : Type 0 where
  pub long : (h : Holds) → length (found_of t h) ≡ places
  pub empty : (h : Holds) (p : ℕ) → known_at (found_of t h) p ≡ None
