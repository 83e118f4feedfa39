-- Reading off the front of a list: what was read and the rest behind it, or nothing.
use Rattle.std.specs.Prelude.{◌≡◌, ℕ, ◌==◌, if◌then◌else◌, List, length, Option, Some, None, Result, Ok, Err}
use Rattle.base.specs.declared.fault.FormatFault.{FormatFault}
use Rattle.base.specs.declared.fault.FormatFault.TheVariants as faults

infixl 10 ◌>>=◌
abbrev pub ◌>>=◌ : {A B : Type 0} → Option A → (A → Option B) → Option B
(Some x) >>= f = f x
None >>= f = None

-- what was read, if it is all of the list
abbrev pub whole : {X : Type 0} → X × List ℕ → Option X
whole x = if length x.1 == 0 then Some x.0 else None

-- A fault says that nothing is read there, or that memory ran out.
abbrev pub Fails : {Y : Type 0} → FormatFault → Option Y → Type 0
Fails faults.Bad read = read ≡ None
Fails faults.NoMemory read = Unit {0}

-- What a function returned, seen by view, is what reading gives, unless memory ran out.
abbrev pub Gives : {X Y : Type 0} → (X → Y) → Result X FormatFault → Option Y → Type 0
Gives view (Ok x) read = read ≡ Some (view x)
Gives view (Err fault) read = Fails fault read
