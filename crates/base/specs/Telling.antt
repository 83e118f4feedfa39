-- What objects of the outside tell of what they hold or give, and when a call on them may fail.
use Rattle.std.specs.Prelude.{◌≡◌, ℕ, ◌+◌, ◌-◌, ◌^◌, ◌≤◌, min, List, ◌++◌, Some, Ok, Err, OnErr}
use Rattle.std.specs.declared.option.Option.{Option}
use Rattle.std.specs.declared.result.Result.{Result}

-- A count of faults rose. One that stands at its type's end counts as risen.
abbrev pub Rose : ℕ → ℕ → Type 0
Rose before now = min (before + 1) (2 ^ 64 - 1) ≤ now

-- The count of faults never falls, and an error comes only where it rose.
pub record HasCause {T E : Type 0} (before now : ℕ) (result : Result T E) : Type 0 where
  pub later : before ≤ now
  pub failed : OnErr result (Rose before now)

-- Success leaves a count of faults, and an error adds one to it, up to its type's end.
abbrev pub Counted : {T E : Type 0} → Result T E → ℕ → ℕ → Type 0
Counted (Ok x) before now = now ≡ before
Counted (Err e) before now = now ≡ min (before + 1) (2 ^ 64 - 1)

-- What is told now was told before, and these are added to it. An object may stop telling, and never starts.
pub record Grew {A : Type 0} (old new : Option (List A)) (more : List A) : Type 0 where
  pub grown : (ys : List A) → new ≡ Some ys → (xs : List A) × (old ≡ Some xs) × (ys ≡ xs ++ more)
