-- A count that passes its limit.
use Rattle.std.specs.Prelude.{ℕ, nat_le, if◌then◌else◌, Option, Some, None}
use Rattle.image_builder.specs.declared.fault.Counted.{Counted}

-- a count with its limit
abbrev pub CountPastLimit : Type 0
CountPastLimit = Counted × ℕ × ℕ

abbrev pub passed : Counted → (count limit : ℕ) → Option CountPastLimit
passed what count limit = if nat_le count limit then None else Some (what, count, limit)
