-- What is known of a method follows of what its walks cost.
use Rattle.std.specs.Prelude.{◌≤◌, All}
use Rattle.bound_finder.specs.Known.{IsLimited, IsKnownOf}
use Rattle.bound_finder.specs.Found.{IsFitOf}
use Rattle.bound_finder.specs.WalkedMethods.{WalkedMethod, IsWalkedMethod, found_of}

-- what is found of a method by its walks is known of it
abbrev pub KnownIs : Type 0
KnownIs =
    (x : WalkedMethod) → IsWalkedMethod x → x.timing.read ≤ 63 → x.timing.write ≤ 63 → All IsLimited x.table → IsFitOf x.program x.timing x.method x.fit
    → IsKnownOf x.program x.timing x.bound_of x.table x.method (found_of x).known
