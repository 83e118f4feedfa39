-- What is proved of loops that count.
use Rattle.std.specs.Prelude.{◌≡◌, ℕ, ℤ, Bool}
use Rattle.bytecode_model.specs.Program.{Program}
use Rattle.loop_nest.specs.Digraph.{Digraph}
use Rattle.loop_rules.specs.Tests.{Constants}
use Rattle.loop_rules.specs.Values.{IsFirstOut}
use Rattle.loop_rules.specs.Counted.{IsCounted}

-- a loop counts to one number at most
abbrev pub CountsAreOne : Type 0
CountsAreOne = (P : Program) (constants : Constants) (m : ℕ) (g : Digraph) (h n other : ℕ) → IsCounted P constants m g h n → IsCounted P constants m g h other
    → n ≡ other

-- one value is the first that leaves a loop
abbrev pub FirstOutIsOne : Type 0
FirstOutIsOne = (first s : ℤ) (out : ℤ → Bool) (n other : ℕ) → IsFirstOut first s out n → IsFirstOut first s out other → n ≡ other
