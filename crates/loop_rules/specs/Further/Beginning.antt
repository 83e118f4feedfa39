-- With what a local variable begins in a loop.
use Rattle.std.specs.Prelude.{◌≢◌, ℕ, ℤ}
use Rattle.std.specs.declared.option.Option.{Option}
use Rattle.bytecode_model.specs.Program.{Program}
use Rattle.loop_nest.specs.Digraph.{Digraph}
use Rattle.loop_nest.specs.Walks.{IsEntering}
use Rattle.method_flow.specs.Nodes.{Node, number_of}
use Rattle.loop_rules.specs.Further.Writing.{MayBeLast}
use Rattle.loop_rules.specs.Further.Known.{Known, Stores}

-- By whichever edge the loop is entered, each instruction that may have written the local variable last stores this int; so it is too where the loop was left
-- and is entered again. The method doesn't begin with the header, to which control would come by no edge.
pub record BeginsAt (P : Program) (known : Known) (m : ℕ) (g : Digraph) (h local : ℕ) (c : ℤ) : Type 0 where
  pub entered : h ≢ 0
  pub stored : (u : Node) (w : Option ℕ) → IsEntering g h (number_of u) h → MayBeLast P m local u w → Stores P known m local w c
