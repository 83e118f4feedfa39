-- What logic in the making is seen as, and what is said of the words on its nets.
--
-- A statement about nets speaks of all words at a clock in which the logic is settled: on each wire stands what its expression makes of the words on
-- its nets. A settled word on a net is one word, however much is added later; so statements about one logic hold of each that has further wires.
use Rattle.std.specs.Prelude.{◌≡◌, ℕ, Bool, false, List, [], ◌∷◌, ◌++◌, length, slice_get, slice_index, Some}
use Rattle.netlist.specs.declared.net.Driver.TheVariants.{Wire}
use Rattle.netlist.specs.declared.net.Net.{Net}
use Rattle.netlist.specs.declared.net.Expression.{Expression}
use Rattle.netlist.specs.Meaning.{Words, result_of}

-- Logic in the making: its wires so far, and whether memory lacked for one of them.
pub record Wiring : Type 0 where
  pub wires : List Expression
  pub lacks : Bool

-- No wire lacks, and on each stands what its expression makes of the words on its nets.
pub record IsSettled (logic : Wiring) (ws : Words) : Type 0 where
  pub whole : logic.lacks ≡ false
  pub wires : (k : ℕ) (e : Expression) → slice_get logic.wires k ≡ Some e → slice_index ws.wires k ≡ result_of ws e

-- From one logic came another one, by further wires, and then this fact of words is so: wherever the other is settled, so was the one, and it holds.
pub record Gives (old new : Wiring) (Fact : Words → Type 0) : Type 0 where
  pub settled : (ws : Words) → IsSettled new ws → IsSettled old ws
  pub fact : (ws : Words) → IsSettled new ws → Fact ws

-- The net is a further wire with this expression, unless memory lacks.
pub record Adds (old new : Wiring) (net : Net) (e : Expression) : Type 0 where
  pub driver : net.driver ≡ Wire (length old.wires)
  pub wires : new.lacks ≡ false → new ≡ record old { wires = old.wires ++ e ∷ [] }
