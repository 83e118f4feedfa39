-- What holds of each well-formed netlist.
use Rattle.std.specs.Prelude.{ℕ, List, map}
use Rattle.netlist.specs.declared.parts.Netlist.{Netlist}
use Rattle.netlist.specs.Meaning.{AClock, Circuit, clocked, put_out, started, run}
use Rattle.netlist.specs.WellFormed.{IsNetlist, Fit, IsStateOf, IsClockOf}
use Rattle.std.specs.List.{All}

-- Each word that a circuit has or puts out is within its width, whatever a block RAM gives where its place doesn't tell.
pub record WordsFit (n : Netlist) : Type 0 where
  pub start : (unknown : List ℕ) → Fit (map (λ m. m.write.word.width) n.memories) unknown → IsStateOf n (started n unknown)
  pub clock : (clock : AClock) (c : Circuit) → IsClockOf n clock → IsStateOf n c → IsStateOf n (clocked n clock c)
  pub out : (clock : AClock) (c : Circuit) → IsClockOf n clock → IsStateOf n c
      → Fit (map (λ port. port.net.width) n.outputs) (put_out n clock.inputs c)
  pub clocks : (clocks : List AClock) (c : Circuit) → All (IsClockOf n) clocks → IsStateOf n c → IsStateOf n (run n clocks c)

abbrev pub WordsStayInRange : Type 0
WordsStayInRange = (n : Netlist) → IsNetlist n → WordsFit n
