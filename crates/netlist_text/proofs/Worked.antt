-- The worked text, by computing.
use Rattle.std.proofs.Common.{refl}
use Rattle.std.specs.Fmt.{digits}
use Rattle.netlist_text.specs.Examples.{CounterText}

pub counter_text : CounterText
unfolding digits
counter_text = refl
