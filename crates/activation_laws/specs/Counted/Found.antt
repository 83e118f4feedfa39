-- The loops that are found in a program count in the graphs of its methods.
use Rattle.bytecode_model.specs.Program.{Program}
use Rattle.loop_rules.specs.declared.found.FoundLoop.{FoundLoop}
use Rattle.loop_rules.specs.Tests.{Constants}
use Rattle.loop_rules.specs.Finding.{IsCountedLoop}
use Rattle.activation_laws.specs.Counted.Others.{CountsIn}

-- each counts to its number
abbrev pub FoundLoopsCount : Type 0
FoundLoopsCount = (P : Program) (constants : Constants) (x : FoundLoop) → IsCountedLoop P constants x → CountsIn P constants x.method x.place x.bound
