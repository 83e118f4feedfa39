use Rattle.std.proofs.Common.{◌≡◌, drop}
use Rattle.opcodes.specs.Target.{cases_of}
use Rattle.bytecode_typing.specs.Walk.{keys_rise}
use Rattle.bytecode_verifier.proofs.switches.keys_rise.Given as goal

abbrev pub invariant-loop-index : goal.invariant-loop-index
invariant-loop-index l = keys_rise (drop l.index (cases_of l.code l.instr)) ≡ keys_rise (cases_of l.code l.instr)
