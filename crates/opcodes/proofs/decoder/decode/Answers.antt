use Rattle.std.proofs.Common.{sym, ◌∙◌}
use Rattle.opcodes.proofs.FaultLemmas.{IsNoOpcodeAt-decoded, decoded-IsNoOpcodeAt, PassesEnd-decoded, decoded-PassesEnd}
use Rattle.opcodes.proofs.ReadLemmas.{no_further}
use Rattle.opcodes.proofs.WithinLemmas.{within_if_ok}
use Rattle.opcodes.proofs.decoder.decode.Goals as goal

pub returns-clause-no_opcode : goal.returns-clause-no_opcode
returns-clause-no_opcode c = λ byte. (
  λ e. IsNoOpcodeAt-decoded c.args.code.now c.args.pc byte (λ k. (c.type_inv.code k).fits) (sym c.instruction_at.ensures ∙ e),
  λ w. c.instruction_at.ensures ∙ decoded-IsNoOpcodeAt c.args.code.now c.args.pc byte (λ k. (c.type_inv.code k).fits) w,
)

pub returns-clause-short : goal.returns-clause-short
returns-clause-short c = (
  λ e. PassesEnd-decoded c.args.code.now c.args.pc c.requires.inside (sym c.instruction_at.ensures ∙ e),
  λ w. c.instruction_at.ensures ∙ decoded-PassesEnd c.args.code.now c.args.pc c.requires.inside (λ k. (c.type_inv.code k).fits) w,
)

pub returns-clause-no_further : goal.returns-clause-no_further
returns-clause-no_further c = λ more. no_further c.args.code.now more c.args.pc c.requires.inside c.instruction_at.result c.instruction_at.ensures

pub returns-clause-within : goal.returns-clause-within
returns-clause-within c = within_if_ok c.args.code.now c.args.pc c.instruction_at.result c.instruction_at.ensures
