use Rattle.std.proofs.Common.{◌≡◌, Some, sym, ◌∙◌, subst}
use Rattle.opcodes.specs.declared.instruction.Instr.{Instr}
use Rattle.bytecode_model.specs.Program.{Operand}
use Rattle.bytecode_model.specs.Table.{row_of}
use Rattle.program_tables.specs.Meanings.{operand_seen}
use Rattle.program_tables.specs.Resolved.{resolved}
use Rattle.lists.proofs.Lemmas.{some_same}
use Rattle.program_sites.proofs.MadeLemmas.Words.{read_in}
use Rattle.program_sites.proofs.made.making.made_at.Goals as goal

pub returns : goal.returns
returns c = λ next r line.
    let P = resolved c.args.program.now in
    let h = read_in c.lines_are_read.ensures P c.args.m c.args.place next r line in
    let i = c.in_ok-instruction.instruction in
    let same : h.instr ≡ i.instr = some_same h.instr i.instr (sym h.is ∙ sym c.in_ok-instruction.ensures.instr) in
    let row = subst (λ (o : Operand). row_of h.code h.instr o ≡ Some r) (sym c.in_ok-instruction.ensures.operand) h.row in
    c.words_by.ensures h.code r (subst (λ (j : Instr). row_of h.code j (operand_seen i.operand) ≡ Some r) same row)
