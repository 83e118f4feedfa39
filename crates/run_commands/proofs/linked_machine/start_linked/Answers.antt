use Rattle.std.proofs.Common.{arith, subst}
use Rattle.program_tables.specs.Resolving.{IsResolved}
use Rattle.run_commands.proofs.Starting.{linked, start_case}
use Rattle.run_commands.proofs.linked_machine.start_linked.Goals as goal

pub start-requires : goal.start-requires
start-requires g c = (
  omega arith,
  linked c.verified_programs_are_told.ensures c.boot_takes_six_words.ensures c.args.program.now (subst IsResolved c.program.ensures.program c.is_resolved.ensures) c.program.ensures.verified c.args.layout.now c.args.config g.row.N c.requires.size
      c.requires.held c.words.result.now c.args.methods.now c.words.ensures c.requires.methods,
)

pub returns-clause-started : goal.returns-clause-started
returns-clause-started g c =
    start_case c.verified_programs_are_told.ensures c.boot_takes_six_words.ensures c.args.program.now (subst IsResolved c.program.ensures.program c.is_resolved.ensures) c.program.ensures.verified c.args.layout.now c.args.config g.row.N c.requires.size
    c.requires.held c.start.result c.words.result.now c.args.methods.now c.words.ensures c.requires.methods c.start.ensures.starts c.start.ensures.begins
