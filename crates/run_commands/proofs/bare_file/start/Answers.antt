use Rattle.std.proofs.Common.{arith}
use Rattle.run_commands.proofs.Reset.{started}
use Rattle.run_commands.proofs.bare_file.start.Goals as goal

pub start_bare-requires : goal.start_bare-requires
start_bare-requires g c = (omega arith, (c.requires.size, c.requires.room))

pub returns-clause-started : goal.returns-clause-started
returns-clause-started g c =
    started c.bare_images_are_programs.ensures c.args.bare.now c.requires.grammar g.row.N c.args.config c.start_bare.result c.start_bare.ensures.machine c.start_bare.ensures.mode c.start_bare.ensures.methods c.start_bare.ensures.begins
