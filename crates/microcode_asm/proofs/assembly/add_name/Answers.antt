use Rattle.microcode_asm.proofs.NameLemmas.{name_added}
use Rattle.microcode_asm.proofs.assembly.add_name.Goals as goal

pub returns-clause-added : goal.returns-clause-added
returns-clause-added c =
    name_added c.args.label.now c.in_ok-name.name c.args.names.now.keys c.in_ok-added.added c.in_ok-name.ensures.items c.in_ok-added.ensures.added
