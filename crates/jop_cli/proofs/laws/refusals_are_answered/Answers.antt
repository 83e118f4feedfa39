use Rattle.jop_cli.proofs.LongFiles as files
use Rattle.jop_cli.proofs.ImagesLaw as images
use Rattle.jop_cli.proofs.MachinesLaw as machines
use Rattle.jop_cli.proofs.BareLaw as codes
use Rattle.jop_cli.proofs.laws.refusals_are_answered.Goals as goal

pub returns-clause-words : goal.returns-clause-words
returns-clause-words c = files.no_command_is_refused

pub returns-clause-files : goal.returns-clause-files
returns-clause-files c = files.long_files_are_refused

pub returns-clause-bad : goal.returns-clause-bad
returns-clause-bad c = images.bad_images_are_refused

pub returns-clause-unlinked : goal.returns-clause-unlinked
returns-clause-unlinked c =
    images.unlinked_images_are_refused c.one_image.ensures c.linked_images_are_read.ensures c.linked_files_are_not_refused.ensures c.refusals_are_one.ensures

pub returns-clause-differs : goal.returns-clause-differs
returns-clause-differs c =
    images.differing_images_are_refused c.one_image.ensures c.linked_images_are_read.ensures c.linked_files_are_not_refused.ensures c.refusals_are_one.ensures c.one_class.ensures

pub returns-clause-methods : goal.returns-clause-methods
returns-clause-methods c =
    machines.long_methods_are_refused c.one_linked.ensures c.linked_images_are_read.ensures c.one_class.ensures c.executives_are_answered.ensures.plans c.executives_are_answered.ensures.cycles

pub returns-clause-bare : goal.returns-clause-bare
returns-clause-bare c = codes.long_bare_codes_are_refused c.one_bare_image.ensures.one

pub returns-clause-memory : goal.returns-clause-memory
returns-clause-memory c = machines.small_memories_are_refused c.one_linked.ensures c.linked_images_are_read.ensures c.one_class.ensures c.executives_are_answered.ensures.cycles
