use Rattle.std.proofs.Common.{◌++◌}
use Rattle.core_classes.specs.Core.{core}
use Rattle.program_resolution.specs.Linked.{calls_of, main_name, linked_classes}
use Rattle.boundary.proofs.Boot.{boot_words, linked_last}
use Rattle.boundary.proofs.start.boot_takes_six_words.Goals as goal

pub returns : goal.returns
returns c = λ files main. boot_words (core ++ files) (calls_of files) (main_name files main) (linked_classes files main) (linked_last files main)
