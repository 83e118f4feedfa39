use Rattle.call_regions.proofs.Answering.{words_are_of_the_table}
use Rattle.call_regions.proofs.laws.words_are_of_the_table.Goals as goal

pub returns : goal.returns
returns c = words_are_of_the_table
