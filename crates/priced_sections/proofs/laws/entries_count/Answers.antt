use Rattle.priced_sections.proofs.Counting.{entries_count}
use Rattle.priced_sections.proofs.laws.entries_count.Goals as goal

pub returns : goal.returns
returns c = entries_count
