use Rattle.frame_types.proofs.TableSpelling.{tables_spelled}
use Rattle.frame_types.proofs.laws.tables_are_spelled.Goals as goal

pub returns : goal.returns
returns c = tables_spelled
