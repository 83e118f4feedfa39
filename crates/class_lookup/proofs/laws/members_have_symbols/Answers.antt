use Rattle.class_lookup.proofs.Everywhere.{has_symbol}
use Rattle.class_lookup.proofs.laws.members_have_symbols.Goals as goal

pub returns : goal.returns
returns c = has_symbol
