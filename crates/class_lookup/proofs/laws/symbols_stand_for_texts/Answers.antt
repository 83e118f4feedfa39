use Rattle.class_lookup.proofs.SymbolLemmas.{one_symbol}
use Rattle.class_lookup.proofs.laws.symbols_stand_for_texts.Goals as goal

pub returns : goal.returns
returns c = one_symbol
