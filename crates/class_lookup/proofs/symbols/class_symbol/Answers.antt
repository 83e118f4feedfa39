use Rattle.std.proofs.Common.{sym, ◌∙◌}
use Rattle.class_lookup.proofs.SymbolLemmas.{no_class_text}
use Rattle.class_lookup.proofs.symbols.class_symbol.Goals as goal

pub returns-in-None : goal.returns-in-None
returns-in-None c k at = no_class_text c.args.classes.now c.args.class k c.index-classes-class.result c.args.index at (sym c.class_name.ensures ∙ c.in-None.is)
