use Rattle.std.proofs.Common.{sym, ap, ◌∙◌}
use Rattle.class_lookup.specs.Numbered.{number_in}
use Rattle.class_lookup.specs.Symbols.{symbol}
use Rattle.class_lookup.proofs.SymbolLemmas.{symbol_is}
use Rattle.class_lookup.proofs.classes.Classes.text.Goals as goal

pub returns-clause-symbol : goal.returns-clause-symbol
returns-clause-symbol c =
    let text = c.text.result.now in
    ap (λ cs. symbol cs text) (sym c.self.view_is)
    ∙ (symbol_is c.self.inside.classes.items text ∙ (ap (λ ts. number_in ts text) (sym c.self.invariant.1.texts) ∙ c.text.ensures.number))
