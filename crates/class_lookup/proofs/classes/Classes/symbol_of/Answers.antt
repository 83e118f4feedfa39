use Rattle.std.proofs.Common.{sym, ap, ◌∙◌}
use Rattle.class_lookup.specs.Numbered.{number_in}
use Rattle.class_lookup.specs.Symbols.{symbol}
use Rattle.class_lookup.proofs.SymbolLemmas.{symbol_is}
use Rattle.class_lookup.proofs.classes.Classes.symbol_of.Goals as goal

pub returns : goal.returns
returns c =
    let text = c.args.text.now in
    c.number.ensures
    ∙ (ap (λ ts. number_in ts text) c.self.invariant.1.texts
    ∙ (sym (symbol_is c.self.inside.classes.items text) ∙ ap (λ cs. symbol cs text) c.self.view_is))
