use Rattle.std.proofs.Common.{ap, ◌∙◌, arith}
use Rattle.class_lookup.specs.Symbols.{symbol}
use Rattle.class_lookup.proofs.SymbolLemmas.{symbol_below}
use Rattle.class_lookup.proofs.classes.Classes.class_of.Goals as goal

pub returns-else-number-len : goal.returns-else-number-len
returns-else-number-len c text h =
    let below = symbol_below c.self.inside.classes.items text c.args.number (ap (λ cs. symbol cs text) c.self.view_is ∙ h) in
    let long = c.self.invariant.2.classes.long in
    let past = c.if-number-len.false in
    absurd (omega (arith, below, long, past))
