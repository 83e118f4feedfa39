use Rattle.std.proofs.Common.{arith}
use Rattle.class_lookup.proofs.NamedLemmas.{below_at}
use Rattle.class_lookup.proofs.names.class_named.Goals as goal

pub bounds-named-class_symbol : goal.bounds-named-class_symbol
bounds-named-class_symbol c =
    let below = below_at c.args.classes.now c.args.class c.args.index c.class_symbol.result c.requires.class c.class_symbol.ensures in
    let long = c.requires.named.long in
    omega (arith, below, long)
