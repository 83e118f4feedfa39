use Rattle.std.proofs.Common.{◌<◌, length, get_or, None, false, sym, ap, ◌∙◌, arith}
use Rattle.std.specs.Prelude.{is_some}
use Rattle.std.specs.Option.{option_map_or}
use Rattle.std.proofs.lemmas.List.{get_or_default}
use Rattle.class_hierarchy.proofs.Filled.{superclass_below}
use Rattle.class_hierarchy.proofs.receivers.is_above_known.Goals as goal

pub bounds-table-upper : goal.bounds-table-upper
bounds-table-upper c =
    let below = superclass_below c.args.resolved.now.classes.now c.args.class c.in-Some.upper c.in-Some.ensures in
    let long = c.requires.table in
    omega (arith, below, long)

pub returns-in-Some : goal.returns-in-Some
returns-in-Some c =
    let table = c.args.table.now in
    let upper = c.in-Some.upper in
    let below = superclass_below c.args.resolved.now.classes.now c.args.class upper c.in-Some.ensures in
    let long = c.requires.table in
    let within : upper < length table = omega (arith, below, long) in
    c.is_some.ensures
    ∙ (ap is_some (c.index-table-upper.is ∙ sym (get_or_default table upper None c.index-table-upper.result within))
    ∙ ap (λ o. option_map_or (λ u. is_some (get_or table u None)) o false) c.in-Some.ensures)
