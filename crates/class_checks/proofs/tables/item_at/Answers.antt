use Rattle.std.proofs.Common.{◌-◌, length, sym, ap, ◌∙◌, Some, arith}
use Rattle.std.proofs.lemmas.Bool.{ltb-true, ltb-false}
use Rattle.std.proofs.lemmas.Option.{slice_get-get_or}
use Rattle.class_checks.proofs.TableLemmas.{item_there, item_past}
use Rattle.class_checks.proofs.tables.item_at.Goals as goal

pub returns-in-Some : goal.returns-in-Some
returns-in-Some c = λ say h e.
    let items = c.args.items.now in
    let x = c.in-Some.item.now in
    let place = c.args.index - 1 in
    let lt = ltb-true place (length items) (sym c.in-Some.ensures.lookup.0) in
    item_there say h items c.args.pool.now place c.args.index x (omega (arith, c.if-index-eq0.false)) e (slice_get-get_or items place x lt ∙ ap Some (sym c.in-Some.ensures.lookup.1))

pub returns-in-None : goal.returns-in-None
returns-in-None c = λ say h e.
    let items = c.args.items.now in
    let place = c.args.index - 1 in
    let past = ltb-false place (length items) (sym c.in-None.ensures.lookup.0) in
    item_past say h items c.args.pool.now place c.args.index (omega (arith, c.if-index-eq0.false)) e past
