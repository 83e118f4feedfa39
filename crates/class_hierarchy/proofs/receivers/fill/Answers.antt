use Rattle.std.proofs.Common.{◌<◌, ◌-◌, length, get_or, None, sym, ap, ◌∙◌, arith}
use Rattle.lists.proofs.Tables.{entry_read}
use Rattle.class_hierarchy.specs.Selecting.{selected_at}
use Rattle.class_hierarchy.proofs.Receiving.{known_more, is_known, next_known, first_there, list_below}
use Rattle.class_hierarchy.proofs.receivers.fill.Goals as goal

pub first_settled-i-requires-clause-list : goal.first_settled-i-requires-clause-list
first_settled-i-requires-clause-list c = λ i lt.
    let r = c.args.resolved.now in
    let chains = c.requires.chains in
    let below = c.requires.class in
    let long = chains.long in
    let within : c.args.class < length r.superclasses.now = omega (arith, below, long) in
    let read = c.as_slice-list.ensures ∙ (sym c.index-resolved-class.is ∙ sym (entry_read r.superclasses.now c.args.class c.index-resolved-class.result within c.index-resolved-class.is) ∙ chains.each c.args.class c.requires.class) in
    list_below r.classes.now chains.acyclic c.args.class c.requires.class c.as_slice-list.result.now read i lt

pub selected_for-selected-requires-clause-class : goal.selected_for-selected-requires-clause-class
selected_for-selected-requires-clause-class c =
    let r = c.args.resolved.now in
    let chains = c.requires.chains in
    let below = c.requires.class in
    let long = chains.long in
    let within : c.args.class < length r.superclasses.now = omega (arith, below, long) in
    let read = c.as_slice-list.ensures ∙ (sym c.index-resolved-class.is ∙ sym (entry_read r.superclasses.now c.args.class c.index-resolved-class.result within c.index-resolved-class.is) ∙ chains.each c.args.class c.requires.class) in
    let some = c.loop-i-test.true in
    let le = c.loop-i.invariant.0 in
    list_below r.classes.now chains.acyclic c.args.class c.requires.class c.as_slice-list.result.now read (c.loop-i.i - 1) (omega (arith, some, le))

pub selected_for-selected-requires-clause-known : goal.selected_for-selected-requires-clause-known
selected_for-selected-requires-clause-known c = λ d h.
    let r = c.args.resolved.now in
    let chains = c.requires.chains in
    let below = c.requires.class in
    let long = chains.long in
    let within : c.args.class < length r.superclasses.now = omega (arith, below, long) in
    let read = c.as_slice-list.ensures ∙ (sym c.index-resolved-class.is ∙ sym (entry_read r.superclasses.now c.args.class c.index-resolved-class.result within c.index-resolved-class.is) ∙ chains.each c.args.class c.requires.class) in
    ap (λ t. get_or t d None) c.deref.ensures.value
    ∙ next_known r.classes.now chains.acyclic (selected_at r.classes.now r.of_interface r.method.place) c.args.class c.as_slice-list.result.now read c.loop-i.i d c.loop-i.table.items c.loop-i-test.true
    c.loop-i.invariant.0 c.loop-i.invariant.1 c.loop-i.invariant.2 h

pub index_mut-requires : goal.index_mut-requires
index_mut-requires c =
    let r = c.args.resolved.now in
    let chains = c.requires.chains in
    let below = c.requires.class in
    let long = chains.long in
    let within : c.args.class < length r.superclasses.now = omega (arith, below, long) in
    let read = c.as_slice-list.ensures ∙ (sym c.index-resolved-class.is ∙ sym (entry_read r.superclasses.now c.args.class c.index-resolved-class.result within c.index-resolved-class.is) ∙ chains.each c.args.class c.requires.class) in
    let some = c.loop-i-test.true in
    let le = c.loop-i.invariant.0 in
    let at = list_below r.classes.now chains.acyclic c.args.class c.requires.class c.as_slice-list.result.now read (c.loop-i.i - 1) (omega (arith, some, le)) in
    let many = c.loop-i.invariant.1.long in
    omega (arith, at, many)

pub loop-i-preserved : goal.loop-i-preserved
loop-i-preserved c =
    let r = c.args.resolved.now in
    let chains = c.requires.chains in
    let below = c.requires.class in
    let long = chains.long in
    let within : c.args.class < length r.superclasses.now = omega (arith, below, long) in
    let read = c.as_slice-list.ensures ∙ (sym c.index-resolved-class.is ∙ sym (entry_read r.superclasses.now c.args.class c.index-resolved-class.result within c.index-resolved-class.is) ∙ chains.each c.args.class c.requires.class) in
    let some = c.loop-i-test.true in
    let le = c.loop-i.invariant.0 in
    let n = get_or c.as_slice-list.result.now (c.loop-i.i - 1) 0 in
    let at : n < length r.classes.now = list_below r.classes.now chains.acyclic c.args.class c.requires.class c.as_slice-list.result.now read (c.loop-i.i - 1) (omega (arith, some, le)) in
    let many = c.loop-i.invariant.1.long in (
      omega (arith, le),
      known_more (selected_at r.classes.now r.of_interface r.method.place) (length r.classes.now) n c.loop-i.table.items c.selected_for-selected.result at c.loop-i.invariant.1 c.selected_for-selected.ensures,
      λ lt. is_known c.loop-i.table.items n c.selected_for-selected.result (omega (arith, at, many)),
    )

pub returns-clause-there : goal.returns-clause-there
returns-clause-there c =
    let r = c.args.resolved.now in
    let chains = c.requires.chains in
    let below = c.requires.class in
    let long = chains.long in
    let within : c.args.class < length r.superclasses.now = omega (arith, below, long) in
    let read = c.as_slice-list.ensures ∙ (sym c.index-resolved-class.is ∙ sym (entry_read r.superclasses.now c.args.class c.index-resolved-class.result within c.index-resolved-class.is) ∙ chains.each c.args.class c.requires.class) in
    first_there r.classes.now chains.acyclic c.args.class c.as_slice-list.result.now read c.loop-i.i c.loop-i.table.items c.loop-i-test.false c.loop-i.invariant.2
