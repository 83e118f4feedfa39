use Rattle.std.proofs.Common.{◌+◌, ◌<◌, Bool, false, List, get_or, sym, subst, arith}
use Rattle.std.proofs.lemmas.List.Elements.{All-get_or}
use Rattle.std.proofs.lemmas.Option.{slice_get-get_or}
use Rattle.method_flow.specs.declared.flow.Call.{Call}
use Rattle.flow_graph.proofs.Noting.{AreNoted, noted_none, noted_more, all_noted}
use Rattle.flow_graph.proofs.edges.going_on.Goals as goal

pub loop-i-init : goal.loop-i-init
loop-i-init c = noted_none c.args.calls.now c.args.goes.now c.args.size c.in_ok-flags.flags.items (c.in_ok-flags.ensures.items_if_clones_equal (λ y h. h))

pub loop-i-preserved : goal.loop-i-preserved
loop-i-preserved c =
    let calls = c.args.calls.now in
    let goes = c.args.goes.now in
    let i = c.loop-i.i in
    let flags = c.loop-i.flags.items in
    let lt = c.loop-i-test.true in
    let same = c.requires.flags in
    let none : Call = record { place = 0; targets = 0 } in
    let call = get_or calls i none in
    let inside : call.place < c.args.size = All-get_or (λ (x : Call). x.place < c.args.size) calls i none lt c.requires.within in
    let P : List Bool → Type 0 = λ fs. AreNoted calls goes c.args.size (i + 1) fs in
    subst P (sym c.note.ensures) (noted_more calls goes c.args.size i flags c.loop-i.invariant call (slice_get-get_or calls i none lt) inside (get_or goes i false) (slice_get-get_or goes i false (omega arith)))

pub returns : goal.returns
returns c = all_noted c.args.calls.now c.args.goes.now c.args.size c.loop-i.i c.loop-i.flags.items c.loop-i-test.false c.loop-i.invariant
