use Rattle.std.proofs.Common.{◌↔◌, ℕ, ◌*◌, Bool, true, List, Contains, sym, subst}
use Rattle.std.specs.Prelude.{IsTrue}
use Rattle.memory_rules.specs.Heap.{PlaceMakesObjects}
use Rattle.memory_bound.specs.Setting.{bounds_in, lengths_in}
use Rattle.memory_bound.specs.Found.{BeginInstructions}
use Rattle.memory_bound.specs.Lengths.{AreOn, IsFirstAmong}
use Rattle.memory_bound.specs.Loops.{AreLoopsFound, AreBoundsOf}
use Rattle.memory_bound.proofs.Findings.{are_on}
use Rattle.memory_bound.proofs.Heaping.{shape_starts}
use Rattle.memory_bound.proofs.Examined.{know_making, found_by_shape}
use Rattle.memory_bound.proofs.examining.examine_shape.Goals as goal

pub returns : goal.returns
returns c = λ P flow sites of found.
    let laws = c.heap_laws.ensures in
    let b = bounds_in c.args.task.now in
    let l = lengths_in c.args.task.now in
    let m = c.args.m in
    let s = c.args.s.now in
    let ns = c.as_slice-nodes.result.now in
    let starts = shape_starts P m s (c.starts_are_reached.ensures P flow sites) of in
    let know = know_making P b l c.args.table.now m found in
    let making = c.in_ok-making.making.items in
    let are = c.in_ok-making.ensures.making P flow sites of starts know in
    let loops = subst (λ (bs : List Bool). AreLoopsFound b m bs s c.in_ok-loops.loops) c.deref.ensures.value c.in_ok-loops.ensures in
    let makes = subst (λ (us : List ℕ). IsTrue c.some_node_makes.result ↔ ((p : ℕ) × Contains us (2 * p) × PlaceMakesObjects P m p)) c.as_slice-nodes.ensures
    (c.some_node_makes.ensures P flow sites (subst (λ (us : List ℕ). BeginInstructions P m us) (sym c.as_slice-nodes.ensures) starts) know) in
    let among = subst (λ (us : List ℕ). IsFirstAmong P l m us c.first_unlimited.result) c.as_slice-nodes.ensures
    (c.first_unlimited.ensures P flow sites (subst (λ (us : List ℕ). AreOn P m us) (sym c.as_slice-nodes.ensures) (are_on laws.one P m s of))) in
    found_by_shape laws P m s of b l
    (record { reducible = true; makes = c.some_node_makes.result; unbounded = c.in_ok-loops.loops.unbounded; unlimited = c.first_unlimited.result; heap = c.in_ok-heap.heap })
    makes making are loops.unbounded among
    (λ have. c.in_ok-heap.ensures P flow sites of found have
    (subst (λ (bs : List ℕ). AreBoundsOf P b m s bs) (sym c.deref-2.ensures.value) (record { making = making; long = c.in_ok-making.ensures.long; loops = are; are = loops.bounds_are })))
