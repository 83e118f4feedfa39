use Rattle.std.proofs.Common.{◌≡◌, ◌↔◌, ◌<◌, ℕ, ◌+◌, ◌*◌, Bool, false, List, All, Contains, length, get_or, Some, refl, ap, sym, ◌∙◌, subst}
use Rattle.std.specs.Prelude.{IsTrue, slice_get, slice_index_or}
use Rattle.std.proofs.lemmas.List.{length_push}
use Rattle.std.proofs.lemmas.Option.{slice_get_read}
use Rattle.loop_nest.specs.Nest.{NaturalLoop}
use Rattle.memory_rules.specs.Heap.{PlaceMakesObjects}
use Rattle.memory_bound.specs.Shapes.{members_in}
use Rattle.memory_bound.specs.Found.{BeginInstructions}
use Rattle.memory_bound.proofs.Looping.{members_below, one_more_loop, making_items_are}
use Rattle.memory_bound.proofs.making.making_loops.Goals as goal

pub loop_makes-requires-clause-within : goal.loop_makes-requires-clause-within
loop_makes-requires-clause-within c =
    let s = c.args.s.now in
    let i = c.loop-l.l-index in
    let item = c.l-item.result in
    subst (λ (ns : List ℕ). All (λ u. u < length ns) item.members) (sym c.as_slice-nodes.ensures)
    (members_below c.requires.shape.0 s c.requires.shape.1 i item (subst (λ (ls : List NaturalLoop). i < length ls) c.loops-l-items.ensures c.loop-l-test.true)
    (subst (λ (ls : List NaturalLoop). item ≡ get_or ls i item) c.loops-l-items.ensures c.l-item.is))

pub loop-l-preserved : goal.loop-l-preserved
loop-l-preserved c =
    let m = c.args.m in
    let ns = c.as_slice-nodes.result.now in
    let ls = c.loops-l-items.result.now in
    let i = c.loop-l.l-index in
    let item = c.l-item.result in
    let made = c.loop-l.making.items in
    let b = c.in_ok-loop_makes.field-0 in
    let items = c.in_ok-push.ensures.items in (
      ap length items ∙ length_push made b ∙ ap (λ (n : ℕ). n + 1) c.loop-l.invariant.0,
      λ P flow sites known.
          subst (λ (bs : List Bool). (k : ℕ) (x : NaturalLoop) → k < i + 1 → slice_get ls k ≡ Some x → BeginInstructions P m (members_in ns x)
          → IsTrue (slice_index_or bs k false) ↔ ((p : ℕ) × Contains (members_in ns x) (2 * p) × PlaceMakesObjects P m p)) (sym items)
          (one_more_loop ls made i item b (λ x v. BeginInstructions P m (members_in ns x) → IsTrue v ↔ ((p : ℕ) × Contains (members_in ns x) (2 * p) × PlaceMakesObjects P m p)) c.loop-l.invariant.0
          (slice_get_read ls (length ls) i item refl c.loop-l-test.true c.l-item.is) (λ starts. c.in_ok-loop_makes.ensures P flow sites starts known) (c.loop-l.invariant.1 P flow sites known)),
    )

pub returns-clause-making : goal.returns-clause-making
returns-clause-making c = λ P flow sites of starts known.
    making_items_are c.heap_laws.ensures P c.args.m c.args.s.now of starts c.loop-l.making.items c.as_slice-nodes.result.now c.loops-l-items.result.now c.loop-l.l-index c.as_slice-nodes.ensures c.loops-l-items.ensures
    c.loop-l-test.false (c.loop-l.invariant.1 P flow sites known)
