-- Instruction by instruction.
use Rattle.std.proofs.Common.{ℕ, List, length, get_or, set, replicate, Contains, refl, ap, ◌∙◌, subst, arith, rules}
use Rattle.opcodes.specs.Start.{starts_of}
use Rattle.lists.specs.Members.{contains_at}
use Rattle.known_ints.specs.declared.parts.Part.{Part}
use Rattle.known_ints.specs.declared.parts.Part.TheVariants.{Other}
use Rattle.known_ints.proofs.Filling.{none_filled, one_filled, all_filled}
use Rattle.known_ints.proofs.parts.parts.Goals as goal

pub loop-place-init : goal.loop-place-init
loop-place-init c =
    let count : ℕ → List Part = λ n. replicate n Other in
    none_filled c.args.method.now c.args.sites.now c.args.arrays.now c.deref-place-items.result.now c.in_ok-parts.parts.items
    (c.in_ok-parts.ensures.items_if_clones_equal (λ y h. search rules) ∙ ap count (ap length c.code-code.ensures.code))

pub part_of-requires : goal.part_of-requires
part_of-requires c =
    let xs = c.deref-place-items.result.now in
    let i = c.loop-place.place-index in
    let are = c.deref-place-items.ensures.value ∙ (c.in_ok-starts.ensures ∙ ap starts_of c.code-code.ensures.code) in
    subst (λ (ys : List ℕ). Contains ys (get_or xs i 0)) are (contains_at xs i (get_or xs i 0) c.loop-place-test.true refl)

pub index_mut-requires : goal.index_mut-requires
index_mut-requires c =
    let xs = c.deref-place-items.result.now in
    let i = c.loop-place.place-index in
    let are = c.deref-place-items.ensures.value ∙ (c.in_ok-starts.ensures ∙ ap starts_of c.code-code.ensures.code) in
    let start = subst (λ (ys : List ℕ). Contains ys (get_or xs i 0)) are (contains_at xs i (get_or xs i 0) c.loop-place-test.true refl) in
    let inside = (c.starts_follow_one_another.ensures c.args.method.now.code).within_code (get_or xs i 0) start in
    let long = c.loop-place.invariant.long in
    omega arith

pub loop-place-preserved : goal.loop-place-preserved
loop-place-preserved c =
    let k = c.args.method.now in
    let xs = c.deref-place-items.result.now in
    let i = c.loop-place.place-index in
    let place = get_or xs i 0 in
    let parts = c.loop-place.parts.items in
    let are = c.deref-place-items.ensures.value ∙ (c.in_ok-starts.ensures ∙ ap starts_of c.code-code.ensures.code) in
    let start = subst (λ (ys : List ℕ). Contains ys place) are (contains_at xs i place c.loop-place-test.true refl) in
    let inside = (c.starts_follow_one_another.ensures k.code).within_code place start in
    let part = c.part_of.result in
    one_filled k c.args.sites.now c.args.arrays.now xs i parts (set parts place part) part c.loop-place.invariant c.part_of.ensures c.loop-place-test.true inside refl

pub returns-clause-parts : goal.returns-clause-parts
returns-clause-parts c =
    let k = c.args.method.now in
    let xs = c.deref-place-items.result.now in
    let are = c.deref-place-items.ensures.value ∙ (c.in_ok-starts.ensures ∙ ap starts_of c.code-code.ensures.code) in
    all_filled c.lines_are_read.ensures k c.args.sites.now c.args.arrays.now xs c.loop-place.place-index c.loop-place.parts.items are (omega (arith, c.loop-place-test.false)) c.loop-place.invariant

pub returns-clause-long : goal.returns-clause-long
returns-clause-long c = c.loop-place.invariant.long
