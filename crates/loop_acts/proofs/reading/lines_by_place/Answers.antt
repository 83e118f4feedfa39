-- Line by line.
use Rattle.std.proofs.Common.{ℕ, List, length, get_or, set, replicate, Contains, Option, None, Some, refl, ap, ◌∙◌, subst, arith, rules}
use Rattle.opcodes.specs.Start.{starts_of}
use Rattle.lists.specs.Members.{contains_at}
use Rattle.code_scan.specs.declared.lines.IntLine.{IntLine}
use Rattle.loop_acts.proofs.Filling.{none_filled, one_filled, all_filled}
use Rattle.loop_acts.proofs.reading.lines_by_place.Goals as goal

pub loop-place-init : goal.loop-place-init
loop-place-init c =
    let count : ℕ → List (Option IntLine) = λ n. replicate n None in
    none_filled c.args.method.now c.deref-place-items.result.now c.in_ok-lines.lines.items
    (c.in_ok-lines.ensures.items_if_clones_equal (λ y h. search rules) ∙ ap count (ap length c.code-code.ensures.code))

pub int_line-requires : goal.int_line-requires
int_line-requires c =
    let xs = c.deref-place-items.result.now in
    let i = c.loop-place.place-index in
    let are = c.deref-place-items.ensures.value ∙ (c.in_ok-starts.ensures ∙ ap starts_of c.code-code.ensures.code) in
    subst (λ (ys : List ℕ). Contains ys (get_or xs i 0)) are (contains_at xs i (get_or xs i 0) c.loop-place-test.true refl)

pub index_mut-requires : goal.index_mut-requires
index_mut-requires c =
    let xs = c.deref-place-items.result.now in
    let i = c.loop-place.place-index in
    let are = c.deref-place-items.ensures.value ∙ (c.in_ok-starts.ensures ∙ ap starts_of c.code-code.ensures.code) in
    let start = subst (λ (ys : List ℕ). Contains ys (get_or xs i 0)) are (contains_at xs i (get_or xs i 0) c.loop-place-test.true refl) in
    let inside = (c.starts_follow_one_another.ensures c.args.method.now.code).within_code (get_or xs i 0) start in
    let long = c.loop-place.invariant.long in
    omega arith

pub loop-place-preserved : goal.loop-place-preserved
loop-place-preserved c =
    let k = c.args.method.now in
    let xs = c.deref-place-items.result.now in
    let i = c.loop-place.place-index in
    let place = get_or xs i 0 in
    let lines = c.loop-place.lines.items in
    let are = c.deref-place-items.ensures.value ∙ (c.in_ok-starts.ensures ∙ ap starts_of c.code-code.ensures.code) in
    let start = subst (λ (ys : List ℕ). Contains ys place) are (contains_at xs i place c.loop-place-test.true refl) in
    let inside = (c.starts_follow_one_another.ensures k.code).within_code place start in
    let line = c.int_line.result in
    one_filled k xs i lines (set lines place (Some line)) line c.loop-place.invariant (c.int_line.ensures.place, c.int_line.ensures.line) inside refl

pub returns : goal.returns
returns c =
    let k = c.args.method.now in
    let xs = c.deref-place-items.result.now in
    let are = c.deref-place-items.ensures.value ∙ (c.in_ok-starts.ensures ∙ ap starts_of c.code-code.ensures.code) in
    all_filled c.lines_are_read.ensures k xs c.loop-place.place-index c.loop-place.lines.items are c.loop-place-test.false c.loop-place.invariant
