use Rattle.std.proofs.Common.{ℕ, ◌+◌, List, get_or, Contains, refl, sym, ap, ◌∙◌, subst}
use Rattle.opcodes.specs.Start.{starts_of}
use Rattle.lists.specs.Members.{contains_at}
use Rattle.code_scan.proofs.Listing.{AreFirst, no_lines, first_more, all_lines}
use Rattle.code_scan.proofs.lines.int_lines.Goals as goal

pub loop-place-init : goal.loop-place-init
loop-place-init c = no_lines c.args.method.now c.deref-place-items.result.now c.in_ok-lines.lines.items c.in_ok-lines.ensures.items

pub int_line-requires : goal.int_line-requires
int_line-requires c =
    let xs = c.deref-place-items.result.now in
    let i = c.loop-place.place-index in
    let are = c.deref-place-items.ensures.value ∙ (c.in_ok-starts.ensures ∙ ap starts_of c.code.ensures.code) in
    subst (λ (ys : List ℕ). Contains ys (get_or xs i 0)) are (contains_at xs i (get_or xs i 0) c.loop-place-test.true refl)

pub loop-place-preserved : goal.loop-place-preserved
loop-place-preserved c =
    let k = c.args.method.now in
    let xs = c.deref-place-items.result.now in
    let i = c.loop-place.place-index in
    let more = first_more k xs i c.loop-place.lines.items c.int_line.result c.loop-place-test.true c.loop-place.invariant c.int_line.ensures.place c.int_line.ensures.line in
    subst (AreFirst k xs (i + 1)) (sym c.in_ok-push.ensures.items) more

pub returns : goal.returns
returns c =
    let k = c.args.method.now in
    let xs = c.deref-place-items.result.now in
    let are = c.deref-place-items.ensures.value ∙ (c.in_ok-starts.ensures ∙ ap starts_of c.code.ensures.code) in
    all_lines c.lines_are_read.ensures c.lines_follow_one_another.ensures.one k xs c.loop-place.place-index c.loop-place.lines.items are (c.starts_follow_one_another.ensures k.code).rising c.loop-place-test.false c.loop-place.invariant
