use Rattle.std.proofs.Common.{ℕ, List, get_or, Contains, refl, subst, ◌∙◌}
use Rattle.lists.specs.Members.{contains_at}
use Rattle.code_scan.proofs.Marking.{NamesAt, marks_start, marks_more, all_lines}
use Rattle.code_scan.proofs.naming.mark_code.Goals as goal

pub loop-place-init : goal.loop-place-init
loop-place-init c = marks_start c.args.marks.now.items (NamesAt c.args.code.now c.args.starts.now)

pub mark_line-requires-clause-start : goal.mark_line-requires-clause-start
mark_line-requires-clause-start c =
    let xs = c.args.starts.now in
    let i = c.loop-place.place-index in
    subst (λ (ys : List ℕ). Contains ys (get_or xs i 0)) c.requires.starts (contains_at xs i (get_or xs i 0) c.loop-place-test.true refl)

pub mark_line-requires-clause-stays : goal.mark_line-requires-clause-stays
mark_line-requires-clause-stays c =
    let xs = c.args.starts.now in
    let i = c.loop-place.place-index in
    c.requires.stays (get_or xs i 0) (subst (λ (ys : List ℕ). Contains ys (get_or xs i 0)) c.requires.starts (contains_at xs i (get_or xs i 0) c.loop-place-test.true refl))

pub mark_line-requires-clause-long : goal.mark_line-requires-clause-long
mark_line-requires-clause-long c = c.loop-place.invariant.long ∙ c.requires.long

pub loop-place-preserved : goal.loop-place-preserved
loop-place-preserved c = marks_more c.args.marks.now.items c.loop-place.marks.items c.mark_line.new.marks.items (NamesAt c.args.code.now c.args.starts.now) c.loop-place.place-index c.loop-place.invariant c.mark_line.ensures

pub returns : goal.returns
returns c = all_lines c.args.marks.now.items c.loop-place.marks.items c.args.code.now c.args.starts.now c.loop-place.place-index c.requires.starts c.loop-place-test.false c.loop-place.invariant
