use Rattle.std.proofs.Common.{ℕ, ◌+◌, ◌*◌, ◌++◌, ◌∷◌, [], Some, None, length-set, get_or, refl, ◌∙◌, arith}
use Rattle.source_places.specs.declared.tables.starts.LineStart.{LineStart}
use Rattle.source_places.proofs.TablesLemmas.NearLemmas.{first_start, more_done}
use Rattle.source_places.proofs.TablesLemmas.PlaceLemmas.{elsewhere, written}
use Rattle.source_places.proofs.tables.table.put_table.Goals as goal

pub loop-left-preserved-then-start-lines : goal.loop-left-preserved-then-start-lines
loop-left-preserved-then-start-lines c =
    let so_far = c.loop-left.invariant in
    let left = c.loop-left.left.now in
    let line = c.number-then-start-lines.result in
    let next : LineStart = record { start = c.from-start.result; line = line } in
    let first = first_start left c.from-start.result line c.in-len4-up.len_at_least (c.from-start.ensures ∙ c.number.ensures) c.number-then-start-lines.ensures in (
      so_far.0 ++ next ∷ [],
      more_done c.args.entries.now left so_far.0 next _ so_far.1 first,
      λ p lt. written c.loop-left.lines so_far.0 next p (get_or c.args.lines.now p None) (so_far.2 p (omega (arith, lt, length-set c.loop-left.lines c.from-start.result (Some line)))) c.if-start-lines.true,
    )

pub loop-left-preserved : goal.loop-left-preserved
loop-left-preserved c =
    let so_far = c.loop-left.invariant in
    let left = c.loop-left.left.now in
    let line : ℕ = 256 * get_or left 2 0 + get_or left 3 0 in
    let next : LineStart = record { start = c.from-start.result; line = line } in
    let first = first_start left c.from-start.result line c.in-len4-up.len_at_least (c.from-start.ensures ∙ c.number.ensures) refl in (
      so_far.0 ++ next ∷ [],
      more_done c.args.entries.now left so_far.0 next _ so_far.1 first,
      λ p lt. elsewhere c.loop-left.lines so_far.0 next p (get_or c.args.lines.now p None) (so_far.2 p lt) (λ same. omega (arith, c.if-start-lines.false, lt, same)),
    )
