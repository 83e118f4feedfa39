use Rattle.std.proofs.Common.{take, arith, ap, ◌∙◌}
use Rattle.std.specs.Prelude.{slice_index}
use Rattle.std.proofs.lemmas.Bool.{eq-eqb, ne_eqb}
use Rattle.source_places.proofs.TablesLemmas.FolderLemmas.{slash_next, other_next}
use Rattle.source_places.proofs.tables.source.folder_in.Goals as goal
use Rattle.source_places.proofs.tables.source.folder_in.Goals.{then-unit-eq47, else-unit-eq47}

pub loop-i-preserved : goal.loop-i-preserved
loop-i-preserved c =
    let name = c.args.name.now in
    let i = c.loop-i.i in
    elim c.if-unit-eq47.branch [
      | then-unit-eq47 w ↦
          (omega (arith, w.length-is), ap (λ n. take n name) w.length-is ∙ slash_next name i c.loop-i-test.true (eq-eqb (slice_index name i) 47 w.if-unit-eq47.true))
      | else-unit-eq47 w ↦ (
        omega (arith, w.length-is, c.loop-i.invariant.0),
        ap (λ n. take n name) w.length-is ∙ other_next name i c.loop-i.length c.loop-i-test.true (ne_eqb (slice_index name i) 47 w.if-unit-eq47.false) c.loop-i.invariant.1,
      )
    ]
