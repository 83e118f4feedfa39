use Rattle.std.proofs.Common.{◌∙◌}
use Rattle.image_words.proofs.BaseLemmas.{table_default}
use Rattle.image_words.proofs.types.method_table.Goals as goal
use Rattle.image_words.proofs.types.method_table.Goals.{in_default-via-in-Class+else-kind-eq0, in_default-via-in_default}

pub returns-in_default : goal.returns-in_default
returns-in_default c =
    let k = c.args.kind in
    c.table_place-in_default.ensures c.args.classes.now c.requires
    ∙ table_default c.args.classes.now k.dimensions k.base
    (elim c.in_default.branch [
      | in_default-via-in-Class+else-kind-eq0 w ↦ λ class is none. w.if-kind-eq0.false none
      | in_default-via-in_default w ↦ λ class is none. w.in_default.not-Class class is
    ])
