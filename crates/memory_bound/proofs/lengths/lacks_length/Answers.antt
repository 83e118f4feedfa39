use Rattle.std.proofs.Common.{Bool, ap, sym, ◌∙◌, subst}
use Rattle.std.specs.Prelude.{is_some}
use Rattle.memory_bound.specs.Setting.{lengths_in}
use Rattle.memory_bound.specs.Lengths.{TellsLength}
use Rattle.memory_bound.proofs.Lacking.{has_length, tells_length}
use Rattle.memory_bound.proofs.lengths.lacks_length.Goals as goal

pub returns-then-lacks_constant : goal.returns-then-lacks_constant
returns-then-lacks_constant c = λ P flow sites on.
    let s = c.args.task.now in
    tells_length P s (lengths_in s) c.args.m c.args.place flow sites c.requires c.made_at.result c.made_at.ensures (sym c.lacks_constant.ensures ∙ c.if-lacks_constant.true) on
    c.is_none.result (ap is_some (sym c.length_at.ensures) ∙ c.is_none.ensures)

pub returns-else-lacks_constant : goal.returns-else-lacks_constant
returns-else-lacks_constant c = λ P flow sites on.
    let s = c.args.task.now in
    subst (λ (b : Bool). TellsLength P (lengths_in s) c.args.m c.args.place b) (sym c.if-lacks_constant.false)
    (has_length P s (lengths_in s) c.args.m c.args.place flow sites c.requires c.made_at.result c.made_at.ensures (sym c.lacks_constant.ensures ∙ c.if-lacks_constant.false))
