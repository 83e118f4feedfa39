use Rattle.std.proofs.Common.{sym, ◌∙◌, inl}
use Rattle.memory_bound.proofs.Sited.{makes_at, makes_none, called_make}
use Rattle.memory_bound.proofs.making.place_makes.Goals as goal

pub returns-then-is_some : goal.returns-then-is_some
returns-then-is_some c = λ P flow sites start known.
    (λ _. inl (makes_at P c.args.task.now c.args.m c.args.place flow sites c.requires.method c.made_at.result c.made_at.ensures (sym c.is_some.ensures ∙ c.if-is_some.true)), λ _. c.if-is_some.true)

pub returns-else-is_some : goal.returns-else-is_some
returns-else-is_some c = λ P flow sites start known.
    called_make P c.args.m c.args.place start c.args.table.now known c.targets_at.result.now (c.targets_at.ensures.targets P flow sites start)
    (makes_none P c.args.task.now c.args.m c.args.place flow sites c.requires.method c.made_at.result c.made_at.ensures (sym c.is_some.ensures ∙ c.if-is_some.false)) c.some_makes.result c.some_makes.ensures
