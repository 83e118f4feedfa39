use Rattle.loop_finder.proofs.counting.look.Goals as goal

pub returns-then-not-may_count : goal.returns-then-not-may_count
returns-then-not-may_count c marks = record { rest = λ rest. rest; least = λ rest. c.may_count.ensures c.if-not-may_count.true c.args.routes.now c.args.marks.now.header rest }
