use Rattle.std.proofs.Common.{below_more, arith}
use Rattle.program_tables.specs.Resolved.{resolved}
use Rattle.verifier_types.specs.Locals.{lists_seen, locals_seen}
use Rattle.verifier_types.proofs.ComparedLemmas.{not_all, stand_below}
use Rattle.verifier_types.proofs.compared.stand_in_turn.Goals as goal

pub returns-then-not-stands_at : goal.returns-then-not-stands_at
returns-then-not-stands_at c =
    not_all (resolved c.args.lists.now.classes) (locals_seen (lists_seen c.args.lists.now) c.args.from) (locals_seen (lists_seen c.args.lists.now) c.args.to) c.loop-index.index c.if-not-stands_at.ensures

pub loop-index-preserved : goal.loop-index-preserved
loop-index-preserved c = below_more _ _ c.loop-index.invariant c.if-not-stands_at.ensures

pub returns : goal.returns
returns c =
    stand_below (resolved c.args.lists.now.classes) (locals_seen (lists_seen c.args.lists.now) c.args.from) (locals_seen (lists_seen c.args.lists.now) c.args.to) c.loop-index.index c.loop-index.invariant
    (λ k le. c.max_locals-index-end.ensures.beyond c.args.from.list k (omega (arith, le, c.loop-index-test.false)))
    (λ k le. c.max_locals-index-end.ensures.beyond c.args.to.list k (omega (arith, le, c.loop-index-test.false)))
