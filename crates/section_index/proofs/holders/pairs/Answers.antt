use Rattle.std.proofs.Common.{ℕ, List, arith, sym, subst}
use Rattle.section_index.proofs.Holding.{ArePairsBelow, pairs_none, pairs_more, pairs_all}
use Rattle.section_index.proofs.holders.pairs.Goals as goal

pub loop-i-init : goal.loop-i-init
loop-i-init c = let P : List (ℕ × ℕ) → Type 0 = λ es. ArePairsBelow c.args.family.now.sets 0 es in subst P (sym c.new-pairs.ensures.items) (pairs_none c.args.family.now.sets)

pub loop-i-preserved : goal.loop-i-preserved
loop-i-preserved c = pairs_more c.args.family.now.sets c.loop-i.i c.set.result.now c.loop-i.pairs.items c.add_pairs.new.pairs.items c.set.ensures.numbers c.in_ok-add_pairs.ensures c.loop-i.invariant

pub returns : goal.returns
returns c = let end = c.loop-i-test.false in let top = c.loop-i.auto.i-end in pairs_all c.args.family.now.sets c.loop-i.i c.loop-i.pairs.items (let n = c.requires in omega arith) c.loop-i.invariant
