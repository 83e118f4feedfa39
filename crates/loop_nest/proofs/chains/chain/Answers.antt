use Rattle.std.proofs.Common.{ℕ, List, length, sym, ap, subst, arith}
use Rattle.loop_nest.specs.Chains.{IsChainFrom}
use Rattle.loop_nest.proofs.Linked.{chain_more, chain_short}
use Rattle.std.proofs.lemmas.List.{length_push}
use Rattle.loop_nest.proofs.chains.chain.Goals as goal

pub loop-v-preserved : goal.loop-v-preserved
loop-v-preserved c =
    let g = c.args.g.now in
    let P : List ℕ → Type 0 = λ ns. IsChainFrom g c.args.first c.in-Some.v ns in
    subst P (sym c.in_ok-push-2.ensures.items) (chain_more g c.args.first c.loop-v.last c.in-Some.v c.loop-v.nodes.items c.requires.valid c.in-Some.ensures c.loop-v.invariant)

pub loop-v-smaller : goal.loop-v-smaller
loop-v-smaller c =
    let g = c.args.g.now in
    let P : List ℕ → Type 0 = λ ns. IsChainFrom g c.args.first c.in-Some.v ns in
    let new' = subst P (sym c.in_ok-push-2.ensures.items) (chain_more g c.args.first c.loop-v.last c.in-Some.v c.loop-v.nodes.items c.requires.valid c.in-Some.ensures c.loop-v.invariant) in
    let short = chain_short g c.args.first c.in-Some.v c.push-in-Some.new.self.items c.requires.begins new' in
    let e = ap length c.in_ok-push-2.ensures.items in
    let f = length_push c.loop-v.nodes.items c.in-Some.v in
    omega arith
