use Rattle.std.proofs.Common.{ℕ, List, map, Vec, sym, subst}
use Rattle.std.specs.declared.alloc.Global.{Global}
use Rattle.loop_nest.specs.Chains.{AreBlocks}
use Rattle.loop_nest.proofs.Linked.{are_blocks}
use Rattle.loop_nest.proofs.blocks.Goals as goal

pub returns : goal.returns
returns c =
    let P : List (List ℕ) → Type 0 = λ bs. AreBlocks c.args.g.now bs in
    subst P (sym c.new.ensures) (are_blocks c.args.g.now (map (λ (v : Vec ℕ Global). v.items) c.in_ok-chains.field-0.items) c.in_ok-chains.ensures.valid c.in_ok-chains.ensures.chains)
