use Rattle.std.proofs.Common.{ℕ, ◌<◌, List, length, sym, subst}
use Rattle.std.specs.Prelude.{All}
use Rattle.loop_nest.specs.Digraph.{AreSources}
use Rattle.section_index.specs.Numbering.{AreHolders}
use Rattle.section_index.proofs.Holding.{are_holders, pairs_fit}
use Rattle.section_index.proofs.Ranks.{ok_then}
use Rattle.section_index.proofs.holders.holders.Goals as goal

pub by_target-requires : goal.by_target-requires
by_target-requires c =
    let ns = c.args.numbers.now in
    let P : List (ℕ × ℕ) → Type 0 = λ es. All (λ e. e.1 < length ns) es in
    subst P (sym c.deref.ensures.value) (pairs_fit c.args.loops.now ns c.args.family.now.sets c.in_ok-pairs.pairs.items c.requires.placed c.in_ok-pairs.ensures)

pub returns : goal.returns
returns c =
    let ls = c.args.loops.now in
    let ns = c.args.numbers.now in
    ok_then c.by_target.result (λ hs. AreSources c.deref.result.now (length ns) hs) (λ hs. AreHolders ns ls hs)
    (λ hs h. let Q : List (ℕ × ℕ) → Type 0 = λ es. AreSources es (length ns) hs in are_holders ls ns c.args.family.now.sets hs c.in_ok-pairs.pairs.items c.requires.numbers c.requires.placed c.in_ok-pairs.ensures (subst Q c.deref.ensures.value h))
    c.by_target.ensures
