use Rattle.std.proofs.Common.{ℕ, ◌+◌, List, length, take, get_or, sym, ap, ◌∙◌, subst}
use Rattle.std.proofs.lemmas.List.{length_push}
use Rattle.std.proofs.lemmas.List.Elements.{Contains-get_or}
use Rattle.memory_bound.specs.Setting.{bounds_in, lengths_in}
use Rattle.memory_bound.specs.Words.{AreNodeWords}
use Rattle.memory_bound.proofs.Sited.{node_start}
use Rattle.memory_bound.proofs.Wording.{one_more_node}
use Rattle.memory_bound.proofs.words.words_of.Goals as goal

pub returns-in-None-clause-words : goal.returns-in-None-clause-words
returns-in-None-clause-words c = λ P flow sites starts known.
    let ns = c.args.nodes.now in
    let i = c.loop-node.node-index in
    record {
      number = get_or ns i 0;
      among = Contains-get_or ns i 0 c.loop-node-test.true;
      exceeds = c.in-None.ensures P flow sites (node_start P c.args.m ns starts i c.loop-node-test.true) known;
    }

pub loop-node-preserved : goal.loop-node-preserved
loop-node-preserved c =
    let ns = c.args.nodes.now in
    let i = c.loop-node.node-index in
    let m = c.args.m in
    let b = bounds_in c.args.task.now in
    let l = lengths_in c.args.task.now in
    let ws = c.loop-node.words.items in
    let w = c.in-Some.node_words in
    let items = c.in_ok-push-in-Some.ensures.items in (
      ap length items ∙ length_push ws w ∙ ap (λ (n : ℕ). n + 1) c.loop-node.invariant.0,
      λ P flow sites starts known.
          subst (λ (vs : List ℕ). AreNodeWords P b l m (take (i + 1) ns) vs) (sym items)
          (one_more_node P b l m ns ws i w c.loop-node-test.true c.loop-node.invariant.0 (c.loop-node.invariant.1 P flow sites starts known)
          (c.in-Some.ensures P flow sites (node_start P m ns starts i c.loop-node-test.true) known)),
    )
