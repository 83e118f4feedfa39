use Rattle.std.proofs.Common.{ap, sym, ◌∙◌, ◌++◌, ◌+◌, drop}
use Rattle.verifier_types.specs.Seen.{types_seen}
use Rattle.bytecode_verifier.specs.Listed.{starts_from}
use Rattle.bytecode_verifier.proofs.ListedLemmas.{start_pushed, count_pushed, starts_end, count_end}
use Rattle.bytecode_verifier.proofs.names.starts_of.Goals as goal

pub loop-item-preserved : goal.loop-item-preserved
loop-item-preserved c =
    let i = c.loop-item.item-index in
    let inv = c.loop-item.invariant in (
      ap (λ l. l ++ starts_from c.in_ok-next.next (types_seen (drop (i + 1) c.args.types.now))) c.in_ok-push.ensures.items
          ∙ (start_pushed c.loop-item.starts.items c.loop-item.words c.in_ok-next.next c.args.types.now i _ c.loop-item-test.true c.in_ok-next.ensures ∙ inv.0),
      count_pushed c.loop-item.words c.in_ok-next.next c.args.types.now i _ c.loop-item-test.true c.in_ok-next.ensures ∙ inv.1,
    )

pub returns-clause-starts : goal.returns-clause-starts
returns-clause-starts c = sym (starts_end c.loop-item.starts.items c.loop-item.words c.args.types.now c.loop-item.item-index c.loop-item-test.false) ∙ c.loop-item.invariant.0

pub returns-clause-words : goal.returns-clause-words
returns-clause-words c = sym (count_end c.loop-item.words c.args.types.now c.loop-item.item-index c.loop-item-test.false) ∙ c.loop-item.invariant.1
