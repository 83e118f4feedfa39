use Rattle.std.proofs.Common.{arith, rules}
use Rattle.flow_facts.proofs.NamesLemmas.{stops, goes_on}
use Rattle.flow_facts.proofs.line_reader.read_names.Goals as goal

pub returns-then-not-branch : goal.returns-then-not-branch
returns-then-not-branch c =
    stops (λ w. w.now) c.args.words.now c.loop-word.names c.add_name.new.names c.loop-word.word-index _ c.in_ok-add_name.field-0 c.loop-word.invariant.1 (omega (arith, c.loop-word-test.true))
    c.in_ok-add_name.ensures (search rules)

pub loop-word-preserved : goal.loop-word-preserved
loop-word-preserved c =
    goes_on (λ w. w.now) c.args.words.now c.loop-word.names c.add_name.new.names c.loop-word.word-index _ c.in_ok-add_name.field-0 c.loop-word.invariant.0 c.loop-word.invariant.1
    (omega (arith, c.loop-word-test.true)) c.in_ok-add_name.ensures (search rules)
