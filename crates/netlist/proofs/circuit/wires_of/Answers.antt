use Rattle.std.proofs.Common.{ap, ◌∙◌}
use Rattle.netlist.specs.Meaning.{Words, result_of}
use Rattle.netlist.specs.Evaluation.{words_with}
use Rattle.netlist.proofs.Clocks.{next_fits, next_word}
use Rattle.netlist.proofs.circuit.wires_of.Goals as goal

pub result_of-word-requires : goal.result_of-word-requires
result_of-word-requires c =
    next_fits c.args.n.now c.args.inputs.now c.args.c.now c.as_slice-e-items.result.now c.loop-e.e-index c.e-item.result c.words.result
    c.requires.netlist c.requires.inputs c.requires.state c.as_slice-e-items.ensures c.loop-e-test.true c.e-item.is
    (c.words.ensures ∙ ap (words_with c.args.inputs.now c.args.c.now) c.deref.ensures.value ∙ c.loop-e.invariant)

pub loop-e-preserved : goal.loop-e-preserved
loop-e-preserved c =
    next_word c.args.inputs.now c.args.c.now c.as_slice-e-items.result.now c.loop-e.e-index c.e-item.result c.loop-e.wires.items
    c.push.new.self.items c.result_of-word.result c.loop-e-test.true c.e-item.is c.loop-e.invariant
    (c.result_of-word.ensures ∙ ap (λ (xs : Words). result_of xs c.e-item.result)
    (c.words.ensures ∙ ap (words_with c.args.inputs.now c.args.c.now) c.deref.ensures.value))
    c.in_ok-push.ensures.items
