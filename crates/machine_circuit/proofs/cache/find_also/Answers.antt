use Rattle.circuit_build.proofs.Steps.{next, so}
use Rattle.machine_circuit.proofs.cache.find_also.Goals as goal
use Rattle.std.proofs.Common.{◌∙◌, ◌*◌, ◌%◌, ◌^◌, ap, refl}
use Rattle.std.proofs.Math.Nat.{mod-eq_of_lt}
use Rattle.netlist.specs.Meaning.{word_on}
use Rattle.circuit_core.proofs.Choosing.{chosen}
use Rattle.machine_circuit.specs.Loading.{base_found, words_found}
use Rattle.machine_circuit.specs.Tags.{begins_with}
use Rattle.machine_circuit.proofs.Finding.{hit_also, word_also}
use Rattle.machine_circuit.specs.Shapes.{shape_of}

pub returns-clause-gives : goal.returns-clause-gives
returns-clause-gives c =
    so (next (next (next (next (next c.holds-holds.ensures.gives c.choose-base.ensures.gives) c.choose-words.ensures.gives) c.or.ensures.gives) c.or-2.ensures.gives) c.or-3.ensures.gives)
    (λ ws f here before h fits one found.
    let place = word_on ws c.args.place in
    let begins = begins_with place here in
    let holds = f.0.0.0.0.0 here h in
    let first = ap (λ x. word_on ws x) c.constant.ensures ∙ ap (λ x. (c.args.block * x) % 2 ^ 64) c.from.ensures ∙ mod-eq_of_lt fits in
    let base = chosen begins f.0.0.0.0.1 holds first (ap (λ x. word_on ws x) c.constant-2.ensures) in
    let words = chosen begins f.0.0.0.1 holds h.words (ap (λ x. word_on ws x) c.constant-3.ensures) in record {
      is_hit = hit_also (c.args.block, here.words) begins before f.0.0.1 found.is_hit holds;
      base = word_also (base_found (shape_of c.args.shape.now)) (c.args.block, here.words) begins before refl one f.0.1 found.base base;
      words = word_also words_found (c.args.block, here.words) begins before refl one f.1 found.words words;
    })
