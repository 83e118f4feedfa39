use Rattle.std.proofs.Common.{◌∙◌, ap, refl, subst}
use Rattle.netlist.specs.declared.net.Net.{Net}
use Rattle.netlist.specs.Meaning.{word_on}
use Rattle.circuit_build.proofs.Steps.{kept, next, so}
use Rattle.machine_circuit.specs.Shapes.{shape_of}
use Rattle.machine_circuit.proofs.Finding.{FoundAre, all_found, more_found, nothing_found}
use Rattle.machine_circuit.proofs.cache.look_up.Goals as goal

pub loop-block-init : goal.loop-block-init
loop-block-init c = record {
  is_hit_width = ap (λ (n : Net). n.width) c.never.ensures;
  width = ap (λ (n : Net). n.width) c.constant.ensures;
  words_width = ap (λ (n : Net). n.width) c.constant-2.ensures;
  gives =
      kept refl
      (λ ws core h e.
      nothing_found core.a core.tags (ap (λ n. word_on ws n) c.never.ensures) (ap (λ n. word_on ws n) c.constant.ensures)
      (ap (λ n. word_on ws n) c.constant-2.ensures));
}

pub loop-block-preserved : goal.loop-block-preserved
loop-block-preserved c = record {
  is_hit_width = c.find_also-found.result.is_hit_width;
  width = c.find_also-found.ensures.base ∙ c.loop-block.invariant.width;
  words_width = c.find_also-found.result.words_width;
  gives =
      so (next c.loop-block.invariant.gives c.find_also-found.ensures.gives)
      (λ ws f core h e.
      more_found c.loop-block.block c.index-tags-block.result f.1 h e refl c.loop-block-test.true c.index-tags-block.is c.args.shape.now.most_blocks
      c.args.shape.now.most_words (f.0 core h e));
}

pub returns-clause-base : goal.returns-clause-base
returns-clause-base c = c.loop-block.invariant.width

pub returns-clause-gives : goal.returns-clause-gives
returns-clause-gives c =
    so c.loop-block.invariant.gives
    (λ ws f core h e.
    let found = subst (λ o. FoundAre (shape_of c.args.shape.now) ws c.loop-block.found.0 c.loop-block.found.1.0 c.loop-block.found.1.1.0 o)
    (all_found c.loop-block.block h c.loop-block-test.false) (f core h e) in record { is_hit = found.is_hit; base = found.base; words = found.words })
