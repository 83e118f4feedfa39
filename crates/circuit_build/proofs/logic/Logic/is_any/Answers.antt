use Rattle.std.proofs.Common.{◌≡◌, false, refl, ap, ◌∙◌}
use Rattle.std.specs.Prelude.{◌==◌, slice_index_or}
use Rattle.netlist.specs.declared.net.Net.{Net}
use Rattle.netlist.specs.Meaning.{word_on}
use Rattle.circuit_build.proofs.Grown.{begins, grows_on, not_lacking}
use Rattle.circuit_build.proofs.Bits.{any_of_all, any_step}
use Rattle.circuit_build.proofs.Steps.{kept, next, so}
use Rattle.circuit_build.proofs.logic.Logic.is_any.Goals as goal

pub loop-word-init : goal.loop-word-init
loop-word-init c = record {
  width = ap (λ (n : Net). n.width) c.never-any.ensures;
  grows = λ parts whole well there fits. begins parts c.args.self.now c.never-any.result c.never-any.ensures well;
  gives = kept refl (λ ws. ap (λ n. word_on ws n) c.never-any.ensures);
}

pub loop-word-preserved : goal.loop-word-preserved
loop-word-preserved c = record {
  width = c.or-any.ensures.width ∙ c.loop-word.invariant.width;
  grows = λ parts whole well there fits.
      let before : c.is-is_word.new.self.lacks ≡ false = not_lacking _ _ _ _ c.or-any.ensures.adds whole in
      let first : c.loop-word.self.lacks ≡ false = not_lacking _ _ _ _ c.is-is_word.ensures.adds before in
      grows_on parts c.args.self.now c.loop-word.self c.is-is_word.new.self c.or-any.new.self c.args.x c.loop-word.any c.is-is_word.result c.or-any.result
      (slice_index_or c.args.words.now c.loop-word.word-index 0) c.is-is_word.ensures.adds c.is-is_word.ensures.width c.or-any.ensures.adds
      c.or-any.ensures.width c.loop-word.invariant.width whole (fits c.loop-word.word-index 0 c.loop-word-test.true) there
      (c.loop-word.invariant.grows parts first well there fits);
  gives =
      so (next (next c.loop-word.invariant.gives c.is-is_word.ensures.gives) c.or-any.ensures.gives)
      (λ ws f. any_step (λ word. word_on ws c.args.x == word) c.args.words.now c.loop-word.word-index 0 _ _ _ f.1 f.0.0 f.0.1 c.loop-word-test.true);
}

pub returns : goal.returns
returns c = record {
  width = c.loop-word.invariant.width;
  grows = c.loop-word.invariant.grows;
  gives =
      so c.loop-word.invariant.gives
      (λ ws f. any_of_all (λ word. word_on ws c.args.x == word) c.args.words.now c.loop-word.word-index _ f c.loop-word-test.false c.loop-word.auto.word-index-end);
}
