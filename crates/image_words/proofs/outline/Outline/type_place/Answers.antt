use Rattle.std.proofs.Common.{◌+◌, ◌*◌, ℕ, ap, ap₂, ◌∙◌}
use Rattle.image_facts.specs.Words.{declared_words}
use Rattle.program_tables.specs.Resolved.{resolved}
use Rattle.image_words.specs.Layout.{front_size}
use Rattle.image_builder.proofs.RunLemmas.{run_end}
use Rattle.image_words.proofs.outline.Outline.type_place.Goals as goal

pub returns : goal.returns
returns c =
    λ cs o.
    let types = run_end declared_words (resolved cs).statics front_size c.args.self.now.statics o.statics in
    let words = ap (λ (w : ℕ). c.args.number * w) o.type_words in
    c.in_ok-place.ensures ∙ ap₂ (λ (a : ℕ) (b : ℕ). a + b) types (c.in_ok-times.ensures ∙ words)
