use Rattle.std.proofs.Common.{◌++◌, List, ℕ, rules, ap, ◌∙◌}
use Rattle.std.proofs.lemmas.Result.{on_ok_weaker}
use Rattle.image_words.specs.Layout.{outline_of}
use Rattle.image_words.specs.Regions.{first_place}
use Rattle.image_layout.proofs.statics.add_constant.Goals as goal

pub returns-in-Some-Long-clause-words : goal.returns-in-Some-Long-clause-words
returns-in-Some-Long-clause-words c =
    let cs = c.args.program.now in
    let long = ap (λ (ws : List ℕ). c.args.words.now.items ++ ws) (c.long_words.ensures.long (first_place cs (outline_of cs))) in
    on_ok_weaker c.add_known-in-Some-Long.result (λ made k at. let known = made ∙ long in search (rules, known, at)) c.add_known-in-Some-Long.ensures.words
