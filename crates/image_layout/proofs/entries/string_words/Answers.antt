use Rattle.std.proofs.Common.{◌∷◌, [], ℕ, List, ap, ◌∙◌}
use Rattle.class_pool.specs.Grammar.{entry_at}
use Rattle.image_layout.proofs.EntryLemmas.{string_there}
use Rattle.image_layout.proofs.entries.string_words.Goals as goal

pub returns-in-Some : goal.returns-in-Some
returns-in-Some c = λ k units at there.
    let cs = c.args.program.now in
    let words : ℕ → List ℕ = λ w. w ∷ 0 ∷ [] in
    ap words (c.object_place.ensures cs c.requires.outline) ∙ string_there cs k units (entry_at k.pool c.args.index) c.string_object.result _ there (c.string_object.ensures k at) c.in-Some.is

pub returns-in-None : goal.returns-in-None
returns-in-None c = λ k units at there.
    string_there c.args.program.now k units (entry_at k.pool c.args.index) c.string_object.result _ there (c.string_object.ensures k at) c.in-None.is
