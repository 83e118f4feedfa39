use Rattle.std.proofs.Common.{◌∷◌, [], ℕ, List, Some, sym, ap, ap₂, ◌∙◌}
use Rattle.class_pool.specs.declared.entry.Entry.{Entry}
use Rattle.image_words.specs.Layout.{outline_of}
use Rattle.image_words.specs.Pools.{words_of_entry}
use Rattle.image_layout.proofs.entries.words_of_entry.Goals as goal

pub returns-in-Text : goal.returns-in-Text
returns-in-Text c = λ k at there taken.
    let cs = c.args.program.now in
    c.string_words.ensures k c.in-Text.field-0 at (there ∙ ap Some c.in-Text.is) ∙ ap (λ (e : Entry). words_of_entry cs (outline_of cs) c.args.number k c.args.index (Some e)) (sym c.in-Text.is)

pub returns-in_ok-word-in-Method : goal.returns-in_ok-word-in-Method
returns-in_ok-word-in-Method c = λ k at there taken.
    let cs = c.args.program.now in
    let pair : ℕ → ℕ → List ℕ = λ a b. a ∷ b ∷ [] in
    ap₂ pair taken (c.in_ok-word-in-Method.ensures k at) ∙ ap (λ (e : Entry). words_of_entry cs (outline_of cs) c.args.number k c.args.index (Some e)) (sym c.in-Method.is)
