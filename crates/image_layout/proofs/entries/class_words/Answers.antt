use Rattle.std.proofs.Common.{◌+◌, ◌∷◌, [], ℕ, List, Option, refl, ap, ap₂, ◌∙◌, sym}
use Rattle.std.specs.Option.{option_map}
use Rattle.program_tables.specs.declared.kinds.ObjectKind.{ObjectKind}
use Rattle.program_tables.specs.Tables.{kind_seen}
use Rattle.image_words.specs.Layout.{outline_of}
use Rattle.image_words.specs.Pools.{class_words}
use Rattle.image_layout.proofs.EntryLemmas.{array_of}
use Rattle.image_layout.proofs.entries.class_words.Goals as goal

pub returns : goal.returns
returns c =
    let cs = c.args.program.now in
    let of = c.in-Some.of in
    let pair : ℕ → ℕ → List ℕ = λ a b. a ∷ b ∷ [] in
    ap₂ pair (c.in_ok-place.ensures cs c.requires c.kinds.ensures) (c.in_ok-array.ensures cs c.requires c.kinds-2.ensures ∙ array_of cs (of.dimensions + 1) of.dimensions of.base refl)
    ∙ ap (λ (k : Option ObjectKind). class_words cs (outline_of cs) (option_map kind_seen k)) (sym c.in-Some.is)
