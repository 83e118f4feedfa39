-- The line of an item, with its place.
use Rattle.std.proofs.Common.{◌≡◌, ℕ, false, List, [], ◌∷◌, ◌++◌, subst}
use Rattle.std.specs.Prelude.{codes, decimal}
use Rattle.std.specs.List.{concat}
use Rattle.std.specs.declared.option.Option.{Option}
use Rattle.std.specs.declared.result.Result.{Result}
use Rattle.answer_lines.specs.declared.line.Place.{Place}
use Rattle.answer_lines.specs.Line.{place_parts}
use Rattle.answer_lines.specs.Said.{Said}

abbrev pub item_line : (file : ℕ) → Place → (item : List ℕ) → List ℕ
item_line file place item = concat (codes "link: unsupported file=" ∷ decimal file ∷ (place_parts place ++ codes " item=" ∷ item ∷ codes "\n" ∷ []))

pub said_at : {T E : Type 0} (file : ℕ) (p q : Place) (a b : List ℕ) (old new : Option (List ℕ)) (before now : ℕ) (r : Result T E) → p ≡ q → a ≡ b
    → Said false (item_line file p a) old new before now r → Said false (item_line file q b) old new before now r
said_at file p q a b old new before now r place item said =
    let P : Place → Type 0 = λ x. Said false (item_line file x b) old new before now r in
    let Q : List ℕ → Type 0 = λ x. Said false (item_line file p x) old new before now r in
    subst P place (subst Q item said)
