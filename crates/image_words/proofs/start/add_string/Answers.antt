use Rattle.std.proofs.Common.{◌≡◌, ◌++◌, ℕ, List, sym, ◌∙◌, subst}
use Rattle.lists.proofs.Lemmas.{some_same}
use Rattle.image_words.proofs.ObjectLemmas.{core_count}
use Rattle.image_words.proofs.StartLemmas.{string_part, string_made}
use Rattle.image_words.proofs.start.add_string.Goals as goal

pub returns : goal.returns
returns c =
    λ cs is_resolved o.
    let string = c.args.string in
    let own = c.at-units.result.now in
    let old = c.args.words.now.items in
    let new = c.extend_from_slice-2.new.self.items in
    let made = string_made cs string own old c.extend_from_slice.new.self.items c.add_units.new.words.items new c.in_ok-chars.chars c.in_ok-count.field-0 c.in_ok-type_of_string.type_of_string c.object_place-array.result
    (core_count cs is_resolved) c.in_ok-extend_from_slice.ensures.items c.in_ok-add_units.ensures c.in_ok-extend_from_slice-2.ensures.items
    (c.in_ok-chars.ensures cs o) c.in_ok-count.ensures (c.in_ok-type_of_string.ensures cs o) (c.object_place-array.ensures cs o) in
    λ units h. subst (λ (us : List ℕ). new ≡ old ++ string_part cs (string, us)) (some_same own units (sym c.at-units.ensures ∙ h)) made
