use Rattle.std.proofs.Common.{◌≡◌, length, Some, None, sym, ap, ◌∙◌}
use Rattle.std.specs.Prelude.{slice_get}
use Rattle.std.proofs.lemmas.Bool.{ltb-true, ltb-false}
use Rattle.std.proofs.lemmas.Option.{slice_get-get_or, slice_get_past}
use Rattle.class_lookup.specs.Lookup.{Place}
use Rattle.program_tables.proofs.ShapeLemmas.{type_there, type_missing}
use Rattle.program_tables.proofs.shapes.field_type_at.Goals as goal

pub returns-in-Some-get : goal.returns-in-Some-get
returns-in-Some-get c = λ cs e.
    let table = c.args.made.now in
    let p = c.args.place in
    let i = c.place.inside.class in
    let j = c.place.inside.index in
    let hi : i ≡ p.0 = ap (λ (q : Place). q.0) c.place.view_is in
    let hj : j ≡ p.1 = ap (λ (q : Place). q.1) c.place.view_is in
    let types = c.in-Some.class.now in
    let list = c.as_slice.result.now in
    let held = c.in-Some-get.held.now in
    let found = slice_get-get_or table i types (ltb-true i (length table) (sym c.in-Some.ensures.lookup.0)) ∙ ap Some (sym c.in-Some.ensures.lookup.1) in
    let there = slice_get-get_or list j held (ltb-true j (length list) (sym c.in-Some-get.ensures.lookup.0)) ∙ ap Some (sym c.in-Some-get.ensures.lookup.1) in
    type_there cs table e p i j hi hj types (Some held) found (ap (λ xs. slice_get xs j) (sym c.as_slice.ensures) ∙ there)

pub returns-in-None-get : goal.returns-in-None-get
returns-in-None-get c = λ cs e.
    let table = c.args.made.now in
    let p = c.args.place in
    let i = c.place.inside.class in
    let j = c.place.inside.index in
    let hi : i ≡ p.0 = ap (λ (q : Place). q.0) c.place.view_is in
    let hj : j ≡ p.1 = ap (λ (q : Place). q.1) c.place.view_is in
    let types = c.in-Some.class.now in
    let list = c.as_slice.result.now in
    let found = slice_get-get_or table i types (ltb-true i (length table) (sym c.in-Some.ensures.lookup.0)) ∙ ap Some (sym c.in-Some.ensures.lookup.1) in
    let past = slice_get_past list j (ltb-false j (length list) (sym c.in-None-get.ensures.lookup.0)) in
    type_there cs table e p i j hi hj types None found (ap (λ xs. slice_get xs j) (sym c.as_slice.ensures) ∙ past)

pub returns-in-None : goal.returns-in-None
returns-in-None c = λ cs e.
    let table = c.args.made.now in
    let p = c.args.place in
    let i = c.place.inside.class in
    let j = c.place.inside.index in
    let hi : i ≡ p.0 = ap (λ (q : Place). q.0) c.place.view_is in
    let hj : j ≡ p.1 = ap (λ (q : Place). q.1) c.place.view_is in
    type_missing cs table e p i j hi hj (slice_get_past table i (ltb-false i (length table) (sym c.in-None.ensures.lookup.0)))
