use Rattle.std.proofs.Common.{◌≡◌, ◌+◌, ◌<◌, ◌≤◌, ℤ, List, [], ◌∷◌, ◌++◌, map, length, take, get_or, Option, sym, ap, ◌∙◌, arith}
use Rattle.std.proofs.lemmas.Option.{get_or_from_slice_get}
use Rattle.std.proofs.lemmas.List.{take_more, take_all, map-append}
use Rattle.class_lookup.specs.Lookup.{Place}
use Rattle.program_tables.specs.Numbers.{static_fields}
use Rattle.program_sites.specs.Ints.Constants.{constant_int}
use Rattle.program_sites.proofs.ints.constants.constants.Goals as goal

pub loop-index-preserved : goal.loop-index-preserved
loop-index-preserved c =
    let cs = c.args.program.now in
    let fs = static_fields c.args.program.now in
    let i = c.loop-index.index in
    let x = c.static_field.result in
    let g = constant_int c.args.program.now in
    let lt : c.loop-index.index < length (static_fields c.args.program.now) = (let e = c.static_count-index-end.ensures in let t = c.loop-index-test.true in omega arith) in
    let at : get_or fs i x ≡ x = get_or_from_slice_get fs i x x c.static_field.ensures in
    let more : take (i + 1) fs ≡ take i fs ++ x ∷ [] = take_more fs i x lt ∙ ap (λ (y : Place). take i fs ++ y ∷ []) at in
    c.in_ok-push.ensures.items
    ∙ ap (λ (xs : List (Option ℤ)). xs ++ c.constant_at.result ∷ []) c.loop-index.invariant
    ∙ ap (λ (o : Option ℤ). map g (take i fs) ++ o ∷ []) c.constant_at.ensures
    ∙ sym (ap (map g) more ∙ map-append g (take i fs) (x ∷ []))

pub returns : goal.returns
returns c =
    let fs = static_fields c.args.program.now in
    let past : length (static_fields c.args.program.now) ≤ c.loop-index.index = (let e = c.static_count-index-end.ensures in let t = c.loop-index-test.false in omega arith) in
    c.loop-index.invariant ∙ ap (map (constant_int c.args.program.now)) (take_all c.loop-index.index fs past)
