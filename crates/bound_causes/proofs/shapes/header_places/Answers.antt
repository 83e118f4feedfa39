use Rattle.std.proofs.Common.{◌≡◌, ◌<◌, length, get_or, ap, arith}
use Rattle.std.proofs.lemmas.List.{length-map, get_or-map}
use Rattle.loop_nest.specs.Nest.{NaturalLoop, headers_of}
use Rattle.bound_causes.proofs.shapes.header_places.Goals as goal

pub bounds-numbers-header : goal.bounds-numbers-header
bounds-numbers-header c =
    let ls = c.args.loops.now in
    let i = c.loop-nested.nested-index in
    let item = c.nested-item.result in
    let lt = c.loop-nested-test.true in
    let long = length-map ls (λ (l : NaturalLoop). l.header) in
    let inside : i < length (headers_of ls) = omega arith in
    let below : get_or (headers_of ls) i 0 < length c.args.numbers.now = c.requires i 0 inside in
    let at : get_or (headers_of ls) i 0 ≡ (get_or ls i item).header = get_or-map (λ (l : NaturalLoop). l.header) ls i item 0 lt in
    let same = ap (λ (l : NaturalLoop). l.header) c.nested-item.is in
    let read = c.header.ensures in
    omega arith
