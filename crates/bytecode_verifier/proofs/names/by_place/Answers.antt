use Rattle.std.proofs.Common.{◌≡◌, [], arith}
use Rattle.std.proofs.lemmas.List.{nil_from_length}
use Rattle.bytecode_verifier.proofs.NameLemmas.{none_placed, one_placed, last_placed}
use Rattle.bytecode_verifier.proofs.names.by_place.Goals as goal

pub loop-place-init : goal.loop-place-init
loop-place-init c = none_placed c.args.length c.args.frames.items c.in_ok-places.places.items c.in_ok-places.ensures c.requires

pub loop-place-preserved : goal.loop-place-preserved
loop-place-preserved c = one_placed c.args.length c.args.frames.items c.loop-place.frames.items c.pop.new.self.items c.loop-place.places.items c.in-Some.place c.in-Some.frame c.loop-place.invariant c.in-Some.ensures.items

pub loop-place-preserved-in-Some : goal.loop-place-preserved-in-Some
loop-place-preserved-in-Some c = one_placed c.args.length c.args.frames.items c.loop-place.frames.items c.pop.new.self.items c.loop-place.places.items c.in-Some.place c.in-Some.frame c.loop-place.invariant c.in-Some.ensures.items

pub returns : goal.returns
returns c =
    let ok = c.loop-place.frames.ok in
    let cases = c.in_default.ensures.cases in
    let empty : c.loop-place.frames.items ≡ [] = nil_from_length c.loop-place.frames.items (omega (arith, ok.0, cases.0)) in
    last_placed c.args.length c.args.frames.items c.loop-place.frames.items c.loop-place.places.items c.loop-place.invariant empty
