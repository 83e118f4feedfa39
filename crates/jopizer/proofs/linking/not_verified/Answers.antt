use Rattle.std.proofs.Common.{◌≡◌, Some, sym, ap, ◌∙◌, arith}
use Rattle.class_lookup.specs.Lookup.{Place}
use Rattle.bytecode_verifier.specs.Failure.{broken_seen}
use Rattle.jopizer.proofs.LinkLemmas.{is_number, is_of_file, index_fits, place_is}
use Rattle.jopizer.proofs.linking.not_verified.Goals as goal

pub method-place-requires : goal.method-place-requires
method-place-requires c = is_number c.args.program.now c.args.method c.args.pc (broken_seen c.args.rule) c.requires.fails

pub overflow_sub-file : goal.overflow_sub-file
overflow_sub-file c =
    let le = is_of_file c.core_is_verified.ensures c.args.program.now c.requires.core c.is_resolved.ensures c.args.method c.args.pc (broken_seen c.args.rule) c.method-place.result c.requires.fails c.method-place.ensures in
    let class : c.place.inside.class ≡ c.method-place.result.0 = ap (λ (p : Place). p.0) c.place.view_is in
    omega arith

pub returns : goal.returns
returns c =
    let le = is_of_file c.core_is_verified.ensures c.args.program.now c.requires.core c.is_resolved.ensures c.args.method c.args.pc (broken_seen c.args.rule) c.method-place.result c.requires.fails c.method-place.ensures in
    let class : c.place.inside.class ≡ c.method-place.result.0 = ap (λ (p : Place). p.0) c.place.view_is in
    let index : c.place.inside.index ≡ c.method-place.result.1 = ap (λ (p : Place). p.1) c.place.view_is in
    (c.args.method, c.requires.fails, c.method-place.ensures ∙ ap Some (place_is c.method-place.result c.place.inside.class c.place.inside.index (sym class) (sym index) (omega arith)))

pub overflow_cast-index : goal.overflow_cast-index
overflow_cast-index c =
    let few = index_fits c.members_are_there.ensures c.args.program.now c.is_resolved.ensures c.args.method c.method-place.result c.method-place.ensures in
    let index : c.place.inside.index ≡ c.method-place.result.1 = ap (λ (p : Place). p.1) c.place.view_is in
    record { fits = omega arith }
