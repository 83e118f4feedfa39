use Rattle.std.proofs.Common.{◌<◌, ◌≤◌, ◌++◌, List, length, ap, ◌∙◌, arith}
use Rattle.std.specs.List.{flat_map}
use Rattle.bytecode_model.specs.Program.{Method}
use Rattle.program_tables.specs.Numbers.{methods_by_number}
use Rattle.program_tables.specs.Resolved.{method_in, resolved_methods}
use Rattle.image_words.specs.Layout.{outline_of}
use Rattle.image_words.specs.Regions.{method_image}
use Rattle.image_builder.proofs.ListLemmas.{flat_more}
use Rattle.image_builder.proofs.ListLemmas.{get_below}
use Rattle.image_layout.proofs.SizeLemmas.{stands}
use Rattle.image_layout.proofs.MethodLemmas.{methods_taken}
use Rattle.image_layout.proofs.methods.add_methods.Goals as goal

pub loop-method-preserved : goal.loop-method-preserved
loop-method-preserved c =
    let cs = c.args.program.now in
    let n = c.loop-method.method in
    let test = c.loop-method-test.true in
    let count = c.method_count-method-end.ensures in
    let lt : n < length (methods_by_number cs) = omega (arith, test, count) in
    let p = get_below (methods_by_number cs) n lt in
    let s = stands c.methods_stand_by_number.ensures c.members_are_there.ensures cs n p.0 p.1 in
    let k = method_in cs p.0.0 s.class s.member in
    flat_more (method_image cs (outline_of cs)) (resolved_methods cs) n k c.args.words.now.items c.loop-method.words.items c.add_method.new.words.items s.method c.loop-method.invariant
    (c.in_ok-add_method.ensures k s.method)

pub returns : goal.returns
returns c =
    let cs = c.args.program.now in
    let test = c.loop-method-test.false in
    let count = c.method_count-method-end.ensures in
    let past : length (methods_by_number cs) ≤ c.loop-method.method = omega (arith, test, count) in
    c.loop-method.invariant
    ∙ ap (λ (ms : List Method). c.args.words.now.items ++ flat_map (method_image cs (outline_of cs)) ms) (methods_taken c.methods_stand_by_number.ensures cs c.loop-method.method past)
