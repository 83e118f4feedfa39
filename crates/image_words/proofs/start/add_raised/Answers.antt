use Rattle.std.proofs.Common.{◌<◌, ◌++◌, ℕ, List, length, get_or, sym, ap, ◌∙◌, subst, arith}
use Rattle.bytecode_model.specs.State.{Object}
use Rattle.image_facts.specs.Words.{object_image}
use Rattle.program_tables.specs.Core.{raised_classes}
use Rattle.program_tables.specs.Resolved.{raised_object, resolved}
use Rattle.image_words.specs.Layout.{type_place, outline_of}
use Rattle.image_words.specs.Regions.{first_place}
use Rattle.image_builder.proofs.ListLemmas.{flat_at, flat_whole}
use Rattle.image_words.proofs.ObjectLemmas.{raised_within}
use Rattle.image_words.proofs.StartLemmas.{raised_images}
use Rattle.image_words.proofs.start.add_raised.Goals as goal

pub loop-class-preserved : goal.loop-class-preserved
loop-class-preserved c =
    λ cs is_resolved o.
    let i = c.loop-class.class-index in
    let listed = c.raised_classes-classes.ensures in
    let long = ap length listed in
    let test = c.loop-class-test.true in
    let lt : i < length raised_classes = omega (arith, long, test) in
    let image : ℕ → List ℕ = λ k. object_image (resolved cs) (type_place cs) (first_place cs (outline_of cs)) (raised_object cs k) in
    let class = get_or raised_classes i 0 in
    let same = ap (λ (xs : List ℕ). get_or xs i 0) listed in
    let added = c.in_ok-add_raised_object.ensures cs o (subst (λ (k : ℕ). k < length cs) (sym same) (raised_within cs is_resolved i lt)) in
    flat_at image raised_classes i 0 c.args.words.now.items c.loop-class.words.items c.add_raised_object.new.words.items lt (c.loop-class.invariant cs is_resolved o)
    (added ∙ ap (λ (k : ℕ). c.loop-class.words.items ++ image k) same)

pub returns : goal.returns
returns c =
    λ cs is_resolved o.
    let image : Object → List ℕ = object_image (resolved cs) (type_place cs) (first_place cs (outline_of cs)) in
    let test = c.loop-class-test.false in
    let end = c.loop-class.auto.class-index-end in
    let long = ap length c.raised_classes-classes.ensures in
    flat_whole (λ k. image (raised_object cs k)) raised_classes c.loop-class.class-index c.args.words.now.items c.loop-class.words.items (omega (arith, test, end, long)) (c.loop-class.invariant cs is_resolved o)
    ∙ ap (λ (ws : List ℕ). c.args.words.now.items ++ ws) (raised_images cs image)
