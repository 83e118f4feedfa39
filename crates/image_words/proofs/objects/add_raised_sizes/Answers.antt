use Rattle.std.proofs.Common.{◌≡◌, ◌++◌, ◌∷◌, [], ◌+◌, ◌<◌, ℕ, List, length, get_or, sym, ap, ◌∙◌, arith}
use Rattle.std.specs.Prelude.{sum_by}
use Rattle.std.proofs.lemmas.Option.{slice_get-get_or}
use Rattle.bytecode_model.specs.Sizes.{object_words}
use Rattle.program_tables.specs.Core.{raised_classes}
use Rattle.program_tables.specs.Resolved.{raised_object, resolved}
use Rattle.image_facts.specs.Words.{declared_words}
use Rattle.image_builder.proofs.ListLemmas.{map_more, map_whole}
use Rattle.image_words.proofs.ObjectLemmas.{raised_within, raised_size}
use Rattle.image_words.proofs.objects.add_raised_sizes.Goals as goal

pub loop-class-preserved : goal.loop-class-preserved
loop-class-preserved c =
    λ cs is_resolved are.
    let i = c.loop-class.class-index in
    let old = c.loop-class.sizes.items in
    let long = ap length c.requires in
    let test = c.loop-class-test.true in
    let lt : i < length raised_classes = omega (arith, long, test) in
    let class = get_or raised_classes i 0 in
    let same : get_or c.args.classes.now i 0 ≡ class = ap (λ (xs : List ℕ). get_or xs i 0) c.requires in
    let words = c.class_words.ensures cs are ∙ (ap (λ (k : ℕ). 1 + sum_by declared_words ((resolved cs).fields k)) same
    ∙ sym (raised_size cs class (raised_within cs is_resolved i lt))) in
    map_more (λ k. object_words (resolved cs) (raised_object cs k)) raised_classes i class c.args.sizes.now.items old c.push.new.self.items (slice_get-get_or raised_classes i 0 lt) (c.loop-class.invariant cs is_resolved are)
    (c.in_ok-push.ensures.items ∙ ap (λ (n : ℕ). old ++ n ∷ []) words)

pub returns : goal.returns
returns c =
    λ cs is_resolved are.
    let test = c.loop-class-test.false in
    let end = c.loop-class.auto.class-index-end in
    let long = ap length c.requires in
    map_whole (λ k. object_words (resolved cs) (raised_object cs k)) raised_classes c.loop-class.class-index c.args.sizes.now.items c.loop-class.sizes.items (omega (arith, test, end, long)) (c.loop-class.invariant cs is_resolved are)
