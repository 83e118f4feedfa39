use Rattle.std.proofs.Common.{◌≡◌, ◌++◌, ◌∷◌, [], ◌<◌, ℕ, length, map, ap, ◌∙◌, arith}
use Rattle.std.proofs.lemmas.List.FromFn.{length-range_with_len}
use Rattle.image_words.specs.Layout.{interface_words, classes_of}
use Rattle.image_builder.proofs.ListLemmas.{mapped_more, range_first, take_whole}
use Rattle.image_words.proofs.item_sizes.interface_sizes.Goals as goal

pub loop-class-preserved : goal.loop-class-preserved
loop-class-preserved c =
    let cs = c.args.classes.now in
    let class = c.loop-class.class in
    let old = c.loop-class.sizes.items in
    let test = c.loop-class-test.true in
    let count = c.class_count-class-end.ensures in
    let lt : class < length cs = omega (arith, test, count) in
    mapped_more (interface_words cs) (classes_of cs) class class old c.push.new.self.items (range_first (length cs) class lt) c.loop-class.invariant
    (c.in_ok-push.ensures.items ∙ ap (λ (n : ℕ). old ++ n ∷ []) c.interface_size.ensures)

pub returns : goal.returns
returns c =
    let cs = c.args.classes.now in
    let test = c.loop-class-test.false in
    let end = c.loop-class.auto.class-end in
    let count = c.class_count-class-end.ensures in
    let all : length (classes_of cs) ≡ c.loop-class.class = let long = length-range_with_len 0 (length cs) in omega (arith, test, end, count, long) in
    c.loop-class.invariant ∙ ap (map (interface_words cs)) (take_whole (classes_of cs) c.loop-class.class all)
