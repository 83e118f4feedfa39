use Rattle.std.proofs.Common.{◌≡◌, ◌++◌, ◌∷◌, [], ℕ, length, map, ap, ◌∙◌, arith}
use Rattle.image_words.specs.Layout.{pool_words}
use Rattle.image_builder.proofs.ListLemmas.{mapped_more, take_whole}
use Rattle.image_words.proofs.item_sizes.pool_sizes.Goals as goal

pub loop-number-preserved : goal.loop-number-preserved
loop-number-preserved c =
    let cs = c.args.classes.now in
    let old = c.loop-number.sizes.items in
    mapped_more pool_words cs c.loop-number.number c.class-class.result.now old c.push.new.self.items c.class-class.ensures c.loop-number.invariant
    (c.in_ok-push.ensures.items ∙ ap (λ (n : ℕ). old ++ n ∷ []) c.in_ok-pool_size.ensures)

pub returns : goal.returns
returns c =
    let cs = c.args.classes.now in
    let test = c.loop-number-test.false in
    let end = c.loop-number.auto.number-end in
    let count = c.class_count-number-end.ensures in
    let all : length cs ≡ c.loop-number.number = omega (arith, test, end, count) in
    c.loop-number.invariant ∙ ap (map pool_words) (take_whole cs c.loop-number.number all)
