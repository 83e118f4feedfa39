use Rattle.std.proofs.Common.{ℕ, List, length, ap, ◌∙◌, arith}
use Rattle.number_sets.specs.Numbers.{IsPeeled, IsStuck}
use Rattle.image_words.specs.Order.{IsSuperclassFirst}
use Rattle.image_words.proofs.OrderLemmas.{superclass_lists, superclass_first}
use Rattle.image_words.proofs.SlotLemmas.{two_ok}
use Rattle.image_words.proofs.class_order.superclass_order.Goals as goal

pub order_of-requires : goal.order_of-requires
order_of-requires c =
    let short = c.in_ok-lists.ensures.short in
    let same = ap length c.deref.ensures.value in
    omega (arith, short, same)

pub returns : goal.returns
returns c =
    let cs = c.args.classes.now in
    let lists = c.deref.result.now in
    let are = c.deref.ensures.value ∙ (c.in_ok-lists.ensures.lists ∙ ap superclass_lists c.classes.ensures) in
    two_ok c.order_of.result (λ (x : List ℕ). IsPeeled lists x) (λ (x : List ℕ). IsStuck lists x) (λ (x : List ℕ). IsSuperclassFirst cs x) c.order_of.ensures.peeled c.order_of.ensures.stuck
    (λ x p s. superclass_first cs c.is_without_cycle.ensures lists x are p s)
