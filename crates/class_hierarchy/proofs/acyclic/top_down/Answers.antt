use Rattle.std.proofs.Common.{List, ℕ}
use Rattle.number_sets.specs.Numbers.{IsPeeled, IsStuck}
use Rattle.class_hierarchy.specs.TopDown.{IsTopDown}
use Rattle.class_hierarchy.proofs.Ranks.{top_down_of, both_ok}
use Rattle.class_hierarchy.proofs.acyclic.top_down.Goals as goal

pub returns-clause-order : goal.returns-clause-order
returns-clause-order c =
    let cs = c.args.classes.now in
    let above = c.args.above.now in
    both_ok c.order_of.result (λ (x : List ℕ). IsPeeled above x) (λ (x : List ℕ). IsStuck above x) (λ (x : List ℕ). IsTopDown cs x) c.order_of.ensures.peeled c.order_of.ensures.stuck
    (λ x p s. top_down_of cs c.requires.acyclic above x c.requires.long c.requires.direct p s)
