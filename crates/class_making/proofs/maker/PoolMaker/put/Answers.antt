use Rattle.std.proofs.Common.{List, ap, ◌∙◌, rules}
use Rattle.class_making.specs.declared.item.Item.{Item}
use Rattle.class_making.specs.Making.{with_item}
use Rattle.class_making.specs.contracts.item.ItemPartialEq.TheImpl.{eq-value}
use Rattle.class_making.proofs.ItemLemmas.{with_is}
use Rattle.class_making.proofs.maker.PoolMaker.put.Goals as goal

pub returns : goal.returns
returns c = c.in_ok-insert_full.ensures.keys ∙ with_is eq-value.it (λ a b. search rules) c.self.inside.items.keys c.args.item ∙ ap (λ (items : List Item). with_item items c.args.item) (search rules)
