use Rattle.std.proofs.Common.{List, sym, ap, ◌∙◌, rules}
use Rattle.class_making.specs.contracts.item.ItemPartialEq.TheImpl.{eq-value}
use Rattle.class_making.specs.declared.item.Item.{Item}
use Rattle.class_making.specs.Making.{index_from, index_of as index_in}
use Rattle.class_making.proofs.ItemLemmas.{index_is, index_some, index_past}
use Rattle.class_making.proofs.maker.PoolMaker.index_of.Goals as goal

pub returns-in-Some : goal.returns-in-Some
returns-in-Some c =
    let is = index_is eq-value.it (λ a b. search rules) c.self.inside.items.keys c.args.item.now c.get_index_of.result c.get_index_of.ensures.index in
    sym (index_some c.get_index_of.result c.in-Some.place c.in-Some.is c.if-place-lt-MOST_ENTRIES.true) ∙ is ∙ ap (λ (items : List Item). index_in items c.args.item.now) c.self.view_is

pub returns-in_default : goal.returns-in_default
returns-in_default c =
    let is = index_is eq-value.it (λ a b. search rules) c.self.inside.items.keys c.args.item.now c.get_index_of.result c.get_index_of.ensures.index in
    sym (index_past c.get_index_of.result c.in-Some.place c.in-Some.is c.if-place-lt-MOST_ENTRIES.false) ∙ is ∙ ap (λ (items : List Item). index_in items c.args.item.now) c.self.view_is

pub returns-in_default-2 : goal.returns-in_default-2
returns-in_default-2 c =
    let is = index_is eq-value.it (λ a b. search rules) c.self.inside.items.keys c.args.item.now c.get_index_of.result c.get_index_of.ensures.index in
    sym (ap index_from c.in_default.is) ∙ is ∙ ap (λ (items : List Item). index_in items c.args.item.now) c.self.view_is
