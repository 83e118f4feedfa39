use Rattle.std.proofs.Common.{ℕ, List, Option, None, get_or, ap, ◌∙◌, arith}
use Rattle.class_lookup.specs.Lookup.{Place}
use Rattle.image_words.specs.Tables.{own_slot}
use Rattle.image_words.proofs.OwnLemmas.{no_class_slot}
use Rattle.image_words.proofs.SlotLemmas.{read_slots}
use Rattle.image_words.proofs.slots.Slots.own_slot.Goals as goal

pub returns-then-class-len : goal.returns-then-class-len
returns-then-class-len c = λ cs are.
    let class = c.method.inside.class in
    let index = c.method.inside.index in
    let t = c.index.result.now in
    let test = c.if-class-len.true in
    let len = c.len.ensures in
    let long = are.long in
    let got = read_slots cs c.args.self.now are class t (omega (arith, test, len, long)) c.index.ensures in
    c.slot_at.ensures ∙ (ap (λ (xs : List (Option ℕ)). get_or xs index None) c.deref.ensures.value ∙ (got.own index ∙ ap (own_slot cs) c.method.view_is))

pub returns-else-class-len : goal.returns-else-class-len
returns-else-class-len c = λ cs are.
    let test = c.if-class-len.false in
    let len = c.len.ensures in
    let long = are.long in
    let p : Place = (c.method.inside.class, c.method.inside.index) in
    no_class_slot cs p (omega (arith, test, len, long)) ∙ ap (own_slot cs) c.method.view_is
