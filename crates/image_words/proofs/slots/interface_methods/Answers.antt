use Rattle.std.proofs.Common.{◌≡◌, ◌++◌, List, length, sym, ap, ◌∙◌, arith}
use Rattle.std.specs.List.{flat_map, range_with_len}
use Rattle.class_lookup.specs.Lookup.{Place}
use Rattle.image_words.specs.Slots.{own_methods}
use Rattle.image_words.proofs.TableLemmas.{interface_own, interface_by, interface_more, interface_left}
use Rattle.image_words.proofs.slots.interface_methods.Goals as goal
use Rattle.image_words.proofs.slots.interface_methods.Goals.{then-is_interface+in_ok-add_methods, else-is_interface}

pub loop-class-preserved : goal.loop-class-preserved
loop-class-preserved c =
    let cs = c.args.classes.now in
    let class = c.loop-class.class in
    elim c.if-is_interface.branch [
      | then-is_interface+in_ok-add_methods v ↦
          ap (λ x. x.items) v.places-is ∙ (v.in_ok-add_methods.ensures ∙ (ap (λ (xs : List Place). xs ++ own_methods cs class) c.loop-class.invariant
          ∙ interface_more cs class (sym c.is_interface.ensures ∙ v.if-is_interface.true)))
      | else-is_interface v ↦
          ap (λ x. x.items) v.places-is ∙ (c.loop-class.invariant ∙ interface_left cs class (sym c.is_interface.ensures ∙ v.if-is_interface.false))
    ]

pub returns : goal.returns
returns c =
    let cs = c.args.classes.now in
    let test = c.loop-class-test.false in
    let end = c.loop-class.auto.class-end in
    let count = c.class_count-class-end.ensures in
    let same : c.loop-class.class ≡ length cs = omega (arith, test, end, count) in
    c.loop-class.invariant ∙ (ap (λ n. flat_map (interface_own cs) (range_with_len 0 n)) same ∙ interface_by cs)
