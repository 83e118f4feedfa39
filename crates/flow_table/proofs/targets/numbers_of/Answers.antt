use Rattle.std.proofs.Common.{ℕ, List, take_all, Option, sym, ap, ◌∙◌}
use Rattle.std.specs.List.{filter_map}
use Rattle.bytecode_model.specs.Lists.{onto}
use Rattle.class_lookup.proofs.Numbering.{none_of}
use Rattle.class_lookup.specs.Lookup.{Place}
use Rattle.program_tables.specs.Numbers.{method_number}
use Rattle.flow_table.proofs.Listing.{next_some, next_none}
use Rattle.flow_table.proofs.targets.numbers_of.Goals as goal
use Rattle.flow_table.proofs.targets.numbers_of.Goals.{in-Some+in_ok-push, in_default}

pub loop-place-preserved : goal.loop-place-preserved
loop-place-preserved c =
    let f : Option Place → Option ℕ = λ p. onto p (method_number c.args.program.now) in
    let xs = c.args.places.now in
    let i = c.loop-place.place-index in
    let x = c.place-item.result in
    let ys = c.loop-place.numbers.items in
    elim c.match-number_of.branch [
      | in-Some+in_ok-push w ↦
          ap (λ v. v.items) w.numbers-is
          ∙ next_some f xs i x x ys w.push.new.self.items w.in-Some.number c.loop-place-test.true c.place-item.is c.loop-place.invariant (sym c.number_of.ensures ∙ w.in-Some.is) w.in_ok-push.ensures.items
      | in_default w ↦
          ap (λ v. v.items) w.numbers-is ∙ next_none f xs i x x ys c.loop-place-test.true c.place-item.is c.loop-place.invariant (sym c.number_of.ensures ∙ none_of c.number_of.result w.in_default.not-Some)
    ]

pub returns : goal.returns
returns c =
    c.loop-place.invariant ∙ ap (λ (ps : List (Option Place)). filter_map (λ p. onto p (method_number c.args.program.now)) ps) (take_all c.loop-place.place-index c.args.places.now c.loop-place-test.false)
