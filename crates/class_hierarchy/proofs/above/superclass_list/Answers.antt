use Rattle.std.proofs.Common.{◌<◌, length, sym, ap, ◌∙◌, arith}
use Rattle.class_lookup.specs.Hierarchy.{superclass}
use Rattle.lists.proofs.Tables.{entry_read}
use Rattle.class_hierarchy.proofs.Filled.{superclass_below, none_of, above_some, above_none, front_then, front_alone}
use Rattle.class_hierarchy.proofs.above.superclass_list.Goals as goal
use Rattle.class_hierarchy.proofs.above.superclass_list.Goals.{in-Some+in_ok-extend_from_slice, in_default}

pub bounds-table-upper : goal.bounds-table-upper
bounds-table-upper c =
    let below = superclass_below c.args.classes.now c.args.class c.in-Some.upper c.in-Some.ensures in
    let long = c.requires.table in
    omega (arith, below, long)

pub returns : goal.returns
returns c =
    let cs = c.args.classes.now in
    let table = c.args.table.now in
    let start = c.new-list.result.items in
    let pushed = c.push.new.self.items in
    elim c.match-superclass.branch [
      | in-Some+in_ok-extend_from_slice w ↦
          let below = superclass_below cs c.args.class w.in-Some.upper w.in-Some.ensures in
          let long = c.requires.table in
          let lt : w.in-Some.upper < length table = omega (arith, below, long) in
          let read = w.as_slice.ensures ∙ (sym (entry_read table w.in-Some.upper w.index-table-upper.result lt w.index-table-upper.is) ∙ above_some table (superclass cs c.args.class) w.in-Some.upper w.in-Some.ensures) in
          ap (λ v. v.items) w.list-is ∙ front_then start pushed w.extend_from_slice.new.self.items w.as_slice.result.now _ c.args.class c.new-list.ensures.items c.in_ok-push.ensures.items w.in_ok-extend_from_slice.ensures.items read
      | in_default w ↦
          let none = sym (none_of c.superclass.result w.in_default.not-Some) ∙ c.superclass.ensures in
          ap (λ v. v.items) w.list-is ∙ front_alone start pushed _ c.args.class c.new-list.ensures.items c.in_ok-push.ensures.items (above_none table (superclass cs c.args.class) none)
    ]
