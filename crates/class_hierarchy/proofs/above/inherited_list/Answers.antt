use Rattle.std.proofs.Common.{◌≡◌, ◌<◌, ◌++◌, [], List, ℕ, length, sym, ap, ◌∙◌, subst, arith}
use Rattle.std.specs.Option.{option_map_or}
use Rattle.std.specs.List.{flat_map}
use Rattle.class_lookup.specs.Hierarchy.{superclass, superinterfaces}
use Rattle.number_sets.specs.Numbers.{entry, IsSameSearch}
use Rattle.lists.proofs.Tables.{entry_read, same_along}
use Rattle.class_hierarchy.proofs.Filled.{superclass_below, none_of, above_some, above_none, both_parts, one_part}
use Rattle.class_hierarchy.proofs.above.inherited_list.Goals as goal
use Rattle.class_hierarchy.proofs.above.inherited_list.Goals.{in-Some+in_ok-insert_all, in_default}

pub bounds-table-upper : goal.bounds-table-upper
bounds-table-upper c =
    let below = superclass_below c.args.classes.now c.args.class c.in-Some.upper c.in-Some.ensures in
    let long = c.requires.table in
    omega (arith, below, long)

pub returns : goal.returns
returns c =
    let cs = c.args.classes.now in
    let n = c.args.class in
    let table = c.args.table.now in
    let old = c.in_ok-set.set in
    let set = c.insert_lists.new.self in
    let base = flat_map (entry c.args.interfaces.now) (superinterfaces cs n) in
    let rest = option_map_or (entry table) (superclass cs n) [] in
    let own = same_along set (old ++ flat_map (entry c.args.interfaces.now) c.superinterfaces.result.now) (old ++ base) c.in_ok-insert_lists.ensures
    (ap (λ (xs : List ℕ). old ++ flat_map (entry c.args.interfaces.now) xs) c.superinterfaces.ensures) in
    let back : (xs : List ℕ) → c.match-superclass.set ≡ xs → IsSameSearch xs (base ++ rest) → IsSameSearch c.match-superclass.set (base ++ rest) = λ xs e h. subst (λ (zs : List ℕ). IsSameSearch zs (base ++ rest)) (sym e) h in
    subst (λ (zs : List ℕ). IsSameSearch zs (base ++ rest)) (sym c.into_set.ensures) (elim c.match-superclass.branch [
      | in-Some+in_ok-insert_all w ↦
          let below = superclass_below cs n w.in-Some.upper w.in-Some.ensures in
          let long = c.requires.table in
          let lt : w.in-Some.upper < length table = omega (arith, below, long) in
          let read = w.as_slice.ensures ∙ (sym (entry_read table w.in-Some.upper w.index-table-upper.result lt w.index-table-upper.is) ∙ above_some table (superclass cs n) w.in-Some.upper w.in-Some.ensures) in
          back w.insert_all.new.self w.set-is (both_parts old set w.insert_all.new.self base w.as_slice.result.now rest c.in_ok-set.ensures own w.in_ok-insert_all.ensures read)
      | in_default w ↦
          let none = sym (none_of c.superclass.result w.in_default.not-Some) ∙ c.superclass.ensures in
          back set w.set-is (one_part old set base rest c.in_ok-set.ensures own (above_none table (superclass cs n) none))
    ])
