use Rattle.std.proofs.Common.{◌≡◌, ◌+◌, ◌++◌, List, ℕ, get_or, take, sym, ap, ◌∙◌, subst}
use Rattle.std.specs.List.{flat_map}
use Rattle.number_sets.specs.Numbers.{entry, IsSameSearch}
use Rattle.number_sets.proofs.UpwardLemmas.{inserted_more, inserted_before, inserted_none}
use Rattle.lists.proofs.Tables.{entry_read, same_along}
use Rattle.number_sets.proofs.marked.MarkedSet.insert_lists.Goals as goal
use Rattle.number_sets.proofs.marked.MarkedSet.insert_lists.Goals.{then-not-contains+then-index-table+in_ok-insert_all, else-not-contains, else-not-contains-via-then-not-contains+else-index-table, else-not-contains-via-else-not-contains}

pub loop-number-preserved : goal.loop-number-preserved
loop-number-preserved c =
    let table = c.args.table.now in
    let old = c.args.self.now in
    let numbers = c.args.numbers.now in
    let self = c.loop-number.self in
    let i = c.loop-number.number-index in
    let lt = c.loop-number-test.true in
    let t = get_or numbers i 0 in
    let back : (xs : List ℕ) → c.if-not-contains.self ≡ xs → IsSameSearch xs (old ++ flat_map (entry table) (take (i + 1) numbers)) → IsSameSearch c.if-not-contains.self (old ++ flat_map (entry table) (take (i + 1) numbers)) =
    λ xs e h. subst (λ (zs : List ℕ). IsSameSearch zs (old ++ flat_map (entry table) (take (i + 1) numbers))) (sym e) h in
    elim c.if-not-contains.branch [
      | then-not-contains+then-index-table+in_ok-insert_all w ↦
          let read = w.as_slice.ensures ∙ sym (entry_read table t w.index-table-index.result w.if-index-table.true w.index-table-index.is) in
          back w.insert_all.new.self w.self-is (inserted_more table old numbers self w.insert_all.new.self i lt c.loop-number.invariant
          (same_along w.insert_all.new.self (self ++ w.as_slice.result.now) (self ++ entry table t) w.in_ok-insert_all.ensures (ap (λ (xs : List ℕ). self ++ xs) read)))
      | else-not-contains w ↦
          back self w.self-is (elim w.else-not-contains.branch [
            | else-not-contains-via-then-not-contains+else-index-table v ↦ inserted_none table old numbers self i lt c.loop-number.invariant v.if-index-table.false
            | else-not-contains-via-else-not-contains v ↦ inserted_before table old numbers self i c.requires.through c.requires.whole lt c.loop-number.invariant (sym v.if-not-contains.ensures)
          ])
    ]
