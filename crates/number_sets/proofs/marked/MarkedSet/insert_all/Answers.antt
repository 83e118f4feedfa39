use Rattle.std.proofs.Common.{◌≡◌, ◌+◌, ◌++◌, List, ℕ, take, sym, subst}
use Rattle.number_sets.specs.Numbers.{IsSameSearch}
use Rattle.number_sets.proofs.Inserting.{search_more}
use Rattle.number_sets.proofs.MarkLemmas.{search_same}
use Rattle.number_sets.proofs.marked.MarkedSet.insert_all.Goals as goal
use Rattle.number_sets.proofs.marked.MarkedSet.insert_all.Goals.{then-not-contains+in_ok-insert, else-not-contains}

pub loop-number-preserved : goal.loop-number-preserved
loop-number-preserved c =
    let old = c.args.self.now in
    let numbers = c.args.numbers.now in
    let self = c.loop-number.self in
    let i = c.loop-number.number-index in
    let lt = c.loop-number-test.true in
    let back : (xs : List ℕ) → c.if-not-contains.self ≡ xs → IsSameSearch xs (old ++ take (i + 1) numbers) → IsSameSearch c.if-not-contains.self (old ++ take (i + 1) numbers) =
    λ xs e h. subst (λ (zs : List ℕ). IsSameSearch zs (old ++ take (i + 1) numbers)) (sym e) h in
    elim c.if-not-contains.branch [
      | then-not-contains+in_ok-insert w ↦ back w.insert.new.self w.self-is (search_more old numbers self w.insert.new.self i lt c.loop-number.invariant w.in_ok-insert.ensures)
      | else-not-contains w ↦ back self w.self-is (search_same old numbers self i lt c.loop-number.invariant (sym w.if-not-contains.ensures))
    ]
