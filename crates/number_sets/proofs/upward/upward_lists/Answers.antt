use Rattle.std.proofs.Common.{◌+◌, ◌∷◌, List, ℕ, get_or, take, sym, ap, ap₂, ◌∙◌, subst, arith}
use Rattle.std.specs.List.{flat_map}
use Rattle.lists.specs.Numbers.{is_among}
use Rattle.number_sets.specs.Numbers.{entry, IsTransitive}
use Rattle.lists.proofs.Among.{among_at}
use Rattle.number_sets.proofs.UpwardLemmas.{built_through, built_more, falls_at, falls_apart, front_more, through_end}
use Rattle.lists.proofs.Tables.{entry_read, same_along}
use Rattle.number_sets.proofs.upward.upward_lists.Goals as goal

pub bounds-above-index : goal.bounds-above-index
bounds-above-index c = c.requires.peeled.below (get_or c.args.order.now c.loop-number.number-index 0) (among_at c.args.order.now c.loop-number.number-index c.loop-number-test.true)

pub upward_list-requires-clause-through : goal.upward_list-requires-clause-through
upward_list-requires-clause-through c =
    let above = c.args.above.now in
    let order = c.args.order.now in
    let i = c.loop-number.number-index in
    let n = get_or order i 0 in
    let lt = c.requires.peeled.below n (among_at order i c.loop-number-test.true) in
    let f = falls_at above order c.requires.peeled c.requires.all c.requires.few n lt in
    subst (λ (t : List (List ℕ)). IsTransitive t) (sym c.deref.ensures.value) (built_through above _ f (take i order) c.loop-number.table.items c.loop-number.invariant)

pub upward_list-requires-clause-apart : goal.upward_list-requires-clause-apart
upward_list-requires-clause-apart c =
    let above = c.args.above.now in
    let order = c.args.order.now in
    let i = c.loop-number.number-index in
    let n = get_or order i 0 in
    let lt = c.requires.peeled.below n (among_at order i c.loop-number-test.true) in
    let f = falls_at above order c.requires.peeled c.requires.all c.requires.few n lt in
    ap (λ (xs : List ℕ). is_among xs n) (c.as_slice.ensures ∙ sym (entry_read above n c.index-above-index.result lt c.index-above-index.is)) ∙ falls_apart above _ f n

pub index_mut-requires : goal.index_mut-requires
index_mut-requires c =
    let order = c.args.order.now in
    let i = c.loop-number.number-index in
    let lt = c.requires.peeled.below (get_or order i 0) (among_at order i c.loop-number-test.true) in
    let long = c.loop-number.invariant.long in
    omega (arith, lt, long)

pub loop-number-preserved : goal.loop-number-preserved
loop-number-preserved c =
    let above = c.args.above.now in
    let order = c.args.order.now in
    let i = c.loop-number.number-index in
    let n = get_or order i 0 in
    let lt = c.requires.peeled.below n (among_at order i c.loop-number-test.true) in
    let f = falls_at above order c.requires.peeled c.requires.all c.requires.few n lt in
    let read = c.as_slice.ensures ∙ sym (entry_read above n c.index-above-index.result lt c.index-above-index.is) in
    let table = c.loop-number.table.items in
    let list = c.in_ok-set.set in
    let same = same_along list (n ∷ flat_map (entry c.deref.result.now) c.as_slice.result.now) (n ∷ flat_map (entry table) (entry above n)) c.in_ok-set.ensures
    (ap₂ (λ (t : List (List ℕ)) (xs : List ℕ). n ∷ flat_map (entry t) xs) c.deref.ensures.value read) in
    built_more above _ f (take i order) table n list c.loop-number.invariant lt (λ d h. c.requires.peeled.ordered i d c.loop-number-test.true h) same (take (i + 1) order) (front_more order i c.loop-number-test.true)

pub returns-clause-through : goal.returns-clause-through
returns-clause-through c = through_end c.args.above.now c.args.order.now c.loop-number.table.items c.loop-number.number-index c.requires.peeled c.requires.all c.requires.few c.loop-number.invariant
