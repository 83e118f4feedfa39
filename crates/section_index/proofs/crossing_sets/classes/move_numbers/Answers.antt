use Rattle.std.proofs.Common.{◌≡◌, ◌≢◌, ℕ, ◌+◌, ◌<◌, get_or, length, arith, ap}
use Rattle.std.proofs.lemmas.List.Elements.{All-get_or, Contains-get_or}
use Rattle.lists.specs.Members.{rising_apart}
use Rattle.section_index.specs.Classes.{class_of}
use Rattle.section_index.proofs.Moving.{moved_none, not_yet, moved_more, moved_all}
use Rattle.section_index.proofs.crossing_sets.classes.move_numbers.Goals as goal

pub loop-i-init : goal.loop-i-init
loop-i-init c = moved_none c.args.set.now c.args.places.now c.args.base c.args.class.now

pub overflow_add-class : goal.overflow_add-class
overflow_add-class c =
    let xs = c.args.set.now in
    let i = c.loop-i.i in
    let lt = c.loop-i-test.true in
    let same : class_of c.loop-i.class (get_or xs i 0) ≡ class_of c.args.class.now (get_or xs i 0) = not_yet xs c.args.places.now c.args.base c.args.class.now c.loop-i.class i (λ j less. rising_apart xs c.requires.rising j i less lt) c.loop-i.invariant in
    let place = c.requires.places (get_or xs i 0) (Contains-get_or xs i 0 lt) in
    let low = place.below in
    let at : get_or c.args.places.now (class_of c.loop-i.class (get_or xs i 0)) 0 ≡ get_or c.args.places.now (class_of c.args.class.now (get_or xs i 0)) 0 = ap (λ k. get_or c.args.places.now k 0) same in
    let room = c.requires.room in
    omega arith

pub loop-i-preserved : goal.loop-i-preserved
loop-i-preserved c =
    let xs = c.args.set.now in
    let places = c.args.places.now in
    let base = c.args.base in
    let i = c.loop-i.i in
    let lt = c.loop-i-test.true in
    let apart : (j : ℕ) → j < i → get_or xs j 0 ≢ get_or xs i 0 = λ j less. rising_apart xs c.requires.rising j i less lt in
    let same : class_of c.loop-i.class (get_or xs i 0) ≡ class_of c.args.class.now (get_or xs i 0) = not_yet xs places base c.args.class.now c.loop-i.class i apart c.loop-i.invariant in
    moved_more xs places base c.args.class.now c.loop-i.class i (base + get_or places (class_of c.loop-i.class (get_or xs i 0)) 0) (All-get_or (λ x. x < length c.args.class.now) xs i 0 lt c.requires.numbers) apart
    (ap (λ k. base + get_or places k 0) same) c.loop-i.invariant

pub returns : goal.returns
returns c =
    let end = c.loop-i-test.false in
    let top = c.loop-i.auto.i-end in
    moved_all c.args.set.now c.args.places.now c.args.base c.args.class.now c.loop-i.class c.loop-i.i (omega arith) (omega arith) c.loop-i.invariant
