use Rattle.std.proofs.Common.{◌≡◌, ℕ, ◌+◌, ◌<◌, List, length, Contains, Option, Some, sym, ap, ◌∙◌, subst, arith}
use Rattle.std.proofs.lemmas.List.Elements.{All-contains}
use Rattle.section_index.specs.Crossing.{IsLeast}
use Rattle.section_index.specs.Splitting.{IsSplitBelow, AreClasses}
use Rattle.section_index.proofs.Sweeping.{split_none, split_one, classes_kept, classes_split}
use Rattle.section_index.proofs.crossing_sets.splitting.least_split.Goals as goal
use Rattle.section_index.proofs.crossing_sets.splitting.least_split.Goals.{then-not-has_together, else-not-has_together, then-i-last+in_ok-split, else-i-last}

pub loop-p-preserved : goal.loop-p-preserved
loop-p-preserved c =
    let ss = c.args.family.now.sets in
    let order = c.args.order.now in
    let last = c.args.last in
    let size = c.args.family.now.size in
    let p = c.loop-p.p in
    let xs = c.set-set.result.now in
    let is = c.set-set.ensures.numbers in
    let inside : (x : ℕ) → Contains xs x → x < size = λ x has. All-contains (λ z. z < size) xs x c.set-set.ensures.below has in
    let h = c.loop-p.invariant.classes in
    let l = c.loop-p.invariant.least in
    let P : List ℕ → Type 0 = λ cs. AreClasses ss order last (p + 1) size cs in
    let Q : Option ℕ → Type 0 = λ o. IsLeast (IsSplitBelow ss order last (p + 1)) o in
    record {
      classes =
          elim c.if-i-last.branch [
            | then-i-last+in_ok-split w ↦ subst P (sym w.classes-is) (classes_split ss order last size c.loop-p.classes w.split.new.self xs p w.if-i-last.true is w.in_ok-split.ensures h)
            | else-i-last w ↦ subst P (sym w.classes-is) (classes_kept ss order last size c.loop-p.classes p w.if-i-last.false h)
          ];
      least =
          elim c.if-not-has_together.branch [
            | then-not-has_together w ↦ subst Q (sym (w.least-is ∙ ap (λ (k : ℕ). Some k) w.lesser.ensures)) (split_one ss order last size c.loop-p.classes xs p c.loop-p.least is inside w.if-not-has_together.ensures h l)
            | else-not-has_together w ↦ subst Q (sym w.least-is) (split_none ss order last size c.loop-p.classes xs p c.loop-p.least is inside w.if-not-has_together.ensures h l)
          ];
    }

pub returns : goal.returns
returns c =
    let ss = c.args.family.now.sets in
    let order = c.args.order.now in
    let end = c.loop-p-test.false in
    let top = c.loop-p.auto.p-end in
    let e : c.loop-p.p ≡ length order = omega arith in
    let P : ℕ → Type 0 = λ p. IsLeast (IsSplitBelow ss order c.args.last p) c.loop-p.least in
    subst P e c.loop-p.invariant.least
