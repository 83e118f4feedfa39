use Rattle.std.proofs.Common.{◌≡◌, List, ℕ, true, replicate, length, ap, ◌∙◌, subst, arith}
use Rattle.std.specs.List.{list_all, range_with_len}
use Rattle.class_pool.specs.declared.class.ClassFile.{ClassFile}
use Rattle.class_checks.specs.Marks.{AreKept}
use Rattle.class_checks.proofs.MarkLemmas.{passed, kept_next_class, all_marked}
use Rattle.class_checks.proofs.classes.implementing_classes.Goals as goal

pub loop-upper-preserved : goal.loop-upper-preserved
loop-upper-preserved c = kept_next_class c.args.classes.now c.loop-upper.upper _ _ _ c.loop-upper.invariant c.in_ok-mark_class.ensures

pub returns-clause-each : goal.returns-clause-each
returns-clause-each c =
    let cs = c.args.classes.now in
    let count = c.class_count-count.result in
    let marks = c.in_ok-marks.marks.items in
    let all : marks ≡ replicate count true = c.in_ok-marks.ensures.items_if_clones_equal (λ y h. h) in
    let many : count ≡ length cs = c.class_count-count.ensures ∙ ap (λ (ks : List ClassFile). length ks) c.classes.ensures in
    let end = c.loop-upper-test.false in
    let auto = c.loop-upper.auto.upper-end in
    let last : c.loop-upper.upper ≡ length cs = omega (arith, end, auto, many) in
    all_marked cs count marks c.loop-upper.marks.items all many
    (subst (λ (n : ℕ). AreKept (λ (k : ℕ). list_all (passed cs k) (range_with_len 0 n)) marks c.loop-upper.marks.items) last c.loop-upper.invariant)
