use Rattle.std.proofs.Common.{ℕ, ◌&&◌, List, ap, ◌∙◌}
use Rattle.class_lookup.specs.Hierarchy.{extends, is_among, is_concrete}
use Rattle.class_checks.proofs.MarkLemmas.{settled, kept_one_more}
use Rattle.class_checks.proofs.classes.mark_methods.Goals as goal

pub loop-index-preserved : goal.loop-index-preserved
loop-index-preserved c =
    let cs = c.args.classes.now in
    kept_one_more (λ k. is_concrete cs k && extends cs k c.args.upper) (is_among c.deref.result.now) (settled cs c.args.upper) c.loop-index.index c.args.marks.now.items c.loop-index.marks.items c.mark_method.new.marks.items
    (λ k. ap (λ (xs : List ℕ). is_among xs k) c.deref.ensures.value ∙ c.in_ok-lower.ensures k) c.loop-index.invariant c.in_ok-mark_method.ensures
