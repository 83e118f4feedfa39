use Rattle.std.proofs.Common.{ℕ, ◌<◌, List, length, get_or, sym, subst}
use Rattle.class_checks.proofs.MarkLemmas.{left_at}
use Rattle.class_checks.proofs.marks.mark_method.Goals as goal

pub select_each-requires : goal.select_each-requires
select_each-requires c = λ i.
    subst (λ (xs : List ℕ). i < length xs → get_or xs i 0 < length c.args.classes.now) (sym c.deref-2.ensures.value)
    (left_at c.args.lower.now c.in_ok-left.left.items c.deref.result.now (length c.args.classes.now) c.in_ok-left.ensures c.requires.below i)
