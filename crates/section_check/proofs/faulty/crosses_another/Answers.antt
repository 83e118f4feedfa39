use Rattle.std.proofs.Common.{sym, ◌∙◌}
use Rattle.std.proofs.lemmas.List.{get_or_default}
use Rattle.section_check.specs.Placing.{IsEntryAt}
use Rattle.section_check.proofs.LeastLemmas.{one_more}
use Rattle.section_check.proofs.Sharing.{crossed_back, itself_uncrossed}
use Rattle.section_check.proofs.faulty.crosses_another.Goals as goal

pub loop-k-init : goal.loop-k-init
loop-k-init c = λ j m x lt at inner crossed.
    let ls = c.args.loops.now in
    let i = c.args.i in
    one_more i j (λ n. IsEntryAt ls n m → ⊥)
    (λ n early there. c.requires.earlier n m early there (record { other = x; among = (i, inner.0, inner.1); crossed = crossed_back x m crossed }))
    (λ here. itself_uncrossed x m (sym here.1 ∙ get_or_default ls i m x here.0 ∙ inner.1) crossed) lt at
