use Rattle.std.proofs.Common.{◌≡◌, ℕ, false, cond, List, [], ◌∷◌, ◌++◌, get_or, take, sym, ap, ◌∙◌, arith, add-one}
use Rattle.path_solver.specs.Regions.{charged}
use Rattle.compact_walks.proofs.Charged.{charged_more}
use Rattle.bound_report.proofs.walks.fees.Goals as goal

pub loop-i-preserved : goal.loop-i-preserved
loop-i-preserved c =
    let i = c.loop-i.i in
    let ls = c.args.loads.now in
    let rs = c.args.flags.now in
    let long = c.requires in
    let shown : c.loop-i.fees.items ≡ charged (take i ls) (take i rs) = c.loop-i.invariant in
    let value : c.fee.result ≡ cond (get_or rs i false) (get_or ls i 0) 0 = c.fee.ensures in
    c.in_ok-push.ensures.items ∙ ap (λ (zs : List ℕ). zs ++ c.fee.result ∷ []) shown ∙ ap (λ (n : ℕ). charged (take i ls) (take i rs) ++ n ∷ []) value
    ∙ charged_more ls rs i c.loop-i-test.true (omega arith)
    ∙ ap (λ (k : ℕ). charged (take k ls) (take k rs)) (sym (add-one i))
