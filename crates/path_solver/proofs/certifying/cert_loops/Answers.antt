use Rattle.std.proofs.Common.{◌≡◌, ℕ, false, List, [], ◌∷◌, ◌++◌, get_or, take, sym, ap, ◌∙◌}
use Rattle.std.proofs.lemmas.List.{get_or_default}
use Rattle.loop_nest.specs.Nest.{NaturalLoop}
use Rattle.section_check.specs.Section.{CertifiedLoop}
use Rattle.path_solver.specs.Certifying.{certified}
use Rattle.path_solver.proofs.Certified.{made, certified_more}
use Rattle.path_solver.proofs.certifying.cert_loops.Goals as goal

pub loop-i-preserved : goal.loop-i-preserved
loop-i-preserved c =
    let ls = c.args.loops.now in
    let ws = c.args.iteration_costs.now in
    let i = c.loop-i.i in
    let lt = c.loop-i-test.true in
    let l = c.index-loops-i.result in
    let k = c.index-loops-i-in-loop-i.result in
    let w = get_or ws i 0 in
    let R : ℕ → List ℕ → CertifiedLoop = λ h xs. record { header = h; iteration_cost = w; members = xs; region = false } in
    let head : c.header.result ≡ (get_or ls i l).header = c.header.ensures ∙ ap (λ (z : NaturalLoop). z.header) (c.index-loops-i-in-loop-i.is ∙ get_or_default ls i k l lt) in
    let has : c.in_ok-members.members.items ≡ (get_or ls i l).members = c.in_ok-members.ensures.items ∙ c.members.ensures ∙ ap (λ (z : NaturalLoop). z.members) c.index-loops-i.is in
    let item : c.new.result ≡ made (get_or ls i l) w = c.new.ensures ∙ ap (λ (h : ℕ). R h c.in_ok-members.members.items) head ∙ ap (R (get_or ls i l).header) has in
    c.in_ok-push.ensures.items
    ∙ ap (λ (xs : List CertifiedLoop). xs ++ c.new.result ∷ []) c.loop-i.invariant
    ∙ ap (λ (z : CertifiedLoop). certified (take i ls) ws ++ z ∷ []) item
    ∙ sym (certified_more ls ws i l lt c.requires.iteration_costs)
