use Rattle.std.proofs.Common.{◌≡◌, ℕ, ◌+◌, true, false, List, get_or, sym, ap, ◌∙◌, subst}
use Rattle.std.proofs.lemmas.Bool.{both_ways}
use Rattle.path_solver.specs.Ordering.{AreStarts}
use Rattle.path_solver.proofs.CountingDown.{starts_none, starts_push, starts_skip}
use Rattle.path_solver.proofs.ordering.starts.Goals as goal
use Rattle.path_solver.proofs.ordering.starts.Goals.{then-listed-u+then-waiting-u-eq0+in_ok-push, else-listed-u, else-listed-u-via-then-listed-u+else-waiting-u-eq0, else-listed-u-via-else-listed-u}

pub loop-u-init : goal.loop-u-init
loop-u-init c = let P : List ℕ → Type 0 = λ us. AreStarts c.args.listed.now c.args.waiting.now 0 us in subst P (sym c.new-nodes.ensures.items) (starts_none c.args.listed.now c.args.waiting.now)

pub loop-u-preserved : goal.loop-u-preserved
loop-u-preserved c =
    let flags = c.args.listed.now in
    let w = c.args.waiting.now in
    let u = c.loop-u.u in
    let us = c.loop-u.nodes.items in
    let P : List ℕ → Type 0 = λ vs. AreStarts flags w (u + 1) vs in
    elim c.if-listed-u.branch [
      | then-listed-u+then-waiting-u-eq0+in_ok-push w' ↦
          subst P (sym (ap (λ v. v.items) w'.nodes-is ∙ w'.in_ok-push.ensures.items)) (starts_push flags w u us w'.if-listed-u.true w'.if-waiting-u-eq0.true c.loop-u.invariant)
      | else-listed-u w' ↦
          let off : get_or flags u false ≡ true → get_or w u 0 ≡ 0 → ⊥ =
          elim w'.else-listed-u.branch [
            | else-listed-u-via-then-listed-u+else-waiting-u-eq0 x ↦ λ a b. x.if-waiting-u-eq0.false b
            | else-listed-u-via-else-listed-u x ↦ λ a b. both_ways (get_or flags u false) x.if-listed-u.false a
          ] in
          subst P (sym (ap (λ v. v.items) w'.nodes-is)) (starts_skip flags w u us off c.loop-u.invariant)
    ]
