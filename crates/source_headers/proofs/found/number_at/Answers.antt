use Rattle.std.proofs.Common.{ℕ, ap}
use Rattle.loop_rules.specs.declared.found.FoundLoop.{FoundLoop}
use Rattle.source_headers.proofs.FoundLemmas.{none_here}
use Rattle.source_headers.proofs.found.number_at.Goals as goal
use Rattle.source_headers.proofs.found.number_at.Goals.{else-first-method-via-then-first-method+else-first-place, else-first-method-via-else-first-method}

pub returns-else-first-method : goal.returns-else-first-method
returns-else-first-method c =
    let d : FoundLoop = record { method = 0; place = 0; bound = 0 } in
    let left = c.args.left.now in
    let m = c.args.method in
    let p = c.args.place in
    elim c.else-first-method.branch [
      | else-first-method-via-then-first-method+else-first-place w ↦ none_here left m p d c.requires.rising c.requires.starts (λ e. w.if-first-place.false (ap (λ (z : ℕ × ℕ). z.1) e))
      | else-first-method-via-else-first-method w ↦ none_here left m p d c.requires.rising c.requires.starts (λ e. w.if-first-method.false (ap (λ (z : ℕ × ℕ). z.0) e))
    ]
