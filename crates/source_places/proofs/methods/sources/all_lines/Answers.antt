use Rattle.std.proofs.Common.{ℕ, Vec, Global, Option, Some, None, sym, ap, ◌∙◌}
use Rattle.source_places.proofs.MethodsLemmas.LineLemmas.{one_line, no_line}
use Rattle.source_places.proofs.methods.sources.all_lines.Goals as goal
use Rattle.source_places.proofs.methods.sources.all_lines.Goals.{in-Some+in_ok-push, in_default}

pub loop-line-preserved : goal.loop-line-preserved
loop-line-preserved c =
    let items = λ (v : Vec ℕ Global). v.items in
    let f = λ (line : Option ℕ). line in
    let lines = c.args.lines.now in
    let i = c.loop-line.line-index in
    let found = c.loop-line.found.items in
    elim c.match-line.branch [
      | in-Some+in_ok-push w ↦ one_line f lines i None found c.match-line.found.items c.loop-line-test.true c.loop-line.invariant w.from.result (ap items w.found-is ∙ w.in_ok-push.ensures.items) (w.in-Some.is ∙ ap Some (sym w.from.ensures))
      | in_default w ↦ no_line f lines i None found c.match-line.found.items c.loop-line-test.true c.loop-line.invariant (ap items w.found-is) w.in_default.is
    ]
