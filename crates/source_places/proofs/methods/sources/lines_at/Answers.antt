use Rattle.std.proofs.Common.{ℕ, Vec, Global, sym, ap, ◌∙◌}
use Rattle.source_places.specs.Methods.Told.{line_at}
use Rattle.source_places.proofs.MethodsLemmas.LineLemmas.{one_line, no_line}
use Rattle.source_places.proofs.methods.sources.lines_at.Goals as goal
use Rattle.source_places.proofs.methods.sources.lines_at.Goals.{in-Some+in_ok-push, in_default}

pub loop-place-preserved : goal.loop-place-preserved
loop-place-preserved c =
    let items = λ (v : Vec ℕ Global). v.items in
    let f = line_at c.args.lines.now in
    let places = c.args.places.now in
    let i = c.loop-place.place-index in
    let found = c.loop-place.found.items in
    elim c.match-line_at.branch [
      | in-Some+in_ok-push w ↦
          one_line f places i 0 found c.match-line_at.found.items c.loop-place-test.true c.loop-place.invariant w.in-Some.line (ap items w.found-is ∙ w.in_ok-push.ensures.items) (sym c.line_at.ensures ∙ w.in-Some.is)
      | in_default w ↦ no_line f places i 0 found c.match-line_at.found.items c.loop-place-test.true c.loop-place.invariant (ap items w.found-is) (sym c.line_at.ensures ∙ w.in_default.is)
    ]
