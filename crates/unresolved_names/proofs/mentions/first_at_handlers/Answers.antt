use Rattle.std.proofs.Common.{ℕ, get_or, refl, sym}
use Rattle.lists.proofs.FirstLemmas.{found_here}
use Rattle.unresolved_names.specs.Causes.{refused_catch}
use Rattle.unresolved_names.proofs.mentions.first_at_handlers.Goals as goal

pub returns-in-Some : goal.returns-in-Some
returns-in-Some c =
    let namer = c.args.namer.now in
    let xs = c.args.handlers.now in
    let i = c.loop-handler.handler-index in
    sym (found_here (λ (h : ℕ × ℕ × ℕ × ℕ). refused_catch namer.texts.now namer.number namer.class.now h.3) xs i (get_or xs i (0, 0, 0, 0)) (0, 0, 0, 0) c.in-Some.found c.loop-handler-test.true refl c.loop-handler.invariant (sym c.in-Some.ensures))
