use Rattle.std.proofs.Common.{subst, sym, List, ℕ}
use Rattle.ascii_text.specs.Line.{AreLines}
use Rattle.ascii_text.proofs.LineLemmas.{AreLines-lines_of}
use Rattle.ascii_text.proofs.lines.Goals as goal

pub returns-clause-pieces : goal.returns-clause-pieces
returns-clause-pieces c = subst (λ (ls : List (List ℕ)). AreLines c.args.text.now ls) (sym c.new.ensures) (AreLines-lines_of c.args.text.now)
