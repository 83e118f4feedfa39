use Rattle.std.proofs.Common.{ℕ, Contains}
use Rattle.bytecode_model.specs.Program.{Program}
use Rattle.method_flow.specs.Nodes.{At, IsEdge, IsReached}
use Rattle.loop_rules.specs.Further.Known.{Known}
use Rattle.known_ints.specs.Answers.{AreAnswersFor, IsSoFar, IsStop, IsToldAt}
use Rattle.known_ints.specs.Code.{IsCodeOf}
use Rattle.known_ints.proofs.answers.joined.Given as goal

abbrev pub invariant-loop-place : goal.invariant-loop-place
invariant-loop-place l =
    (P : Program) (known : Known) (m : ℕ) → IsCodeOf P known m l.q.code.now → AreAnswersFor P m l.q.code.now.parts l.q.found.now l.q.answers.now l.q.local
    → ((p : ℕ) → Contains l.places p → IsReached (IsEdge P m) (At p) × IsStop l.q p) → IsSoFar (IsToldAt P m l.q) l.places l.place-index l.number
