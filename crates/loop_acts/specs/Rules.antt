-- By which rules loops count: with which limits, and beginning with what.
use Rattle.std.specs.Prelude.{ℕ, ℤ}
use Rattle.bytecode_model.specs.Program.{Program}
use Rattle.loop_nest.specs.Digraph.{Digraph}
use Rattle.method_flow.specs.Nodes.{At, number_of}
use Rattle.code_lines.specs.Lines.{IsPushedBefore}
use Rattle.loop_rules.specs.Further.Known.{Known, Pushes}
use Rattle.loop_rules.specs.Further.Beginning.{BeginsAt}
use Rattle.loop_rules.specs.Further.Found.{IsFollowing}
use Rattle.loop_rules.specs.Tests.{Constants, Pushing, PushesLimit}
use Rattle.loop_rules.specs.Iterations.{IsSetBefore}

-- of each method which lines push a limit, which int the instruction at a place stores, and with what a local variable begins in a loop
pub record Rules : Type 1 where
  pub limit : (method : ℕ) → Pushing
  pub stored : (method place : ℕ) → ℤ → Type 0
  pub begins : (method : ℕ) → Digraph → (header local : ℕ) → ℤ → Type 0

-- a limit of one line, and a constant that is stored on the one way in
abbrev pub plain : Program → Constants → Rules
plain P constants = record { limit = PushesLimit P constants; stored = IsPushedBefore P; begins = λ m g h. IsSetBefore P m g (number_of (At h)) }

-- limits and first values that are known, by one line or by several, by whichever edge the loop is entered
abbrev pub further : Program → Known → Rules
further P known = record {
  limit = λ m from to c. IsFollowing P m to × Pushes P known m from to c;
  stored = λ m p c. IsFollowing P m p × (from : ℕ) × Pushes P known m from p c;
  begins = λ m g h. BeginsAt P known m g (number_of (At h));
}

-- what is given of fields, and by which rules loops count with it
pub data Given : Type 0 where
  plainly : Constants → Given
  further_on : Known → Given

abbrev pub rules_by : Program → Given → Rules
rules_by P (plainly constants) = plain P constants
rules_by P (further_on known) = further P known
