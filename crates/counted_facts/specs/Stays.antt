-- How often a loop that counts goes on behind its test, as is read off the code.
use Rattle.std.specs.Prelude.{◌≡◌, ◌≢◌, ℕ, ℤ}
use Rattle.bytecode_model.specs.Program.{Program}
use Rattle.loop_nest.specs.Digraph.{Digraph, Edge}
use Rattle.loop_nest.specs.Walks.{IsMember}
use Rattle.method_flow.specs.Nodes.{At, number_of, IsAtOffset}
use Rattle.loop_rules.specs.Tests.{Pushing}
use Rattle.loop_rules.specs.Counted.{CountsBy}
use Rattle.loop_rules.specs.Further.Known.{Known, Pushes}
use Rattle.loop_rules.specs.Further.Beginning.{BeginsAt}

-- where the test at the place p leads when the loop of h goes on
pub data GoesOnAt (g : Digraph) (h p next : ℕ) (offset : ℤ) : ℕ → Type 0 where
  behind : {q : ℕ} → IsAtOffset p offset q → ¬ IsMember g h (number_of (At q)) → IsMember g h (number_of (At next)) → GoesOnAt g h p next offset next
  taken : {q : ℕ} → IsAtOffset p offset q → IsMember g h (number_of (At q)) → ¬ IsMember g h (number_of (At next)) → GoesOnAt g h p next offset q

-- The loop counts to n, and where its test lets it go on, control comes to the place y, to which it comes in no other way.
pub record StaysBy (P : Program) (Limit : Pushing) (Start : (local : ℕ) → ℤ → Type 0) (m : ℕ) (g : Digraph) (h n y : ℕ) : Type 0 where
  pub counts : CountsBy P Limit Start m g h n
  pub place : GoesOnAt g (number_of (At h)) counts.test counts.behind_test counts.offset y
  pub other : number_of (At y) ≢ number_of (At h)
  pub alone : (u : ℕ) → Edge g u (number_of (At y)) → u ≡ number_of (At counts.test)

-- with what is known further; with constants alone where arrays of fields aren't known
abbrev pub StaysFurther : Program → Known → (method : ℕ) → Digraph → (header n place : ℕ) → Type 0
StaysFurther P known m g h n y = StaysBy P (Pushes P known m) (BeginsAt P known m g (number_of (At h))) m g h n y
