-- What follows of steps.
use Rattle.std.specs.Prelude.{ℕ, suc, ◌≡◌, ◌+◌, ◌≤◌, List, [], ◌∷◌, ◌++◌, length, reverse}
use Rattle.std.specs.declared.option.Option.{Option}
use Rattle.jop_core.specs.State.{MachineState, seen_of}
use Rattle.jop_core.specs.Scene.{Scene, begun, run, output_during, seen_during}
use Rattle.device_traits.specs.Told.{Told}
use Rattle.micro_sketch.specs.Step.{RanCycles}

-- cycles that follow others make one run with them
abbrev pub StepsAddUp : Type 0
StepsAddUp = (m n : ℕ) (old mid new : MachineState) (t0 t1 t2 : Told) (earlier later : List (Option ℕ))
    → RanCycles m old mid t0 t1 earlier → RanCycles n mid new t1 t2 later → RanCycles (m + n) old new t0 t2 (earlier ++ later)

-- a scene before which these bytes were put out
abbrev pub after_output : List ℕ → Scene → Scene
after_output before c = record c { output = c.output ++ before }

-- a scene whose input gives further answers behind its own
abbrev pub followed_by : List (Option ℕ) → Scene → Scene
followed_by more c = record c { answers = c.answers ++ more }

-- so many cycles take all answers of a scene and none behind them
abbrev pub UsesUp : ℕ → Scene → Type 0
UsesUp k c = (more : List (Option ℕ)) → (run k (followed_by more c)).answers ≡ more

-- Runs in parts: what they come to, what they put out and which states they hand over, and what was put out before them doesn't matter to them.
pub record AreRunLaws : Type 0 where
  pub run_adds : (m n : ℕ) (c : Scene) → run (m + n) c ≡ run n (run m c)
  pub run_after_output : (k : ℕ) (before : List ℕ) (c : Scene) → run k (after_output before c) ≡ after_output before (run k c)
  pub output_of_none : (c : Scene) → output_during 0 c ≡ []
  pub output_adds : (m n : ℕ) (c : Scene) → output_during (m + n) c ≡ output_during m c ++ output_during n (run m c)
  pub output_after_output : (k : ℕ) (before : List ℕ) (c : Scene) → output_during k (after_output before c) ≡ output_during k c
  pub seen_one_more : (k : ℕ) (c : Scene) → seen_during (suc k) c ≡ seen_during k c ++ seen_of (run k c).state ∷ []
  pub ran_none : (s : MachineState) (told : Told) → RanCycles 0 s s told told []
  pub ran_adds : StepsAddUp
  pub ran_ends : (n : ℕ) (old new : MachineState) (t0 t1 : Told) (answers : List (Option ℕ)) → RanCycles n old new t0 t1 answers
      → (run n (begun old answers)).state ≡ new
  -- answers behind those that a run takes don't matter to it
  pub answers_shrink : (k : ℕ) (c : Scene) → length (run k c).answers ≤ length c.answers
  pub run_followed : (i k : ℕ) (c : Scene) → UsesUp (i + k) c → (more : List (Option ℕ)) → run i (followed_by more c) ≡ followed_by more (run i c)
  pub output_followed : (i k : ℕ) (c : Scene) → UsesUp (i + k) c → (more : List (Option ℕ)) → output_during i (followed_by more c) ≡ output_during i c
  -- the output of a scene has the last byte first
  pub output_turned : (k : ℕ) (c : Scene) → (run k c).output ≡ reverse (output_during k c) ++ c.output
