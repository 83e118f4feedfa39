use Rattle.std.proofs.Common.{◌≡◌, ◌++◌, ℕ, List, map, drop, Some}
use Rattle.std.specs.Prelude.{slice_get}
use Rattle.class_pool.specs.declared.class.ClassFile.{ClassFile}
use Rattle.class_pool.specs.declared.class.Code.{Code}
use Rattle.frame_types.specs.declared.types.TypeFrame as frames
use Rattle.frame_types.specs.declared.types.VarType as names
use Rattle.frame_types.specs.Steps.{AreSteps}
use Rattle.verifier_types.specs.Locals.{HasListsOf}
use Rattle.bytecode_verifier.specs.Listed.{HasLocals, types_by}
use Rattle.bytecode_verifier.proofs.SteppedLemmas.{IsUpTo}
use Rattle.bytecode_verifier.proofs.names.placed_frames.Given as goal

abbrev pub invariant-loop-step : goal.invariant-loop-step
invariant-loop-step l =
    HasListsOf l.fn.lists l.lists × (map (λ x. x.0) l.found.items ++ map (λ s. s.place) (drop l.step-index l.steps) ≡ map (λ s. s.place) l.steps)
    × ((c : ClassFile) (k : Code) (locals : List names.VarType) (xs : List (ℕ × frames.TypeFrame)) → slice_get l.of.program.now l.of.class ≡ Some c → k.max_locals ≡ l.max_locals → HasLocals l.fn.lists l.fn.first (types_by l.of.program.now locals) → AreSteps c.pool k locals l.steps xs
    → IsUpTo l.of.program.now c.pool k l.lists l.current (drop l.step-index l.steps) l.found.items xs)
