-- What is proved of needs of memory, over runs of the bytecode, ended or not.
use Rattle.std.specs.Prelude.{◌≡◌, ℕ, suc, ◌≤◌}
use Rattle.std.specs.declared.option.Option.{Option}
use Rattle.bytecode_model.specs.declared.Ending.TheVariants.{Raising}
use Rattle.bytecode_model.specs.State.{State}
use Rattle.bytecode_model.specs.Program.{Program, Limits}
use Rattle.bytecode_model.specs.Effects.{fault_object, OutOfMemoryError, StackOverflowError}
use Rattle.bytecode_model.specs.Steps.{run_from}
use Rattle.bytecode_typing.specs.Typed.{Typing}
use Rattle.method_flow.specs.Keeping.{BoundOf}
use Rattle.memory_rules.specs.Stack.{IsStackNeed}
use Rattle.memory_rules.specs.Heap.{IsHeapNeed}
use Rattle.memory_rules.specs.Given.{HaveLengths}
use Rattle.memory_laws.specs.Promises.{RunsFromBoot, StandsAtCall, StandsAtMaking, KeptSoFar}

-- with the words of the stack need for frames no invoke raises a StackOverflowError
abbrev pub StackNeedSuffices : Type 0
StackNeedSuffices =
    (P : Program) (types : Typing) (limits : Limits) (input : ℕ → Option ℕ) (boot : State) (need n : ℕ) → RunsFromBoot P types input boot
    → IsStackNeed P need → need ≤ limits.frames → StandsAtCall P (run_from P limits input boot n)
    → ¬ ((run_from P limits input boot (suc n)).mode ≡ Raising (fault_object StackOverflowError))

-- with the words of the heap need for objects no instruction raises an OutOfMemoryError, as long as the bounds and the lengths are kept
abbrev pub HeapNeedSuffices : Type 0
HeapNeedSuffices =
    (P : Program) (types : Typing) (limits : Limits) (bounds lengths : BoundOf) (input : ℕ → Option ℕ) (boot : State) (need n : ℕ)
    → RunsFromBoot P types input boot
    → HaveLengths P lengths → IsHeapNeed P bounds lengths P.boot need → need ≤ limits.heap
    → KeptSoFar P limits bounds lengths input boot n → StandsAtMaking P (run_from P limits input boot n)
    → ¬ ((run_from P limits input boot (suc n)).mode ≡ Raising (fault_object OutOfMemoryError))
