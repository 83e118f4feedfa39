-- The opcodes of which it is shown that their microcode does the step of the bytecode: all that programs may have.
use Rattle.std.specs.Prelude.{ℕ, Bool, ◌||◌}
use Rattle.opcode_steps.specs.Values.Family.{moves_values}
use Rattle.opcode_steps.specs.Numbers.Laws.{computes_numbers}
use Rattle.call_steps.specs.Family.{calls_by_receiver, calls_or_returns, throws}
use Rattle.opcode_steps.specs.Devices.Family.{is_device}
use Rattle.opcode_steps.specs.Heap.Family.{is_of_array, is_of_field}
use Rattle.opcode_steps.specs.Objects.Family.{allocates, is_monitor, tests_types}

unfoldable pub is_built : ℕ → Bool
is_built op =
    moves_values op || computes_numbers op || calls_or_returns op || calls_by_receiver op || throws op || is_device op || is_of_field op || is_of_array op
    || allocates op || tests_types op || is_monitor op
