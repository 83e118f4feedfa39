-- The opcodes that compute, compare and jump (JVM Specification SE 8, 6.5).
use Rattle.std.specs.Prelude.{ℕ, Bool, ◌&&◌, ◌||◌, nat_le}
use Rattle.bytecode_model.specs.Supported.{is_supported}
use Rattle.machine_stands.specs.Simulates.{Simulates}

abbrev pub is_between : (low high : ℕ) → ℕ → Bool
is_between low high op = nat_le low op && nat_le op high

-- arithmetic, conversions, comparisons, branches, jumps and switches, as far as they are supported
abbrev pub computes_numbers : ℕ → Bool
computes_numbers op = is_supported op && (is_between 96 131 op || is_between 133 171 op || is_between 198 200 op)

abbrev pub NumbersAreComputed : Type 0
NumbersAreComputed = Simulates computes_numbers
