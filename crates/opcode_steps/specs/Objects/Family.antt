-- The opcodes of objects and types (JVM Specification SE 8, chapter 6).
use Rattle.std.specs.Prelude.{ℕ, Bool, ◌==◌, ◌||◌}

-- checkcast, instanceof
abbrev pub tests_types : ℕ → Bool
tests_types op = op == 192 || op == 193

-- monitorenter, monitorexit
abbrev pub is_monitor : ℕ → Bool
is_monitor op = op == 194 || op == 195

-- new, newarray, anewarray
abbrev pub allocates : ℕ → Bool
allocates op = op == 187 || op == 188 || op == 189
