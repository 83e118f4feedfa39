-- The opcodes of calls, of returns and of raising (JVM Specification SE 8, 6.5).
use Rattle.std.specs.Prelude.{ℕ, Bool, ◌==◌, ◌||◌}

-- ireturn, lreturn, areturn, return; invokestatic
abbrev pub calls_or_returns : ℕ → Bool
calls_or_returns op = op == 172 || op == 173 || op == 176 || op == 177 || op == 184

-- invokevirtual, invokespecial, invokeinterface
abbrev pub calls_by_receiver : ℕ → Bool
calls_by_receiver op = op == 182 || op == 183 || op == 185

-- athrow
abbrev pub throws : ℕ → Bool
throws op = op == 191
