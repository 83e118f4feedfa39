-- The opcodes of devices.
use Rattle.std.specs.Prelude.{ℕ, Bool, ◌==◌, ◌||◌}

-- impdep1, impdep2
abbrev pub is_device : ℕ → Bool
is_device op = op == 254 || op == 255
