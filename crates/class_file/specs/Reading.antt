-- Reading the header of a class file from the front of bytes: what was read and the bytes behind it, or nothing.
use Rattle.std.specs.Prelude.{ℕ, ◌==◌, if◌then◌else◌, List, Option, Some, None}
use Rattle.base.specs.Reading.{◌>>=◌}
use Rattle.class_pool.specs.Reading.{number_in}

-- the minor and the major version behind the magic number
unfoldable pub header_in : List ℕ → Option ((ℕ × ℕ) × List ℕ)
header_in bytes = do
  magic ← number_in 4 bytes
  rest ← if magic.0 == 0xCAFEBABE then Some magic.1 else None
  minor ← number_in 2 rest
  major ← number_in 2 minor.1
  Some ((minor.0, major.0), major.1)
