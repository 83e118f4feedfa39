-- How many bits tell places apart.
use Rattle.std.specs.Prelude.{ℕ, ◌^◌, ◌≤◌}

-- So many bits tell so many places apart; no fewer do, but for at least one.
pub record TellsApart (bits places : ℕ) : Type 0 where
  pub some : 1 ≤ bits
  pub enough : places ≤ 2 ^ bits
  pub least : (fewer : ℕ) → 1 ≤ fewer → places ≤ 2 ^ fewer → bits ≤ fewer
