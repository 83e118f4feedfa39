-- What is known of methods while prices are searched.
use Rattle.std.specs.Prelude.{◌≡◌, List, length, All}
use Rattle.bound_finder.specs.declared.known.Known.{Known}
use Rattle.bound_finder.specs.Known.{BoundSetting, IsLimited}

-- it has a row for each method of the program, and numbers past 64 bits count as 2^64
pub record IsTable (set : BoundSetting) (table : List Known) : Type 0 where
  pub long : length table ≡ length set.flow.methods
  pub limited : All IsLimited table
