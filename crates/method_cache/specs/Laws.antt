-- What the methods that fit are, in words that don't compute them.
use Rattle.std.specs.Prelude.{◌≡◌, ℕ, ◌≤◌, List, length, take}
use Rattle.method_cache.specs.Contents.{Entry, total_blocks, fitting}

-- `kept` is the longest prefix of `all` whose blocks sum to at most `room`
pub record IsLongestFitting (w room : ℕ) (all kept : List Entry) : Type 0 where
  pub prefix : kept ≡ take (length kept) all
  pub fits : total_blocks w kept ≤ room
  pub longest : (k : ℕ) → k ≤ length all → total_blocks w (take k all) ≤ room → k ≤ length kept

abbrev pub FittingIsLongest : Type 0
FittingIsLongest = (w room : ℕ) (all : List Entry) → IsLongestFitting w room all (fitting w room all)
