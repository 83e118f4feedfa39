-- How the times of methods are added up, callers first.
use Rattle.std.specs.Prelude.{◌≡◌, ℕ, ◌+◌, ◌*◌, ◌^◌, ◌<◌, ◌==◌, if◌then◌else◌, Bool, true, List, [], ◌∷◌, ◌++◌, length, reverse, filter, All}
use Rattle.std.specs.Prelude.{Contains, Option, Some, None, is_some}
use Rattle.std.specs.Prelude.{slice_index}
use Rattle.method_cache.specs.Regions.Region.{AreDistinct}
use Rattle.bytecode_model.specs.Program.{Program}
use Rattle.method_flow.specs.Keeping.{BoundOf}
use Rattle.method_flow.specs.Recursion.{MayCall}
use Rattle.method_flow.specs.declared.timing.Timing.{Timing}
use Rattle.bound_finder.specs.declared.known.Known.{Known}
use Rattle.bound_finder.specs.Known.{BoundSetting, known_at}
use Rattle.bound_finder.specs.Laws.{numbers_by}
use Rattle.bound_report.specs.declared.counts.NodeCount.{NodeCount}
use Rattle.bound_report.specs.declared.counts.MethodCounts.{MethodCounts}
use Rattle.bound_report.specs.Counts.{AreCountsOf}
use Rattle.bound_report.specs.Times.{calls_of, methods_of, AreTimes, AreOrdered}
use Rattle.bound_report.specs.Settled.{asked_in, IsSettledAt, IsCountOf}

-- ---- methods

abbrev pub has_number : List Known → ℕ → Bool
has_number table m = is_some (known_at table m).asked

-- those of the methods of an order that have a number, in the other direction
abbrev pub callers_of : List Known → (order : List ℕ) → List ℕ
callers_of table order = filter (has_number table) (reverse order)

-- ---- times

-- so much is added at the target, where it is within 128 bits
abbrev pub more_at : Option ℕ → (more method : ℕ) → ℕ
more_at None more x = 0
more_at (Some y) more x = if y == x then more else 0

pub record AreMoreAt (old : List ℕ) (target : Option ℕ) (more : ℕ) (new : List ℕ) : Type 0 where
  pub long : length new ≡ length old
  pub each : (x : ℕ) → x < length old → slice_index old x + more_at target more x < 2 ^ 128 → slice_index new x ≡ slice_index old x + more_at target more x

-- what these nodes call is added, so many times
pub record AreTimesAdded (old : List ℕ) (count : ℕ) (nodes : List NodeCount) (new : List ℕ) : Type 0 where
  pub long : length new ≡ length old
  pub each : (x : ℕ) → x < length old → slice_index old x + count * calls_of x nodes < 2 ^ 128
      → slice_index new x ≡ slice_index old x + count * calls_of x nodes

-- the root counts once
pub record AreRootTimes (count root : ℕ) (times : List ℕ) : Type 0 where
  pub long : length times ≡ count
  pub each : (x : ℕ) → x < count → slice_index times x ≡ (if x == root then 1 else 0)

-- the counts of one method more
pub record AddsCount (set : BoundSetting) (table : List Known) (m : ℕ) (times : List ℕ) (counted : List MethodCounts)
    (times' : List ℕ) (counted' : List MethodCounts) : Type 0 where
  pub counts : MethodCounts
  pub are : IsCountOf set table m (slice_index times m) counts
  pub added : counted' ≡ counted ++ counts ∷ []
  pub times_added : AreTimesAdded times counts.times counts.nodes.items times'

-- ---- all

-- each of these methods stands before what it may call, and each is settled and has a number
pub record AreSettled (P : Program) (t : Timing) (bound_of : BoundOf) (table : List Known) (root : ℕ) (methods : List ℕ) : Type 0 where
  pub each : (m : ℕ) → Contains methods m → IsSettledAt P t bound_of table m
  pub distinct : AreDistinct methods
  pub rooted : Contains methods root
  pub before : (ms : List ℕ) (m : ℕ) (behind : List ℕ) → methods ≡ ms ++ m ∷ behind → (x : ℕ) → MayCall P m x → has_number table x ≡ true → Contains behind x

-- the counts of these methods, with how often the number of each counts
pub record AreCountsOfAll (P : Program) (t : Timing) (bound_of : BoundOf) (table : List Known) (root : ℕ) (methods : List ℕ)
    (ks : List MethodCounts) : Type 0 where
  pub each : All (AreCountsOf P t bound_of (numbers_by table) (asked_in table)) ks
  pub methods_are : methods_of ks ≡ methods
  pub ordered : AreOrdered ks []
  pub times : AreTimes root [] ks
