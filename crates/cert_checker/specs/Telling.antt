-- What the invokes of a section are told, by the tables that the check holds.
use Rattle.std.specs.Prelude.{◌≡◌, ◌≢◌, ◌↔◌, ℕ, ◌*◌, ◌<◌, Bool, true, false, ◌||◌, List, length, max, Contains, Option, Some, None, slice_get, slice_index}
use Rattle.std.specs.Prelude.{slice_index_or, unwrap_or}
use Rattle.std.specs.Option.{option_or}
use Rattle.section_check.specs.Bounded.{holds}
use Rattle.section_check.specs.Least.{IsLeast}
use Rattle.certificates.specs.declared.cert.CertSection.{CertSection}
use Rattle.method_flow.specs.declared.flow.Call.{Call}
use Rattle.method_flow.specs.Flow.{Coded, Flow, targets_of_call}
use Rattle.node_costs.specs.Costs.{method_load}
use Rattle.bound_rules.specs.Costs.{greatest_of}
use Rattle.bound_rules.specs.Told.{Value, Valued, TargetValues, value_in, with_cycles, within_limit, is_in_region, is_without_loads}
use Rattle.cert_checker.specs.Setting.{CheckSetting, full_of}
use Rattle.cert_checker.specs.declared.telling.Teller.{Teller}
use Rattle.cert_checker.specs.declared.summaries.Summary.{Summary}

-- ---- one call

-- what is said of the method x where m calls it
abbrev pub called_by : CheckSetting → List Valued → (without_loads : Bool) → (caller target : ℕ) → Option Value
called_by s earlier true m x = value_in true x earlier
called_by s earlier false m x = with_cycles (method_load s.timing.read s.flow.methods m) (full_of s earlier x)

-- what the invoke at a place of the section is told, where these are the own costs of the method's nodes
abbrev pub told_by : CheckSetting → List Valued → CertSection → (own : List ℕ) → TargetValues
told_by set earlier s own p x = within_limit (slice_index own (2 * p)) (called_by set earlier (is_without_loads s p) s.method x)

-- the same by the tables that are at hand
abbrev pub told : Teller → TargetValues
told t = told_by t.task.now t.values.now.valued t.section.now t.own.now

-- ---- the targets of a call

-- Of the targets of a call, by what the call is told of each: the least that is absent, whether one isn't told never, and the greatest of the numbers.
pub record IsSummary (told : (target : ℕ) → Option Value) (targets : List ℕ) (s : Summary) : Type 0 where
  pub absent : IsLeast (λ x. Contains targets x × (told x ≡ None)) s.absent
  pub goes_on : (s.goes_on ≡ true) ↔ ((x : ℕ) × Contains targets x × (told x ≢ Some None))
  pub added : s.added ≡ unwrap_or (greatest_of (λ x. unwrap_or (told x) None) targets) 0

-- with what is told of one target more, which is above the others
abbrev pub summary_with : Summary → (target : ℕ) → Option Value → Summary
summary_with s x (Some (Some n)) = record { absent = s.absent; goes_on = true; added = max s.added n }
summary_with s x (Some None) = s
summary_with s x None = record { absent = option_or s.absent (Some x); goes_on = true; added = s.added }

-- those of each call of a method
pub record AreSummaries (told : TargetValues) (f : Flow) (calls : List Call) (summaries : List Summary) : Type 0 where
  pub long : length summaries ≡ length calls
  pub each : (i : ℕ) (c : Call) (s : Summary) → slice_get calls i ≡ Some c → slice_get summaries i ≡ Some s → IsSummary (told c.place) (targets_of_call f c) s

-- ---- the tables

-- for each node of a method whether a region of the section has it
pub record AreRegions (s : CertSection) (size : ℕ) (flags : List Bool) : Type 0 where
  pub long : length flags ≡ size
  pub each : (u : ℕ) → u < size → slice_index_or flags u false ≡ is_in_region s.section.loops u

-- the tables are those of the section's method, which is one of the program
pub record IsTeller (t : Teller) : Type 0 where
  pub method : Coded
  pub is : slice_get t.task.now.flow.methods t.section.now.method ≡ Some method
  pub values : t.values.now.methods ≡ length t.task.now.flow.methods
  pub own : length t.own.now ≡ 2 * length method.code
  pub regions : AreRegions t.section.now (2 * length method.code) t.regions.now

-- flags, once the nodes of a list are flagged
pub record AreFlagged (us : List ℕ) (old new : List Bool) : Type 0 where
  pub long : length new ≡ length old
  pub each : (u : ℕ) → u < length old → slice_index_or new u false ≡ (slice_index_or old u false || holds us u)
