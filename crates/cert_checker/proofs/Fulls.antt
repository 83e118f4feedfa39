-- What is said of a method with all its loads, by the table.
use Rattle.std.proofs.Common.{◌≡◌, ℕ, ◌<◌, Bool, true, false, List, length, Option, Some, refl, sym, ap, ◌∙◌, subst, inl, inr, arith}
use Rattle.std.specs.Prelude.{slice_get}
use Rattle.std.proofs.lemmas.Option.{slice_get_cases}
use Rattle.bytecode_model.specs.Program.{Program}
use Rattle.method_flow.specs.Flow.{IsFlowOf}
use Rattle.method_flow.specs.Regions.{load}
use Rattle.node_costs.specs.Costs.{method_load}
use Rattle.node_costs.proofs.Loading.{load_of_method}
use Rattle.bound_rules.specs.Told.{Valued, value_in, with_cycles, SaysFull, SaysCalled}
use Rattle.bound_rules.specs.Told.SaysFull.{fits as full_fits, exceeds as full_exceeds}
use Rattle.cert_checker.specs.declared.task.Fit.{Fit}
use Rattle.cert_checker.specs.Setting.{CheckSetting, IsCheckSetting, IsFit, full_by, full_of, FullIsSaid}
use Rattle.cert_checker.specs.Setting.IsFit.{fits, exceeds}
use Rattle.cert_checker.specs.Telling.{called_by}

-- what stands within a list
pub entry_at : {X : Type 0} (xs : List X) (i : ℕ) → i < length xs → (x : X) × (slice_get xs i ≡ Some x)
entry_at xs i below =
    elim (slice_get_cases xs i).1 [
      | inl here ↦ (here.0, here.2)
      | inr past ↦ let le = past.0 in absurd (omega arith)
    ]

by_fit : (s : CheckSetting) (P : Program) (earlier : List Valued) (m : ℕ) (fit : Fit) → method_load s.timing.read s.flow.methods m ≡ load P s.timing.read m → IsFit P s.timing m fit
    → SaysFull P s.timing earlier m (full_by s earlier m (Some fit))
by_fit s P earlier m fit same (fits together is) = full_fits together (ap (λ (f : Fit). full_by s earlier m (Some f)) is)
by_fit s P earlier m fit same (exceeds alone is) =
    full_exceeds alone (ap (λ (f : Fit). full_by s earlier m (Some f)) is ∙ ap (λ (n : ℕ). with_cycles n (value_in false m earlier)) same)

pub full_is_said : FullIsSaid
full_is_said s P earlier m set of below =
    let long = set.fits.long in
    let fit = entry_at s.fits m (omega arith) in
    let S : Option Fit → Type 0 = λ o. SaysFull P s.timing earlier m (full_by s earlier m o) in
    subst S (sym fit.1) (by_fit s P earlier m fit.0 (load_of_method s.flow s.timing.read P of m below) (set.fits.each P of m fit.0 fit.1))

-- what is said of it where another method calls it
pub called_is_said : (s : CheckSetting) (P : Program) (earlier : List Valued) (without_loads : Bool) (m x : ℕ) → IsCheckSetting s → IsFlowOf P s.flow → m < length s.flow.methods → x < length s.flow.methods
    → SaysCalled P s.timing earlier without_loads m x (called_by s earlier without_loads m x)
called_is_said s P earlier true m x set of caller target = refl
called_is_said s P earlier false m x set of caller target =
    (full_of s earlier x, full_is_said s P earlier x set of target, ap (λ (n : ℕ). with_cycles n (full_of s earlier x)) (load_of_method s.flow s.timing.read P of m caller))
