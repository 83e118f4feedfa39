-- Worked examples of the rules, over the sample program of graphs of methods: method 1 returns, method 2 goes on for ever, method 3 invokes method 2
-- and returns, methods 4 and 5 invoke each other, and method 8 has no code.
use Rattle.std.specs.Prelude.{◌≡◌, ◌≢◌, ℕ, ◌+◌, ◌-◌, ◌*◌, ◌<◌, ◌≤◌, ◌^◌, ◌==◌, ◌&&◌, if◌then◌else◌, ℤ, pos, true, false, List, [], ◌∷◌, Option, Some, None}
use Rattle.micro_flow.specs.Costs.{IsGreatestInvoke}
use Rattle.certificates.specs.declared.lines.line.SectionKind.TheVariants.{Inside, Loops}
use Rattle.certificates.specs.declared.cert.CertSection.{CertSection}
use Rattle.certificates.specs.Certificate.{Certificate}
use Rattle.method_flow.specs.Nodes.{At, RaiseAt}
use Rattle.method_flow.specs.Keeping.{BoundOf}
use Rattle.method_flow.specs.Regions.{IsGreatestLoad}
use Rattle.method_flow.specs.Recursion.{IsRecursion}
use Rattle.method_flow.specs.declared.timing.Timing.{Timing}
use Rattle.method_flow.specs.Costs.{params, IsOwnCost}
use Rattle.method_flow.specs.Examples.{sample}
use Rattle.bound_rules.specs.declared.faults.CheckFault.TheVariants as faults
use Rattle.bound_rules.specs.declared.faults.BoundRefusal.TheVariants as refusals
use Rattle.bound_rules.specs.Costs.{greatest_of}
use Rattle.bound_rules.specs.Fitting.{header_bound, header_bounds}
use Rattle.bound_rules.specs.Numbers.{Numbers}
use Rattle.bound_rules.specs.Told.{Valued, value_in, with_cycles, within_limit, most_cycles}
use Rattle.bound_rules.specs.Sections.{MeetsSection}
use Rattle.bound_rules.specs.Conditions.{MeetsConditions}
use Rattle.bound_rules.specs.Refused.{SectionFails, IsCertRefused}
use Rattle.bound_rules.specs.Bounding.{BoundIsTooLarge, IsCause}

-- ---- what computes

-- a bound is given at place 3 of method 7
abbrev pub one_bound : BoundOf
one_bound m p = if m == 7 && p == 3 then Some 10 else None

abbrev pub values : List Valued
values =
    record { method = 1; inside = true; value = Some 20 } ∷ record { method = 2; inside = false; value = Some 30 }
    ∷ record { method = 2; inside = true; value = None }
    ∷ record { method = 1; inside = true; value = Some 50 } ∷ []

pub record Computed : Type 0 where
  -- a header is an instruction; an odd number is a raise step, and heads no loop
  pub given : header_bound one_bound 7 6 ≡ Some 10
  pub raise_step : header_bound one_bound 7 7 ≡ None
  pub not_given : header_bounds one_bound 7 (6 ∷ 8 ∷ []) ≡ 10 ∷ 0 ∷ []
  -- the first section of the method that is of the kind
  pub first_inside : value_in true 1 values ≡ Some (Some 20)
  pub never : value_in true 2 values ≡ Some None
  pub other_kind : value_in false 2 values ≡ Some (Some 30)
  pub absent : value_in false 1 values ≡ None
  -- with the loads, and within 64 bits with the cost of the invoke
  pub more : with_cycles 7 (Some (Some 30)) ≡ Some (Some 37)
  pub never_more : with_cycles 7 (Some None) ≡ Some None
  pub fits : within_limit 1 (Some (Some (2 ^ 64 - 2))) ≡ Some (Some (2 ^ 64 - 2))
  pub too_large : within_limit 2 (Some (Some (2 ^ 64 - 2))) ≡ None
  -- a target without a value counts for nothing beside one with a value
  pub greatest : greatest_of (λ t. if t == 1 then Some 20 else (if t == 2 then Some 30 else None)) (1 ∷ 2 ∷ 3 ∷ []) ≡ Some 30
  pub none : greatest_of (λ t. None) (1 ∷ 2 ∷ []) ≡ None

-- ---- sections

abbrev pub inside_section : (method : ℕ) → List (ℕ × ℤ) → CertSection
inside_section m nodes = record { kind = Inside; method = m; section = record { nodes = nodes; loops = [] } }

-- a section without calls, where c is what a return costs
pub record ReturnSection (t : Timing) (bound_of : BoundOf) (c : ℕ) : Type 0 where
  pub meets : MeetsSection sample t bound_of [] (inside_section 1 ((0, pos c) ∷ [])) (Some c)
  -- its exit isn't listed, or its potential is too low
  pub unlisted : SectionFails sample t bound_of [] (inside_section 1 []) (faults.Exit 1 0)
  pub too_low : (low : ℕ) → low < c → SectionFails sample t bound_of [] (inside_section 1 ((0, pos low) ∷ [])) (faults.Exit 1 0)
  -- a return has no raise step
  pub no_node : SectionFails sample t bound_of [] (inside_section 1 ((0, pos c) ∷ (1, pos c) ∷ [])) (faults.Member 1 1)
  -- a method without code
  pub no_code : SectionFails sample t bound_of [] (inside_section 8 []) (faults.Missing 8)

abbrev pub ReturnSections : Type 0
ReturnSections = (t : Timing) (bound_of : BoundOf) (c : ℕ) → IsOwnCost sample t 1 (At 0) c → c ≤ most_cycles → ReturnSection t bound_of c

-- the value of a section of method 2
abbrev pub one_value : Option ℕ → List Valued
one_value value = record { method = 2; inside = true; value = value } ∷ []

-- sections of method 3 behind it, where c is what the invoke costs by itself, r its raise step, and e the return behind it
pub record CallSection (t : Timing) (bound_of : BoundOf) (c r e : ℕ) : Type 0 where
  -- there is no section of method 2
  pub absent : SectionFails sample t bound_of [] (inside_section 3 []) (faults.Missing 2)
  -- it has no value, so that control leaves by the raise step alone
  pub never : MeetsSection sample t bound_of (one_value None) (inside_section 3 ((0, pos (c + r)) ∷ (1, pos r) ∷ [])) (Some (c + r))
  pub too_low : (low : ℕ) → low < c + r → SectionFails sample t bound_of (one_value None) (inside_section 3 ((0, pos low) ∷ (1, pos r) ∷ []))
      (faults.Edge 3 0 1)
  -- it has a value, which the invoke costs, too; control comes behind the invoke
  pub returns : (v : ℕ) → c + v + (r + e) ≤ most_cycles
      → MeetsSection sample t bound_of (one_value (Some v)) (inside_section 3 ((0, pos (c + v + (r + e))) ∷ (1, pos r) ∷ (6, pos e) ∷ []))
      (Some (c + v + (r + e)))

abbrev pub CallSections : Type 0
CallSections =
    (t : Timing) (bound_of : BoundOf) (c r e : ℕ) → IsOwnCost sample t 3 (At 0) c → IsOwnCost sample t 3 (RaiseAt 0) r → IsOwnCost sample t 3 (At 3) e
    → c + r ≤ most_cycles → CallSection t bound_of c r e

-- ---- regions

-- a machine whose method cache has 16 blocks of 64 words
abbrev pub timing : Timing
timing = record { read = 1; write = 2; blocks = 16; block_words = 64 }

-- the invoke of method 3 and its raise step as a region
abbrev pub region_section : (c r iteration_cost : ℕ) → CertSection
region_section c r iteration_cost = record {
  kind = Loops;
  method = 3;
  section = record {
    nodes = (0, pos (c + r)) ∷ (1, pos r) ∷ [];
    loops = record {
      header = 0;
      iteration_cost = iteration_cost;
      members = 0 ∷ 1
          ∷ [];
      region = true;
    } ∷ [];
  };
}

-- its entry, here the start, pays all iterations, and once the loads of the methods 3 and 2, of 7 cycles each; without a bound it is refused
pub record RegionSection (bound_of : BoundOf) (c r k : ℕ) : Type 0 where
  pub meets : (bound : ℕ) → bound_of 3 0 ≡ Some bound → c + r + (bound * k + 14) ≤ most_cycles
      → MeetsSection sample timing bound_of (one_value None) (region_section c r k) (Some (c + r + (bound * k + 14)))
  pub unbounded : bound_of 3 0 ≡ None → SectionFails sample timing bound_of (one_value None) (region_section c r k) (faults.Member 3 0)

abbrev pub RegionSections : Type 0
RegionSections = (bound_of : BoundOf) (c r k : ℕ) → IsOwnCost sample timing 3 (At 0) c → IsOwnCost sample timing 3 (RaiseAt 0) r → c + r ≤ most_cycles
    → RegionSection bound_of c r k

-- ---- certificates

-- of method 1, of which one section is given
abbrev pub return_certificate : (c : ℕ) → Option ℕ → Certificate
return_certificate c bound = record { version = 2; root = 1; sections = inside_section 1 ((0, pos c) ∷ []) ∷ []; bound = bound }

-- the last line is right where it is the dearest invoke i, the section's value c, the load of the method, and the greatest load
pub record ReturnCertificate (bound_of : BoundOf) (c i greatest : ℕ) : Type 0 where
  pub holds : MeetsConditions sample timing bound_of (return_certificate c (Some (i + (c + 7) + greatest)))
  pub wrong_line :
      (bound : Option ℕ) → bound ≢ Some (i + (c + 7) + greatest)
      → IsCertRefused sample timing bound_of (return_certificate c bound) (faults.Region 1)
  pub no_section : (bound : Option ℕ) → IsCertRefused sample timing bound_of (record { version = 2; root = 1; sections = []; bound = bound }) (faults.Missing 1)

abbrev pub ReturnCertificates : Type 0
ReturnCertificates =
    (bound_of : BoundOf) (c i greatest : ℕ) → IsOwnCost sample timing 1 (At 0) c → IsGreatestInvoke (params timing 0 0) i
    → IsGreatestLoad sample timing.read greatest → i + (c + 7) + greatest ≤ most_cycles
    → ReturnCertificate bound_of c i greatest

-- ---- refusals of bounds

pub record Refusals (t : Timing) (bound_of : BoundOf) : Type 0 where
  -- the method has no code; or it is the one that starts the program
  pub no_code : IsCause sample t bound_of (λ m. m ≡ 8) refusals.NoMethod
  pub starts : IsCause sample t bound_of (λ m. m ≡ 0) refusals.NoMethod
  pub recursion : IsRecursion sample 4 (4 ∷ 5 ∷ [])
  -- the loop of method 2 has no bound
  pub missing : bound_of 2 0 ≡ None → IsCause sample t bound_of (λ m. m ≡ 2) (refusals.MissingBound 2 0)
  pub too_large : (N : Numbers) → N.full 1 ≡ Some (2 ^ 64) → BoundIsTooLarge sample t bound_of 1 N 1
  -- only of methods that may run while the root does
  pub elsewhere : (N : Numbers) → ¬ BoundIsTooLarge sample t bound_of 1 N 2

abbrev pub RefusedBounds : Type 0
RefusedBounds = (t : Timing) (bound_of : BoundOf) → Refusals t bound_of

pub record WorkedExamples : Type 0 where
  pub computed : Computed
  pub return_sections : ReturnSections
  pub call_sections : CallSections
  pub region_sections : RegionSections
  pub return_certificates : ReturnCertificates
  pub refused_bounds : RefusedBounds
