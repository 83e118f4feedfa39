-- What the sections of a certificate say of methods, and what they tell the invokes of later sections.
use Rattle.std.specs.Prelude.{◌≡◌, ℕ, ◌+◌, ◌*◌, ◌-◌, ◌^◌, nat_le, Bool, true, false, not, ◌&&◌, ◌||◌, ◌==◌, if◌then◌else◌, List, [], ◌∷◌, Option, Some, None}
use Rattle.std.specs.Prelude.{option_map}
use Rattle.std.specs.List.{list_any}
use Rattle.section_check.specs.Bounded.{holds}
use Rattle.section_check.specs.Section.{CertifiedLoop}
use Rattle.certificates.specs.declared.cert.CertSection.{CertSection}
use Rattle.certificates.specs.Certificate.{is_inside}
use Rattle.bytecode_model.specs.Program.{Program}
use Rattle.method_flow.specs.Nodes.{At}
use Rattle.method_flow.specs.declared.timing.Timing.{Timing}
use Rattle.method_flow.specs.Costs.{IsOwnCost}
use Rattle.method_flow.specs.Regions.{load}
use Rattle.bound_rules.specs.Fitting.{RegionFits, loads_of}

-- the value of a section: a number of cycles, or none, where no walk ends
abbrev pub Value : Type 0
Value = Option ℕ

-- a method, whether a section of it is inside or of another kind, and the section's value
pub record Valued : Type 0 where
  pub method : ℕ
  pub inside : Bool
  pub value : Value

abbrev pub section_value : CertSection → Value → Valued
section_value s value = record { method = s.method; inside = is_inside s.kind; value = value }

abbrev pub is_same : Bool → Bool → Bool
is_same true b = b
is_same false b = not b

-- the value of the first section of the method that is inside, or that is of another kind; there may be no such section
abbrev pub value_in : (inside : Bool) → (method : ℕ) → List Valued → Option Value
value_in inside m [] = None
value_in inside m (v ∷ vs) = if is_same inside v.inside && v.method == m then Some v.value else value_in inside m vs

-- the same with so many cycles more, where it is a number
abbrev pub with_cycles : ℕ → Option Value → Option Value
with_cycles more o = option_map (λ v. option_map (λ n. n + more) v) o

-- What earlier sections say of a method with all its loads, by the kind of section that its region asks for: it is absent where there is no such
-- section, and has no number where it can't end.
pub data SaysFull (P : Program) (t : Timing) (earlier : List Valued) (m : ℕ) (said : Option Value) : Type 0 where
  fits : (together : RegionFits P t m) → said ≡ with_cycles (loads_of together) (value_in true m earlier) → SaysFull P t earlier m said
  exceeds : ¬ RegionFits P t m → said ≡ with_cycles (load P t.read m) (value_in false m earlier) → SaysFull P t earlier m said

-- ---- where a section calls a method

-- a region of a section has the node
abbrev pub is_in_region : List CertifiedLoop → (node : ℕ) → Bool
is_in_region ls u = list_any (λ l. l.region && holds l.members u) ls

-- a call at the place costs nothing for loads: the section is inside, or a region has the place
abbrev pub is_without_loads : CertSection → (place : ℕ) → Bool
is_without_loads s p = is_inside s.kind || is_in_region s.section.loops (2 * p)

-- what they say of a method where another calls it: without loads, or with all its loads and that of the caller when control comes back to it
abbrev pub SaysCalled : Program → Timing → (earlier : List Valued) → (without_loads : Bool) → (caller target : ℕ) → Option Value → Type 0
SaysCalled P t earlier true m x said = said ≡ value_in true x earlier
SaysCalled P t earlier false m x said = (full : Option Value) × SaysFull P t earlier x full × (said ≡ with_cycles (load P t.read m) full)

-- the greatest number of cycles that a certificate can hold
abbrev pub most_cycles : ℕ
most_cycles = 2 ^ 64 - 1

-- a number with which a call would cost more counts as absent
abbrev pub within_limit : (own : ℕ) → Option Value → Option Value
within_limit own (Some (Some n)) = if nat_le (own + n) most_cycles then Some (Some n) else None
within_limit own said = said

-- what the invoke at each place is told of each method that it may run: it is absent, has no value since it can't end, or has a value
abbrev pub TargetValues : Type 0
TargetValues = (place target : ℕ) → Option Value

-- this is told to the invoke at place p of a section, of the method x
pub record IsTargetValue (P : Program) (t : Timing) (earlier : List Valued) (s : CertSection) (p x : ℕ) (told : Option Value) : Type 0 where
  pub own : ℕ
  pub is_own : IsOwnCost P t s.method (At p) own
  pub said : Option Value
  pub says : SaysCalled P t earlier (is_without_loads s p) s.method x said
  pub is : told ≡ within_limit own said
