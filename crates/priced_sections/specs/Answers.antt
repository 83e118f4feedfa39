-- The answer to a section whose facts have prices: its value, or the first condition that fails.
use Rattle.std.specs.Prelude.{◌≡◌, ℕ, ◌^◌, ◌<◌, ◌≤◌, List, Contains, Option, Some, Result, Ok, Err}
use Rattle.loop_nest.specs.Digraph.{Digraph, Edge, IsBefore}
use Rattle.section_check.specs.declared.section.SectionFault.{SectionFault}
use Rattle.section_check.specs.declared.section.SectionFault.TheVariants as faults
use Rattle.section_check.specs.Section.{Certified, PricedLoop, priced, headed_by}
use Rattle.section_check.specs.Placing.{IsMisplaced}
use Rattle.priced_sections.specs.Prices.{PricedFact}
use Rattle.priced_sections.specs.Paid.{paying, EdgePays, ExitPays, HoldsAll, paid_value, AreInPlace, EdgesPay, IsPaid}

-- h is the header of a fact, and heads no loop whose members the nodes of the fact are
pub record HeadsUnheld (ls : List PricedLoop) (fs : List PricedFact) (h : ℕ) : Type 0 where
  pub fact : PricedFact
  pub among : Contains fs fact
  pub header : fact.header ≡ Some h
  pub unheld : ¬ HoldsAll (headed_by h ls) fact.nodes

-- the value of the section exceeds 64 bits
pub record ExceedsValue (c : Certified) (ls : List PricedLoop) (fs : List PricedFact) : Type 0 where
  pub value : ℕ
  pub is : paid_value c ls fs ≡ Some value
  pub exceeds : 2 ^ 64 ≤ value

-- what is wrong with node u
pub data IsOutOfPlace (g : Digraph) (c : Certified) (bounds : List ℕ) (loads : List (Option ℕ)) (fs : List PricedFact) (u : ℕ) : Type 0 where
  -- it is misplaced as in a section without prices
  misplaced : IsMisplaced g c bounds loads u → IsOutOfPlace g c bounds loads fs u
  -- it is the header of a fact that isn't held
  heads_unheld : HeadsUnheld (priced c.loops bounds loads) fs u → IsOutOfPlace g c bounds loads fs u
  -- it is the entry, and the section's value is too large
  exceeds_value : u ≡ 0 → ExceedsValue c (paying c bounds loads fs) fs → IsOutOfPlace g c bounds loads fs u

-- the first node that is out of place
pub record IsFirstOutOfPlace (g : Digraph) (c : Certified) (bounds : List ℕ) (loads : List (Option ℕ)) (fs : List PricedFact) (u : ℕ) : Type 0 where
  pub wrong : IsOutOfPlace g c bounds loads fs u
  pub first : (x : ℕ) → x < u → ¬ IsOutOfPlace g c bounds loads fs x

-- the first edge whose condition fails
pub record IsFirstUnpaidEdge (g : Digraph) (costs : List ℕ) (credit : ℕ → ℕ) (c : Certified) (ls : List PricedLoop) (u v : ℕ) : Type 0 where
  pub edge : Edge g u v
  pub fails : ¬ EdgePays costs credit c ls u v
  pub first : (x y : ℕ) → Edge g x y → IsBefore (x, y) (u, v) → EdgePays costs credit c ls x y

-- the first exit whose condition fails
pub record IsFirstUnpaidExit (g : Digraph) (costs : List ℕ) (credit : ℕ → ℕ) (c : Certified) (u : ℕ) : Type 0 where
  pub exit : Contains g.exits u
  pub fails : ¬ ExitPays costs credit c u
  pub first : (x : ℕ) → Contains g.exits x → x < u → ExitPays costs credit c x

-- the answer: the value, or the first condition that fails. Those on nodes come before those on edges, and these before those on exits.
abbrev pub IsPaidAnswer :
    Digraph → List ℕ → (credit : ℕ → ℕ) → Certified → List ℕ → List (Option ℕ) → List PricedFact → Result (Option ℕ) SectionFault → Type 0
IsPaidAnswer g costs credit c bounds loads fs (Ok value) = IsPaid g costs credit c bounds loads fs × (value ≡ paid_value c (paying c bounds loads fs) fs)
IsPaidAnswer g costs credit c bounds loads fs (Err (faults.Member u)) = IsFirstOutOfPlace g c bounds loads fs u
IsPaidAnswer g costs credit c bounds loads fs (Err (faults.Edge u v)) = AreInPlace g c bounds loads fs
    × IsFirstUnpaidEdge g costs credit c (paying c bounds loads fs) u v
IsPaidAnswer g costs credit c bounds loads fs (Err (faults.Exit u)) = AreInPlace g c bounds loads fs
    × EdgesPay g costs credit c (paying c bounds loads fs) × IsFirstUnpaidExit g costs credit c u
