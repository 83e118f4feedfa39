-- Sections: potentials of nodes, and loops with what an iteration of each costs at most.
use Rattle.std.specs.Prelude.{◌≡◌, ℕ, ◌+◌, ◌*◌, ◌-◌, ◌^◌, ◌≤◌, ℤ, pos, negsuc, ◌≤ℤ◌, ◌+ℤ◌, Bool, ◌==◌, if◌then◌else◌, List, [], ◌∷◌, length, map, All, Option}
use Rattle.std.specs.Prelude.{Some, None, unwrap_or}
use Rattle.std.specs.List.{AllAdjacentBelow}
use Rattle.std.specs.List.Sorted.{IsStrictlyIncreasing}
use Rattle.section_check.specs.Bounded.{BoundedLoop}

-- a header with its members, what one iteration costs at most, and whether its entry pays the loads of a region
pub record CertifiedLoop : Type 0 where
  pub header : ℕ
  pub iteration_cost : ℕ
  pub members : List ℕ
  pub region : Bool

-- the listed nodes with their potentials, and the loops
pub record Certified : Type 0 where
  pub nodes : List (ℕ × ℤ)
  pub loops : List CertifiedLoop

-- a loop of a section with its bound, and the loads of its region: none where the region doesn't fit
pub record PricedLoop : Type 0 where
  pub certified : CertifiedLoop
  pub bound : ℕ
  pub load : Option ℕ

abbrev pub priced : List CertifiedLoop → List ℕ → List (Option ℕ) → List PricedLoop
priced [] bounds loads = []
priced (l ∷ ls) [] loads = []
priced (l ∷ ls) (bound ∷ bounds) [] = []
priced (l ∷ ls) (bound ∷ bounds) (load ∷ loads) = record { certified = l; bound = bound; load = load } ∷ priced ls bounds loads

-- what it costs to enter a loop: all its iterations, and the loads
abbrev pub fee : PricedLoop → ℕ
fee l = l.bound * l.certified.iteration_cost + unwrap_or l.load 0

-- the loop as far as walks speak of it
abbrev pub bounded : PricedLoop → BoundedLoop
bounded l = record { header = l.certified.header; members = l.certified.members; bound = l.bound; load = unwrap_or l.load 0 }

-- the loop that a node heads, the first where there are several
abbrev pub headed_by : ℕ → List PricedLoop → Option PricedLoop
headed_by h [] = None
headed_by h (l ∷ ls) = if l.certified.header == h then Some l else headed_by h ls

-- what it costs to enter the loop that a node heads, if it heads one
abbrev pub headed_fee : Option PricedLoop → ℕ
headed_fee None = 0
headed_fee (Some l) = fee l

abbrev pub entry_fee : List PricedLoop → ℕ → ℕ
entry_fee ls u = headed_fee (headed_by u ls)

-- the potential of a listed node
abbrev pub potential : List (ℕ × ℤ) → ℕ → Option ℤ
potential [] u = None
potential (p ∷ ps) u = if p.0 == u then Some p.1 else potential ps u

-- the potential of node 0 with what the start costs, since it is an entry into node 0
abbrev pub with_fee : Option ℤ → ℕ → Option ℤ
with_fee None fees = None
with_fee (Some p) fees = Some (p +ℤ pos fees)

abbrev pub start_value : Certified → List PricedLoop → Option ℤ
start_value c ls = with_fee (potential c.nodes 0) (entry_fee ls 0)

abbrev pub listed : List (ℕ × ℤ) → List ℕ
listed ps = map (λ p. p.0) ps

-- 64 bits and a sign
abbrev pub IsPotential : ℤ → Type 0
IsPotential p = (negsuc (2 ^ 64 - 2) ≤ℤ p) × (p ≤ℤ pos (2 ^ 64 - 1))

abbrev pub ArePotentials : List (ℕ × ℤ) → Type 0
ArePotentials ps = All (λ p. IsPotential p.1) ps

-- headers don't fall from one loop to the next
abbrev pub HeadersRise : List CertifiedLoop → Type 0
HeadersRise ls = AllAdjacentBelow (λ a b. a.header ≤ b.header) ls (length ls)

abbrev pub MembersRise : List CertifiedLoop → Type 0
MembersRise ls = All (λ l. IsStrictlyIncreasing l.members) ls

-- what a caller sees to: nodes and members rise, headers don't fall, potentials keep within 64 bits, and each loop has a bound and loads
pub record IsInForm (c : Certified) (bounds : List ℕ) (loads : List (Option ℕ)) : Type 0 where
  pub nodes : IsStrictlyIncreasing (listed c.nodes)
  pub potentials : ArePotentials c.nodes
  pub members : MembersRise c.loops
  pub headers : HeadersRise c.loops
  pub bounded : length bounds ≡ length c.loops
  pub loaded : length loads ≡ length c.loops
