-- Facts of how often places are visited, with prices: each visit gives the price back, and the scope of the fact pays it as often as the fact allows visits.
use Rattle.std.specs.Prelude.{ℕ, ◌+◌, ◌*◌, ◌==◌, if◌then◌else◌, List, map, sum_by, Option, Some, None, unwrap_or}
use Rattle.section_check.specs.Bounded.{holds}
use Rattle.section_check.specs.Section.{PricedLoop}

-- These nodes are visited at most so often together: in an activation, or from each entry of the loop with this header to the next. The price is in cycles.
pub record PricedFact : Type 0 where
  pub nodes : List ℕ
  pub most : ℕ
  pub header : Option ℕ
  pub price : ℕ

-- what a visit of the node gives back
abbrev pub credit_of : List PricedFact → (node : ℕ) → ℕ
credit_of fs u = sum_by (λ f. if holds f.nodes u then f.price else 0) fs

-- what an activation pays: the facts without a header are due
abbrev pub due_of_own : (header : Option ℕ) → (due : ℕ) → ℕ
due_of_own None due = due
due_of_own (Some h) due = 0

abbrev pub own_due : List PricedFact → ℕ
own_due fs = sum_by (λ f. due_of_own f.header (f.price * f.most)) fs

-- what an entry of the loop with header h pays: the facts with this header are due
abbrev pub due_of_header : (h : ℕ) → (header : Option ℕ) → (due : ℕ) → ℕ
due_of_header h None due = 0
due_of_header h (Some x) due = if x == h then due else 0

abbrev pub header_due : List PricedFact → (header : ℕ) → ℕ
header_due fs h = sum_by (λ f. due_of_header h f.header (f.price * f.most)) fs

-- an entry of a loop pays what is due there beside the loads
abbrev pub with_due : List PricedFact → PricedLoop → PricedLoop
with_due fs l = record l { load = Some (unwrap_or l.load 0 + header_due fs l.certified.header) }

abbrev pub with_dues : List PricedFact → List PricedLoop → List PricedLoop
with_dues fs ls = map (with_due fs) ls
