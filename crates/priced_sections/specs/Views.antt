-- What is checked of a section with prices, and the tables by which it is checked.
use Rattle.std.specs.Prelude.{◌≡◌, ℕ, ◌+◌, ◌*◌, ◌^◌, ◌-◌, ◌<◌, if◌then◌else◌, ℤ, pos, ◌+ℤ◌, ◌-ℤ◌, ◌<ℤ◌, List, length, slice_index, slice_index_or}
use Rattle.std.specs.Prelude.{Option, Some, None, option_map, unwrap_or}
use Rattle.loop_nest.specs.Digraph.{Digraph}
use Rattle.section_check.specs.Bounded.{holds}
use Rattle.section_check.specs.Section.{CertifiedLoop, Certified, PricedLoop, priced, fee, headed_by, entry_fee, potential, start_value, IsInForm}
use Rattle.section_check.specs.Placing.{IsEntryAt}
use Rattle.section_check.specs.Heading.{IsFirstHeaded}
use Rattle.priced_sections.specs.Prices.{PricedFact, credit_of, own_due}
use Rattle.priced_sections.specs.Paid.{paying}
use Rattle.priced_sections.specs.declared.view.PricedView.{PricedView}

abbrev pub graph_of : PricedView → Digraph
graph_of q = q.graph.now

abbrev pub costs_of : PricedView → List ℕ
costs_of q = q.costs.now

abbrev pub section_of : PricedView → Certified
section_of q = q.section.now

abbrev pub facts_of : PricedView → List PricedFact
facts_of q = q.facts.now

-- what a visit of the node gives back, of all its facts
abbrev pub back_of : PricedView → ℕ → ℕ
back_of q u = credit_of q.facts.now u + credit_of q.others.now u

-- the loops, without and with what is due at their entries
abbrev pub plain_in : PricedView → List PricedLoop
plain_in q = priced q.section.now.loops q.bounds.now q.loads.now

abbrev pub loops_in : PricedView → List PricedLoop
loops_in q = paying q.section.now q.bounds.now q.loads.now q.facts.now

abbrev pub headed_in : PricedView → ℕ → Option PricedLoop
headed_in q u = headed_by u (loops_in q)

-- a cost for each node, a section in form, and fewer than 2^24 facts, so that sums keep within 128 bits
pub record IsView (q : PricedView) : Type 0 where
  pub costs : length q.costs.now ≡ q.graph.now.nodes
  pub form : IsInForm q.section.now q.bounds.now q.loads.now
  pub facts : length q.facts.now < 2 ^ 24
  pub others : length q.others.now < 2 ^ 24

-- for each node what a visit gives back
pub record AreCredits (q : PricedView) (credits : List ℕ) : Type 0 where
  pub long : length credits ≡ q.graph.now.nodes
  pub each : (u : ℕ) → u < q.graph.now.nodes → slice_index credits u ≡ back_of q u
  pub few : (u : ℕ) → slice_index credits u < 2 ^ 90

-- for each loop what an entry pays without facts
pub record ArePlainFees (ls : List CertifiedLoop) (bounds : List ℕ) (loads : List (Option ℕ)) (fees : List ℕ) : Type 0 where
  pub long : length fees ≡ length ls
  pub each : (i : ℕ) (l : CertifiedLoop) → IsEntryAt ls i l
      → slice_index fees i ≡ slice_index bounds i * l.iteration_cost + unwrap_or (slice_index_or loads i None) 0
  pub few : (i : ℕ) → slice_index fees i < 2 ^ 97

-- for each loop, the first of its header, what an entry pays
pub record AreFees (q : PricedView) (fees : List ℕ) : Type 0 where
  pub long : length fees ≡ length q.section.now.loops
  pub each : (u i : ℕ) → IsFirstHeaded q.section.now.loops u i → slice_index fees i ≡ entry_fee (loops_in q) u
  pub few : (i : ℕ) → slice_index fees i < 2 ^ 122

-- what a node leaves of its potential: with what a visit gives back, less its cost
abbrev pub left_of : PricedView → ℕ → Option ℤ
left_of q u = option_map (λ p. (p +ℤ pos (back_of q u)) -ℤ pos (slice_index q.costs.now u)) (potential q.section.now.nodes u)

-- what going from u to the header of the loop costs beside the nodes
abbrev pub price_along : Option PricedLoop → ℕ → ℤ
price_along None u = pos 0
price_along (Some l) u = if holds l.certified.members u then pos 0 -ℤ pos l.certified.iteration_cost else pos (fee l)

-- the potential of node 0 with what the start costs and the activation pays
abbrev pub value_in : PricedView → Option ℤ
value_in q = option_map (λ z. z +ℤ pos (own_due q.facts.now)) (start_value q.section.now (loops_in q))

abbrev pub IsTooLarge : Option ℤ → Type 0
IsTooLarge None = ⊥
IsTooLarge (Some z) = pos (2 ^ 64 - 1) <ℤ z
