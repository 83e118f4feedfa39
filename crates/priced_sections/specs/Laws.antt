-- What sections whose facts have prices show.
use Rattle.std.specs.Prelude.{◌≡◌, ℕ, ◌+◌, ◌*◌, ◌≤◌, pos, ◌+ℤ◌, ◌≤ℤ◌, ◌↔◌, List, [], map, sum_by, All, Contains, Option, Some, None, MatchOption}
use Rattle.std.specs.Prelude.{Result}
use Rattle.loop_nest.specs.Digraph.{Digraph, Edge}
use Rattle.loop_nest.specs.Walks.{Walk, IsHeader, KeepsBound}
use Rattle.section_check.specs.declared.section.SectionFault.{SectionFault}
use Rattle.section_check.specs.Bounded.{IsBoundedWalk, entries, cost_of}
use Rattle.section_check.specs.Section.{Certified, PricedLoop, priced, bounded, start_value}
use Rattle.section_check.specs.Placing.{AreWellPlaced}
use Rattle.section_check.specs.Conditions.{IsAccepted, value_of}
use Rattle.section_check.specs.Laws.{loops_of}
use Rattle.priced_sections.specs.Visits.{visits_of, KeepsPer}
use Rattle.priced_sections.specs.Prices.{PricedFact, credit_of}
use Rattle.priced_sections.specs.Paid.{paying, paid_value, IsPaid}
use Rattle.priced_sections.specs.Answers.{IsPaidAnswer}

-- The steps of a walk that keeps the bounds are paid, whatever visits give back: with what is due at entries, it costs at most the start's value and all that
-- its visits gave back.
abbrev pub StepsArePaid : Type 0
StepsArePaid =
    (g : Digraph) (costs : List ℕ) (credit : ℕ → ℕ) (c : Certified) (bounds : List ℕ) (loads : List (Option ℕ)) (fs : List PricedFact) (ns : List ℕ)
    → IsPaid g costs credit c bounds loads fs → IsBoundedWalk g (loops_of c bounds loads) ns
    → MatchOption (start_value c (paying c bounds loads fs)) ⊥
    (λ z. pos (cost_of costs (map bounded (paying c bounds loads fs)) ns) ≤ℤ (z +ℤ pos (sum_by credit ns)))

-- A walk in a part of the graph that keeps a fact from entry to entry of that part's loop visits its nodes at most so often for each entry of the section's
-- loop, whichever nodes this loop has.
abbrev pub EntriesCount : Type 0
EntriesCount =
    (g part : Digraph) (c : Certified) (bounds : List ℕ) (loads : List (Option ℕ)) → AreWellPlaced g c bounds loads
    → ((u v : ℕ) → Edge part u v → Edge g u v)
    → (l : PricedLoop) (nodes : List ℕ) (most last : ℕ) (ns : List ℕ) → Contains (priced c.loops bounds loads) l
    → All (Contains l.certified.members) nodes → Walk part 0 last ns → KeepsPer part l.certified.header nodes most ns
    → visits_of nodes ns ≤ most * entries l.certified.members ns

-- what a walk in a part of the graph is asked of a fact with or without a header
abbrev pub KeepsFact : Digraph → PricedFact → (header : Option ℕ) → List ℕ → Type 0
KeepsFact part f None ns = visits_of f.nodes ns ≤ f.most
KeepsFact part f (Some h) ns = KeepsPer part h f.nodes f.most ns

-- A walk to an exit, in a part of the graph, that keeps the bounds of that part's loops and the facts costs at most the section's value, and what its visits
-- gave back that isn't of these facts.
abbrev pub PaidBoundWalks : Type 0
PaidBoundWalks =
    (g part : Digraph) (costs : List ℕ) (other : ℕ → ℕ) (c : Certified) (bounds : List ℕ) (loads : List (Option ℕ)) (fs : List PricedFact) (last : ℕ)
    (ns : List ℕ)
    → IsPaid g costs (λ u. credit_of fs u + other u) c bounds loads fs → ((u v : ℕ) → Edge part u v → Edge g u v) → Walk part 0 last ns
    → Contains g.exits last
    → ((l : PricedLoop) → Contains (priced c.loops bounds loads) l → IsHeader part l.certified.header → KeepsBound part l.certified.header l.bound ns)
    → ((f : PricedFact) → Contains fs f → KeepsFact part f f.header ns)
    → MatchOption (paid_value c (paying c bounds loads fs) fs) ⊥ (λ most. cost_of costs (loops_of c bounds loads) ns ≤ most + sum_by other ns)

-- where such a section has no value, no exit is reached from node 0, whatever the bounds and the facts
abbrev pub NoValueNoEnd : Type 0
NoValueNoEnd =
    (g : Digraph) (costs : List ℕ) (credit : ℕ → ℕ) (c : Certified) (bounds : List ℕ) (loads : List (Option ℕ)) (fs : List PricedFact)
    → IsPaid g costs credit c bounds loads fs → paid_value c (paying c bounds loads fs) fs ≡ None
    → (exit : ℕ) (ns : List ℕ) → Contains g.exits exit → ¬ Walk g 0 exit ns

-- without prices the conditions are those of a section
abbrev pub PlainIsPaid : Type 0
PlainIsPaid =
    (g : Digraph) (costs : List ℕ) (credit : ℕ → ℕ) (c : Certified) (bounds : List ℕ) (loads : List (Option ℕ)) → ((u : ℕ) → credit u ≡ 0)
    → IsPaid g costs credit c bounds loads [] ↔ IsAccepted g costs c bounds loads

-- and its value is the section's, where this has one
abbrev pub PlainValueIsPaid : Type 0
PlainValueIsPaid =
    (c : Certified) (bounds : List ℕ) (loads : List (Option ℕ)) (n : ℕ) → value_of c (priced c.loops bounds loads) ≡ Some n
    → paid_value c (paying c bounds loads []) [] ≡ Some n

-- no two answers are right: the conditions determine the answer
abbrev pub PaidAnswersAreOne : Type 0
PaidAnswersAreOne =
    (g : Digraph) (costs : List ℕ) (credit : ℕ → ℕ) (c : Certified) (bounds : List ℕ) (loads : List (Option ℕ)) (fs : List PricedFact)
    (a b : Result (Option ℕ) SectionFault)
    → IsPaidAnswer g costs credit c bounds loads fs a → IsPaidAnswer g costs credit c bounds loads fs b → a ≡ b
