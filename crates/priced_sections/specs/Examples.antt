-- Sections with prices that were worked out by hand: that each edge and each exit pays, and what their values are.
use Rattle.std.specs.Prelude.{◌≡◌, ℕ, ℤ, pos, negsuc, false, List, [], ◌∷◌, Option, None, Some}
use Rattle.loop_nest.specs.Digraph.{Digraph}
use Rattle.section_check.specs.Section.{Certified, CertifiedLoop}
use Rattle.priced_sections.specs.Prices.{PricedFact, credit_of}
use Rattle.priced_sections.specs.Paid.{paying, paid_value, EdgePays, ExitPays}

-- a graph with the costs of its nodes, and a section over it with the bounds and the loads of its loops
pub record Sample : Type 0 where
  pub graph : Digraph
  pub costs : List ℕ
  pub section : Certified
  pub bounds : List ℕ
  pub loads : List (Option ℕ)

abbrev pub PayAlong : Sample → List PricedFact → List (ℕ × ℕ) → Type 0
PayAlong s fs [] = Unit {0}
PayAlong s fs (e ∷ es) = EdgePays s.costs (credit_of fs) s.section (paying s.section s.bounds s.loads fs) e.0 e.1 × PayAlong s fs es

abbrev pub PayAt : Sample → List PricedFact → List ℕ → Type 0
PayAt s fs [] = Unit {0}
PayAt s fs (u ∷ us) = ExitPays s.costs (credit_of fs) s.section u × PayAt s fs us

-- with these facts the edges and the exits of the section pay, and its value is this
pub record Shows (s : Sample) (fs : List PricedFact) (value : ℕ) : Type 0 where
  pub edges : PayAlong s fs s.graph.edges
  pub exits : PayAt s fs s.graph.exits
  pub is : paid_value s.section (paying s.section s.bounds s.loads fs) fs ≡ Some value

-- a loop with its header, what an iteration costs, and its members
abbrev pub plain_loop : (header iteration_cost : ℕ) → (members : List ℕ) → CertifiedLoop
plain_loop h k ms = record { header = h; iteration_cost = k; members = ms; region = false }

-- at most so many visits of the node, in an activation or from entry to entry, at this price
abbrev pub at_most : (most node : ℕ) → (header : Option ℕ) → (price : ℕ) → PricedFact
at_most n u h price = record { nodes = u ∷ []; most = n; header = h; price = price }

-- Start 0, and a loop of at most three iterations: its test 1, its body 2 with a raise step 3, its step 4; end 5.
abbrev pub raising : (nodes : List (ℕ × ℤ)) → List CertifiedLoop → Sample
raising nodes loops = record {
  graph = record { nodes = 6; edges = (0, 1) ∷ (1, 2) ∷ (1, 5) ∷ (2, 3) ∷ (2, 4) ∷ (4, 1) ∷ []; exits = 3 ∷ 5 ∷ [] };
  costs = 1 ∷ 2 ∷ 10 ∷ 30 ∷ 1 ∷ 1 ∷ [];
  section = record { nodes = nodes; loops = loops };
  bounds = 3 ∷ [];
  loads = Some 0 ∷ [];
}

-- the dearest walk raises in a fourth body
abbrev pub without_prices_section : Sample
without_prices_section =
    raising ((0, pos 82) ∷ (1, pos 42) ∷ (2, pos 40) ∷ (3, pos 30) ∷ (4, pos 30) ∷ (5, pos 1) ∷ [])
    (plain_loop 1 13 (1 ∷ 2 ∷ 4 ∷ []) ∷ [])

-- From entry to entry the body is visited at most three times: the dearest walk raises in the third.
abbrev pub body_in_loop_section : Sample
body_in_loop_section =
    raising ((0, pos 69) ∷ (1, pos 29) ∷ (2, pos 27) ∷ (3, pos 30) ∷ (4, pos 30) ∷ (5, pos 1) ∷ [])
    (plain_loop 1 0 (1 ∷ 2 ∷ 4 ∷ []) ∷ [])

-- That the test is visited at most four times is what the bound of the loop says: no price gains.
abbrev pub test_in_loop_section : Sample
test_in_loop_section =
    raising ((0, pos 82) ∷ (1, pos 29) ∷ (2, pos 40) ∷ (3, pos 30) ∷ (4, pos 30) ∷ (5, pos 1) ∷ [])
    (plain_loop 1 0 (1 ∷ 2 ∷ 4 ∷ []) ∷ [])

-- In all the body is visited at most twice: the dearest walk raises in the second.
abbrev pub body_in_all_section : Sample
body_in_all_section =
    raising ((0, pos 30) ∷ (1, pos 29) ∷ (2, pos 27) ∷ (3, pos 30) ∷ (4, pos 30) ∷ (5, pos 1) ∷ [])
    (plain_loop 1 0 (1 ∷ 2 ∷ 4 ∷ []) ∷ [])

-- Start 0, an outer loop of at most four iterations with test 1 and step 4, in it a loop of at most three with test 2 and body 3; end 5.
abbrev pub nested : (nodes : List (ℕ × ℤ)) → List CertifiedLoop → Sample
nested nodes loops = record {
  graph = record { nodes = 6; edges = (0, 1) ∷ (1, 2) ∷ (1, 5) ∷ (2, 3) ∷ (2, 4) ∷ (3, 2) ∷ (4, 1) ∷ []; exits = 5 ∷ [] };
  costs = 1 ∷ 2 ∷ 2 ∷ 10 ∷ 2 ∷ 1 ∷ [];
  section = record { nodes = nodes; loops = loops };
  bounds = 4 ∷ 3 ∷ [];
  loads = Some 0 ∷ Some 0 ∷ [];
}

-- twelve inner bodies
abbrev pub nested_without_prices_section : Sample
nested_without_prices_section =
    nested ((0, pos 172) ∷ (1, pos 3) ∷ (2, negsuc 34) ∷ (3, negsuc 36) ∷ (4, negsuc 36) ∷ (5, pos 1) ∷ [])
    (plain_loop 1 42 (1 ∷ 2 ∷ 3 ∷ 4 ∷ []) ∷ plain_loop 2 12 (2 ∷ 3 ∷ []) ∷ [])

-- In all the inner body is visited at most six times, and not twelve.
abbrev pub nested_bodies_section : Sample
nested_bodies_section =
    nested ((0, pos 28) ∷ (1, pos 3) ∷ (2, pos 1) ∷ (3, negsuc 0) ∷ (4, negsuc 0) ∷ (5, pos 1) ∷ [])
    (plain_loop 1 6 (1 ∷ 2 ∷ 3 ∷ 4 ∷ []) ∷ plain_loop 2 0 (2 ∷ 3 ∷ []) ∷ [])

-- Start 0, then 1 once or 2 up to five times; end 3.
abbrev pub either : (nodes : List (ℕ × ℤ)) → List CertifiedLoop → Sample
either nodes loops = record {
  graph = record { nodes = 4; edges = (0, 1) ∷ (0, 2) ∷ (1, 3) ∷ (2, 2) ∷ (2, 3) ∷ []; exits = 3 ∷ [] };
  costs = 1 ∷ 10 ∷ 4 ∷ 1 ∷ [];
  section = record { nodes = nodes; loops = loops };
  bounds = 4 ∷ [];
  loads = Some 0 ∷ [];
}

-- five visits of 2
abbrev pub either_without_prices_section : Sample
either_without_prices_section =
    either ((0, pos 22) ∷ (1, pos 11) ∷ (2, pos 5) ∷ (3, pos 1) ∷ [])
    (plain_loop 2 4 (2 ∷ []) ∷ [])

-- At most three visits of 2: no walk that keeps this costs more than 14, and no price shows less than 18.
abbrev pub three_visits_section : Sample
three_visits_section =
    either ((0, pos 12) ∷ (1, pos 11) ∷ (2, pos 3) ∷ (3, pos 1) ∷ [])
    (plain_loop 2 2 (2 ∷ []) ∷ [])

-- Start 0, a loop of one iteration with header 1 and body 2, and end 3; or end 4 directly.
abbrev pub around : (nodes : List (ℕ × ℤ)) → List CertifiedLoop → Sample
around nodes loops = record {
  graph = record { nodes = 5; edges = (0, 1) ∷ (0, 4) ∷ (1, 2) ∷ (1, 3) ∷ (2, 1) ∷ []; exits = 3 ∷ 4 ∷ [] };
  costs = 1 ∷ 1 ∷ 100 ∷ 2 ∷ 1 ∷ [];
  section = record { nodes = nodes; loops = loops };
  bounds = 1 ∷ [];
  loads = Some 0 ∷ [];
}

-- one iteration
abbrev pub around_without_prices_section : Sample
around_without_prices_section =
    around ((0, pos 105) ∷ (1, pos 3) ∷ (2, pos 2) ∷ (3, pos 2) ∷ (4, pos 1) ∷ [])
    (plain_loop 1 101 (1 ∷ 2 ∷ []) ∷ [])

-- The header at most once: a price of it gains less than one of the body.
abbrev pub header_once_section : Sample
header_once_section =
    around ((0, pos 2) ∷ (1, negsuc 48) ∷ (2, pos 2) ∷ (3, pos 2) ∷ (4, pos 1) ∷ [])
    (plain_loop 1 49 (1 ∷ 2 ∷ []) ∷ [])

-- The body never: no more than what the walk costs that goes by the header once.
abbrev pub body_never_section : Sample
body_never_section =
    around ((0, pos 4) ∷ (1, pos 3) ∷ (2, pos 2) ∷ (3, pos 2) ∷ (4, pos 1) ∷ [])
    (plain_loop 1 0 (1 ∷ 2 ∷ []) ∷ [])

pub record WorkedExamples : Type 0 where
  pub without_prices : Shows without_prices_section [] 82
  pub body_in_loop : Shows body_in_loop_section (at_most 3 2 (Some 1) 13 ∷ []) 69
  pub test_in_loop : Shows test_in_loop_section (at_most 4 1 (Some 1) 13 ∷ []) 82
  pub body_in_all : Shows body_in_all_section (at_most 2 2 None 13 ∷ []) 56
  pub nested_without_prices : Shows nested_without_prices_section [] 172
  pub nested_bodies : Shows nested_bodies_section (at_most 6 3 None 12 ∷ []) 100
  pub either_without_prices : Shows either_without_prices_section [] 22
  pub three_visits : Shows three_visits_section (at_most 3 2 None 2 ∷ []) 18
  pub around_without_prices : Shows around_without_prices_section [] 105
  pub header_once : Shows header_once_section (at_most 1 1 None 52 ∷ []) 54
  pub body_never : Shows body_never_section (at_most 0 2 None 101 ∷ []) 4
