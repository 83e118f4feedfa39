-- What a solution's section lists and holds are nodes of the compact graph, of which each has another number.
use Rattle.std.proofs.Common.{ℕ, ◌<◌, List, length, get_or, map, All, Contains, Some, subst, arith}
use Rattle.std.specs.Prelude.{ℤ}
use Rattle.std.proofs.lemmas.List.Elements.{All-contains, Contains-get_or}
use Rattle.lists.specs.Members.{map_contains}
use Rattle.loop_nest.specs.Digraph.{Digraph}
use Rattle.loop_nest.specs.Nest.{NaturalLoop, IsLoopOf, headers_of}
use Rattle.loop_nest.proofs.Elements.{from_map}
use Rattle.loop_nest.proofs.Ends.{ends_within}
use Rattle.section_check.specs.Section.{CertifiedLoop}
use Rattle.section_check.specs.Placing.{AreWellPlaced}
use Rattle.path_solver.specs.Solution.{Solution}
use Rattle.compact_walks.specs.Solving.{IsShownWalk, fees_of}
use Rattle.bound_finder.specs.declared.prepared.Prepared.{Prepared}
use Rattle.bound_finder.specs.Prepared.{IsInShape, IsShapeOf}
use Rattle.bound_finder.specs.Found.{problem_of}
use Rattle.bound_finder.proofs.ShowMoved.{listed_node, held_node}

module _ (p : Prepared) (in_shape : IsInShape p) (solution : Solution) (shown : IsShownWalk (problem_of p) solution) where
  abbrev d : Digraph
  d = p.shape.graph

  shape : IsShapeOf in_shape.shape.0 p.shape
  shape = in_shape.shape.1

  pub placed : AreWellPlaced d solution.section p.bounds.items (map (λ n. Some n) (fees_of (problem_of p)))
  placed = (shown.accepted in_shape.apart).0.placed

  pub nest_header : (x : ℕ) → Contains (headers_of p.shape.nest) x → x < d.nodes
  nest_header x has =
      let k = from_map (λ (l : NaturalLoop). l.header) p.shape.nest x has in
      let loop = All-contains (IsLoopOf d) p.shape.nest k.0 shape.nest.loops k.1 in
      let ends = ends_within shape.compact.digraph loop.header.0 k.0.header loop.header.1.edge in
      subst (λ (h : ℕ). h < d.nodes) k.2 ends.1

  numbered : (u : ℕ) → u < d.nodes → u < length p.shape.nodes
  numbered u below = let long = shape.long in omega arith

  pub listed_below : All (λ (n : ℕ × ℤ). n.0 < length p.shape.nodes) solution.section.nodes
  listed_below k e lt =
      let n = get_or solution.section.nodes k e in
      let has = map_contains (λ (x : ℕ × ℤ). x.0) solution.section.nodes n (Contains-get_or solution.section.nodes k e lt) in
      numbered n.0 (listed_node (λ u. u) d solution.section p.bounds.items (map (λ x. Some x) (fees_of (problem_of p))) placed n.0 has)

  pub headers_below : All (λ (l : CertifiedLoop). l.header < length p.shape.nodes) solution.section.loops
  headers_below k e lt =
      let l = get_or solution.section.loops k e in
      let has = map_contains (λ (x : CertifiedLoop). x.header) solution.section.loops l (Contains-get_or solution.section.loops k e lt) in
      numbered l.header (nest_header l.header (subst (λ (hs : List ℕ). Contains hs l.header) shown.loops.headers has))

  pub members_below : All (λ (l : CertifiedLoop). All (λ (u : ℕ). u < length p.shape.nodes) l.members) solution.section.loops
  members_below k e lt =
      let l = get_or solution.section.loops k e in
      let among = Contains-get_or solution.section.loops k e lt in
      λ j x below.
      let u = get_or l.members j x in
      numbered u (held_node (λ v. v) d solution.section p.bounds.items (map (λ n. Some n) (fees_of (problem_of p))) placed u (record { holder = l; among = among; inside = Contains-get_or l.members j x below }))
