-- The loops of a nest are well placed in a section.
use Rattle.std.proofs.Common.{◌≡◌, ℕ, ◌+◌, ◌-◌, ◌^◌, ◌<◌, ℤ, pos, Bool, List, length, get_or, map, Contains, Some, sym, ◌∙◌, subst, inl, inr, arith}
use Rattle.std.specs.Prelude.{◌<ℤ◌}
use Rattle.std.specs.List.Sorted.{IsStrictlyIncreasing}
use Rattle.std.proofs.lemmas.Bool.{both_ways}
use Rattle.std.proofs.lemmas.Int.{ints}
use Rattle.std.proofs.lemmas.List.{get_or_default, length-map}
use Rattle.std.proofs.lemmas.List.Elements.{All-contains}
use Rattle.loop_nest.specs.Digraph.{Digraph}
use Rattle.loop_nest.specs.Nest.{NaturalLoop, IsLoopOf}
use Rattle.path_solver.specs.declared.topology.TopologicalOrder.{TopologicalOrder}
use Rattle.section_check.specs.Section.{Certified, CertifiedLoop, HeadersRise, MembersRise, start_value, listed, priced}
use Rattle.section_check.specs.Placing.{IsEntryAt, LiesIn, AreCrossed, IsFaulty, AreWellPlaced}
use Rattle.section_check.specs.Placing.IsFaulty.{shares_header, leaves_header_out, crosses_another, does_not_fit, lies_in_region}
use Rattle.section_check.specs.Placing.IsMisplaced.{lists_no_node, holds_no_node, heads_faulty, enters_aside, holds_entry, exceeds_limit}
use Rattle.path_solver.specs.Certifying.{certified}
use Rattle.path_solver.specs.Problem.{IsProblem}
use Rattle.path_solver.proofs.Loops.{header_at, same_place}
use Rattle.path_solver.proofs.Certificates.{IsSameLoop, same_loop, certified_long}
use Rattle.path_solver.proofs.Structure.{own_header, entered_at_header, entry_heads, members_below, holds_all, nested}

module _ (g : Digraph) (loops : List NaturalLoop) (flags : List Bool) (p : TopologicalOrder) (h : IsProblem g loops flags p) (bounds loads iteration_costs : List ℕ) (b : length bounds ≡ length loops) (m : length loads ≡ length loops) (w : length iteration_costs ≡ length loops) where
  abbrev section : List (ℕ × ℤ) → Certified
  section nodes = record { nodes = nodes; loops = certified loops iteration_costs }

  abbrev made_loops : List CertifiedLoop
  made_loops = certified loops iteration_costs

  -- the loop at a place of the section
  at_place : (i : ℕ) (d : CertifiedLoop) → i < length made_loops → IsSameLoop loops i (get_or made_loops i d)
  at_place i d lt = same_loop loops iteration_costs w i (get_or made_loops i d) (lt, get_or_default made_loops i (get_or made_loops i d) d lt)

  found : (c : CertifiedLoop) → Contains made_loops c → (i : ℕ) × IsSameLoop loops i c
  found c has = (has.0, same_loop loops iteration_costs w has.0 c (has.1, has.2))

  among : (i : ℕ) (l : NaturalLoop) → IsEntryAt loops i l → Contains loops l
  among i l at = (i, at.0, at.1)

  pub as_many : length (certified loops iteration_costs) ≡ length loops
  as_many = certified_long loops iteration_costs w

  pub members_rise : MembersRise (certified loops iteration_costs)
  members_rise i d lt =
      let s = at_place i d lt in
      let loop : IsLoopOf g s.loop = All-contains (IsLoopOf g) loops s.loop h.nest.loops (among i s.loop s.at) in
      let P : List ℕ → Type 0 = λ us. IsStrictlyIncreasing us in
      subst P (sym s.members) loop.rising

  pub headers_rise : HeadersRise (certified loops iteration_costs)
  headers_rise k d lt =
      let a = at_place k d (omega arith) in
      let b' = at_place (k + 1) d lt in
      let long = length-map loops (λ (l : NaturalLoop). l.header) in
      let long' = as_many in
      let x = header_at loops k a.loop a.at in
      let y = header_at loops (k + 1) b'.loop b'.at in
      let up = h.nest.rising k (omega arith) in
      let e = a.header in
      let e' = b'.header in
      omega arith

  -- l is the loop of the nest at c's place
  module _ (i : ℕ) (c : CertifiedLoop) (s : IsSameLoop loops i c) where
    in_nest : Contains loops s.loop
    in_nest = among i s.loop s.at

    into_nest : (x : ℕ) → Contains c.members x → Contains s.loop.members x
    into_nest x inside = let P : List ℕ → Type 0 = λ us. Contains us x in subst P s.members inside

    from_nest : (x : ℕ) → Contains s.loop.members x → Contains c.members x
    from_nest x inside = let P : List ℕ → Type 0 = λ us. Contains us x in subst P (sym s.members) inside

    has_header : Contains c.members c.header
    has_header =
        let P : ℕ → Type 0 = λ z. Contains c.members z in
        subst P (sym s.header) (from_nest s.loop.header (own_header g loops flags p h s.loop in_nest))

  module _ (i j : ℕ) (c d : CertifiedLoop) (s : IsSameLoop loops i c) (t : IsSameLoop loops j d) where
    one_place : d.header ≡ c.header → j ≡ i
    one_place same = same_place loops h.nest.rising j i t.loop s.loop t.at s.at (sym t.header ∙ same ∙ s.header)

    lies_in : Contains d.members c.header → LiesIn c d
    lies_in inner x inside =
        let P : ℕ → Type 0 = λ z. Contains t.loop.members z in
        let header : Contains t.loop.members s.loop.header = subst P s.header (into_nest j d t c.header inner) in
        from_nest j d t x (holds_all g loops flags p h s.loop t.loop x (in_nest i c s) (in_nest j d t) header (into_nest i c s x inside))

  module _ (i j : ℕ) (c d : CertifiedLoop) (s : IsSameLoop loops i c) (t : IsSameLoop loops j d) where
    not_crossed : AreCrossed c d → ⊥
    not_crossed x =
        let P : ℕ → Type 0 = λ z. Contains d.members z in
        let R : ℕ → Type 0 = λ z. Contains c.members z in
        let a = into_nest i c s x.common x.first in
        let b' = into_nest j d t x.common x.second in
        elim (nested g loops flags p h s.loop t.loop x.common (in_nest i c s) (in_nest j d t) a b') [
          | inl inner ↦ x.not_in (lies_in i j c d s t (subst P (sym s.header) (from_nest j d t s.loop.header inner)))
          | inr outer ↦ x.not_around (lies_in j i d c t s (subst R (sym t.header) (from_nest i c s t.loop.header outer)))
        ]

  not_faulty : (i : ℕ) (c : CertifiedLoop) → IsEntryAt made_loops i c → IsFaulty made_loops (map Some loads) i c → ⊥
  not_faulty i c at (shares_header f) =
      f.apart (one_place i f.place c f.other (same_loop loops iteration_costs w i c at) (same_loop loops iteration_costs w f.place f.other f.at) f.same)
  not_faulty i c at (leaves_header_out f) = f (has_header i c (same_loop loops iteration_costs w i c at))
  not_faulty i c at (crosses_another f) = let r = found f.other f.among in not_crossed i r.0 c f.other (same_loop loops iteration_costs w i c at) r.1 f.crossed
  not_faulty i c at (does_not_fit region f) = both_ways c.region (same_loop loops iteration_costs w i c at).region region
  not_faulty i c at (lies_in_region region f) = both_ways c.region (same_loop loops iteration_costs w i c at).region region

  pub well_placed : (nodes : List (ℕ × ℤ)) → ((u : ℕ) → Contains (listed nodes) u → u < g.nodes) → (value : ℕ) → value < 2 ^ 64
      → start_value (section nodes) (priced (certified loops iteration_costs) bounds (map Some loads)) ≡ Some (pos value) → AreWellPlaced g (section nodes) bounds (map Some loads)
  well_placed nodes below value small starts u (lists_no_node has above) = let lt = below u has in omega arith
  well_placed nodes below value small starts u (holds_no_node held above) =
      let r = found held.holder held.among in
      let lt = members_below g loops flags p h r.1.loop u (in_nest r.0 held.holder r.1) (into_nest r.0 held.holder r.1 u held.inside) in
      omega arith
  well_placed nodes below value small starts u (heads_faulty f) = not_faulty f.place f.headed f.at f.faulty
  well_placed nodes below value small starts u (enters_aside v e f) =
      let r = found f.entered f.among in
      let i = r.0 in
      let s = r.1 in
      f.aside (entered_at_header g loops flags p h s.loop u v (in_nest i f.entered s) e (into_nest i f.entered s v f.inside) (λ inside. f.outside (from_nest i f.entered s u inside)) ∙ sym s.header)
  well_placed nodes below value small starts u (holds_entry at f) =
      let r = found f.holder f.among in
      let i = r.0 in
      let s = r.1 in
      f.header (s.header ∙ entry_heads g loops flags p h s.loop (in_nest i f.holder s) (into_nest i f.holder s 0 f.inside))
  well_placed nodes below value small starts u (exceeds_limit at f) =
      let is : f.value ≡ pos value = cc (f.is, starts) in
      let P : ℤ → Type 0 = λ z. pos (2 ^ 64 - 1) <ℤ z in
      let exceeds = subst P is f.exceeds in
      omega (arith, ints)
