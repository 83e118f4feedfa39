-- The section that is found of a method can be written.
use Rattle.std.proofs.Common.{◌≡◌, ℕ, ◌/◌, ◌%◌, ◌^◌, ◌<◌, ◌≤◌, ◌==◌, Bool, true, false, List, [], length, map, All, Contains, Option, Some, None, refl, sym, ap, ◌∙◌, subst, inl, arith, eqb-true}
use Rattle.std.specs.Prelude.{IsSome, IfSome, if◌then◌else◌}
use Rattle.std.specs.List.Sorted.{IsStrictlyIncreasing}
use Rattle.std.proofs.lemmas.List.Elements.{All-contains, All-nil}
use Rattle.lists.specs.Members.{map_contains}
use Rattle.loop_nest.specs.Digraph.{Digraph}
use Rattle.loop_nest.specs.Nest.{NaturalLoop, IsLoopOf, headers_of}
use Rattle.loop_nest.proofs.Elements.{from_map}
use Rattle.section_check.specs.Section.{CertifiedLoop, Certified, IsInForm, listed}
use Rattle.section_check.specs.Placing.{IsEntryAt, IsInLoop}
use Rattle.section_check.specs.Renumbering.{moved, IsRenumbered, RenumberedStaysInForm}
use Rattle.path_solver.specs.Solution.{Solution}
use Rattle.certificates.specs.declared.lines.line.SectionKind.TheVariants.{Loops}
use Rattle.certificates.specs.Certificate.{IsLoopInText, IsSectionInText}
use Rattle.method_flow.specs.Keeping.{BoundOf}
use Rattle.bound_rules.specs.Fitting.{header_bound}
use Rattle.compact_walks.specs.Limited.{cycles_limit}
use Rattle.compact_walks.specs.Moving.{moved_natural}
use Rattle.compact_walks.specs.Solving.{IsShownWalk, fees_of}
use Rattle.compact_walks.proofs.Kept.{all_of}
use Rattle.compact_walks.proofs.Renumbering.{rising_moved}
use Rattle.compact_walks.proofs.Loops.{headers_moved}
use Rattle.bound_finder.specs.declared.found.Walked.{Walked}
use Rattle.bound_finder.specs.declared.found.Walked.TheVariants.{Never, Shown, Large}
use Rattle.bound_finder.specs.declared.prepared.Prepared.{Prepared}
use Rattle.bound_finder.specs.Prepared.{AreBounds, IsInShape, IsShapeOf, node_of, nest_of}
use Rattle.bound_finder.specs.Found.{IsSectionOf, IsWalked, costs_of, found_by, kind_of, known_by, problem_of, section_by}
use Rattle.bound_finder.specs.ShowLaws.{FoundInText}
use Rattle.bound_finder.proofs.ShowMoved.{headers_in, members_in, same_headers, same_members, marks_moved, from_listed, from_held, listed_node, held_node, nest_at, mark_at}
use Rattle.bound_finder.proofs.ShowNodes.{placed, nest_header}
use Rattle.bound_finder.proofs.Showing.{if_shown}

-- ---- lists

none_rises : IsStrictlyIncreasing []
none_rises k lt = absurd (omega arith)

some_member : (us : List ℕ) (u : ℕ) → Contains us u → 0 < length us
some_member us u has = let below = has.1 in omega arith

-- a header with a bound is an instruction
even_header : (bound_of : BoundOf) (m u : ℕ) → IsSome (header_bound bound_of m u) → u % 2 ≡ 0
even_header bound_of m u some = by (u % 2 == 0) refl some
  where
    by : (b : Bool) → (u % 2 == 0) ≡ b → IsSome (if b then bound_of m (u / 2) else None) → u % 2 ≡ 0
    by true e h = eqb-true (u % 2) 0 e
    by false e h = absurd (let bad : false ≡ true = h in cc)

module _ (stays : RenumberedStaysInForm) (bound_of : BoundOf) (m : ℕ) (p : Prepared) (fits : Bool) (method : m < 2 ^ 32) (few : p.shape.size ≤ 2 ^ 32) (in_shape : IsInShape p) (bounds : AreBounds bound_of m p.shape p.bounds.items) (same : p.fits ≡ fits)
    (solution : Solution) (shown : IsShownWalk (problem_of p) solution) (iterations : All (λ (l : CertifiedLoop). l.iteration_cost < cycles_limit) (moved (node_of p.shape) solution.section).loops) where
  abbrev node : ℕ → ℕ
  node = node_of p.shape

  abbrev d : Digraph
  d = p.shape.graph

  abbrev sec : Certified
  sec = moved node solution.section

  shape : IsShapeOf in_shape.shape.0 p.shape
  shape = in_shape.shape.1

  abbrev fees : List (Option ℕ)
  fees = map (λ n. Some n) (fees_of (problem_of p))

  -- ---- nodes

  small_node : (v : ℕ) → v < d.nodes → node v < p.shape.size
  small_node v below = let long = shape.long in shape.within v 0 (omega arith)

  -- the graph under the other numbers alone
  abbrev other : Digraph
  other = record { nodes = p.shape.size; edges = map (λ e. (node e.0, node e.1)) d.edges; exits = map node d.exits }

  renumbered : IsRenumbered d other node
  renumbered = record {
    digraph = shape.compact.digraph;
    entry = shape.compact.entry;
    within = small_node;
    rising = λ u v less below. shape.compact.rising u v below less;
    edges = λ x y e.
        let f = from_map (λ (c : ℕ × ℕ). (node c.0, node c.1)) d.edges (x, y) e in
        (f.0.0, f.0.1, f.1, ap (λ (c : ℕ × ℕ). c.0) f.2, ap (λ (c : ℕ × ℕ). c.1) f.2);
    exits = λ x has. from_map node d.exits x has;
  }

  form : IsInForm sec p.bounds.items fees
  form = stays d other node (costs_of p) solution.section p.bounds.items fees renumbered (shown.accepted in_shape.apart).0 shown.form

  listed_small : (u : ℕ) → Contains (listed sec.nodes) u → u < 2 ^ 32
  listed_small u has =
      let v = from_listed node solution.section u has in
      let less = small_node v.0 (listed_node node d solution.section p.bounds.items fees (placed p in_shape solution shown) v.0 v.1) in
      let is = v.2 in
      omega arith

  held_small : (u : ℕ) → IsInLoop sec.loops u → u < 2 ^ 32
  held_small u held =
      let v = from_held node solution.section u held in
      let less = small_node v.0 (held_node node d solution.section p.bounds.items fees (placed p in_shape solution shown) v.0 v.1) in
      let is = v.2 in
      omega arith

  -- ---- loops

  headers : headers_in sec.loops ≡ headers_of (nest_of p.shape)
  headers = same_headers node solution.section.loops p.shape.nest shown.loops.headers

  members : members_in sec.loops ≡ map (λ (k : NaturalLoop). k.members) (nest_of p.shape)
  members = same_members node solution.section.loops p.shape.nest shown.loops.members

  headers_rise : IsStrictlyIncreasing (headers_in sec.loops)
  headers_rise =
      subst IsStrictlyIncreasing (sym (headers ∙ headers_moved node p.shape.nest))
      (rising_moved d.nodes node shape.compact.rising (headers_of p.shape.nest) (nest_header p in_shape solution shown) shape.nest.rising)

  -- a loop of the nest, under the other numbers, has the header and the members
  loop_in_text : (l : CertifiedLoop) → Contains sec.loops l → IsLoopInText l
  loop_in_text l has =
      let at : IsEntryAt sec.loops has.0 l = (has.1, has.2) in
      let k = nest_at sec.loops (nest_of p.shape) members has.0 l at in
      let k0 = from_map (moved_natural node) p.shape.nest k.0 (has.0, k.1.0, k.1.1) in
      let loop = All-contains (IsLoopOf d) p.shape.nest k0.0 shape.nest.loops k0.1 in
      let own : Contains k0.0.members k0.0.header = (loop.members k0.0.header).1 (loop.header, inl refl) in
      let moved_own : Contains (map node k0.0.members) (node k0.0.header) = map_contains node k0.0.members k0.0.header own in
      let there : Contains l.members (node k0.0.header) = subst (λ (us : List ℕ). Contains us (node k0.0.header)) (ap (λ (x : NaturalLoop). x.members) k0.2 ∙ k.2) moved_own in
      let in_headers = subst (λ (hs : List ℕ). Contains hs l.header) headers (map_contains (λ (x : CertifiedLoop). x.header) sec.loops l has) in
      let c = from_map (λ (x : NaturalLoop). x.header) (nest_of p.shape) l.header in_headers in
      let some : IsSome (header_bound bound_of m c.0.header) = All-contains (λ (x : NaturalLoop). IsSome (header_bound bound_of m x.header)) (nest_of p.shape) c.0 bounds.bounded c.1 in
      let low = from_map node (headers_of p.shape.nest) l.header (subst (λ (hs : List ℕ). Contains hs l.header) (headers_moved node p.shape.nest) in_headers) in
      let less = small_node low.0 (nest_header p in_shape solution shown low.0 low.1) in
      let is = low.2 in
      record {
        instruction = even_header bound_of m l.header (subst (λ (x : ℕ). IsSome (header_bound bound_of m x)) c.2 some);
        header = omega arith;
        members = record {
          some = some_member l.members (node k0.0.header) there;
          rising = All-contains (λ (x : CertifiedLoop). IsStrictlyIncreasing x.members) sec.loops l form.members has;
          small = all_of (λ (u : ℕ). u < 2 ^ 32) l.members (λ u inside. held_small u (record { holder = l; among = has; inside = inside }));
        };
        cost = All-contains (λ (x : CertifiedLoop). x.iteration_cost < cycles_limit) sec.loops l iterations has;
      }

  region_kind : (l : CertifiedLoop) → Contains sec.loops l → l.region ≡ true → kind_of fits ≡ Loops
  region_kind l has region = by fits same
    where
      by : (b : Bool) → p.fits ≡ b → kind_of b ≡ Loops
      by true whole = absurd (in_shape.inside whole has.0 (mark_at sec.loops p.charges.flags.items (marks_moved node solution.section.loops ∙ shown.loops.marks) has.0 l (has.1, has.2) ∙ region))
      by false part = refl

  pub in_text : IsSectionInText 2 (record { kind = kind_of fits; method = m; section = sec })
  in_text = record {
    kind = λ e. refl;
    method = method;
    nodes = form.nodes;
    places = all_of (λ (u : ℕ). u < 2 ^ 32) (listed sec.nodes) listed_small;
    potentials = form.potentials;
    headers = headers_rise;
    loops = all_of IsLoopInText sec.loops loop_in_text;
    regions = all_of (λ (l : CertifiedLoop). l.region ≡ true → kind_of fits ≡ Loops) sec.loops region_kind;
  }

empty_in_text : (m : ℕ) (fits : Bool) → m < 2 ^ 32 → IsSectionInText 2 (record { kind = kind_of fits; method = m; section = record { nodes = []; loops = [] } })
empty_in_text m fits method = record {
  kind = λ e. refl;
  method = method;
  nodes = none_rises;
  places = All-nil (λ (u : ℕ). u < 2 ^ 32);
  potentials = λ k d lt. absurd (omega arith);
  headers = none_rises;
  loops = All-nil IsLoopInText;
  regions = λ k d lt. absurd (omega arith);
}

pub found_in_text : RenumberedStaysInForm → FoundInText
found_in_text stays bound_of m p fit walked method few in_shape bounds same w = by walked w
  where
    by : (walked : Walked) → IsWalked p walked → IfSome (found_by m fit walked).section (IsSectionOf m (found_by m fit walked).known)
    by Never w = record { method = refl; kind = refl; in_text = empty_in_text m fit.fits method }
    by (Shown value s) w =
        let all : All (λ (l : CertifiedLoop). l.iteration_cost < cycles_limit) (moved (node_of p.shape) w.solution.section).loops = subst (λ (c : Certified). All (λ (l : CertifiedLoop). l.iteration_cost < cycles_limit) c.loops) w.section_is w.iterations in
        let one = in_text stays bound_of m p fit.fits method few in_shape bounds same w.solution w.shown all in
        if_shown (IsSectionOf m (known_by fit value false)) (known_by fit value false).too_large (section_by m fit s)
        (record { method = refl; kind = refl; in_text = subst (λ (c : Certified). IsSectionInText 2 (section_by m fit c)) (sym w.section_is) one })
    by (Large value) w = tt
