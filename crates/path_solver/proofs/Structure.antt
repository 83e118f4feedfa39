-- How the loops of a nest lie, where the edges in a topological order lead, and the order of its nodes.
use Rattle.std.proofs.Common.{◌≡◌, ◌≢◌, ℕ, zero, suc, ◌<◌, ◌⊎◌, Bool, List, [], ◌∷◌, length, get_or, take, Contains, refl, sym, ap, ◌∙◌, subst, inl, inr, arith}
use Rattle.std.proofs.lemmas.Bool.{cases_eq}
use Rattle.std.proofs.lemmas.List.{get_or_default}
use Rattle.std.proofs.lemmas.List.Elements.{All-contains, Contains-get_or}
use Rattle.lists.specs.Members.{cons_cases, nil_contains, has_or_not}
use Rattle.loop_nest.specs.Digraph.{Digraph, Edge}
use Rattle.loop_nest.specs.Walks.{Walk, Dominates, IsReachable, IsBackEdge, IsMember}
use Rattle.loop_nest.specs.Walks.Walk.{stay, along}
use Rattle.loop_nest.specs.Nest.{NaturalLoop, IsLoopOf}
use Rattle.loop_nest.proofs.Ends.{ends_within}
use Rattle.loop_nest.proofs.Searching.{sources_has}
use Rattle.path_solver.specs.declared.topology.TopologicalOrder.{TopologicalOrder}
use Rattle.path_solver.specs.Reaching.{IsFlagged}
use Rattle.path_solver.specs.Distances.{sources_at}
use Rattle.path_solver.specs.LoopCosts.{IsLed, AreLed}
use Rattle.path_solver.specs.Problem.{IsProblem}
use Rattle.path_solver.proofs.Onward.{back_edge_closes}
use Rattle.path_solver.proofs.Orderly.{source_edge, listed_sources}
use Rattle.path_solver.proofs.Order.{take_grows, taken_at}
use Rattle.path_solver.proofs.Growing.{flagged_below}
use Rattle.path_solver.proofs.Fewer.{fewer_within}
use Rattle.path_solver.proofs.Headers.{start_within, numbers_apart, before_at}
use Rattle.path_solver.proofs.Loops.{same_place}

module _ (g : Digraph) (loops : List NaturalLoop) (flags : List Bool) (p : TopologicalOrder) (h : IsProblem g loops flags p) where
  loop_of : (l : NaturalLoop) → Contains loops l → IsLoopOf g l
  loop_of l has = All-contains (IsLoopOf g) loops l h.nest.loops has

  is_member : (l : NaturalLoop) (x : ℕ) → Contains loops l → Contains l.members x → IsMember g l.header x
  is_member l x has inside = ((loop_of l has).members x).0 inside

  has_member : (l : NaturalLoop) (x : ℕ) → Contains loops l → IsMember g l.header x → Contains l.members x
  has_member l x has member = ((loop_of l has).members x).1 member

  dominates : (l : NaturalLoop) (x : ℕ) → Contains loops l → Contains l.members x → Dominates g l.header x
  dominates l x has inside = h.laws.dominates g l.header x (is_member l x has inside)

  reached : (x : ℕ) → x < g.nodes → IsReachable g x
  reached x below = h.laws.reached g h.digraph h.reducible x below

  pub own_header : (l : NaturalLoop) → Contains loops l → Contains l.members l.header
  own_header l has = has_member l l.header has ((loop_of l has).header, inl refl)

  pub entered_at_header : (l : NaturalLoop) (u v : ℕ) → Contains loops l → Edge g u v → Contains l.members v → (Contains l.members u → ⊥) → v ≡ l.header
  entered_at_header l u v has e inside outside =
      h.laws.entered g l.header u v (record { edge = e; outside = λ m. outside (has_member l u has m); inside = is_member l v has inside })

  pub entry_heads : (l : NaturalLoop) → Contains loops l → Contains l.members 0 → l.header ≡ 0
  entry_heads l has inside =
      elim (cons_cases 0 l.header [] (dominates l 0 has inside (0 ∷ []) stay)) [ inl same ↦ sym same | inr there ↦ absurd (nil_contains l.header there) ]

  pub members_below : (l : NaturalLoop) (x : ℕ) → Contains loops l → Contains l.members x → x < g.nodes
  members_below l x has inside =
      let m = is_member l x has inside in
      elim m.1 [
        | inl same ↦
            let P : ℕ → Type 0 = λ z. z < g.nodes in
            subst P (sym same) (ends_within h.digraph m.0.0 l.header m.0.1.edge).1
        | inr r ↦ start_within h.digraph r.leads.1 (ends_within h.digraph r.source l.header r.back_edge.edge).0
      ]

  -- no two loops hold each other's header
  pub mutual_same : (l k : NaturalLoop) → Contains loops l → Contains loops k → Contains l.members k.header → Contains k.members l.header → k.header ≡ l.header
  mutual_same l k has has' a b =
      h.laws.antisymmetric g k.header l.header (reached k.header (members_below l k.header has a)) (dominates k l.header has' b) (dominates l k.header has a)

  pub header_decides : (l k : NaturalLoop) → Contains loops l → Contains loops k → k.header ≡ l.header → k ≡ l
  header_decides l k has has' same =
      let places : has'.0 ≡ has.0 = same_place loops h.nest.rising has'.0 has.0 k l (has'.1, has'.2) (has.1, has.2) same in
      sym has'.2 ∙ get_or_default loops has'.0 k l has'.1 ∙ ap (λ (i : ℕ). get_or loops i l) places ∙ has.2

  -- a loop that holds the header of another one holds all of it
  pub holds_all : (l k : NaturalLoop) (x : ℕ) → Contains loops l → Contains loops k → Contains k.members l.header → Contains l.members x → Contains k.members x
  holds_all l k x has has' inner inside =
      let at = own_header l has in
      elim (h.laws.nested g l.header k.header l.header (reached l.header (members_below l l.header has at)) (is_member l l.header has at) (is_member k l.header has' inner)) [
        | inl within ↦ has_member k x has' (within x (is_member l x has inside))
        | inr around ↦
            let in_l : Contains l.members k.header = has_member l k.header has (around k.header (is_member k k.header has' (own_header k has'))) in
            let same : k ≡ l = header_decides l k has has' (mutual_same l k has has' in_l inner) in
            let P : NaturalLoop → Type 0 = λ m. Contains m.members x in
            subst P (sym same) inside
      ]

  -- of two loops with a common member one holds the other's header
  pub nested : (l k : NaturalLoop) (x : ℕ) → Contains loops l → Contains loops k → Contains l.members x → Contains k.members x → Contains k.members l.header ⊎ Contains l.members k.header
  nested l k x has has' a b =
      elim (h.laws.nested g l.header k.header x (reached x (members_below l x has a)) (is_member l x has a) (is_member k x has' b)) [
        | inl within ↦ inl (has_member k l.header has' (within l.header (is_member l l.header has (own_header l has))))
        | inr around ↦ inr (has_member l k.header has (around k.header (is_member k k.header has' (own_header k has'))))
      ]

  pub listed_below : (u : ℕ) → IsFlagged flags u → u < g.nodes
  listed_below u flag = let long = h.reaching.long in let low = flagged_below flags u flag in omega arith

  pub listed_source : (u v : ℕ) → Edge g u v → IsFlagged flags v → IsFlagged flags u
  listed_source u v e flag =
      let r = (h.reaching.each v).0 flag in
      (h.reaching.each u).1 (record { exit = r.exit; among = r.among; nodes = u ∷ r.nodes; walk = along e r.walk })

  -- every node from which a walk leads to a listed one is listed
  listed_walk : {u v : ℕ} {ns : List ℕ} → Walk g u v ns → IsFlagged flags v → IsFlagged flags u
  listed_walk stay flag = flag
  listed_walk (along {u} {v} {w} {ns} e t) flag = listed_source u v e (listed_walk t flag)

  pub listed_exit : (u : ℕ) → Contains g.exits u → IsFlagged flags u
  listed_exit u exit = (h.reaching.each u).1 (record { exit = u; among = exit; nodes = u ∷ []; walk = stay })

  -- either all members of a loop are listed or none is
  pub listed_member : (l : NaturalLoop) (x : ℕ) → Contains loops l → IsFlagged flags l.header → Contains l.members x → IsFlagged flags x
  listed_member l x has flag inside =
      elim ((is_member l x has inside).1) [
        | inl same ↦ let P : ℕ → Type 0 = λ z. IsFlagged flags z in subst P (sym same) flag
        | inr r ↦ listed_walk r.leads.1 (listed_source r.source l.header r.back_edge.edge flag)
      ]

  pub listed_header : (l : NaturalLoop) (x : ℕ) → Contains loops l → IsFlagged flags x → Contains l.members x → IsFlagged flags l.header
  listed_header l x has flag inside =
      let r = reached x (members_below l x has inside) in
      listed_walk (h.laws.leads_on g 0 x l.header r.0 r.1 (dominates l x has inside r.0 r.1)).1 flag

  abbrev pub forward : ℕ → List ℕ
  forward u = sources_at p.forward u

  abbrev pub back : ℕ → List ℕ
  back u = sources_at p.back u

  -- q heads no loop that holds u: an edge from u to q closes no loop
  abbrev pub GoesOn : ℕ → ℕ → Type 0
  GoesOn u q = (l : NaturalLoop) → Contains loops l → l.header ≡ q → Contains l.members u → ⊥

  pub forward_edge : (q u : ℕ) → Contains (forward u) q → Edge g q u × IsFlagged flags q × IsFlagged flags u × GoesOn q u
  forward_edge q u has =
      let t = (h.topology.are_onward q u).0 (source_edge h.topology.onward g.nodes p.forward h.topology.forward_sources q u has) in
      (t.0, listed_source q u t.0 t.1.0, t.1.0, λ l among same inside. t.1.1 (record { loop = l; among = among; header = same; member = inside }))

  pub back_edge : (q u : ℕ) → Contains (back u) q → Edge g q u × IsFlagged flags q × IsFlagged flags u × ((l : NaturalLoop) × Contains loops l × (l.header ≡ u) × Contains l.members q)
  back_edge q u has =
      let t = (h.topology.are_backward q u).0 (source_edge h.topology.backward g.nodes p.back h.topology.back_sources q u has) in
      let b = t.1.1 in
      (t.0, listed_source q u t.0 t.1.0, t.1.0, (b.loop, b.among, b.header, b.member))

  pub is_forward : (q u : ℕ) → Edge g q u → IsFlagged flags u → GoesOn q u → Contains (forward u) q
  is_forward q u e flag on =
      let es = h.topology.onward in
      let P : List ℕ → Type 0 = λ qs. Contains qs q in
      let kept : Contains es (q, u) = (h.topology.are_onward q u).1 (e, (flag, λ t. on t.loop t.among t.header t.member)) in
      subst P (sym (listed_sources es g.nodes p.forward h.topology.forward_sources u (listed_below u flag))) (sources_has es q u kept)

  pub is_back : (q u : ℕ) (l : NaturalLoop) → Edge g q u → IsFlagged flags u → Contains loops l → l.header ≡ u → Contains l.members q → Contains (back u) q
  is_back q u l e flag has same inside =
      let es = h.topology.backward in
      let P : List ℕ → Type 0 = λ qs. Contains qs q in
      let kept : Contains es (q, u) = (h.topology.are_backward q u).1 (e, (flag, record { loop = l; among = has; header = same; member = inside })) in
      subst P (sym (listed_sources es g.nodes p.back h.topology.back_sources u (listed_below u flag))) (sources_has es q u kept)

  -- every listed node but the entry is reached by an edge that closes no loop, and the entry by none
  pub is_arrived_at : (u : ℕ) → IsFlagged flags u → u ≢ 0 → (q : ℕ) × Contains (forward u) q
  is_arrived_at u flag other =
      let r = reached u (listed_below u flag) in
      let by = h.laws.comes_by g 0 u r.0 r.1 other in
      let q = by.0 in
      let P : ℕ → Type 0 = λ z. Dominates g z q in
      let on : GoesOn q u = λ l has same inside. by.2.2 (subst P same (dominates l q has inside) by.2.0 by.2.1) in
      (q, is_forward q u by.1 flag on)

  pub entry_not_arrived_at : (q : ℕ) → Contains (forward 0) q → ⊥
  entry_not_arrived_at q has =
      let f = forward_edge q 0 has in
      let back : IsBackEdge g q 0 = record { edge = f.0; dominates = h.laws.entry g q } in
      let iteration = back_edge_closes g loops h.nest q 0 back in
      f.3 iteration.loop iteration.among iteration.header iteration.member

  pub in_order : (u : ℕ) → IsFlagged flags u → Contains p.order.items u
  in_order u flag = (h.topology.ordered.each u).1 flag

  pub from_order : (u : ℕ) → Contains p.order.items u → IsFlagged flags u
  from_order u has = (h.topology.ordered.each u).0 has

  -- the source of an edge that closes no loop stands earlier
  stands_before : (q j : ℕ) → j < length p.order.items → Contains (forward (get_or p.order.items j 0)) q → (k : ℕ) × (k < j) × (k < length p.order.items) × (get_or p.order.items k 0 ≡ q)
  stands_before q j lt has =
      let order = p.order.items in
      taken_at order j q (h.topology.ordered.before q j lt (source_edge h.topology.onward g.nodes p.forward h.topology.forward_sources q (get_or order j 0) has))

  -- the same at the first n places of the order
  up_to : (P : ℕ → Type 0) → ((u : ℕ) → IsFlagged flags u → ((q : ℕ) → Contains (forward u) q → P q) → P u) → (n j : ℕ) → j < n → j < length p.order.items → P (get_or p.order.items j 0)
  up_to P step zero j lt inside = absurd (omega arith)
  up_to P step (suc n) j lt inside =
      let order = p.order.items in
      step (get_or order j 0) (from_order (get_or order j 0) (Contains-get_or order j 0 inside)) (λ q has.
      let s = stands_before q j inside has in
      let less = s.1 in
      let Q : ℕ → Type 0 = P in
      subst Q s.3 (up_to P step n s.0 (omega arith) s.2))

  -- what holds of a node as soon as it holds of all from which edges lead forward to it holds of every listed node
  pub onward : (P : ℕ → Type 0) → ((u : ℕ) → IsFlagged flags u → ((q : ℕ) → Contains (forward u) q → P q) → P u) → (u : ℕ) → IsFlagged flags u → P u
  onward P step u flag =
      let at = in_order u flag in
      let Q : ℕ → Type 0 = P in
      subst Q (get_or_default p.order.items at.0 0 u at.1 ∙ at.2) (up_to P step (suc at.0) at.0 (omega arith) at.1)

  -- the same of the loops with fewer than n members
  smaller : (P : NaturalLoop → Type 0) → ((l : NaturalLoop) → Contains loops l → ((k : NaturalLoop) → Contains loops k → Contains l.members k.header → k.header ≢ l.header → P k) → P l) → (n : ℕ) (l : NaturalLoop) → Contains loops l → length l.members < n → P l
  smaller P step zero l has few = absurd (omega arith)
  smaller P step (suc n) l has few =
      step l has (λ k has' inner other.
      let out : Contains k.members l.header → ⊥ = λ outer. other (mutual_same l k has has' inner outer) in
      let fewer =
      fewer_within k.members l.members l.header (numbers_apart k.members (loop_of k has').rising) (λ x inside. holds_all k l x has' has inner inside) (own_header l has) out
      in
      smaller P step n k has' (omega arith))

  -- what holds of a loop as soon as it holds of all loops whose headers are its members holds of every loop
  pub inward : (P : NaturalLoop → Type 0) → ((l : NaturalLoop) → Contains loops l → ((k : NaturalLoop) → Contains loops k → Contains l.members k.header → k.header ≢ l.header → P k) → P l) → (l : NaturalLoop) → Contains loops l → P l
  inward P step l has = smaller P step (suc (length l.members)) l has (omega arith)

  module _ (l : NaturalLoop) (has : Contains loops l) where
    -- at every place of the node the header stands before it, where it is another member
    IsBehind : ℕ → Type 0
    IsBehind u = (j : ℕ) → j < length p.order.items → get_or p.order.items j 0 ≡ u → Contains l.members u → u ≢ l.header → Contains (take j p.order.items) l.header

    behind : (u : ℕ) → IsFlagged flags u → ((q : ℕ) → Contains (forward u) q → IsBehind q) → IsBehind u
    unfolding IsBehind
    behind u flag earlier j lt at inside other =
        let P : ℕ → Type 0 = λ z. Contains l.members z in
        let by = is_arrived_at u flag (λ none. other (none ∙ sym (entry_heads l has (subst P none inside)))) in
        let q = by.0 in
        let f = forward_edge q u by.1 in
        let F : ℕ → Type 0 = λ z. Contains (forward z) q in
        let s = stands_before q j lt (subst F (sym at) by.1) in
        let less = s.1 in
        elim (cases_eq q l.header) [
          | inl same ↦ before_at p.order.items j s.0 l.header less s.2 (s.3 ∙ same)
          | inr apart ↦
              elim (has_or_not l.members q) [
                | inl inside_q ↦ take_grows p.order.items s.0 j l.header (omega arith) (earlier q by.1 s.0 s.2 s.3 inside_q apart)
                | inr outside ↦ absurd (other (entered_at_header l q u has f.0 inside outside))
              ]
        ]

    led_by : Contains p.order.items l.header → IsLed p.order.items l
    unfolding IsBehind
    led_by at = record {
      members = record {
        rising = (loop_of l has).rising;
        heads = own_header l has;
        listed = λ u inside. in_order u (listed_member l u has (from_order l.header at) inside);
      };
      first = λ j lt inside other.
          let u = get_or p.order.items j 0 in
          onward IsBehind behind u (from_order u (Contains-get_or p.order.items j 0 lt)) j lt refl inside other;
    }

  pub led : AreLed p.order.items loops
  led l has at = led_by l has at
