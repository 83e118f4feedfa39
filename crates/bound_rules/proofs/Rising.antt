-- Lists that rise are told by what they contain; so are graphs, and the loops of a nest.
use Rattle.std.proofs.Common.{◌≡◌, ℕ, suc, ◌+◌, ◌*◌, ◌<◌, List, [], ◌∷◌, length, get_or, Contains, refl, sym, ap, ap₂, ◌∙◌, subst, inl, inr, arith}
use Rattle.std.specs.List.{AllAdjacentBelow}
use Rattle.std.specs.List.Sorted.{IsStrictlyIncreasing}
use Rattle.std.proofs.lemmas.List.Elements.{All-contains}
use Rattle.lists.specs.Members.{at_head, in_tail, cons_cases, nil_contains, heads, tails, rising_pair, place_of}
use Rattle.loop_nest.specs.Digraph.{Digraph, IsBefore}
use Rattle.loop_nest.specs.Walks.{IsHeader, IsMember}
use Rattle.loop_nest.specs.Nest.{NaturalLoop, headers_of, IsLoopOf, IsNest}
use Rattle.loop_nest.proofs.Elements.{from_map}
use Rattle.section_check.specs.Bounded.{BoundedLoop}
use Rattle.path_solver.specs.Longest.{bounded_loops}
use Rattle.bytecode_model.specs.Program.{Program, body_of}
use Rattle.method_flow.specs.Nodes.{Node}
use Rattle.method_flow.specs.Graphs.{IsGraphBy}
use Rattle.method_flow.specs.Live.{IsLiveEdge}
use Rattle.bound_rules.specs.Fitting.{header_bounds}
use Rattle.bound_rules.specs.Laws.{ChargedLoopsAreOne}
use Rattle.bound_rules.proofs.Owning.{both_hold}

-- ---- lists

-- each item is before all later ones
abbrev Rises : {X : Type 0} → (X → X → Type 0) → List X → Type 0
Rises R [] = Unit {0}
Rises {X} R (x ∷ xs) = ((y : X) → Contains xs y → R x y) × Rises R xs

module _ {X : Type 0} (R : X → X → Type 0) (never : (x : X) → R x x → ⊥) (through : (x y z : X) → R x y → R y z → R x z) where
  -- rising lists with the same items are one
  pub same_items : (xs ys : List X) → Rises R xs → Rises R ys → ((z : X) → Contains xs z → Contains ys z) → ((z : X) → Contains ys z → Contains xs z) → xs ≡ ys
  same_items [] [] a b to from = refl
  same_items [] (y ∷ ys) a b to from = absurd (nil_contains y (from y (at_head y ys)))
  same_items (x ∷ xs) [] a b to from = absurd (nil_contains x (to x (at_head x xs)))
  same_items (x ∷ xs) (y ∷ ys) a b to from =
      ap₂ (λ (z : X) (zs : List X). z ∷ zs) same
      (same_items xs ys a.1 b.1
      (λ z has. elim (cons_cases y z ys (to z (in_tail x z xs has))) [ inl here ↦ absurd (never x (subst (λ (w : X). R x w) (sym (same ∙ here)) (a.0 z has))) | inr there ↦ there ])
      (λ z has. elim (cons_cases x z xs (from z (in_tail y z ys has))) [ inl here ↦ absurd (never y (subst (λ (w : X). R y w) (sym (sym same ∙ here)) (b.0 z has))) | inr there ↦ there ]))
    where
      same : x ≡ y
      same =
          elim (cons_cases y x ys (to x (at_head x xs))) [
            | inl here ↦ sym here
            | inr behind ↦
                elim (cons_cases x y xs (from y (at_head y ys))) [
                  | inl here ↦ here
                  | inr before ↦ absurd (never x (through x y x (a.0 y before) (b.0 x behind)))
                ]
          ]

  adjacent_tail : (x : X) (xs : List X) → AllAdjacentBelow R (x ∷ xs) (length (x ∷ xs)) → AllAdjacentBelow R xs (length xs)
  adjacent_tail x xs h k d below =
      let e : suc k + 1 ≡ suc (k + 1) = omega arith in
      subst (λ (n : ℕ). R (get_or xs k d) (get_or (x ∷ xs) n d)) e (h (suc k) d (omega arith))

  head_before : (x : X) (xs : List X) → AllAdjacentBelow R (x ∷ xs) (length (x ∷ xs)) → (y : X) → Contains xs y → R x y
  head_before x [] h y has = absurd (nil_contains y has)
  head_before x (z ∷ zs) h y has =
      let next : R x z = h 0 x (omega arith) in
      elim (cons_cases z y zs has) [
        | inl here ↦ subst (λ (w : X). R x w) here next
        | inr there ↦ through x z y next (head_before z zs (adjacent_tail x (z ∷ zs) h) y there)
      ]

  pub from_adjacent : (xs : List X) → AllAdjacentBelow R xs (length xs) → Rises R xs
  from_adjacent [] h = tt
  from_adjacent (x ∷ xs) h = (head_before x xs h, from_adjacent xs (adjacent_tail x xs h))

increasing_tail : (x : ℕ) (xs : List ℕ) → IsStrictlyIncreasing (x ∷ xs) → IsStrictlyIncreasing xs
increasing_tail x xs h k below =
    let e : suc k + 1 ≡ suc (k + 1) = omega arith in
    subst (λ (n : ℕ). get_or xs k 0 < get_or (x ∷ xs) n 0) e (h (suc k) (omega arith))

from_increasing : (xs : List ℕ) → IsStrictlyIncreasing xs → Rises ◌<◌ xs
from_increasing [] h = tt
from_increasing (x ∷ xs) h = (λ y has. let at = place_of xs y has in let lt = rising_pair (x ∷ xs) h 0 (suc at.0) (omega arith) (let b = at.1 in omega arith) in subst (λ (w : ℕ). x < w) at.2 lt, from_increasing xs (increasing_tail x xs h))

pub same_numbers : (xs ys : List ℕ) → IsStrictlyIncreasing xs → IsStrictlyIncreasing ys → ((z : ℕ) → Contains xs z → Contains ys z) → ((z : ℕ) → Contains ys z → Contains xs z) → xs ≡ ys
same_numbers xs ys a b to from = same_items ◌<◌ (λ x lt. let bad : ⊥ = omega arith in bad) (λ x y z lt lt'. omega arith) xs ys (from_increasing xs a) (from_increasing ys b) to from

-- ---- graphs

never_before : (e : ℕ × ℕ) → IsBefore e e → ⊥
never_before e (inl less) = omega arith
never_before e (inr same) = let less = same.1 in omega arith

before_through : (a b c : ℕ × ℕ) → IsBefore a b → IsBefore b c → IsBefore a c
before_through a b c (inl x) (inl y) = inl (omega arith)
before_through a b c (inl x) (inr y) = let same = y.0 in inl (omega arith)
before_through a b c (inr x) (inl y) = let same = x.0 in inl (omega arith)
before_through a b c (inr x) (inr y) = let less = x.1 in let less' = y.1 in inr (x.0 ∙ y.0, omega arith)

module _ (IsEdgeIn : Node → Node → Type 0) (P : Program) (m : ℕ) where
  -- the graph of some edges is one
  pub one_graph : (g h : Digraph) → IsGraphBy IsEdgeIn P m g → IsGraphBy IsEdgeIn P m h → g ≡ h
  one_graph g h a b =
      let nodes = both_hold (body_of P m) (λ c. g.nodes ≡ 2 * length c.code) (λ c. h.nodes ≡ 2 * length c.code) a.size b.size in
      let edges : g.edges ≡ h.edges =
      same_items IsBefore never_before before_through g.edges h.edges (from_adjacent IsBefore never_before before_through g.edges a.digraph.edges.rising) (from_adjacent IsBefore never_before before_through h.edges b.digraph.edges.rising)
      (λ z has. (b.edges z.0 z.1).1 ((a.edges z.0 z.1).0 has)) (λ z has. (a.edges z.0 z.1).1 ((b.edges z.0 z.1).0 has))
      in
      let exits : g.exits ≡ h.exits = same_numbers g.exits h.exits a.digraph.exits.rising b.digraph.exits.rising (λ z has. (b.exits z).1 ((a.exits z).0 has)) (λ z has. (a.exits z).1 ((b.exits z).0 has)) in
      let first : g ≡ record { nodes = h.nodes; edges = g.edges; exits = g.exits } = ap (λ (n : ℕ). record { nodes = n; edges = g.edges; exits = g.exits }) (nodes.2 ∙ sym nodes.3) in
      let second : record { nodes = h.nodes; edges = g.edges; exits = g.exits } ≡ record { nodes = h.nodes; edges = h.edges; exits = g.exits } =
      ap (λ (es : List (ℕ × ℕ)). record { nodes = h.nodes; edges = es; exits = g.exits }) edges
      in
      let third : record { nodes = h.nodes; edges = h.edges; exits = g.exits } ≡ h = ap (λ (us : List ℕ). record { nodes = h.nodes; edges = h.edges; exits = us }) exits in
      first ∙ (second ∙ third)

-- ---- nests

-- the loops have the same headers and members, one by one
abbrev pub AreAlike : List NaturalLoop → List NaturalLoop → Type 0
AreAlike [] [] = Unit {0}
AreAlike [] (k ∷ ks) = ⊥
AreAlike (l ∷ ls) [] = ⊥
AreAlike (l ∷ ls) (k ∷ ks) = (l.header ≡ k.header) × (l.members ≡ k.members) × AreAlike ls ks

alike : (g : Digraph) (ls ks : List NaturalLoop) → headers_of ls ≡ headers_of ks → ((l : NaturalLoop) → Contains ls l → IsLoopOf g l) → ((k : NaturalLoop) → Contains ks k → IsLoopOf g k) → AreAlike ls ks
alike g [] [] e a b = tt
alike g [] (k ∷ ks) e a b = absurd (cc)
alike g (l ∷ ls) [] e a b = absurd (cc)
alike g (l ∷ ls) (k ∷ ks) e a b =
    let header : l.header ≡ k.header = heads l.header k.header (headers_of ls) (headers_of ks) e in
    let la = a l (at_head l ls) in
    let kb = b k (at_head k ks) in
    let members : l.members ≡ k.members =
    same_numbers l.members k.members la.rising kb.rising (λ x has. (kb.members x).1 (subst (λ (h : ℕ). IsMember g h x) header ((la.members x).0 has)))
    (λ x has. (la.members x).1 (subst (λ (h : ℕ). IsMember g h x) (sym header) ((kb.members x).0 has)))
    in
    (header, members, alike g ls ks (tails l.header k.header (headers_of ls) (headers_of ks) e) (λ x has. a x (in_tail l x ls has)) (λ x has. b x (in_tail k x ks has)))

headers_from : (g : Digraph) (ls : List NaturalLoop) → ((l : NaturalLoop) → Contains ls l → IsLoopOf g l) → (h : ℕ) → Contains (headers_of ls) h → IsHeader g h
headers_from g ls each h has = let r = from_map (λ (l : NaturalLoop). l.header) ls h has in subst (λ (x : ℕ). IsHeader g x) r.2 (each r.0 r.1).header

-- the loops of a graph are alike in each nest
pub one_nest : (g : Digraph) (ls ks : List NaturalLoop) → IsNest g ls → IsNest g ks → (headers_of ls ≡ headers_of ks) × AreAlike ls ks
one_nest g ls ks a b =
    let each_a : (l : NaturalLoop) → Contains ls l → IsLoopOf g l = λ l has. All-contains (IsLoopOf g) ls l a.loops has in
    let each_b : (k : NaturalLoop) → Contains ks k → IsLoopOf g k = λ k has. All-contains (IsLoopOf g) ks k b.loops has in
    let headers = same_numbers (headers_of ls) (headers_of ks) a.rising b.rising (λ h has. b.complete h (headers_from g ls each_a h has)) (λ h has. a.complete h (headers_from g ks each_b h has)) in
    (headers, alike g ls ks headers each_a each_b)

pub same_bounded : (ls ks : List NaturalLoop) (bounds fees : List ℕ) → AreAlike ls ks → bounded_loops ls bounds fees ≡ bounded_loops ks bounds fees
same_bounded [] [] bounds fees a = refl
same_bounded [] (k ∷ ks) bounds fees a = absurd a
same_bounded (l ∷ ls) [] bounds fees a = absurd a
same_bounded (l ∷ ls) (k ∷ ks) [] fees a = refl
same_bounded (l ∷ ls) (k ∷ ks) (b ∷ bs) [] a = refl
same_bounded (l ∷ ls) (k ∷ ks) (b ∷ bs) (f ∷ fs) (header, members, rest) =
    let one : record { header = l.header; members = l.members; bound = b; load = f } ≡ record { header = k.header; members = k.members; bound = b; load = f } =
    ap₂ (λ (h : ℕ) (us : List ℕ). record { header = h; members = us; bound = b; load = f }) header members
    in
    ap₂ (λ (x : BoundedLoop) (xs : List BoundedLoop). x ∷ xs) one (same_bounded ls ks bs fs rest)

pub charged_loops_are_one : ChargedLoopsAreOne
charged_loops_are_one P bound_of m a b fees =
    let graph : a.graph ≡ b.graph = one_graph (IsLiveEdge P m) P m a.graph b.graph a.is_live b.is_live in
    let nest = one_nest b.graph a.nest b.nest (subst (λ (g : Digraph). IsNest g a.nest) graph a.is_nest) b.is_nest in
    (nest.0, ap (λ (hs : List ℕ). bounded_loops a.nest (header_bounds bound_of m hs) fees) nest.0 ∙ same_bounded a.nest b.nest (header_bounds bound_of m (headers_of b.nest)) fees nest.1)
