-- The last write of a local variable, step by step backwards.
use Rattle.std.proofs.Common.{◌≡◌, ◌≢◌, ℕ, zero, suc, ◌+◌, ◌*◌, ◌<◌, ◌≤◌, List, [], ◌∷◌, length, get_or, Contains, refl, sym, ap, ◌∙◌, subst, inl, inr, arith}
use Rattle.lists.specs.Members.{cons_cases, nil_contains}
use Rattle.loop_nest.specs.Digraph.{Digraph, IsDigraph, Edge}
use Rattle.loop_nest.proofs.Ends.{ends_within}
use Rattle.path_solver.proofs.Apart.{few_apart}
use Rattle.loop_acts.specs.declared.effects.Act.{Act}
use Rattle.loop_acts.specs.Writing.{WritesAt}
use Rattle.loop_finder.specs.Setting.{IsOnlySource, LastWriteFrom}
use Rattle.loop_finder.specs.Setting.LastWriteFrom.{here, before}

pub half : (p q : ℕ) → 2 * p ≡ 2 * q → p ≡ q
half p q e = omega arith

module _ (acts : List Act) (g : Digraph) (k : ℕ) where
  abbrev pub Last : ℕ → ℕ → Type 0
  Last u p = LastWriteFrom acts g k u p

  abbrev pub NoWrite : ℕ → Type 0
  NoWrite u = (q : ℕ) → u ≡ 2 * q → ¬ WritesAt acts k q

  -- how many steps it takes
  pub depth : {u p : ℕ} → Last u p → ℕ
  depth (here e w) = 0
  depth (before none source t) = suc (depth t)

  source_one : (u v w z : ℕ) → u ≡ v → IsOnlySource g u w → IsOnlySource g v z → w ≡ z
  source_one u v w z same a b = sym (a.alone z (subst (λ (y : ℕ). Edge g z y) (sym same) b.edge))

  pub last_one : {u v p q : ℕ} → u ≡ v → Last u p → Last v q → p ≡ q
  last_one {p = p} {q = q} same (here e w) (here e' w') = half p q (sym e ∙ (same ∙ e'))
  last_one {p = p} same (here e w) (before none source t) = absurd (none p (sym same ∙ e) w)
  last_one {q = q} same (before none source t) (here e w) = absurd (none q (same ∙ e) w)
  last_one {u} {v} same (before {w = x} none source t) (before {w = y} none' source' t') = last_one (source_one u v x y same source source') t t'

  pub depth_one : {u v p q : ℕ} → u ≡ v → (a : Last u p) (b : Last v q) → depth a ≡ depth b
  unfolding depth
  depth_one same (here e w) (here e' w') = refl
  depth_one {p = p} same (here e w) (before none source t) = absurd (none p (sym same ∙ e) w)
  depth_one {q = q} same (before none source t) (here e w) = absurd (none q (same ∙ e) w)
  depth_one {u} {v} same (before {w = x} none source t) (before {w = y} none' source' t') = ap suc (depth_one (source_one u v x y same source source') t t')

  -- one step back
  pub stepped : {u p : ℕ} (w : ℕ) → NoWrite u → IsOnlySource g u w → (t : Last u p) → (s : Last w p) × (suc (depth s) ≡ depth t)
  unfolding depth
  stepped {p = p} w none source (here e x) = absurd (none p e x)
  stepped {u} {p} w none source (before {w = y} none' source' t) =
      let same = source_one u u y w refl source' source in
      let s : Last w p = subst (λ (z : ℕ). Last z p) same t in
      (s, ap suc (depth_one (sym same) s t))

  pub stops : {u p : ℕ} → NoWrite u → ((w : ℕ) → ¬ IsOnlySource g u w) → ¬ Last u p
  stops {p = p} none alone (here e w) = none p e w
  stops none alone (before {w = y} none' source t) = alone y source

  -- ---- it takes fewer steps than there are nodes

  nodes : {u p : ℕ} → Last u p → List ℕ
  nodes {u} (here e w) = u ∷ []
  nodes {u} (before none source t) = u ∷ nodes t

  long : {u p : ℕ} (t : Last u p) → length (nodes t) ≡ suc (depth t)
  unfolding depth nodes
  long (here e w) = refl
  long (before none source t) = ap suc (long t)

  -- node number i, and how many steps it takes from there
  node_at : {u p : ℕ} (t : Last u p) (i : ℕ) → i ≤ depth t → (v : ℕ) × (get_or (nodes t) i 0 ≡ v) × (s : Last v p) × (depth s + i ≡ depth t)
  unfolding depth nodes
  node_at {u} (here e w) zero le = (u, refl, here e w, refl)
  node_at (here e w) (suc i) le = absurd (omega arith)
  node_at {u} (before none source t) zero le = (u, refl, before none source t, omega arith)
  node_at (before none source t) (suc i) le =
      let r = node_at t i (omega arith) in
      let e = r.3 in
      (r.0, r.1, r.2, omega arith)

  apart : {u p : ℕ} (t : Last u p) (i j : ℕ) → i < j → j < length (nodes t) → get_or (nodes t) i 0 ≢ get_or (nodes t) j 0
  apart t i j less below same =
      let l = long t in
      let a = node_at t i (omega arith) in
      let b = node_at t j (omega arith) in
      let e = depth_one (sym a.1 ∙ (same ∙ b.1)) a.2 b.2 in
      let x = a.3 in
      let y = b.3 in
      absurd (omega arith)

  within : {u p : ℕ} → IsDigraph g → u < g.nodes → (t : Last u p) (y : ℕ) → Contains (nodes t) y → y < g.nodes
  unfolding nodes
  within {u} wf below (here e w) y has = elim (cons_cases u y [] has) [ inl same ↦ subst (λ (z : ℕ). z < g.nodes) same below | inr none ↦ absurd (nil_contains y none) ]
  within {u} wf below (before {w = w} none source t) y has =
      elim (cons_cases u y (nodes t) has) [
        | inl same ↦ subst (λ (z : ℕ). z < g.nodes) same below
        | inr later ↦ within wf (ends_within wf w u source.edge).0 t y later
      ]

  pub few_steps : {u p : ℕ} → IsDigraph g → u < g.nodes → (t : Last u p) → depth t < g.nodes
  few_steps wf below t =
      let few = few_apart (nodes t) g.nodes (λ i j less lt. apart t i j less lt) (within wf below t) in
      let l = long t in
      omega arith

  -- ---- the search

  -- after i steps the search has come from one node to another
  pub record IsCome (from node i : ℕ) : Type 0 where
    pub below : node < g.nodes
    pub on : (p : ℕ) (t : Last from p) → (s : Last node p) × (depth s + i ≡ depth t)
    pub back : (p : ℕ) → Last node p → Last from p

  pub come_first : (from : ℕ) → from < g.nodes → IsCome from from 0
  come_first from below = record { below = below; on = λ p t. (t, omega arith); back = λ p t. t }

  pub come_on : (from node i w : ℕ) → IsDigraph g → IsCome from node i → NoWrite node → IsOnlySource g node w → IsCome from w (i + 1)
  come_on from node i w wf c none source = record {
    below = (ends_within wf w node source.edge).0;
    on = λ p t.
        let a = c.on p t in
        let b = stepped w none source a.0 in
        let x = a.1 in
        let y = b.1 in
        (b.0, omega arith);
    back = λ p t. c.back p (before none source t);
  }

  pub come_stops : (from node i : ℕ) → IsCome from node i → NoWrite node → ((w : ℕ) → ¬ IsOnlySource g node w) → (p : ℕ) → ¬ Last from p
  come_stops from node i c none alone p t = stops none alone (c.on p t).0

  pub come_ends : (from node i : ℕ) → IsDigraph g → from < g.nodes → IsCome from node i → g.nodes ≤ i → (p : ℕ) → ¬ Last from p
  come_ends from node i wf below c all p t = let few = few_steps wf below t in let x = (c.on p t).1 in absurd (omega arith)
