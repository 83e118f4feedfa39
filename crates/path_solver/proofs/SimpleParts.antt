-- Of each walk a part that visits no node twice, with the same ends, and which takes no other edges.
use Rattle.std.proofs.Common.{◌≡◌, ℕ, ◌⊎◌, List, [], ◌∷◌, ◌++◌, Contains, sym, ap, ◌∙◌, subst, inl, inr}
use Rattle.lists.specs.Members.{cons_cases, nil_contains, has_or_not}
use Rattle.loop_nest.specs.Digraph.{Digraph}
use Rattle.loop_nest.specs.Walks.{Walk, TakesEdge}
use Rattle.loop_nest.specs.Walks.Walk.{stay, along}
use Rattle.loop_nest.proofs.SimpleWalks.{VisitsOnce, begins}

pub record SimplePart (g : Digraph) (u x : ℕ) (ns : List ℕ) : Type 0 where
  pub nodes : List ℕ
  pub walk : Walk g u x nodes
  pub once : VisitsOnce nodes
  pub part : (a b : ℕ) → TakesEdge nodes a b → TakesEdge ns a b

pub later : (u a b : ℕ) (ns : List ℕ) → TakesEdge ns a b → TakesEdge (u ∷ ns) a b
later u a b ns k = (u ∷ k.0, k.1, ap (λ (zs : List ℕ). u ∷ zs) k.2)

-- the part that begins with a node of the walk
cut : {g : Digraph} {v x : ℕ} {ns : List ℕ} (u : ℕ) → Walk g v x ns → VisitsOnce ns → Contains ns u → SimplePart g u x ns
cut {g} u (stay {u = v}) once has =
    elim (cons_cases v u [] has) [
      | inl same ↦ let P : ℕ → Type 0 = λ z. SimplePart g z v (v ∷ []) in subst P same (record { nodes = v ∷ []; walk = stay; once = once; part = λ a b k. k })
      | inr there ↦ absurd (nil_contains u there)
    ]
cut {g} u (along {u = v} {v = w} {w = x} {ns} e t) once has =
    elim (cons_cases v u ns has) [
      | inl same ↦ let P : ℕ → Type 0 = λ z. SimplePart g z x (v ∷ ns) in subst P same (record { nodes = v ∷ ns; walk = along e t; once = once; part = λ a b k. k })
      | inr there ↦
          let r = cut u t once.1 there in
          record { nodes = r.nodes; walk = r.walk; once = r.once; part = λ a b k. later v a b ns (r.part a b k) }
    ]

-- an edge that is taken first, or later
first_or_later : (u a b : ℕ) (ns before after : List ℕ) → u ∷ ns ≡ before ++ a ∷ b ∷ after → ((a ≡ u) × (ns ≡ b ∷ after)) ⊎ TakesEdge ns a b
first_or_later u a b ns [] after is = inl (cc, cc)
first_or_later u a b ns (p ∷ ps) after is = inr (ps, after, cc)

longer_part : (u a b v : ℕ) (ns ms r s : List ℕ) → ns ≡ v ∷ r → ms ≡ v ∷ s → ((x y : ℕ) → TakesEdge ms x y → TakesEdge ns x y) → TakesEdge (u ∷ ms) a b → TakesEdge (u ∷ ns) a b
longer_part u a b v ns ms r s head_ns head_ms part k =
    elim (first_or_later u a b ms k.0 k.1 k.2) [
      | inl at ↦
          let target : v ≡ b = cc (head_ms, at.1) in
          let source : u ≡ a = sym at.0 in
          ([], r, ap (λ (zs : List ℕ). u ∷ zs) head_ns ∙ ap (λ (z : ℕ). z ∷ v ∷ r) source ∙ ap (λ (z : ℕ). a ∷ z ∷ r) target)
      | inr there ↦ later u a b ns (part a b there)
    ]

pub simple_part : {g : Digraph} {u x : ℕ} {ns : List ℕ} → Walk g u x ns → SimplePart g u x ns
simple_part (stay {u}) = record { nodes = u ∷ []; walk = stay; once = (λ c. nil_contains u c, tt); part = λ a b k. k }
simple_part (along {u} {v} {w} {ns} e t) =
    let s = simple_part t in
    elim (has_or_not s.nodes u) [
      | inl has ↦
          let r = cut u s.walk s.once has in
          record { nodes = r.nodes; walk = r.walk; once = r.once; part = λ a b k. later u a b ns (s.part a b (r.part a b k)) }
      | inr new ↦
          let p = begins t in
          let q = begins s.walk in
          record { nodes = u ∷ s.nodes; walk = along e s.walk; once = (new, s.once); part = λ a b k. longer_part u a b v ns s.nodes p.0 q.0 p.1 q.1 s.part k }
    ]
