-- Walks that visit no node twice, and parts of walks.
use Rattle.std.proofs.Common.{◌≡◌, ℕ, List, [], ◌∷◌, ◌++◌, Contains, refl, sym, subst, inl, inr}
use Rattle.std.proofs.lemmas.List.Elements.{Contains-append_right}
use Rattle.lists.specs.Members.{cons_cases, nil_contains, has_or_not}
use Rattle.loop_nest.specs.Digraph.{Digraph}
use Rattle.loop_nest.specs.Walks.{Walk}
use Rattle.loop_nest.specs.Walks.Walk.{stay, along}

abbrev pub VisitsOnce : List ℕ → Type 0
VisitsOnce [] = Unit {0}
VisitsOnce (u ∷ ns) = (Contains ns u → ⊥) × VisitsOnce ns

pub record SimpleWalk (g : Digraph) (u x : ℕ) : Type 0 where
  pub nodes : List ℕ
  pub walk : Walk g u x nodes
  pub once : VisitsOnce nodes

-- the part that begins with a node of the walk
cut : {g : Digraph} {v x : ℕ} {ns : List ℕ} (u : ℕ) → Walk g v x ns → VisitsOnce ns → Contains ns u → SimpleWalk g u x
cut {g} u (stay {u = v}) once has =
    elim (cons_cases v u [] has) [
      | inl same ↦ let P : ℕ → Type 0 = λ z. SimpleWalk g z v in subst P same (record { nodes = v ∷ []; walk = stay; once = once })
      | inr there ↦ absurd (nil_contains u there)
    ]
cut {g} u (along {u = v} {w = x} {ns} e t) once has =
    elim (cons_cases v u ns has) [
      | inl same ↦ let P : ℕ → Type 0 = λ z. SimpleWalk g z x in subst P same (record { nodes = v ∷ ns; walk = along e t; once = once })
      | inr there ↦ cut u t once.1 there
    ]

-- where a walk leads, one leads that visits no node twice
pub simple_walk : {g : Digraph} {u x : ℕ} {ns : List ℕ} → Walk g u x ns → SimpleWalk g u x
simple_walk (stay {u}) = record { nodes = u ∷ []; walk = stay; once = (λ c. nil_contains u c, tt) }
simple_walk (along {u} {v} {w} {ns} e t) =
    let s = simple_walk t in
    elim (has_or_not s.nodes u) [
      | inl has ↦ cut u s.walk s.once has
      | inr new ↦ record { nodes = u ∷ s.nodes; walk = along e s.walk; once = (new, s.once) }
    ]

pub begins : {g : Digraph} {u v : ℕ} {ns : List ℕ} → Walk g u v ns → (rest : List ℕ) × (ns ≡ u ∷ rest)
begins (stay {u}) = ([], refl)
begins (along {u} {v} {w} {ns} e t) = (ns, refl)

no_more : (ys : List ℕ) (u : ℕ) (rest : List ℕ) → [] ≡ ys ++ u ∷ rest → ⊥
no_more [] u rest is = cc
no_more (y ∷ ys) u rest is = cc

-- the part of a walk up to a node that it visits
pub walk_until : {g : Digraph} {a x : ℕ} {ns : List ℕ} → Walk g a x ns → (before : List ℕ) (u : ℕ) (rest : List ℕ) → ns ≡ before ++ u ∷ rest → Walk g a u (before ++ u ∷ [])
walk_until {g} {a} w [] u rest is =
    let b = begins w in
    let same : u ≡ a = cc (b.1, is) in
    let P : ℕ → Type 0 = λ z. Walk g z u (u ∷ []) in
    subst P same stay
walk_until (stay {u = a}) (y ∷ ys) u rest is = absurd (no_more ys u rest cc)
walk_until {g} (along {u = a} {v} {w} {ns} e t) (y ∷ ys) u rest is =
    let same : a ≡ y = cc in
    let tail : ns ≡ ys ++ u ∷ rest = cc in
    let P : ℕ → Type 0 = λ z. Walk g a u (z ∷ (ys ++ u ∷ [])) in
    subst P same (along e (walk_until t ys u rest tail))

-- the part of a walk from a node on that it visits
pub walk_from : {g : Digraph} {a x : ℕ} {ns : List ℕ} → Walk g a x ns → (before : List ℕ) (u : ℕ) (rest : List ℕ) → ns ≡ before ++ u ∷ rest → Walk g u x (u ∷ rest)
walk_from {g} {a} {x} w [] u rest is =
    let b = begins w in
    let same : a ≡ u = cc (b.1, is) in
    let P : List ℕ → Type 0 = λ zs. Walk g a x zs in
    let Q : ℕ → Type 0 = λ z. Walk g z x (u ∷ rest) in
    subst Q same (subst P is w)
walk_from (stay {u = a}) (y ∷ ys) u rest is = absurd (no_more ys u rest cc)
walk_from {g} (along {u = a} {v} {w} {ns} e t) (y ∷ ys) u rest is =
    let tail : ns ≡ ys ++ u ∷ rest = cc in walk_from t ys u rest tail

-- a node that stands in both parts is visited twice
pub not_in_both : (xs ys : List ℕ) (h : ℕ) → VisitsOnce (xs ++ ys) → Contains xs h → Contains ys h → ⊥
not_in_both [] ys h once c d = nil_contains h c
not_in_both (x ∷ xs) ys h once c d =
    elim (cons_cases x h xs c) [
      | inl same ↦ once.0 (let P : ℕ → Type 0 = λ z. Contains (xs ++ ys) z in subst P (sym same) (Contains-append_right xs ys h d))
      | inr there ↦ not_in_both xs ys h once.1 there d
    ]
