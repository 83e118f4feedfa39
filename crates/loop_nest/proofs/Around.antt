-- Walks that don't visit a node, step by step.
use Rattle.std.proofs.Common.{◌≢◌, ℕ, List, [], ◌∷◌, Contains, subst, inl, inr}
use Rattle.lists.specs.Members.{at_head, in_tail, cons_cases, nil_contains, has_or_not}
use Rattle.loop_nest.specs.Digraph.{Digraph, Edge}
use Rattle.loop_nest.specs.Walks.{Walk, Dominates, LeadsAround}
use Rattle.loop_nest.specs.Walks.Walk.{stay, along}

-- a walk from a node to a node that doesn't visit h
pub data Around (g : Digraph) (h : ℕ) : ℕ → ℕ → Type 0 where
  rest : {u : ℕ} → u ≢ h → Around g h u u
  through : {u v w : ℕ} → u ≢ h → Edge g u v → Around g h v w → Around g h u w

pub ends_elsewhere : {g : Digraph} {h u v : ℕ} → Around g h u v → v ≢ h
ends_elsewhere (rest ne) = ne
ends_elsewhere (through ne e a) = ends_elsewhere a

pub joined : {g : Digraph} {h u v w : ℕ} → Around g h u v → Around g h v w → Around g h u w
joined (rest ne) b = b
joined (through ne e a) b = through ne e (joined a b)

pub joined_by : {g : Digraph} {h u v w x : ℕ} → Around g h u v → Edge g v w → Around g h w x → Around g h u x
joined_by a e b = joined a (through (ends_elsewhere a) e b)

pub around_from : {g : Digraph} {h u v : ℕ} {ns : List ℕ} → Walk g u v ns → (Contains ns h → ⊥) → Around g h u v
around_from {h} (stay {u}) never = rest (λ same. never (let P : ℕ → Type 0 = λ y. Contains (u ∷ []) y in subst P same (at_head u [])))
around_from {h} (along {u} {v} {w} {ns} e t) never =
    through (λ same. never (let P : ℕ → Type 0 = λ y. Contains (u ∷ ns) y in subst P same (at_head u ns))) e (around_from t (λ c. never (in_tail u h ns c)))

pub leads_around : {g : Digraph} {h u v : ℕ} → Around g h u v → LeadsAround g h u v
leads_around {g} {h} (rest {u} ne) =
    (u ∷ [], stay, λ c. elim (cons_cases u h [] c) [ inl same ↦ ne same | inr there ↦ nil_contains h there ])
leads_around {g} {h} (through {u} ne e a) =
    let r = leads_around a in
    (u ∷ r.0, along e r.1, λ c. elim (cons_cases u h r.0 c) [ inl same ↦ ne same | inr there ↦ r.2 there ])

pub end_visited : {g : Digraph} {u v : ℕ} {ns : List ℕ} → Walk g u v ns → Contains ns v
end_visited (stay {u}) = at_head u []
end_visited (along {u} {v} {w} {ns} e t) = in_tail u w ns (end_visited t)

pub not_around : {g : Digraph} {h u : ℕ} → Dominates g h u → Around g h 0 u → ⊥
not_around d a = let r = leads_around a in r.2 (d r.0 r.1)

pub dominates_from : {g : Digraph} {h u : ℕ} → (Around g h 0 u → ⊥) → Dominates g h u
dominates_from {g} {h} never = λ ns w. elim (has_or_not ns h) [ inl c ↦ c | inr none ↦ absurd (never (around_from w none)) ]
