-- The list of all back edges, edge by edge.
use Rattle.std.proofs.Common.{◌≡◌, ℕ, ◌↔◌, List, [], ◌∷◌, ◌++◌, Contains, sym, subst, inl, inr}
use Rattle.std.proofs.lemmas.List.Elements.{Contains-append_left, Contains-push, Contains-push_cases}
use Rattle.loop_nest.specs.Digraph.{Digraph, Edge}
use Rattle.loop_nest.specs.Walks.{IsBackEdge}
use Rattle.loop_nest.proofs.Classes.{start_visited}

-- these are the back edges among the first edges
abbrev pub FoundIn : Digraph → List (ℕ × ℕ) → List (ℕ × ℕ) → Type 0
FoundIn g es found = (u v : ℕ) → Contains found (u, v) ↔ (Contains es (u, v) × IsBackEdge g u v)

pub to_entry : (g : Digraph) (u v : ℕ) → v ≡ 0 → Edge g u v → IsBackEdge g u v
to_entry g u v at e =
    record { edge = e; dominates = λ ns w. let P : ℕ → Type 0 = λ z. Contains ns z in subst P (sym at) (start_visited w) }

pub found_push : (g : Digraph) (es found : List (ℕ × ℕ)) (e : ℕ × ℕ) → IsBackEdge g e.0 e.1 → FoundIn g es found → FoundIn g (es ++ e ∷ []) (found ++ e ∷ [])
found_push g es found e b h u v = (
  λ has.
      elim (Contains-push_cases found e (u, v) has) [
        | inl old ↦ let r = (h u v).0 old in (Contains-append_left es (e ∷ []) (u, v) r.0, r.1)
        | inr same ↦
            let P : ℕ × ℕ → Type 0 = λ z. Contains (es ++ e ∷ []) z × IsBackEdge g z.0 z.1 in
            subst P same (Contains-push es e, b)
      ],
  λ r.
      elim (Contains-push_cases es e (u, v) r.0) [
        | inl old ↦ Contains-append_left found (e ∷ []) (u, v) ((h u v).1 (old, r.1))
        | inr same ↦ let P : ℕ × ℕ → Type 0 = λ z. Contains (found ++ e ∷ []) z in subst P same (Contains-push found e)
      ],
)

pub found_skip : (g : Digraph) (es found : List (ℕ × ℕ)) (e : ℕ × ℕ) → (IsBackEdge g e.0 e.1 → ⊥) → FoundIn g es found → FoundIn g (es ++ e ∷ []) found
found_skip g es found e off h u v = (
  λ has. let r = (h u v).0 has in (Contains-append_left es (e ∷ []) (u, v) r.0, r.1),
  λ r.
      elim (Contains-push_cases es e (u, v) r.0) [
        | inl old ↦ (h u v).1 (old, r.1)
        | inr same ↦ let P : ℕ × ℕ → Type 0 = λ z. IsBackEdge g z.0 z.1 in absurd (off (subst P (sym same) r.1))
      ],
)
