-- Distances, node by node.
use Rattle.std.proofs.Common.{◌≡◌, ℕ, ◌+◌, ◌<◌, ◌≤◌, List, [], ◌∷◌, ◌++◌, length, get_or, set, take, Contains, refl, sym, ap, ◌∙◌, subst, inl, inr, arith}
use Rattle.std.proofs.lemmas.List.{length-set, get_or-set_same, get_or-set_other, get_or_default}
use Rattle.std.proofs.lemmas.List.Elements.{All-set, Contains-append_left, Contains-push, Contains-push_cases}
use Rattle.lists.specs.Members.{nil_contains}
use Rattle.path_solver.specs.Ordering.{AreApart}
use Rattle.path_solver.specs.Distances.{distance_limit, limited, AreLimited, IsMost, cost_through, IsReachedBy, AreSpread, LeadForward}
use Rattle.path_solver.proofs.Order.{take_grows, taken_at}
use Rattle.path_solver.proofs.Most.{most_same}

pub spread_none : (src : ℕ → List ℕ) (costs fees dist : List ℕ) → AreLimited dist → AreSpread src costs fees [] dist dist
spread_none src costs fees dist lim = record {
  long = refl;
  limited = lim;
  each = λ u has. absurd (nil_contains u has);
  others = λ u out. refl;
}

module _ (src : ℕ → List ℕ) (costs fees nodes old now : List ℕ) (i : ℕ) (lt : i < length nodes) (apart : AreApart nodes) (forward : LeadForward src nodes) (h : AreSpread src costs fees (take i nodes) old now) where
  abbrev here : ℕ
  here = get_or nodes i 0

  -- this node is none of those before
  fresh : Contains (take i nodes) here → ⊥
  fresh has = let r = taken_at nodes i here has in apart r.0 i r.1 lt r.3

  -- no edge leads from this node to itself or to one of those before
  never : (p j : ℕ) → j ≤ i → Contains (src (get_or nodes j 0)) p → p ≡ here → ⊥
  never p j le edge same =
      let P : ℕ → Type 0 = λ z. Contains nodes z in
      let Q : ℕ → Type 0 = λ z. Contains (take i nodes) z in
      let r = forward p j (let e : j < length nodes = omega arith in e) edge (subst P (sym same) (i, lt, get_or_default nodes i here 0 lt)) in
      fresh (subst Q same (take_grows nodes j i p le r))

  module _ (x arriving : ℕ) (inside : here < length now) (small : x ≤ distance_limit) (most : IsMost (cost_through costs now) (src here) arriving) (is : x ≡ limited (arriving + get_or fees here 0)) where
    abbrev next : List ℕ
    next = set now here x

    elsewhere : (v : ℕ) → (v ≡ here → ⊥) → get_or next v 0 ≡ get_or now v 0
    elsewhere v other = get_or-set_other now here v x 0 other

    through : (v : ℕ) → (v ≡ here → ⊥) → cost_through costs next v ≡ cost_through costs now v
    through v other = ap (λ (d : ℕ). limited (get_or costs v 0 + d)) (elsewhere v other)

    reached : (u : ℕ) → u ≡ here → IsReachedBy src costs fees next u
    reached u same =
        let P : ℕ → Type 0 = λ z. IsReachedBy src costs fees next z in
        subst P (sym same) (record {
          arriving = arriving;
          most = most_same (cost_through costs now) (cost_through costs next) (src here) arriving (λ p has. through p (never p i (let e : i ≤ i = omega arith in e) has)) most;
          is = get_or-set_same now here x 0 inside ∙ is;
        })

    before : (u : ℕ) → Contains (take i nodes) u → IsReachedBy src costs fees next u
    before u has =
        let r = h.each u has in
        let t = taken_at nodes i u has in
        let P : ℕ → Type 0 = λ z. Contains (take i nodes) z in
        let a = t.1 in
        let E : (p : ℕ) → ℕ → Type 0 = λ p z. Contains (src z) p in
        record {
          arriving = r.arriving;
          most = most_same (cost_through costs now) (cost_through costs next) (src u) r.arriving (λ p c. through p (never p t.0 (omega arith) (subst (E p) (sym t.3) c))) r.most;
          is = elsewhere u (λ same. fresh (subst P same has)) ∙ r.is;
        }

    pub spread_more : AreSpread src costs fees (take i nodes ++ here ∷ []) old next
    spread_more = record {
      long = length-set now here x ∙ h.long;
      limited = All-set (λ d. d ≤ distance_limit) now here x small h.limited;
      each = λ u has.
          elim (Contains-push_cases (take i nodes) here u has) [
            | inl done ↦ before u done
            | inr same ↦ reached u (sym same)
          ];
      others = λ u out.
          elsewhere u (λ same. out (let P : ℕ → Type 0 = λ z. Contains (take i nodes ++ here ∷ []) z in subst P (sym same) (Contains-push (take i nodes) here)))
          ∙ h.others u (λ has. out (Contains-append_left (take i nodes) (here ∷ []) u has));
    }
