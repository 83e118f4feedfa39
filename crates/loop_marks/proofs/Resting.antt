-- Nodes that are not on each iteration, since a walk that comes back without another node doesn't visit them.
use Rattle.std.proofs.Common.{◌≡◌, ℕ, Bool, true, false, List, [], ◌∷◌, All, Contains, subst, inl, inr}
use Rattle.std.proofs.lemmas.Bool.{both_ways, cases_Bool}
use Rattle.std.proofs.lemmas.List.Elements.{All-nil, All-cons, All-contains}
use Rattle.lists.specs.Members.{at_head, in_tail, cons_cases, nil_contains}
use Rattle.loop_nest.specs.Digraph.{Digraph, Edge}
use Rattle.loop_nest.specs.Walks.{Walk, IsMember}
use Rattle.loop_nest.specs.Walks.Walk.{stay, along}
use Rattle.loop_nest.specs.Laws.{EdgesToHeaderAreBackEdges}
use Rattle.loop_rules.specs.Iterations.{IsOnEachIteration, ReachesWithout}
use Rattle.loop_marks.specs.Reach.{flag_at}
use Rattle.loop_marks.specs.Marking.{IsRest, IsWithout}
use Rattle.loop_marks.proofs.Reaching.{last_visited, all_of}

-- one of the nodes is flagged, where not all are unflagged
pub one_flagged : (flags : List Bool) (us : List ℕ) → ¬ All (λ u. flag_at flags u ≡ false) us → (u : ℕ) × Contains us u × (flag_at flags u ≡ true)
one_flagged flags [] none = absurd (none (All-nil (λ u. flag_at flags u ≡ false)))
one_flagged flags (u ∷ us) none =
    elim (cases_Bool (flag_at flags u)) [
      | inl set' ↦ (u, at_head u us, set')
      | inr unset ↦
          let r = one_flagged flags us (λ all. none (All-cons (λ v. flag_at flags v ≡ false) u us unset all)) in
          (r.0, in_tail u r.0 us r.1, r.2)
    ]

-- the walk as far as to a node that it visits
prefix : {g : Digraph} {u v : ℕ} {ns : List ℕ} → Walk g u v ns → (z : ℕ) → Contains ns z → (ms : List ℕ) × Walk g u z ms × ((y : ℕ) → Contains ms y → Contains ns y)
prefix {g} (stay {u}) z has =
    elim (cons_cases u z [] has) [
      | inl same ↦ (u ∷ [], subst (λ (x : ℕ). Walk g u x (u ∷ [])) same stay, λ y h. h)
      | inr none ↦ absurd (nil_contains z none)
    ]
prefix {g} (along {u} {v} {w} {ns} e t) z has =
    elim (cons_cases u z ns has) [
      | inl same ↦ (u ∷ [], subst (λ (x : ℕ). Walk g u x (u ∷ [])) same stay, λ y h. elim (cons_cases u y [] h) [ inl is ↦ subst (Contains (u ∷ ns)) is (at_head u ns) | inr none ↦ absurd (nil_contains y none) ])
      | inr later ↦
          let r = prefix t z later in
          (u ∷ r.0, along e r.1, λ y h. elim (cons_cases u y r.0 h) [ inl is ↦ subst (Contains (u ∷ ns)) is (at_head u ns) | inr there ↦ in_tail u y ns (r.2 y there) ])
    ]

module _ (g : Digraph) (h x u : ℕ) (flags : List Bool) (is : IsWithout g h x flags) (edge : Edge g u h) (reached : flag_at flags u ≡ true) (back : EdgesToHeaderAreBackEdges) where
  way : ReachesWithout g h x u
  way = (is u).0 reached

  pub not_itself : ¬ IsOnEachIteration g h x
  not_itself t = t.passed u (back g h u (All-contains (IsMember g h) way.0 u way.2 (last_visited way.1)) edge) way

  pub rest_is : IsRest g h flags
  rest_is z out t =
      let member = All-contains (IsMember g h) way.0 u way.2 (last_visited way.1) in
      t.passed u (back g h u member edge) (
        way.0,
        way.1,
        way.2,
        λ has.
            let r = prefix way.1 z has in
            both_ways (flag_at flags z) out ((is z).1 (r.0, r.1, all_of (IsMember g h) r.0 (λ y inside. All-contains (IsMember g h) way.0 y way.2 (r.2 y inside)), λ visits. way.3 (r.2 x visits))),
      )
