-- Walks among the members of a loop without a node, as a search through allowed nodes finds them.
use Rattle.std.proofs.Common.{◌≡◌, ◌≢◌, ◌↔◌, ℕ, Bool, true, false, List, [], ◌∷◌, ◌++◌, get_or, set, All, Contains, sym, ap, ◌∙◌, subst, inl, inr}
use Rattle.std.proofs.lemmas.Bool.{cases_eq, false≢true}
use Rattle.std.proofs.lemmas.List.Elements.{All-contains, All-from_get_or, Contains-append_cases, Contains-get_or}
use Rattle.lists.specs.Members.{at_head, in_tail, cons_cases, nil_contains}
use Rattle.loop_nest.specs.Digraph.{Digraph, Edge}
use Rattle.loop_nest.specs.Walks.{Walk, IsMember}
use Rattle.loop_nest.specs.Walks.Walk.{stay, along}
use Rattle.loop_rules.specs.Iterations.{ReachesWithout}
use Rattle.loop_marks.specs.Reach.{Reaches, AreReached, flag_at}
use Rattle.loop_marks.specs.Reach.Reaches.{first, along as on_to}
use Rattle.loop_marks.specs.Marking.{IsWithout}
use Rattle.loop_marks.proofs.Flagging.{unset, unset_but}

visited : {g : Digraph} {u v : ℕ} {ns : List ℕ} → Walk g u v ns → Contains ns u
visited (stay {u}) = at_head u []
visited (along {u} {v} {w} {ns} e t) = at_head u ns

pub last_visited : {g : Digraph} {u v : ℕ} {ns : List ℕ} → Walk g u v ns → Contains ns v
last_visited (stay {u}) = at_head u []
last_visited (along {u} {v} {w} {ns} e t) = in_tail u w ns (last_visited t)

snoc : {g : Digraph} {a u v : ℕ} {ns : List ℕ} → Walk g a u ns → Edge g u v → Walk g a v (ns ++ v ∷ [])
snoc stay e = along e stay
snoc (along d t) e = along d (snoc t e)

pub all_of : (K : ℕ → Type 0) (ns : List ℕ) → ((y : ℕ) → Contains ns y → K y) → All K ns
all_of K ns each = All-from_get_or K ns 0 (λ i lt. each (get_or ns i 0) (Contains-get_or ns i 0 lt))

module _ (g : Digraph) (h x : ℕ) (members : List Bool) (is : (y : ℕ) → (flag_at members y ≡ true) ↔ IsMember g h y) where
  abbrev pub allowed : List Bool
  allowed = set members x false

  allows : (y : ℕ) → flag_at allowed y ≡ true → IsMember g h y × (y ≢ x)
  allows y at = elim (cases_eq y x) [
    | inl same ↦ absurd (false≢true (sym (ap (λ (z : ℕ). flag_at allowed z) same ∙ unset members x) ∙ at))
    | inr other ↦ ((is y).0 (sym (unset_but members x y other) ∙ at), other)
  ]

  allowed_is : (y : ℕ) → IsMember g h y → y ≢ x → flag_at allowed y ≡ true
  allowed_is y member other = unset_but members x y other ∙ (is y).1 member

  walked : {u : ℕ} → Reaches g allowed h u → ReachesWithout g h x u
  walked (first ok) =
      let a = allows h ok in (
        h ∷ [],
        stay,
        all_of (IsMember g h) (h ∷ []) (λ y has. elim (cons_cases h y [] has) [ inl same ↦ subst (IsMember g h) same a.0 | inr none ↦ absurd (nil_contains y none) ]),
        λ has.
            elim (cons_cases h x [] has) [ inl same ↦ a.1 same | inr none ↦ nil_contains x none ],
      )
  walked (on_to {u} {v} r e ok) =
      let w = walked r in
      let a = allows v ok in (
        w.0 ++ v ∷ [],
        snoc w.1 e,
        all_of (IsMember g h) (w.0 ++ v ∷ []) (λ y has.
            elim (Contains-append_cases w.0 (v ∷ []) y has) [
              | inl old ↦ All-contains (IsMember g h) w.0 y w.2 old
              | inr new ↦ elim (cons_cases v y [] new) [ inl same ↦ subst (IsMember g h) same a.0 | inr none ↦ absurd (nil_contains y none) ]
            ]),
        λ has.
            elim (Contains-append_cases w.0 (v ∷ []) x has) [
              | inl old ↦ w.3 old
              | inr new ↦ elim (cons_cases v x [] new) [ inl same ↦ a.1 same | inr none ↦ nil_contains x none ]
            ],
      )

  along_walk : {a u : ℕ} {ns : List ℕ} → Walk g a u ns → ((y : ℕ) → Contains ns y → flag_at allowed y ≡ true) → Reaches g allowed h a → Reaches g allowed h u
  along_walk stay all r = r
  along_walk (along {u} {v} {w} {ns} e t) all r = along_walk t (λ y has. all y (in_tail u y ns has)) (on_to r e (all v (in_tail u v ns (visited t))))

  searched : (u : ℕ) → ReachesWithout g h x u → Reaches g allowed h u
  searched u w =
      let all : (y : ℕ) → Contains w.0 y → flag_at allowed y ≡ true = λ y has. allowed_is y (All-contains (IsMember g h) w.0 y w.2 has) (λ same. w.3 (subst (Contains w.0) same has)) in
      along_walk w.1 all (first (all h (visited w.1)))

  pub without_is : (flags : List Bool) → AreReached g allowed h flags → IsWithout g h x flags
  without_is flags r u = (λ at. walked ((r u).0 at), λ w. (r u).1 (searched u w))
