-- Dominance by headers, the entry of loops, and their nesting.
use Rattle.std.proofs.Common.{◌≢◌, ℕ, ◌⊎◌, List, [], ◌∷◌, Contains, sym, ◌∙◌, subst, inl, inr, arith}
use Rattle.std.proofs.lemmas.Bool.{cases_eq}
use Rattle.lists.specs.Members.{cons_cases}
use Rattle.loop_nest.specs.Digraph.{Digraph}
use Rattle.loop_nest.specs.Walks.{Walk, IsReachable, IsMember}
use Rattle.loop_nest.specs.Walks.Walk.{stay, along}
use Rattle.loop_nest.specs.Laws.{HeaderDominatesMembers, LoopIsEnteredAtHeader, EdgesToHeaderAreBackEdges, LoopsAreNested}
use Rattle.loop_nest.proofs.Around.{Around, ends_elsewhere, joined, joined_by, around_from, leads_around, end_visited, not_around, dominates_from}
use Rattle.loop_nest.proofs.Around.Around.{rest, through}

pub header_dominates_members : HeaderDominatesMembers
header_dominates_members g h x m =
    elim m.1 [
      | inl same ↦ λ ns w. let P : ℕ → Type 0 = λ y. Contains ns y in subst P same (end_visited w)
      | inr r ↦ dominates_from (λ a. not_around r.back_edge.dominates (joined a (around_from r.leads.1 r.leads.2)))
    ]

pub loop_is_entered_at_header : LoopIsEnteredAtHeader
loop_is_entered_at_header g h u v e =
    elim e.inside.1 [
      | inl same ↦ same
      | inr r ↦
          elim (cases_eq u h) [
            | inl at_header ↦ absurd (e.outside (e.inside.0, inl at_header))
            | inr other ↦
                absurd (e.outside (e.inside.0, inr (record { source = r.source; back_edge = r.back_edge; leads = leads_around (through other e.edge (around_from r.leads.1 r.leads.2)) })))
          ]
    ]

pub edges_to_header_are_back_edges : EdgesToHeaderAreBackEdges
edges_to_header_are_back_edges g h u m e = record { edge = e; dominates = header_dominates_members g h u m }

-- the last of h and k on a walk that visits one of them leads to its end without the other
last_of : {g : Digraph} {u x : ℕ} {ns : List ℕ} (h k : ℕ) → h ≢ k → Walk g u x ns → Around g h k x ⊎ (Around g k h x ⊎ ((Contains ns h → ⊥) × (Contains ns k → ⊥)))
last_of {g} h k apart (stay {u}) =
    elim (cases_eq u h) [
      | inl at_h ↦ let P : ℕ → Type 0 = λ y. Around g k h y in inr (inl (subst P (sym at_h) (rest apart)))
      | inr not_h ↦
          elim (cases_eq u k) [
            | inl at_k ↦ let P : ℕ → Type 0 = λ y. Around g h k y in inl (subst P (sym at_k) (rest (λ same. apart (sym same))))
            | inr not_k ↦ inr (inr (single h u not_h, single k u not_k))
          ]
    ]
  where
    single : (h u : ℕ) → u ≢ h → Contains (u ∷ []) h → ⊥
    single h u ne c = elim (cons_cases u h [] c) [ inl same ↦ ne same | inr there ↦ let below = there.1 in omega arith ]
last_of {g} h k apart (along {u} {v} {w} {ns} e t) =
    elim (last_of h k apart t) [
      | inl a ↦ inl a
      | inr later ↦
          elim later [
            | inl b ↦ inr (inl b)
            | inr none ↦
                elim (cases_eq u h) [
                  | inl at_h ↦
                      let P : ℕ → Type 0 = λ y. Around g k y w in
                      inr (inl (subst P at_h (through (λ same. apart (sym at_h ∙ same)) e (around_from t none.1))))
                  | inr not_h ↦
                      elim (cases_eq u k) [
                        | inl at_k ↦
                            let P : ℕ → Type 0 = λ y. Around g h y w in
                            inl (subst P at_k (through not_h e (around_from t none.0)))
                        | inr not_k ↦
                            inr (inr (
                              λ c. elim (cons_cases u h ns c) [ inl same ↦ not_h same | inr there ↦ none.0 there ],
                              λ c. elim (cons_cases u k ns c) [ inl same ↦ not_k same | inr there ↦ none.1 there ],
                            ))
                      ]
                ]
          ]
    ]

-- a walk that visits h comes to h without k, or to k without h
pub first_of : {g : Digraph} {u x : ℕ} {ns : List ℕ} (h k : ℕ) → h ≢ k → Walk g u x ns → Contains ns h → Around g k u h ⊎ Around g h u k
first_of {g} h k apart (stay {u}) c =
    elim (cons_cases u h [] c) [
      | inl at_h ↦ let P : ℕ → Type 0 = λ y. Around g k y h in inl (subst P (sym at_h) (rest apart))
      | inr there ↦ let below = there.1 in absurd (omega arith)
    ]
first_of {g} h k apart (along {u} {v} {w} {ns} e t) c =
    elim (cases_eq u h) [
      | inl at_h ↦ let P : ℕ → Type 0 = λ y. Around g k y h in inl (subst P (sym at_h) (rest apart))
      | inr not_h ↦
          elim (cases_eq u k) [
            | inl at_k ↦ let P : ℕ → Type 0 = λ y. Around g h y k in inr (subst P (sym at_k) (rest (λ same. apart (sym same))))
            | inr not_k ↦
                elim (cons_cases u h ns c) [
                  | inl same ↦ absurd (not_h same)
                  | inr there ↦
                      elim (first_of h k apart t there) [
                        | inl a ↦ inl (through not_k e a)
                        | inr b ↦ inr (through not_h e b)
                      ]
                ]
          ]
    ]

-- a walk without k is one without h, too, or leads on from h without k
meets : {g : Digraph} {k u v : ℕ} (h : ℕ) → Around g k u v → Around g h u v ⊎ Around g k h v
meets {g} {k} h (rest {u} ne) =
    elim (cases_eq u h) [
      | inl at_h ↦ let P : ℕ → Type 0 = λ y. Around g k y u in inr (subst P at_h (rest ne))
      | inr not_h ↦ inl (rest not_h)
    ]
meets {g} {k} h (through {u} {v} {w} ne e a) =
    elim (cases_eq u h) [
      | inl at_h ↦ let P : ℕ → Type 0 = λ y. Around g k y w in inr (subst P at_h (through ne e a))
      | inr not_h ↦
          elim (meets h a) [
            | inl b ↦ inl (through not_h e b)
            | inr b ↦ inr b
          ]
    ]

-- where k leads to the common member without h, the loop of k is within the loop of h
within : (g : Digraph) (h k x : ℕ) → h ≢ k → IsReachable g x → IsMember g h x → IsMember g k x → Around g h k x → (y : ℕ) → IsMember g k y → IsMember g h y
within g h k x apart reached in_h in_k last y in_k_y =
    elim in_h.1 [
      | inl same ↦ absurd (ends_elsewhere last same)
      | inr r ↦
          let to_source : Around g h k r.source = joined last (around_from r.leads.1 r.leads.2) in
          let member : (z : ℕ) → Around g h z r.source → IsMember g h z =
          λ z a. (in_h.0, inr (record { source = r.source; back_edge = r.back_edge; leads = leads_around a })) in
          elim in_k_y.1 [
            | inl at_k ↦ let P : ℕ → Type 0 = λ z. IsMember g h z in subst P (sym at_k) (member k to_source)
            | inr s ↦
                elim (meets h (around_from s.leads.1 s.leads.2)) [
                  | inl around ↦ member y (joined_by around s.back_edge.edge to_source)
                  | inr from_h ↦
                      elim (first_of h k apart reached.1 (header_dominates_members g h x in_h reached.0 reached.1)) [
                        | inl first ↦ absurd (not_around s.back_edge.dominates (joined first from_h))
                        | inr first ↦ absurd (not_around (header_dominates_members g h x in_h) (joined first last))
                      ]
                ]
          ]
    ]

pub loops_are_nested_lem : LoopsAreNested
loops_are_nested_lem g h k x reached in_h in_k =
    elim (cases_eq h k) [
      | inl same ↦ inl (λ y m. let P : ℕ → Type 0 = λ z. IsMember g z y in subst P same m)
      | inr apart ↦
          elim (last_of h k apart reached.1) [
            | inl last ↦ inr (within g h k x apart reached in_h in_k last)
            | inr later ↦
                elim later [
                  | inl last ↦ inl (within g k h x (λ e. apart (sym e)) reached in_k in_h last)
                  | inr none ↦ absurd (none.0 (header_dominates_members g h x in_h reached.0 reached.1))
                ]
          ]
    ]
