-- From where classes are entered, edge by edge.
use Rattle.std.proofs.Common.{◌≡◌, ◌≢◌, ℕ, ◌⊎◌, cond, List, [], ◌∷◌, ◌++◌, Contains, refl, sym, ap, ◌∙◌, subst, inl, inr}
use Rattle.std.proofs.lemmas.Bool.{cases_eq, eq-eqb, ne_eqb}
use Rattle.std.proofs.lemmas.List.Elements.{Contains-append_left, Contains-push, Contains-push_cases}
use Rattle.loop_nest.specs.declared.merging.Entered.{Entered}
use Rattle.loop_nest.specs.declared.merging.Entered.TheVariants.{Nowhere, From, FromSeveral}
use Rattle.loop_nest.specs.Entered.{entered_and_from, IsNotEntered, IsEnteredFromOne, IsEnteredFromTwo, IsEnteredAs}

module _ (es : List (ℕ × ℕ)) (c : ℕ → ℕ) (x u v : ℕ) where
  -- an edge that is not one more is an old one or the new one
  edge_cases : (a b : ℕ) → Contains (es ++ (u, v) ∷ []) (a, b) → Contains es (a, b) ⊎ ((a ≡ u) × (b ≡ v))
  edge_cases a b has =
      elim (Contains-push_cases es (u, v) (a, b) has) [
        | inl old ↦ inl old
        | inr same ↦ inr (ap (λ z. z.0) (sym same), ap (λ z. z.1) (sym same))
      ]

  not_entered_on : (c v ≡ x → c u ≡ x) → IsNotEntered es c x → IsNotEntered (es ++ (u, v) ∷ []) c x
  not_entered_on new h = λ a b has at.
      elim (edge_cases a b has) [
        | inl old ↦ h a b old at
        | inr same ↦ ap c same.0 ∙ new (ap c (sym same.1) ∙ at)
      ]

  one_on : (p : ℕ) → (c v ≡ x → (c u ≡ x) ⊎ (c u ≡ p)) → IsEnteredFromOne es c p x → IsEnteredFromOne (es ++ (u, v) ∷ []) c p x
  one_on p new h = record {
    other = h.other;
    source = h.source;
    target = h.target;
    edge = Contains-append_left es ((u, v) ∷ []) (h.source, h.target) h.edge;
    leaves = h.leaves;
    enters = h.enters;
    alone = λ a b has at.
        elim (edge_cases a b has) [
          | inl old ↦ h.alone a b old at
          | inr same ↦
              elim (new (ap c (sym same.1) ∙ at)) [
                | inl inside ↦ inl (ap c same.0 ∙ inside)
                | inr outside ↦ inr (ap c same.0 ∙ outside)
              ]
        ];
  }

  two_on : IsEnteredFromTwo es c x → IsEnteredFromTwo (es ++ (u, v) ∷ []) c x
  two_on h = record {
    source = h.source;
    target = h.target;
    edge = Contains-append_left es ((u, v) ∷ []) (h.source, h.target) h.edge;
    outside = h.outside;
    enters = h.enters;
    other_source = h.other_source;
    other_target = h.other_target;
    other_edge = Contains-append_left es ((u, v) ∷ []) (h.other_source, h.other_target) h.other_edge;
    other_outside = h.other_outside;
    other_enters = h.other_enters;
    differ = h.differ;
  }

  -- an edge that doesn't enter the class from outside
  pub skipped_over : (e : Entered) → (c v ≡ x → c u ≡ x) → IsEnteredAs es c x e → IsEnteredAs (es ++ (u, v) ∷ []) c x e
  skipped_over Nowhere new h = not_entered_on new h
  skipped_over (From p) new h = one_on p (λ at. inl (new at)) h
  skipped_over FromSeveral new h = two_on h

  -- an edge that does
  pub one_more : (e : Entered) → c v ≡ x → c u ≢ x → IsEnteredAs es c x e → IsEnteredAs (es ++ (u, v) ∷ []) c x (entered_and_from e (c u))
  one_more Nowhere enters outside h = record {
    other = λ same. outside (sym same);
    source = u;
    target = v;
    edge = Contains-push es (u, v);
    leaves = refl;
    enters = enters;
    alone = λ a b has at.
        elim (edge_cases a b has) [
          | inl old ↦ inl (h a b old at)
          | inr same ↦ inr (ap c same.0)
        ];
  }
  one_more (From p) enters outside h =
      let P : Entered → Type 0 = λ e. IsEnteredAs (es ++ (u, v) ∷ []) c x e in
      elim (cases_eq p (c u)) [
        | inl same ↦
            subst P (sym (ap (λ b. cond b (From p) FromSeveral) (eq-eqb p (c u) same))) (one_on p (λ _. inr (sym same)) h)
        | inr differ ↦
            subst P (sym (ap (λ b. cond b (From p) FromSeveral) (ne_eqb p (c u) differ)))
            (record {
              source = h.source;
              target = h.target;
              edge = Contains-append_left es ((u, v) ∷ []) (h.source, h.target) h.edge;
              outside = λ inside. h.other (sym inside ∙ h.leaves);
              enters = h.enters;
              other_source = u;
              other_target = v;
              other_edge = Contains-push es (u, v);
              other_outside = outside;
              other_enters = enters;
              differ = λ same. differ (sym h.leaves ∙ same);
            })
      ]
  one_more FromSeveral enters outside h = two_on h
