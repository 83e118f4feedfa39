-- Lists of ints by place, as loops fill them and take from them.
use Rattle.std.proofs.Common.{◌≡◌, ◌≢◌, ◌↔◌, ℕ, zero, suc, ◌<◌, ℤ, List, [], ◌∷◌, ◌++◌, length, map, set, replicate, Contains, Option, Some, None, refl, sym, ap, ◌∙◌, subst, inl, inr, arith}
use Rattle.std.specs.Prelude.{slice_get, slice_set}
use Rattle.std.proofs.lemmas.Bool.{cases_eq, cases_lt}
use Rattle.std.proofs.lemmas.List.{get_or-set_other, get_or-set_same, get_or-replicate, length-set, length-replicate}
use Rattle.std.proofs.lemmas.List.Elements.{Contains-push, Contains-push_cases, Contains-append_left}
use Rattle.std.proofs.Math.ListN.{get_or-eq_default}
use Rattle.lists.specs.Lists.{onto}
use Rattle.lists.proofs.Lemmas.{none≢some, some_same}
use Rattle.lists.specs.Members.{nil_contains}
use Rattle.loop_rules.specs.Sites.{int_at}
use Rattle.program_sites.specs.Ints.Places.{AreIntsOf, AreLeft, without}

-- ---- one place

at_same : (xs : List (Option ℤ)) (p : ℕ) (o : Option ℤ) → p < length xs → int_at (slice_set xs p o) p ≡ o
at_same xs p o lt = get_or-set_same xs p o None lt

at_other : (xs : List (Option ℤ)) (p q : ℕ) (o : Option ℤ) → q ≢ p → int_at (slice_set xs p o) q ≡ int_at xs q
at_other xs p q o other = get_or-set_other xs p q o None other

at_none : (xs : List (Option ℤ)) (p : ℕ) → int_at (slice_set xs p None) p ≡ None
at_none xs p =
    elim (cases_lt p (length xs)) [
      | inl lt ↦ at_same xs p None lt
      | inr ge ↦ get_or-eq_default (set xs p None) None (let nothing : Option ℤ = None in let long = length-set xs p nothing in omega arith)
    ]

-- ---- filled

module _ (value : ℕ → Option ℤ) where
  pub filled_first : (n : ℕ) → AreIntsOf value [] (replicate n None)
  filled_first n p c = (λ is. absurd (none≢some c (sym nothing ∙ is)), λ h. absurd (nil_contains p h.0))
    where
      nothing : int_at (replicate n None) p ≡ None
      nothing =
          elim (cases_lt p n) [
            | inl lt ↦ get_or-replicate n p None None lt
            | inr ge ↦ get_or-eq_default (replicate n None) None (let nothing : Option ℤ = None in let long : length (replicate n nothing) ≡ n = length-replicate n nothing in omega arith)
          ]

  pub filled_more : (ps : List ℕ) (xs : List (Option ℤ)) (p : ℕ) → AreIntsOf value ps xs → p < length xs → AreIntsOf value (ps ++ p ∷ []) (slice_set xs p (value p))
  filled_more ps xs p h lt q c =
      elim (cases_eq p q) [
        | inl same ↦
            let here : int_at (slice_set xs p (value p)) q ≡ value q = ap (int_at (slice_set xs p (value p))) (sym same) ∙ at_same xs p (value p) lt ∙ ap value same in
            (λ is. (subst (λ (z : ℕ). Contains (ps ++ p ∷ []) z) same (Contains-push ps p), sym here ∙ is), λ has. here ∙ has.1)
        | inr other ↦
            let there : int_at (slice_set xs p (value p)) q ≡ int_at xs q = at_other xs p q (value p) (λ e. other (sym e)) in (
              λ is. let o = (h q c).0 (sym there ∙ is) in (Contains-append_left ps (p ∷ []) q o.0, o.1),
              λ has.
                  elim (Contains-push_cases ps p q has.0) [
                    | inl in_ps ↦ there ∙ (h q c).1 (in_ps, has.1)
                    | inr same ↦ absurd (other same)
                  ],
            )
      ]

-- ---- taken from

module _ (gone : ℕ → Option ℕ) (old : List (Option ℤ)) where
  pub left_first : AreLeft gone [] old old
  left_first = (refl, λ f c. (λ is. (is, λ p has. absurd (nil_contains p has)), λ h. h.0))

  more_goes : (ps : List ℕ) (p f : ℕ) → ((q : ℕ) → Contains ps q → ¬ (gone q ≡ Some f)) → ¬ (gone p ≡ Some f) → (q : ℕ) → Contains (ps ++ p ∷ []) q → ¬ (gone q ≡ Some f)
  more_goes ps p f none here q has is =
      elim (Contains-push_cases ps p q has) [
        | inl there ↦ none q there is
        | inr same ↦ here (ap gone same ∙ is)
      ]

  pub left_more : (ps : List ℕ) (xs : List (Option ℤ)) (p : ℕ) → AreLeft gone ps old xs → AreLeft gone (ps ++ p ∷ []) old (without xs (gone p))
  left_more ps xs p h = by (gone p) refl
    where
      by : (o : Option ℕ) → gone p ≡ o → AreLeft gone (ps ++ p ∷ []) old (without xs o)
      by None e = (
        h.0,
        λ f c. (
          λ is. let o = (h.1 f c).0 is in (o.0, more_goes ps p f o.1 (λ bad. none≢some f (sym e ∙ bad))),
          λ k. (h.1 f c).1 (k.0, λ q has. k.1 q (Contains-append_left ps (p ∷ []) q has)),
        ),
      )
      by (Some g) e = (length-set xs g None ∙ h.0, λ f c. taken g e f c)
        where
          taken : (g : ℕ) → gone p ≡ Some g → (f : ℕ) (c : ℤ) → (int_at (slice_set xs g None) f ≡ Some c) ↔ ((int_at old f ≡ Some c) × ((q : ℕ) → Contains (ps ++ p ∷ []) q → ¬ (gone q ≡ Some f)))
          taken g e f c =
              elim (cases_eq g f) [
                | inl same ↦ (
                  λ is. absurd (none≢some c (sym (at_none xs g) ∙ ap (int_at (slice_set xs g None)) same ∙ is)),
                  λ k. absurd (k.1 p (Contains-push ps p) (e ∙ ap Some same)),
                )
                | inr other ↦
                    let there : int_at (slice_set xs g None) f ≡ int_at xs f = at_other xs g f None (λ e. other (sym e)) in (
                      λ is. let o = (h.1 f c).0 (sym there ∙ is) in (o.0, more_goes ps p f o.1 (λ bad. other (some_same g f (sym e ∙ bad)))),
                      λ k. there ∙ (h.1 f c).1 (k.0, λ q has. k.1 q (Contains-append_left ps (p ∷ []) q has)),
                    )
              ]

-- what comes of the items
pub int_at-map : {A : Type 0} (g : A → Option ℤ) (xs : List A) (f : ℕ) → int_at (map g xs) f ≡ onto (slice_get xs f) g
int_at-map g [] f = refl
int_at-map g (x ∷ xs) zero = refl
int_at-map g (x ∷ xs) (suc f) = int_at-map g xs f
