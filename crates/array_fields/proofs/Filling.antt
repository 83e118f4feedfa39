-- Lists of ints by place, as a loop fills them.
use Rattle.std.proofs.Common.{◌≡◌, ℕ, ◌<◌, ℤ, List, [], ◌∷◌, ◌++◌, length, replicate, Contains, Option, None, sym, ap, ◌∙◌, subst, inl, inr, arith}
use Rattle.std.specs.Prelude.{slice_set}
use Rattle.std.proofs.lemmas.Bool.{cases_eq, cases_lt}
use Rattle.std.proofs.lemmas.List.{get_or-set_other, get_or-set_same, get_or-replicate, length-replicate}
use Rattle.std.proofs.lemmas.List.Elements.{Contains-push, Contains-push_cases, Contains-append_left}
use Rattle.std.proofs.Math.ListN.{get_or-eq_default}
use Rattle.lists.proofs.Lemmas.{none≢some}
use Rattle.lists.specs.Members.{nil_contains}
use Rattle.loop_rules.specs.Further.Arrays.{length_at}
use Rattle.array_fields.specs.Lengths.{AreIntsOf}

module _ (value : ℕ → Option ℤ) where
  pub filled_first : (n : ℕ) → AreIntsOf value [] (replicate n None)
  filled_first n p c = (λ is. absurd (none≢some c (sym nothing ∙ is)), λ h. absurd (nil_contains p h.0))
    where
      nothing : length_at (replicate n None) p ≡ None
      nothing =
          elim (cases_lt p n) [
            | inl lt ↦ get_or-replicate n p None None lt
            | inr ge ↦ get_or-eq_default (replicate n None) None (let nothing : Option ℤ = None in let long : length (replicate n nothing) ≡ n = length-replicate n nothing in omega arith)
          ]

  pub filled_more : (ps : List ℕ) (xs : List (Option ℤ)) (p : ℕ) → AreIntsOf value ps xs → p < length xs → AreIntsOf value (ps ++ p ∷ []) (slice_set xs p (value p))
  filled_more ps xs p h lt q c =
      elim (cases_eq p q) [
        | inl same ↦
            let here : length_at (slice_set xs p (value p)) q ≡ value q = ap (length_at (slice_set xs p (value p))) (sym same) ∙ get_or-set_same xs p (value p) None lt ∙ ap value same in
            (λ is. (subst (λ (z : ℕ). Contains (ps ++ p ∷ []) z) same (Contains-push ps p), sym here ∙ is), λ has. here ∙ has.1)
        | inr other ↦
            let there : length_at (slice_set xs p (value p)) q ≡ length_at xs q = get_or-set_other xs p q (value p) None (λ e. other (sym e)) in (
              λ is. let o = (h q c).0 (sym there ∙ is) in (Contains-append_left ps (p ∷ []) q o.0, o.1),
              λ has.
                  elim (Contains-push_cases ps p q has.0) [
                    | inl in_ps ↦ there ∙ (h q c).1 (in_ps, has.1)
                    | inr same ↦ absurd (other same)
                  ],
            )
      ]
