-- The edges that enter a node, looked at one after another.
use Rattle.std.proofs.Common.{◌≡◌, ◌≢◌, ℕ, ◌+◌, ◌<◌, ◌↔◌, Bool, true, false, cond, eqb, List, [], ◌∷◌, ◌++◌, length, get_or, set, take, map, Contains, refl, sym, ap, ◌∙◌, subst, inl, inr}
use Rattle.std.proofs.lemmas.Bool.{cases_eq, eq-eqb, ne_eqb, eqb-true}
use Rattle.std.proofs.lemmas.List.{take_more, map-append, length-set, get_or-set_same, get_or-set_other}
use Rattle.std.proofs.lemmas.List.Elements.{Contains-push_cases}
use Rattle.loop_nest.specs.declared.merging.Entered.{Entered}
use Rattle.loop_nest.specs.declared.merging.Entered.TheVariants.{Nowhere, From, FromSeveral}
use Rattle.loop_nest.specs.Entered.{edge_at, entered_and_from, IsEnteredFromOne, IsEnteredAs}
use Rattle.loop_nest.specs.Pointers.{KeepsMarks}
use Rattle.loop_nest.proofs.Entries.{skipped_over, one_more}

taken_more : (es : List (ℕ × ℕ)) (numbers : List ℕ) (j : ℕ) → j < length numbers → map (edge_at es) (take (j + 1) numbers) ≡ map (edge_at es) (take j numbers) ++ edge_at es (get_or numbers j 0) ∷ []
taken_more es numbers j lt = ap (map (edge_at es)) (take_more numbers j 0 lt) ∙ map-append (edge_at es) (take j numbers) (get_or numbers j 0 ∷ [])

pub scans_inside : (es : List (ℕ × ℕ)) (numbers : List ℕ) (j : ℕ) (c : ℕ → ℕ) (x : ℕ) (e : Entered) → j < length numbers → c (edge_at es (get_or numbers j 0)).0 ≡ x → IsEnteredAs (map (edge_at es) (take j numbers)) c x e → IsEnteredAs (map (edge_at es) (take (j + 1) numbers)) c x e
scans_inside es numbers j c x e lt inside h =
    let d = edge_at es (get_or numbers j 0) in
    let P : List (ℕ × ℕ) → Type 0 = λ ds. IsEnteredAs ds c x e in
    subst P (sym (taken_more es numbers j lt)) (skipped_over (map (edge_at es) (take j numbers)) c x d.0 d.1 e (λ _. inside) h)

pub scans_outside : (es : List (ℕ × ℕ)) (numbers : List ℕ) (j : ℕ) (c : ℕ → ℕ) (x source : ℕ) (e : Entered) → j < length numbers → c (edge_at es (get_or numbers j 0)).0 ≡ source → source ≢ x → (edge_at es (get_or numbers j 0)).1 ≡ x → c x ≡ x → IsEnteredAs (map (edge_at es) (take j numbers)) c x e → IsEnteredAs (map (edge_at es) (take (j + 1) numbers)) c x (entered_and_from e source)
scans_outside es numbers j c x source e lt from outside to named h =
    let d = edge_at es (get_or numbers j 0) in
    let P : List (ℕ × ℕ) → Type 0 = λ ds. IsEnteredAs ds c x (entered_and_from e source) in
    let Q : ℕ → Type 0 = λ s. IsEnteredAs (map (edge_at es) (take j numbers) ++ d ∷ []) c x (entered_and_from e s) in
    subst P (sym (taken_more es numbers j lt)) (subst Q from (one_more (map (edge_at es) (take j numbers)) c x d.0 d.1 e (ap c to ∙ named) (λ inside. outside (sym from ∙ inside)) h))

pub scans_mark : (es : List (ℕ × ℕ)) (numbers : List ℕ) (j : ℕ) (c : ℕ → ℕ) (x source : ℕ) (back : List Bool) → j < length numbers → get_or numbers j 0 < length back → c (edge_at es (get_or numbers j 0)).0 ≡ source → ((i : ℕ) → Contains (take j numbers) i → (get_or back i false ≡ true) ↔ (c (edge_at es i).0 ≡ x)) → (i : ℕ) → Contains (take (j + 1) numbers) i → (get_or (set back (get_or numbers j 0) (eqb source x)) i false ≡ true) ↔ (c (edge_at es i).0 ≡ x)
scans_mark es numbers j c x source back lt below from h i has =
    let n = get_or numbers j 0 in
    let P : List ℕ → Type 0 = λ ks. Contains ks i in
    elim (cases_eq i n) [
      | inl same ↦
          let value : get_or (set back n (eqb source x)) i false ≡ eqb source x =
          ap (λ (k : ℕ). get_or (set back n (eqb source x)) k false) same ∙ get_or-set_same back n (eqb source x) false below in
          let at : c (edge_at es i).0 ≡ source = ap (λ (k : ℕ). c (edge_at es k).0) same ∙ from in
          (λ t. at ∙ eqb-true source x (sym value ∙ t), λ e. value ∙ eq-eqb source x (sym at ∙ e))
      | inr other ↦
          let value = get_or-set_other back n i (eqb source x) false other in
          elim (Contains-push_cases (take j numbers) n i (subst P (take_more numbers j 0 lt) has)) [
            | inl old ↦ (λ t. (h i old).0 (sym value ∙ t), λ e. value ∙ (h i old).1 e)
            | inr same ↦ absurd (other (sym same))
          ]
    ]

pub scans_keep : (es : List (ℕ × ℕ)) (x n : ℕ) (b : Bool) (old back : List Bool) → (edge_at es n).1 ≡ x → KeepsMarks es x old back → KeepsMarks es x old (set back n b)
scans_keep es x n b old back to h = record {
  long = length-set back n b ∙ h.long;
  others = λ i off.
      get_or-set_other back n i b false (λ same. off (ap (λ (k : ℕ). (edge_at es k).1) same ∙ to)) ∙ h.others i off;
}

-- what holds of the node from which alone a class is entered
abbrev pub HoldsOfSource : (ℕ → Type 0) → Entered → Type 0
HoldsOfSource P Nowhere = Unit {0}
HoldsOfSource P (From p) = P p
HoldsOfSource P FromSeveral = Unit {0}

pub source_kept : (P : ℕ → Type 0) (e : Entered) (source : ℕ) → P source → HoldsOfSource P e → HoldsOfSource P (entered_and_from e source)
source_kept P Nowhere source new h = new
source_kept P (From p) source new h =
    let Q : Entered → Type 0 = λ e. HoldsOfSource P e in
    elim (cases_eq p source) [
      | inl same ↦ subst Q (sym (ap (λ b. cond b (From p) FromSeveral) (eq-eqb p source same))) h
      | inr other ↦ subst Q (sym (ap (λ b. cond b (From p) FromSeveral) (ne_eqb p source other))) tt
    ]
source_kept P FromSeveral source new h = tt

-- entered otherwise than from one
pub not_from_one : (es : List (ℕ × ℕ)) (c : ℕ → ℕ) (x p : ℕ) (e : Entered) → ((q : ℕ) → e ≡ From q → ⊥) → IsEnteredAs es c x e → IsEnteredFromOne es c p x → ⊥
not_from_one es c x p Nowhere other h can = can.other (sym (h can.source can.target can.edge can.enters) ∙ can.leaves)
not_from_one es c x p (From q) other h can = other q refl
not_from_one es c x p FromSeveral other h can =
    elim (can.alone h.source h.target h.edge h.enters) [
      | inl inside ↦ h.outside inside
      | inr first ↦
          elim (can.alone h.other_source h.other_target h.other_edge h.other_enters) [
            | inl inside ↦ h.other_outside inside
            | inr second ↦ h.differ (first ∙ sym second)
          ]
    ]
