-- The nodes from which an order starts, and edges that are counted off one by one.
use Rattle.std.proofs.Common.{◌≡◌, ◌≢◌, ℕ, ◌+◌, ◌<◌, ◌≤◌, Bool, cond, eqb, List, [], ◌∷◌, ◌++◌, length, get_or, set, take, count_by, Contains, refl, sym, ap, ◌∙◌, subst, inl, inr, arith, append_assoc}
use Rattle.std.proofs.lemmas.Bool.{cases_eq, eq-eqb, ne_eqb}
use Rattle.std.proofs.lemmas.List.{length-set, get_or-set_same, get_or-set_other}
use Rattle.std.proofs.lemmas.List.Sums.{sum_by_push, sum_by_more_le}
use Rattle.std.proofs.lemmas.List.Elements.{Contains-append_left, Contains-push, Contains-push_cases}
use Rattle.lists.specs.Members.{nil_contains}
use Rattle.path_solver.specs.Reaching.{IsFlagged}
use Rattle.path_solver.specs.Ordering.{AreStarts, AreCountedDown}
use Rattle.path_solver.proofs.Apart.{apart_push, apart_none}

pub starts_none : (flags : List Bool) (w : List ℕ) → AreStarts flags w 0 []
starts_none flags w = record { each = λ u. (λ has. absurd (nil_contains u has), λ r. let lt = r.0 in absurd (omega arith)); apart = apart_none }

pub starts_push : (flags : List Bool) (w : List ℕ) (n : ℕ) (us : List ℕ) → IsFlagged flags n → get_or w n 0 ≡ 0 → AreStarts flags w n us → AreStarts flags w (n + 1) (us ++ n ∷ [])
starts_push flags w n us flag none h = record {
  each = λ u. (
    λ has.
        elim (Contains-push_cases us n u has) [
          | inl old ↦ let r = (h.each u).0 old in let lt = r.0 in (omega arith, r.1, r.2)
          | inr same ↦
              let P : ℕ → Type 0 = λ z. IsFlagged flags z in
              let Q : ℕ → Type 0 = λ z. get_or w z 0 ≡ 0 in
              (omega arith, subst P same flag, subst Q same none)
        ],
    λ r.
        let lt = r.0 in
        elim (cases_eq u n) [
          | inl same ↦ let P : ℕ → Type 0 = λ z. Contains (us ++ n ∷ []) z in subst P (sym same) (Contains-push us n)
          | inr other ↦ Contains-append_left us (n ∷ []) u ((h.each u).1 (omega arith, r.1, r.2))
        ],
  );
  apart = apart_push us n h.apart (λ has. let r = (h.each n).0 has in let lt = r.0 in omega arith);
}

pub starts_skip : (flags : List Bool) (w : List ℕ) (n : ℕ) (us : List ℕ) → (IsFlagged flags n → get_or w n 0 ≡ 0 → ⊥) → AreStarts flags w n us → AreStarts flags w (n + 1) us
starts_skip flags w n us off h = record {
  each = λ u. (
    λ has. let r = (h.each u).0 has in let lt = r.0 in (omega arith, r.1, r.2),
    λ r.
        let lt = r.0 in
        elim (cases_eq u n) [
          | inl same ↦
              let P : ℕ → Type 0 = λ z. IsFlagged flags z in
              let Q : ℕ → Type 0 = λ z. get_or w z 0 ≡ 0 in
              absurd (off (subst P same r.1) (subst Q same r.2))
          | inr other ↦ (h.each u).1 (omega arith, r.1, r.2)
        ],
  );
  apart = h.apart;
}

abbrev one_at : ℕ → ℕ → ℕ
one_at v x = cond (eqb v x) 1 0

one_here : (v : ℕ) → one_at v v ≡ 1
one_here v = ap (λ b. cond b 1 0) (eq-eqb v v refl)

none_there : (v x : ℕ) → v ≢ x → one_at v x ≡ 0
none_there v x other = ap (λ b. cond b 1 0) (ne_eqb v x other)

-- how often a number stands in a list
abbrev pub times : ℕ → List ℕ → ℕ
times x t = count_by (λ y. eqb y x) t

counts_more : (t w' : List ℕ) (v left total x : ℕ) → v < length w' → left + 1 ≡ get_or w' v 0 → get_or w' x 0 + count_by (λ y. eqb y x) t ≡ total → get_or (set w' v left) x 0 + count_by (λ y. eqb y x) (t ++ v ∷ []) ≡ total
counts_more t w' v left total x lt is h =
    let more : count_by (λ y. eqb y x) (t ++ v ∷ []) ≡ count_by (λ y. eqb y x) t + one_at v x = sum_by_push (λ y. cond (eqb y x) 1 0) t v in
    elim (cases_eq x v) [
      | inl same ↦
          let a : get_or (set w' v left) x 0 ≡ left = ap (λ (z : ℕ). get_or (set w' v left) z 0) same ∙ get_or-set_same w' v left 0 lt in
          let b : one_at v x ≡ 1 = ap (λ (z : ℕ). one_at v z) same ∙ one_here v in
          let d : get_or w' x 0 ≡ get_or w' v 0 = ap (λ (z : ℕ). get_or w' z 0) same in
          omega arith
      | inr other ↦
          let a : get_or (set w' v left) x 0 ≡ get_or w' x 0 = get_or-set_other w' v x left 0 other in
          let b : one_at v x ≡ 0 = none_there v x (λ e. other (sym e)) in
          omega arith
    ]

module _ (t w w' o o' : List ℕ) (v left : ℕ) (lt : v < length w') (is : left + 1 ≡ get_or w' v 0) (zero_at : (x : ℕ) → Contains o x → get_or w x 0 ≡ 0) (h : AreCountedDown t w w' o o') where
  here : get_or (set w' v left) v 0 ≡ left
  here = get_or-set_same w' v left 0 lt

  elsewhere : (x : ℕ) → x ≢ v → get_or (set w' v left) x 0 ≡ get_or w' x 0
  elsewhere x other = get_or-set_other w' v x left 0 other

  absent : Contains o' v → ⊥
  absent has =
      elim ((h.each v).0 has) [
        | inl old ↦ let z = zero_at v old in let n = h.counts v in omega arith
        | inr r ↦ let z = r.1 in omega arith
      ]

  pub counted_push : left ≡ 0 → AreCountedDown (t ++ v ∷ []) w (set w' v left) o (o' ++ v ∷ [])
  counted_push none = record {
    long = length-set w' v left ∙ h.long;
    counts = λ x. counts_more t w' v left (get_or w x 0) x lt is (h.counts x);
    added = (h.added.0 ++ v ∷ [], ap (λ ls. ls ++ v ∷ []) h.added.1 ∙ append_assoc o h.added.0 (v ∷ []));
    each = λ x. (
      λ has.
          elim (cases_eq x v) [
            | inl same ↦
                let P : ℕ → Type 0 = λ z. Contains (t ++ v ∷ []) z × (get_or (set w' v left) z 0 ≡ 0) in
                inr (subst P (sym same) (Contains-push t v, here ∙ none))
            | inr other ↦
                elim (Contains-push_cases o' v x has) [
                  | inl old ↦
                      elim ((h.each x).0 old) [
                        | inl first ↦ inl first
                        | inr r ↦ inr (Contains-append_left t (v ∷ []) x r.0, elsewhere x other ∙ r.1)
                      ]
                  | inr same ↦ absurd (other (sym same))
                ]
          ],
      λ r.
          elim r [
            | inl first ↦ Contains-append_left o' (v ∷ []) x ((h.each x).1 (inl first))
            | inr q ↦
                elim (Contains-push_cases t v x q.0) [
                  | inl old ↦
                      elim (cases_eq x v) [
                        | inl same ↦ let P : ℕ → Type 0 = λ z. Contains (o' ++ v ∷ []) z in subst P (sym same) (Contains-push o' v)
                        | inr other ↦ Contains-append_left o' (v ∷ []) x ((h.each x).1 (inr (old, sym (elsewhere x other) ∙ q.1)))
                      ]
                  | inr same ↦ let P : ℕ → Type 0 = λ z. Contains (o' ++ v ∷ []) z in subst P same (Contains-push o' v)
                ]
          ],
    );
    apart = apart_push o' v h.apart absent;
  }

  pub counted_skip : left ≢ 0 → AreCountedDown (t ++ v ∷ []) w (set w' v left) o o'
  counted_skip some = record {
    long = length-set w' v left ∙ h.long;
    counts = λ x. counts_more t w' v left (get_or w x 0) x lt is (h.counts x);
    added = h.added;
    each = λ x. (
      λ has.
          elim ((h.each x).0 has) [
            | inl first ↦ inl first
            | inr r ↦
                let other : x ≢ v = λ same. let z = r.1 in let d : get_or w' x 0 ≡ get_or w' v 0 = ap (λ (z : ℕ). get_or w' z 0) same in omega arith in
                inr (Contains-append_left t (v ∷ []) x r.0, elsewhere x other ∙ r.1)
          ],
      λ r.
          elim r [
            | inl first ↦ (h.each x).1 (inl first)
            | inr q ↦
                let other : x ≢ v = λ same. some (sym here ∙ ap (λ (z : ℕ). get_or (set w' v left) z 0) (sym same) ∙ q.1) in
                elim (Contains-push_cases t v x q.0) [
                  | inl old ↦ (h.each x).1 (inr (old, sym (elsewhere x other) ∙ q.1))
                  | inr same ↦ absurd (other (sym same))
                ]
          ],
    );
    apart = h.apart;
  }

-- an edge is waited for as long as not all were counted off
pub still_waits : (targets w w' o o' : List ℕ) (i : ℕ) → i < length targets → count_by (λ y. eqb y (get_or targets i 0)) targets ≤ get_or w (get_or targets i 0) 0 → AreCountedDown (take i targets) w w' o o' → 1 ≤ get_or w' (get_or targets i 0) 0
still_waits targets w w' o o' i lt enough h =
    let v = get_or targets i 0 in
    let more : count_by (λ y. eqb y v) (take i targets) + one_at v v ≤ count_by (λ y. eqb y v) targets = sum_by_more_le (λ y. cond (eqb y v) 1 0) targets i 0 lt in
    let one = one_here v in
    let n = h.counts v in
    omega arith
