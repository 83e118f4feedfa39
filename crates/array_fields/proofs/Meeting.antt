-- What is put to a field, one put after another.
use Rattle.std.proofs.Common.{◌≡◌, ◌≢◌, ◌↔◌, ◌⊎◌, ℕ, ◌<◌, ℤ, Bool, true, false, List, [], ◌∷◌, ◌++◌, length, Option, Some, None, refl, sym, ap, ◌∙◌, subst, inl, inr, arith}
use Rattle.std.specs.Prelude.{slice_set, if◌then◌else◌}
use Rattle.std.specs.Ordering.{int_eq}
use Rattle.std.proofs.lemmas.Bool.{cases_eq}
use Rattle.std.proofs.lemmas.Bool.Decides.{Decides-int_eq, not_from_Decides}
use Rattle.std.proofs.lemmas.List.{get_or-set_other, get_or-set_same, length-set}
use Rattle.std.proofs.lemmas.List.Elements.{Contains-push, Contains-push_cases, Contains-append_left}
use Rattle.lists.proofs.Lemmas.{none≢some, some_same}
use Rattle.array_fields.specs.declared.puts.Put.{Put}
use Rattle.array_fields.specs.declared.contents.Content.{Content}
use Rattle.array_fields.specs.declared.contents.Content.TheVariants.{Unput, Arrays, Anything}
use Rattle.array_fields.specs.Contents.{met, Tells, content_at, met_at}
use Rattle.array_fields.specs.Puts.{PutsTo, AreContents}

-- ---- one field

pub tells_same : (content : Content) (A B : Option ℤ → Type 0) → ((l : Option ℤ) → A l ↔ B l) → Tells content A → Tells content B
tells_same content A B same h = record {
  unput = (λ is l b. h.unput.0 is l ((same l).1 b), λ none. h.unput.1 (λ l a. none l ((same l).0 a)));
  arrays = λ n. (
    λ is. let k = (h.arrays n).0 is in ((same (Some n)).0 k.0, λ l b. k.1 l ((same l).1 b)),
    λ k. (h.arrays n).1 ((same (Some n)).1 k.0, λ l a. k.1 l ((same l).0 a)),
  );
}

-- with a put more
abbrev More : (Option ℤ → Type 0) → Option ℤ → Option ℤ → Type 0
More A l x = A x ⊎ (l ≡ x)

-- a put of what isn't known
tells_unknown : (content : Content) (A : Option ℤ → Type 0) → Tells Anything (More A None)
tells_unknown content A = record {
  unput = (λ is. absurd (let bad : ⊥ = cc in bad), λ none. absurd (none None (inr refl)));
  arrays = λ n. (λ is. absurd (let bad : ⊥ = cc in bad), λ k. absurd (none≢some n (k.1 None (inr refl))));
}

tells_first : (k : ℤ) (A : Option ℤ → Type 0) → Tells Unput A → Tells (Arrays k) (More A (Some k))
tells_first k A h =
    let none = h.unput.0 refl in
    record {
      unput = (λ is. absurd (let bad : ⊥ = cc in bad), λ nothing. absurd (nothing (Some k) (inr refl)));
      arrays = λ n. (
        λ is.
            let same : k ≡ n = cc in
            (inr (ap (λ (z : ℤ). Some z) same), λ l m. elim m [ inl a ↦ absurd (none l a) | inr e ↦ sym e ∙ ap (λ (z : ℤ). Some z) same ]),
        λ m. ap Arrays (some_same k n (m.1 (Some k) (inr refl))),
      );
    }

tells_again : (k : ℤ) (A : Option ℤ → Type 0) → Tells (Arrays k) A → Tells (Arrays k) (More A (Some k))
tells_again k A h =
    let all = (h.arrays k).0 refl in
    record {
      unput = (λ is. absurd (let bad : ⊥ = cc in bad), λ nothing. absurd (nothing (Some k) (inr refl)));
      arrays = λ n. (
        λ is.
            let same : k ≡ n = cc in
            (inr (ap (λ (z : ℤ). Some z) same), λ l m. elim m [ inl a ↦ all.1 l a ∙ ap (λ (z : ℤ). Some z) same | inr e ↦ sym e ∙ ap (λ (z : ℤ). Some z) same ]),
        λ m. ap Arrays (some_same k n (m.1 (Some k) (inr refl))),
      );
    }

tells_another : (k j : ℤ) (A : Option ℤ → Type 0) → k ≢ j → Tells (Arrays k) A → Tells Anything (More A (Some j))
tells_another k j A other h =
    let all = (h.arrays k).0 refl in
    record {
      unput = (λ is. absurd (let bad : ⊥ = cc in bad), λ nothing. absurd (nothing (Some j) (inr refl)));
      arrays = λ n. (
        λ is. absurd (let bad : ⊥ = cc in bad),
        λ m. absurd (other (some_same k n (m.1 (Some k) (inl all.0)) ∙ sym (some_same j n (m.1 (Some j) (inr refl))))),
      );
    }

tells_still : (l : Option ℤ) (A : Option ℤ → Type 0) → Tells Anything A → Tells Anything (More A l)
tells_still l A h = record {
  unput = (λ is. absurd (let bad : ⊥ = cc in bad), λ none. h.unput.1 (λ x a. none x (inl a)));
  arrays = λ n. (
    λ is. absurd (let bad : ⊥ = cc in bad),
    -- one of the puts before would make all of them so, and without any the field was put nothing
    λ m.
        let one : (x : Option ℤ) → ¬ A x = λ x a.
        let bad : Anything ≡ Arrays n = (h.arrays n).1 (subst A (m.1 x (inl a)) a, λ y b. m.1 y (inl b)) in
        (let no : ⊥ = cc in no) in
        let bad : Anything ≡ Unput = h.unput.1 one in
        absurd (let no : ⊥ = cc in no),
  );
}

tells_by : (k j : ℤ) (A : Option ℤ → Type 0) → Tells (Arrays k) A → (b : Bool) → int_eq k j ≡ b → Tells (if b then Arrays k else Anything) (More A (Some j))
tells_by k j A h true e =
    let same : k ≡ j = (Decides-int_eq k j).0 e in
    subst (λ (z : ℤ). Tells (Arrays k) (More A (Some z))) same (tells_again k A h)
tells_by k j A h false e = tells_another k j A (not_from_Decides (int_eq k j) (Decides-int_eq k j) e) h

pub tells_more : (content : Content) (l : Option ℤ) (A : Option ℤ → Type 0) → Tells content A → Tells (met content l) (More A l)
tells_more Unput None A h = tells_unknown Unput A
tells_more Unput (Some n) A h = tells_first n A h
tells_more (Arrays k) None A h = tells_unknown (Arrays k) A
tells_more (Arrays k) (Some n) A h = tells_by k n A h (int_eq k n) refl
tells_more Anything None A h = tells_unknown Anything A
tells_more Anything (Some n) A h = tells_still (Some n) A h

-- ---- several fields

module _ (target : Put → Option ℕ) (n : ℕ) where
  -- a put that puts elsewhere
  elsewhere : (xs : List Put) (x : Put) (i : ℕ) → ¬ (target x ≡ Some i) → (l : Option ℤ) → PutsTo target xs i l ↔ PutsTo target (xs ++ x ∷ []) i l
  elsewhere xs x i not l = (
    λ put. (put.0, Contains-append_left xs (x ∷ []) put.0 put.1, put.2, put.3),
    λ put.
        elim (Contains-push_cases xs x put.0 put.1) [
          | inl before ↦ (put.0, before, put.2, put.3)
          | inr same ↦ absurd (not (ap target same ∙ put.2))
        ],
  )

  -- one that puts to it
  there : (xs : List Put) (x : Put) (i : ℕ) → target x ≡ Some i → (l : Option ℤ) → More (PutsTo target xs i) x.length l ↔ PutsTo target (xs ++ x ∷ []) i l
  there xs x i is l = (
    λ m.
        elim m [
          | inl put ↦ (put.0, Contains-append_left xs (x ∷ []) put.0 put.1, put.2, put.3)
          | inr same ↦ (x, Contains-push xs x, is, same)
        ],
    λ put.
        elim (Contains-push_cases xs x put.0 put.1) [
          | inl before ↦ inl (put.0, before, put.2, put.3)
          | inr same ↦ inr (ap (λ (y : Put). y.length) same ∙ put.3)
        ],
  )

  pub contents_more : (xs : List Put) (contents : List Content) (x : Put) → AreContents target n xs contents → AreContents target n (xs ++ x ∷ []) (met_at contents (target x) x.length)
  contents_more xs contents x h = by (target x) refl
    where
      by : (o : Option ℕ) → target x ≡ o → AreContents target n (xs ++ x ∷ []) (met_at contents o x.length)
      by None e = (h.0, λ i lt. tells_same (content_at contents i) (PutsTo target xs i) (PutsTo target (xs ++ x ∷ []) i) (elsewhere xs x i (λ bad. none≢some i (sym e ∙ bad))) (h.1 i lt))
      by (Some j) e =
          let new = met (content_at contents j) x.length in (
            length-set contents j new ∙ h.0,
            λ i lt.
                elim (cases_eq j i) [
                  | inl same ↦
                      let long = h.0 in
                      let within : j < length contents = omega arith in
                      let is : target x ≡ Some i = e ∙ ap (λ (k : ℕ). Some k) same in
                      let more = tells_same (met (content_at contents i) x.length) (More (PutsTo target xs i) x.length) (PutsTo target (xs ++ x ∷ []) i) (there xs x i is) (tells_more (content_at contents i) x.length (PutsTo target xs i) (h.1 i lt)) in
                      let at : met (content_at contents i) x.length ≡ content_at (slice_set contents j new) i =
                      ap (λ (k : ℕ). met (content_at contents k) x.length) (sym same) ∙ sym (get_or-set_same contents j new Anything within) ∙ ap (content_at (slice_set contents j new)) same in
                      subst (λ (c : Content). Tells c (PutsTo target (xs ++ x ∷ []) i)) at more
                  | inr other ↦
                      let at : content_at contents i ≡ content_at (slice_set contents j new) i = sym (get_or-set_other contents j i new Anything (λ bad. other (sym bad))) in
                      subst (λ (c : Content). Tells c (PutsTo target (xs ++ x ∷ []) i)) at
                      (tells_same (content_at contents i) (PutsTo target xs i) (PutsTo target (xs ++ x ∷ []) i) (elsewhere xs x i (λ bad. other (some_same j i (sym e ∙ bad)))) (h.1 i lt))
                ],
          )
