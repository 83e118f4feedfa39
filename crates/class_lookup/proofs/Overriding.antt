-- Overriding, decided over lists of methods from a class upwards.
use Rattle.std.proofs.Common.{◌≡◌, ℕ, Bool, true, false, ◌||◌, eqb, List, [], ◌∷◌, ◌⊎◌, inl, inr, Option, Some, None, refl, sym, ap, ap₂, ◌∙◌}
use Rattle.std.specs.Prelude.{if◌then◌else◌}
use Rattle.std.specs.List.{filter_map, cons_option, list_any}
use Rattle.std.proofs.lemmas.Bool.{or_cases, or_left, or_right, or_parts, and_parts, and_from, eqb-true, eq-eqb, false≢true, both_ways, cases_Bool, cond-true, cond-false, false_from_ne_true}
use Rattle.class_pool.specs.declared.class.ClassFile.{ClassFile}
use Rattle.class_lookup.specs.Hierarchy.{is_among}
use Rattle.class_lookup.specs.Lookup.{Place, same_place}
use Rattle.class_lookup.specs.Laws.{Comparisons}
use Rattle.class_lookup.specs.Selection.{overrides_directly, overriding, head}
use Rattle.lists.proofs.Lemmas.{none≢some, some_same}
use Rattle.class_lookup.proofs.Searches.{text_same, same_is_text, signature_same, same_is_signature}

-- ---- places in a list

abbrev pub has : List Place → Place → Bool
has ms m = list_any (same_place m) ms

pub place_same : (p q : Place) → same_place p q ≡ true → p ≡ q
place_same p q h =
    let e = and_parts (eqb p.0 q.0) (eqb p.1 q.1) h in
    ap₂ (λ (x : ℕ) (y : ℕ). (x, y)) (eqb-true p.0 q.0 e.0) (eqb-true p.1 q.1 e.1)

pub same_is_place : (p q : Place) → p ≡ q → same_place p q ≡ true
same_is_place p q h =
    and_from (eqb p.0 q.0) (eqb p.1 q.1) (eq-eqb p.0 q.0 (ap (λ (x : Place). x.0) h)) (eq-eqb p.1 q.1 (ap (λ (x : Place). x.1) h))

pub comparisons : Comparisons
comparisons = record {
  texts = λ a b. (text_same a b, same_is_text a b);
  signatures = λ s t. (signature_same s t, same_is_signature s t);
  places = λ p q. (place_same p q, same_is_place p q);
}

pub has_head : (m : Place) (ms : List Place) → has (m ∷ ms) m ≡ true
has_head m ms = or_left (same_place m m) (has ms m) (same_is_place m m refl)

pub has_tail : (x m : Place) (ms : List Place) → has ms m ≡ true → has (x ∷ ms) m ≡ true
has_tail x m ms h = or_right (same_place m x) (has ms m) h

pub has_cases : (x m : Place) (ms : List Place) → has (x ∷ ms) m ≡ true → (m ≡ x) ⊎ (has ms m ≡ true)
has_cases x m ms h = elim (or_cases (same_place m x) (has ms m) h) [ inl e ↦ inl (place_same m x e) | inr e ↦ inr e ]

-- a test that some place of a list passes
pub any_place : (test : Place → Bool) (ms : List Place) → list_any test ms ≡ true → (m : Place) × (has ms m ≡ true) × (test m ≡ true)
any_place test [] h = absurd (false≢true h)
any_place test (x ∷ ms) h =
    elim (or_cases (test x) (list_any test ms) h) [
      | inl e ↦ (x, has_head x ms, e)
      | inr e ↦ let r = any_place test ms e in (r.0, has_tail x r.0 ms r.1, r.2)
    ]

pub place_any : (test : Place → Bool) (ms : List Place) (m : Place) → has ms m ≡ true → test m ≡ true → list_any test ms ≡ true
place_any test [] m h e = absurd (false≢true h)
place_any test (x ∷ ms) m h e =
    elim (has_cases x m ms h) [
      | inl s ↦ or_left (test x) (list_any test ms) (ap test (sym s) ∙ e)
      | inr s ↦ or_right (test x) (list_any test ms) (place_any test ms m s e)
    ]

-- ---- what is found among several classes

option_has : (o : Option Place) (ms : List Place) (m : Place) → has (cons_option o ms) m ≡ true → (o ≡ Some m) ⊎ (has ms m ≡ true)
option_has None ms m h = inr h
option_has (Some x) ms m h = elim (has_cases x m ms h) [ inl s ↦ inl (ap Some (sym s)) | inr s ↦ inr s ]

pub has_mapped : (D : ℕ → Option Place) (xs : List ℕ) (m : Place) → has (filter_map D xs) m ≡ true → (x : ℕ) × (is_among xs x ≡ true) × (D x ≡ Some m)
has_mapped D [] m h = absurd (false≢true h)
has_mapped D (x ∷ xs) m h =
    elim (option_has (D x) (filter_map D xs) m h) [
      | inl s ↦ (x, or_left (eqb x x) (is_among xs x) (eq-eqb x x refl), s)
      | inr s ↦ let r = has_mapped D xs m s in (r.0, or_right (eqb x r.0) (is_among xs r.0) r.1, r.2)
    ]

some_has : (o : Option Place) (ms : List Place) (m : Place) → o ≡ Some m → has (cons_option o ms) m ≡ true
some_has o ms m h = ap (λ x. has (cons_option x ms) m) h ∙ has_head m ms

later_has : (o : Option Place) (ms : List Place) (m : Place) → has ms m ≡ true → has (cons_option o ms) m ≡ true
later_has None ms m h = h
later_has (Some x) ms m h = has_tail x m ms h

pub mapped_has : (D : ℕ → Option Place) (xs : List ℕ) (x : ℕ) (m : Place) → is_among xs x ≡ true → D x ≡ Some m → has (filter_map D xs) m ≡ true
mapped_has D [] x m h e = absurd (false≢true h)
mapped_has D (y ∷ xs) x m h e =
    elim (or_cases (eqb y x) (is_among xs x) h) [
      | inl s ↦ some_has (D y) (filter_map D xs) m (ap D (eqb-true y x s) ∙ e)
      | inr s ↦ later_has (D y) (filter_map D xs) m (mapped_has D xs x m s e)
    ]

-- ---- those that are a method or override it

-- whether the first of a list is one of them
abbrev pub joins : List ClassFile → (a : Place) → (m : Place) → (above : List Place) → Bool
joins cs a m above = same_place m a || list_any (overrides_directly cs m) (overriding cs a above)

pub overriding_cases : (cs : List ClassFile) (a x : Place) (above : List Place) (m : Place) → has (overriding cs a (x ∷ above)) m ≡ true → ((m ≡ x) × (joins cs a x above ≡ true)) ⊎ (has (overriding cs a above) m ≡ true)
overriding_cases cs a x above m h =
    elim (cases_Bool (joins cs a x above)) [
      | inl t ↦ elim (has_cases x m (overriding cs a above) (sym (ap (λ ms. has ms m) (cond-true (joins cs a x above) (x ∷ overriding cs a above) (overriding cs a above) t)) ∙ h)) [
        | inl s ↦ inl (s, t)
        | inr s ↦ inr s
      ]
      | inr t ↦ inr (sym (ap (λ ms. has ms m) (cond-false (joins cs a x above) (x ∷ overriding cs a above) (overriding cs a above) t)) ∙ h)
    ]

pub overriding_joined : (cs : List ClassFile) (a x : Place) (above : List Place) → joins cs a x above ≡ true → has (overriding cs a (x ∷ above)) x ≡ true
overriding_joined cs a x above t = ap (λ ms. has ms x) (cond-true (joins cs a x above) (x ∷ overriding cs a above) (overriding cs a above) t) ∙ has_head x (overriding cs a above)

pub overriding_more : (cs : List ClassFile) (a x : Place) (above : List Place) (m : Place) → has (overriding cs a above) m ≡ true → has (overriding cs a (x ∷ above)) m ≡ true
overriding_more cs a x above m h =
    elim (cases_Bool (joins cs a x above)) [
      | inl t ↦ ap (λ ms. has ms m) (cond-true (joins cs a x above) (x ∷ overriding cs a above) (overriding cs a above) t) ∙ has_tail x m (overriding cs a above) h
      | inr t ↦ ap (λ ms. has ms m) (cond-false (joins cs a x above) (x ∷ overriding cs a above) (overriding cs a above) t) ∙ h
    ]

-- they are among the methods
pub overriding_among : (cs : List ClassFile) (a : Place) (ms : List Place) (m : Place) → has (overriding cs a ms) m ≡ true → has ms m ≡ true
overriding_among cs a [] m h = absurd (false≢true h)
overriding_among cs a (x ∷ above) m h =
    elim (overriding_cases cs a x above m h) [
      | inl e ↦ ap (has (x ∷ above)) e.0 ∙ has_head x above
      | inr e ↦ has_tail x m above (overriding_among cs a above m e)
    ]

-- only where the method itself is among them
pub overriding_needs : (cs : List ClassFile) (a : Place) (ms : List Place) (m : Place) → has (overriding cs a ms) m ≡ true → has ms a ≡ true
overriding_needs cs a [] m h = absurd (false≢true h)
overriding_needs cs a (x ∷ above) m h =
    elim (overriding_cases cs a x above m h) [
      | inl e ↦ elim (or_cases (same_place x a) (list_any (overrides_directly cs x) (overriding cs a above)) e.1) [
        | inl s ↦ ap (has (x ∷ above)) (sym (place_same x a s)) ∙ has_head x above
        | inr s ↦ let y = any_place (overrides_directly cs x) (overriding cs a above) s in has_tail x a above (overriding_needs cs a above y.0 y.1)
      ]
      | inr e ↦ has_tail x a above (overriding_needs cs a above m e)
    ]

pub overriding_self : (cs : List ClassFile) (a : Place) (ms : List Place) → has ms a ≡ true → has (overriding cs a ms) a ≡ true
overriding_self cs a [] h = absurd (false≢true h)
overriding_self cs a (x ∷ above) h =
    elim (has_cases x a above h) [
      | inl s ↦
          ap (has (overriding cs a (x ∷ above))) s
          ∙ overriding_joined cs a x above (or_left (same_place x a) (list_any (overrides_directly cs x) (overriding cs a above)) (same_is_place x a (sym s)))
      | inr s ↦ overriding_more cs a x above a (overriding_self cs a above s)
    ]

-- ---- no method stands twice

abbrev pub NoRepeat : List Place → Type 0
NoRepeat [] = Unit {0}
NoRepeat (m ∷ ms) = (has ms m ≡ false) × NoRepeat ms

-- one that stands among the others isn't the first
below : (cs : List ClassFile) (a b x : Place) (above : List Place) → NoRepeat (x ∷ above) → has (overriding cs a (x ∷ above)) b ≡ true → has above b ≡ true → has (overriding cs a above) b ≡ true
below cs a b x above n e h =
    elim (overriding_cases cs a x above b e) [
      | inl r ↦ absurd (both_ways (has above x) n.0 (ap (has above) (sym r.0) ∙ h))
      | inr r ↦ r
    ]

-- what overrides one that overrides a method overrides it
pub overriding_through : (cs : List ClassFile) (a b : Place) (ms : List Place) (m : Place) → NoRepeat ms → has (overriding cs b ms) m ≡ true → has (overriding cs a ms) b ≡ true → has (overriding cs a ms) m ≡ true
overriding_through cs a b [] m n h e = absurd (false≢true h)
overriding_through cs a b (x ∷ above) m n h e =
    elim (overriding_cases cs b x above m h) [
      | inl r ↦ elim (or_cases (same_place x b) (list_any (overrides_directly cs x) (overriding cs b above)) r.1) [
        | inl s ↦ ap (has (overriding cs a (x ∷ above))) (r.0 ∙ place_same x b s) ∙ e
        | inr s ↦
            let y = any_place (overrides_directly cs x) (overriding cs b above) s in
            let further = overriding_through cs a b above y.0 n.1 y.1 (below cs a b x above n e (overriding_needs cs b above y.0 y.1)) in
            ap (has (overriding cs a (x ∷ above))) r.0
            ∙ overriding_joined cs a x above (or_right (same_place x a) (list_any (overrides_directly cs x) (overriding cs a above)) (place_any (overrides_directly cs x) (overriding cs a above) y.0 further y.2))
      ]
      | inr r ↦ overriding_more cs a x above m (overriding_through cs a b above m n.1 r (below cs a b x above n e (overriding_needs cs b above m r)))
    ]

-- ---- the first of them

pub head_has : (ms : List Place) (m : Place) → head ms ≡ Some m → has ms m ≡ true
head_has [] m h = absurd (none≢some m h)
head_has (x ∷ ms) m h = ap (has (x ∷ ms)) (sym (some_same x m h)) ∙ has_head x ms

pub head_none : (ms : List Place) (m : Place) → head ms ≡ None → has ms m ≡ true → ⊥
head_none [] m h e = false≢true e
head_none (x ∷ ms) m h e = none≢some x (sym h)

head_case : (cs : List ClassFile) (a t x : Place) (above : List Place) → NoRepeat (x ∷ above) → (NoRepeat above → head (overriding cs a above) ≡ Some t → head (overriding cs t above) ≡ Some t)
    → (b : Bool) → joins cs a x above ≡ b → head (if b then x ∷ overriding cs a above else overriding cs a above) ≡ Some t → head (overriding cs t (x ∷ above)) ≡ Some t
head_case cs a t x above n later true j h =
    let own = or_left (same_place x t) (list_any (overrides_directly cs x) (overriding cs t above)) (same_is_place x t (some_same x t h)) in
    ap head (cond-true (joins cs t x above) (x ∷ overriding cs t above) (overriding cs t above) own) ∙ h
head_case cs a t x above n later false j h =
    let parts = or_parts (same_place x a) (list_any (overrides_directly cs x) (overriding cs a above)) j in
    let here = head_has (overriding cs a above) t h in
    let apart : joins cs t x above ≡ true → ⊥ = λ e. elim (or_cases (same_place x t) (list_any (overrides_directly cs x) (overriding cs t above)) e) [
      | inl s ↦ both_ways (has above x) n.0 (ap (has above) (place_same x t s) ∙ overriding_among cs a above t here)
      | inr s ↦
          let y = any_place (overrides_directly cs x) (overriding cs t above) s in
          both_ways (list_any (overrides_directly cs x) (overriding cs a above)) parts.1
          (place_any (overrides_directly cs x) (overriding cs a above) y.0 (overriding_through cs a t above y.0 n.1 y.1 here) y.2)
    ] in
    ap head (cond-false (joins cs t x above) (x ∷ overriding cs t above) (overriding cs t above) (false_from_ne_true (joins cs t x above) apart)) ∙ later n.1 h

-- the first of those that override a method is also the first of those that override itself
pub head_again : (cs : List ClassFile) (a t : Place) (ms : List Place) → NoRepeat ms → head (overriding cs a ms) ≡ Some t → head (overriding cs t ms) ≡ Some t
head_again cs a t [] n h = absurd (none≢some t h)
head_again cs a t (x ∷ above) n h = head_case cs a t x above n (head_again cs a t above) (joins cs a x above) refl h
