-- Ranks of classes, and an order in which each stands behind all that are directly above it.
use Rattle.std.proofs.Common.{◌≡◌, ℕ, zero, suc, ◌+◌, ◌<◌, ◌≤◌, Bool, true, false, eqb, List, [], ◌∷◌, ◌++◌, ◌⊎◌, length, get_or, Option, Some, None, inl, inr, refl, sym, ap, ◌∙◌, subst, arith, length-append}
use Rattle.std.specs.Prelude.{slice_get, slice_index, IsTrue, ◌↔◌, IfOk, Result, Ok, Err}
use Rattle.std.specs.Bool.{MatchBool}
use Rattle.std.specs.Option.{option_map_or, option_to_list}
use Rattle.std.specs.List.{filter_map, cons_option}
use Rattle.std.proofs.lemmas.Bool.{cases_lt, cases_Bool, or_cases, eqb-true, false≢true, both_ways}
use Rattle.std.proofs.lemmas.List.{get_or_past, get_or_append_left}
use Rattle.std.proofs.lemmas.Option.{slice_get_within, slice_get_past}
use Rattle.class_pool.specs.declared.class.ClassFile.{ClassFile}
use Rattle.lists.specs.Lists.{onto}
use Rattle.lists.proofs.Lemmas.{onto_some, index_found}
use Rattle.class_lookup.specs.Parts.{same_text, name_of, superclass_name, superinterface_names}
use Rattle.class_lookup.specs.Hierarchy.{find_class, superclass, superinterfaces, direct_supertypes, is_among, IsAcyclic}
use Rattle.lists.proofs.Reached.{in_append}
use Rattle.lists.proofs.Among.{in_option}
use Rattle.class_hierarchy.specs.TopDown.{IsTopDown}
use Rattle.number_sets.specs.Numbers.{entry, IsPeeled, IsStuck, HasAll, HasRanks}

-- ---- where all are taken, and where some aren't

pub acyclic_of : (cs : List ClassFile) (above : List (List ℕ)) → length above ≡ length cs → ((c : ℕ) → entry above c ≡ direct_supertypes cs c)
    → HasRanks above → IsAcyclic cs
acyclic_of cs above long direct r = record {
  ranks = r.0;
  ranked = record {
    bounded = λ c. subst (λ n. slice_index r.0 c < n) long (r.1.bounded c);
    falls = λ c d h. r.1.falls c d (ap (λ xs. is_among xs d) (direct c) ∙ h);
  };
}

found_below : (cs : List ClassFile) (name : List ℕ) (d : ℕ) → find_class cs name ≡ Some d → d < length cs
found_below cs name d h = let r = index_found (λ c. same_text (name_of c) name) cs d h in slice_get_within cs d r.0 r.1

option_among : (o : Option ℕ) (xs : List ℕ) (d : ℕ) → is_among (cons_option o xs) d ≡ true → (o ≡ Some d) ⊎ (is_among xs d ≡ true)
option_among None xs d h = inr h
option_among (Some x) xs d h = elim (or_cases (eqb x d) (is_among xs d) h) [ inl e ↦ inl (ap Some (eqb-true x d e)) | inr e ↦ inr e ]

names_below : (cs : List ClassFile) (names : List (List ℕ)) (d : ℕ) → is_among (filter_map (find_class cs) names) d ≡ true → d < length cs
names_below cs [] d h = absurd (false≢true h)
names_below cs (name ∷ names) d h =
    elim (option_among (find_class cs name) (filter_map (find_class cs) names) d h) [
      | inl e ↦ found_below cs name d e
      | inr e ↦ names_below cs names d e
    ]

interfaces_below : (cs : List ClassFile) (d : ℕ) (o : Option ClassFile) → is_among (option_map_or (λ k. filter_map (find_class cs) (superinterface_names k)) o []) d ≡ true → d < length cs
interfaces_below cs d None h = absurd (false≢true h)
interfaces_below cs d (Some k) h = names_below cs (superinterface_names k) d h

pub direct_below : (cs : List ClassFile) (c d : ℕ) → is_among (direct_supertypes cs c) d ≡ true → d < length cs
direct_below cs c d h =
    elim (or_cases (is_among (superinterfaces cs c) d) (is_among (option_to_list (superclass cs c)) d) (sym (in_append (superinterfaces cs c) (option_to_list (superclass cs c)) d) ∙ h)) [
      | inl e ↦ interfaces_below cs d (slice_get cs c) e
      | inr e ↦ let r = onto_some (slice_get cs c) (λ k. find_class cs (superclass_name k)) d (in_option (superclass cs c) d e) in found_below cs (superclass_name r.0) d r.2
    ]

-- where no class is above itself, all are taken
all_below : (cs : List ClassFile) (a : IsAcyclic cs) (above : List (List ℕ)) (order : List ℕ) → length above ≡ length cs → ((c : ℕ) → entry above c ≡ direct_supertypes cs c) → IsStuck above order
    → (k c : ℕ) → slice_index a.ranks c < k → c < length above → is_among order c ≡ false → ⊥
all_below cs a above order long direct s zero c lt l h = absurd (omega (arith, lt))
all_below cs a above order long direct s (suc k) c lt l h =
    let w = s c l h in
    let up = sym (ap (λ xs. is_among xs w.0) (direct c)) ∙ w.1 in
    let lower = a.ranked.falls c w.0 up in
    let within = direct_below cs c w.0 up in
    all_below cs a above order long direct s k w.0 (omega (arith, lower, lt)) (omega (arith, within, long)) w.2

pub all_taken : (cs : List ClassFile) → IsAcyclic cs → (above : List (List ℕ)) (order : List ℕ) → length above ≡ length cs → ((c : ℕ) → entry above c ≡ direct_supertypes cs c) → IsStuck above order → HasAll (length above) order
all_taken cs a above order long direct s c l =
    elim (cases_Bool (is_among order c)) [
      | inl t ↦ t
      | inr f ↦ absurd (all_below cs a above order long direct s (length cs) c (a.ranked.bounded c) l f)
    ]

-- both ways, by the test of all
pub decided : (cs : List ClassFile) (above : List (List ℕ)) (order : List ℕ) (count : ℕ) → count ≡ length cs → length above ≡ length cs → ((c : ℕ) → entry above c ≡ direct_supertypes cs c)
    → IsStuck above order → (HasAll (length above) order → 0 < length above → HasRanks above) → 0 < count
    → (b r : Bool) → MatchBool b (HasAll count order) ((c : ℕ) × (c < count) × (is_among order c ≡ false)) → r ≡ b → IsTrue r ↔ IsAcyclic cs
decided cs above order count n long direct s ranked some true r h e =
    let same : count ≡ length above = omega (arith, n, long) in
    let filled : 0 < length above = omega (arith, some, same) in
    (λ t. acyclic_of cs above long direct (ranked (subst (λ k. HasAll k order) same h) filled), λ a. e)
decided cs above order count n long direct s ranked some false r h e = (
  λ t. absurd (both_ways r e t),
  λ a. let within : h.0 < length above = let below = h.1 in omega (arith, below, n, long) in absurd (both_ways (is_among order h.0) h.2 (all_taken cs a above order long direct s h.0 within)),
)

pub undecided : (cs : List ClassFile) (count : ℕ) → count ≡ length cs → count ≤ 0 → (r : Bool) → r ≡ false → IsTrue r ↔ IsAcyclic cs
undecided cs count n none r e = (
  λ t. absurd (both_ways r e t),
  λ a. let low = a.ranked.bounded 0 in absurd (omega (arith, low, n, none)),
)

-- what is no class has nothing above it
pub nothing_direct : (cs : List ClassFile) (c : ℕ) → length cs ≤ c → direct_supertypes cs c ≡ []
nothing_direct cs c g =
    let none = slice_get_past cs c g in
    ap (λ o. option_map_or (λ k. filter_map (find_class cs) (superinterface_names k)) o [] ++ option_to_list (onto o (λ k. find_class cs (superclass_name k)))) none

-- ---- a table, one entry after another

pub record IsTable (f : ℕ → List ℕ) (n : ℕ) (table : List (List ℕ)) : Type 0 where
  pub long : length table ≡ n
  pub each : (c : ℕ) → c < n → entry table c ≡ f c

pub table_none : (f : ℕ → List ℕ) (table : List (List ℕ)) → table ≡ [] → IsTable f 0 table
table_none f table h = record { long = ap length h; each = λ c lt. absurd (omega (arith, lt)) }

seam : (table : List (List ℕ)) (y : List ℕ) → entry (table ++ y ∷ []) (length table) ≡ y
seam [] y = refl
seam (x ∷ table) y = seam table y

pub table_more : (f : ℕ → List ℕ) (n : ℕ) (table next : List (List ℕ)) (y : List ℕ) → IsTable f n table → next ≡ table ++ y ∷ [] → y ≡ f n → IsTable f (n + 1) next
table_more f n table next y t e same =
    subst (λ (xs : List (List ℕ)). IsTable f (n + 1) xs) (sym e) (record {
      long = let long = length-append table (y ∷ []) in let old = t.long in omega (arith, long, old);
      each = λ c lt. elim (cases_lt c n) [
        | inl l ↦ let within : c < length table = let old = t.long in omega (arith, l, old) in get_or_append_left table (y ∷ []) [] c within ∙ t.each c l
        | inr g ↦
            let at : c ≡ n = omega (arith, lt, g) in
            ap (entry (table ++ y ∷ [])) (at ∙ sym t.long) ∙ (seam table y ∙ (same ∙ ap f (sym at)))
      ];
    })

pub table_direct : (cs : List ClassFile) (n : ℕ) (table : List (List ℕ)) → IsTable (direct_supertypes cs) n table → length cs ≤ n → (c : ℕ) → entry table c ≡ direct_supertypes cs c
table_direct cs n table t all c =
    elim (cases_lt c n) [
      | inl l ↦ t.each c l
      | inr g ↦
          let within : length table ≤ c = let long = t.long in omega (arith, long, g) in
          let past : length cs ≤ c = omega (arith, all, g) in
          get_or_past table c [] within ∙ sym (nothing_direct cs c past)
    ]

-- ---- all classes in such an order

pub top_down_of : (cs : List ClassFile) → IsAcyclic cs → (above : List (List ℕ)) (order : List ℕ) → length above ≡ length cs → ((c : ℕ) → entry above c ≡ direct_supertypes cs c) → IsPeeled above order → IsStuck above order → IsTopDown cs order
top_down_of cs a above order long direct p s = record {
  ordered = λ i d lt h. p.ordered i d lt (ap (λ xs. is_among xs d) (direct (get_or order i 0)) ∙ h);
  below = λ c h. subst (λ n. c < n) long (p.below c h);
  all = λ c lt. all_taken cs a above order long direct s c (subst (λ n. c < n) (sym long) lt);
}

pub both_ok : {T E : Type 0} (r : Result T E) (P Q R : T → Type 0) → IfOk r P → IfOk r Q → ((x : T) → P x → Q x → R x) → IfOk r R
both_ok (Ok x) P Q R p q f = f x p q
both_ok (Err e) P Q R p q f = tt
