-- Flags of nodes: one that is set, and those of a span.
use Rattle.std.proofs.Common.{◌≡◌, ◌↔◌, ℕ, ◌+◌, ◌-◌, ◌<◌, ◌≤◌, ◌⊎◌, Bool, true, false, List, [], ◌∷◌, ◌++◌, length, set, replicate, get_or, take, All, Contains, refl, sym, ap, ◌∙◌, subst, inl, inr, arith}
use Rattle.std.proofs.lemmas.Bool.{both_ways, cases_eq, cases_lt}
use Rattle.std.proofs.lemmas.List.{take_more, length-append, length-set, get_or-set_same, get_or-set_other, get_or_past, get_or-replicate, length-replicate, get_or_append_left, get_or-append_right, set-append_right, replicate-append-replicate}
use Rattle.std.proofs.lemmas.List.Elements.{All-append, All-cons, All-nil, All-weaker, Contains-append_left, Contains-push, Contains-push_cases}
use Rattle.lists.specs.Members.{nil_contains}
use Rattle.compact_walks.specs.Charging.{AreMarked}
use Rattle.loop_marks.specs.Reach.{flag_at}
use Rattle.loop_marks.specs.Flags.{Flags, AreMarkedAmong}

-- ---- one flag

pub unset : (flags : List Bool) (x : ℕ) → flag_at (set flags x false) x ≡ false
unset flags x = elim (cases_lt x (length flags)) [ inl lt ↦ get_or-set_same flags x false false lt | inr past ↦ get_or_past (set flags x false) x false (let long = length-set flags x false in omega arith) ]

pub unset_but : (flags : List Bool) (x y : ℕ) → (y ≡ x → ⊥) → flag_at (set flags x false) y ≡ flag_at flags y
unset_but flags x y other = get_or-set_other flags x y false false other

pub flag_within : (flags : List Bool) (x : ℕ) → flag_at flags x ≡ true → x < length flags
flag_within flags x f = elim (cases_lt x (length flags)) [ inl lt ↦ lt | inr past ↦ absurd (both_ways (flag_at flags x) (get_or_past flags x false past) f) ]

pub none_flagged : (n x : ℕ) → flag_at (replicate n false) x ≡ false
none_flagged n x = elim (cases_lt x n) [ inl lt ↦ get_or-replicate n x false false lt | inr past ↦ get_or_past (replicate n false) x false (let long = length-replicate n false in omega arith) ]

pub flagged_at : (x : ℕ) (flags : List Bool) → x < length flags → flag_at (set flags x true) x ≡ true
flagged_at x flags lt = get_or-set_same flags x true false lt

pub flagged_still : (x y : ℕ) (flags : List Bool) → x < length flags → flag_at flags y ≡ true → flag_at (set flags x true) y ≡ true
flagged_still x y flags lt at =
    elim (cases_eq y x) [
      | inl same ↦ ap (λ (z : ℕ). flag_at (set flags x true) z) same ∙ flagged_at x flags lt
      | inr other ↦ get_or-set_other flags x y true false other ∙ at
    ]

pub flagged_cases : (x y : ℕ) (flags : List Bool) → flag_at (set flags x true) y ≡ true → (y ≡ x) ⊎ (flag_at flags y ≡ true)
flagged_cases x y flags at =
    elim (cases_eq y x) [
      | inl same ↦ inl same
      | inr other ↦ inr (sym (get_or-set_other flags x y true false other) ∙ at)
    ]

-- ---- a span, whose first flag is that of `first`

pub before_span : (first x : ℕ) (flags : List Bool) → x < first → flag_at (replicate first false ++ flags) x ≡ false
before_span first x flags lt =
    let long = length-replicate first false in
    get_or_append_left (replicate first false) flags false x (omega arith) ∙ get_or-replicate first x false false lt

pub in_span : (first x : ℕ) (flags : List Bool) → first ≤ x → flag_at (replicate first false ++ flags) x ≡ flag_at flags (x - first)
in_span first x flags le = get_or-append_right (replicate first false) flags first x false (length-replicate first false) le

pub span_long : (first : ℕ) (flags : List Bool) → length (replicate first false ++ flags) ≡ first + length flags
span_long first flags = let long = length-replicate first false in length-append (replicate first false) flags ∙ ap (λ (n : ℕ). n + length flags) long

pub set_in_span : (first x : ℕ) (flags : List Bool) (b : Bool) → first ≤ x → set (replicate first false ++ flags) x b ≡ replicate first false ++ set flags (x - first) b
set_in_span first x flags b le = set-append_right (replicate first false) flags first x b (length-replicate first false) le

pub none_in_span : (first rest end : ℕ) → first + rest ≡ end → replicate first false ++ replicate rest false ≡ replicate end false
none_in_span first rest end is = replicate-append-replicate first rest false ∙ ap (λ (n : ℕ). replicate n false) is

-- ---- marks

pub marked_all : (us : List ℕ) (n : ℕ) (flags : List Bool) → AreMarked us (replicate n false) flags → (x : ℕ) → (flag_at flags x ≡ true) ↔ Contains us x
marked_all us n flags m x = (
  λ f. elim ((m.each x).0 f) [ inl old ↦ absurd (both_ways (flag_at (replicate n false) x) (none_flagged n x) old) | inr has ↦ has ],
  λ has. (m.each x).1 (inr has),
)

pub marked_none : (n : ℕ) (flags : List Bool) → flags ≡ replicate n false → AreMarked [] (replicate n false) flags
marked_none n flags none = record {
  long = ap length none;
  each = λ u. (
    λ f. inl (sym (ap (λ (fs : List Bool). flag_at fs u) none) ∙ f),
    λ r. elim r [ inl f ↦ ap (λ (fs : List Bool). flag_at fs u) none ∙ f | inr has ↦ absurd (nil_contains u has) ],
  );
}

pub among_none : (members flags : List Bool) → AreMarkedAmong members [] flags flags
among_none members flags = record { long = refl; each = λ x. (λ f. inl f, λ r. elim r [ inl f ↦ f | inr w ↦ absurd (nil_contains x w.1) ]) }

pub among_more : (members : List Bool) (us : List ℕ) (old new : List Bool) (v : ℕ) → AreMarkedAmong members us old new → v < length new → flag_at members v ≡ true → AreMarkedAmong members (us ++ v ∷ []) old (set new v true)
among_more members us old new v m lt is = record {
  long = length-set new v true ∙ m.long;
  each = λ x. (
    λ f. elim (flagged_cases v x new f) [
      | inl same ↦ inr (ap (flag_at members) same ∙ is, subst (Contains (us ++ v ∷ [])) (sym same) (Contains-push us v))
      | inr before ↦ elim ((m.each x).0 before) [ inl old' ↦ inl old' | inr w ↦ inr (w.0, Contains-append_left us (v ∷ []) x w.1) ]
    ],
    λ r. elim r [
      | inl old' ↦ flagged_still v x new lt ((m.each x).1 (inl old'))
      | inr w ↦ elim (Contains-push_cases us v x w.1) [
        | inl before ↦ flagged_still v x new lt ((m.each x).1 (inr (w.0, before)))
        | inr same ↦ subst (λ (z : ℕ). flag_at (set new v true) z ≡ true) same (flagged_at v new lt)
      ]
    ],
  );
}

pub among_same : (members : List Bool) (us : List ℕ) (old new : List Bool) (v : ℕ) → AreMarkedAmong members us old new → flag_at members v ≡ false → AreMarkedAmong members (us ++ v ∷ []) old new
among_same members us old new v m out = record {
  long = m.long;
  each = λ x. (
    λ f. elim ((m.each x).0 f) [ inl old' ↦ inl old' | inr w ↦ inr (w.0, Contains-append_left us (v ∷ []) x w.1) ],
    λ r. elim r [
      | inl old' ↦ (m.each x).1 (inl old')
      | inr w ↦ elim (Contains-push_cases us v x w.1) [
        | inl before ↦ (m.each x).1 (inr (w.0, before))
        | inr same ↦ absurd (both_ways (flag_at members x) (sym (ap (flag_at members) same) ∙ out) w.0)
      ]
    ],
  );
}

-- ---- flags as their first node and their items

pub flags_are : (a b : Flags) → a.first ≡ b.first → a.items ≡ b.items → a ≡ b
flags_are a b first items =
    let P : ℕ → List Bool → Flags = λ n xs. record { first = n; items = xs } in
    ap (λ (n : ℕ). P n a.items) first ∙ ap (λ (xs : List Bool). P b.first xs) items

-- ---- numbers between two others

pub between_more : (us : List ℕ) (i first end low high : ℕ) → i < length us → All (λ u. (first ≤ u) × (u < end)) (take i us) → low ≤ first → low ≤ get_or us i 0 → end ≤ high → get_or us i 0 < high
    → All (λ u. (low ≤ u) × (u < high)) (take (i + 1) us)
between_more us i first end low high lt all a b c d =
    let P : ℕ → Type 0 = λ u. (low ≤ u) × (u < high) in
    let u = get_or us i 0 in
    let before = All-weaker (λ (v : ℕ). (first ≤ v) × (v < end)) P (λ v w. let x = w.0 in let y = w.1 in (omega arith, omega arith)) (take i us) all in
    subst (All P) (sym (take_more us i 0 lt)) (All-append P (take i us) (u ∷ []) before (All-cons P u [] (b, d) (All-nil P)))
