-- What stands above each number, one number after another.
use Rattle.std.proofs.Common.{◌≡◌, ℕ, zero, suc, ◌+◌, ◌<◌, ◌≤◌, true, false, ◌||◌, eqb, List, [], ◌∷◌, ◌++◌, take, map, length, get_or, set, replicate, inl, inr, refl, sym, ap, ◌∙◌, subst, append-nil, append_assoc, arith}
use Rattle.std.specs.List.{flat_map}
use Rattle.std.proofs.lemmas.Bool.{cases_lt, cases_eq, cases_Bool, or_cases, or_left, or_right, eqb-true, eq-eqb, false≢true, both_ways, or_parts, false_from_ne_true}
use Rattle.std.proofs.lemmas.List.{take_more, get_or_past, get_or-set_same, get_or-set_other, length-set}
use Rattle.std.proofs.lemmas.List.Folds.{list_any_more}
use Rattle.std.proofs.lemmas.Grind.{flat_map-append}
use Rattle.lists.specs.Lists.{first_some}
use Rattle.lists.specs.Numbers.{is_among, reached, Falls}
use Rattle.lists.proofs.Reached.{in_append, in_flat, flat_in, reached_step, reached_through}
use Rattle.number_sets.specs.Numbers.{entry, IsSameSearch, IsTransitive, HasWhole, IsPeeled, HasAll}
use Rattle.lists.proofs.Finding.{same_search, same_append, same_flat, covered, same_among}
use Rattle.lists.proofs.Among.{among_at}
use Rattle.number_sets.proofs.Ranks.{rank_in, ranks_of, falls_of}

-- ---- one more number's list

-- what stands so far, and what the next number has
lists_more : (table : List (List ℕ)) (old numbers : List ℕ) (i : ℕ) → i < length numbers
    → old ++ flat_map (entry table) (take (i + 1) numbers) ≡ (old ++ flat_map (entry table) (take i numbers)) ++ entry table (get_or numbers i 0)
lists_more table old numbers i lt =
    ap (λ xs. old ++ flat_map (entry table) xs) (take_more numbers i 0 lt)
    ∙ (ap (λ xs. old ++ xs) (flat_map-append (entry table) (take i numbers) (get_or numbers i 0 ∷ []) ∙ ap (λ xs. flat_map (entry table) (take i numbers) ++ xs) (append-nil (entry table (get_or numbers i 0))))
    ∙ sym (append_assoc old (flat_map (entry table) (take i numbers)) (entry table (get_or numbers i 0))))

pub inserted_more : (table : List (List ℕ)) (old numbers self next : List ℕ) (i : ℕ) → i < length numbers → IsSameSearch self (old ++ flat_map (entry table) (take i numbers))
    → IsSameSearch next (self ++ entry table (get_or numbers i 0)) → IsSameSearch next (old ++ flat_map (entry table) (take (i + 1) numbers))
inserted_more table old numbers self next i lt h e find =
    let own = entry table (get_or numbers i 0) in
    let done = old ++ flat_map (entry table) (take i numbers) in
    e find ∙ (same_append self done own own h (same_search own own refl) find ∙ ap (λ xs. first_some (map find xs)) (sym (lists_more table old numbers i lt)))

-- what is among them already has brought its list along
has_own : (table : List (List ℕ)) (old numbers : List ℕ) (i : ℕ) → IsTransitive table → HasWhole table numbers old → i < length numbers
    → is_among (old ++ flat_map (entry table) (take i numbers)) (get_or numbers i 0) ≡ true → (z : ℕ) → is_among (entry table (get_or numbers i 0)) z ≡ true → is_among (old ++ flat_map (entry table) (take i numbers)) z ≡ true
has_own table old numbers i through whole lt h z e =
    let t = get_or numbers i 0 in
    let rest = flat_map (entry table) (take i numbers) in
    elim (or_cases (is_among old t) (is_among rest t) (sym (in_append old rest t) ∙ h)) [
      | inl l ↦ in_append old rest z ∙ or_left (is_among old z) (is_among rest z) (whole t z (among_at numbers i lt) l e)
      | inr r ↦
          let x = in_flat (entry table) (take i numbers) t r in
          in_append old rest z ∙ or_right (is_among old z) (is_among rest z) (flat_in (entry table) (take i numbers) x.0 z x.1 (through x.0 t z x.2 e))
    ]

pub inserted_before : (table : List (List ℕ)) (old numbers self : List ℕ) (i : ℕ) → IsTransitive table → HasWhole table numbers old → i < length numbers → IsSameSearch self (old ++ flat_map (entry table) (take i numbers))
    → is_among self (get_or numbers i 0) ≡ true → IsSameSearch self (old ++ flat_map (entry table) (take (i + 1) numbers))
inserted_before table old numbers self i through whole lt h e find =
    let done = old ++ flat_map (entry table) (take i numbers) in
    let t = get_or numbers i 0 in
    h find ∙ (covered done (entry table t) (has_own table old numbers i through whole lt (sym (same_among self done t h) ∙ e)) find
    ∙ ap (λ xs. first_some (map find xs)) (sym (lists_more table old numbers i lt)))

pub inserted_none : (table : List (List ℕ)) (old numbers self : List ℕ) (i : ℕ) → i < length numbers → IsSameSearch self (old ++ flat_map (entry table) (take i numbers))
    → length table ≤ get_or numbers i 0 → IsSameSearch self (old ++ flat_map (entry table) (take (i + 1) numbers))
inserted_none table old numbers self i lt h past =
    inserted_more table old numbers self self i lt h
    (same_search self (self ++ entry table (get_or numbers i 0)) (sym (ap (λ xs. self ++ xs) (get_or_past table (get_or numbers i 0) [] past) ∙ append-nil self)))

-- a number that doesn't stand directly above itself
pub has_whole_alone : (table : List (List ℕ)) (above : List ℕ) (c : ℕ) → is_among above c ≡ false → HasWhole table above (c ∷ [])
has_whole_alone table above c h t z a e i =
    elim (or_cases (eqb c t) false e) [
      | inl s ↦ absurd (both_ways (is_among above c) h (ap (is_among above) (eqb-true c t s) ∙ a))
      | inr s ↦ absurd (false≢true s)
    ]

-- ---- the whole table

pub record IsBuilt (above : List (List ℕ)) (built : List ℕ) (table : List (List ℕ)) : Type 0 where
  pub long : length table ≡ length above
  pub each : (c : ℕ) → is_among built c ≡ true → IsSameSearch (entry table c) (reached (entry above) (length above) c)
  pub rest : (c : ℕ) → is_among built c ≡ false → entry table c ≡ []

pub entry_none : (n c : ℕ) → entry (replicate n []) c ≡ []
entry_none zero c = refl
entry_none (suc n) zero = refl
entry_none (suc n) (suc c) = entry_none n c

long_none : (n : ℕ) → length (replicate {A = List ℕ} n []) ≡ n
long_none zero = refl
long_none (suc n) = ap suc (long_none n)

pub built_none : (above table : List (List ℕ)) → table ≡ replicate (length above) [] → IsBuilt above [] table
built_none above table h = record {
  long = ap length h ∙ long_none (length above);
  each = λ c e. absurd (false≢true e);
  rest = λ c e. ap (λ (t : List (List ℕ)). entry t c) h ∙ entry_none (length above) c;
}

has_entry : (above : List (List ℕ)) (built : List ℕ) (table : List (List ℕ)) → IsBuilt above built table → (x y : ℕ) → is_among (entry table x) y ≡ true → is_among built x ≡ true
has_entry above built table b x y h =
    elim (cases_Bool (is_among built x)) [
      | inl t ↦ t
      | inr f ↦ absurd (false≢true (sym (ap (λ xs. is_among xs y) (b.rest x f)) ∙ h))
    ]

pub built_through : (above : List (List ℕ)) (rank : ℕ → ℕ) → Falls (entry above) rank (length above) → (built : List ℕ) (table : List (List ℕ)) → IsBuilt above built table → IsTransitive table
built_through above rank f built table b x y z h e =
    let hx = b.each x (has_entry above built table b x y h) in
    let hy = b.each y (has_entry above built table b y z e) in
    let R = reached (entry above) (length above) in
    same_among (entry table x) (R x) z hx
    ∙ reached_through (entry above) rank (length above) f x y z (sym (same_among (entry table x) (R x) y hx) ∙ h) (sym (same_among (entry table y) (R y) z hy) ∙ e)

-- with the list of one more number, of which all directly above have theirs
pub built_more : (above : List (List ℕ)) (rank : ℕ → ℕ) → Falls (entry above) rank (length above) → (built : List ℕ) (table : List (List ℕ)) (n : ℕ) (list : List ℕ) → IsBuilt above built table → n < length above
    → ((d : ℕ) → is_among (entry above n) d ≡ true → is_among built d ≡ true) → IsSameSearch list (n ∷ flat_map (entry table) (entry above n))
    → (next : List ℕ) → ((c : ℕ) → is_among next c ≡ (is_among built c || eqb n c)) → IsBuilt above next (set table n list)
built_more above rank f built table n list b lt tops h next among =
    let R = reached (entry above) (length above) in
    let within : n < length table = let long = b.long in omega (arith, lt, long) in
    let own : IsSameSearch list (R n) = λ find.
    h find ∙ (same_append (n ∷ []) (n ∷ []) (flat_map (entry table) (entry above n)) (flat_map R (entry above n)) (same_search (n ∷ []) (n ∷ []) refl)
    (same_flat (entry table) R (entry above n) (λ d i. b.each d (tops d i))) find ∙ ap (λ xs. first_some (map find xs)) (sym (reached_step (entry above) rank (length above) f n))) in
    record {
      long = length-set table n list ∙ b.long;
      each = λ c e. elim (cases_eq c n) [
        | inl s ↦ subst (λ k. IsSameSearch (entry (set table n list) k) (R k)) (sym s) (λ find. ap (λ xs. first_some (map find xs)) (get_or-set_same table n list [] within) ∙ own find)
        | inr s ↦ λ find.
            ap (λ xs. first_some (map find xs)) (get_or-set_other table n c list [] s)
            ∙ b.each c (elim (or_cases (is_among built c) (eqb n c) (sym (among c) ∙ e)) [ inl l ↦ l | inr r ↦ absurd (s (sym (eqb-true n c r))) ]) find
      ];
      rest = λ c e.
          let p = or_parts (is_among built c) (eqb n c) (sym (among c) ∙ e) in
          let apart : c ≡ n → ⊥ = λ s. both_ways (eqb n c) p.1 (eq-eqb n c (sym s)) in
          get_or-set_other table n c list [] apart ∙ b.rest c p.0;
    }

-- no number stands directly above itself
pub falls_apart : (above : List (List ℕ)) (rank : ℕ → ℕ) → Falls (entry above) rank (length above) → (n : ℕ) → is_among (entry above n) n ≡ false
falls_apart above rank f n = false_from_ne_true (is_among (entry above n) n) (λ h. let lower = f.falls n n h in absurd (omega (arith, lower)))

pub front_more : (order : List ℕ) (i : ℕ) → i < length order → (c : ℕ) → is_among (take (i + 1) order) c ≡ (is_among (take i order) c || eqb (get_or order i 0) c)
front_more order i lt c = list_any_more (λ k. eqb k c) order i 0 lt

-- ---- as the code reads them

pub falls_at : (above : List (List ℕ)) (order : List ℕ) → IsPeeled above order → HasAll (length above) order → length order ≤ length above → (n : ℕ) → n < length above → Falls (entry above) (rank_in (ranks_of (length above) order)) (length above)
falls_at above order p all few n lt = let some : 0 < length above = omega (arith, lt) in falls_of above order p all few some

-- at the end
pub through_end : (above : List (List ℕ)) (order : List ℕ) (table : List (List ℕ)) (i : ℕ) → IsPeeled above order → HasAll (length above) order → length order ≤ length above → IsBuilt above (take i order) table → IsTransitive table
through_end above order table i p all few b x y z h e =
    elim (cases_lt x (length table)) [
      | inl l ↦
          let long = b.long in
          let lt : x < length above = omega (arith, l, long) in
          built_through above (rank_in (ranks_of (length above) order)) (falls_at above order p all few x lt) (take i order) table b x y z h e
      | inr g ↦ absurd (false≢true (sym (ap (λ xs. is_among xs y) (get_or_past table x [] g)) ∙ h))
    ]
