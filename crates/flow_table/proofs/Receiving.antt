-- The lists of the classes below each class, as far as they are made.
use Rattle.std.proofs.Common.{◌≡◌, ◌≢◌, ◌⊎◌, ◌&&◌, ℕ, ◌+◌, ◌<◌, ◌≤◌, Bool, true, false, eqb, List, [], ◌∷◌, ◌++◌, length, get_or, replicate, Contains, Vec, Global, refl, sym, ap, ◌∙◌, subst, inl, inr, arith}
use Rattle.std.proofs.Math.ListN.{set, length-set}
use Rattle.std.proofs.lemmas.Bool.{cases_eq, cases_lt, or_cases, or_left, or_right, eqb-true, eq-eqb, false≢true}
use Rattle.std.proofs.lemmas.Grind.{get_or-set_at}
use Rattle.std.proofs.lemmas.List.{get_or-map, get_or-set_other, get_or-replicate, length-map, length-replicate, map-set}
use Rattle.std.proofs.lemmas.List.Elements.{Contains-append_left, Contains-append_right, Contains-append_cases}
use Rattle.lists.specs.Numbers.{is_among, IsSameSearch}
use Rattle.lists.specs.Members.{at_head, in_tail, cons_cases, nil_contains}
use Rattle.lists.specs.Tests.{and_left, and_right}
use Rattle.lists.proofs.Finding.{same_among}
use Rattle.class_pool.specs.declared.class.ClassFile.{ClassFile}
use Rattle.class_lookup.specs.Hierarchy.{is_concrete, extends, supertypes}
use Rattle.flow_table.specs.Receivers.{lists_of, AreBelow, IsPut}

-- ---- members of lists

pub single : {X : Type 0} (x y : X) → Contains (x ∷ []) y → x ≡ y
single x y c = elim (cons_cases x y [] c) [ inl same ↦ same | inr there ↦ absurd (nil_contains y there) ]

pub among_contains : (xs : List ℕ) (d : ℕ) → is_among xs d ≡ true → Contains xs d
among_contains [] d h = absurd (false≢true h)
among_contains (x ∷ xs) d h =
    elim (or_cases (eqb x d) (is_among xs d) h) [
      | inl e ↦ let P : ℕ → Type 0 = λ y. Contains (x ∷ xs) y in subst P (eqb-true x d e) (at_head x xs)
      | inr r ↦ in_tail x d xs (among_contains xs d r)
    ]

pub contains_among : (xs : List ℕ) (d : ℕ) → Contains xs d → is_among xs d ≡ true
contains_among [] d c = absurd (nil_contains d c)
contains_among (x ∷ xs) d c =
    elim (cons_cases x d xs c) [
      | inl e ↦ or_left (eqb x d) (is_among xs d) (eq-eqb x d e)
      | inr there ↦ or_right (eqb x d) (is_among xs d) (contains_among xs d there)
    ]

-- ---- a class is put into lists

pub none_put : (class : ℕ) (ls : List (List ℕ)) → IsPut class [] ls ls
none_put class ls = record {
  long = refl;
  each = λ d c lt. (λ has. inl has, λ x. elim x [ inl there ↦ there | inr new ↦ absurd (nil_contains d new.1) ]);
}

-- the number is too great
pub put_past : (class u : ℕ) (us : List ℕ) (old ls : List (List ℕ)) → IsPut class us old ls → length ls ≤ u → IsPut class (us ++ u ∷ []) old ls
put_past class u us old ls h past = record {
  long = h.long;
  each = λ d c lt. (
    λ has. elim ((h.each d c lt).0 has) [ inl there ↦ inl there | inr new ↦ inr (new.0, Contains-append_left us (u ∷ []) d new.1) ],
    λ x. (h.each d c lt).1 (elim x [ inl there ↦ inl there | inr new ↦ inr (new.0, before d lt (Contains-append_cases us (u ∷ []) d new.1)) ]),
  );
}
  where
    before : (d : ℕ) → d < length old → Contains us d ⊎ Contains (u ∷ []) d → Contains us d
    before d lt (inl c) = c
    before d lt (inr c) = absurd (let same : u ≡ d = single u d c in let long = h.long in omega arith)

put_within : (class u : ℕ) (us : List ℕ) (old ls ms : List (List ℕ)) → IsPut class us old ls → u < length ls → ms ≡ set ls u (get_or ls u [] ++ class ∷ []) → IsPut class (us ++ u ∷ []) old ms
put_within class u us old ls ms h inside is = record {
  long = ap length is ∙ length-set ls u (get_or ls u [] ++ class ∷ []) ∙ h.long;
  each = λ d c lt. elim (cases_eq d u) [ inl same ↦ here d c lt same | inr other ↦ apart d c lt other ];
}
  where
    longer : List ℕ
    longer = get_or ls u [] ++ class ∷ []

    at_same : (d : ℕ) → d ≡ u → get_or ms d [] ≡ get_or ls d [] ++ class ∷ []
    at_same d same = ap (λ (xs : List (List ℕ)). get_or xs d []) is ∙ get_or-set_at ls u d longer [] same inside ∙ ap (λ (k : ℕ). get_or ls k [] ++ class ∷ []) (sym same)

    at_other : (d : ℕ) → d ≢ u → get_or ms d [] ≡ get_or ls d []
    at_other d other = ap (λ (xs : List (List ℕ)). get_or xs d []) is ∙ get_or-set_other ls u d longer [] other

    to : (d c : ℕ) → d < length old → d ≡ u → Contains (get_or ls d []) c ⊎ Contains (class ∷ []) c → Contains (get_or old d []) c ⊎ ((c ≡ class) × Contains (us ++ u ∷ []) d)
    to d c lt same (inl there) = elim ((h.each d c lt).0 there) [ inl before ↦ inl before | inr new ↦ inr (new.0, Contains-append_left us (u ∷ []) d new.1) ]
    to d c lt same (inr new) =
        inr (sym (single class c new), let P : ℕ → Type 0 = λ k. Contains (us ++ u ∷ []) k in subst P (sym same) (Contains-append_right us (u ∷ []) u (at_head u [])))

    from : (d c : ℕ) → d < length old → Contains (get_or old d []) c ⊎ ((c ≡ class) × Contains (us ++ u ∷ []) d) → Contains (get_or ls d [] ++ class ∷ []) c
    from d c lt (inl before) = Contains-append_left (get_or ls d []) (class ∷ []) c ((h.each d c lt).1 (inl before))
    from d c lt (inr new) = let P : ℕ → Type 0 = λ k. Contains (get_or ls d [] ++ class ∷ []) k in subst P (sym new.0) (Contains-append_right (get_or ls d []) (class ∷ []) class (at_head class []))

    here : (d c : ℕ) → d < length old → d ≡ u
        → (Contains (get_or ms d []) c → Contains (get_or old d []) c ⊎ ((c ≡ class) × Contains (us ++ u ∷ []) d)) × (Contains (get_or old d []) c ⊎ ((c ≡ class) × Contains (us ++ u ∷ []) d) → Contains (get_or ms d []) c)
    here d c lt same = (
      λ has. to d c lt same (Contains-append_cases (get_or ls d []) (class ∷ []) c (subst (λ (xs : List ℕ). Contains xs c) (at_same d same) has)),
      λ x. subst (λ (xs : List ℕ). Contains xs c) (sym (at_same d same)) (from d c lt x),
    )

    earlier : (d : ℕ) → d ≢ u → Contains us d ⊎ Contains (u ∷ []) d → Contains us d
    earlier d other (inl c) = c
    earlier d other (inr c) = absurd (other (sym (single u d c)))

    apart : (d c : ℕ) → d < length old → d ≢ u
        → (Contains (get_or ms d []) c → Contains (get_or old d []) c ⊎ ((c ≡ class) × Contains (us ++ u ∷ []) d)) × (Contains (get_or old d []) c ⊎ ((c ≡ class) × Contains (us ++ u ∷ []) d) → Contains (get_or ms d []) c)
    apart d c lt other = (
      λ has. elim ((h.each d c lt).0 (subst (λ (xs : List ℕ). Contains xs c) (at_other d other) has)) [
        | inl before ↦ inl before
        | inr new ↦ inr (new.0, Contains-append_left us (u ∷ []) d new.1)
      ],
      λ x. subst (λ (xs : List ℕ). Contains xs c) (sym (at_other d other))
          ((h.each d c lt).1 (elim x [ inl before ↦ inl before | inr new ↦ inr (new.0, earlier d other (Contains-append_cases us (u ∷ []) d new.1)) ])),
    )

pub put_one : (class u : ℕ) (us : List ℕ) (old : List (List ℕ)) (vs ws : List (Vec ℕ Global)) (v w : Vec ℕ Global) → IsPut class us old (lists_of vs) → u < length vs → w ≡ get_or vs u w
    → v.items ≡ w.items ++ class ∷ [] → ws ≡ set vs u v → IsPut class (us ++ u ∷ []) old (lists_of ws)
put_one class u us old vs ws v w h inside read pushed is =
    let items : Vec ℕ Global → List ℕ = λ x. x.items in
    let long : length (lists_of vs) ≡ length vs = length-map vs items in
    let at : get_or (lists_of vs) u [] ≡ w.items = get_or-map items vs u w [] inside ∙ ap items (sym read) in
    put_within class u us old (lists_of vs) (lists_of ws) h (omega arith) (ap lists_of is ∙ map-set items vs u v ∙ ap (λ (xs : List ℕ). set (lists_of vs) u xs) (pushed ∙ ap (λ (xs : List ℕ). xs ++ class ∷ []) (sym at)))

-- ---- all classes

pub none_below : (cs : List ClassFile) (count : ℕ) (ls : List (List ℕ)) → count ≡ length cs → ls ≡ replicate count [] → AreBelow cs 0 ls
none_below cs count ls many is = record {
  long = ap length is ∙ length-replicate count [] ∙ many;
  each = λ d c lt. (
    λ has. absurd (nil_contains c (subst (λ (xs : List ℕ). Contains xs c) (ap (λ (xs : List (List ℕ)). get_or xs d []) is ∙ get_or-replicate count d [] [] (omega arith)) has)),
    λ x. absurd (let less = x.0 in omega arith),
  );
}

pub below_more : (cs : List ClassFile) (n : ℕ) (uppers : List ℕ) (ls ms : List (List ℕ)) → AreBelow cs n ls → is_concrete cs n ≡ true → IsSameSearch uppers (supertypes cs n) → IsPut n uppers ls ms → AreBelow cs (n + 1) ms
below_more cs n uppers ls ms h concrete same put = record {
  long = put.long ∙ h.long;
  each = λ d c lt. (λ has. to d c lt ((put.each d c (within d lt)).0 has), λ x. (put.each d c (within d lt)).1 (from d c lt x (cases_lt c n)));
}
  where
    within : (d : ℕ) → d < length cs → d < length ls
    within d lt = let long = h.long in omega arith

    to : (d c : ℕ) → d < length cs → Contains (get_or ls d []) c ⊎ ((c ≡ n) × Contains uppers d) → (c < n + 1) × ((is_concrete cs c && extends cs c d) ≡ true)
    to d c lt (inl before) = let x = (h.each d c lt).0 before in let less = x.0 in (omega arith, x.1)
    to d c lt (inr new) =
        let is = new.0 in
        let above : extends cs n d ≡ true = sym (same_among uppers (supertypes cs n) d same) ∙ contains_among uppers d new.1 in
        (omega arith, ap (λ (k : ℕ). is_concrete cs k && extends cs k d) is ∙ ap (λ (b : Bool). b && extends cs n d) concrete ∙ above)

    from : (d c : ℕ) → d < length cs → (c < n + 1) × ((is_concrete cs c && extends cs c d) ≡ true) → (c < n) ⊎ (n ≤ c) → Contains (get_or ls d []) c ⊎ ((c ≡ n) × Contains uppers d)
    from d c lt x (inl less) = inl ((h.each d c lt).1 (less, x.1))
    from d c lt x (inr ge) =
        let less = x.0 in
        let is : c ≡ n = omega arith in
        let above : extends cs n d ≡ true = ap (λ (k : ℕ). extends cs k d) (sym is) ∙ and_right (is_concrete cs c) (extends cs c d) x.1 in
        inr (is, among_contains uppers d (same_among uppers (supertypes cs n) d same ∙ above))

-- a class of which there are no instances
pub below_same : (cs : List ClassFile) (n : ℕ) (ls : List (List ℕ)) → AreBelow cs n ls → is_concrete cs n ≡ false → AreBelow cs (n + 1) ls
below_same cs n ls h abstract = record {
  long = h.long;
  each = λ d c lt. (λ has. let x = (h.each d c lt).0 has in let less = x.0 in (omega arith, x.1), λ x. (h.each d c lt).1 (before d c x (cases_lt c n), x.1));
}
  where
    before : (d c : ℕ) → (c < n + 1) × ((is_concrete cs c && extends cs c d) ≡ true) → (c < n) ⊎ (n ≤ c) → c < n
    before d c x (inl less) = less
    before d c x (inr ge) =
        let less = x.0 in
        let is : c ≡ n = omega arith in
        absurd (false≢true (sym abstract ∙ ap (λ (k : ℕ). is_concrete cs k) (sym is) ∙ and_left (is_concrete cs c) (extends cs c d) x.1))
