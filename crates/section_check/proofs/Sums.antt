-- What loops cost at most that hold a node, before and after an edge.
use Rattle.std.proofs.Common.{◌≡◌, ◌≢◌, ℕ, ◌+◌, ◌-◌, ◌*◌, ◌≤◌, Bool, true, false, cond, not, eqb, ◌&&◌, List, [], ◌∷◌, sum_by, Contains, Option, Some, None, unwrap_or, refl, sym, ap, ◌∙◌, subst, inl, inr, arith}
use Rattle.std.specs.Prelude.{AllPairs, suc}
use Rattle.std.proofs.lemmas.Bool.{cases_eq, eq-eqb, ne_eqb, cond-true, cond-false}
use Rattle.std.proofs.lemmas.List.Sums.{sum_by-cons}
use Rattle.lists.specs.Members.{at_head, in_tail, cons_cases, nil_contains}
use Rattle.section_check.specs.Bounded.{holds}
use Rattle.section_check.specs.Section.{PricedLoop, fee, headed_by}

pub sum_by-plus : {X : Type 0} (f g : X → ℕ) (xs : List X) → sum_by (λ x. f x + g x) xs ≡ sum_by f xs + sum_by g xs
sum_by-plus f g [] = refl
sum_by-plus f g (x ∷ xs) = omega (arith, sum_by-cons (λ y. f y + g y) x xs, sum_by-cons f x xs, sum_by-cons g x xs, sum_by-plus f g xs)

pub sum_by-zero : {X : Type 0} (xs : List X) → sum_by (λ x. 0) xs ≡ 0
sum_by-zero {X} [] = refl
sum_by-zero {X} (x ∷ xs) = omega (arith, sum_by-cons {X = X} (λ y. 0) x xs, sum_by-zero xs)

-- what one iteration less costs at most
one_less : (w n : ℕ) → 1 ≤ n → w * (n - 1) + w ≡ w * n
one_less w n h =
    let e : n ≡ (n - 1) + 1 = omega arith in
    let f = ap (λ (m : ℕ). w * m) e in
    omega arith

abbrev pub load_of : PricedLoop → ℕ
load_of l = unwrap_or l.load 0

-- how many iterations of the loop are left after an edge to v, where it was left or not, and so many were left
abbrev pub left_after : (PricedLoop → Bool) → (PricedLoop → ℕ) → ℕ → PricedLoop → ℕ
left_after inside left v l = cond (inside l) (cond (eqb l.certified.header v) (left l - 1) (left l)) l.bound

abbrev pub reserve_before : (PricedLoop → Bool) → (PricedLoop → ℕ) → PricedLoop → ℕ
reserve_before inside left l = cond (inside l) (l.certified.iteration_cost * left l) 0

abbrev pub reserve_after : (PricedLoop → Bool) → (PricedLoop → ℕ) → ℕ → PricedLoop → ℕ
reserve_after inside left v l = cond (holds l.certified.members v) (l.certified.iteration_cost * left_after inside left v l) 0

abbrev pub paid : (PricedLoop → Bool) → ℕ → PricedLoop → ℕ
paid inside v l = load_of l * cond (holds l.certified.members v && not (inside l)) 1 0

-- the iteration that is taken, and the fee that is paid, where the edge goes to a header
abbrev pub credit : (PricedLoop → Bool) → Option PricedLoop → ℕ
credit inside None = 0
credit inside (Some l) = cond (inside l) l.certified.iteration_cost 0

abbrev pub debit : (PricedLoop → Bool) → Option PricedLoop → ℕ
debit inside None = 0
debit inside (Some l) = cond (inside l) 0 (fee l)

other_loop : (inside : PricedLoop → Bool) (left : PricedLoop → ℕ) (v : ℕ) (l : PricedLoop) → (l.certified.header ≡ v → ⊥) → (holds l.certified.members v ≡ true → inside l ≡ true)
    → reserve_after inside left v l + paid inside v l ≤ reserve_before inside left l
other_loop inside left v l ne enters =
    let w = l.certified.iteration_cost in
    let P : (h i e : Bool) → Type 0 = λ h i e. (h ≡ true → i ≡ true) → e ≡ false → cond h (w * cond i (cond e (left l - 1) (left l)) l.bound) 0 + load_of l * cond (h && not i) 1 0 ≤ cond i (w * left l) 0 in
    let go : (h i e : Bool) → P h i e =
    elim [
      | true ↦ elim [ true ↦ elim [ true ↦ λ f no. let bad : ⊥ = cc in absurd bad | false ↦ λ f no. omega arith ] | false ↦ λ e f no. let t = f refl in let bad : ⊥ = cc in absurd bad ]
      | false ↦ λ i e f no. omega arith
    ]
    in
    go (holds l.certified.members v) (inside l) (eqb l.certified.header v) enters (ne_eqb l.certified.header v ne)

own_loop : (inside : PricedLoop → Bool) (left : PricedLoop → ℕ) (v : ℕ) (l : PricedLoop) → l.certified.header ≡ v → holds l.certified.members v ≡ true → (inside l ≡ true → 1 ≤ left l)
    → reserve_after inside left v l + paid inside v l + credit inside (Some l) ≤ reserve_before inside left l + debit inside (Some l)
own_loop inside left v l same held some_left =
    let w = l.certified.iteration_cost in
    let P : (h i e : Bool) → Type 0 = λ h i e.
    h ≡ true → (i ≡ true → 1 ≤ left l) → e ≡ true
    → cond h (w * cond i (cond e (left l - 1) (left l)) l.bound) 0 + load_of l * cond (h && not i) 1 0 + cond i w 0 ≤ cond i (w * left l) 0 + cond i 0 (l.bound * w + load_of l)
    in
    let go : (h i e : Bool) → P h i e =
    elim [
      | true ↦
          elim [
            | true ↦ elim [ true ↦ λ t f yes'. omega (arith, one_less w (left l) (f refl)) | false ↦ λ t f yes'. let bad : ⊥ = cc in absurd bad ]
            | false ↦ λ e t f yes'. omega arith
          ]
      | false ↦ λ i e t f yes'. let bad : ⊥ = cc in absurd bad
    ]
    in
    go (holds l.certified.members v) (inside l) (eqb l.certified.header v) held some_left (eq-eqb l.certified.header v same)

pub headed_here : (v : ℕ) (l : PricedLoop) (ls : List PricedLoop) → l.certified.header ≡ v → headed_by v (l ∷ ls) ≡ Some l
headed_here v l ls same = cond-true (eqb l.certified.header v) (Some l) (headed_by v ls) (eq-eqb l.certified.header v same)

pub headed_later : (v : ℕ) (l : PricedLoop) (ls : List PricedLoop) → (l.certified.header ≡ v → ⊥) → headed_by v (l ∷ ls) ≡ headed_by v ls
headed_later v l ls other = cond-false (eqb l.certified.header v) (Some l) (headed_by v ls) (ne_eqb l.certified.header v other)

abbrev pub HaveOwnHeaders : List PricedLoop → Type 0
HaveOwnHeaders ls = AllPairs (λ a b. a.certified.header ≢ b.certified.header) ls

-- a loop is the one that its header heads
pub headed_own : (ls : List PricedLoop) → HaveOwnHeaders ls → (l : PricedLoop) → Contains ls l → headed_by l.certified.header ls ≡ Some l
headed_own [] apart l has = absurd (nil_contains l has)
headed_own (x ∷ xs) apart l has =
    let header_of : PricedLoop → ℕ = λ k. k.certified.header in
    elim (cons_cases x l xs has) [
      | inl same ↦ headed_here l.certified.header x xs (ap header_of same) ∙ ap (λ (k : PricedLoop). Some k) same
      | inr there ↦
          let below = there.1 in
          headed_later l.certified.header x xs (λ e. apart 0 (suc there.0) l (omega arith) (omega arith) (e ∙ sym (ap header_of there.2)))
          ∙ headed_own xs (λ i j d less lt. apart (suc i) (suc j) d (omega arith) (omega arith)) l there
    ]

module _ (inside : PricedLoop → Bool) (left : PricedLoop → ℕ) (v : ℕ) where
  abbrev all_after : PricedLoop → ℕ
  all_after l = reserve_after inside left v l + paid inside v l

  others_after : (ls : List PricedLoop) → ((l : PricedLoop) → Contains ls l → l.certified.header ≡ v → ⊥) → ((l : PricedLoop) → Contains ls l → (l.certified.header ≡ v → ⊥) → holds l.certified.members v ≡ true → inside l ≡ true)
      → sum_by all_after ls ≤ sum_by (reserve_before inside left) ls
  others_after [] other enters = omega arith
  others_after (l ∷ ls) other enters =
      let later = others_after ls (λ k c. other k (in_tail l k ls c)) (λ k c. enters k (in_tail l k ls c)) in
      let here = other_loop inside left v l (other l (at_head l ls)) (enters l (at_head l ls) (other l (at_head l ls))) in
      omega (arith, sum_by-cons all_after l ls, sum_by-cons (reserve_before inside left) l ls)

  -- all loops together cost at most no more after the edge than before it, but for the one at whose header it arrives
  pub reserve_falls : (ls : List PricedLoop) → HaveOwnHeaders ls → ((l : PricedLoop) → Contains ls l → (l.certified.header ≡ v → ⊥) → holds l.certified.members v ≡ true → inside l ≡ true)
      → ((l : PricedLoop) → Contains ls l → l.certified.header ≡ v → holds l.certified.members v ≡ true) → ((l : PricedLoop) → Contains ls l → l.certified.header ≡ v → inside l ≡ true → 1 ≤ left l)
      → sum_by all_after ls + credit inside (headed_by v ls) ≤ sum_by (reserve_before inside left) ls + debit inside (headed_by v ls)
  reserve_falls [] apart enters own loop_costs = omega arith
  reserve_falls (l ∷ ls) apart enters own some_left =
      let P : Option PricedLoop → Type 0 = λ o. sum_by all_after (l ∷ ls) + credit inside o ≤ sum_by (reserve_before inside left) (l ∷ ls) + debit inside o in
      let a = sum_by-cons all_after l ls in
      let b = sum_by-cons (reserve_before inside left) l ls in
      elim (cases_eq l.certified.header v) [
        | inl same ↦
            let later =
            others_after ls
            (λ k c e. let below = c.1 in apart 0 (suc c.0) k (omega arith) (omega arith) (same ∙ sym e ∙ ap (λ (x : PricedLoop). x.certified.header) (sym c.2)))
            (λ k c. enters k (in_tail l k ls c))
            in
            let here = own_loop inside left v l same (own l (at_head l ls) same) (some_left l (at_head l ls) same) in
            subst P (sym (headed_here v l ls same)) (omega arith)
        | inr other ↦
            let later =
            reserve_falls ls (λ i j d less below. apart (suc i) (suc j) d (omega arith) (omega arith)) (λ k c. enters k (in_tail l k ls c)) (λ k c. own k (in_tail l k ls c))
            (λ k c. some_left k (in_tail l k ls c))
            in
            let here = other_loop inside left v l other (enters l (at_head l ls) other) in
            subst P (sym (headed_later v l ls other)) (omega arith)
      ]
