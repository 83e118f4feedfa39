-- What is reached by going on to those directly above, over as many steps as there are numbers, where some may be above themselves.
use Rattle.std.proofs.Common.{◌≡◌, ℕ, zero, suc, ◌+◌, ◌<◌, ◌≤◌, Bool, true, false, eqb, List, ◌⊎◌, inl, inr, refl, sym, ap, ◌∙◌, subst, arith}
use Rattle.std.specs.Prelude.{if◌then◌else◌}
use Rattle.std.specs.List.{flat_map}
use Rattle.std.proofs.lemmas.Bool.{cases_Bool, cases_lt, or_cases, or_left, or_right, eqb-true, eq-eqb, false≢true}
use Rattle.lists.specs.Numbers.{is_among, reached}
use Rattle.lists.proofs.Reached.{in_flat, flat_in}

-- the second number is reached from the first by fewer steps than so many
abbrev pub R : (ℕ → List ℕ) → (steps c d : ℕ) → Bool
R above k c d = is_among (reached above k c) d

pub self_in : (above : ℕ → List ℕ) (k c : ℕ) → R above (suc k) c c ≡ true
self_in above k c = or_left (eqb c c) (is_among (flat_map (reached above k) (above c)) c) (eq-eqb c c refl)

pub step_in : (above : ℕ → List ℕ) (k c x d : ℕ) → is_among (above c) x ≡ true → R above k x d ≡ true → R above (suc k) c d ≡ true
step_in above k c x d h e = or_right (eqb c d) (is_among (flat_map (reached above k) (above c)) d) (flat_in (reached above k) (above c) x d h e)

-- one step more reaches no less
pub grow : (above : ℕ → List ℕ) (k c d : ℕ) → R above k c d ≡ true → R above (suc k) c d ≡ true
grow above zero c d h = absurd (false≢true h)
grow above (suc k) c d h =
    elim (or_cases (eqb c d) (is_among (flat_map (reached above k) (above c)) d) h) [
      | inl e ↦ or_left (eqb c d) (is_among (flat_map (reached above (suc k)) (above c)) d) e
      | inr e ↦ let r = in_flat (reached above k) (above c) d e in step_in above (suc k) c r.0 d r.1 (grow above k r.0 d r.2)
    ]

-- a step at the end
pub last_step : (above : ℕ → List ℕ) (k c x y : ℕ) → R above k c x ≡ true → is_among (above x) y ≡ true → R above (suc k) c y ≡ true
last_step above zero c x y h e = absurd (false≢true h)
last_step above (suc k) c x y h e =
    elim (or_cases (eqb c x) (is_among (flat_map (reached above k) (above c)) x) h) [
      | inl s ↦ step_in above (suc k) c y y (ap (λ z. is_among (above z) y) (eqb-true c x s) ∙ e) (self_in above k y)
      | inr s ↦ let r = in_flat (reached above k) (above c) x s in step_in above (suc k) c r.0 y r.1 (last_step above k r.0 x y r.2 e)
    ]

-- how a number is reached: it is the first, or it is directly above one that is reached by a step less
pub data Last (above : ℕ → List ℕ) (k c d : ℕ) : Type 0 where
  here : c ≡ d → Last above k c d
  from : (x : ℕ) → R above k c x ≡ true → is_among (above x) d ≡ true → Last above k c d

later : (above : ℕ → List ℕ) (k c x d : ℕ) → is_among (above c) x ≡ true → Last above k x d → Last above (suc k) c d
later above k c x d h (here e) = from c (self_in above k c) (ap (is_among (above c)) (sym e) ∙ h)
later above k c x d h (from z r e) = from z (step_in above k c x z h r) e

pub last_of : (above : ℕ → List ℕ) (k c d : ℕ) → R above (suc k) c d ≡ true → Last above k c d
last_of above zero c d h =
    elim (or_cases (eqb c d) (is_among (flat_map (reached above zero) (above c)) d) h) [
      | inl e ↦ here (eqb-true c d e)
      | inr e ↦ let r = in_flat (reached above zero) (above c) d e in absurd (false≢true r.2)
    ]
last_of above (suc k) c d h =
    elim (or_cases (eqb c d) (is_among (flat_map (reached above (suc k)) (above c)) d) h) [
      | inl e ↦ here (eqb-true c d e)
      | inr e ↦ let r = in_flat (reached above (suc k)) (above c) d e in later above k c r.0 d r.1 (last_of above k r.0 d r.2)
    ]

-- where a step more reaches no more, no number of steps does
stable_case : (above : ℕ → List ℕ) (k c j d : ℕ) → ((x : ℕ) → R above (suc k) c x ≡ true → R above k c x ≡ true) → ((x : ℕ) → R above j c x ≡ true → R above k c x ≡ true) → Last above j c d → R above k c d ≡ true
stable_case above k c j d h before (here e) = ap (R above k c) (sym e) ∙ h c (self_in above k c)
stable_case above k c j d h before (from x r e) = h d (last_step above k c x d (before x r) e)

stable : (above : ℕ → List ℕ) (k c : ℕ) → ((x : ℕ) → R above (suc k) c x ≡ true → R above k c x ≡ true) → (j d : ℕ) → R above j c d ≡ true → R above k c d ≡ true
stable above k c h zero d r = absurd (false≢true r)
stable above k c h (suc j) d r = stable_case above k c j d h (λ x e. stable above k c h j x e) (last_of above j c d r)

-- ---- how many numbers pass a test

pub count_below : (ℕ → Bool) → ℕ → ℕ
count_below p zero = 0
count_below p (suc n) = (if p n then 1 else 0) + count_below p n

one_or_none : (b : Bool) → (if b then 1 else 0) ≤ 1
one_or_none true = omega arith
one_or_none false = omega arith

pub count_few : (p : ℕ → Bool) (n : ℕ) → count_below p n ≤ n
unfolding count_below
count_few p zero = omega arith
count_few p (suc n) = let one = one_or_none (p n) in let few = count_few p n in omega (arith, one, few)

no_more : (a b : Bool) → (a ≡ true → b ≡ true) → (if a then 1 else 0) ≤ (if b then 1 else 0)
no_more true true h = omega arith
no_more true false h = absurd (false≢true (h refl))
no_more false true h = omega arith
no_more false false h = omega arith

pub count_more : (p q : ℕ → Bool) (n : ℕ) → ((c : ℕ) → p c ≡ true → q c ≡ true) → count_below p n ≤ count_below q n
unfolding count_below
count_more p q zero h = omega arith
count_more p q (suc n) h = let one = no_more (p n) (q n) (h n) in let rest = count_more p q n h in omega (arith, one, rest)

new_one : (a b : Bool) → a ≡ false → b ≡ true → (if a then 1 else 0) < (if b then 1 else 0)
new_one true b h e = absurd (false≢true (sym h))
new_one false true h e = omega arith
new_one false false h e = absurd (false≢true e)

-- one that passes only the second test
pub count_above : (p q : ℕ → Bool) (n c : ℕ) → ((x : ℕ) → p x ≡ true → q x ≡ true) → c < n → p c ≡ false → q c ≡ true → count_below p n < count_below q n
unfolding count_below
count_above p q zero c h lt e f = absurd (omega (arith, lt))
count_above p q (suc n) c h lt e f =
    elim (cases_lt c n) [
      | inl l ↦ let one = no_more (p n) (q n) (h n) in let rest = count_above p q n c h l e f in omega (arith, one, rest)
      | inr g ↦
          let at : c ≡ n = omega (arith, lt, g) in
          let one = new_one (p n) (q n) (ap p (sym at) ∙ e) (ap q (sym at) ∙ f) in
          let rest = count_more p q n h in
          omega (arith, one, rest)
    ]

count_later : (p q : ℕ → Bool) (n : ℕ) → ((x : ℕ) → p x ≡ true → q x ≡ true) → count_below p n < count_below q n → count_below p (suc n) < count_below q (suc n)
unfolding count_below
count_later p q n h less = let one = no_more (p n) (q n) (h n) in omega (arith, one, less)

-- all numbers that pass the second test pass the first, or there are more of them
pub count_decides : (p q : ℕ → Bool) (n : ℕ) → ((x : ℕ) → p x ≡ true → q x ≡ true) → ((c : ℕ) → c < n → q c ≡ true → p c ≡ true) ⊎ (count_below p n < count_below q n)
count_decides p q zero h = inl (λ c lt e. absurd (omega (arith, lt)))
count_decides p q (suc n) h =
    elim (cases_Bool (q n)) [
      | inl f ↦ elim (cases_Bool (p n)) [
        | inl e ↦ elim (count_decides p q n h) [
          | inl same ↦ inl (λ c lt g. elim (cases_lt c n) [ inl l ↦ same c l g | inr o ↦ let at : c ≡ n = omega (arith, lt, o) in ap p at ∙ e ])
          | inr less ↦ inr (count_later p q n h less)
        ]
        | inr e ↦ inr (count_above p q (suc n) n h (omega arith) e f)
      ]
      | inr f ↦ elim (count_decides p q n h) [
        | inl same ↦ inl (λ c lt g. elim (cases_lt c n) [ inl l ↦ same c l g | inr o ↦ let at : c ≡ n = omega (arith, lt, o) in absurd (false≢true (sym f ∙ (ap q (sym at) ∙ g))) ])
        | inr less ↦ inr (count_later p q n h less)
      ]
    ]

last_passes : (b : Bool) (k n : ℕ) → suc n ≤ (if b then 1 else 0) + k → k ≤ n → b ≡ true
last_passes true k n h few = refl
last_passes false k n h few = absurd (omega (arith, h, few))

-- as many as there are numbers: all pass
pub count_full : (p : ℕ → Bool) (n : ℕ) → n ≤ count_below p n → (c : ℕ) → c < n → p c ≡ true
unfolding count_below
count_full p zero h c lt = absurd (omega (arith, lt))
count_full p (suc n) h c lt =
    let one = one_or_none (p n) in
    let few = count_few p n in
    elim (cases_lt c n) [
      | inl l ↦ count_full p n (omega (arith, one, few, h)) c l
      | inr g ↦ let at : c ≡ n = omega (arith, lt, g) in ap p at ∙ last_passes (p n) (count_below p n) n h few
    ]

pub count_some : (p : ℕ → Bool) (n c : ℕ) → c < n → p c ≡ true → 0 < count_below p n
count_some p n c lt h = let more = count_above (λ x. false) p n c (λ x e. absurd (false≢true e)) lt refl h in omega (arith, more)

-- ---- as many steps as there are numbers are enough

pub in_range : (above : ℕ → List ℕ) (n : ℕ) → ((c d : ℕ) → is_among (above c) d ≡ true → d < n) → (c : ℕ) → c < n → (k d : ℕ) → R above k c d ≡ true → d < n
in_range above n below c lt zero d h = absurd (false≢true h)
in_range above n below c lt (suc k) d h =
    elim (last_of above k c d h) [
      | here e ↦ subst (λ x. x < n) e lt
      | from x r e ↦ below x d e
    ]

Enough : (ℕ → List ℕ) → (n c k : ℕ) → Type 0
Enough above n c k = ((j d : ℕ) → R above j c d ≡ true → R above k c d ≡ true) ⊎ (k ≤ count_below (R above k c) n)

enough_by : (above : ℕ → List ℕ) (n : ℕ) → ((c d : ℕ) → is_among (above c) d ≡ true → d < n) → (c : ℕ) → c < n → (k : ℕ) → Enough above n c k
unfolding Enough
enough_by above n below c lt zero = inr (omega arith)
enough_by above n below c lt (suc k) =
    elim (enough_by above n below c lt k) [
      | inl all ↦ inl (λ j d r. grow above k c d (all j d r))
      | inr many ↦ elim (count_decides (R above k c) (R above (suc k) c) n (λ x e. grow above k c x e)) [
        | inl same ↦ inl (λ j d r. grow above k c d (stable above k c (λ x e. same x (in_range above n below c lt (suc k) x e) e) j d r))
        | inr more ↦ inr (omega (arith, many, more))
      ]
    ]

pub enough : (above : ℕ → List ℕ) (n : ℕ) → ((c d : ℕ) → is_among (above c) d ≡ true → d < n) → (c : ℕ) → c < n → (j d : ℕ) → R above j c d ≡ true → R above n c d ≡ true
unfolding Enough
enough above n below c lt j d r =
    elim (enough_by above n below c lt n) [
      | inl all ↦ all j d r
      | inr many ↦ count_full (R above n c) n many d (in_range above n below c lt j d r)
    ]
