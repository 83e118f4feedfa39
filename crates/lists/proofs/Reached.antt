-- Classes reached upwards, where each step falls in rank.
use Rattle.std.proofs.Common.{◌≡◌, ℕ, zero, suc, ◌<◌, ◌≤◌, true, ◌||◌, eqb, List, [], ◌∷◌, ◌++◌, inl, inr, refl, sym, ap, ap₂, ◌∙◌, subst, arith}
use Rattle.std.specs.List.{flat_map}
use Rattle.std.proofs.lemmas.Bool.{or_cases, or_left, or_right, eqb-true, eq-eqb, false≢true}
use Rattle.std.proofs.lemmas.List.Folds.{list_any-append}
pub use Rattle.lists.specs.Numbers.{Falls}
use Rattle.lists.specs.Numbers.{reached, is_among}

pub IsIn : List ℕ → ℕ → Type 0
IsIn xs d = is_among xs d ≡ true

-- ---- membership

pub in_append : (xs ys : List ℕ) (d : ℕ) → is_among (xs ++ ys) d ≡ (is_among xs d || is_among ys d)
in_append xs ys d = list_any-append (λ k. eqb k d) xs ys

-- in one of the parts
pub in_flat : (f : ℕ → List ℕ) (xs : List ℕ) (d : ℕ) → is_among (flat_map f xs) d ≡ true → (x : ℕ) × (is_among xs x ≡ true) × (is_among (f x) d ≡ true)
in_flat f [] d h = absurd (false≢true h)
in_flat f (x ∷ xs) d h =
    elim (or_cases (is_among (f x) d) (is_among (flat_map f xs) d) (sym (in_append (f x) (flat_map f xs) d) ∙ h)) [
      | inl e ↦ (x, or_left (eqb x x) (is_among xs x) (eq-eqb x x refl), e)
      | inr e ↦ let r = in_flat f xs d e in (r.0, or_right (eqb x r.0) (is_among xs r.0) r.1, r.2)
    ]

pub flat_in : (f : ℕ → List ℕ) (xs : List ℕ) (x d : ℕ) → is_among xs x ≡ true → is_among (f x) d ≡ true → is_among (flat_map f xs) d ≡ true
flat_in f [] x d h e = absurd (false≢true h)
flat_in f (y ∷ xs) x d h e =
    in_append (f y) (flat_map f xs) d ∙ elim (or_cases (eqb y x) (is_among xs x) h) [
      | inl s ↦ or_left (is_among (f y) d) (is_among (flat_map f xs) d) (ap (λ k. is_among (f k) d) (eqb-true y x s) ∙ e)
      | inr s ↦ or_right (is_among (f y) d) (is_among (flat_map f xs) d) (flat_in f xs x d s e)
    ]

pub flat_same : (f g : ℕ → List ℕ) (xs : List ℕ) → ((x : ℕ) → is_among xs x ≡ true → f x ≡ g x) → flat_map f xs ≡ flat_map g xs
flat_same f g [] h = refl
flat_same f g (x ∷ xs) h =
    ap₂ (λ a b. a ++ b) (h x (or_left (eqb x x) (is_among xs x) (eq-eqb x x refl)))
    (flat_same f g xs (λ y e. h y (or_right (eqb x y) (is_among xs y) e)))

-- ---- ranks

-- beyond the rank, more steps change nothing
stable : (above : ℕ → List ℕ) (rank : ℕ → ℕ) (most : ℕ) → Falls above rank most → (n m c : ℕ) → rank c < n → rank c < m → reached above n c ≡ reached above m c
stable above rank most f zero m c h k = absurd (omega (arith, h))
stable above rank most f (suc n) zero c h k = absurd (omega (arith, k))
stable above rank most f (suc n) (suc m) c h k =
    ap (λ xs. c ∷ xs) (flat_same (reached above n) (reached above m) (above c) (λ d e.
    let lower = f.falls c d e in stable above rank most f n m d (omega (arith, lower, h)) (omega (arith, lower, k))))

-- a class, then those above it with all above them
pub reached_step : (above : ℕ → List ℕ) (rank : ℕ → ℕ) (most : ℕ) → Falls above rank most → (c : ℕ) → reached above most c ≡ c ∷ flat_map (reached above most) (above c)
reached_step above rank zero f c = absurd (omega (arith, f.bounded c))
reached_step above rank (suc n) f c =
    ap (λ xs. c ∷ xs) (flat_same (reached above n) (reached above (suc n)) (above c) (λ d e.
    let lower = f.falls c d e in stable above rank (suc n) f n (suc n) d (omega (arith, lower, f.bounded c)) (f.bounded d)))

pub reached_self : (above : ℕ → List ℕ) (rank : ℕ → ℕ) (most : ℕ) → Falls above rank most → (c : ℕ) → is_among (reached above most c) c ≡ true
reached_self above rank most f c = ap (λ xs. is_among xs c) (reached_step above rank most f c) ∙ or_left (eqb c c) _ (eq-eqb c c refl)

pub reached_by : (above : ℕ → List ℕ) (rank : ℕ → ℕ) (most : ℕ) → Falls above rank most → (c x d : ℕ) → is_among (above c) x ≡ true → is_among (reached above most x) d ≡ true → is_among (reached above most c) d ≡ true
reached_by above rank most f c x d h e = ap (λ xs. is_among xs d) (reached_step above rank most f c) ∙ or_right (eqb c d) _ (flat_in (reached above most) (above c) x d h e)

pub reached_direct : (above : ℕ → List ℕ) (rank : ℕ → ℕ) (most : ℕ) → Falls above rank most → (c d : ℕ) → is_among (above c) d ≡ true → is_among (reached above most c) d ≡ true
reached_direct above rank most f c d h = reached_by above rank most f c d d h (reached_self above rank most f d)

-- how a class is reached: it is the first, or it is reached from one directly above
pub data Way (above : ℕ → List ℕ) (most : ℕ) (c d : ℕ) : Type 0 where
  here : c ≡ d → Way above most c d
  beyond : (x : ℕ) → is_among (above c) x ≡ true → is_among (reached above most x) d ≡ true → Way above most c d

pub way_of : (above : ℕ → List ℕ) (rank : ℕ → ℕ) (most : ℕ) → Falls above rank most → (c d : ℕ) → is_among (reached above most c) d ≡ true → Way above most c d
way_of above rank most f c d h =
    elim (or_cases (eqb c d) (is_among (flat_map (reached above most) (above c)) d) (sym (ap (λ xs. is_among xs d) (reached_step above rank most f c)) ∙ h)) [
      | inl e ↦ here (eqb-true c d e)
      | inr e ↦ let r = in_flat (reached above most) (above c) d e in beyond r.0 r.1 r.2
    ]

through_below : (above : ℕ → List ℕ) (rank : ℕ → ℕ) (most : ℕ) → Falls above rank most → (k a b c : ℕ) → rank a < k → is_among (reached above most a) b ≡ true → is_among (reached above most b) c ≡ true → is_among (reached above most a) c ≡ true
through_below above rank most f zero a b c lt h e = absurd (omega (arith, lt))
through_below above rank most f (suc k) a b c lt h e =
    elim (way_of above rank most f a b h) [
      | here s ↦ ap (λ x. is_among (reached above most x) c) s ∙ e
      | beyond x u v ↦
          let lower = f.falls a x u in
          reached_by above rank most f a x c u (through_below above rank most f k x b c (omega (arith, lower, lt)) v e)
    ]

pub reached_through : (above : ℕ → List ℕ) (rank : ℕ → ℕ) (most : ℕ) → Falls above rank most → (a b c : ℕ) → is_among (reached above most a) b ≡ true → is_among (reached above most b) c ≡ true → is_among (reached above most a) c ≡ true
reached_through above rank most f a b c h e = through_below above rank most f most a b c (f.bounded a) h e

-- what holds of the first and is handed upwards holds of all
kept_below : (above : ℕ → List ℕ) (rank : ℕ → ℕ) (most : ℕ) → Falls above rank most → (P : ℕ → Type 0) → ((x y : ℕ) → P x → is_among (above x) y ≡ true → P y) → (k c d : ℕ) → rank c < k → P c → is_among (reached above most c) d ≡ true → P d
kept_below above rank most f P up zero c d lt p h = absurd (omega (arith, lt))
kept_below above rank most f P up (suc k) c d lt p h =
    elim (way_of above rank most f c d h) [
      | here s ↦ subst P s p
      | beyond x u v ↦ let lower = f.falls c x u in kept_below above rank most f P up k x d (omega (arith, lower, lt)) (up c x p u) v
    ]

pub reached_kept : (above : ℕ → List ℕ) (rank : ℕ → ℕ) (most : ℕ) → Falls above rank most → (P : ℕ → Type 0) → ((x y : ℕ) → P x → is_among (above x) y ≡ true → P y) → (c d : ℕ) → P c → is_among (reached above most c) d ≡ true → P d
reached_kept above rank most f P up c d p h = kept_below above rank most f P up most c d (f.bounded c) p h

-- what is reached has no greater rank
pub reached_rank : (above : ℕ → List ℕ) (rank : ℕ → ℕ) (most : ℕ) → Falls above rank most → (c d : ℕ) → is_among (reached above most c) d ≡ true → rank d ≤ rank c
reached_rank above rank most f c d h =
    reached_kept above rank most f (λ x. rank x ≤ rank c) (λ x y p u. let lower = f.falls x y u in omega (arith, lower, p)) c d (omega arith) h
