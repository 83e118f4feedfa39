-- Text that is read is spelled so, and text that is spelled so is read.
use Rattle.std.proofs.Common.{◌≡◌, ℕ, zero, suc, ◌+◌, ◌*◌, ◌/◌, ◌%◌, ◌^◌, ◌<◌, ◌≤◌, Bool, true, false, cond, ◌&&◌, ◌||◌, ◌==◌, nat_lt, nat_le, List, [], ◌∷◌, ◌++◌, length, Option, Some, None, refl, sym, ap, subst, ◌∙◌, append_assoc, arith, inl, inr, ◌⊎◌, ⊎_elim, eqb-true, leb-true, le-leb, eq-eqb}
use Rattle.std.proofs.lemmas.Bool.{ltb-true, ltb-false, lt-ltb, le-ltb, and_parts, and_from, or_cases}
use Rattle.std.proofs.lemmas.List.Concat.{flat_map-cons}
use Rattle.class_pool.specs.Utf8.{is_single, two_bytes, three_bytes, unit_bytes, utf8_bytes, AreUnits}
use Rattle.base.specs.Reading.{◌>>=◌}
use Rattle.class_pool.specs.Reading.{is_pair, pair, is_triple, triple, unit_in, units_in, with_unit, utf8_in, number_in, front_in}
use Rattle.class_pool.specs.Spelling.{u2}
use Rattle.class_pool.specs.NumberLaws.{IsBytes, IsBytes-behind, bind_some, same_some, Takes, Takes-then, wide_2, number_takes, number_again, front_takes, front_again}
use Rattle.class_pool.proofs.TextLemmas.{unit_first, unit_none}

two : (b : Bool) → (b ≡ true) ⊎ (b ≡ false)
two true = inl refl
two false = inr refl

not_both : (a b : ℕ) (u : ℕ) → (u ≡ 0) ⊎ (128 ≤ u) → is_single u ≡ false
not_both a b u (inl z) = rw z refl
not_both a b u (inr le) = let big : nat_lt u 128 ≡ false = le-ltb u 128 le in rw big (and_false (nat_lt 0 u))
  where
    and_false : (x : Bool) → (x && false) ≡ false
    and_false true = refl
    and_false false = refl

-- what a unit that was read is
abbrev Is : List ℕ → ℕ × List ℕ → Type 0
Is bytes found = (bytes ≡ unit_bytes found.0 ++ found.1) × (found.0 < 2 ^ 16)

single_is : (a : ℕ) (rest : List ℕ) → a < 256 → is_single a ≡ true → Is (a ∷ rest) (a, rest)
single_is a rest small s = (rw s refl, omega arith)

pair_is : (a b : ℕ) (rest : List ℕ) → a < 256 → b < 256 → is_pair a b ≡ true → Is (a ∷ b ∷ rest) (pair a b, rest)
pair_is a b rest a_small b_small p =
    let x = and_parts (a / 32 == 6 && b / 64 == 2) (nat_le 194 a || (a == 192 && b == 128)) p in
    let y = and_parts (a / 32 == 6) (b / 64 == 2) x.0 in
    let high : a / 32 ≡ 6 = eqb-true (a / 32) 6 y.0 in
    let low : b / 64 ≡ 2 = eqb-true (b / 64) 2 y.1 in
    let form : (pair a b ≡ 0) ⊎ (128 ≤ pair a b) =
    ⊎_elim (λ (le : nat_le 194 a ≡ true). let big : 194 ≤ a = leb-true 194 a le in inr (omega arith))
    (λ (zeros : (a == 192 && b == 128) ≡ true).
    let z = and_parts (a == 192) (b == 128) zeros in
    let a_is : a ≡ 192 = eqb-true a 192 z.0 in
    let b_is : b ≡ 128 = eqb-true b 128 z.1 in
    inl (omega arith))
    (or_cases (nat_le 194 a) (a == 192 && b == 128) x.1) in
    let not_single : is_single (pair a b) ≡ false = not_both a b (pair a b) form in
    let below : nat_lt (pair a b) 2048 ≡ true = lt-ltb (pair a b) 2048 (omega arith) in
    let first : 192 + pair a b / 64 ≡ a = omega arith in
    let second : 128 + pair a b % 64 ≡ b = omega arith in
    (sym (rw (not_single, below) (ap (λ (x : ℕ). x ∷ (128 + pair a b % 64) ∷ rest) first ∙ ap (λ (x : ℕ). a ∷ x ∷ rest) second)), omega arith)

triple_is : (a b c : ℕ) (rest : List ℕ) → a < 256 → b < 256 → c < 256 → is_triple a b c ≡ true → Is (a ∷ b ∷ c ∷ rest) (triple a b c, rest)
triple_is a b c rest a_small b_small c_small p =
    let x = and_parts (a / 16 == 14 && b / 64 == 2 && c / 64 == 2) (nat_le 225 a || nat_le 160 b) p in
    let y = and_parts (a / 16 == 14 && b / 64 == 2) (c / 64 == 2) x.0 in
    let z = and_parts (a / 16 == 14) (b / 64 == 2) y.0 in
    let high : a / 16 ≡ 14 = eqb-true (a / 16) 14 z.0 in
    let middle : b / 64 ≡ 2 = eqb-true (b / 64) 2 z.1 in
    let low : c / 64 ≡ 2 = eqb-true (c / 64) 2 y.1 in
    let large : 2048 ≤ triple a b c =
    ⊎_elim (λ (le : nat_le 225 a ≡ true). let big : 225 ≤ a = leb-true 225 a le in omega arith)
    (λ (le : nat_le 160 b ≡ true). let big : 160 ≤ b = leb-true 160 b le in omega arith)
    (or_cases (nat_le 225 a) (nat_le 160 b) x.1) in
    let not_single : is_single (triple a b c) ≡ false = not_both a b (triple a b c) (inr (omega arith)) in
    let above : nat_lt (triple a b c) 2048 ≡ false = le-ltb (triple a b c) 2048 large in
    let first : 224 + triple a b c / 4096 ≡ a = omega arith in
    let second : 128 + triple a b c / 64 % 64 ≡ b = omega arith in
    let third : 128 + triple a b c % 64 ≡ c = omega arith in
    (sym (rw (not_single, above) (ap (λ (x : ℕ). x ∷ (128 + triple a b c / 64 % 64) ∷ (128 + triple a b c % 64) ∷ rest) first ∙ ap (λ (x : ℕ). a ∷ x ∷ (128 + triple a b c % 64) ∷ rest) second ∙ ap (λ (x : ℕ). a ∷ b ∷ x ∷ rest) third)), omega arith)

chosen : {A : Type 0} (b : Bool) (x : A) (y : Option A) (found : A) → cond b (Some x) y ≡ Some found → ((b ≡ true) × (x ≡ found)) ⊎ ((b ≡ false) × (y ≡ Some found))
chosen true x y found e = inl (refl, same_some x found e)
chosen false x y found e = inr (refl, e)

nothing : (bytes : List ℕ) (found : ℕ × List ℕ) → None ≡ Some found → Is bytes found
nothing bytes found e = absurd cc

pub unit_takes : (bytes : List ℕ) (found : ℕ × List ℕ) → IsBytes bytes → unit_in bytes ≡ Some found → Is bytes found
unfolding unit_in
unit_takes [] found fits e = nothing [] found e
unit_takes (a ∷ []) found fits e =
    ⊎_elim (λ s. subst (Is (a ∷ [])) s.1 (single_is a [] (fits 0) s.0))
    (λ n. nothing (a ∷ []) found n.1)
    (chosen (is_single a) (a, []) None found e)
unit_takes (a ∷ b ∷ []) found fits e =
    ⊎_elim (λ s. subst (Is (a ∷ b ∷ [])) s.1 (single_is a (b ∷ []) (fits 0) s.0))
    (λ n. ⊎_elim (λ p. subst (Is (a ∷ b ∷ [])) p.1 (pair_is a b [] (fits 0) (fits 1) p.0))
    (λ m. nothing (a ∷ b ∷ []) found m.1)
    (chosen (is_pair a b) (pair a b, []) None found n.1))
    (chosen (is_single a) (a, b ∷ []) (cond (is_pair a b) (Some (pair a b, [])) None) found e)
unit_takes (a ∷ b ∷ c ∷ rest) found fits e =
    let third : Option (ℕ × List ℕ) = cond (is_triple a b c) (Some (triple a b c, rest)) None in
    let bytes : List ℕ = a ∷ b ∷ c ∷ rest in
    ⊎_elim (λ s. subst (Is bytes) s.1 (single_is a (b ∷ c ∷ rest) (fits 0) s.0))
    (λ n. ⊎_elim (λ p. subst (Is bytes) p.1 (pair_is a b (c ∷ rest) (fits 0) (fits 1) p.0))
    (λ m. ⊎_elim (λ t. subst (Is bytes) t.1 (triple_is a b c rest (fits 0) (fits 1) (fits 2) t.0))
    (λ o. nothing bytes found o.1)
    (chosen (is_triple a b c) (triple a b c, rest) None found m.1))
    (chosen (is_pair a b) (pair a b, c ∷ rest) third found n.1))
    (chosen (is_single a) (a, b ∷ c ∷ rest) (cond (is_pair a b) (Some (pair a b, c ∷ rest)) third) found e)

-- ---- a spelled unit is read

single_in : (a : ℕ) (rest : List ℕ) → is_single a ≡ true → unit_in (a ∷ rest) ≡ Some (a, rest)
unfolding unit_in
single_in a [] s = rw s refl
single_in a (b ∷ []) s = rw s refl
single_in a (b ∷ c ∷ rest) s = rw s refl

pair_in : (a b : ℕ) (rest : List ℕ) → is_single a ≡ false → is_pair a b ≡ true → unit_in (a ∷ b ∷ rest) ≡ Some (pair a b, rest)
unfolding unit_in
pair_in a b [] s p = rw (s, p) refl
pair_in a b (c ∷ rest) s p = rw (s, p) refl

triple_in : (a b c : ℕ) (rest : List ℕ) → is_single a ≡ false → is_pair a b ≡ false → is_triple a b c ≡ true → unit_in (a ∷ b ∷ c ∷ rest) ≡ Some (triple a b c, rest)
unfolding unit_in
triple_in a b c rest s p t = rw (s, p, t) refl

large_not_single : (a : ℕ) → 128 ≤ a → is_single a ≡ false
large_not_single a le = not_both a a a (inr le)

or_true : (a b : Bool) → (a ≡ true) ⊎ (b ≡ true) → (a || b) ≡ true
or_true true b h = refl
or_true false b (inl h) = absurd cc
or_true false b (inr h) = h

-- a unit that takes two bytes is 0, or not below 80
not_single : (u : ℕ) → is_single u ≡ false → (u ≡ 0) ⊎ (128 ≤ u)
not_single u s =
    ⊎_elim (λ (positive : nat_lt 0 u ≡ true).
    ⊎_elim (λ (small : nat_lt u 128 ≡ true). absurd (let t : true ≡ false = sym (and_from (nat_lt 0 u) (nat_lt u 128) positive small) ∙ s in cc))
    (λ (large : nat_lt u 128 ≡ false). inr (ltb-false u 128 large))
    (two (nat_lt u 128)))
    (λ (zeros : nat_lt 0 u ≡ false). let le : u ≤ 0 = ltb-false 0 u zeros in inl (omega arith))
    (two (nat_lt 0 u))

two_again : (u : ℕ) (rest : List ℕ) → is_single u ≡ false → u < 2048 → unit_in (two_bytes u ++ rest) ≡ Some (u, rest)
two_again u rest s below =
    let a : ℕ = 192 + u / 64 in
    let b : ℕ = 128 + u % 64 in
    let high : (192 + u / 64) / 32 ≡ 6 = omega arith in
    let low : (128 + u % 64) / 64 ≡ 2 = omega arith in
    let form : (nat_le 194 a || (a == 192 && b == 128)) ≡ true =
    or_true (nat_le 194 a) (a == 192 && b == 128)
    (⊎_elim (λ (z : u ≡ 0). inr (rw z refl))
    (λ (le : 128 ≤ u). inl (le-leb 194 a (omega arith)))
    (not_single u s)) in
    let is : is_pair a b ≡ true = and_from (a / 32 == 6 && b / 64 == 2) (nat_le 194 a || (a == 192 && b == 128)) (and_from (a / 32 == 6) (b / 64 == 2) (eq-eqb (a / 32) 6 high) (eq-eqb (b / 64) 2 low)) form in
    let value : (192 + u / 64) % 32 * 64 + (128 + u % 64) % 64 ≡ u = omega arith in
    pair_in a b rest (large_not_single a (omega arith)) is ∙ ap (λ (x : ℕ). Some (x, rest)) value

three_again : (u : ℕ) (rest : List ℕ) → 2048 ≤ u → u < 2 ^ 16 → unit_in (three_bytes u ++ rest) ≡ Some (u, rest)
three_again u rest above small =
    let a : ℕ = 224 + u / 4096 in
    let b : ℕ = 128 + u / 64 % 64 in
    let c : ℕ = 128 + u % 64 in
    let high : (224 + u / 4096) / 16 ≡ 14 = omega arith in
    let middle : (128 + u / 64 % 64) / 64 ≡ 2 = omega arith in
    let low : (128 + u % 64) / 64 ≡ 2 = omega arith in
    let form : (nat_le 225 a || nat_le 160 b) ≡ true =
    or_true (nat_le 225 a) (nat_le 160 b)
    (⊎_elim (λ (le : 4096 ≤ u). inl (le-leb 225 a (omega arith)))
    (λ (lt : u < 4096). inr (le-leb 160 b (omega arith)))
    (le_or_lt 4096 u)) in
    let is : is_triple a b c ≡ true = and_from (a / 16 == 14 && b / 64 == 2 && c / 64 == 2) (nat_le 225 a || nat_le 160 b)
    (and_from (a / 16 == 14 && b / 64 == 2) (c / 64 == 2) (and_from (a / 16 == 14) (b / 64 == 2) (eq-eqb (a / 16) 14 high) (eq-eqb (b / 64) 2 middle)) (eq-eqb (c / 64) 2 low)) form in
    let six : (a / 32 == 6) ≡ false = not_six u small in
    let no_pair : is_pair a b ≡ false = rw six refl in
    let value : (224 + u / 4096) % 16 * 4096 + (128 + u / 64 % 64) % 64 * 64 + (128 + u % 64) % 64 ≡ u = omega arith in
    triple_in a b c rest (large_not_single a (omega arith)) no_pair is ∙ ap (λ (x : ℕ). Some (x, rest)) value
  where
    le_or_lt : (m n : ℕ) → (m ≤ n) ⊎ (n < m)
    le_or_lt m n = ⊎_elim (λ (t : nat_lt n m ≡ true). inr (ltb-true n m t)) (λ (f : nat_lt n m ≡ false). inl (ltb-false n m f)) (two (nat_lt n m))

    not_six : (u : ℕ) → u < 2 ^ 16 → ((224 + u / 4096) / 32 == 6) ≡ false
    not_six u small =
        let seven : (224 + u / 4096) / 32 ≡ 7 = omega arith in
        ap (λ (x : ℕ). x == 6) seven

pub unit_again : (u : ℕ) (rest : List ℕ) → u < 2 ^ 16 → unit_in (unit_bytes u ++ rest) ≡ Some (u, rest)
unit_again u rest small =
    ⊎_elim (λ (s : is_single u ≡ true). rw s (single_in u rest s))
    (λ (s : is_single u ≡ false).
    ⊎_elim (λ (t : nat_lt u 2048 ≡ true). rw (s, t) (two_again u rest s (ltb-true u 2048 t)))
    (λ (t : nat_lt u 2048 ≡ false). rw (s, t) (three_again u rest (ltb-false u 2048 t) small))
    (two (nat_lt u 2048)))
    (two (is_single u))

-- ---- texts

with_some : (u : ℕ) (read : Option (List ℕ)) (us : List ℕ) → with_unit u read ≡ Some us → (vs : List ℕ) × (read ≡ Some vs) × (us ≡ u ∷ vs)
with_some u None us e = absurd cc
with_some u (Some vs) us e = (vs, refl, sym (same_some (u ∷ vs) us e))

taken_first : (n a : ℕ) (bytes us : List ℕ) → length bytes ≤ n → IsBytes (a ∷ bytes) → units_in (a ∷ bytes) ≡ Some us
    → ((rest vs : List ℕ) → length rest ≤ n → IsBytes rest → units_in rest ≡ Some vs → (rest ≡ utf8_bytes vs) × AreUnits vs)
    → (read : Option (ℕ × List ℕ)) → unit_in (a ∷ bytes) ≡ read → (a ∷ bytes ≡ utf8_bytes us) × AreUnits us
taken_first n a bytes us le fits e others None is =
    absurd (let no = unit_none (a ∷ bytes) is (omega arith) in let f : None ≡ Some us = sym no ∙ e in cc)
taken_first n a bytes us le fits e others (Some found) is =
    let first = unit_first (a ∷ bytes) found is in
    let taken = unit_takes (a ∷ bytes) found fits is in
    let w = with_some found.0 (units_in found.1) us (sym first.0 ∙ e) in
    let behind = IsBytes-behind (a ∷ bytes) (unit_bytes found.0) found.1 fits taken.0 in
    let rest = others found.1 w.0 (omega (arith, first.1, le)) behind w.1 in
    let P : List ℕ → Type 0 = λ x. (a ∷ bytes ≡ utf8_bytes x) × AreUnits x in
    let spelled : a ∷ bytes ≡ utf8_bytes (found.0 ∷ w.0) = taken.0 ∙ ap (λ (t : List ℕ). unit_bytes found.0 ++ t) rest.0 ∙ sym (flat_map-cons unit_bytes found.0 w.0) in
    subst P (sym w.2) (spelled, (taken.1, rest.1))

take_units : (n : ℕ) (bytes us : List ℕ) → length bytes ≤ n → IsBytes bytes → units_in bytes ≡ Some us → (bytes ≡ utf8_bytes us) × AreUnits us
unfolding units_in
take_units n [] us le fits e = subst (λ (x : List ℕ). ([] ≡ utf8_bytes x) × AreUnits x) (same_some [] us e) (refl, tt)
take_units zero (a ∷ bytes) us le fits e = absurd (omega (arith, le))
take_units (suc n) (a ∷ bytes) us le fits e = taken_first n a bytes us (omega (arith, le)) fits e (take_units n) (unit_in (a ∷ bytes)) refl

pub units_take : (bytes us : List ℕ) → IsBytes bytes → units_in bytes ≡ Some us → (bytes ≡ utf8_bytes us) × AreUnits us
units_take bytes us fits e = take_units (length bytes) bytes us (omega arith) fits e

nil : units_in [] ≡ Some []
unfolding units_in
nil = refl

pub units_again : (us : List ℕ) → AreUnits us → units_in (utf8_bytes us) ≡ Some us
units_again [] h = nil
units_again (u ∷ us) h =
    let first = unit_first (unit_bytes u ++ utf8_bytes us) (u, utf8_bytes us) (unit_again u (utf8_bytes us) h.0) in
    ap units_in (flat_map-cons unit_bytes u us) ∙ first.0 ∙ ap (with_unit u) (units_again us h.1)

pub utf8_takes : (bytes us rest : List ℕ) → IsBytes bytes → utf8_in bytes ≡ Some (us, rest) → Takes bytes (u2 (length (utf8_bytes us)) ++ utf8_bytes us) rest × (AreUnits us × (length (utf8_bytes us) < 2 ^ 16))
unfolding utf8_in
utf8_takes bytes us rest fits e =
    let a = bind_some (number_in 2 bytes) (λ n. front_in n.0 n.1 >>= λ text. units_in text.0 >>= λ units. Some (units, text.1)) (us, rest) e in
    let b = bind_some (front_in a.0.0 a.0.1) (λ text. units_in text.0 >>= λ units. Some (units, text.1)) (us, rest) a.2 in
    let c = bind_some (units_in b.0.0) (λ units. Some (units, b.0.1)) (us, rest) b.2 in
    let t0 = number_takes 2 wide_2 bytes a.0.0 a.0.1 fits a.1 in
    let t1 = front_takes a.0.0 a.0.1 b.0.0 b.0.1 t0.0.rest_fits b.1 in
    let t2 = units_take b.0.0 c.0 t1.2 c.1 in
    let both = Takes-then bytes (u2 a.0.0) a.0.1 b.0.0 b.0.1 t0.0 t1.0 in
    let P : List ℕ → Type 0 = λ t. Takes bytes (u2 (length t) ++ t) b.0.1 × (length t < 2 ^ 16) in
    let here : P b.0.0 = (subst (λ (k : ℕ). Takes bytes (u2 k ++ b.0.0) b.0.1) (sym t1.1) both, omega (arith, t0.1, t1.1)) in
    let there : P (utf8_bytes c.0) = subst P t2.0 here in
    let Q : List ℕ × List ℕ → Type 0 = λ p. Takes bytes (u2 (length (utf8_bytes p.0)) ++ utf8_bytes p.0) p.1 × (AreUnits p.0 × (length (utf8_bytes p.0) < 2 ^ 16)) in
    subst Q (same_some (c.0, b.0.1) (us, rest) c.2) (there.0, (t2.1, there.1))

pub utf8_again : (us rest : List ℕ) → AreUnits us × (length (utf8_bytes us) < 2 ^ 16) → utf8_in ((u2 (length (utf8_bytes us)) ++ utf8_bytes us) ++ rest) ≡ Some (us, rest)
unfolding utf8_in
utf8_again us rest h =
    let text : List ℕ = utf8_bytes us in
    ap (λ (read : Option (ℕ × List ℕ)). read >>= λ n. front_in n.0 n.1 >>= λ t. units_in t.0 >>= λ units. Some (units, t.1)) (ap (number_in 2) (append_assoc (u2 (length text)) text rest) ∙ number_again 2 wide_2 (length text) (text ++ rest) h.1)
    ∙ ap (λ (read : Option (List ℕ × List ℕ)). read >>= λ t. units_in t.0 >>= λ units. Some (units, t.1)) (front_again text rest)
    ∙ ap (λ (read : Option (List ℕ)). read >>= λ units. Some (units, rest)) (units_again us h.0)
