-- Reading units one after the other, as a loop does.
use Rattle.std.proofs.Common.{◌≡◌, ℕ, suc, ◌<◌, Bool, true, false, cond, List, [], ◌∷◌, ◌++◌, length, Option, Some, None, refl, sym, ap, subst, ◌∙◌, append_assoc, arith}
use Rattle.std.proofs.lemmas.List.{append-nil}
use Rattle.class_pool.specs.Utf8.{is_single}
use Rattle.base.specs.Reading.{◌>>=◌}
use Rattle.class_pool.specs.Reading.{is_pair, pair, is_triple, triple, unit_in, units_in, with_unit}

pub some_is : {A : Type 0} (x y : A) → Some x ≡ Some y → x ≡ y
some_is x y e = cc

-- what the units are when the first is read and others are behind it
abbrev Goes : Option (List ℕ) → ℕ → ℕ × List ℕ → Type 0
Goes units size found = (units ≡ with_unit found.0 (units_in found.1)) × (length found.1 < size)

one : (s : Bool) (a : ℕ) (found : ℕ × List ℕ) → cond s (Some (a, [])) None ≡ Some found → Goes (cond s (Some (a ∷ [])) None) 1 found
unfolding units_in
one true a found e = subst (Goes (Some (a ∷ [])) 1) (some_is (a, []) found e) (refl, omega arith)
one false a found e = absurd (let f : None ≡ Some found = e in cc)

two : (s p : Bool) (a b u : ℕ) (found : ℕ × List ℕ) → cond s (Some (a, b ∷ [])) (cond p (Some (u, [])) None) ≡ Some found
    → Goes (cond s (with_unit a (units_in (b ∷ []))) (cond p (Some (u ∷ [])) None)) 2 found
unfolding units_in
two true p a b u found e = subst (Goes (with_unit a (units_in (b ∷ []))) 2) (some_is (a, b ∷ []) found e) (refl, omega arith)
two false true a b u found e = subst (Goes (Some (u ∷ [])) 2) (some_is (u, []) found e) (refl, omega arith)
two false false a b u found e = absurd (let f : None ≡ Some found = e in cc)

three : (s p t : Bool) (a b c u v : ℕ) (rest : List ℕ) (found : ℕ × List ℕ)
    → cond s (Some (a, b ∷ c ∷ rest)) (cond p (Some (u, c ∷ rest)) (cond t (Some (v, rest)) None)) ≡ Some found
    → Goes (cond s (with_unit a (units_in (b ∷ c ∷ rest))) (cond p (with_unit u (units_in (c ∷ rest))) (cond t (with_unit v (units_in rest)) None))) (suc (suc (suc (length rest)))) found
three true p t a b c u v rest found e = subst (Goes (with_unit a (units_in (b ∷ c ∷ rest))) (suc (suc (suc (length rest))))) (some_is (a, b ∷ c ∷ rest) found e) (refl, omega arith)
three false true t a b c u v rest found e = subst (Goes (with_unit u (units_in (c ∷ rest))) (suc (suc (suc (length rest))))) (some_is (u, c ∷ rest) found e) (refl, omega arith)
three false false true a b c u v rest found e = subst (Goes (with_unit v (units_in rest)) (suc (suc (suc (length rest))))) (some_is (v, rest) found e) (refl, omega arith)
three false false false a b c u v rest found e = absurd (let f : None ≡ Some found = e in cc)

pub unit_first : (bytes : List ℕ) (found : ℕ × List ℕ) → unit_in bytes ≡ Some found → Goes (units_in bytes) (length bytes) found
unfolding unit_in units_in
unit_first [] found e = absurd (let f : None ≡ Some found = e in cc)
unit_first (a ∷ []) found e = one (is_single a) a found e
unit_first (a ∷ b ∷ []) found e = two (is_single a) (is_pair a b) a b (pair a b) found e
unit_first (a ∷ b ∷ c ∷ rest) found e = three (is_single a) (is_pair a b) (is_triple a b c) a b c (pair a b) (triple a b c) rest found e

no_one : (s : Bool) (i : ℕ × List ℕ) (x : Option (List ℕ)) → cond s (Some i) None ≡ None → cond s x None ≡ None
no_one true i x e = absurd (let f : Some i ≡ None = e in cc)
no_one false i x e = refl

no_two : (s p : Bool) (i j : ℕ × List ℕ) (x y : Option (List ℕ)) → cond s (Some i) (cond p (Some j) None) ≡ None → cond s x (cond p y None) ≡ None
no_two true p i j x y e = absurd (let f : Some i ≡ None = e in cc)
no_two false true i j x y e = absurd (let f : Some j ≡ None = e in cc)
no_two false false i j x y e = refl

no_three : (s p t : Bool) (i j k : ℕ × List ℕ) (x y z : Option (List ℕ)) → cond s (Some i) (cond p (Some j) (cond t (Some k) None)) ≡ None → cond s x (cond p y (cond t z None)) ≡ None
no_three true p t i j k x y z e = absurd (let f : Some i ≡ None = e in cc)
no_three false true t i j k x y z e = absurd (let f : Some j ≡ None = e in cc)
no_three false false true i j k x y z e = absurd (let f : Some k ≡ None = e in cc)
no_three false false false i j k x y z e = refl

pub unit_none : (bytes : List ℕ) → unit_in bytes ≡ None → 0 < length bytes → units_in bytes ≡ None
unfolding unit_in units_in
unit_none [] e lt = absurd (omega (arith, lt))
unit_none (a ∷ []) e lt = no_one (is_single a) (a, []) (Some (a ∷ [])) e
unit_none (a ∷ b ∷ []) e lt = no_two (is_single a) (is_pair a b) (a, b ∷ []) (pair a b, []) (with_unit a (units_in (b ∷ []))) (Some (pair a b ∷ [])) e
unit_none (a ∷ b ∷ c ∷ rest) e lt =
    no_three (is_single a) (is_pair a b) (is_triple a b c) (a, b ∷ c ∷ rest) (pair a b, c ∷ rest) (triple a b c, rest)
    (with_unit a (units_in (b ∷ c ∷ rest))) (with_unit (pair a b) (units_in (c ∷ rest))) (with_unit (triple a b c) (units_in rest)) e

-- the units that were read before, and those that are still read
abbrev pub with_front : List ℕ → Option (List ℕ) → Option (List ℕ)
with_front front read = read >>= λ units. Some (front ++ units)

regroup : (front : List ℕ) (u : ℕ) (read : Option (List ℕ)) → with_front front (with_unit u read) ≡ with_front (front ++ u ∷ []) read
regroup front u None = refl
regroup front u (Some units) = ap (λ (x : List ℕ). Some x) (sym (append_assoc front (u ∷ []) units))

pub goes_on : (front : List ℕ) (bytes : List ℕ) (u : ℕ) (after : List ℕ) (total : Option (List ℕ)) → Some (u, after) ≡ unit_in bytes
    → with_front front (units_in bytes) ≡ total → with_front (front ++ u ∷ []) (units_in after) ≡ total
goes_on front bytes u after total is so_far =
    sym (regroup front u (units_in after)) ∙ (ap (with_front front) (sym (unit_first bytes (u, after) (sym is)).0) ∙ so_far)

pub shrinks : (bytes : List ℕ) (u : ℕ) (after : List ℕ) → Some (u, after) ≡ unit_in bytes → length after < length bytes
shrinks bytes u after is = (unit_first bytes (u, after) (sym is)).1

pub stops : (front bytes : List ℕ) (total : Option (List ℕ)) → None ≡ unit_in bytes → 0 < length bytes → with_front front (units_in bytes) ≡ total → total ≡ None
stops front bytes total is more so_far = sym so_far ∙ ap (with_front front) (unit_none bytes (sym is) more)

pub is_done : (front bytes : List ℕ) (total : Option (List ℕ)) → length bytes ≡ 0 → with_front front (units_in bytes) ≡ total → total ≡ Some front
unfolding units_in
is_done front [] total none so_far = sym so_far ∙ ap (λ (x : List ℕ). Some x) (append-nil front)
is_done front (a ∷ bytes) total none so_far = absurd (omega (arith, none))
