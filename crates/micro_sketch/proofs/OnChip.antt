-- The on-chip words of a sketch.
use Rattle.std.proofs.Common.{◌≡◌, ℕ, suc, ◌+◌, ◌-◌, ◌%◌, ◌<◌, ◌≤◌, true, false, List, [], ◌∷◌, ◌++◌, length, get_or, slice_set, refl, sym, ap, ◌∙◌, arith, append_assoc, length-append, nat_lt, if◌then◌else◌, ltb-true}
use Rattle.std.proofs.lemmas.Bool.{and_parts}
use mathlib.Core.List.{reverse_aux, reverse}
use Rattle.std.proofs.Math.ListN.{set, length-set, length-reverse_aux, get_or-append}
use Rattle.std.proofs.Math.Seq.{set-append_seam, get_or-append_seam, get_or-append_right}
use Rattle.std.proofs.lemmas.Grind.{reverse_onto}
use Rattle.std.proofs.lemmas.List.{length-reverse, set-append_left, set-append_right}
use Rattle.std.proofs.Math.Nat.{mod-eq_of_lt, add-mod_right}
use Rattle.std.proofs.lemmas.Bool.Decides.{nat_tests}
use Rattle.jop_core.specs.State.{MachineState}
use Rattle.jop_core.specs.Operations.{pushed, popped, word_at, place_of}
use Rattle.micro_sketch.specs.Sketch.{Sketch, apush, apop, inside}
use Rattle.micro_sketch.specs.Stands.{Env, Shaped, Does, conc, stack_of, base, sp_of, constants}

-- the word at an on-chip place, a push of it, and a write there
abbrev pub word_in : ℕ → MachineState → ℕ
word_in k s = word_at s k

abbrev pub fetched : ℕ → MachineState → MachineState
fetched k s = pushed (word_in k s) s

abbrev pub put_in : (place word : ℕ) → MachineState → MachineState
put_in place word s = record s { stack = slice_set s.stack (place_of s place) word }

pub split_at : (xs us : List ℕ) (y : ℕ) (ys : List ℕ) → xs ++ reverse_aux us (y ∷ ys) ≡ (xs ++ reverse us) ++ y ∷ ys
split_at xs us y ys = ap (λ zs. xs ++ zs) (reverse_onto us y ys) ∙ sym (append_assoc xs (reverse us) (y ∷ ys))

pub length_front : (xs us : List ℕ) → length (xs ++ reverse us) ≡ length xs + length us
length_front xs us = simp (length-append, length-reverse)

pub set_top : (xs us : List ℕ) (y : ℕ) (ys : List ℕ) (i v : ℕ) → i ≡ length xs + length us → set (xs ++ reverse_aux us (y ∷ ys)) i v ≡ xs ++ reverse_aux us (v ∷ ys)
set_top xs us y ys i v e =
    let at : i ≡ length (xs ++ reverse us) = e ∙ sym (length_front xs us) in
    rw (split_at xs us y ys, at, set-append_seam (xs ++ reverse us) y ys v) (sym (split_at xs us v ys))

pub get_top : (xs us : List ℕ) (y : ℕ) (ys : List ℕ) (i : ℕ) → i ≡ length xs + length us → get_or (xs ++ reverse_aux us (y ∷ ys)) i 0 ≡ y
get_top xs us y ys i e =
    let at : i ≡ length (xs ++ reverse us) = e ∙ sym (length_front xs us) in
    rw (split_at xs us y ys, at, get_or-append_seam (xs ++ reverse us) y ys 0) refl

pub wrap_back : (m n i : ℕ) → m < n → i ≡ m + 1 → (i + (n - 1)) % n ≡ m
wrap_back m n i h e =
    let f : i + (n - 1) ≡ m + n = omega arith in
    rw (f, add-mod_right m n) (mod-eq_of_lt h)

pub length_constants : length constants ≡ 32
unfolding constants
length_constants = refl

pub length_base : (x : Sketch) → length x.low ≡ 32 → length (base x) ≡ length x.deep + 64
length_base x h = simp length-append (omega (arith, length_constants, h))

pub length_stack : (n : ℕ) (x : Sketch) → Shaped n x → length (stack_of x) ≡ n
length_stack n x h = simp (length-append, length-reverse_aux) (omega (arith, length_constants, h.low, h.total))

pub moved : (s : MachineState) (c d : List ℕ) (p q : ℕ) → c ≡ d → p ≡ q → record s { stack = c; sp = p } ≡ record s { stack = d; sp = q }
moved s c d p q e f = ap (λ (zs : List ℕ). record s { stack = zs; sp = p }) e ∙ ap (λ (k : ℕ). record s { stack = d; sp = k }) f

pub push_on : (n : ℕ) (js : List ℕ) (x : Sketch) (e : Env) (v : ℕ) → let y = record x { above = js } in
    Shaped n y → (apush v y).fine ≡ true → Does n y (apush v y) e (pushed v (conc n y e))
push_on n [] x e v h f = cc
push_on n (j ∷ js) x e v h f =
    let y = record x { above = j ∷ js } in
    let total = h.total in
    let small : sp_of y + 1 < n = omega arith in
    let at : (sp_of y + 1) % length (stack_of y) ≡ length x.deep + 63 + suc (length x.under) =
    ap (λ k. (sp_of y + 1) % k) (length_stack n y h) ∙ mod-eq_of_lt small ∙ omega arith in
    let place : length x.deep + 63 + suc (length x.under) ≡ length (base y) + length x.under = omega (arith, length_base y h.low) in
    record {
      was = f;
      same = moved (record (conc n y e) { a = v; b = x.top }) (slice_set (stack_of y) ((sp_of y + 1) % length (stack_of y)) x.next) (base y ++ reverse_aux x.under (x.next ∷ js))
          ((sp_of y + 1) % length (stack_of y)) (length x.deep + 63 + suc (length x.under)) (set_top (base y) x.under j js _ x.next (at ∙ place)) at;
      shape = record { low = h.low; total = omega arith };
    }

pub push_sim : (n : ℕ) (x : Sketch) (e : Env) (v : ℕ) →
    Shaped n x → (apush v x).fine ≡ true → Does n x (apush v x) e (pushed v (conc n x e))
push_sim n x e v h f = push_on n x.above x e v h f

pub pop_on : (n : ℕ) (us : List ℕ) (x : Sketch) (e : Env) → let y = record x { under = us } in
    Shaped n y → (apop y).fine ≡ true → Does n y (apop y) e (popped (conc n y e))
pop_on n [] x e h f = cc
pop_on n (c ∷ cs) x e h f =
    let y = record x { under = c ∷ cs } in
    let total = h.total in
    let small : length x.deep + 63 + length cs < n = omega arith in
    let here : sp_of y ≡ length (base y) + length cs = omega (arith, length_base y h.low) in
    let at : (sp_of y + (length (stack_of y) - 1)) % length (stack_of y) ≡ length x.deep + 63 + length cs =
    ap (λ k. (sp_of y + (k - 1)) % k) (length_stack n y h) ∙ wrap_back (length x.deep + 63 + length cs) n (sp_of y) small (omega arith) in
    let kept : sp_of y % length (stack_of y) ≡ sp_of y = ap (λ k. sp_of y % k) (length_stack n y h) ∙ mod-eq_of_lt (let lt : sp_of y < n = omega arith in lt) in
    let read : get_or (stack_of y) (sp_of y % length (stack_of y)) 0 ≡ c = ap (λ k. get_or (stack_of y) k 0) kept ∙ get_top (base y) cs c x.above (sp_of y) here in
    record {
      was = f;
      same = ap (λ (k : ℕ). record (conc n y e) { a = x.next; b = k; sp = (sp_of y + (length (stack_of y) - 1)) % length (stack_of y) }) read
          ∙ ap (λ (k : ℕ). record (conc n y e) { a = x.next; b = c; sp = k }) at;
      shape = record { low = h.low; total = omega arith };
    }

pub pop_sim : (n : ℕ) (x : Sketch) (e : Env) →
    Shaped n x → (apop x).fine ≡ true → Does n x (apop x) e (popped (conc n x e))
pop_sim n x e h f = pop_on n x.under x e h f

-- reading and writing the words 0 to 31
pub read_low : (n : ℕ) (x : Sketch) (e : Env) (k : ℕ) → Shaped n x → k < 32 → word_in k (conc n x e) ≡ get_or x.low k 0
read_low n x e k h b =
    let total = h.total in
    let lt : k < n = omega arith in
    let l1 : k < length x.low = omega (arith, h.low) in
    let l2 : k < length (base x) = omega (arith, length_base x h.low) in
    ap (λ j. get_or (stack_of x) (k % j) 0) (length_stack n x h)
    ∙ ap (λ j. get_or (stack_of x) j 0) (mod-eq_of_lt lt)
    ∙ get_or-append (base x) (reverse_aux x.under x.above) 0 k l2
    ∙ get_or-append x.low (constants ++ x.deep) 0 k l1

pub read_constant : (n : ℕ) (x : Sketch) (e : Env) (k : ℕ) → Shaped n x → k < 32 → word_in (32 + k) (conc n x e) ≡ get_or constants k 0
read_constant n x e k h b =
    let total = h.total in
    let lt : 32 + k < n = omega arith in
    let l2 : 32 + k < length (base x) = omega (arith, length_base x h.low) in
    let l3 : length x.low ≤ 32 + k = omega (arith, h.low) in
    let l4 : 32 + k - length x.low ≡ k = omega (arith, h.low) in
    let l5 : k < length constants = omega (arith, length_constants) in
    ap (λ j. get_or (stack_of x) ((32 + k) % j) 0) (length_stack n x h)
    ∙ ap (λ j. get_or (stack_of x) j 0) (mod-eq_of_lt lt)
    ∙ get_or-append (base x) (reverse_aux x.under x.above) 0 (32 + k) l2
    ∙ get_or-append_right x.low (constants ++ x.deep) (32 + k) 0 l3
    ∙ ap (λ j. get_or (constants ++ x.deep) j 0) l4
    ∙ get_or-append constants x.deep 0 k l5

pub inside_low : (k : ℕ) → (if nat_lt k 64 then false else true) ≡ true → 64 ≤ k
inside_low k e = grind (arith, nat_tests, e)

pub read_deep : (n : ℕ) (x : Sketch) (e : Env) (k : ℕ) → Shaped n x → inside k x ≡ true → word_in k (conc n x e) ≡ get_or x.deep (k - 64) 0
read_deep n x e k h b =
    let total = h.total in
    let lo : 64 ≤ k = inside_low k ((and_parts (if nat_lt k 64 then false else true) (nat_lt k (64 + length x.deep)) b).0) in
    let hi : k < 64 + length x.deep = ltb-true k (64 + length x.deep) ((and_parts (if nat_lt k 64 then false else true) (nat_lt k (64 + length x.deep)) b).1) in
    let lt : k < n = omega arith in
    let l2 : k < length (base x) = omega (arith, length_base x h.low) in
    let l3 : length x.low ≤ k = omega (arith, h.low) in
    let l4 : k - length x.low ≡ k - 32 = omega (arith, h.low) in
    let l5 : length constants ≤ k - 32 = omega (arith, length_constants) in
    let l6 : k - 32 - length constants ≡ k - 64 = omega (arith, length_constants) in
    ap (λ j. get_or (stack_of x) (k % j) 0) (length_stack n x h)
    ∙ ap (λ j. get_or (stack_of x) j 0) (mod-eq_of_lt lt)
    ∙ get_or-append (base x) (reverse_aux x.under x.above) 0 k l2
    ∙ get_or-append_right x.low (constants ++ x.deep) k 0 l3
    ∙ ap (λ j. get_or (constants ++ x.deep) j 0) l4
    ∙ get_or-append_right constants x.deep (k - 32) 0 l5
    ∙ ap (λ j. get_or x.deep j 0) l6

pub write_low : (n : ℕ) (x : Sketch) (e : Env) (k v : ℕ) → Shaped n x → k < 32 → put_in k v (conc n x e) ≡ conc n (record x { low = slice_set x.low k v }) e
write_low n x e k v h b =
    let total = h.total in
    let lt : k < n = omega arith in
    let l1 : k < length x.low = omega (arith, h.low) in
    let l2 : k < length (base x) = omega (arith, length_base x h.low) in
    ap (λ (zs : List ℕ). record (conc n x e) { stack = zs })
    (ap (λ j. slice_set (stack_of x) (k % j) v) (length_stack n x h)
    ∙ ap (λ j. slice_set (stack_of x) j v) (mod-eq_of_lt lt)
    ∙ set-append_left (base x) (reverse_aux x.under x.above) k v l2
    ∙ ap (λ zs. zs ++ reverse_aux x.under x.above) (set-append_left x.low (constants ++ x.deep) k v l1))

pub write_deep : (n : ℕ) (x : Sketch) (e : Env) (k v : ℕ) → Shaped n x → inside k x ≡ true → put_in k v (conc n x e) ≡ conc n (record x { deep = slice_set x.deep (k - 64) v }) e
write_deep n x e k v h b =
    let total = h.total in
    let lo : 64 ≤ k = inside_low k ((and_parts (if nat_lt k 64 then false else true) (nat_lt k (64 + length x.deep)) b).0) in
    let hi : k < 64 + length x.deep = ltb-true k (64 + length x.deep) ((and_parts (if nat_lt k 64 then false else true) (nat_lt k (64 + length x.deep)) b).1) in
    let lt : k < n = omega arith in
    let l2 : k < length (base x) = omega (arith, length_base x h.low) in
    let l3 : 32 ≤ k = omega arith in
    let l5 : 32 ≤ k - 32 = omega arith in
    let l6 : k - 32 - 32 ≡ k - 64 = omega arith in
    let y = record x { deep = slice_set x.deep (k - 64) v } in
    moved (conc n x e) (slice_set (stack_of x) (k % length (stack_of x)) v) (stack_of y) (sp_of x) (sp_of y)
    (ap (λ j. slice_set (stack_of x) (k % j) v) (length_stack n x h)
    ∙ ap (λ j. slice_set (stack_of x) j v) (mod-eq_of_lt lt)
    ∙ set-append_left (base x) (reverse_aux x.under x.above) k v l2
    ∙ ap (λ zs. zs ++ reverse_aux x.under x.above)
    (set-append_right x.low (constants ++ x.deep) 32 k v h.low l3
    ∙ ap (λ zs. x.low ++ zs) (set-append_right constants x.deep 32 (k - 32) v length_constants l5 ∙ ap (λ j. constants ++ slice_set x.deep j v) l6)))
    (ap (λ (m : ℕ). m + 63 + length x.under) (sym (length-set x.deep (k - 64) v)))
