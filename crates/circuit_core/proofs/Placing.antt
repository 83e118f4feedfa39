-- Places of on-chip words.
use Rattle.std.proofs.Common.{◌≡◌, ℕ, ◌+◌, ◌*◌, ◌%◌, ◌^◌, ◌<◌, ◌≤◌, Bool, true, false, List, [], ◌∷◌, if◌then◌else◌, ◌∙◌, refl, sym, ap, nat_lt, ltb-true, ltb-false, arith}
use Rattle.std.specs.Prelude.{◌&&◌, ◌||◌, ◌==◌, bit_or}
use Rattle.std.specs.List.{list_any}
use Rattle.std.proofs.Math.Nat.{add-mod-mod, mod-eq_of_lt}
use Rattle.std.proofs.lemmas.List.{get_or_past}
use Rattle.microcode.specs.declared.isa.operation.Operation.TheVariants.{Hltu}
use Rattle.microcode.specs.Isa.Operations.{operation_of, operations}
use Rattle.netlist.specs.Meaning.{bit_of}
use Rattle.circuit_build.proofs.Bits.{or_bits}
use Rattle.circuit_cycles.specs.Words.{bits_of, is_stm, is_ldm, is_ldi, operation_in, place_of, plain_place}
use Rattle.circuit_core.specs.Choices.{offset}
use Rattle.circuit_core.specs.Decoding.{picked}
use Rattle.circuit_core.proofs.Choosing.{AllBelow, chosen, each}

-- x where the code is one of these, else y, of a word that is plain or isn't
abbrev among : (t : Bool) (k : ℕ) → List ℕ → (x y : ℕ) → ℕ
among t k codes x y = if t && list_any (λ code. k == code) codes then x else y

-- an offset that is chosen is added where it is chosen
sums : (p q r s : Bool) (n vp operand : ℕ) → vp < n
    → (vp + (if p then operand % n else if q then 1 else if r then 2 else if s then 3 else 0)) % n
    ≡ (if p then (vp + operand) % n else if q then (vp + 1) % n else if r then (vp + 2) % n else if s then (vp + 3) % n else vp)
sums true q r s n vp operand h = add-mod-mod vp operand n
sums false true r s n vp operand h = refl
sums false false true s n vp operand h = refl
sums false false false true n vp operand h = refl
sums false false false false n vp operand h = let plain : vp + 0 ≡ vp = omega arith in ap (λ x. x % n) plain ∙ mod-eq_of_lt h

abbrev by_offset : (t : Bool) (k n vp operand : ℕ) → ℕ
by_offset t k n vp operand =
    among t k (17 ∷ 18 ∷ []) (operand % n) (among t k (20 ∷ 24 ∷ []) 1 (among t k (21 ∷ 25 ∷ []) 2 (among t k (22 ∷ 26 ∷ []) 3 0)))

abbrev by_sum : (t : Bool) (k n vp operand : ℕ) → ℕ
by_sum t k n vp operand =
    among t k (17 ∷ 18 ∷ []) ((vp + operand) % n)
    (among t k (20 ∷ 24 ∷ []) ((vp + 1) % n) (among t k (21 ∷ 25 ∷ []) ((vp + 2) % n) (among t k (22 ∷ 26 ∷ []) ((vp + 3) % n) vp)))

abbrev has : (t : Bool) (k : ℕ) → List ℕ → Bool
has t k codes = t && list_any (λ code. k == code) codes

summed : (t : Bool) (k n vp operand : ℕ) → vp < n → (vp + by_offset t k n vp operand) % n ≡ by_sum t k n vp operand
summed t k n vp operand h = sums (has t k (17 ∷ 18 ∷ [])) (has t k (20 ∷ 24 ∷ [])) (has t k (21 ∷ 25 ∷ [])) (has t k (22 ∷ 26 ∷ [])) n vp operand h

abbrev by_group : (t : Bool) (k n vp ar operand : ℕ) → ℕ
by_group t k n vp ar operand = among t k (34 ∷ 35 ∷ []) ar (by_sum t k n vp operand)

each_code : (n vp ar operand : ℕ) → AllBelow (λ k. by_group true k n vp ar operand ≡ plain_place (operation_of k) n vp ar operand) (2 ^ 6)
each_code n vp ar operand = (
  refl,
  (
    refl,
    (
      refl,
      (
        refl,
        (
          refl,
          (
            refl,
            (
              refl,
              (
                refl,
                (
                  refl,
                  (
                    refl,
                    (
                      refl,
                      (
                        refl,
                        (
                          refl,
                          (
                            refl,
                            (
                              refl,
                              (
                                refl,
                                (
                                  refl,
                                  (
                                    refl,
                                    (
                                      refl,
                                      (
                                        refl,
                                        (
                                          refl,
                                          (
                                            refl,
                                            (
                                              refl,
                                              (
                                                refl,
                                                (
                                                  refl,
                                                  (
                                                    refl,
                                                    (
                                                      refl,
                                                      (
                                                        refl,
                                                        (
                                                          refl,
                                                          (
                                                            refl,
                                                            (
                                                              refl,
                                                              (
                                                                refl,
                                                                (
                                                                  refl,
                                                                  (
                                                                    refl,
                                                                    (
                                                                      refl,
                                                                      (
                                                                        refl,
                                                                        (
                                                                          refl,
                                                                          (
                                                                            refl,
                                                                            (
                                                                              refl,
                                                                              (
                                                                                refl,
                                                                                (
                                                                                  refl,
                                                                                  (
                                                                                    refl,
                                                                                    (
                                                                                      refl,
                                                                                      (
                                                                                        refl,
                                                                                        (
                                                                                          refl,
                                                                                          (
                                                                                            refl,
                                                                                            (
                                                                                              refl,
                                                                                              (
                                                                                                refl,
                                                                                                (
                                                                                                  refl,
                                                                                                  (
                                                                                                    refl,
                                                                                                    (
                                                                                                      refl,
                                                                                                      (
                                                                                                        refl,
                                                                                                        (
                                                                                                          refl,
                                                                                                          (
                                                                                                            refl,
                                                                                                            (
                                                                                                              refl,
                                                                                                              (
                                                                                                                refl,
                                                                                                                (
                                                                                                                  refl,
                                                                                                                  (
                                                                                                                    refl,
                                                                                                                    (
                                                                                                                      refl,
                                                                                                                      (
                                                                                                                        refl,
                                                                                                                        (refl, (refl, (refl, (refl, tt)))),
                                                                                                                      ),
                                                                                                                    ),
                                                                                                                  ),
                                                                                                                ),
                                                                                                              ),
                                                                                                            ),
                                                                                                          ),
                                                                                                        ),
                                                                                                      ),
                                                                                                    ),
                                                                                                  ),
                                                                                                ),
                                                                                              ),
                                                                                            ),
                                                                                          ),
                                                                                        ),
                                                                                      ),
                                                                                    ),
                                                                                  ),
                                                                                ),
                                                                              ),
                                                                            ),
                                                                          ),
                                                                        ),
                                                                      ),
                                                                    ),
                                                                  ),
                                                                ),
                                                              ),
                                                            ),
                                                          ),
                                                        ),
                                                      ),
                                                    ),
                                                  ),
                                                ),
                                              ),
                                            ),
                                          ),
                                        ),
                                      ),
                                    ),
                                  ),
                                ),
                              ),
                            ),
                          ),
                        ),
                      ),
                    ),
                  ),
                ),
              ),
            ),
          ),
        ),
      ),
    ),
  ),
)

last : (k : ℕ) → 2 ^ 6 ≤ k → operation_of k ≡ Hltu
last k h = get_or_past operations k Hltu (omega (arith, h))

same : (t : Bool) (k n vp ar operand : ℕ) → nat_lt k (2 ^ 6) ≡ t → by_group t k n vp ar operand ≡ plain_place (operation_of k) n vp ar operand
same true k n vp ar operand h =
    each (λ j. by_group true j n vp ar operand ≡ plain_place (operation_of j) n vp ar operand) (2 ^ 6) (each_code n vp ar operand) k (ltb-true k (2 ^ 6) h)
same false k n vp ar operand h = sym (ap (λ o. plain_place o n vp ar operand) (last k (ltb-false k (2 ^ 6) h)))

pub places : (n word vp ar operand : ℕ) → vp < n
    → picked (34 ∷ 35 ∷ []) word ar ((vp + offset n operand word) % n) ≡ plain_place (operation_in word) n vp ar operand
places n word vp ar operand h =
    ap (λ x. picked (34 ∷ 35 ∷ []) word ar x) (summed (nat_lt (bits_of word) (2 ^ 6)) (bits_of word) n vp operand h)
    ∙ same (nat_lt (bits_of word) (2 ^ 6)) (bits_of word) n vp ar operand refl

-- ---- places that the word itself says

fixed : (i s m : Bool) (number plain : ℕ)
    → (if (i || (s || m)) then bit_of i * 2 ^ 5 + number else plain) ≡ (if i then 32 + number else if (s || m) then number else plain)
fixed true s m number plain = refl
fixed false true m number plain = let none : 0 * 2 ^ 5 + number ≡ number = omega arith in none
fixed false false true number plain = let none : 0 * 2 ^ 5 + number ≡ number = omega arith in none
fixed false false false number plain = refl

pub place_chosen : {r is_fixed is_number ldi stm ldm fixed_place number plain w : ℕ} (word n vp ar operand : ℕ)
    → r ≡ (if is_fixed == 1 then fixed_place else plain) → is_fixed ≡ bit_or ldi is_number → is_number ≡ bit_or stm ldm
    → fixed_place ≡ ldi * 2 ^ w + number → w ≡ 5 → ldi ≡ bit_of (is_ldi word) → number ≡ word % 2 ^ 5 → stm ≡ bit_of (is_stm word)
    → ldm ≡ bit_of (is_ldm word) → plain ≡ plain_place (operation_in word) n vp ar operand → r ≡ place_of n word vp ar operand
place_chosen {r} {is_fixed = f} {is_number = k} {ldi} {stm} {ldm} {fixed_place = place} {number} {plain} {w} word n vp ar operand e fe ke pe five i ne s m p =
    let names : k ≡ bit_of (is_stm word || is_ldm word) =
    ke ∙ ap (λ x. bit_or x ldm) s ∙ ap (λ x. bit_or (bit_of (is_stm word)) x) m ∙ or_bits (is_stm word) (is_ldm word) in
    let any : f ≡ bit_of (is_ldi word || (is_stm word || is_ldm word)) =
    fe ∙ ap (λ x. bit_or x k) i ∙ ap (λ x. bit_or (bit_of (is_ldi word)) x) names ∙ or_bits (is_ldi word) (is_stm word || is_ldm word) in
    let there : place ≡ bit_of (is_ldi word) * 2 ^ 5 + word % 2 ^ 5 =
    pe ∙ ap (λ x. ldi * 2 ^ x + number) five ∙ ap (λ x. x * 2 ^ 5 + number) i ∙ ap (λ x. bit_of (is_ldi word) * 2 ^ 5 + x) ne in
    chosen (is_ldi word || (is_stm word || is_ldm word)) e any there p
    ∙ fixed (is_ldi word) (is_stm word) (is_ldm word) (word % 2 ^ 5) (plain_place (operation_in word) n vp ar operand)

pub place_same : {m x y z : ℕ} (n word vp ar operand : ℕ) → m ≡ n → x ≡ vp → y ≡ ar → z ≡ operand → place_of m word x y z ≡ place_of n word vp ar operand
place_same {m} {x} {y} {z} n word vp ar operand e p q r =
    ap (λ k. place_of k word x y z) e ∙ ap (λ k. place_of n word k y z) p ∙ ap (λ k. place_of n word vp k z) q ∙ ap (λ k. place_of n word vp ar k) r
