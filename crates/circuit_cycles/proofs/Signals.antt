-- What a word of the ROM makes the circuit do, by the microinstruction that it spells.
use Rattle.std.proofs.Common.{◌≡◌, ℕ, zero, suc, ◌-◌, ◌/◌, ◌%◌, ◌^◌, ◌<◌, ◌≤◌, ◌⊎◌, Bool, true, false, Option, Some, None, refl, sym, ap, subst, inl, inr, ◌∙◌, arith, ltb-true, ltb-false}
use Rattle.std.specs.Prelude.{◌==◌, ◌&&◌, ◌||◌, nat_lt, if◌then◌else◌}
use Rattle.std.proofs.lemmas.Bool.{ne_eqb, and_parts, cases_eq}
use Rattle.std.proofs.lemmas.Bool.Decides.{nat_tests}
use Rattle.circuit_cycles.proofs.Rounds.{eqb_eq}
use Rattle.microcode.specs.declared.isa.operation.Operation.{Operation}
use Rattle.microcode.specs.declared.isa.operation.Operation.TheVariants.{Nop, Pop, Dup, Add, Sub, And, Or, Xor, Shl, Shr, Ushr, Mul, Slt, Sltu, Ldo, Ldo8, Ldo16}
use Rattle.microcode.specs.declared.isa.operation.Operation.TheVariants.{Ldl, Stl, Ld0, Ld1, Ld2, Ld3, St0, St1, St2, St3, Ldvp, Stvp, Ldsp, Stsp, Ldjpc, Stjpc}
use Rattle.microcode.specs.declared.isa.operation.Operation.TheVariants.{Star, Ldmi, Stmi, Stmra, Stmwa, Stmwd, Wait, Ldmrd, Stbc, Jbr, Jbg, Ldin, Stout, Hltb}
use Rattle.microcode.specs.declared.isa.operation.Operation.TheVariants.{Hltu}
use Rattle.microcode.specs.declared.isa.Body.{Body}
use Rattle.microcode.specs.declared.isa.Body.TheVariants.{Plain, Stm, Ldm, Ldi, Bz, Bnz, Jmp}
use Rattle.microcode.specs.declared.isa.Micro.{Micro}
use Rattle.microcode.specs.Isa.Operations.{operation_of}
use Rattle.microcode.specs.Isa.Words.{micro_of, body_of, with_flags}
use Rattle.circuit_cycles.specs.Words.{bits_of, has_opd, has_nxt, is_plain, is_stm, is_ldm, is_ldi, is_bz, is_bnz, is_jmp}

abbrev pub code_of : Operation → ℕ
code_of Nop = 0
code_of Pop = 1
code_of Dup = 2
code_of Add = 3
code_of Sub = 4
code_of And = 5
code_of Or = 6
code_of Xor = 7
code_of Shl = 8
code_of Shr = 9
code_of Ushr = 10
code_of Mul = 11
code_of Slt = 12
code_of Sltu = 13
code_of Ldo = 14
code_of Ldo8 = 15
code_of Ldo16 = 16
code_of Ldl = 17
code_of Stl = 18
code_of Ld0 = 19
code_of Ld1 = 20
code_of Ld2 = 21
code_of Ld3 = 22
code_of St0 = 23
code_of St1 = 24
code_of St2 = 25
code_of St3 = 26
code_of Ldvp = 27
code_of Stvp = 28
code_of Ldsp = 29
code_of Stsp = 30
code_of Ldjpc = 31
code_of Stjpc = 32
code_of Star = 33
code_of Ldmi = 34
code_of Stmi = 35
code_of Stmra = 36
code_of Stmwa = 37
code_of Stmwd = 38
code_of Wait = 39
code_of Ldmrd = 40
code_of Stbc = 41
code_of Jbr = 42
code_of Jbg = 43
code_of Ldin = 44
code_of Stout = 45
code_of Hltb = 46
code_of Hltu = 47

abbrev all_own : ℕ → Bool
all_own zero = true
all_own (suc n) = (code_of (operation_of n) == n) && all_own n

own_below : (n : ℕ) → all_own n ≡ true → (k : ℕ) → k < n → code_of (operation_of k) ≡ k
own_below zero h k low = absurd (omega (arith, low))
own_below (suc n) h k low =
    let parts = and_parts (code_of (operation_of n) == n) (all_own n) h in
    elim (cases_eq k n) [
      | inl same ↦ ap (λ m. code_of (operation_of m)) same ∙ eqb_eq (code_of (operation_of n)) n parts.0 ∙ sym same
      | inr other ↦ own_below n parts.1 k (omega (arith, low, other))
    ]

pub code_own : (code : ℕ) → code < 48 → code_of (operation_of code) ≡ code
code_own code low = own_below 48 refl code low

-- the kind of a word
pub record Kind (word : ℕ) (plain stm ldm ldi bz bnz jmp : Bool) : Type 0 where
  pub plain_is : is_plain word ≡ plain
  pub stm_is : is_stm word ≡ stm
  pub ldm_is : is_ldm word ≡ ldm
  pub ldi_is : is_ldi word ≡ ldi
  pub bz_is : is_bz word ≡ bz
  pub bnz_is : is_bnz word ≡ bnz
  pub jmp_is : is_jmp word ≡ jmp

-- what a word says that spells this body
abbrev pub Says : (word : ℕ) → Body → Type 0
Says word (Plain code) = Kind word true false false false false false false × (bits_of word ≡ code) × (code < 48)
Says word (Stm place) = Kind word false true false false false false false × (word % 2 ^ 5 ≡ place) × (place < 32) × (64 ≤ bits_of word)
Says word (Ldm place) = Kind word false false true false false false false × (word % 2 ^ 5 ≡ place) × (place < 32) × (64 ≤ bits_of word)
Says word (Ldi number) = Kind word false false false true false false false × (word % 2 ^ 5 ≡ number) × (number < 32) × (64 ≤ bits_of word)
Says word (Bz to) = Kind word false false false false true false false × (word % 2 ^ 11 ≡ to) × (to < 2048) × (64 ≤ bits_of word)
Says word (Bnz to) = Kind word false false false false false true false × (word % 2 ^ 11 ≡ to) × (to < 2048) × (64 ≤ bits_of word)
Says word (Jmp to) = Kind word false false false false false false true × (word % 2 ^ 11 ≡ to) × (to < 2048) × (64 ≤ bits_of word)

-- a branch has no flag
abbrev pub HasFlags : Body → (opd nxt : Bool) → Type 0
HasFlags (Bz to) opd nxt = (opd ≡ false) × (nxt ≡ false)
HasFlags (Bnz to) opd nxt = (opd ≡ false) × (nxt ≡ false)
HasFlags (Jmp to) opd nxt = (opd ≡ false) × (nxt ≡ false)
HasFlags _ opd nxt = (opd ≡ opd) × (nxt ≡ nxt)

kind : (word : ℕ) (plain stm ldm ldi bz bnz jmp : Bool) → nat_lt (word % 2 ^ 14) (2 ^ 6) ≡ plain → (word % 2 ^ 14 / 2 ^ 5 == 8) ≡ stm
    → (word % 2 ^ 14 / 2 ^ 5 == 9) ≡ ldm → (word % 2 ^ 14 / 2 ^ 5 == 10) ≡ ldi → (word % 2 ^ 14 / 2 ^ 11 == 1) ≡ bz
    → (word % 2 ^ 14 / 2 ^ 11 == 2) ≡ bnz → (word % 2 ^ 14 / 2 ^ 11 == 3) ≡ jmp → Kind word plain stm ldm ldi bz bnz jmp
kind word plain stm ldm ldi bz bnz jmp p s m i z n j = record { plain_is = p; stm_is = s; ldm_is = m; ldi_is = i; bz_is = z; bnz_is = n; jmp_is = j }

pub lt_is : (m n : ℕ) → m < n → nat_lt m n ≡ true
lt_is m n h = grind (arith, nat_tests)

pub ge_is : (m n : ℕ) → n ≤ m → nat_lt m n ≡ false
ge_is m n h = grind (arith, nat_tests)

-- by the parts of the bits
kind_five : (word five : ℕ) → word % 2 ^ 14 / 2 ^ 5 ≡ five → word % 2 ^ 14 < 2 ^ 11 → 2 ^ 6 ≤ word % 2 ^ 14
    → Kind word false (five == 8) (five == 9) (five == 10) false false false
kind_five word five h low high =
    let b = word % 2 ^ 14 in
    kind word false (five == 8) (five == 9) (five == 10) false false false (ge_is b (2 ^ 6) high) (ap (λ k. k == 8) h) (ap (λ k. k == 9) h) (ap (λ k. k == 10) h)
    (ne_eqb (b / 2 ^ 11) 1 (omega (arith, low))) (ne_eqb (b / 2 ^ 11) 2 (omega (arith, low))) (ne_eqb (b / 2 ^ 11) 3 (omega (arith, low)))

kind_eleven : (word eleven : ℕ) (plain : Bool) → word % 2 ^ 14 / 2 ^ 11 ≡ eleven → (word % 2 ^ 14 < 2 ^ 6) ⊎ (2 ^ 11 ≤ word % 2 ^ 14) → nat_lt (word % 2 ^ 14) (2 ^ 6) ≡ plain
    → Kind word plain false false false (eleven == 1) (eleven == 2) (eleven == 3)
kind_eleven word eleven plain h far p =
    let b = word % 2 ^ 14 in
    kind word plain false false false (eleven == 1) (eleven == 2) (eleven == 3) p
    (ne_eqb (b / 2 ^ 5) 8 (omega (arith, far))) (ne_eqb (b / 2 ^ 5) 9 (omega (arith, far))) (ne_eqb (b / 2 ^ 5) 10 (omega (arith, far)))
    (ap (λ k. k == 1) h) (ap (λ k. k == 2) h) (ap (λ k. k == 3) h)

says : (word : ℕ) (flagged : Bool) (body : Body) → body_of (word % 2 ^ 14) flagged ≡ Some body → Says word body
says word flagged body h =
    one (nat_lt b 0x0030) (nat_lt b 0x0100) (nat_lt b 0x0120) (nat_lt b 0x0140) (nat_lt b 0x0160) (nat_lt b 0x0800) (nat_lt b 0x1000) (nat_lt b 0x1800) (nat_lt b 0x2000) refl refl refl refl refl refl refl refl refl h
  where
    b : ℕ
    b = word % 2 ^ 14

    is : (other : Body) → Says word other → Some other ≡ Some body → Says word body
    is other facts e = let same : other ≡ body = cc in subst (Says word) same facts

    one : (p n s m i f z y j : Bool) → nat_lt (word % 2 ^ 14) 0x0030 ≡ p → nat_lt (word % 2 ^ 14) 0x0100 ≡ n → nat_lt (word % 2 ^ 14) 0x0120 ≡ s → nat_lt (word % 2 ^ 14) 0x0140 ≡ m → nat_lt (word % 2 ^ 14) 0x0160 ≡ i
        → nat_lt (word % 2 ^ 14) 0x0800 ≡ f → nat_lt (word % 2 ^ 14) 0x1000 ≡ z → nat_lt (word % 2 ^ 14) 0x1800 ≡ y → nat_lt (word % 2 ^ 14) 0x2000 ≡ j
        → (if p then Some (Plain (word % 2 ^ 14)) else if n then None else if s then Some (Stm (word % 2 ^ 14 - 0x0100)) else if m then Some (Ldm (word % 2 ^ 14 - 0x0120)) else if i then Some (Ldi (word % 2 ^ 14 - 0x0140)) else if f || flagged then None else if z then Some (Bz (word % 2 ^ 14 - 0x0800)) else if y then Some (Bnz (word % 2 ^ 14 - 0x1000)) else if j then Some (Jmp (word % 2 ^ 14 - 0x1800)) else None) ≡ Some body
        → Says word body
    one true n s m i f z y j hp hn hs hm hi hf hz hy hj e =
        let low = ltb-true (word % 2 ^ 14) 0x0030 hp in
        is (Plain (word % 2 ^ 14)) (kind_eleven word 0 true (omega (arith, low)) (inl (omega (arith, low))) (lt_is (word % 2 ^ 14) (2 ^ 6) (omega (arith, low))), refl, low) e
    one false true s m i f z y j hp hn hs hm hi hf hz hy hj e = let bad : ⊥ = cc in absurd bad
    one false false true m i f z y j hp hn hs hm hi hf hz hy hj e =
        let low = ltb-false (word % 2 ^ 14) 0x0100 hn in
        let high = ltb-true (word % 2 ^ 14) 0x0120 hs in
        is (Stm (word % 2 ^ 14 - 0x0100)) (kind_five word 8 (omega (arith, low, high)) (omega (arith, high)) (omega (arith, low)), omega (arith, low, high), omega (arith, low, high), omega (arith, low)) e
    one false false false true i f z y j hp hn hs hm hi hf hz hy hj e =
        let low = ltb-false (word % 2 ^ 14) 0x0120 hs in
        let high = ltb-true (word % 2 ^ 14) 0x0140 hm in
        is (Ldm (word % 2 ^ 14 - 0x0120)) (kind_five word 9 (omega (arith, low, high)) (omega (arith, high)) (omega (arith, low)), omega (arith, low, high), omega (arith, low, high), omega (arith, low)) e
    one false false false false true f z y j hp hn hs hm hi hf hz hy hj e =
        let low = ltb-false (word % 2 ^ 14) 0x0140 hm in
        let high = ltb-true (word % 2 ^ 14) 0x0160 hi in
        is (Ldi (word % 2 ^ 14 - 0x0140)) (kind_five word 10 (omega (arith, low, high)) (omega (arith, high)) (omega (arith, low)), omega (arith, low, high), omega (arith, low, high), omega (arith, low)) e
    one false false false false false true z y j hp hn hs hm hi hf hz hy hj e = let bad : ⊥ = cc in absurd bad
    one false false false false false false z y j hp hn hs hm hi hf hz hy hj e = two flagged z y j hf hz hy hj e
      where
        two : (g z y j : Bool) → nat_lt (word % 2 ^ 14) 0x0800 ≡ false → nat_lt (word % 2 ^ 14) 0x1000 ≡ z → nat_lt (word % 2 ^ 14) 0x1800 ≡ y → nat_lt (word % 2 ^ 14) 0x2000 ≡ j
            → (if g then None else if z then Some (Bz (word % 2 ^ 14 - 0x0800)) else if y then Some (Bnz (word % 2 ^ 14 - 0x1000)) else if j then Some (Jmp (word % 2 ^ 14 - 0x1800)) else None) ≡ Some body
            → Says word body
        two true z y j hf hz hy hj e = let bad : ⊥ = cc in absurd bad
        two false true y j hf hz hy hj e =
            let low = ltb-false (word % 2 ^ 14) 0x0800 hf in
            let high = ltb-true (word % 2 ^ 14) 0x1000 hz in
            is (Bz (word % 2 ^ 14 - 0x0800)) (kind_eleven word 1 false (omega (arith, low, high)) (inr (omega (arith, low))) (ge_is (word % 2 ^ 14) (2 ^ 6) (omega (arith, low))), omega (arith, low, high), omega (arith, low, high), omega (arith, low)) e
        two false false true j hf hz hy hj e =
            let low = ltb-false (word % 2 ^ 14) 0x1000 hz in
            let high = ltb-true (word % 2 ^ 14) 0x1800 hy in
            is (Bnz (word % 2 ^ 14 - 0x1000)) (kind_eleven word 2 false (omega (arith, low, high)) (inr (omega (arith, low))) (ge_is (word % 2 ^ 14) (2 ^ 6) (omega (arith, low))), omega (arith, low, high), omega (arith, low, high), omega (arith, low)) e
        two false false false true hf hz hy hj e =
            let low = ltb-false (word % 2 ^ 14) 0x1800 hy in
            let high = ltb-true (word % 2 ^ 14) 0x2000 hj in
            is (Jmp (word % 2 ^ 14 - 0x1800)) (kind_eleven word 3 false (omega (arith, low, high)) (inr (omega (arith, low))) (ge_is (word % 2 ^ 14) (2 ^ 6) (omega (arith, low))), omega (arith, low, high), omega (arith, low, high), omega (arith, low)) e
        two false false false false hf hz hy hj e = let bad : ⊥ = cc in absurd bad

-- a branch with a flag is none
flags : (bits : ℕ) (opd nxt : Bool) (body : Body) → body_of bits (opd || nxt) ≡ Some body → HasFlags body opd nxt
flags bits opd nxt body h = by opd nxt refl refl h
  where
    flagged : (rest : Option Body) (p n s m i f : Bool) → (if p then Some (Plain bits) else if n then None else if s then Some (Stm (bits - 0x0100)) else if m then Some (Ldm (bits - 0x0120)) else if i then Some (Ldi (bits - 0x0140)) else if f || true then None else rest) ≡ Some body → HasFlags body opd nxt
    flagged rest true n s m i f e = let same : Plain bits ≡ body = cc in subst (λ b. HasFlags b opd nxt) same (refl, refl)
    flagged rest false true s m i f e = let bad : ⊥ = cc in absurd bad
    flagged rest false false true m i f e = let same : Stm (bits - 0x0100) ≡ body = cc in subst (λ b. HasFlags b opd nxt) same (refl, refl)
    flagged rest false false false true i f e = let same : Ldm (bits - 0x0120) ≡ body = cc in subst (λ b. HasFlags b opd nxt) same (refl, refl)
    flagged rest false false false false true f e = let same : Ldi (bits - 0x0140) ≡ body = cc in subst (λ b. HasFlags b opd nxt) same (refl, refl)
    flagged rest false false false false false true e = let bad : ⊥ = cc in absurd bad
    flagged rest false false false false false false e = let bad : ⊥ = cc in absurd bad

    by : (o n : Bool) → opd ≡ o → nxt ≡ n → body_of bits (o || n) ≡ Some body → HasFlags body opd nxt
    by false false ho hn e = none body ho hn
      where
        none : (b : Body) → opd ≡ false → nxt ≡ false → HasFlags b opd nxt
        none (Bz to) ho hn = (ho, hn)
        none (Bnz to) ho hn = (ho, hn)
        none (Jmp to) ho hn = (ho, hn)
        none (Plain code) ho hn = (refl, refl)
        none (Stm place) ho hn = (refl, refl)
        none (Ldm place) ho hn = (refl, refl)
        none (Ldi number) ho hn = (refl, refl)
    by true n ho hn e = flagged (if nat_lt bits 0x1000 then Some (Bz (bits - 0x0800)) else if nat_lt bits 0x1800 then Some (Bnz (bits - 0x1000)) else if nat_lt bits 0x2000 then Some (Jmp (bits - 0x1800)) else None) (nat_lt bits 0x0030) (nat_lt bits 0x0100) (nat_lt bits 0x0120) (nat_lt bits 0x0140) (nat_lt bits 0x0160) (nat_lt bits 0x0800) e
    by false true ho hn e = flagged (if nat_lt bits 0x1000 then Some (Bz (bits - 0x0800)) else if nat_lt bits 0x1800 then Some (Bnz (bits - 0x1000)) else if nat_lt bits 0x2000 then Some (Jmp (bits - 0x1800)) else None) (nat_lt bits 0x0030) (nat_lt bits 0x0100) (nat_lt bits 0x0120) (nat_lt bits 0x0140) (nat_lt bits 0x0160) (nat_lt bits 0x0800) e

pub record IsSaid (word : ℕ) (m : Micro) : Type 0 where
  pub body : Says word m.body
  pub opd : has_opd word ≡ m.opd
  pub nxt : has_nxt word ≡ m.nxt
  pub flags : HasFlags m.body m.opd m.nxt

pub is_said : (word : ℕ) (m : Micro) → word < 2 ^ 16 → micro_of word ≡ Some m → IsSaid word m
is_said word m low h = by (body_of (word % 2 ^ 14) (opd || nxt)) refl h
  where
    nxt : Bool
    nxt = word / 2 ^ 15 == 1

    opd : Bool
    opd = word / 2 ^ 14 % 2 == 1

    by : (o : Option Body) → body_of (word % 2 ^ 14) ((word / 2 ^ 14 % 2 == 1) || (word / 2 ^ 15 == 1)) ≡ o → with_flags (word / 2 ^ 14 % 2 == 1) (word / 2 ^ 15 == 1) o ≡ Some m → IsSaid word m
    by None e g = let bad : ⊥ = cc in absurd bad
    by (Some body) e g =
        let n = word / 2 ^ 15 == 1 in
        let o = word / 2 ^ 14 % 2 == 1 in
        let same : record { body = body; opd = o; nxt = n } ≡ m = cc in
        let one : word / 2 ^ 15 % 2 ≡ word / 2 ^ 15 = omega (arith, low) in
        subst (λ k. IsSaid word k) same (record {
          body = says word (o || n) body e;
          opd = refl;
          nxt = ap (λ k. k == 1) one;
          flags = flags (word % 2 ^ 14) o n body e;
        })
