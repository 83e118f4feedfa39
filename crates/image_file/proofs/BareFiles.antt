-- What the reader takes for an image is one, and each image is read.
use Rattle.std.proofs.Common.{◌≡◌, ℕ, suc, ◌+◌, ◌*◌, ◌/◌, ◌%◌, ◌^◌, ◌<◌, ◌≤◌, ◌==◌, ◌&&◌, List, [], ◌∷◌, ◌++◌, length, Bool, true, false, cond, nat_le, Some, None, refl, sym, ◌∙◌, ap, subst, arith, eqb-true, leb-true, le-leb, eq-eqb}
use Rattle.std.proofs.lemmas.Bool.{and_parts}
use Rattle.std.specs.Prelude.{slice_index, codes, Ok, Err, IfOk}
use Rattle.std.specs.declared.result.Result.{Result}
use Rattle.base.specs.declared.fault.FormatFault.{FormatFault}
use Rattle.std.specs.declared.option.Option.{Option}
use Rattle.image_file.specs.Bare.{BareContent, IsBareContent, IsBareFile, half, word, bare_bytes, return_code, spelled}
use Rattle.image_file.specs.Scan.{scan, image_test, header_test, image_in}
use Rattle.image_file.proofs.Scanned.{scan-sound, scan-complete}

-- what the test of an image says
pub record Tested (max_locals max_stack n : ℕ) (code : List ℕ) : Type 0 where
  pub count : n ≡ length code
  pub short : length code ≤ 4096
  pub frame : max_locals + 5 + max_stack ≤ 176
  pub scanned : scan max_locals max_stack 0 0 code ≡ true

pub tested : (max_locals max_stack count : ℕ) (code : List ℕ) → image_test max_locals max_stack count code ≡ true → Tested max_locals max_stack count code
tested l r n code e =
    let w = and_parts (n == length code && nat_le n 4096 && nat_le (l + 5 + r) 176) (scan l r 0 0 code) e in
    let x = and_parts (n == length code && nat_le n 4096) (nat_le (l + 5 + r) 176) w.0 in
    let y = and_parts (n == length code) (nat_le n 4096) x.0 in
    let same = eqb-true n (length code) y.0 in
    record { count = same; short = (let P : ℕ → Type 0 = λ k. k ≤ 4096 in subst P same (leb-true n 4096 y.1)); frame = leb-true (l + 5 + r) 176 x.1; scanned = w.1 }

-- code that was tested is an image
pub IsImage-tested : (max_locals max_stack count : ℕ) (code : List ℕ) → ((k : ℕ) → slice_index code k < 2 ^ 8) → image_test max_locals max_stack count code ≡ true → IsBareContent (record { max_locals = max_locals; max_stack = max_stack; code = code })
IsImage-tested l r n code small e =
    let t = tested l r n code e in
    let p = scan-sound l r 0 0 code t.scanned in
    let none : p.operands ≡ [] = empty p.operands p.count in
    record {
      frame = t.frame;
      short = t.short;
      bytes = small;
      instructions = p.instructions;
      code = p.spelling ∙ ap (λ (xs : List ℕ). xs ++ (spelled p.instructions ++ return_code ∷ [])) none;
      within = p.within;
    }
  where
    empty : (xs : List ℕ) → length xs ≡ 0 → xs ≡ []
    empty [] e = refl
    empty (x ∷ xs) e = absurd (omega (arith, e))

pub test-image : (image : BareContent) → IsBareContent image → image_test image.max_locals image.max_stack (length image.code) image.code ≡ true
test-image image is =
    let scanned : scan image.max_locals image.max_stack 0 0 image.code ≡ true = ap (λ (xs : List ℕ). scan image.max_locals image.max_stack 0 0 xs) is.code ∙ scan-complete image.max_locals image.max_stack 0 is.instructions is.within in
    rw (eq-eqb (length image.code) (length image.code) refl, le-leb (length image.code) 4096 is.short, le-leb (image.max_locals + 5 + image.max_stack) 176 is.frame) scanned

chosen : {A : Type 0} (b : Bool) (x : A) (y : Option A) → cond b (Some x) None ≡ y → (z : A) → y ≡ Some z → (b ≡ true) × (x ≡ z)
chosen true x y e z is = (refl, (let f : Some x ≡ Some z = e ∙ is in cc))
chosen false x y e z is = absurd (let f : None ≡ Some z = e ∙ is in cc)

half-bytes : (high low : ℕ) → low < 2 ^ 8 → half (high * 256 + low) ≡ high ∷ low ∷ []
half-bytes high low small =
    let quotient : (high * 256 + low) / 2 ^ 8 ≡ high = omega (arith, small) in
    let remainder : (high * 256 + low) % 2 ^ 8 ≡ low = omega (arith, small) in
    rw (quotient, remainder) refl

half-value : (n : ℕ) → n / 2 ^ 8 * 256 + n % 2 ^ 8 ≡ n
half-value n = omega arith

word-bytes : (n0 n1 n2 n3 n : ℕ) → n ≡ (n0 * 256 + n1) * 65536 + (n2 * 256 + n3) → n1 < 2 ^ 8 → n2 < 2 ^ 8 → n3 < 2 ^ 8 → word n ≡ n0 ∷ n1 ∷ n2 ∷ n3 ∷ []
word-bytes n0 n1 n2 n3 n is small1 small2 small3 =
    let high : n / 2 ^ 16 ≡ n0 * 256 + n1 = omega arith in
    let low : n % 2 ^ 16 ≡ n2 * 256 + n3 = omega arith in
    ap (λ k. half k ++ half (n % 2 ^ 16)) high
    ∙ ap (λ k. half (n0 * 256 + n1) ++ half k) low
    ∙ ap (λ (xs : List ℕ). xs ++ half (n2 * 256 + n3)) (half-bytes n0 n1 small1)
    ∙ ap (λ (xs : List ℕ). n0 ∷ n1 ∷ xs) (half-bytes n2 n3 small3)

word-value : (n : ℕ) → (n / 2 ^ 16 / 2 ^ 8 * 256 + n / 2 ^ 16 % 2 ^ 8) * 65536 + (n % 2 ^ 16 / 2 ^ 8 * 256 + n % 2 ^ 16 % 2 ^ 8) ≡ n
word-value n = rw (half-value (n / 2 ^ 16), half-value (n % 2 ^ 16)) (omega arith)

-- what the marks of a header are
header_bytes : (j o p b v w : ℕ) → header_test j o p b v w ≡ true → j ∷ o ∷ p ∷ b ∷ v ∷ w ∷ [] ≡ codes "JOPB" ++ half 1
header_bytes j o p b v w e =
    let s5 = and_parts (j == 74 && o == 79 && p == 80 && b == 66 && v == 0) (w == 1) e in
    let s4 = and_parts (j == 74 && o == 79 && p == 80 && b == 66) (v == 0) s5.0 in
    let s3 = and_parts (j == 74 && o == 79 && p == 80) (b == 66) s4.0 in
    let s2 = and_parts (j == 74 && o == 79) (p == 80) s3.0 in
    let s1 = and_parts (j == 74) (o == 79) s2.0 in
    let j_is = eqb-true j 74 s1.0 in
    let o_is = eqb-true o 79 s1.1 in
    let p_is = eqb-true p 80 s2.1 in
    let b_is = eqb-true b 66 s3.1 in
    let v_is = eqb-true v 0 s4.1 in
    let w_is = eqb-true w 1 s5.1 in
    rw (j_is, o_is, p_is, b_is, v_is, w_is) refl

spelled_as : (l0 l1 s0 s1 n0 n1 n2 n3 : ℕ) (code : List ℕ) → l1 < 2 ^ 8 → s1 < 2 ^ 8 → n1 < 2 ^ 8 → n2 < 2 ^ 8 → n3 < 2 ^ 8
    → (n0 * 256 + n1) * 65536 + (n2 * 256 + n3) ≡ length code
    → codes "JOPB" ++ half 1 ++ l0 ∷ l1 ∷ s0 ∷ s1 ∷ n0 ∷ n1 ∷ n2 ∷ n3 ∷ code ≡ bare_bytes (record { max_locals = l0 * 256 + l1; max_stack = s0 * 256 + s1; code = code })
spelled_as l0 l1 s0 s1 n0 n1 n2 n3 code l1_small s1_small n1_small n2_small n3_small count =
    let marks : List ℕ = codes "JOPB" ++ half 1 in
    sym
    (ap (λ (xs : List ℕ). marks ++ xs ++ half (s0 * 256 + s1) ++ word (length code) ++ code) (half-bytes l0 l1 l1_small)
    ∙ ap (λ (xs : List ℕ). marks ++ (l0 ∷ l1 ∷ []) ++ xs ++ word (length code) ++ code) (half-bytes s0 s1 s1_small)
    ∙ ap (λ (xs : List ℕ). marks ++ (l0 ∷ l1 ∷ []) ++ (s0 ∷ s1 ∷ []) ++ xs ++ code) (word-bytes n0 n1 n2 n3 (length code) (sym count) n1_small n2_small n3_small))

-- what is read as an image is its bytes
pub IsBare-read : (bytes : List ℕ) (image : BareContent) → ((k : ℕ) → slice_index bytes k < 2 ^ 8) → image_in bytes ≡ Some image → IsBareFile bytes image
IsBare-read (j ∷ o ∷ p ∷ b ∷ v ∷ w ∷ l0 ∷ l1 ∷ s0 ∷ s1 ∷ n0 ∷ n1 ∷ n2 ∷ n3 ∷ code) image small e =
    let header = header_test j o p b v w in
    let test = image_test (l0 * 256 + l1) (s0 * 256 + s1) ((n0 * 256 + n1) * 65536 + (n2 * 256 + n3)) code in
    let parts = chosen (header && test) (record { max_locals = l0 * 256 + l1; max_stack = s0 * 256 + s1; code = code }) (Some image) e image refl in
    let tests = and_parts header test parts.0 in
    let count = (tested (l0 * 256 + l1) (s0 * 256 + s1) ((n0 * 256 + n1) * 65536 + (n2 * 256 + n3)) code tests.1).count in
    let B : BareContent → Type 0 = λ i. IsBareFile (j ∷ o ∷ p ∷ b ∷ v ∷ w ∷ l0 ∷ l1 ∷ s0 ∷ s1 ∷ n0 ∷ n1 ∷ n2 ∷ n3 ∷ code) i in
    subst B parts.1
    (record {
      grammar = IsImage-tested (l0 * 256 + l1) (s0 * 256 + s1) ((n0 * 256 + n1) * 65536 + (n2 * 256 + n3)) code (λ k. small (suc (suc (suc (suc (suc (suc (suc (suc (suc (suc (suc (suc (suc (suc k))))))))))))))) tests.1;
      spelling = ap (λ (marks : List ℕ). marks ++ l0 ∷ l1 ∷ s0 ∷ s1 ∷ n0 ∷ n1 ∷ n2 ∷ n3 ∷ code) (header_bytes j o p b v w tests.0)
          ∙ spelled_as l0 l1 s0 s1 n0 n1 n2 n3 code (small 7) (small 9) (small 11) (small 12) (small 13) count;
    })
IsBare-read bytes image small e = absurd (let f : None ≡ Some image = e in cc)

read_as : (l s n : ℕ) (image : BareContent) → l ≡ image.max_locals → s ≡ image.max_stack → n ≡ length image.code → IsBareContent image
    → cond (image_test l s n image.code) (Some (record { max_locals = l; max_stack = s; code = image.code })) None ≡ Some image
read_as l s n image l_is s_is n_is is = rw (l_is, s_is, n_is, test-image image is) refl

-- the bytes of an image are read as it
pub image_in-bare : (bytes : List ℕ) (image : BareContent) → IsBareFile bytes image → image_in bytes ≡ Some image
image_in-bare bytes image is =
    ap image_in is.spelling
    ∙ read_as (image.max_locals / 2 ^ 8 * 256 + image.max_locals % 2 ^ 8) (image.max_stack / 2 ^ 8 * 256 + image.max_stack % 2 ^ 8)
    ((length image.code / 2 ^ 16 / 2 ^ 8 * 256 + length image.code / 2 ^ 16 % 2 ^ 8) * 65536 + (length image.code % 2 ^ 16 / 2 ^ 8 * 256 + length image.code % 2 ^ 16 % 2 ^ 8))
    image (half-value image.max_locals) (half-value image.max_stack) (word-value (length image.code)) is.grammar

pub IsBare-ok : (bytes : List ℕ) (result : Result BareContent FormatFault) → ((k : ℕ) → slice_index bytes k < 2 ^ 8) → IfOk result (λ image. image_in bytes ≡ Some image) → IfOk result (IsBareFile bytes)
IsBare-ok bytes (Ok image) small read = IsBare-read bytes image small read
IsBare-ok bytes (Err fault) small read = tt
