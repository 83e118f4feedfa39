-- Bytes of words, and where they lie.
use Rattle.std.proofs.Common.{◌≡◌, ℕ, ◌+◌, ◌-◌, ◌*◌, ◌/◌, ◌%◌, ◌^◌, ◌<◌, ◌≤◌, ◌⊎◌, Bool, true, false, if◌then◌else◌, ◌∙◌, refl, sym, ap, subst, nat_lt, ltb-true, ltb-false, inl, inr, arith}
use Rattle.std.specs.Prelude.{◌==◌}
use Rattle.std.proofs.Math.Nat.{add-mod-mod, add-mod_right, mod-eq_of_lt, mod-lt}
use Rattle.std.proofs.Math.Pow.{pow_mono}
use Rattle.std.proofs.lemmas.Nat.{pow_pos}
use Rattle.base.specs.Packed.{byte_of}
use Rattle.netlist.specs.Meaning.{bit_of}
use Rattle.circuit_cycles.specs.Words.{takes_at_a}
use Rattle.circuit_cycles.specs.Core.{Core, byte, byte_place, ring_place}
use Rattle.circuit_core.proofs.Choosing.{AllBelow, chosen, each}

abbrev by_bits : (word odd late : ℕ) → ℕ
by_bits word odd late =
    if late == 1 then (if odd == 1 then word / 2 ^ 0 % 2 ^ 8 else word / 2 ^ 8 % 2 ^ 8)
    else (if odd == 1 then word / 2 ^ 16 % 2 ^ 8 else word / 2 ^ 24 % 2 ^ 8)

each_byte : (word : ℕ) → AllBelow (λ k. by_bits word (k % 2) (k / 2) ≡ byte_of word k) 4
each_byte word = (refl, (refl, (refl, (refl, tt))))

pub byte_chosen : {r late l odd e first second third fourth : ℕ} (word place : ℕ) → r ≡ (if late == 1 then l else e) → late ≡ place / 2 ^ 1 % 2 ^ 1
    → l ≡ (if odd == 1 then fourth else third) → e ≡ (if odd == 1 then second else first) → odd ≡ place / 2 ^ 0 % 2 ^ 1 → first ≡ word / 2 ^ 24 % 2 ^ 8
    → second ≡ word / 2 ^ 16 % 2 ^ 8 → third ≡ word / 2 ^ 8 % 2 ^ 8 → fourth ≡ word / 2 ^ 0 % 2 ^ 8 → r ≡ byte_of word (place % 4)
byte_chosen {r} {late} {l} {odd} {e} {first} {second} {third} {fourth} word place h hl ll ee o f s t u =
    let is_late : late ≡ place % 4 / 2 = omega (arith, hl) in
    let is_odd : odd ≡ place % 4 % 2 = omega (arith, o) in
    let at_l : l ≡ (if odd == 1 then word / 2 ^ 0 % 2 ^ 8 else word / 2 ^ 8 % 2 ^ 8) =
    ll ∙ ap (λ x. if odd == 1 then x else third) u ∙ ap (λ x. if odd == 1 then word / 2 ^ 0 % 2 ^ 8 else x) t in
    let at_e : e ≡ (if odd == 1 then word / 2 ^ 16 % 2 ^ 8 else word / 2 ^ 24 % 2 ^ 8) =
    ee ∙ ap (λ x. if odd == 1 then x else first) s ∙ ap (λ x. if odd == 1 then word / 2 ^ 16 % 2 ^ 8 else x) f in
    h ∙ ap (λ x. if late == 1 then x else e) at_l ∙ ap (λ x. if late == 1 then (if odd == 1 then word / 2 ^ 0 % 2 ^ 8 else word / 2 ^ 8 % 2 ^ 8) else x) at_e ∙ ap (λ x. by_bits word odd x) is_late
    ∙ ap (λ x. by_bits word x (place % 4 / 2)) is_odd ∙ each (λ k. by_bits word (k % 2) (k / 2) ≡ byte_of word k) 4 (each_byte word) (place % 4) (omega arith)

pub place_fits : (word a jpc : ℕ) → jpc < 2 ^ 16 → byte_place word a jpc < 2 ^ 16
place_fits word a jpc h = by (takes_at_a word)
  where
    by : (t : Bool) → (if t then a % 2 ^ 16 else jpc) < 2 ^ 16
    by true = omega arith
    by false = h

pub byte_within : {r within wn pn words_net read ring_net other : ℕ} (place words ring : ℕ) → place < 2 ^ 16 → r ≡ (if within == 1 then read else other)
    → within ≡ bit_of (nat_lt wn words_net) → wn ≡ pn / 2 ^ 2 % 2 ^ 14 → pn ≡ place → words_net ≡ words → read ≡ byte_of ring_net (pn % 4)
    → ring_net ≡ ring → other ≡ 0 → r ≡ (if nat_lt (place / 4) words then byte_of ring (place % 4) else 0)
byte_within {r} {within} {wn} {pn} {words_net} {read} {ring_net} {other} place words ring small e w n p ws rd rg z =
    let number : wn ≡ place / 4 = omega (arith, n, p, small) in
    chosen (nat_lt (place / 4) words) e (w ∙ ap (λ x. bit_of (nat_lt x words_net)) number ∙ ap (λ x. bit_of (nat_lt (place / 4) x)) ws)
    (rd ∙ ap (λ x. byte_of x (pn % 4)) rg ∙ ap (λ x. byte_of ring (x % 4)) p) z

pub byte_fits : (c : Core) → byte c < 2 ^ 8
byte_fits c = by (nat_lt (byte_place c.word c.a c.jpc / 4) c.words)
  where
    by : (t : Bool) → (if t then byte_of c.ring_out (byte_place c.word c.a c.jpc % 4) else 0) < 2 ^ 8
    by true = mod-lt (c.ring_out / 2 ^ (8 * (3 - byte_place c.word c.a c.jpc % 4))) (omega arith)
    by false = omega arith

pub byte_below : (c : Core) → byte c < 256
byte_below c = byte_fits c

pub le-or-lt : (a b : ℕ) → (a ≤ b) ⊎ (b < a)
le-or-lt a b = by (nat_lt b a) refl
  where
    by : (t : Bool) → nat_lt b a ≡ t → (a ≤ b) ⊎ (b < a)
    by true h = inr (ltb-true b a h)
    by false h = inl (ltb-false b a h)

pub lt_to_pow : (x a b : ℕ) → x < 2 ^ a → a ≤ b → x < 2 ^ b
lt_to_pow x a b h le = let more = pow_mono le in omega (arith, h, more)

pub part_fits : (r x w : ℕ) → r ≡ x / 2 ^ 2 % 2 ^ 14 → w ≡ 14 → r < 2 ^ w
part_fits r x w h e = let few : r < 2 ^ 14 = omega (arith, h) in subst (λ k. r < 2 ^ k) (sym e) few

pub appended : {r low w x y : ℕ} (operand byte : ℕ) → byte < 2 ^ 8 → r ≡ low * 2 ^ w + y → low ≡ x / 2 ^ 0 % 2 ^ 24 → w ≡ 8 → x ≡ operand → y ≡ byte
    → r ≡ (operand * 2 ^ 8 + byte) % 2 ^ 32
appended {r} {low} {w} {x} {y} operand byte fits e l width p q =
    let whole : x / 2 ^ 0 ≡ x = omega arith in
    let is_low : low ≡ operand % 2 ^ 24 = l ∙ ap (λ n. n % 2 ^ 24) whole ∙ ap (λ n. n % 2 ^ 24) p in
    let sum : operand % 2 ^ 24 * 2 ^ 8 + byte ≡ (operand * 2 ^ 8 + byte) % 2 ^ 32 = omega (arith, fits) in
    e ∙ ap (λ k. low * 2 ^ k + y) width ∙ ap (λ n. n * 2 ^ 8 + y) is_low ∙ ap (λ n. operand % 2 ^ 24 * 2 ^ 8 + n) q ∙ sum

-- a difference of a number that isn't less, in so many bits
around : (p s size : ℕ) → s < p → size ≤ s → (s + (p - size)) % p ≡ s - size
around p s size small le =
    let over : s + (p - size) ≡ s - size + p = omega (arith, small, le) in
    ap (λ n. n % p) over ∙ add-mod_right (s - size) p ∙ mod-eq_of_lt (omega (arith, small))

pub ring_at : {r pl is straight out low word from sz w v : ℕ} (bits size base place : ℕ) → place < 2 ^ 16 → r ≡ pl / 2 ^ 0 % 2 ^ bits
    → pl ≡ (if is == 1 then straight else out) → is ≡ bit_of (nat_lt straight sz) → out ≡ (straight + (2 ^ v - sz)) % 2 ^ v
    → straight ≡ (from + low) % 2 ^ w → w ≡ bits + 1 → v ≡ bits + 1 → from ≡ base → low ≡ word % 2 ^ (bits + 1) → word ≡ place / 2 ^ 2 % 2 ^ 14
    → sz ≡ size → r ≡ ring_place bits size base place
ring_at {r} {pl} {is} {straight} {out} {low} {word} {from} {sz} {w} {v} bits size base place small e p i o s ew ev f l wd z =
    let number : word ≡ place / 4 = omega (arith, wd, small) in
    let sum : straight ≡ (base + place / 4) % 2 ^ (bits + 1) =
    s ∙ ap (λ k. (from + low) % 2 ^ k) ew ∙ ap (λ n. (n + low) % 2 ^ (bits + 1)) f ∙ ap (λ n. (base + n) % 2 ^ (bits + 1)) l
    ∙ add-mod-mod base word (2 ^ (bits + 1)) ∙ ap (λ n. (base + n) % 2 ^ (bits + 1)) number in
    let fits : straight < 2 ^ (bits + 1) = subst (λ n. n < 2 ^ (bits + 1)) (sym sum) (mod-lt (base + place / 4) (pow_pos (bits + 1))) in
    let whole : pl / 2 ^ 0 ≡ pl = omega arith in
    let less : is ≡ bit_of (nat_lt straight size) = i ∙ ap (λ n. bit_of (nat_lt straight n)) z in
    let back : out ≡ (straight + (2 ^ (bits + 1) - size)) % 2 ^ (bits + 1) =
    o ∙ ap (λ k. (straight + (2 ^ k - sz)) % 2 ^ k) ev ∙ ap (λ n. (straight + (2 ^ (bits + 1) - n)) % 2 ^ (bits + 1)) z in
    e ∙ ap (λ n. n % 2 ^ bits) whole
    ∙ ap (λ n. n % 2 ^ bits) (chosen (nat_lt straight size) p less refl back ∙ by fits (nat_lt straight size) refl)
    ∙ ap (λ n. (if nat_lt n size then n else n - size) % 2 ^ bits) sum
  where
    by : straight < 2 ^ (bits + 1) → (t : Bool) → nat_lt straight size ≡ t
        → (if t then straight else (straight + (2 ^ (bits + 1) - size)) % 2 ^ (bits + 1)) ≡ (if t then straight else straight - size)
    by fits true h = refl
    by fits false h = around (2 ^ (bits + 1)) straight size fits (ltb-false straight size h)
