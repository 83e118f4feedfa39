-- Places of rings, and what a load counts.
use Rattle.std.proofs.Common.{◌≡◌, ◌≢◌, ◌⊎◌, ℕ, ◌+◌, ◌-◌, ◌*◌, ◌/◌, ◌%◌, ◌^◌, ◌<◌, ◌≤◌, Bool, true, false, if◌then◌else◌, ◌∙◌, refl, sym, ap, subst, nat_lt, arith, ltb-true, inl, inr}
use Rattle.std.specs.Prelude.{◌==◌, ◌&&◌, not, Option, Some, None}
use Rattle.std.proofs.Math.Nat.{mod-add-mod, add-mod-mod, mod-eq_of_lt}
use Rattle.std.proofs.lemmas.Bool.{and_parts}
use Rattle.std.proofs.lemmas.Bool.Decides.{eqb_tells}
use Rattle.netlist.specs.Meaning.{bit_of}
use Rattle.circuit_cycles.specs.Tags.{behind}
use Rattle.circuit_cycles.specs.Core.{Core, fills}
use Rattle.machine_circuit.specs.Loading.{base_found, is_hit}
use Rattle.circuit_cycles.specs.Shape.{Shape}
use Rattle.circuit_core.proofs.Choosing.{chosen}

pub missing : (f : Option (ℕ × ℕ)) → not (is_hit f) ≡ elim f [ None ↦ true | Some _ ↦ false ]
missing None = refl
missing (Some x) = refl

-- the place of a method that was found, or else of a free block
pub place_found : (shape : Shape) (f : Option (ℕ × ℕ)) (free : ℕ)
    → (if is_hit f then base_found shape f else free) ≡ elim f [ None ↦ free | Some g ↦ g.0 * shape.block_words ]
place_found shape None free = refl
place_found shape (Some g) free = refl

-- a place is reduced once, whatever is added
pub word_behind : {r p w : ℕ} (a bits : ℕ) → r ≡ (p + 1) % 2 ^ w → w ≡ bits → p ≡ a / 2 ^ 0 % 2 ^ bits → r ≡ (a + 1) % 2 ^ bits
word_behind {r} {p} {w} a bits e width h =
    let whole : a / 2 ^ 0 ≡ a = omega arith in
    e ∙ ap (λ k. (p + 1) % 2 ^ k) width ∙ ap (λ x. (x + 1) % 2 ^ bits) h ∙ ap (λ x. (x % 2 ^ bits + 1) % 2 ^ bits) whole ∙ mod-add-mod a (2 ^ bits) 1

pub apart : (t : Bool) (a bits : ℕ) → (if t then a + 1 else a) % 2 ^ bits ≡ (if t then (a + 1) % 2 ^ bits else a % 2 ^ bits)
apart true a bits = refl
apart false a bits = refl

-- a place of a ring behind one
pub next_of : {r last next none : ℕ} (x places w : ℕ) → x < places → places ≤ 2 ^ w → r ≡ (if last == 1 then none else next)
    → last ≡ bit_of (x == places - 1) → next ≡ (x + 1) % 2 ^ w → none ≡ 0 → r ≡ behind places x
next_of x places w h few e l n z = chosen (x == places - 1) e l z n ∙ by (eqb_tells x (places - 1))
  where
    by : (((x == places - 1) ≡ true) × (x ≡ places - 1)) ⊎ (((x == places - 1) ≡ false) × (x ≢ places - 1))
        → (if x == places - 1 then 0 else (x + 1) % 2 ^ w) ≡ (if x == places - 1 then 0 else x + 1)
    by (inl same) =
        ap (λ (t : Bool). if t then 0 else (x + 1) % 2 ^ w) same.0 ∙ sym (ap (λ (t : Bool). if t then 0 else x + 1) same.0)
    by (inr other) =
        let apart : x ≢ places - 1 = other.1 in
        let less : x + 1 < 2 ^ w = omega (arith, h, few, apart) in
        let small : (x + 1) % 2 ^ w ≡ x + 1 = mod-eq_of_lt less in
        ap (λ (k : ℕ). if x == places - 1 then 0 else k) small

-- what is left to fill, behind the cycle
abbrev pub filled : Core → Bool
filled c = fills c && c.turn == 0

pub left_over : {r ends less x w : ℕ} (left : ℕ) (f t : Bool) → left < 2 ^ 16 → (f ≡ true → 0 < left) → r ≡ (if ends == 1 then less else x)
    → ends ≡ bit_of (f && t) → x ≡ left → less ≡ (x + (2 ^ w - 1)) % 2 ^ w → w ≡ 16 → r ≡ (if f && t then left - 1 else left)
left_over {r} {ends} {less} {x} {w} left f t small some e h p l width =
    chosen (f && t) e h (l ∙ ap (λ k. (x + (2 ^ k - 1)) % 2 ^ k) width ∙ ap (λ n. (n + (2 ^ 16 - 1)) % 2 ^ 16) p) p ∙ by f t some
  where
    by : (g u : Bool) → (g ≡ true → 0 < left) → (if g && u then (left + (2 ^ 16 - 1)) % 2 ^ 16 else left) ≡ (if g && u then left - 1 else left)
    by true true pos = let positive = pos refl in omega (arith, small, positive)
    by true false pos = refl
    by false u pos = refl

pub some_left : (c : Core) → fills c ≡ true → 0 < c.left
some_left c h = ltb-true 0 c.left (and_parts (c.header == 0) (nat_lt 0 c.left) h).1

-- the place of a method's code
pub code_at : {r record_place table twice w : ℕ} (place entries bits : ℕ) → r ≡ (record_place + table) % 2 ^ w → record_place ≡ (place + 4) % 2 ^ bits
    → table ≡ (entries + twice) % 2 ^ bits → twice ≡ (entries + entries) % 2 ^ bits → w ≡ bits → r ≡ (place + 4 + 3 * entries) % 2 ^ bits
code_at {r} {record_place} {table} {twice} {w} place entries bits e p t d width =
    let three : place + 4 + (entries + (entries + entries)) ≡ place + 4 + 3 * entries = omega arith in
    e ∙ ap (λ k. (record_place + table) % 2 ^ k) width ∙ ap (λ n. (n + table) % 2 ^ bits) p ∙ mod-add-mod (place + 4) (2 ^ bits) table
    ∙ ap (λ n. (place + 4 + n) % 2 ^ bits) (t ∙ ap (λ n. (entries + n) % 2 ^ bits) d ∙ add-mod-mod entries (entries + entries) (2 ^ bits))
    ∙ add-mod-mod (place + 4) (entries + (entries + entries)) (2 ^ bits) ∙ ap (λ n. n % 2 ^ bits) three

-- what is left of a turn, behind the cycle
pub turned : {r within less k x w : ℕ} (turn wait : ℕ) (f : Bool) → turn < 2 ^ 7 → r ≡ (if within == 1 then less else k)
    → within ≡ bit_of (f && nat_lt 0 turn) → x ≡ turn → less ≡ (x + (2 ^ w - 1)) % 2 ^ w → w ≡ 7 → k ≡ wait
    → r ≡ (if f && nat_lt 0 turn then turn - 1 else wait)
turned {r} {within} {less} {k} {x} {w} turn wait f small e h p l width z =
    chosen (f && nat_lt 0 turn) e h (l ∙ ap (λ m. (x + (2 ^ m - 1)) % 2 ^ m) width ∙ ap (λ n. (n + (2 ^ 7 - 1)) % 2 ^ 7) p) z
    ∙ by f (nat_lt 0 turn) refl
  where
    by : (g u : Bool) → nat_lt 0 turn ≡ u → (if g && u then (turn + (2 ^ 7 - 1)) % 2 ^ 7 else wait) ≡ (if g && u then turn - 1 else wait)
    by true true pos = let positive = ltb-true 0 turn pos in omega (arith, small, positive)
    by true false pos = refl
    by false u pos = refl

-- The number of entries counts as it is in so many bits.
pub entries_count : (place entries bits : ℕ) → (place + 4 + 3 * (entries % 2 ^ bits)) % 2 ^ bits ≡ (place + 4 + 3 * entries) % 2 ^ bits
entries_count place entries bits =
    let low = entries % 2 ^ bits in
    let spread : place + 4 + 3 * low ≡ place + 4 + low + low + low = omega arith in
    let first : place + 4 + low + low + entries ≡ place + 4 + low + entries + low = omega arith in
    let second : place + 4 + low + entries + entries ≡ place + 4 + entries + entries + low = omega arith in
    let all : place + 4 + entries + entries + entries ≡ place + 4 + 3 * entries = omega arith in
    ap (λ n. n % 2 ^ bits) spread ∙ add-mod-mod (place + 4 + low + low) entries (2 ^ bits) ∙ ap (λ n. n % 2 ^ bits) first
    ∙ add-mod-mod (place + 4 + low + entries) entries (2 ^ bits) ∙ ap (λ n. n % 2 ^ bits) second
    ∙ add-mod-mod (place + 4 + entries + entries) entries (2 ^ bits) ∙ ap (λ n. n % 2 ^ bits) all

-- a place that a word's turn moves, which is a ring's
pub moved_behind : {r place : ℕ} (p places w : ℕ) → place ≡ p → p < places → places ≤ 2 ^ w
    → (place < places → places ≤ 2 ^ w → r ≡ behind places place) → r ≡ behind places p
moved_behind {r} {place} p places w same h few by =
    by (subst (λ n. n < places) (sym same) h) few ∙ ap (λ n. behind places n) same

pub code_counted : {r p e w : ℕ} (place entries bits : ℕ) → r ≡ (p + 4 + 3 * e) % 2 ^ w → p ≡ place → e ≡ entries % 2 ^ bits → w ≡ bits
    → r ≡ (place + 4 + 3 * entries) % 2 ^ bits
code_counted {r} {p} {e} {w} place entries bits h hp he hw =
    h ∙ ap (λ x. (x + 4 + 3 * e) % 2 ^ w) hp ∙ ap (λ x. (place + 4 + 3 * x) % 2 ^ w) he ∙ ap (λ x. (place + 4 + 3 * (entries % 2 ^ bits)) % 2 ^ x) hw
    ∙ entries_count place entries bits

-- a place so far behind another one, in so many bits
pub counted : {r x w : ℕ} (n k bits : ℕ) → r ≡ (x + k) % 2 ^ w → w ≡ bits → x ≡ n → r ≡ (n + k) % 2 ^ bits
counted {r} {x} {w} n k bits e width p = e ∙ ap (λ v. (x + k) % 2 ^ v) width ∙ ap (λ m. (m + k) % 2 ^ bits) p
