-- On-chip words and bytes of the method that are read a clock ahead.
use Rattle.std.proofs.Common.{◌≡◌, ◌≢◌, ℕ, ◌+◌, ◌-◌, ◌*◌, ◌/◌, ◌%◌, ◌^◌, ◌<◌, ◌≤◌, Bool, true, false, List, [], length, Option, Some, unwrap_or, refl, sym, ap, subst, inl, inr, mod-eq_of_lt, ◌∙◌, arith}
use Rattle.std.specs.Prelude.{◌==◌, ◌&&◌, ◌||◌, nat_lt, if◌then◌else◌, slice_set, slice_index, slice_index_or}
use Rattle.std.proofs.Math.Nat.{add-mod_right, mul-le-mul_right, zero-div}
use Rattle.std.proofs.lemmas.Nat.{mod_below, pow-add}
use Rattle.std.proofs.lemmas.Bool.{cases_lt}
use Rattle.std.proofs.lemmas.List.{get_or_default, get_or-set_same, get_or-set_other, get_or_past, length-set}
use Rattle.base.specs.Packed.{byte_of}
use Rattle.microcode.specs.declared.isa.operation.Operation.{Operation}
use Rattle.microcode.specs.declared.isa.operation.Operation.TheVariants.{Ldl, Stl, Ldmi, Stmi, Ld1, St1, Ld2, St2, Ld3, St3}
use Rattle.method_cache.proofs.Held.{blocks_for-room}
use Rattle.method_cache.specs.Contents.{Entry, blocks_of, IsCache, AreApart, find_words, first_block}
use Rattle.jop_core.specs.State.{MachineState}
use Rattle.jop_core.specs.Cycle.{code_byte}
use Rattle.circuit_cycles.specs.Shape.{Shape}
use Rattle.circuit_cycles.specs.Words.{is_stm, is_ldm, is_ldi, operation_in, plain_place, place_of, takes_at_a, stvp, stsp, star}
use Rattle.circuit_cycles.specs.Tags.{bit_of}
use Rattle.circuit_cycles.specs.Core.{Core, Given, next, does, pushes, pops, writes, write_place, written, below, loaded, byte, byte_place, ring_place, read_at, load_place, next_sp, next_vp, next_ar, next_operand, next_word, next_a_taken, next_ring_place, fills_word}
use Rattle.circuit_cycles.specs.Methods.{IsRing}
use Rattle.circuit_cycles.specs.Stands.{HasCache}
use Rattle.circuit_cycles.specs.Ahead.{TakesAhead}
use Rattle.circuit_cycles.specs.Stands.{HasPlaces}
use Rattle.circuit_cycles.proofs.Rounds.{eqb_eq, eqb_ne}
use Rattle.circuit_cycles.proofs.Signals.{lt_is, ge_is}
use Rattle.circuit_cycles.proofs.Entries.{is_split, found_words}

-- a word that is read ahead, and passed on where it is written then, is that of the next clock
ahead : (w : Bool) (to from v unknown : ℕ) (xs : List ℕ) → (w ≡ true → to < length xs) → from < length xs
    → (if bit_of (w && to == from) == 1 then v else read_at w to from unknown xs) ≡ slice_index (if w then slice_set xs to v else xs) from
ahead false to from v unknown xs put low = get_or_default xs from unknown 0 low
ahead true to from v unknown xs put low = by (to == from) refl
  where
    by : (b : Bool) → (to == from) ≡ b → (if bit_of b == 1 then v else if b then unknown else slice_index_or xs from unknown) ≡ slice_index (slice_set xs to v) from
    by true e = let same : to ≡ from = eqb_eq to from e in sym (subst (λ k. slice_index (slice_set xs to v) k ≡ v) same (get_or-set_same xs to v 0 (put refl)))
    by false e = let other : to ≢ from = eqb_ne to from e in get_or_default xs from unknown 0 low ∙ sym (get_or-set_other xs to from v 0 (λ h. other (sym h)))

plain_below : (op : Operation) (n vp ar operand : ℕ) → vp < n → ar < n → plain_place op n vp ar operand < n
plain_below Ldl n vp ar operand v a = mod_below (vp + operand) n (omega (arith, v))
plain_below Stl n vp ar operand v a = mod_below (vp + operand) n (omega (arith, v))
plain_below Ldmi n vp ar operand v a = a
plain_below Stmi n vp ar operand v a = a
plain_below Ld1 n vp ar operand v a = mod_below (vp + 1) n (omega (arith, v))
plain_below St1 n vp ar operand v a = mod_below (vp + 1) n (omega (arith, v))
plain_below Ld2 n vp ar operand v a = mod_below (vp + 2) n (omega (arith, v))
plain_below St2 n vp ar operand v a = mod_below (vp + 2) n (omega (arith, v))
plain_below Ld3 n vp ar operand v a = mod_below (vp + 3) n (omega (arith, v))
plain_below St3 n vp ar operand v a = mod_below (vp + 3) n (omega (arith, v))
plain_below _ n vp ar operand v a = v

if_below : (b : Bool) (x y n : ℕ) → x < n → y < n → (if b then x else y) < n
if_below true x y n h k = h
if_below false x y n h k = k

pub place_below : (n word vp ar operand : ℕ) → 64 ≤ n → vp < n → ar < n → place_of n word vp ar operand < n
place_below n word vp ar operand some v a =
    let low = mod_below word (2 ^ 5) (omega arith) in
    if_below (is_ldi word) (32 + word % 2 ^ 5) (if is_stm word || is_ldm word then word % 2 ^ 5 else plain_place (operation_in word) n vp ar operand) n (omega (arith, some, low))
    (if_below (is_stm word || is_ldm word) (word % 2 ^ 5) (plain_place (operation_in word) n vp ar operand) n (omega (arith, some, low)) (plain_below (operation_in word) n vp ar operand v a))

module _ (shape : Shape) (given : Given) (c : Core) (h : HasPlaces shape.on_chip_words c) where
  some_places : 0 < shape.on_chip_words
  some_places = let s = h.some in omega (arith, s)

  pub sp_below : next_sp shape.on_chip_words c < shape.on_chip_words
  sp_below =
      let n = shape.on_chip_words in
      if_below (does stsp c) (c.a % n) (if pushes c then (c.sp + 1) % n else if pops c then (c.sp + (n - 1)) % n else c.sp) n (mod_below c.a n some_places)
      (if_below (pushes c) ((c.sp + 1) % n) (if pops c then (c.sp + (n - 1)) % n else c.sp) n (mod_below (c.sp + 1) n some_places)
      (if_below (pops c) ((c.sp + (n - 1)) % n) c.sp n (mod_below (c.sp + (n - 1)) n some_places) h.sp))

  load_below : load_place shape.on_chip_words c < shape.on_chip_words
  load_below =
      let n = shape.on_chip_words in
      place_below n (next_word c) (next_vp n c) (next_ar n c) (next_operand c) h.some
      (if_below (does stvp c) (c.a % n) c.vp n (mod_below c.a n some_places) h.vp)
      (if_below (does star c) (c.a % n) c.ar n (mod_below c.a n some_places) h.ar)

  write_below : write_place shape.on_chip_words c < shape.on_chip_words
  write_below =
      let n = shape.on_chip_words in
      if_below (pushes c) ((c.sp + 1) % n) (place_of n c.word c.vp c.ar c.operand) n (mod_below (c.sp + 1) n some_places)
      (place_below n c.word c.vp c.ar c.operand h.some h.vp h.ar)

  inside : (place : ℕ) → place < shape.on_chip_words → place < length c.on_chip
  inside place low = let long = h.length in omega (arith, low, long)

  pub below_ahead : below (next shape given c) ≡ slice_index (next shape given c).on_chip (next shape given c).sp
  unfolding next
  below_ahead =
      ahead (writes c) (write_place shape.on_chip_words c) (next_sp shape.on_chip_words c) (written c) given.below c.on_chip
      (λ _. inside (write_place shape.on_chip_words c) write_below) (inside (next_sp shape.on_chip_words c) sp_below)

  pub loaded_ahead : let d = next shape given c in loaded d ≡ slice_index d.on_chip (place_of shape.on_chip_words d.word d.vp d.ar d.operand)
  unfolding next
  loaded_ahead =
      ahead (writes c) (write_place shape.on_chip_words c) (load_place shape.on_chip_words c) (written c) given.loaded c.on_chip
      (λ _. inside (write_place shape.on_chip_words c) write_below) (inside (load_place shape.on_chip_words c) load_below)

  on_chip_length : (b : Bool) → length (if b then slice_set c.on_chip (write_place shape.on_chip_words c) (written c) else c.on_chip) ≡ length c.on_chip
  on_chip_length true = length-set c.on_chip (write_place shape.on_chip_words c) (written c)
  on_chip_length false = refl

  pub places_stay : HasPlaces shape.on_chip_words (next shape given c)
  unfolding next
  places_stay =
      let n = shape.on_chip_words in
      record {
        some = h.some;
        sp = sp_below;
        vp = if_below (does stvp c) (c.a % n) c.vp n (mod_below c.a n some_places) h.vp;
        ar = if_below (does star c) (c.a % n) c.ar n (mod_below c.a n some_places) h.ar;
        length = on_chip_length (writes c) ∙ h.length;
      }

-- ---- bytes

no_byte : (k : ℕ) → byte_of 0 k ≡ 0
no_byte k = ap (λ q. q % 2 ^ 8) (zero-div (2 ^ (8 * (3 - k))))

-- where word i of a method lies
around : (size base i : ℕ) → base < size → i < size → (if nat_lt (base + i) size then base + i else base + i - size) ≡ (base + i) % size
around size base i b low = elim (cases_lt (base + i) size) [
  | inl inside ↦ ap (λ t. if t then base + i else base + i - size) (lt_is (base + i) size inside) ∙ sym (mod-eq_of_lt inside)
  | inr outside ↦
      ap (λ t. if t then base + i else base + i - size) (ge_is (base + i) size outside)
      ∙ sym (ap (λ k. k % size) (let e : base + i ≡ (base + i - size) + size = omega (arith, outside) in e) ∙ add-mod_right (base + i - size) size ∙ mod-eq_of_lt (let e : base + i - size < size = omega (arith, b, low, outside) in e))
]

-- and in the bits of its place
in_bits : (bits size base i : ℕ) → size ≤ 2 ^ bits → base < size → i < size
    → (if nat_lt ((base + i) % 2 ^ (bits + 1)) size then (base + i) % 2 ^ (bits + 1) else (base + i) % 2 ^ (bits + 1) - size) % 2 ^ bits ≡ (base + i) % size
in_bits bits size base i fits b low =
    let double : 2 ^ (bits + 1) ≡ 2 ^ bits * 2 = pow-add 2 bits 1 in
    let rest = mod_below (base + i) size (omega (arith, b)) in
    ap (λ k. (if nat_lt k size then k else k - size) % 2 ^ bits) (mod-eq_of_lt (let e : base + i < 2 ^ (bits + 1) = omega (arith, double, fits, b, low) in e))
    ∙ ap (λ k. k % 2 ^ bits) (around size base i b low)
    ∙ mod-eq_of_lt (let e : (base + i) % size < 2 ^ bits = omega (arith, rest, fits) in e)

module _ (shape : Shape) (given : Given) (c : Core) (s : MachineState) (quiet : fills_word shape c ≡ false) (is : IsRing shape (next shape given c).ring (next shape given c).tags s.cache) (valid : IsCache s.cache) (has : HasCache shape (next shape given c) s) (few : (next shape given c).header < 4) (takes : TakesAhead c (next shape given c)) where
  some_words : 0 < s.cache.block_words
  some_words = let given' = is.some_words in let same = is.block_words in omega (arith, given', same)

  -- the place is known ahead
  place_ahead : byte_place (next shape given c).word (next_a_taken c) (next shape given c).jpc ≡ byte_place (next shape given c).word (next shape given c).a (next shape given c).jpc
  place_ahead = by (takes_at_a (next shape given c).word) refl
    where
      by : (b : Bool) → takes_at_a (next shape given c).word ≡ b
          → (if takes_at_a (next shape given c).word then next_a_taken c % 2 ^ 16 else (next shape given c).jpc) ≡ (if takes_at_a (next shape given c).word then (next shape given c).a % 2 ^ 16 else (next shape given c).jpc)
      by true e = ap (λ x. if takes_at_a (next shape given c).word then x else (next shape given c).jpc) (takes e)
      by false e = ap (λ b. if b then next_a_taken c % 2 ^ 16 else (next shape given c).jpc) e ∙ sym (ap (λ b. if b then (next shape given c).a % 2 ^ 16 else (next shape given c).jpc) e)

  ring_out : (next shape given c).ring_out ≡ slice_index_or c.ring (ring_place shape.ring_bits shape.ring_words (next shape given c).base (byte_place (next shape given c).word (next_a_taken c) (next shape given c).jpc)) given.ring
  unfolding next
  ring_out = ap (λ b. if b && c.target == next_ring_place shape c then given.ring else slice_index_or c.ring (next_ring_place shape c) given.ring) quiet

  same_ring : (next shape given c).ring ≡ c.ring
  unfolding next
  same_ring = ap (λ b. if b then slice_set c.ring c.target c.main_out else c.ring) quiet

  record IsPlace : Type 0 where
    long : length has.method.words ≤ shape.ring_words
    base : first_block has.newer has.method s.cache * shape.block_words < shape.ring_words

  is_place : IsPlace
  is_place =
      let part = is_split s.cache has.newer has.method has.older valid some_words has.current.split in
      let w = shape.block_words in
      let blocks = is.blocks in
      let room : length has.method.words ≤ blocks_of s.cache.block_words has.method * w =
      subst (λ v. length has.method.words ≤ blocks_of s.cache.block_words has.method * v) is.block_words (blocks_for-room s.cache.block_words (length has.method.words) some_words) in
      let within = part.within in
      let product = mul-le-mul_right {m = blocks_of s.cache.block_words has.method} {n = shape.blocks} w (omega (arith, within, blocks)) in
      let first = first_block has.newer has.method s.cache in
      let low = part.block in
      let product' = mul-le-mul_right {m = first + 1} {n = shape.blocks} w (omega (arith, low, blocks)) in
      let sum : (first + 1) * w ≡ first * w + w = omega arith in
      let size = is.ring_words in
      let some = is.some_words in
      record { long = omega (arith, room, product, size); base = omega (arith, product', sum, size, some) }

  -- the place of a word of the method
  abbrev spot : ℕ → ℕ
  spot i =
      let straight = ((next shape given c).base + i) % 2 ^ (shape.ring_bits + 1) in
      (if nat_lt straight shape.ring_words then straight else straight - shape.ring_words) % 2 ^ shape.ring_bits

  spot_is : (i : ℕ) → i < length has.method.words → spot i ≡ ((next shape given c).base + i) % shape.ring_words
  spot_is i low =
      let p = is_place in
      let long = p.long in
      let b = p.base in
      let at = has.current.base in
      in_bits shape.ring_bits shape.ring_words (next shape given c).base i is.places (omega (arith, at, b)) (omega (arith, low, long))

  here : (i : ℕ) → i < length has.method.words → spot i < shape.ring_words
  here i low =
      let p = is_place in
      let long = p.long in
      subst (λ k. k < shape.ring_words) (sym (spot_is i low)) (mod_below ((next shape given c).base + i) shape.ring_words (omega (arith, low, long)))

  word_ahead : (place : ℕ) → place / 4 < length has.method.words → byte_place (next shape given c).word (next shape given c).a (next shape given c).jpc ≡ place
      → (next shape given c).ring_out ≡ slice_index has.method.words (place / 4)
  word_ahead place low at =
      let i = place / 4 in
      let d = next shape given c in
      let p = is_place in
      let long = p.long in
      let b = p.base in
      let base = has.current.base in
      let size = is.ring_length in
      let inside : spot i < length c.ring = subst (λ (xs : List ℕ). spot i < length xs) same_ring (let low' = here i low in omega (arith, low', size)) in
      ring_out
      ∙ ap (λ k. slice_index_or c.ring (ring_place shape.ring_bits shape.ring_words (next shape given c).base k) given.ring) (place_ahead ∙ at)
      ∙ get_or_default c.ring (spot i) given.ring 0 inside
      ∙ ap (λ k. slice_index c.ring k) (spot_is i low)
      ∙ ap (λ k. slice_index c.ring ((k + i) % shape.ring_words)) base
      ∙ ap (λ (xs : List ℕ). slice_index xs ((first_block has.newer has.method s.cache * shape.block_words + i) % shape.ring_words)) (sym same_ring)
      ∙ (has.methods.all has.newer has.method has.older has.current.split).words i low

  own_words : find_words s.method s.cache.contents ≡ Some has.method.words
  own_words =
      let cur = has.current in
      ap (λ m. find_words m s.cache.contents) (sym cur.method)
      ∙ ap (λ (es : List Entry). find_words has.method.method es) cur.split
      ∙ found_words has.newer has.method has.older (subst AreApart cur.split valid.apart)

  -- the byte that the next word takes
  pub byte_ahead : byte (next shape given c) ≡ code_byte s (byte_place (next shape given c).word (next shape given c).a (next shape given c).jpc)
  byte_ahead = by (byte_place (next shape given c).word (next shape given c).a (next shape given c).jpc) refl
    where
      by : (place : ℕ) → byte_place (next shape given c).word (next shape given c).a (next shape given c).jpc ≡ place
          → (if nat_lt (byte_place (next shape given c).word (next shape given c).a (next shape given c).jpc / 4) (next shape given c).words then byte_of (next shape given c).ring_out (byte_place (next shape given c).word (next shape given c).a (next shape given c).jpc % 4) else 0)
          ≡ code_byte s (byte_place (next shape given c).word (next shape given c).a (next shape given c).jpc)
      by place at =
          let d = next shape given c in
          let left : (if nat_lt (byte_place (next shape given c).word (next shape given c).a (next shape given c).jpc / 4) (next shape given c).words then byte_of (next shape given c).ring_out (byte_place (next shape given c).word (next shape given c).a (next shape given c).jpc % 4) else 0)
          ≡ (if nat_lt (place / 4) (length has.method.words) then byte_of (next shape given c).ring_out (place % 4) else 0) =
          ap (λ k. if nat_lt (k / 4) (next shape given c).words then byte_of (next shape given c).ring_out (k % 4) else 0) at
          ∙ ap (λ w. if nat_lt (place / 4) w then byte_of (next shape given c).ring_out (place % 4) else 0) (has.current.words few) in
          let right : code_byte s (byte_place (next shape given c).word (next shape given c).a (next shape given c).jpc) ≡ byte_of (slice_index has.method.words (place / 4)) (place % 4) =
          ap (code_byte s) at ∙ ap (λ (o : Option (List ℕ)). byte_of (slice_index (unwrap_or o []) (place / 4)) (place % 4)) own_words in
          left ∙ elim (cases_lt (place / 4) (length has.method.words)) [
            | inl low ↦ ap (λ b. if b then byte_of (next shape given c).ring_out (place % 4) else 0) (lt_is (place / 4) (length has.method.words) low) ∙ ap (λ w. byte_of w (place % 4)) (word_ahead place low at)
            | inr past ↦
                ap (λ b. if b then byte_of (next shape given c).ring_out (place % 4) else 0) (ge_is (place / 4) (length has.method.words) past)
                ∙ sym (ap (λ w. byte_of w (place % 4)) (get_or_past has.method.words (place / 4) 0 past) ∙ no_byte (place % 4))
          ] ∙ sym right
