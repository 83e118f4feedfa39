-- The words of registers and memories fit them behind each clock.
use Rattle.std.proofs.Common.{◌≡◌, ℕ, suc, ◌+◌, ◌-◌, ◌*◌, ◌/◌, ◌%◌, ◌^◌, ◌<◌, ◌≤◌, Bool, true, false, List, [], ◌∷◌, length, All, Option, Some, None, sym, subst, inl, inr, ◌∙◌, arith}
use Rattle.std.specs.Prelude.{◌==◌, ◌&&◌, ◌||◌, nat_lt, if◌then◌else◌, slice_set, slice_index, slice_index_or}
use Rattle.std.specs.Int.Bits.{and_lt, or_lt, xor_lt}
use Rattle.std.proofs.Math.Nat.{mul-le-mul_right, div-le_self}
use Rattle.std.proofs.lemmas.Nat.{mod_below}
use Rattle.std.proofs.lemmas.Bool.{cases_eq, cases_lt, eq-eqb, ne_eqb}
use Rattle.std.proofs.lemmas.List.{length-set, get_or_past}
use Rattle.std.proofs.lemmas.List.Elements.{All-set}
use Rattle.base.specs.Packed.{byte_of}
use Rattle.base.specs.Signed.{sign_extended8, sign_extended16, shifted_right, is_negative, number_of, signed_lt, holds}
use Rattle.microcode.specs.declared.TheConstants.{WORDS}
use Rattle.microcode.specs.declared.isa.operation.Operation.{Operation}
use Rattle.microcode.specs.declared.isa.operation.Operation.TheVariants.{Dup, Add, Sub, And, Or, Xor, Shl, Shr, Ushr, Mul, Slt, Sltu, Ldo, Ldo8, Ldo16, Ldvp, Ldsp, Ldjpc, Ldmrd, Ldin}
use Rattle.jop_core.specs.Operations.{combined}
use Rattle.circuit_cycles.specs.Shape.{Shape}
use Rattle.circuit_cycles.specs.Words.{is, has_opd, has_nxt, is_plain, is_binary, operation_in, stvp, stsp, stjpc, star, stmra, stmwa, stmwd, jbr, jbg, hltb, hltu}
use Rattle.circuit_cycles.specs.Tags.{BlockTag, find_tag, bit_of, behind}
use Rattle.circuit_cycles.specs.Core.{Core, Given, next, goes, runs, does, pushes, pops, dispatches, writes, is_taken, pushed, pushed_plain, top, below, loaded, byte, byte_place, target, moved, entry_of, write_place, written, load_place, next_sp, read_at, found, switches, misses, has_words, has_entries, fills, fills_word, takes_block, tag_taken, next_ring_place, main_place, main_writes, rom_place}
use Rattle.circuit_cycles.specs.Fits.{IsWord, IsShape, TagFits, InputFits, GivenFits, MachineFits, AheadFits, MethodFits, MemoriesFit, Fits, FitsStay}
use Rattle.circuit_cycles.proofs.Rows.{row}
use Rattle.circuit_cycles.proofs.Addresses.{entry_low}

-- ---- choices, lists and bits

if_lt : (b : Bool) (x y n : ℕ) → x < n → y < n → (if b then x else y) < n
if_lt true x y n h k = h
if_lt false x y n h k = k

if_le : (b : Bool) (x y n : ℕ) → x ≤ n → y ≤ n → (if b then x else y) ≤ n
if_le true x y n h k = h
if_le false x y n h k = k

bit_lt : (b : Bool) → bit_of b < 2
bit_lt true = omega arith
bit_lt false = omega arith

-- a word of a list, or the one that stands for those beyond it
pub word_lt : (words : List ℕ) (i d n : ℕ) → All (λ w. w < n) words → d < n → slice_index_or words i d < n
word_lt words i d n h k = elim (cases_lt i (length words)) [
  | inl low ↦ h i d low
  | inr past ↦ subst (λ w. w < n) (sym (get_or_past words i d past)) k
]

read_lt : (when : Bool) (to from unknown : ℕ) (words : List ℕ) → All IsWord words → IsWord unknown → IsWord (read_at when to from unknown words)
read_lt when to from unknown words h k = if_lt (when && to == from) unknown (slice_index_or words from unknown) (2 ^ 32) k (word_lt words from unknown (2 ^ 32) h k)

set_all : (when : Bool) (words : List ℕ) (i v : ℕ) → All IsWord words → IsWord v → All IsWord (if when then slice_set words i v else words)
set_all true words i v h k = All-set IsWord words i v k h
set_all false words i v h k = h

behind_lt : (places place : ℕ) → place < places → behind places place < places
behind_lt places place low = elim (cases_eq place (places - 1)) [
  | inl last ↦ subst (λ b. (if b then 0 else place + 1) < places) (sym (eq-eqb place (places - 1) last)) (omega (arith, low))
  | inr other ↦ subst (λ b. (if b then 0 else place + 1) < places) (sym (ne_eqb place (places - 1) other)) (omega (arith, low, other))
]

-- ---- what operations give

half_lt : (x k : ℕ) → IsWord x → x / 2 ^ k < 2 ^ 32
half_lt x k h = let less = div-le_self x (2 ^ k) in omega (arith, h, less)

shifted_lt : (x k : ℕ) → IsWord x → IsWord (shifted_right x k)
shifted_lt x k h = if_lt (is_negative x) (2 ^ 32 - 1 - (2 ^ 32 - 1 - x) / 2 ^ k) (x / 2 ^ k) (2 ^ 32) (omega arith) (half_lt x k h)

number_lt : (b : Bool) → IsWord (number_of b)
number_lt true = omega arith
number_lt false = omega arith

combined_lt : (op : Operation) (b a : ℕ) → IsWord b → IsWord a → IsWord (combined op b a)
combined_lt Add b a h k = mod_below (b + a) (2 ^ 32) (omega arith)
combined_lt Sub b a h k = mod_below (b + (2 ^ 32 - a)) (2 ^ 32) (omega arith)
combined_lt And b a h k = and_lt 32 b a h k
combined_lt Or b a h k = or_lt 32 b a h k
combined_lt Xor b a h k = xor_lt 32 b a h k
combined_lt Shl b a h k = mod_below (b * 2 ^ (a % 32)) (2 ^ 32) (omega arith)
combined_lt Shr b a h k = shifted_lt b (a % 32) h
combined_lt Ushr b a h k = half_lt b (a % 32) h
combined_lt Mul b a h k = mod_below (b * a) (2 ^ 32) (omega arith)
combined_lt Slt b a h k = number_lt (signed_lt b a)
combined_lt Sltu b a h k = number_lt (nat_lt b a)
combined_lt _ b a h k = h

extended8_lt : (x : ℕ) → IsWord (sign_extended8 x)
extended8_lt x = let low = mod_below x (2 ^ 8) (omega arith) in if_lt (nat_lt (x % 2 ^ 8) (2 ^ 7)) (x % 2 ^ 8) (x % 2 ^ 8 + (2 ^ 32 - 2 ^ 8)) (2 ^ 32) (omega (arith, low)) (omega (arith, low))

extended16_lt : (x : ℕ) → IsWord (sign_extended16 x)
extended16_lt x = let low = mod_below x (2 ^ 16) (omega arith) in if_lt (nat_lt (x % 2 ^ 16) (2 ^ 15)) (x % 2 ^ 16) (x % 2 ^ 16 + (2 ^ 32 - 2 ^ 16)) (2 ^ 32) (omega (arith, low)) (omega (arith, low))

pub rom_lt : (i : ℕ) → slice_index WORDS i < 2 ^ 16
rom_lt i = (row i).low

-- ---- what a look-up finds

record IsFound (shape : Shape) (from : ℕ) (tags : List BlockTag) (f : ℕ × ℕ) : Type 0 where
  block : f.0 < from + length tags
  words : f.1 < 2 ^ 16

abbrev FoundFits : (shape : Shape) (from : ℕ) (tags : List BlockTag) → Option (ℕ × ℕ) → Type 0
FoundFits shape from tags None = Unit {0}
FoundFits shape from tags (Some f) = IsFound shape from tags f

further : (shape : Shape) (from : ℕ) (t : BlockTag) (tags : List BlockTag) (o : Option (ℕ × ℕ)) → FoundFits shape (from + 1) tags o → FoundFits shape from (t ∷ tags) o
further shape from t tags None h = tt
further shape from t tags (Some f) h = let low = h.block in record { block = omega (arith, low); words = h.words }

find_fits : (shape : Shape) (from m : ℕ) (tags : List BlockTag) → All (TagFits shape) tags → FoundFits shape from tags (find_tag from m tags)
find_fits shape from m [] h = tt
find_fits shape from m (t ∷ tags) h =
    by (t.begins == 1 && t.method == m) (h 0 t (omega arith))
    (further shape from t tags (find_tag (from + 1) m tags) (find_fits shape (from + 1) m tags (λ k d low. h (suc k) d (omega (arith, low)))))
  where
    by : (b : Bool) → TagFits shape t → FoundFits shape from (t ∷ tags) (find_tag (from + 1) m tags) → FoundFits shape from (t ∷ tags) (if b then Some (from, t.words) else find_tag (from + 1) m tags)
    by true own k = record { block = omega arith; words = own.words }
    by false own k = k

module _ (shape : Shape) (given : Given) (c : Core) (is : IsShape shape) (g : GivenFits given) (h : Fits shape c) where
  loaded_lt : IsWord (loaded c)
  loaded_lt = if_lt (c.place_passed == 1) c.passed c.loaded_out (2 ^ 32) h.ahead.passed h.memories.loaded_out

  below_lt : IsWord (below c)
  below_lt = if_lt (c.below_passed == 1) c.passed c.below_out (2 ^ 32) h.ahead.passed h.memories.below_out

  plain_lt : (op : Operation) (input : Option ℕ) → InputFits input → IsWord (pushed_plain op input c)
  plain_lt Dup input ok = h.machine.a
  plain_lt Ldo input ok = h.machine.operand
  plain_lt Ldo8 input ok = extended8_lt c.operand
  plain_lt Ldo16 input ok = extended16_lt c.operand
  plain_lt Ldvp input ok = let low = h.machine.vp in let few = is.few_on_chip in omega (arith, low, few)
  plain_lt Ldsp input ok = let low = h.machine.sp in let few = is.few_on_chip in omega (arith, low, few)
  plain_lt Ldjpc input ok = let low = h.machine.jpc in omega (arith, low)
  plain_lt Ldmrd input ok = h.ahead.value
  plain_lt Ldin None ok = omega arith
  plain_lt Ldin (Some byte) ok = omega (arith, ok)
  plain_lt _ input ok = loaded_lt

  pushed_lt : IsWord (pushed given.input c)
  pushed_lt = if_lt (is_plain c.word) (pushed_plain (operation_in c.word) given.input c) (loaded c) (2 ^ 32) (plain_lt (operation_in c.word) given.input g.input) loaded_lt

  top_lt : IsWord (top c)
  top_lt =
      if_lt (is_plain c.word && is_binary (operation_in c.word)) (combined (operation_in c.word) c.b c.a) c.b (2 ^ 32)
      (combined_lt (operation_in c.word) c.b c.a h.machine.b h.machine.a) h.machine.b

  written_lt : IsWord (written c)
  written_lt = if_lt (pushes c) c.b c.a (2 ^ 32) h.machine.b h.machine.a

  byte_lt : byte c < 2 ^ 8
  byte_lt =
      let place = byte_place c.word c.a c.jpc in
      if_lt (nat_lt (place / 4) c.words) (byte_of c.ring_out (place % 4)) 0 (2 ^ 8) (mod_below (c.ring_out / 2 ^ (8 * (3 - place % 4))) (2 ^ 8) (omega arith)) (omega arith)

  moved_lt : moved c < 2 ^ 16
  moved_lt =
      if_lt (does jbg c || does jbr c && holds c.opcode c.b c.a) (target c) (if does stjpc c then c.a % 2 ^ 16 else c.jpc) (2 ^ 16) (mod_below (c.jpc + (2 ^ 16 - 3) + c.operand % 2 ^ 16) (2 ^ 16) (omega arith))
      (if_lt (does stjpc c) (c.a % 2 ^ 16) c.jpc (2 ^ 16) (mod_below c.a (2 ^ 16) (omega arith)) h.machine.jpc)

  some_places : 0 < shape.on_chip_words
  some_places = let least = is.on_chip in omega (arith, least)

  machine : MachineFits shape (next shape given c)
  unfolding next
  machine =
      let n = shape.on_chip_words in
      let m = h.machine in
      record {
        a = if_lt (pushes c) (pushed given.input c) (if pops c then top c else c.a) (2 ^ 32) pushed_lt (if_lt (pops c) (top c) c.a (2 ^ 32) top_lt m.a);
        b = if_lt (pushes c) c.a (if pops c then below c else c.b) (2 ^ 32) m.a (if_lt (pops c) (below c) c.b (2 ^ 32) below_lt m.b);
        sp =
            if_lt (does stsp c) (c.a % n) (if pushes c then (c.sp + 1) % n else if pops c then (c.sp + (n - 1)) % n else c.sp) n (mod_below c.a n some_places)
            (if_lt (pushes c) ((c.sp + 1) % n) (if pops c then (c.sp + (n - 1)) % n else c.sp) n (mod_below (c.sp + 1) n some_places)
            (if_lt (pops c) ((c.sp + (n - 1)) % n) c.sp n (mod_below (c.sp + (n - 1)) n some_places) m.sp));
        vp = if_lt (does stvp c) (c.a % n) c.vp n (mod_below c.a n some_places) m.vp;
        ar = if_lt (does star c) (c.a % n) c.ar n (mod_below c.a n some_places) m.ar;
        jpc = if_lt (runs c && (has_opd c.word || has_nxt c.word)) ((moved c + 1) % 2 ^ 16) (moved c) (2 ^ 16) (mod_below (moved c + 1) (2 ^ 16) (omega arith)) moved_lt;
        mpc =
            if_lt (is_taken c) (c.word % 2 ^ 11) (if dispatches c then entry_of (byte c) else if runs c then (c.mpc + 1) % 2048 else c.mpc) (2 ^ 11) (mod_below c.word (2 ^ 11) (omega arith))
            (if_lt (dispatches c) (entry_of (byte c)) (if runs c then (c.mpc + 1) % 2048 else c.mpc) (2 ^ 11) (entry_low (byte c))
            (if_lt (runs c) ((c.mpc + 1) % 2048) c.mpc (2 ^ 11) (mod_below (c.mpc + 1) 2048 (omega arith)) m.mpc));
        operand =
            if_lt (dispatches c) 0 (if runs c && has_opd c.word then (c.operand * 2 ^ 8 + byte c) % 2 ^ 32 else c.operand) (2 ^ 32) (omega arith)
            (if_lt (runs c && has_opd c.word) ((c.operand * 2 ^ 8 + byte c) % 2 ^ 32) c.operand (2 ^ 32) (mod_below (c.operand * 2 ^ 8 + byte c) (2 ^ 32) (omega arith)) m.operand);
        opcode = if_lt (dispatches c) (byte c) c.opcode (2 ^ 8) byte_lt m.opcode;
        halt = if_lt (does hltu c && c.vp == 64) 2 (if does hltb c && c.vp == 64 then 1 else c.halt) (2 ^ 2) (omega arith) (if_lt (does hltb c && c.vp == 64) 1 c.halt (2 ^ 2) (omega arith) m.halt);
      }

  ahead : AheadFits (next shape given c)
  unfolding next
  ahead =
      let p = h.ahead in
      let read = is.read in
      let write = is.write in
      let count = p.count in
      let refill = p.refill in
      record {
        word =
            if_lt (dispatches c) (slice_index WORDS (entry_of (byte c))) (if runs c || c.refill == 2 then c.rom_out else c.word) (2 ^ 16) (rom_lt (entry_of (byte c)))
            (if_lt (runs c || c.refill == 2) c.rom_out c.word (2 ^ 16) h.memories.rom_out p.word);
        refill = if_le (is_taken c) 2 (c.refill - 1) 2 (omega arith) (omega (arith, refill));
        starting = omega arith;
        below_passed = bit_lt (writes c && write_place shape.on_chip_words c == next_sp shape.on_chip_words c);
        place_passed = bit_lt (writes c && write_place shape.on_chip_words c == load_place shape.on_chip_words c);
        passed = written_lt;
        count =
            if_le (does stmra c) (shape.read_wait + 1) (if does stmwd c then shape.write_wait + 1 else if goes c then c.count - 1 else c.count) 64 (omega (arith, read))
            (if_le (does stmwd c) (shape.write_wait + 1) (if goes c then c.count - 1 else c.count) 64 (omega (arith, write))
            (if_le (goes c) (c.count - 1) c.count 64 (omega (arith, count)) count));
        value =
            if_lt (c.reading == 1) (if c.within == 1 then c.main_out else 0) c.value (2 ^ 32)
            (if_lt (c.within == 1) c.main_out 0 (2 ^ 32) h.memories.main_out (omega arith)) p.value;
        reading = bit_lt (does stmra c);
        within = bit_lt (nat_lt c.a shape.memory_words);
        write_address = if_lt (does stmwa c) c.a c.write_address (2 ^ 32) h.machine.a p.write_address;
      }

  -- ---- the method cache

  block_lt : (k : ℕ) → k < shape.blocks → k * shape.block_words < shape.ring_words
  block_lt k low =
      let product = mul-le-mul_right {m = k + 1} {n = shape.blocks} shape.block_words (omega (arith, low)) in
      let sum : (k + 1) * shape.block_words ≡ k * shape.block_words + shape.block_words = omega arith in
      let some = is.block_words in
      let size = is.ring_words in
      omega (arith, product, sum, some, size)

  free_lt : c.next_block * shape.block_words < shape.ring_words
  free_lt = block_lt c.next_block h.method.next_block

  found_fits : FoundFits shape 0 c.tags (found c)
  found_fits = find_fits shape 0 c.a c.tags h.method.tags

  base_lt : (o : Option (ℕ × ℕ)) → FoundFits shape 0 c.tags o → elim o [ None ↦ c.next_block * shape.block_words | Some f ↦ f.0 * shape.block_words ] < shape.ring_words
  base_lt None k = free_lt
  base_lt (Some f) k = let low = k.block in let long = h.method.tags_length in block_lt f.0 (omega (arith, low, long))

  words_lt : (o : Option (ℕ × ℕ)) → FoundFits shape 0 c.tags o → elim o [ None ↦ 0 | Some f ↦ f.1 ] < 2 ^ 16
  words_lt None k = omega arith
  words_lt (Some f) k = k.words

  low_lt : (x : ℕ) → x % 2 ^ shape.memory_bits < 2 ^ shape.memory_bits
  low_lt x = let place = h.method.place in mod_below x (2 ^ shape.memory_bits) (omega (arith, place))

  tag_fits : TagFits shape (tag_taken c)
  tag_fits = record { begins = bit_lt (c.left == c.words); method = h.method.place; words = h.method.words }

  tags_fit : (b : Bool) → All (TagFits shape) (if b then slice_set c.tags c.next_block (tag_taken c) else c.tags)
  tags_fit true = All-set (TagFits shape) c.tags c.next_block (tag_taken c) tag_fits h.method.tags
  tags_fit false = h.method.tags

  tags_long : (b : Bool) → length (if b then slice_set c.tags c.next_block (tag_taken c) else c.tags) ≡ shape.blocks
  tags_long true = length-set c.tags c.next_block (tag_taken c) ∙ h.method.tags_length
  tags_long false = h.method.tags_length

  method : MethodFits shape (next shape given c)
  unfolding next
  method =
      let p = h.method in
      let bits = 2 ^ shape.memory_bits in
      let left = p.left in
      let turn = p.turn in
      let header = p.header in
      let read = is.read in
      record {
        place = if_lt (switches c) (c.a % 2 ^ shape.memory_bits) c.place (2 ^ shape.memory_bits) (low_lt c.a) p.place;
        base = if_lt (switches c) (elim (found c) [ None ↦ c.next_block * shape.block_words | Some f ↦ f.0 * shape.block_words ]) c.base shape.ring_words (base_lt (found c) found_fits) p.base;
        words =
            if_lt (switches c) (elim (found c) [ None ↦ 0 | Some f ↦ f.1 ]) (if has_words c then c.main_out % 2 ^ 16 else c.words) (2 ^ 16) (words_lt (found c) found_fits)
            (if_lt (has_words c) (c.main_out % 2 ^ 16) c.words (2 ^ 16) (mod_below c.main_out (2 ^ 16) (omega arith)) p.words);
        header = if_le (misses c) 4 (c.header - 1) 4 (omega arith) (omega (arith, header));
        left =
            if_lt (has_words c) (c.main_out % 2 ^ 16) (if fills c && c.turn == 0 then c.left - 1 else c.left) (2 ^ 16) (mod_below c.main_out (2 ^ 16) (omega arith))
            (if_lt (fills c && c.turn == 0) (c.left - 1) c.left (2 ^ 16) (omega (arith, left)) left);
        turn = if_le (fills c && nat_lt 0 c.turn) (c.turn - 1) (shape.read_wait + 1) 64 (omega (arith, turn)) (omega (arith, read));
        source =
            if_lt (has_entries c) ((c.place + 4 + 3 * c.main_out) % 2 ^ shape.memory_bits) (if fills_word shape c then (c.source + 1) % 2 ^ shape.memory_bits else c.source) (2 ^ shape.memory_bits) (low_lt (c.place + 4 + 3 * c.main_out))
            (if_lt (fills_word shape c) ((c.source + 1) % 2 ^ shape.memory_bits) c.source (2 ^ shape.memory_bits) (low_lt (c.source + 1)) p.source);
        target =
            if_lt (misses c) (c.next_block * shape.block_words) (if fills_word shape c then behind shape.ring_words c.target else c.target) shape.ring_words free_lt
            (if_lt (fills_word shape c) (behind shape.ring_words c.target) c.target shape.ring_words (behind_lt shape.ring_words c.target p.target) p.target);
        in_block =
            if_lt (misses c) 0 (if fills_word shape c then behind shape.block_words c.in_block else c.in_block) shape.block_words is.block_words
            (if_lt (fills_word shape c) (behind shape.block_words c.in_block) c.in_block shape.block_words (behind_lt shape.block_words c.in_block p.in_block) p.in_block);
        next_block = if_lt (takes_block shape c) (behind shape.blocks c.next_block) c.next_block shape.blocks (behind_lt shape.blocks c.next_block p.next_block) p.next_block;
        tags = tags_fit (takes_block shape c);
        tags_length = tags_long (takes_block shape c);
      }

  memories : MemoriesFit (next shape given c)
  unfolding next
  memories =
      let p = h.memories in
      let n = shape.on_chip_words in
      record {
        rom_out = rom_lt (rom_place c);
        below_out = read_lt (writes c) (write_place n c) (next_sp n c) given.below c.on_chip p.on_chip g.below;
        loaded_out = read_lt (writes c) (write_place n c) (load_place n c) given.loaded c.on_chip p.on_chip g.loaded;
        ring_out = read_lt (fills_word shape c) c.target (next_ring_place shape c) given.ring c.ring p.ring g.ring;
        main_out = read_lt (main_writes shape c) (c.write_address % 2 ^ shape.memory_bits) (main_place shape c) given.main c.main p.main g.main;
        on_chip = set_all (writes c) c.on_chip (write_place n c) (written c) p.on_chip written_lt;
        ring = set_all (fills_word shape c) c.ring c.target c.main_out p.ring p.main_out;
        main = set_all (main_writes shape c) c.main (c.write_address % 2 ^ shape.memory_bits) c.a p.main h.machine.a;
      }

  still : Fits shape (next shape given c)
  still = record { machine = machine; ahead = ahead; method = method; memories = memories }

pub fits_stay : FitsStay
fits_stay shape given c is g h = still shape given c is g h
