-- A reset begins with a circuit at its start.
use Rattle.std.proofs.Common.{◌≡◌, ℕ, zero, suc, ◌+◌, ◌-◌, ◌*◌, ◌%◌, ◌<◌, ◌≤◌, true, List, [], ◌∷◌, ◌++◌, length, replicate, Some, refl, sym, ap, subst, mod-eq_of_lt, ◌∙◌, arith, ltb-true, leb-true, length-append}
use Rattle.std.specs.Prelude.{nat_lt, nat_le, slice_index, slice_get}
use Rattle.std.proofs.Math.Nat.{add-mod_right, mul-le-mul_right}
use Rattle.std.proofs.lemmas.Nat.{mod_below}
use Rattle.std.proofs.lemmas.Bool.{and_parts}
use Rattle.std.proofs.lemmas.List.{length-replicate, get_or_append_left}
use Rattle.microcode.specs.declared.TheConstants.{CONSTANTS}
use Rattle.machine_memory.specs.declared.timing.Config.{Config}
use Rattle.machine_memory.specs.Timing.Port.{padded}
use Rattle.method_cache.specs.Contents.{Entry, IsCache, blocks_for, can_load, empty, first_block, loaded}
use Rattle.method_cache.proofs.Fitting.{fitting-fits}
use Rattle.method_cache.proofs.Held.{blocks_for-pos, blocks_for-room}
use Rattle.method_cache.proofs.Loads.{IsCache-loaded}
use Rattle.jop_core.specs.State.{MachineState}
use Rattle.jop_core.specs.Reset.{Start, places, reset_words, reset_of, first_byte}
use Rattle.jop_core.proofs.ResetWords.{IsSize-least}
use Rattle.circuit_cycles.specs.Shape.{Shape}
use Rattle.circuit_cycles.specs.Tags.{BlockTag}
use Rattle.circuit_cycles.specs.Core.{Core}
use Rattle.circuit_cycles.specs.Methods.{Lies, BeginsIn, ring_word, tag_of_entry}
use Rattle.circuit_cycles.specs.Stands.{HasCache}
use Rattle.circuit_cycles.specs.Starting.{IsStarting, IsShapeOf, first_core, boot_entry, no_tag, ResetsStart}
use Rattle.circuit_cycles.proofs.LoadBegins.{shifted}
use Rattle.circuit_cycles.proofs.Addresses.{entry_apart, entry_low}

no_more : (xs : List Entry) (e : Entry) (older : List Entry) → [] ≡ xs ++ e ∷ older → ⊥
no_more [] e older h = cc
no_more (x ∷ xs) e older h = cc

-- blocks behind the first ones have no tag
tag_is : (k b : ℕ) (tag : BlockTag) → slice_get (replicate k no_tag) b ≡ Some tag → tag ≡ no_tag
tag_is zero b tag h = let bad : ⊥ = cc in absurd bad
tag_is (suc k) zero tag h = let same : no_tag ≡ tag = cc in sym same
tag_is (suc k) (suc b) tag h = tag_is k b tag h

module _ (shape : Shape) (n : ℕ) (start : Start) (config : Config) (of : IsShapeOf shape n config) (image : length start.image ≤ config.memory) (can : can_load (length start.code) (empty config.blocks config.block_words) ≡ true) where
  abbrev boot : Entry
  boot = boot_entry start

  abbrev reset : MachineState
  reset = reset_of n start config

  abbrev first : Core
  first = first_core shape (boot_entry start) (reset_of n start config)

  some : 0 < length start.code
  some = ltb-true 0 (length start.code) (and_parts (nat_lt 0 (length start.code)) (nat_le (blocks_for config.block_words (length start.code)) config.blocks) can).0

  fits : blocks_for config.block_words (length start.code) ≤ config.blocks
  fits = leb-true (blocks_for config.block_words (length start.code)) config.blocks (and_parts (nat_lt 0 (length start.code)) (nat_le (blocks_for config.block_words (length start.code)) config.blocks) can).1

  some_words : 0 < config.block_words
  some_words = let w = of.some_words in let same = of.block_words in omega (arith, w, same)

  some_blocks : 0 < config.blocks
  some_blocks = let own = blocks_for-pos config.block_words (length start.code) some_words some in let room = fits in omega (arith, own, room)

  contents : (loaded start.boot start.code (empty config.blocks config.block_words)).contents ≡ boot_entry start ∷ []
  contents = fitting-fits config.block_words config.blocks (boot_entry start) [] fits

  valid : IsCache (loaded start.boot start.code (empty config.blocks config.block_words))
  valid = IsCache-loaded start.boot start.code (empty config.blocks config.block_words) some_blocks (record { fits = omega arith; apart = tt; have_words = tt; next = some_blocks }) refl some

  -- the method begins in the first block
  begins : first_block [] (boot_entry start) (loaded start.boot start.code (empty config.blocks config.block_words)) ≡ 0
  begins =
      let own = blocks_for config.block_words (length start.code) in
      shifted config.blocks 0 own 0 some_blocks (let room = fits in omega (arith, room))
      ∙ ap (λ k. k % config.blocks) (let e : 0 + (config.blocks - 0) ≡ 0 + config.blocks = omega arith in e)
      ∙ add-mod_right 0 config.blocks ∙ mod-eq_of_lt some_blocks

  long : length start.code ≤ shape.ring_words
  long =
      let w = config.block_words in
      let room = blocks_for-room config.block_words (length start.code) some_words in
      let product = mul-le-mul_right {m = blocks_for config.block_words (length start.code)} {n = config.blocks} w fits in
      let size : shape.ring_words ≡ config.blocks * config.block_words = of.ring_words ∙ ap (λ k. k * shape.block_words) of.blocks ∙ ap (λ k. config.blocks * k) of.block_words in
      omega (arith, room, product, size)

  lies : Lies shape first.ring first.tags reset.cache [] (boot_entry start)
  lies = record {
    words = λ i low.
        let big = long in
        ap (λ block. ring_word shape (start.code ++ replicate (shape.ring_words - length start.code) 0) block i) begins
        ∙ ap (λ k. slice_index (start.code ++ replicate (shape.ring_words - length start.code) 0) k) (mod-eq_of_lt {n = 0 * shape.block_words + i} (let e : 0 * shape.block_words + i < shape.ring_words = omega (arith, low, big) in e) ∙ (let z : 0 * shape.block_words + i ≡ i = omega arith in z))
        ∙ get_or_append_left start.code (replicate (shape.ring_words - length start.code) 0) 0 i low;
    tag = ap (λ block. slice_get (tag_of_entry (boot_entry start) ∷ replicate (shape.blocks - 1) no_tag) block) begins;
  }

  all_lie : (newer : List Entry) (e : Entry) (older : List Entry) → reset.cache.contents ≡ newer ++ e ∷ older → Lies shape first.ring first.tags reset.cache newer e
  all_lie [] e older split =
      let lists : boot_entry start ∷ [] ≡ e ∷ older = sym contents ∙ split in
      let same : boot_entry start ≡ e = cc in
      subst (λ k. Lies shape first.ring first.tags reset.cache [] k) same lies
  all_lie (x ∷ newer) e older split =
      let lists : boot_entry start ∷ [] ≡ x ∷ (newer ++ e ∷ older) = sym contents ∙ split in
      let rest : [] ≡ newer ++ e ∷ older = cc in
      absurd (no_more newer e older rest)

  others : (block : ℕ) (tag : BlockTag) → slice_get first.tags block ≡ Some tag → tag.begins ≡ 1 → BeginsIn reset.cache block tag
  others zero tag at starts =
      let same : tag_of_entry (boot_entry start) ≡ tag = cc in
      record { newer = []; method = boot_entry start; older = []; split = contents; place = sym begins; own = sym same }
  others (suc block) tag at starts =
      let none : tag.begins ≡ 0 = ap (λ (t : BlockTag). t.begins) (tag_is (shape.blocks - 1) block tag at) in
      absurd (omega (arith, none, starts))

  cache : HasCache shape first reset
  cache = record {
    methods = record { next = refl; all = λ newer e older split. all_lie newer e older split; others = λ block tag at starts far. others block tag at starts };
    newer = [];
    method = boot_entry start;
    older = [];
    current = record {
      split = contents;
      method = refl;
      place = refl;
      base = (let z : 0 ≡ 0 * shape.block_words = omega arith in z) ∙ ap (λ k. k * shape.block_words) (sym begins);
      words = λ _. refl;
    };
  }

  stack_length : length (reset_words n config.memory (length start.image) start.pool start.boot start.frame start.raise_list) ≡ n
  stack_length =
      let least = IsSize-least n of.size in
      let tail = length-replicate {A = ℕ} (n - 64) 0 in
      let all : length (reset_words n config.memory (length start.image) start.pool start.boot start.frame start.raise_list) ≡ 64 + length (replicate (n - 64) 0) =
      length-append (replicate 24 0 ++ places n config.memory (length start.image) start.pool start.boot start.frame start.raise_list ++ CONSTANTS) (replicate (n - 64) 0) in
      omega (arith, least, tail, all)

  memory_length : length (padded start.image config.memory) ≡ config.memory
  memory_length =
      let tail = length-replicate {A = ℕ} (config.memory - length start.image) 0 in
      let all = length-append start.image (replicate (config.memory - length start.image) 0) in
      omega (arith, tail, all, image)

  ring_length : length first.ring ≡ shape.ring_words
  ring_length =
      let tail = length-replicate {A = ℕ} (shape.ring_words - length start.code) 0 in
      let all = length-append start.code (replicate (shape.ring_words - length start.code) 0) in
      let big = long in
      omega (arith, tail, all, big)

  tags_length : length first.tags ≡ shape.blocks
  tags_length =
      let tail = length-replicate {A = BlockTag} (shape.blocks - 1) no_tag in
      let blocks = of.blocks in
      let least = some_blocks in
      let all : length first.tags ≡ suc (length (replicate (shape.blocks - 1) no_tag)) = refl in
      omega (arith, tail, blocks, least, all)

  starting : IsStarting shape first reset
  starting =
      let least = IsSize-least n of.size in
      let on_chip = of.on_chip in
      record {
        has_shape = record {
          on_chip = stack_length ∙ sym of.on_chip;
          memory = memory_length ∙ sym of.memory;
          read = sym of.read;
          write = sym of.write;
          places = of.memory_bits;
        };
        is_ring = record {
          blocks = sym of.blocks;
          block_words = sym of.block_words;
          some_words = of.some_words;
          ring_words = of.ring_words;
          places = of.ring_bits;
          ring_length = ring_length;
          tags_length = tags_length;
        };
        is_cache = valid;
        places = record {
          some = omega (arith, least, on_chip);
          sp = let low = mod_below (64 + start.max_locals + 2) n (omega (arith, least)) in omega (arith, low, on_chip);
          vp = omega (arith, least, on_chip);
          ar = omega (arith, least, on_chip);
          length = stack_length ∙ sym of.on_chip;
        };
        address = entry_low (first_byte start.code);
        starting = refl;
        registers = record { a = refl; b = refl; sp = refl; vp = refl; ar = refl; jpc = refl; mpc = refl; operand = refl; opcode = refl; halt = refl; on_chip = refl; main = refl; write_address = refl; count = refl; begun = refl };
        word = refl;
        apart = entry_apart (first_byte start.code);
        refill = refl;
        header = refl;
        left = refl;
        reading = refl;
        value = refl;
        stall = refl;
        cache = cache;
      }

pub resets_start : ResetsStart
resets_start shape n start config of image can = starting shape n start config of image can
