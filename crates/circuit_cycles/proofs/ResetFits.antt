-- The first contents of registers and memories fit them.
use Rattle.std.proofs.Common.{◌≡◌, ℕ, suc, ◌+◌, ◌-◌, ◌/◌, ◌^◌, ◌<◌, ◌≤◌, Bool, true, List, [], ◌∷◌, ◌++◌, length, replicate, All, refl, sym, subst, ◌∙◌, arith, ltb-true, drop}
use Rattle.std.specs.Prelude.{slice_index, slice_range, nat_lt, ◌&&◌}
use Rattle.std.proofs.lemmas.Nat.{mod_below}
use Rattle.std.proofs.lemmas.Bool.{and_parts}
use Rattle.std.proofs.lemmas.List.{length-replicate, get_or-take, get_or-drop}
use Rattle.std.proofs.lemmas.List.Elements.{All-replicate, All-append, All-cons}
use Rattle.microcode.specs.declared.TheConstants.{CONSTANTS}
use Rattle.machine_memory.specs.declared.timing.Config.{Config}
use Rattle.method_cache.specs.Contents.{blocks_for}
use Rattle.jop_core.specs.Operations.{code_words, code_place}
use Rattle.jop_core.specs.Reset.{Start, places, reset_words, reset_of, first_byte}
use Rattle.jop_core.proofs.ResetWords.{IsSize-least}
use Rattle.circuit_cycles.specs.Shape.{Shape}
use Rattle.circuit_cycles.specs.Tags.{BlockTag}
use Rattle.circuit_cycles.specs.Core.{entry_of}
use Rattle.circuit_cycles.specs.Methods.{tag_of_entry}
use Rattle.circuit_cycles.specs.Starting.{IsShapeOf, first_core, boot_entry, no_tag}
use Rattle.circuit_cycles.specs.Fits.{IsWord, IsShape, TagFits, MachineFits, AheadFits, MethodFits, MemoriesFit, StartFits, ResetsFit, LinkedStartsFit}
use Rattle.circuit_cycles.proofs.Addresses.{entry_low}
use Rattle.circuit_cycles.proofs.Fits.{rom_lt, word_lt}
use Rattle.circuit_cycles.proofs.Phases.{ring_some}
use Rattle.circuit_cycles.proofs.Switching.{range_length}

-- the constants are words, and so are the places on chip
abbrev all_words : List ℕ → Bool
all_words [] = true
all_words (w ∷ words) = nat_lt w (2 ^ 32) && all_words words

all_in : (words : List ℕ) → all_words words ≡ true → All IsWord words
all_in [] h = λ k d low. absurd (omega (arith, low))
all_in (w ∷ words) h =
    let parts = and_parts (nat_lt w (2 ^ 32)) (all_words words) h in
    All-cons IsWord w words (ltb-true w (2 ^ 32) parts.0) (all_in words parts.1)

no_words : All IsWord []
no_words = λ k d low. absurd (omega (arith, low))

module _ (shape : Shape) (n : ℕ) (start : Start) (config : Config) (is : IsShape shape) (of : IsShapeOf shape n config) (image : length start.image ≤ config.memory) (memory : IsWord config.memory) (ok : StartFits shape start) where
  some_memory : 0 < 2 ^ shape.memory_bits
  some_memory = let low = ok.boot in omega (arith, low)

  some_ring : 0 < shape.ring_words
  some_ring = ring_some shape.blocks shape.block_words shape.ring_words is.blocks is.block_words is.ring_words

  machine : MachineFits shape (first_core shape (boot_entry start) (reset_of n start config))
  machine =
      let least = IsSize-least n of.size in
      let on_chip = of.on_chip in
      record {
        a = omega arith;
        b = omega arith;
        sp = let low = mod_below (64 + start.max_locals + 2) n (omega (arith, least)) in omega (arith, low, on_chip);
        vp = omega (arith, least, on_chip);
        ar = omega (arith, least, on_chip);
        jpc = omega arith;
        mpc = entry_low (first_byte start.code);
        operand = omega arith;
        opcode = mod_below (slice_index start.code 0 / 2 ^ 24) (2 ^ 8) (omega arith);
        halt = omega arith;
      }

  ahead : AheadFits (first_core shape (boot_entry start) (reset_of n start config))
  ahead = record {
    word = rom_lt (entry_of (first_byte start.code));
    refill = omega arith;
    starting = omega arith;
    below_passed = omega arith;
    place_passed = omega arith;
    passed = omega arith;
    count = omega arith;
    value = omega arith;
    reading = omega arith;
    within = omega arith;
    write_address = omega arith;
  }

  method : MethodFits shape (first_core shape (boot_entry start) (reset_of n start config))
  method =
      let some = some_memory in
      let blocks = is.blocks in
      let same = of.blocks in
      let few = ok.few_words in
      let boot = ok.boot in
      let rest = length-replicate {A = BlockTag} (shape.blocks - 1) no_tag in
      let next = mod_below (0 + blocks_for config.block_words (length start.code)) config.blocks (omega (arith, blocks, same)) in
      record {
        place = boot;
        base = some_ring;
        words = few;
        header = omega arith;
        left = omega arith;
        turn = omega arith;
        source = some;
        target = some_ring;
        in_block = is.block_words;
        next_block = omega (arith, next, same);
        tags =
            All-cons (TagFits shape) (tag_of_entry (boot_entry start)) (replicate (shape.blocks - 1) no_tag) (record { begins = omega arith; method = boot; words = few })
            (All-replicate (TagFits shape) (shape.blocks - 1) no_tag (record { begins = omega arith; method = some; words = omega arith }));
        tags_length =
            let all : length (tag_of_entry (boot_entry start) ∷ replicate (shape.blocks - 1) no_tag) ≡ suc (length (replicate (shape.blocks - 1) no_tag)) = refl in
            omega (arith, rest, all, blocks);
      }

  places_fit : All IsWord (places n config.memory (length start.image) start.pool start.boot start.frame start.raise_list)
  places_fit =
      let least = IsSize-least n of.size in
      let on_chip = of.on_chip in
      let few = is.few_on_chip in
      All-cons IsWord start.pool (start.boot ∷ length start.image ∷ config.memory ∷ start.frame ∷ (n - 80) ∷ start.raise_list ∷ 0 ∷ []) ok.pool
      (All-cons IsWord start.boot (length start.image ∷ config.memory ∷ start.frame ∷ (n - 80) ∷ start.raise_list ∷ 0 ∷ []) ok.boot_word
      (All-cons IsWord (length start.image) (config.memory ∷ start.frame ∷ (n - 80) ∷ start.raise_list ∷ 0 ∷ []) (omega (arith, image, memory))
      (All-cons IsWord config.memory (start.frame ∷ (n - 80) ∷ start.raise_list ∷ 0 ∷ []) memory
      (All-cons IsWord start.frame ((n - 80) ∷ start.raise_list ∷ 0 ∷ []) ok.frame
      (All-cons IsWord (n - 80) (start.raise_list ∷ 0 ∷ []) (omega (arith, least, on_chip, few))
      (All-cons IsWord start.raise_list (0 ∷ []) ok.raise_list
      (All-cons IsWord 0 [] (omega arith) no_words)))))))

  zeros : (k : ℕ) → All IsWord (replicate k 0)
  zeros k = All-replicate IsWord k 0 (omega arith)

  on_chip_fits : All IsWord (reset_words n config.memory (length start.image) start.pool start.boot start.frame start.raise_list)
  on_chip_fits =
      let ps = places n config.memory (length start.image) start.pool start.boot start.frame start.raise_list in
      All-append IsWord (replicate 24 0 ++ ps ++ CONSTANTS) (replicate (n - 64) 0)
      (All-append IsWord (replicate 24 0 ++ ps) CONSTANTS (All-append IsWord (replicate 24 0) ps (zeros 24) places_fit) (all_in CONSTANTS refl)) (zeros (n - 64))

  memories : MemoriesFit (first_core shape (boot_entry start) (reset_of n start config))
  memories = record {
    rom_out = omega arith;
    below_out = omega arith;
    loaded_out = omega arith;
    ring_out = omega arith;
    main_out = omega arith;
    on_chip = on_chip_fits;
    ring = All-append IsWord start.code (replicate (shape.ring_words - length start.code) 0) ok.code (zeros (shape.ring_words - length start.code));
    main = All-append IsWord start.image (replicate (config.memory - length start.image) 0) ok.image (zeros (config.memory - length start.image));
  }

pub resets_fit : ResetsFit
resets_fit shape n start config is of image memory ok = record {
  machine = machine shape n start config is of image memory ok;
  ahead = ahead shape n start config is of image memory ok;
  method = method shape n start config is of image memory ok;
  memories = memories shape n start config is of image memory ok;
}

-- the words of a part are words of the whole
part_fits : (words : List ℕ) (from n : ℕ) → All IsWord words → from + n ≤ length words → All IsWord (slice_range words from (from + n))
part_fits words from n h inside = λ k d low.
    let long = range_length words from n inside in
    subst IsWord (sym (get_or-take (from + n - from) (drop from words) k d (omega (arith, low, long)) ∙ get_or-drop from words k d)) (h (from + k) d (omega (arith, low, long, inside)))

pub linked_starts_fit : LinkedStartsFit
linked_starts_fit shape image config can words fits =
    let boot = slice_index image 1 in
    let limits = slice_index image boot in
    let inside = can.boot in
    let long = range_length image (code_place image boot) (code_words image boot) inside in
    let room = can.memory in
    let size = word_lt image boot 0 (2 ^ 32) words (omega arith) in
    let count = mod_below (slice_index image (boot + 1)) (2 ^ 16) (omega arith) in
    record {
      image = words;
      code = part_fits image (code_place image boot) (code_words image boot) words inside;
      few_words = omega (arith, long, count);
      boot = omega (arith, inside, room, fits);
      boot_word = word_lt image 1 0 (2 ^ 32) words (omega arith);
      frame = omega (arith, size);
      pool = word_lt image 2 0 (2 ^ 32) words (omega arith);
      raise_list = word_lt image 4 0 (2 ^ 32) words (omega arith);
    }
