-- A machine at reset with a bare image.
use Rattle.std.proofs.Common.{◌≡◌, ℕ, zero, suc, pos, ◌+◌, ◌-◌, ◌<◌, ◌≤◌, Bool, true, if◌then◌else◌, List, [], ◌∷◌, ◌++◌, Option, Some, None, map, length, take, drop, replicate, refl, sym, ◌∙◌, ap, subst, arith, append_assoc, length-append, ⊎_elim}
use Rattle.std.specs.Prelude.{◌==◌, nat_le, nat_lt, slice_index, All, IsTrue, IfSome, is_some}
use Rattle.std.proofs.lemmas.Bool.{and_parts}
use Rattle.std.proofs.lemmas.Bool.Decides.{nat_tests}
use Rattle.std.proofs.lemmas.List.{append-nil, replicate-append-replicate}
use Rattle.std.proofs.Math.Nat.{mod-eq_of_lt, mod-lt}
use Rattle.std.proofs.lemmas.List.{get_or_append_left, take-replicate, length-replicate}
use Rattle.std.proofs.Math.Seq.{drop-append_seam, take-append_seam}
use Rattle.lists.proofs.Lemmas.{some_same}
use Rattle.machine_memory.specs.Stack.Size.{IsSize}
use Rattle.microcode.specs.declared.TheConstants.{CONSTANTS as NUMBERS}
use Rattle.jop_core.specs.declared.places.TheConstants.{CONSTANTS, STACK}
use Rattle.base.specs.Packed.{words_for, words_of_bytes, PackedHasBytes, PackedHasWords}
use Rattle.method_cache.specs.Contents.{Entry, Cache, IsCache, AreApart, HaveWords, total_blocks, blocks_for, empty, loaded, can_load, find_words}
use Rattle.machine_memory.specs.declared.timing.Config.{Config}
use Rattle.image_file.specs.Bare.{BareContent, IsBareContent, frame_words}
use Rattle.jop_core.specs.Reset.{bare_reset, CanStartBare, reset_words, places}
use Rattle.bytecode_model.specs.declared.Value.{Value}
use Rattle.bytecode_model.specs.declared.Value.TheVariants.{Int, Unset}
use Rattle.bytecode_model.specs.declared.Ending.TheVariants.{Running}
use Rattle.bytecode_model.specs.Lists.{onto}
use Rattle.bytecode_model.specs.Types.{Declared, Numeric, IntType, is_long, default}
use Rattle.bytecode_model.specs.Slots as slots
use Rattle.bytecode_model.specs.Slots.{spread}
use Rattle.bytecode_model.specs.State.{Frame, State}
use Rattle.bytecode_model.specs.Program.{body_of}
use Rattle.bytecode_model.specs.Steps.{boot_state, first_frame, all_suit}
use Rattle.image_facts.specs.Places.{bare_places}
use Rattle.machine_stands.specs.Frames.{AreLocals, FrameWords}
use Rattle.machine_stands.specs.StandsFor.{StandsFor, IsCopy, stack_words}
use Rattle.machine_stands.specs.Bare as bare

-- ---- the boot state

abbrev ints : ℕ → List Declared
ints n = replicate n (Numeric IntType)

abbrev zeros : ℕ → List Value
zeros n = replicate n (Int (pos 0))

defaults_are : (n : ℕ) → map default (ints n) ≡ zeros n
defaults_are zero = refl
defaults_are (suc n) = ap (λ (vs : List Value). Int (pos 0) ∷ vs) (defaults_are n)

zeros_suit : (n : ℕ) → all_suit (ints n) (zeros n) ≡ true
zeros_suit zero = refl
zeros_suit (suc n) = zeros_suit n

zeros_spread : (n : ℕ) → spread is_long Unset (zeros n) ≡ zeros n
zeros_spread zero = refl
zeros_spread (suc n) = ap (λ (vs : List Value). Int (pos 0) ∷ vs) (zeros_spread n)

zeros_padded : (n : ℕ) → slots.padded Unset n (zeros n) ≡ Some (zeros n)
zeros_padded zero = refl
zeros_padded (suc n) = ap (λ o. onto o (λ (ws : List Value). Some (Int (pos 0) ∷ ws))) (zeros_padded n)

abbrev first_of : BareContent → Frame
first_of image = record { method = 0; pc = 0; locals = zeros image.max_locals; operands = [] }

abbrev begun : BareContent → State
begun image = record { frames = first_of image ∷ []; objects = []; statics = []; answers = []; output = []; mode = Running }

frame_is : (image : BareContent) (args : List Value) → args ≡ zeros image.max_locals → first_frame (bare.program_of image) 0 args ≡ Some (first_of image)
frame_is image args e =
    let n = image.max_locals in
    let made : Option (List Value) → Option Frame = λ o. onto o (λ ls. Some (record { method = 0; pc = 0; locals = ls; operands = [] })) in
    let start : List Value → Option Frame = λ vs. if all_suit (ints n) vs then made (slots.padded Unset n (spread is_long Unset vs)) else None in
    ap start e ∙ ap (λ (b : Bool). if b then made (slots.padded Unset n (spread is_long Unset (zeros n))) else None) (zeros_suit n)
    ∙ ap (λ (vs : List Value). made (slots.padded Unset n vs)) (zeros_spread n) ∙ ap made (zeros_padded n)

boot_is : (image : BareContent) → boot_state (bare.program_of image) ≡ Some (begun image)
boot_is image =
    let state : Option Frame → Option State = λ o. onto o (λ f. Some (record { frames = f ∷ []; objects = []; statics = []; answers = []; output = []; mode = Running })) in
    ap state (frame_is image (map default (ints image.max_locals)) (defaults_are image.max_locals))

-- ---- its words

locals_are : (place : ℕ → ℕ) (n : ℕ) → AreLocals place (zeros n) (replicate n 0)
locals_are place zero = tt
locals_are place (suc n) = (refl, locals_are place n)

abbrev words_of_boot : BareContent → FrameWords
words_of_boot image = record { locals = replicate image.max_locals 0; saved = 0 ∷ 0 ∷ 0 ∷ 0 ∷ 0 ∷ []; operands = [] }

pub least : (n : ℕ) → IsSize n → 256 ≤ n
least n h = ⊎_elim (λ is. omega (arith, is)) (λ larger. ⊎_elim (λ is. omega (arith, is)) (λ is. omega (arith, is)) larger) h

-- the on-chip words below the stack
abbrev front : (n memory frame : ℕ) → List ℕ
front n memory frame = replicate 24 0 ++ places n memory 0 0 0 frame 0 ++ NUMBERS

front_count : (n memory frame : ℕ) → length (front n memory frame) ≡ 64
front_count n memory frame = refl

chip : (n memory frame : ℕ) → drop STACK (reset_words n memory 0 0 0 frame 0) ≡ replicate (n - 64) 0
chip n memory frame = drop-append_seam (front n memory frame) (replicate (n - 64) 0)

numbers : (n memory frame : ℕ) → take 32 (drop CONSTANTS (reset_words n memory 0 0 0 frame 0)) ≡ NUMBERS
numbers n memory frame =
    let low : List ℕ = replicate 24 0 ++ places n memory 0 0 0 frame 0 in
    let rest : List ℕ = replicate (n - 64) 0 in
    ap (λ (ws : List ℕ). take 32 (drop 32 ws)) (append_assoc low NUMBERS rest) ∙ ap (take 32) (drop-append_seam low (NUMBERS ++ rest)) ∙ take-append_seam NUMBERS rest

chip_word : (n memory frame k : ℕ) → k < 64 → slice_index (reset_words n memory 0 0 0 frame 0) k ≡ slice_index (front n memory frame) k
chip_word n memory frame k h = get_or_append_left (front n memory frame) (replicate (n - 64) 0) 0 k h

-- ---- its cache

fits_is : (b : Bool) (e : Entry) (es : List Entry) → b ≡ true → (if b then e ∷ es else []) ≡ e ∷ es
fits_is b e es h = ap (λ (c : Bool). if c then e ∷ es else []) h

-- the contents of a cache with one method that fits
pub contents_are : (m : ℕ) (ws : List ℕ) (M W : ℕ) → nat_le (blocks_for W (length ws)) M ≡ true → (loaded m ws (empty M W)).contents ≡ record { method = m; words = ws } ∷ []
contents_are m ws M W h = ap (λ (b : Bool). let e : Entry = record { method = m; words = ws } in if b then e ∷ [] else []) h

pub cached_one : (m : ℕ) (ws : List ℕ) (es : List Entry) → es ≡ record { method = m; words = ws } ∷ [] → is_some (find_words m es) ≡ true
cached_one m ws es h = ap (λ (xs : List Entry). is_some (find_words m xs)) h ∙ ap (λ (b : Bool). is_some (if b then Some ws else None)) (same m)
  where
    same : (k : ℕ) → k == k ≡ true
    same k = grind (arith, nat_tests)

pub cache_is : (m : ℕ) (ws : List ℕ) (M W : ℕ) → 0 < M → 0 < length ws → nat_le (blocks_for W (length ws)) M ≡ true → IsCache (loaded m ws (empty M W))
cache_is m ws M W some words h =
    let e : Entry = record { method = m; words = ws } in
    let is = contents_are m ws M W h in
    record {
      fits = subst (λ (es : List Entry). total_blocks W es ≤ M) (sym is) (grind (arith, nat_tests, h));
      apart = subst AreApart (sym is) (refl, tt);
      have_words = subst HaveWords (sym is) (words, tt);
      next = mod-lt (0 + blocks_for W (length ws)) some;
    }

-- ---- all of it

pub bare_begins : PackedHasWords → PackedHasBytes → (n : ℕ) (image : BareContent) (config : Config) (s : State) → IsSize n → IsBareContent image → CanStartBare image config
    → boot_state (bare.program_of image) ≡ Some s → StandsFor (bare.program_of image) bare_places n config.memory (bare_reset n image config) s
bare_begins packed bytes n image config s size grammar can boot =
    let P = bare.program_of image in
    let code = words_of_bytes image.code in
    let M = config.blocks in
    let W = config.block_words in
    let frame = frame_words image in
    let memory = config.memory in
    let large = least n size in
    let small = grammar.frame in
    let parts = and_parts (nat_lt 0 (words_for (length image.code))) (nat_le (blocks_for W (words_for (length image.code))) M) can in
    let some : 0 < length code = grind (arith, nat_tests, parts.0, packed image.code) in
    let fits : nat_le (blocks_for W (length code)) M ≡ true = ap (λ (k : ℕ). nat_le (blocks_for W k) M) (packed image.code) ∙ parts.1 in
    let is = contents_are 0 code M W fits in
    let cache : Cache = loaded 0 code (empty M W) in
    let m = bare_reset n image config in
    let sp : m.sp ≡ 66 + image.max_locals = mod-eq_of_lt (omega (arith, small, large)) ∙ omega arith in
    let zeros_there : stack_words m ≡ replicate (image.max_locals + 5) 0 =
    ap (λ (ws : List ℕ). take (m.sp + 1 - STACK) ws ++ 0 ∷ 0 ∷ []) (chip n memory frame)
    ∙ ap (λ (k : ℕ). take k (replicate (n - 64) 0) ++ 0 ∷ 0 ∷ []) (let k : m.sp + 1 - STACK ≡ image.max_locals + 3 = omega (arith, sp) in k)
    ∙ ap (λ (ws : List ℕ). ws ++ 0 ∷ 0 ∷ []) (take-replicate (image.max_locals + 3) (n - 64) 0 (omega (arith, small, large)))
    ∙ replicate-append-replicate {A = ℕ} (image.max_locals + 3) 2 0 ∙ ap (λ (k : ℕ). replicate k 0) (let k : image.max_locals + 3 + 2 ≡ image.max_locals + 5 = omega arith in k) in
    let word = chip_word n memory frame in
    subst (λ (t : State). StandsFor P bare_places n memory m t) (some_same (begun image) s (sym (boot_is image) ∙ boot)) (record {
      sizes = record {
        is_size = size;
        stack = omega (arith, length-append (front n memory frame) (replicate (n - 64) 0), front_count n memory frame, length-replicate {A = ℕ} (n - 64) 0, large);
        ar = omega (arith, large);
        memory = length-replicate {A = ℕ} (memory - 0) 0 ∙ omega arith;
        small = omega (arith, config.most_memory);
        most = config.most_memory;
      };
      room = record { image = omega arith; methods = rooms image cache can };
      stall = refl;
      idle = refl;
      top = first_of image;
      callers = [];
      frames = refl;
      body = bare.body_of image;
      is_body = refl;
      words = words_of_boot image;
      below = [];
      left = [];
      are_frames = (record { locals = locals_are _ image.max_locals; saved = refl; operands = tt }, tt);
      are_left = refl;
      stack = zeros_there ∙ sym (replicate-append-replicate {A = ℕ} image.max_locals 5 0) ∙ sym (append-nil (replicate image.max_locals 0 ++ replicate 5 0));
      vp = refl;
      registers = record {
        pool = word 24 (omega arith);
        method = word 25 (omega arith);
        next_free = word 26 (omega arith);
        memory_end = word 27 (omega arith);
        frame_sum = word 28 (omega arith) ∙ omega arith;
        frame_limit = word 29 (omega arith);
        raise_list = word 30 (omega arith);
        constants = numbers n memory frame;
      };
      memory = refl;
      cache = cache_is 0 code M W (omega (arith, config.least_blocks)) some fits;
      copies = subst (λ (es : List Entry). All (IsCopy P bare_places) es) (sym is) (one_copy image);
      at = record {
        running = refl;
        opcode = bytes image.code grammar.bytes 0;
        mpc = refl;
        jpc = refl;
        operand = refl;
        method = refl;
        cached = cached_one 0 code cache.contents is;
      };
    })
  where
    rooms : (image : BareContent) (c : Cache) → IsTrue (can_load (words_for (length image.code)) c) → (k : ℕ) → IfSome (body_of (bare.program_of image) k) (λ b. IsTrue (can_load (words_for (length b.code)) c))
    rooms image c h zero = h
    rooms image c h (suc k) = tt

    one_copy : (image : BareContent) → All (IsCopy (bare.program_of image) bare_places) (record { method = 0; words = words_of_bytes image.code } ∷ [])
    one_copy image zero d h = record { method = 0; place = refl; words = refl }
    one_copy image (suc k) d h = absurd (omega (arith, h))
