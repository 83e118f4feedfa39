-- A machine at reset, whose stack has the frame of boot: all of its words are 0.
use Rattle.std.proofs.Common.{◌≡◌, ℕ, zero, suc, pos, ◌+◌, ◌-◌, ◌<◌, ◌≤◌, true, List, [], ◌∷◌, ◌++◌, Option, Some, None, map, length, take, drop, replicate, refl, sym, ◌∙◌, ap, subst, arith, append_assoc, length-append}
use Rattle.std.specs.Prelude.{nat_le, nat_lt, slice_index, All, IsTrue, IfSome}
use Rattle.std.proofs.lemmas.Bool.{and_parts}
use Rattle.std.proofs.lemmas.Bool.Decides.{nat_tests}
use Rattle.std.proofs.lemmas.List.{append-nil, replicate-append-replicate}
use Rattle.std.proofs.lemmas.List.Sums.{sum_by-cons}
use Rattle.std.proofs.Math.Nat.{mod-eq_of_lt}
use Rattle.std.proofs.lemmas.List.{get_or_append_left, take-replicate, length-replicate}
use Rattle.std.proofs.Math.Seq.{drop-append_seam, take-append_seam}
use Rattle.machine_stands.proofs.Beginning.{cache_is, cached_one, contents_are, least}
use Rattle.lists.proofs.Lemmas.{onto_some}
use Rattle.machine_memory.specs.Stack.Size.{IsSize}
use Rattle.microcode.specs.declared.TheConstants.{CONSTANTS as NUMBERS}
use Rattle.jop_core.specs.declared.places.TheConstants.{CONSTANTS, STACK}
use Rattle.base.specs.Packed.{words_for, words_of_bytes, PackedHasBytes, PackedHasWords}
use Rattle.method_cache.specs.Contents.{Entry, Cache, blocks_for, empty, loaded, can_load}
use Rattle.machine_memory.specs.declared.timing.Config.{Config}
use Rattle.jop_core.specs.Reset.{Start, reset_of, reset_words, places}
use Rattle.bytecode_model.specs.declared.Value.{Value}
use Rattle.bytecode_model.specs.declared.Value.TheVariants.{Int, Long, Null, Unset}
use Rattle.bytecode_model.specs.declared.Ending.TheVariants.{Running}
use Rattle.bytecode_model.specs.Lists.{onto}
use Rattle.bytecode_model.specs.Types.{Declared, Numeric, Reference, IntType, LongType, is_long, default}
use Rattle.bytecode_model.specs.Slots as slots
use Rattle.bytecode_model.specs.Slots.{spread}
use Rattle.bytecode_model.specs.Sizes.{body_words, frame_words}
use Rattle.bytecode_model.specs.State.{Frame, State}
use Rattle.bytecode_model.specs.Program.{Program, Body, body_of}
use Rattle.image_facts.specs.Places.{Places, image_of, image_words, object_place, pool_of}
use Rattle.image_facts.specs.Says.{IsCode}
use Rattle.machine_stands.specs.Frames.{AreLocals}
use Rattle.machine_stands.specs.StandsFor.{StandsFor, IsCopy, stack_words}
use Rattle.boundary.proofs.Stages.{some_in}

-- ---- the local variables of boot

some_list : (vs ws : List Value) → ◌≡◌ {A = Option (List Value)} (Some vs) (Some ws) → vs ≡ ws
some_list vs ws h = cc

-- what fields begin with, and unset values behind, has zeros for words
pub zeros_there : (place : ℕ → ℕ) (ds : List Declared) (n : ℕ) (ls : List Value) → slots.padded Unset n (spread is_long Unset (map default ds)) ≡ Some ls → AreLocals place ls (replicate n 0)
zeros_there place [] zero ls h = subst (λ (vs : List Value). AreLocals place vs []) (some_list [] ls h) tt
zeros_there place [] (suc n) ls h =
    let (vs, is, gives) = onto_some (slots.padded Unset n []) (λ (ws : List Value). Some (Unset ∷ ws)) ls h in
    subst (λ (ws : List Value). AreLocals place ws (0 ∷ replicate n 0)) (some_list (Unset ∷ vs) ls gives) (tt, zeros_there place [] n vs is)
zeros_there place (Numeric IntType ∷ ds) zero ls h = absurd (cc)
zeros_there place (Numeric IntType ∷ ds) (suc n) ls h =
    let (vs, is, gives) = onto_some (slots.padded Unset n (spread is_long Unset (map default ds))) (λ (ws : List Value). Some (Int (pos 0) ∷ ws)) ls h in
    subst (λ (ws : List Value). AreLocals place ws (0 ∷ replicate n 0)) (some_list (Int (pos 0) ∷ vs) ls gives) (refl, zeros_there place ds n vs is)
zeros_there place (Numeric LongType ∷ ds) zero ls h = absurd (cc)
zeros_there place (Numeric LongType ∷ ds) (suc zero) ls h = absurd (cc)
zeros_there place (Numeric LongType ∷ ds) (suc (suc n)) ls h =
    let rest = slots.padded Unset n (spread is_long Unset (map default ds)) in
    let (us, is, gives) = onto_some (onto rest (λ (ws : List Value). Some (Unset ∷ ws))) (λ (ws : List Value). Some (Long (pos 0) ∷ ws)) ls h in
    let (vs, is_rest, gives_rest) = onto_some rest (λ (ws : List Value). Some (Unset ∷ ws)) us is in
    let whole : Long (pos 0) ∷ Unset ∷ vs ≡ ls = ap (λ (ws : List Value). Long (pos 0) ∷ ws) (some_list (Unset ∷ vs) us gives_rest) ∙ some_list (Long (pos 0) ∷ us) ls gives in
    subst (λ (ws : List Value). AreLocals place ws (0 ∷ 0 ∷ replicate n 0)) whole (refl, refl, zeros_there place ds n vs is_rest)
zeros_there place (Reference k ∷ ds) zero ls h = absurd (cc)
zeros_there place (Reference k ∷ ds) (suc n) ls h =
    let (vs, is, gives) = onto_some (slots.padded Unset n (spread is_long Unset (map default ds))) (λ (ws : List Value). Some (Null ∷ ws)) ls h in
    subst (λ (ws : List Value). AreLocals place ws (0 ∷ replicate n 0)) (some_list (Null ∷ vs) ls gives) (refl, zeros_there place ds n vs is)

-- ---- the on-chip words

-- those below the stack
module _ (n memory words pool boot frame raise_list : ℕ) where
  abbrev front : List ℕ
  front = replicate 24 0 ++ places n memory words pool boot frame raise_list ++ NUMBERS

  abbrev all : List ℕ
  all = reset_words n memory words pool boot frame raise_list

  front_count : length front ≡ 64
  front_count = refl

  chip : drop STACK all ≡ replicate (n - 64) 0
  chip = drop-append_seam front (replicate (n - 64) 0)

  numbers : take 32 (drop CONSTANTS all) ≡ NUMBERS
  numbers =
      let low : List ℕ = replicate 24 0 ++ places n memory words pool boot frame raise_list in
      let rest : List ℕ = replicate (n - 64) 0 in
      ap (λ (ws : List ℕ). take 32 (drop 32 ws)) (append_assoc low NUMBERS rest) ∙ ap (take 32) (drop-append_seam low (NUMBERS ++ rest)) ∙ take-append_seam NUMBERS rest

  chip_word : (k : ℕ) → k < 64 → slice_index all k ≡ slice_index front k
  chip_word k h = get_or_append_left front (replicate (n - 64) 0) 0 k h

-- ---- all of it

-- what a machine begins with over the image of a program
abbrev pub start_of : Program → Places → Body → Start
start_of P pl b = record {
  image = image_of P pl;
  boot = pl.method P.boot;
  max_locals = b.max_locals;
  frame = body_words b;
  code = words_of_bytes b.code;
  pool = pool_of P pl P.boot;
  raise_list = pl.raise_list;
}

-- boot's first frame, and the state with it
abbrev pub first_of : Program → List Value → Frame
first_of P ls = record { method = P.boot; pc = 0; locals = ls; operands = [] }

abbrev pub begun : Program → List Value → State
begun P ls = record { frames = first_of P ls ∷ []; objects = P.first_objects; statics = P.first_statics; answers = []; output = []; mode = Running }

-- the image fits the memory, and the methods the cache
pub record HasPlace (P : Program) (pl : Places) (n : ℕ) (config : Config) (b : Body) : Type 0 where
  pub size : IsSize n
  pub is_body : body_of P P.boot ≡ Some b
  pub code : IsCode b.code
  pub frame : body_words b ≤ n - 80
  pub count : length (image_of P pl) ≡ image_words P pl
  pub image : image_words P pl ≤ config.memory
  pub methods : (k : ℕ) → IfSome (body_of P k) (λ b. IsTrue (can_load (words_for (length b.code)) (empty config.blocks config.block_words)))
  pub fits : IsTrue (can_load (words_for (length b.code)) (empty config.blocks config.block_words))

pub reset_stands : PackedHasWords → PackedHasBytes → (P : Program) (pl : Places) (n : ℕ) (config : Config) (b : Body) (ls : List Value) → HasPlace P pl n config b → AreLocals (object_place P pl P.first_objects) ls (replicate b.max_locals 0)
    → StandsFor P pl n config.memory (reset_of n (start_of P pl b) config) (begun P ls)
reset_stands packed bytes P pl n config b ls has locals =
    let code = words_of_bytes b.code in
    let M = config.blocks in
    let W = config.block_words in
    let k = pl.method P.boot in
    let frame = body_words b in
    let memory = config.memory in
    let words = length (image_of P pl) in
    let pool = pool_of P pl P.boot in
    let large = least n has.size in
    let small = has.frame in
    let parts = and_parts (nat_lt 0 (words_for (length b.code))) (nat_le (blocks_for W (words_for (length b.code))) M) has.fits in
    let some : 0 < length code = grind (arith, nat_tests, parts.0, packed b.code) in
    let fits : nat_le (blocks_for W (length code)) M ≡ true = ap (λ (j : ℕ). nat_le (blocks_for W j) M) (packed b.code) ∙ parts.1 in
    let is = contents_are k code M W fits in
    let cache : Cache = loaded k code (empty M W) in
    let m = reset_of n (start_of P pl b) config in
    let sp : m.sp ≡ 66 + b.max_locals = mod-eq_of_lt (omega (arith, small, large)) ∙ omega arith in
    let zeros : stack_words m ≡ replicate (b.max_locals + 5) 0 =
    ap (λ (ws : List ℕ). take (m.sp + 1 - STACK) ws ++ 0 ∷ 0 ∷ []) (chip n memory words pool k frame pl.raise_list)
    ∙ ap (λ (j : ℕ). take j (replicate (n - 64) 0) ++ 0 ∷ 0 ∷ []) (let j : m.sp + 1 - STACK ≡ b.max_locals + 3 = omega (arith, sp) in j)
    ∙ ap (λ (ws : List ℕ). ws ++ 0 ∷ 0 ∷ []) (take-replicate (b.max_locals + 3) (n - 64) 0 (omega (arith, small, large)))
    ∙ replicate-append-replicate {A = ℕ} (b.max_locals + 3) 2 0 ∙ ap (λ (j : ℕ). replicate j 0) (let j : b.max_locals + 3 + 2 ≡ b.max_locals + 5 = omega arith in j) in
    let word = chip_word n memory words pool k frame pl.raise_list in
    let frame_is : frame_words P (first_of P ls) ≡ body_words b = ap (λ o. elim o [ None ↦ 0 | Some b ↦ body_words b ]) has.is_body in
    record {
      sizes = record {
        is_size = has.size;
        stack = omega (arith, length-append (front n memory words pool k frame pl.raise_list) (replicate (n - 64) 0), front_count n memory words pool k frame pl.raise_list, length-replicate {A = ℕ} (n - 64) 0, large);
        ar = omega (arith, large);
        memory = length-append (image_of P pl) (replicate (memory - words) 0) ∙ omega (arith, length-replicate {A = ℕ} (memory - words) 0, has.count, has.image);
        small = omega (arith, config.most_memory);
        most = config.most_memory;
      };
      room = record { image = has.image; methods = has.methods };
      stall = refl;
      idle = refl;
      top = first_of P ls;
      callers = [];
      frames = refl;
      body = b;
      is_body = has.is_body;
      words = record { locals = replicate b.max_locals 0; saved = 0 ∷ 0 ∷ 0 ∷ 0 ∷ 0 ∷ []; operands = [] };
      below = [];
      left = [];
      are_frames = (record { locals = locals; saved = refl; operands = tt }, tt);
      are_left = refl;
      stack = zeros ∙ sym (replicate-append-replicate {A = ℕ} b.max_locals 5 0) ∙ sym (append-nil (replicate b.max_locals 0 ++ replicate 5 0));
      vp = refl;
      registers = record {
        pool = word 24 (omega arith);
        method = word 25 (omega arith);
        next_free = word 26 (omega arith) ∙ has.count;
        memory_end = word 27 (omega arith);
        frame_sum = word 28 (omega arith) ∙ omega (arith, frame_is, sum_by-cons (frame_words P) (first_of P ls) []);
        frame_limit = word 29 (omega arith);
        raise_list = word 30 (omega arith);
        constants = numbers n memory words pool k frame pl.raise_list;
      };
      memory = refl;
      cache = cache_is k code M W (omega (arith, config.least_blocks)) some fits;
      copies = subst (λ (es : List Entry). All (IsCopy P pl) es) (sym is) one_copy;
      at = record {
        running = refl;
        opcode = bytes b.code has.code.bytes 0;
        mpc = refl;
        jpc = refl;
        operand = refl;
        method = refl;
        cached = cached_one k code cache.contents is;
      };
    }
  where
    one_copy : All (IsCopy P pl) (record { method = pl.method P.boot; words = words_of_bytes b.code } ∷ [])
    one_copy zero d h = record { method = P.boot; place = refl; words = some_in (body_of P P.boot) b (λ (u : Body). words_of_bytes b.code ≡ words_of_bytes u.code) has.is_body refl }
    one_copy (suc j) d h = absurd (omega (arith, h))
