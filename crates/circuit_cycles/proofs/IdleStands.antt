-- A clock in which no word runs stands for a cycle.
use Rattle.std.proofs.Common.{◌≡◌, ℕ, ◌+◌, ◌-◌, ◌%◌, ◌^◌, ◌<◌, ◌⊎◌, Bool, true, false, List, length, refl, sym, ap, subst, inl, inr, ◌∙◌, arith}
use Rattle.std.specs.Prelude.{◌==◌, ◌&&◌, ◌||◌, nat_lt, if◌then◌else◌, slice_set, slice_index}
use Rattle.std.proofs.lemmas.Bool.{cases_lt, ne_eqb}
use Rattle.std.proofs.lemmas.List.{length-set}
use Rattle.microcode.specs.declared.TheConstants.{WORDS}
use Rattle.machine_memory.specs.Timing.Port.{Port}
use Rattle.jop_core.specs.State.{MachineState}
use Rattle.jop_core.specs.Operations.{code_words}
use Rattle.jop_core.specs.Cycle.{counted, code_byte}
use Rattle.circuit_cycles.specs.Shape.{Shape}
use Rattle.circuit_cycles.specs.Words.{is, place_of, takes_at_a}
use Rattle.circuit_cycles.specs.Core.{Core, Given, next, goes, runs, byte_place, fills, fills_word, tag_taken}
use Rattle.circuit_cycles.specs.Methods.{IsRing}
use Rattle.circuit_cycles.specs.Stands.{Stands, HasRegisters, HasRead, HasWord, HasValue, HasRing, loads, load_left}
use Rattle.circuit_cycles.proofs.Idle as idly
use Rattle.circuit_cycles.proofs.Quiet as quiet
use Rattle.circuit_cycles.proofs.Rounds.{eqb_eq}
use Rattle.circuit_cycles.proofs.Signals.{lt_is, ge_is}
use Rattle.circuit_cycles.proofs.Ahead.{below_ahead, loaded_ahead, byte_ahead, places_stay}

-- behind a cycle in which nothing runs, with this stall
abbrev pub paused : ℕ → MachineState → MachineState
paused stall s = record (counted s) { stall = stall }

pub ring_length : (shape : Shape) (given : Given) (c : Core) (s : MachineState) → IsRing shape c.ring c.tags s.cache → IsRing shape (next shape given c).ring (next shape given c).tags s.cache
unfolding next
ring_length shape given c s is = record {
  blocks = is.blocks;
  block_words = is.block_words;
  some_words = is.some_words;
  ring_words = is.ring_words;
  places = is.places;
  ring_length = kept (fills_word shape c) c.target c.main_out ∙ is.ring_length;
  tags_length = kept_tags (fills_word shape c && c.in_block == 0) ∙ is.tags_length;
}
  where
    kept : (b : Bool) (i v : ℕ) → length (if b then slice_set c.ring i v else c.ring) ≡ length c.ring
    kept true i v = length-set c.ring i v
    kept false i v = refl

    kept_tags : (b : Bool) → length (if b then slice_set c.tags c.next_block (tag_taken c) else c.tags) ≡ length c.tags
    kept_tags true = length-set c.tags c.next_block (tag_taken c)
    kept_tags false = refl

word_of : (b : Bool) (c : Core) → HasWord b c → (if b then c.rom_out else c.word) ≡ slice_index WORDS c.mpc
word_of true c h = h
word_of false c h = h.0

pub value_of : (b : Bool) (c : Core) (port : Port) → HasValue b c port → (if b then (if c.within == 1 then c.main_out else 0) else c.value) ≡ port.value
value_of true c port h = sym h.0
value_of false c port h = h

module _ (shape : Shape) (given : Given) (c : Core) (s : MachineState) (stands : Stands shape c s) (going : goes c ≡ true) (idle : runs c ≡ false) (apart : takes_at_a (slice_index WORDS c.mpc) ≡ false) (stall : ℕ) where
  word_is : (next shape given c).word ≡ slice_index WORDS c.mpc
  word_is = idly.word shape given c idle ∙ word_of (c.refill == 2) c stands.read.word

  registers : HasRegisters (next shape given c) (paused stall s)
  registers = let r = stands.registers in record {
    a = idly.a shape given c idle ∙ r.a;
    b = idly.b shape given c idle ∙ r.b;
    sp = idly.sp shape given c idle ∙ r.sp;
    vp = idly.vp shape given c idle ∙ r.vp;
    ar = idly.ar shape given c idle ∙ r.ar;
    jpc = idly.jpc shape given c idle ∙ r.jpc;
    mpc = idly.mpc shape given c idle ∙ r.mpc;
    operand = idly.operand shape given c idle ∙ r.operand;
    opcode = idly.opcode shape given c idle ∙ r.opcode;
    halt = idly.halt shape given c idle ∙ r.halt;
    on_chip = idly.on_chip shape given c idle ∙ r.on_chip;
    main = idly.main shape given c idle ∙ r.main;
    write_address = idly.write_address shape given c idle ∙ r.write_address;
    count = idly.count shape given c idle going ∙ ap (λ k. k - 1) r.count;
    begun = idly.begun shape given c idle;
  }

  -- a clock that writes a word of a load isn't its last
  no_last : loads (next shape given c) ≡ false → fills_word shape c ≡ false
  no_last off = by (c.header == 0) (nat_lt 0 c.left) (c.turn == shape.read_wait + 1) refl refl refl
    where
      by_turn : (f z : Bool) → z ≡ false → (if f && z then c.left - 1 else c.left) ≡ c.left
      by_turn true true e = let bad : ⊥ = cc in absurd bad
      by_turn true false e = refl
      by_turn false z e = refl

      by : (h l t : Bool) → (c.header == 0) ≡ h → nat_lt 0 c.left ≡ l → (c.turn == shape.read_wait + 1) ≡ t → ((h && l) && t) ≡ false
      by true true true hh hl ht =
          let none : c.header ≡ 0 = eqb_eq c.header 0 hh in
          let full : c.turn ≡ shape.read_wait + 1 = eqb_eq c.turn (shape.read_wait + 1) ht in
          let left : (next shape given c).left ≡ c.left =
          quiet.left shape given c idle
          ∙ ap (λ b. if b then c.main_out % 2 ^ 16 else if fills c && c.turn == 0 then c.left - 1 else c.left) (ne_eqb c.header 4 (omega (arith, none)))
          ∙ (by_turn (fills c) (c.turn == 0) (ne_eqb c.turn 0 (omega (arith, full)))) in
          let head : (next shape given c).header ≡ 0 = quiet.header shape given c idle ∙ ap (λ k. k - 1) none in
          let on : loads (next shape given c) ≡ true =
          ap (λ b. b || nat_lt 0 (next shape given c).left) (ge_is 0 (next shape given c).header (omega (arith, head))) ∙ ap (λ k. nat_lt 0 k) left ∙ hl in
          let bad : ⊥ = cc in absurd bad
      by true true false hh hl ht = refl
      by true false t hh hl ht = refl
      by false l t hh hl ht = refl

  read : HasRing (loads (next shape given c)) shape (next shape given c) (paused stall s) → HasRead shape.on_chip_words (next shape given c) (paused stall s)
  read ring =
      let r = registers in
      let refilled = idly.refill shape given c idle in
      let few = stands.read.refills in
      let mpc = idly.mpc shape given c idle in
      let reading = idly.reading shape given c idle in
      let N = shape.on_chip_words in
      let stays : takes_at_a (slice_index WORDS (next shape given c).mpc) ≡ false = ap (λ k. takes_at_a (slice_index WORDS k)) mpc ∙ apart in
      record {
        refills = omega (arith, refilled, few);
        word =
            subst (λ b. HasWord b (next shape given c)) (sym (ne_eqb (next shape given c).refill 2 (omega (arith, refilled, few))))
            (word_is ∙ ap (λ k. slice_index WORDS k) (sym mpc), idly.rom_out shape given c idle ∙ ap (λ k. slice_index WORDS ((k + 1) % 2048)) (sym mpc));
        below = below_ahead shape given c (stands.places) ∙ ap (λ (xs : List ℕ). slice_index xs (next shape given c).sp) r.on_chip ∙ ap (λ k. slice_index s.stack k) r.sp;
        loaded =
            loaded_ahead shape given c (stands.places)
            ∙ ap (λ (xs : List ℕ). slice_index xs (place_of N (next shape given c).word (next shape given c).vp (next shape given c).ar (next shape given c).operand)) r.on_chip
            ∙ ap (λ k. slice_index s.stack (place_of N (next shape given c).word k (next shape given c).ar (next shape given c).operand)) r.vp
            ∙ ap (λ k. slice_index s.stack (place_of N (next shape given c).word s.vp k (next shape given c).operand)) r.ar
            ∙ ap (λ k. slice_index s.stack (place_of N (next shape given c).word s.vp s.ar k)) r.operand;
        byte = λ _ off.
            byte_ahead shape given c (paused stall s) (no_last off) (ring_length shape given c s stands.is_ring) stands.is_cache
            (subst (λ b. HasRing b shape (next shape given c) (paused stall s)) off ring) (no_header off) (λ takes. absurd (no_takes takes))
            ∙ ap (λ k. code_byte (paused stall s) (byte_place (next shape given c).word k (next shape given c).jpc)) r.a
            ∙ ap (λ k. code_byte (paused stall s) (byte_place (next shape given c).word s.a k)) r.jpc;
        stalled = λ _. stays;
        value =
            subst (λ b. HasValue b (next shape given c) (paused stall s).port) (sym (ne_eqb (next shape given c).reading 1 (omega (arith, reading))))
            (idly.value shape given c idle ∙ value_of (c.reading == 1) c s.port stands.read.value);
      }
    where
      no_takes : takes_at_a (next shape given c).word ≡ true → ⊥
      no_takes takes = let off : takes_at_a (next shape given c).word ≡ false = ap takes_at_a word_is ∙ apart in let bad : ⊥ = cc in bad

      no_header : loads (next shape given c) ≡ false → (next shape given c).header < 4
      no_header off = elim (cases_lt 0 (next shape given c).header) [
        | inl some ↦ let on : loads (next shape given c) ≡ true = ap (λ b. b || nat_lt 0 (next shape given c).left) (lt_is 0 (next shape given c).header some) in let bad : ⊥ = cc in absurd bad
        | inr none ↦ omega (arith, none)
      ]

  pub idle_stands : HasRing (loads (next shape given c)) shape (next shape given c) (paused stall s)
      → stall ≡ (next shape given c).refill + load_left shape (next shape given c) (code_words s.port.words s.method)
      → ((next shape given c).refill ≡ 0) ⊎ (loads (next shape given c) ≡ false) → Stands shape (next shape given c) (paused stall s)
  idle_stands ring left one = let f = stands.has_shape in record {
    has_shape = record { on_chip = f.on_chip; memory = f.memory; read = f.read; write = f.write; places = f.places };
    is_ring = ring_length shape given c s stands.is_ring;
    is_cache = stands.is_cache;
    places = places_stay shape given c stands.places;
    address = let same = idly.mpc shape given c idle in let low = stands.address in omega (arith, same, low);
    registers = registers;
    read = read ring;
    stall = left;
    one = one;
    ring = ring;
  }
