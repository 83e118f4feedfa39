-- Behind the start-up clock the circuit stands for the machine.
use Rattle.std.proofs.Common.{◌≡◌, ℕ, ◌+◌, ◌-◌, ◌%◌, ◌^◌, false, List, sym, ap, subst, inl, ◌∙◌, arith}
use Rattle.std.specs.Prelude.{◌==◌, ◌&&◌, not, if◌then◌else◌, slice_set, slice_index}
use Rattle.std.proofs.lemmas.Bool.{ne_eqb}
use Rattle.microcode.specs.declared.TheConstants.{WORDS}
use Rattle.jop_core.specs.State.{MachineState}
use Rattle.jop_core.specs.Operations.{code_words}
use Rattle.jop_core.specs.Cycle.{code_byte}
use Rattle.circuit_cycles.specs.Shape.{Shape}
use Rattle.circuit_cycles.specs.Tags.{behind}
use Rattle.circuit_cycles.specs.Words.{place_of, takes_at_a, stmra, stmwd}
use Rattle.circuit_cycles.specs.Core.{Core, Given, next, goes, runs, does, is_stalled, waits, byte_place, fills_word, tag_taken}
use Rattle.circuit_cycles.specs.Stands.{Stands, HasRegisters, HasRead, HasWord, HasValue, HasCache, HasRing, loads}
use Rattle.circuit_cycles.specs.Starting.{IsStarting, StartsStand}
use Rattle.circuit_cycles.proofs.Quiet as quiet
use Rattle.circuit_cycles.proofs.Idle as idly
use Rattle.circuit_cycles.proofs.UnderWay.{SameRing, ring_same}
use Rattle.circuit_cycles.proofs.Phases.{left_none, loads_no}
use Rattle.circuit_cycles.proofs.Ahead.{below_ahead, loaded_ahead, byte_ahead, places_stay}
use Rattle.circuit_cycles.proofs.IdleStands.{ring_length}
use Rattle.circuit_cycles.proofs.IdleClocks.{IsQuiet, no_fill, no_left}

module _ (shape : Shape) (given : Given) (c : Core) (s : MachineState) (h : IsStarting shape c s) where
  rests : goes c ≡ false
  rests = ap (λ k. k == 0 && c.halt == 0) h.starting

  idle : runs c ≡ false
  idle = ap (λ b. b && not (is_stalled c) && not (waits c)) rests

  is_quiet : IsQuiet c
  is_quiet = record { header = h.header; left = h.left }

  none : fills_word shape c ≡ false
  none = no_fill shape c is_quiet

  count_is : (next shape given c).count ≡ c.count
  unfolding next
  count_is =
      ap (λ p. if p then shape.read_wait + 1 else if does stmwd c then shape.write_wait + 1 else if goes c then c.count - 1 else c.count) (idly.does_no shape given c idle stmra)
      ∙ ap (λ p. if p then shape.write_wait + 1 else if goes c then c.count - 1 else c.count) (idly.does_no shape given c idle stmwd)
      ∙ ap (λ p. if p then c.count - 1 else c.count) rests

  registers : HasRegisters (next shape given c) s
  registers = let r = h.registers in record {
    a = idly.a shape given c idle ∙ r.a;
    b = idly.b shape given c idle ∙ r.b;
    sp = idly.sp shape given c idle ∙ r.sp;
    vp = idly.vp shape given c idle ∙ r.vp;
    ar = idly.ar shape given c idle ∙ r.ar;
    jpc = idly.jpc shape given c idle ∙ r.jpc;
    mpc = idly.mpc shape given c idle ∙ r.mpc;
    operand = idly.operand shape given c idle ∙ r.operand;
    opcode = idly.opcode shape given c idle ∙ r.opcode;
    halt = idly.halt shape given c idle ∙ r.halt;
    on_chip = idly.on_chip shape given c idle ∙ r.on_chip;
    main = idly.main shape given c idle ∙ r.main;
    write_address = idly.write_address shape given c idle ∙ r.write_address;
    count = count_is ∙ r.count;
    begun = idly.begun shape given c idle;
  }

  still_quiet : IsQuiet (next shape given c)
  still_quiet = record { header = quiet.header shape given c idle ∙ ap (λ k. k - 1) h.header; left = no_left shape given c idle is_quiet }

  off : loads (next shape given c) ≡ false
  off = let q = still_quiet in loads_no (next shape given c) q.header q.left

  cache : HasCache shape (next shape given c) s
  cache =
      let same : SameRing c (next shape given c) = record {
        ring = quiet.ring shape given c idle ∙ ap (λ b. if b then slice_set c.ring c.target c.main_out else c.ring) none;
        tags = quiet.tags shape given c idle ∙ ap (λ b. if b && c.in_block == 0 then slice_set c.tags c.next_block (tag_taken c) else c.tags) none;
        next_block = quiet.next_block shape given c idle ∙ ap (λ b. if b && c.in_block == 0 then behind shape.blocks c.next_block else c.next_block) none;
        base = quiet.base shape given c idle;
        place = quiet.place shape given c idle;
      } in
      let was = h.cache in
      let cur = was.current in
      let head = h.header in
      record {
        methods = ring_same shape c (next shape given c) s.cache same was.methods;
        newer = was.newer;
        method = was.method;
        older = was.older;
        current = record {
          split = cur.split;
          method = cur.method;
          place = same.place ∙ cur.place;
          base = same.base ∙ cur.base;
          words = λ _.
              quiet.words shape given c idle ∙ ap (λ b. if b then c.main_out % 2 ^ 16 else c.words) (ne_eqb c.header 4 (omega (arith, head)))
              ∙ cur.words (omega (arith, head));
        };
      }

  mpc_is : (next shape given c).mpc ≡ c.mpc
  mpc_is = idly.mpc shape given c idle

  word_is : (next shape given c).word ≡ c.word
  word_is = let e = h.refill in idly.word shape given c idle ∙ ap (λ b. if b then c.rom_out else c.word) (ne_eqb c.refill 2 (omega (arith, e)))

  refill_is : (next shape given c).refill ≡ 0
  refill_is = idly.refill shape given c idle ∙ ap (λ k. k - 1) h.refill

  read : HasRead shape.on_chip_words (next shape given c) s
  read =
      let r = registers in
      let p = h.places in
      let N = shape.on_chip_words in
      let none' = refill_is in
      let reading = idly.reading shape given c idle in
      let q = still_quiet in
      let head = q.header in
      let was = h.reading in
      let apart : takes_at_a (next shape given c).word ≡ false = ap takes_at_a word_is ∙ h.apart in
      record {
        refills = omega (arith, none');
        word =
            subst (λ b. HasWord b (next shape given c)) (sym (ne_eqb (next shape given c).refill 2 (omega (arith, none'))))
            (word_is ∙ h.word ∙ ap (λ k. slice_index WORDS k) (sym mpc_is), idly.rom_out shape given c idle ∙ ap (λ k. slice_index WORDS ((k + 1) % 2048)) (sym mpc_is));
        below = below_ahead shape given c p ∙ ap (λ (xs : List ℕ). slice_index xs (next shape given c).sp) r.on_chip ∙ ap (λ k. slice_index s.stack k) r.sp;
        loaded =
            loaded_ahead shape given c p
            ∙ ap (λ (xs : List ℕ). slice_index xs (place_of N (next shape given c).word (next shape given c).vp (next shape given c).ar (next shape given c).operand)) r.on_chip
            ∙ ap (λ k. slice_index s.stack (place_of N (next shape given c).word k (next shape given c).ar (next shape given c).operand)) r.vp
            ∙ ap (λ k. slice_index s.stack (place_of N (next shape given c).word s.vp k (next shape given c).operand)) r.ar
            ∙ ap (λ k. slice_index s.stack (place_of N (next shape given c).word s.vp s.ar k)) r.operand;
        byte = λ _ _.
            byte_ahead shape given c s none (ring_length shape given c s h.is_ring) h.is_cache cache (omega (arith, head)) (λ takes. let bad : ⊥ = cc in absurd bad)
            ∙ ap (λ k. code_byte s (byte_place (next shape given c).word k (next shape given c).jpc)) r.a
            ∙ ap (λ k. code_byte s (byte_place (next shape given c).word s.a k)) r.jpc;
        stalled = λ _. ap (λ k. takes_at_a (slice_index WORDS k)) mpc_is ∙ ap takes_at_a (sym h.word) ∙ h.apart;
        value =
            subst (λ b. HasValue b (next shape given c) s.port) (sym (ne_eqb (next shape given c).reading 1 (omega (arith, reading))))
            (idly.value shape given c idle ∙ ap (λ b. if b then (if c.within == 1 then c.main_out else 0) else c.value) (ne_eqb c.reading 1 (omega (arith, was))) ∙ h.value);
      }

  started : Stands shape (next shape given c) s
  started =
      let q = still_quiet in
      let none' = refill_is in
      let idle_load = left_none shape (next shape given c) (code_words s.port.words s.method) q.header q.left in
      let calm = h.stall in
      let low = h.address in
      let same = mpc_is in
      record {
        has_shape = h.has_shape;
        is_ring = ring_length shape given c s h.is_ring;
        is_cache = h.is_cache;
        places = places_stay shape given c h.places;
        address = omega (arith, low, same);
        registers = registers;
        read = read;
        stall = omega (arith, none', idle_load, calm);
        one = inl none';
        ring = subst (λ b. HasRing b shape (next shape given c) s) (sym off) cache;
      }

pub starts_stand : StartsStand
starts_stand shape given c s h = started shape given c s h
