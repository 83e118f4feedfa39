-- A clock in which a word runs is a cycle of the machine.
use Rattle.std.proofs.Common.{◌≡◌, ℕ, ◌+◌, ◌*◌, ◌%◌, ◌^◌, ◌<◌, ◌≤◌, ◌⊎◌, Bool, true, false, List, length, refl, sym, ap, subst, inl, inr, ◌∙◌, arith}
use Rattle.std.specs.Prelude.{◌==◌, ◌&&◌, ◌||◌, not, nat_lt, if◌then◌else◌, slice_index, slice_index_or}
use Rattle.std.proofs.lemmas.Bool.{and_parts, cases_lt}
use Rattle.std.proofs.lemmas.List.{get_or_past}
use Rattle.microcode.specs.declared.isa.Body.{Body}
use Rattle.microcode.specs.declared.isa.Body.TheVariants.{Plain}
use Rattle.method_cache.specs.Contents.{IsCache, is_cached}
use Rattle.method_cache.proofs.Loads.{IsCache-loaded}
use Rattle.jop_core.specs.declared.halt.Halt.TheVariants.{Running}
use Rattle.jop_core.specs.State.{MachineState}
use Rattle.jop_core.specs.Operations.{popped, looked_up, can_switch, code_words, code_place, code_of}
use Rattle.jop_core.specs.Cycle.{code_byte, counted, cycle_of, performed, with_flags}
use Rattle.jop_core.proofs.Kept.{cycles_keep}
use Rattle.circuit_cycles.specs.Shape.{Shape}
use Rattle.circuit_cycles.specs.Words.{bits_of, has_opd, has_nxt, is, stmra, stmwd, stbc, jbr, jbg, stjpc, place_of}
use Rattle.circuit_cycles.specs.Tags.{bit_of}
use Rattle.circuit_cycles.specs.Rom.{has_fit_flags}
use Rattle.circuit_cycles.specs.Core.{Core, Given, next, runs, does, dispatches, switches, is_taken, byte_place, has_words, main_place, main_writes}
use Rattle.circuit_cycles.specs.Methods.{IsRing}
use Rattle.circuit_cycles.specs.Stands.{Stands, HasShape, HasRegisters, HasRead, HasValue, HasRing, loads, load_left}
use Rattle.circuit_cycles.proofs.Rounds.{eqb_eq}
use Rattle.circuit_cycles.proofs.Signals.{Says, lt_is, ge_is}
use Rattle.circuit_cycles.proofs.Bodies.{body_does, body_taken, does_is, taken_is}
use Rattle.circuit_cycles.proofs.Ahead.{below_ahead, loaded_ahead, byte_ahead, places_stay}
use Rattle.circuit_cycles.proofs.UnderWay.{read_word}
use Rattle.circuit_cycles.proofs.Phases.{left_none, left_header, loads_header, loads_no}
use Rattle.circuit_cycles.proofs.IdleStands.{ring_length, value_of}
use Rattle.circuit_cycles.proofs.Awake.{IsAwake}
use Rattle.circuit_cycles.proofs.Following.{awake, own, cycle_is, fit, registers_follow}
use Rattle.circuit_cycles.proofs.Performed.{Leaves, performed_leaves, performed_value, performed_read, plain_of}
use Rattle.circuit_cycles.proofs.Switching.{CanSwitch, can_parts, range_length, held_in, cache_moves, no_word, no_left, no_header, cache_stays, hit_header, hits, miss_header, misses_load}
use Rattle.circuit_cycles.proofs.Fetching.{refill_is, address_stays, has_word, waits_behind, takes_ahead, stalled_apart}

-- a word that reads or switches has no flag
no_flags : (w : ℕ) → (is stmra w || is stbc w || is jbr w || is jbg w) ≡ true → has_fit_flags w ≡ true → (has_opd w ≡ false) × (has_nxt w ≡ false)
no_flags w this h =
    by (has_opd w) (has_nxt w) (sym (ap (λ b. if b then not (has_opd w || has_nxt w) else if is stjpc w then not (has_opd w) else not (has_opd w && has_nxt w)) this) ∙ h)
  where
    by : (o x : Bool) → not (o || x) ≡ true → (o ≡ false) × (x ≡ false)
    by true x e = let bad : ⊥ = cc in absurd bad
    by false true e = let bad : ⊥ = cc in absurd bad
    by false false e = (refl, refl)

module _ (shape : Shape) (given : Given) (c : Core) (s : MachineState) (alive : s.halt ≡ Running) (stands : Stands shape c s) (on : runs c ≡ true) where
  up : IsAwake c
  up = awake shape given c s alive stands on

  pub no_stall : s.stall ≡ 0
  no_stall =
      let none = left_none shape c (code_words s.port.words s.method) up.header up.left in
      let stall = stands.stall in
      let refill = up.refill in
      omega (arith, stall, none, refill)

  body : Body
  body = (own shape given c s alive stands on).micro.body

  said : Says c.word body
  unfolding body
  said = (own shape given c s alive stands on).said.body

  -- the microinstruction that the word does
  behind : (b : Body) → body ≡ b → (opd nxt : Bool) → has_opd c.word ≡ opd → has_nxt c.word ≡ nxt → cycle_of given.input s ≡ performed given.input (record { body = b; opd = opd; nxt = nxt }) (counted s)
  unfolding body
  behind b e opd nxt o x =
      let row = own shape given c s alive stands on in
      cycle_is shape given c s alive stands on
      ∙ ap (λ (k : Body). performed given.input (record { body = k; opd = row.micro.opd; nxt = row.micro.nxt }) (counted s)) e
      ∙ ap (λ k. performed given.input (record { body = b; opd = k; nxt = row.micro.nxt }) (counted s)) (sym row.said.opd ∙ o)
      ∙ ap (λ k. performed given.input (record { body = b; opd = opd; nxt = k }) (counted s)) (sym row.said.nxt ∙ x)

  -- ---- the port

  reads_no : does stmra c ≡ false → HasValue ((next shape given c).reading == 1) (next shape given c) (cycle_of given.input s).port
  unfolding next
  reads_no none =
      let kept = performed_value given.input c.word body (has_opd c.word) (has_nxt c.word) (counted s) said (sym (does_is c body 36 on said (omega arith)) ∙ none) in
      let same : (cycle_of given.input s).port.value ≡ s.port.value = ap (λ (t : MachineState). t.port.value) (behind body refl (has_opd c.word) (has_nxt c.word) refl refl) ∙ kept in
      subst (λ b. HasValue b (next shape given c) (cycle_of given.input s).port) (sym (ap (λ b. bit_of b == 1) none)) (value_of (c.reading == 1) c s.port stands.read.value ∙ sym same)

  module _ (reads : does stmra c ≡ true) where
    read_bits : bits_of c.word ≡ 36
    read_bits = eqb_eq (bits_of c.word) 36 (and_parts (runs c) (is stmra c.word) reads).1

    read_body : body ≡ Plain 36
    read_body = plain_of 36 body (sym (does_is c body 36 on said (omega arith)) ∙ reads)

    no_write : main_writes shape c ≡ false
    no_write = ap (λ r. r && is stmwd c.word && nat_lt c.write_address shape.memory_words) on ∙ ap (λ k. k == 38 && nat_lt c.write_address shape.memory_words) read_bits

    read_out : (next shape given c).main_out ≡ slice_index_or c.main (c.a % 2 ^ shape.memory_bits) given.main
    unfolding next
    read_out =
        let to = c.write_address % 2 ^ shape.memory_bits in
        ap (λ b. if b && to == main_place shape c then given.main else slice_index_or c.main (main_place shape c) given.main) no_write
        ∙ ap (λ b. slice_index_or c.main (if b then (if switches c then c.a + 1 else c.a) % 2 ^ shape.memory_bits else if has_words c then (c.place + 3) % 2 ^ shape.memory_bits else c.source) given.main) on
        ∙ ap (λ b. slice_index_or c.main ((if b then c.a + 1 else c.a) % 2 ^ shape.memory_bits) given.main)
        (ap (λ r. r && is stbc c.word) on ∙ ap (λ k. k == 41) read_bits)

    read_value : (cycle_of given.input s).port.value ≡ slice_index s.port.words s.a
    read_value =
        ap (λ (t : MachineState). t.port.value) (behind (Plain 36) read_body (has_opd c.word) (has_nxt c.word) refl refl) ∙ performed_read given.input (has_opd c.word) (has_nxt c.word) (counted s)

    -- the word that is read, and 0 past the end
    within_is : (if bit_of (nat_lt c.a shape.memory_words) == 1 then (next shape given c).main_out else 0) ≡ slice_index s.port.words s.a
    within_is =
        let size = stands.has_shape.memory in
        let room = stands.has_shape.places in
        elim (cases_lt s.a shape.memory_words) [
          | inl low ↦
              ap (λ k. if bit_of (nat_lt k shape.memory_words) == 1 then (next shape given c).main_out else 0) stands.registers.a
              ∙ ap (λ b. if bit_of b == 1 then (next shape given c).main_out else 0) (lt_is s.a shape.memory_words low)
              ∙ read_out
              ∙ ap (λ k. slice_index_or c.main (k % 2 ^ shape.memory_bits) given.main) stands.registers.a
              ∙ ap (λ (ws : List ℕ). slice_index_or ws (s.a % 2 ^ shape.memory_bits) given.main) stands.registers.main
              ∙ read_word s.port.words s.a shape.memory_bits given.main (omega (arith, low, size)) (omega (arith, size, room))
          | inr past ↦
              ap (λ k. if bit_of (nat_lt k shape.memory_words) == 1 then (next shape given c).main_out else 0) stands.registers.a
              ∙ ap (λ b. if bit_of b == 1 then (next shape given c).main_out else 0) (ge_is s.a shape.memory_words past)
              ∙ sym (get_or_past s.port.words s.a 0 (omega (arith, past, size)))
        ]

    reads_yes : HasValue ((next shape given c).reading == 1) (next shape given c) (cycle_of given.input s).port
    unfolding next
    reads_yes =
        let flags = no_flags c.word (ap (λ k. k == 36 || k == 41 || k == 42 || k == 43) read_bits) (fit shape given c s alive stands on) in
        let goes : is_taken c ≡ false = taken_is c body on said ∙ ap (λ (b : Body). body_taken b c.a) read_body in
        let stays : dispatches c ≡ false = ap (λ r. r && has_nxt c.word) on ∙ flags.1 in
        subst (λ b. HasValue b (next shape given c) (cycle_of given.input s).port) (sym (ap (λ b. bit_of b == 1) reads))
        (read_value ∙ sym within_is, waits_behind shape given c s alive stands on reads goes stays)

  value_is : HasValue ((next shape given c).reading == 1) (next shape given c) (cycle_of given.input s).port
  value_is = by (does stmra c) refl
    where
      by : (b : Bool) → does stmra c ≡ b → HasValue ((next shape given c).reading == 1) (next shape given c) (cycle_of given.input s).port
      by true e = reads_yes e
      by false e = reads_no e

  -- ---- all of it, of a state that is the machine behind the cycle

  module _ (t : MachineState) (same : cycle_of given.input s ≡ t) (cache : IsCache t.cache) (ring : HasRing (loads (next shape given c)) shape (next shape given c) t) where
    registers : HasRegisters (next shape given c) t
    registers = subst (λ k. HasRegisters (next shape given c) k) same (registers_follow shape given c s alive stands on)

    shape_stays : HasShape shape t
    shape_stays =
        let sizes = (cycles_keep given.input s).sizes in
        let f = stands.has_shape in
        subst (λ k. HasShape shape k) same (record {
          on_chip = sizes.stack ∙ f.on_chip;
          memory = sizes.memory ∙ f.memory;
          read = sizes.read ∙ f.read;
          write = sizes.write ∙ f.write;
          places = f.places;
        })

    ring_stays : IsRing shape (next shape given c).ring (next shape given c).tags t.cache
    ring_stays =
        let sizes = (cycles_keep given.input s).sizes in
        let is = ring_length shape given c s stands.is_ring in
        subst (λ (k : MachineState). IsRing shape (next shape given c).ring (next shape given c).tags k.cache) same (record {
          blocks = sizes.blocks ∙ is.blocks;
          block_words = sizes.block_words ∙ is.block_words;
          some_words = is.some_words;
          ring_words = is.ring_words;
          places = is.places;
          ring_length = is.ring_length;
          tags_length = is.tags_length;
        })

    few_header : loads (next shape given c) ≡ false → (next shape given c).header < 4
    few_header off = elim (cases_lt 0 (next shape given c).header) [
      | inl some ↦ let is : loads (next shape given c) ≡ true = ap (λ b. b || nat_lt 0 (next shape given c).left) (lt_is 0 (next shape given c).header some) in let bad : ⊥ = cc in absurd bad
      | inr none ↦ omega (arith, none)
    ]

    few_refills : (next shape given c).refill ≤ 2
    few_refills = by (is_taken c) refl
      where
        by : (k : Bool) → is_taken c ≡ k → (next shape given c).refill ≤ 2
        by true e = let r = refill_is shape given c s alive stands on true e in omega (arith, r)
        by false e = let r = refill_is shape given c s alive stands on false e in omega (arith, r)

    read_is : HasRead shape.on_chip_words (next shape given c) t
    read_is =
        let r = registers in
        let p = stands.places in
        let N = shape.on_chip_words in
        record {
          refills = few_refills;
          word = has_word shape given c s alive stands on;
          below = below_ahead shape given c p ∙ ap (λ (xs : List ℕ). slice_index xs (next shape given c).sp) r.on_chip ∙ ap (λ k. slice_index t.stack k) r.sp;
          loaded =
              loaded_ahead shape given c p
              ∙ ap (λ (xs : List ℕ). slice_index xs (place_of N (next shape given c).word (next shape given c).vp (next shape given c).ar (next shape given c).operand)) r.on_chip
              ∙ ap (λ k. slice_index t.stack (place_of N (next shape given c).word k (next shape given c).ar (next shape given c).operand)) r.vp
              ∙ ap (λ k. slice_index t.stack (place_of N (next shape given c).word t.vp k (next shape given c).operand)) r.ar
              ∙ ap (λ k. slice_index t.stack (place_of N (next shape given c).word t.vp t.ar k)) r.operand;
          byte = λ _ off.
              byte_ahead shape given c t (no_word shape given c s stands on) ring_stays cache
              (subst (λ b. HasRing b shape (next shape given c) t) off ring) (few_header off) (takes_ahead shape given c s alive stands on)
              ∙ ap (λ k. code_byte t (byte_place (next shape given c).word k (next shape given c).jpc)) r.a
              ∙ ap (λ k. code_byte t (byte_place (next shape given c).word t.a k)) r.jpc;
          stalled = stalled_apart shape given c s alive stands on;
          value = subst (λ (k : MachineState). HasValue ((next shape given c).reading == 1) (next shape given c) k.port) same value_is;
        }

    stands_so : t.stall ≡ (next shape given c).refill + load_left shape (next shape given c) (code_words t.port.words t.method)
        → ((next shape given c).refill ≡ 0) ⊎ (loads (next shape given c) ≡ false) → Stands shape (next shape given c) t
    stands_so stall one = record {
      has_shape = shape_stays;
      is_ring = ring_stays;
      is_cache = cache;
      places = places_stay shape given c stands.places;
      address = address_stays shape given c s alive stands on;
      registers = registers;
      read = read_is;
      stall = stall;
      one = one;
      ring = ring;
    }

  -- ---- no method is switched to

  stays : switches c ≡ false → Stands shape (next shape given c) (cycle_of given.input s)
  stays other =
      let d = next shape given c in
      let t = cycle_of given.input s in
      let header = no_header shape given c s stands on other in
      let left = no_left shape given c s stands on in
      let off : loads (next shape given c) ≡ false = loads_no (next shape given c) header left in
      let none : body_does 41 body ≡ false = sym (does_is c body 41 on said (omega arith)) ∙ other in
      let e = behind body refl (has_opd c.word) (has_nxt c.word) refl refl in
      let leaves : Leaves (body_taken body s.a) s (cycle_of given.input s) =
      subst (λ k. Leaves (body_taken body s.a) s k) (sym e) (leaves_counted (performed_leaves given.input c.word body (has_opd c.word) (has_nxt c.word) (counted s) said none)) in
      let goes : is_taken c ≡ body_taken body s.a = taken_is c body on said ∙ ap (body_taken body) stands.registers.a in
      let refill = refill_is shape given c s alive stands on (body_taken body s.a) goes in
      let idle = left_none shape (next shape given c) (code_words t.port.words t.method) header left in
      let stall : t.stall ≡ (if body_taken body s.a then 2 else 0) = leaves.stall ∙ ap (λ k. if body_taken body s.a then 2 else k) no_stall in
      stands_so (cycle_of given.input s) refl (subst IsCache (sym leaves.cache) stands.is_cache)
      (subst (λ b. HasRing b shape (next shape given c) (cycle_of given.input s)) (sym off) (cache_moves shape (next shape given c) s (cycle_of given.input s) leaves.cache leaves.method (cache_stays shape given c s stands on other)))
      (stall ∙ sym refill ∙ (let z : (next shape given c).refill ≡ (next shape given c).refill + load_left shape (next shape given c) (code_words t.port.words t.method) = omega (arith, idle) in z))
      (inr off)
    where
      leaves_counted : {k : Bool} {u : MachineState} → Leaves k (counted s) u → Leaves k s u
      leaves_counted h = record { cache = h.cache; method = h.method; stall = h.stall }

  -- ---- a method is switched to

  module _ (yes : switches c ≡ true) (can : can_switch s s.a ≡ true) where
    switch_bits : bits_of c.word ≡ 41
    switch_bits = eqb_eq (bits_of c.word) 41 (and_parts (runs c) (is stbc c.word) yes).1

    switch_body : body ≡ Plain 41
    switch_body = plain_of 41 body (sym (does_is c body 41 on said (omega arith)) ∙ yes)

    no_branch : is_taken c ≡ false
    no_branch = taken_is c body on said ∙ ap (λ (b : Body). body_taken b c.a) switch_body

    behind_look : (hit : Bool) → is_cached s.a s.cache ≡ hit → cycle_of given.input s ≡ with_flags (record { body = Plain 41; opd = false; nxt = false }) (looked_up hit s.a (popped (counted s)))
    behind_look hit held =
        let flags = no_flags c.word (ap (λ k. k == 36 || k == 41 || k == 42 || k == 43) switch_bits) (fit shape given c s alive stands on) in
        behind (Plain 41) switch_body false false flags.0 flags.1
        ∙ ap (λ b. with_flags (record { body = Plain 41; opd = false; nxt = false }) (if b then looked_up (is_cached s.a s.cache) s.a (popped (counted s)) else popped (counted s))) can
        ∙ ap (λ b. with_flags (record { body = Plain 41; opd = false; nxt = false }) (looked_up b s.a (popped (counted s)))) held

    hit : is_cached s.a s.cache ≡ true → Stands shape (next shape given c) (cycle_of given.input s)
    hit held =
        let e = behind_look true held in
        let h = held_in s.a s.cache.contents held in
        let header = hit_header shape given c s stands on yes (can_parts s s.a can) h in
        let left = no_left shape given c s stands on in
        let off : loads (next shape given c) ≡ false = loads_no (next shape given c) header left in
        let refill = refill_is shape given c s alive stands on false no_branch in
        let idle = left_none shape (next shape given c) (code_words s.port.words s.a) header left in
        let none = no_stall in
        subst (λ t. Stands shape (next shape given c) t) (sym e)
        (stands_so (with_flags (record { body = Plain 41; opd = false; nxt = false }) (looked_up true s.a (popped (counted s)))) e stands.is_cache
        (subst (λ b. HasRing b shape (next shape given c) (with_flags (record { body = Plain 41; opd = false; nxt = false }) (looked_up true s.a (popped (counted s))))) (sym off) (hits shape given c s stands on yes (can_parts s s.a can) h))
        (let z : s.stall ≡ (next shape given c).refill + load_left shape (next shape given c) (code_words s.port.words s.a) = omega (arith, none, refill, idle) in z)
        (inr off))

    miss : is_cached s.a s.cache ≡ false → Stands shape (next shape given c) (cycle_of given.input s)
    miss absent =
        let e = behind_look false absent in
        let parts = can_parts s s.a can in
        let header = miss_header shape given c s stands on yes parts absent in
        let busy : loads (next shape given c) ≡ true = loads_header (next shape given c) (omega (arith, header)) in
        let refill = refill_is shape given c s alive stands on false no_branch in
        let left = left_header shape (next shape given c) (code_words s.port.words s.a) (omega (arith, header)) in
        let wait = stands.has_shape.read in
        let stall : 4 + code_words s.port.words s.a * (2 + s.port.read) ≡ (next shape given c).header + code_words s.port.words s.a * (2 + shape.read_wait) =
        ap (λ k. 4 + code_words s.port.words s.a * (2 + k)) wait ∙ ap (λ k. k + code_words s.port.words s.a * (2 + shape.read_wait)) (sym header) in
        let below = stands.is_cache.next in
        subst (λ t. Stands shape (next shape given c) t) (sym e)
        (stands_so (with_flags (record { body = Plain 41; opd = false; nxt = false }) (looked_up false s.a (popped (counted s)))) e
        (IsCache-loaded s.a (code_of s s.a) s.cache (omega (arith, below)) stands.is_cache absent (some_words parts))
        (subst (λ b. HasRing b shape (next shape given c) (with_flags (record { body = Plain 41; opd = false; nxt = false }) (looked_up false s.a (popped (counted s))))) (sym busy) (misses_load shape given c s stands on yes parts absent))
        (stall ∙ sym left ∙ (let z : load_left shape (next shape given c) (code_words s.port.words s.a) ≡ (next shape given c).refill + load_left shape (next shape given c) (code_words s.port.words s.a) = omega (arith, refill) in z))
        (inl refill))
      where
        some_words : CanSwitch s s.a → 0 < length (code_of s s.a)
        some_words p = let count = p.some in let long = range_length s.port.words (code_place s.port.words s.a) (code_words s.port.words s.a) p.inside in omega (arith, count, long)

  -- the clock is a cycle
  pub running_clock : (switches c ≡ true → can_switch s s.a ≡ true) → Stands shape (next shape given c) (cycle_of given.input s)
  running_clock can = by (switches c) refl (is_cached s.a s.cache) refl
    where
      by : (k : Bool) → switches c ≡ k → (h : Bool) → is_cached s.a s.cache ≡ h → Stands shape (next shape given c) (cycle_of given.input s)
      by false e h f = stays e
      by true e true f = hit e (can e) f
      by true e false f = miss e (can e) f
