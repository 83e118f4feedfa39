-- A clock in which a word with a number runs: its registers.
use Rattle.std.proofs.Common.{◌≡◌, ℕ, ◌+◌, ◌-◌, ◌*◌, ◌%◌, ◌^◌, ◌<◌, ◌≤◌, Bool, true, false, length, refl, sym, ap, mod-eq_of_lt, ◌∙◌, arith}
use Rattle.std.specs.Prelude.{◌==◌, ◌&&◌, ◌||◌, not, nat_lt, if◌then◌else◌, slice_set, slice_index}
use Rattle.std.proofs.lemmas.Bool.{ne_eqb}
use Rattle.base.specs.Signed.{holds}
use Rattle.microcode.specs.declared.isa.Body.{Body}
use Rattle.microcode.specs.declared.isa.Body.TheVariants.{Plain, Stm, Ldm, Ldi, Bz, Bnz, Jmp}
use Rattle.jop_core.specs.State.{MachineState}
use Rattle.jop_core.specs.Operations.{combined, popped, pushed as pushed_on, stored, word_at}
use Rattle.jop_core.specs.Cycle.{code_byte, counted, branched, with_flags, performed}
use Rattle.circuit_cycles.specs.Shape.{Shape}
use Rattle.circuit_cycles.specs.Words.{bits_of, has_opd, has_nxt, is_plain, is_stm, is_ldm, is_binary, operation_in, plain_place, place_of, stores_plain, takes_at_a, stvp, stsp, stjpc, star, stmra, stmwa, stmwd, jbr, jbg, hltb, hltu}
use Rattle.circuit_cycles.specs.Core.{Core, Given, next, goes, runs, does, pushes, pops, dispatches, writes, is_taken, pushed, pushed_plain, top, below, loaded, byte, target, moved, entry_of, write_place, written}
use Rattle.circuit_cycles.specs.Stands.{HasRegisters, halt_code}
use Rattle.circuit_cycles.proofs.Signals.{Kind, Says, HasFlags}
use Rattle.circuit_cycles.proofs.Bodies.{numbered_no, taken_by, pushes_by, pops_by, writes_by, or_false}
use Rattle.circuit_cycles.proofs.Spelled.{machine, shaped, IsReady}

-- what holds of the core where such a word runs
record IsNumbered (c : Core) (pushing popping storing taken : Bool) : Type 0 where
  on : runs c ≡ true
  going : goes c ≡ true
  plain : is_plain c.word ≡ false
  far : 64 ≤ bits_of c.word
  pushes_is : pushes c ≡ pushing
  pops_is : pops c ≡ popping
  writes_is : writes c ≡ (pushing || storing)
  taken_is : is_taken c ≡ taken

module _ (shape : Shape) (given : Given) (c : Core) (pushing popping storing taken : Bool) (h : IsNumbered c pushing popping storing taken) where
  none : (code : ℕ) → code < 48 → does code c ≡ false
  none code low = numbered_no c code h.on h.far low

  a_is : (next shape given c).a ≡ (if pushing then loaded c else if popping then c.b else c.a)
  unfolding next
  a_is =
      ap (λ p. if p then pushed given.input c else if pops c then top c else c.a) h.pushes_is
      ∙ ap (λ p. if pushing then pushed given.input c else if p then top c else c.a) h.pops_is
      ∙ ap (λ p. if pushing then (if p then pushed_plain (operation_in c.word) given.input c else loaded c) else if popping then top c else c.a) h.plain
      ∙ ap (λ p. if pushing then loaded c else if popping then (if p && is_binary (operation_in c.word) then combined (operation_in c.word) c.b c.a else c.b) else c.a) h.plain

  b_is : (next shape given c).b ≡ (if pushing then c.a else if popping then below c else c.b)
  unfolding next
  b_is =
      ap (λ p. if p then c.a else if pops c then below c else c.b) h.pushes_is
      ∙ ap (λ p. if pushing then c.a else if p then below c else c.b) h.pops_is

  sp_is : (next shape given c).sp ≡ (if pushing then (c.sp + 1) % shape.on_chip_words else if popping then (c.sp + (shape.on_chip_words - 1)) % shape.on_chip_words else c.sp)
  unfolding next
  sp_is =
      let n = shape.on_chip_words in
      ap (λ p. if p then c.a % n else if pushes c then (c.sp + 1) % n else if pops c then (c.sp + (n - 1)) % n else c.sp) (none stsp (omega arith))
      ∙ ap (λ p. if p then (c.sp + 1) % n else if pops c then (c.sp + (n - 1)) % n else c.sp) h.pushes_is
      ∙ ap (λ p. if pushing then (c.sp + 1) % n else if p then (c.sp + (n - 1)) % n else c.sp) h.pops_is

  on_chip_is : (next shape given c).on_chip
      ≡ (if pushing || storing then slice_set c.on_chip (if pushing then (c.sp + 1) % shape.on_chip_words else place_of shape.on_chip_words c.word c.vp c.ar c.operand) (if pushing then c.b else c.a) else c.on_chip)
  unfolding next
  on_chip_is =
      let n = shape.on_chip_words in
      ap (λ p. if p then slice_set c.on_chip (write_place n c) (written c) else c.on_chip) h.writes_is
      ∙ ap (λ p. if pushing || storing then slice_set c.on_chip (if p then (c.sp + 1) % n else place_of n c.word c.vp c.ar c.operand) (if p then c.b else c.a) else c.on_chip) h.pushes_is

  vp_is : (next shape given c).vp ≡ c.vp
  unfolding next
  vp_is = ap (λ p. if p then c.a % shape.on_chip_words else c.vp) (none stvp (omega arith))

  ar_is : (next shape given c).ar ≡ c.ar
  unfolding next
  ar_is = ap (λ p. if p then c.a % shape.on_chip_words else c.ar) (none star (omega arith))

  halt_is : (next shape given c).halt ≡ c.halt
  unfolding next
  halt_is =
      ap (λ p. if p && c.vp == 64 then 2 else if does hltb c && c.vp == 64 then 1 else c.halt) (none hltu (omega arith))
      ∙ ap (λ p. if p && c.vp == 64 then 1 else c.halt) (none hltb (omega arith))

  main_is : (next shape given c).main ≡ c.main
  unfolding next
  main_is = ap (λ p. if p && nat_lt c.write_address shape.memory_words then slice_set c.main (c.write_address % 2 ^ shape.memory_bits) c.a else c.main) (none stmwd (omega arith))

  write_address_is : (next shape given c).write_address ≡ c.write_address
  unfolding next
  write_address_is = ap (λ p. if p then c.a else c.write_address) (none stmwa (omega arith))

  count_is : (next shape given c).count ≡ c.count - 1
  unfolding next
  count_is =
      ap (λ p. if p then shape.read_wait + 1 else if does stmwd c then shape.write_wait + 1 else if goes c then c.count - 1 else c.count) (none stmra (omega arith))
      ∙ ap (λ p. if p then shape.write_wait + 1 else if goes c then c.count - 1 else c.count) (none stmwd (omega arith))
      ∙ ap (λ p. if p then c.count - 1 else c.count) h.going

  begun_is : (next shape given c).starting ≡ 0
  unfolding next
  begun_is = refl

  moved_is : moved c ≡ c.jpc
  moved_is =
      ap (λ p. if p || does jbr c && holds c.opcode c.b c.a then target c else if does stjpc c then c.a % 2 ^ 16 else c.jpc) (none jbg (omega arith))
      ∙ ap (λ p. if p && holds c.opcode c.b c.a then target c else if does stjpc c then c.a % 2 ^ 16 else c.jpc) (none jbr (omega arith))
      ∙ ap (λ p. if p then c.a % 2 ^ 16 else c.jpc) (none stjpc (omega arith))

  module _ (opd nxt : Bool) (opd_is : has_opd c.word ≡ opd) (nxt_is : has_nxt c.word ≡ nxt) where
    dispatches_is : dispatches c ≡ nxt
    dispatches_is = ap (λ r. r && has_nxt c.word) h.on ∙ nxt_is

    jpc_is : (next shape given c).jpc ≡ (if opd || nxt then (c.jpc + 1) % 2 ^ 16 else c.jpc)
    unfolding next
    jpc_is =
        ap (λ r. if r && (has_opd c.word || has_nxt c.word) then (moved c + 1) % 2 ^ 16 else moved c) h.on
        ∙ ap (λ k. if has_opd c.word || has_nxt c.word then (k + 1) % 2 ^ 16 else k) moved_is
        ∙ ap (λ x. if x || has_nxt c.word then (c.jpc + 1) % 2 ^ 16 else c.jpc) opd_is
        ∙ ap (λ x. if opd || x then (c.jpc + 1) % 2 ^ 16 else c.jpc) nxt_is

    operand_is : (next shape given c).operand ≡ (if nxt then 0 else if opd then (c.operand * 2 ^ 8 + byte c) % 2 ^ 32 else c.operand)
    unfolding next
    operand_is =
        ap (λ p. if p then 0 else if runs c && has_opd c.word then (c.operand * 2 ^ 8 + byte c) % 2 ^ 32 else c.operand) dispatches_is
        ∙ ap (λ r. if nxt then 0 else if r && has_opd c.word then (c.operand * 2 ^ 8 + byte c) % 2 ^ 32 else c.operand) h.on
        ∙ ap (λ x. if nxt then 0 else if x then (c.operand * 2 ^ 8 + byte c) % 2 ^ 32 else c.operand) opd_is

    opcode_is : (next shape given c).opcode ≡ (if nxt then byte c else c.opcode)
    unfolding next
    opcode_is = ap (λ p. if p then byte c else c.opcode) dispatches_is

    mpc_is : (next shape given c).mpc ≡ (if taken then c.word % 2 ^ 11 else if nxt then entry_of (byte c) else (c.mpc + 1) % 2048)
    unfolding next
    mpc_is =
        ap (λ p. if p then c.word % 2 ^ 11 else if dispatches c then entry_of (byte c) else if runs c then (c.mpc + 1) % 2048 else c.mpc) h.taken_is
        ∙ ap (λ p. if taken then c.word % 2 ^ 11 else if p then entry_of (byte c) else if runs c then (c.mpc + 1) % 2048 else c.mpc) dispatches_is
        ∙ ap (λ r. if taken then c.word % 2 ^ 11 else if nxt then entry_of (byte c) else if r then (c.mpc + 1) % 2048 else c.mpc) h.on

-- the byte that such a word takes is that at jpc
byte_is : (c : Core) (s : MachineState) → 64 ≤ bits_of c.word → code_byte (machine c s) (if takes_at_a c.word then c.a % 2 ^ 16 else c.jpc) ≡ code_byte (machine c s) c.jpc
byte_is c s far =
    ap (λ b. code_byte (machine c s) (if b && has_nxt c.word then c.a % 2 ^ 16 else c.jpc)) (ne_eqb (bits_of c.word) stjpc (omega (arith, far)))

-- the registers that no flag changes
record Bare (d : Core) (t : MachineState) : Type 0 where
  a : d.a ≡ t.a
  b : d.b ≡ t.b
  sp : d.sp ≡ t.sp
  vp : d.vp ≡ t.vp
  ar : d.ar ≡ t.ar
  halt : d.halt ≡ halt_code t.halt
  on_chip : d.on_chip ≡ t.stack
  main : d.main ≡ t.port.words
  write_address : d.write_address ≡ t.write_address
  count : d.count ≡ t.port.count
  begun : d.starting ≡ 0

-- the registers that a flag changes, by what they were and the byte at jpc
record Flagged (opd nxt : Bool) (d : Core) (jpc operand opcode mpc byte : ℕ) : Type 0 where
  jpc_is : d.jpc ≡ (if opd || nxt then (jpc + 1) % 2 ^ 16 else jpc)
  operand_is : d.operand ≡ (if nxt then 0 else if opd then (operand * 2 ^ 8 + byte) % 2 ^ 32 else operand)
  opcode_is : d.opcode ≡ (if nxt then byte else opcode)
  mpc_is : d.mpc ≡ (if nxt then entry_of byte else (mpc + 1) % 2048)

with_both : (body : Body) (opd nxt : Bool) (d : Core) (t : MachineState) → not (opd && nxt) ≡ true → Bare d t → Flagged opd nxt d t.jpc t.operand t.opcode t.mpc (code_byte t t.jpc)
    → HasRegisters d (with_flags (record { body = body; opd = opd; nxt = nxt }) t)
with_both body false false d t fit h f = record { a = h.a; b = h.b; sp = h.sp; vp = h.vp; ar = h.ar; jpc = f.jpc_is; mpc = f.mpc_is; operand = f.operand_is; opcode = f.opcode_is; halt = h.halt; on_chip = h.on_chip; main = h.main; write_address = h.write_address; count = h.count; begun = h.begun }
with_both body true false d t fit h f = record { a = h.a; b = h.b; sp = h.sp; vp = h.vp; ar = h.ar; jpc = f.jpc_is; mpc = f.mpc_is; operand = f.operand_is; opcode = f.opcode_is; halt = h.halt; on_chip = h.on_chip; main = h.main; write_address = h.write_address; count = h.count; begun = h.begun }
with_both body false true d t fit h f = record { a = h.a; b = h.b; sp = h.sp; vp = h.vp; ar = h.ar; jpc = f.jpc_is; mpc = f.mpc_is; operand = f.operand_is; opcode = f.opcode_is; halt = h.halt; on_chip = h.on_chip; main = h.main; write_address = h.write_address; count = h.count; begun = h.begun }
with_both body true true d t fit h f = let bad : ⊥ = cc in absurd bad

branching : (taken : Bool) (to : ℕ) (d : Core) (t : MachineState) → Bare d t → d.jpc ≡ t.jpc → d.operand ≡ t.operand → d.opcode ≡ t.opcode → d.mpc ≡ (if taken then to else (t.mpc + 1) % 2048) → HasRegisters d (branched taken to t)
branching true to d t h jpc operand opcode mpc = record { a = h.a; b = h.b; sp = h.sp; vp = h.vp; ar = h.ar; jpc = jpc; mpc = mpc; operand = operand; opcode = opcode; halt = h.halt; on_chip = h.on_chip; main = h.main; write_address = h.write_address; count = h.count; begun = h.begun }
branching false to d t h jpc operand opcode mpc = record { a = h.a; b = h.b; sp = h.sp; vp = h.vp; ar = h.ar; jpc = jpc; mpc = mpc; operand = operand; opcode = opcode; halt = h.halt; on_chip = h.on_chip; main = h.main; write_address = h.write_address; count = h.count; begun = h.begun }

-- the on-chip place of a word with a number
module _ (n word vp ar operand : ℕ) (big : 64 ≤ n) where
  stored_place : (place : ℕ) → Kind word false true false false false false false → word % 2 ^ 5 ≡ place → place < 32 → place_of n word vp ar operand ≡ place % n
  stored_place place k number low =
      ap (λ b. if b then 32 + word % 2 ^ 5 else if is_stm word || is_ldm word then word % 2 ^ 5 else plain_place (operation_in word) n vp ar operand) k.ldi_is
      ∙ ap (λ b. if b || is_ldm word then word % 2 ^ 5 else plain_place (operation_in word) n vp ar operand) k.stm_is
      ∙ number ∙ sym (mod-eq_of_lt (let e : place < n = omega (arith, low, big) in e))

  loaded_place : (place : ℕ) → Kind word false false true false false false false → word % 2 ^ 5 ≡ place → place < 32 → place_of n word vp ar operand ≡ place % n
  loaded_place place k number low =
      ap (λ b. if b then 32 + word % 2 ^ 5 else if is_stm word || is_ldm word then word % 2 ^ 5 else plain_place (operation_in word) n vp ar operand) k.ldi_is
      ∙ ap (λ b. if b || is_ldm word then word % 2 ^ 5 else plain_place (operation_in word) n vp ar operand) k.stm_is
      ∙ ap (λ b. if b then word % 2 ^ 5 else plain_place (operation_in word) n vp ar operand) k.ldm_is
      ∙ number ∙ sym (mod-eq_of_lt (let e : place < n = omega (arith, low, big) in e))

  constant_place : (number : ℕ) → Kind word false false false true false false false → word % 2 ^ 5 ≡ number → number < 32 → place_of n word vp ar operand ≡ (32 + number) % n
  constant_place number k same low =
      ap (λ b. if b then 32 + word % 2 ^ 5 else if is_stm word || is_ldm word then word % 2 ^ 5 else plain_place (operation_in word) n vp ar operand) k.ldi_is
      ∙ ap (λ m. 32 + m) same ∙ sym (mod-eq_of_lt (let e : 32 + number < n = omega (arith, low, big) in e))

module _ (shape : Shape) (given : Given) (c : Core) (s : MachineState) (on : runs c ≡ true) (going : goes c ≡ true) (halted : c.halt ≡ 0) (some : 64 ≤ length c.on_chip) (r : IsReady (shaped shape c s.port) c (machine c s)) (opd nxt : Bool) (opd_is : has_opd c.word ≡ opd) (nxt_is : has_nxt c.word ≡ nxt) (fit : not (opd && nxt) ≡ true) where
  abbrev N : Shape
  N = shaped shape c s.port

  abbrev clock : Core
  clock = next N given c

  abbrev start : MachineState
  start = counted (machine c s)

  flagged : (pushing popping storing : Bool) → IsNumbered c pushing popping storing false → Flagged opd nxt clock c.jpc c.operand c.opcode c.mpc (code_byte (machine c s) c.jpc)
  flagged p q w h =
      let same : byte c ≡ code_byte (machine c s) c.jpc = r.byte ∙ byte_is c s h.far in
      record {
        jpc_is = jpc_is N given c p q w false h opd nxt opd_is nxt_is;
        operand_is = operand_is N given c p q w false h opd nxt opd_is nxt_is ∙ ap (λ k. if nxt then 0 else if opd then (c.operand * 2 ^ 8 + k) % 2 ^ 32 else c.operand) same;
        opcode_is = opcode_is N given c p q w false h opd nxt opd_is nxt_is ∙ ap (λ k. if nxt then k else c.opcode) same;
        mpc_is = mpc_is N given c p q w false h opd nxt opd_is nxt_is ∙ ap (λ k. if nxt then entry_of k else (c.mpc + 1) % 2048) same;
      }

  pub numbered_follows : (body : Body) → Says c.word body → is_plain c.word ≡ false → HasFlags body opd nxt → HasRegisters clock (performed given.input (record { body = body; opd = opd; nxt = nxt }) start)
  numbered_follows (Plain code) said other flags = let off = said.0.plain_is in let bad : ⊥ = cc in absurd bad
  numbered_follows (Stm place) said other flags =
      let k = said.0 in
      let h : IsNumbered c false true true false = record {
        on = on;
        going = going;
        plain = k.plain_is;
        far = said.3;
        pushes_is = pushes_by c on false true false false false false false k;
        pops_is = pops_by c on false true false false false false false k;
        writes_is = writes_by c on false true false false false false false k ∙ ap (λ x. x || (false && stores_plain (operation_in c.word) || true)) (pushes_by c on false true false false false false false k);
        taken_is = taken_by c on false true false false false false false k;
      } in
      let t = stored place start in
      let bare : Bare clock t = record {
        a = a_is N given c false true true false h;
        b = b_is N given c false true true false h ∙ r.below;
        sp = sp_is N given c false true true false h;
        vp = vp_is N given c false true true false h;
        ar = ar_is N given c false true true false h;
        halt = halt_is N given c false true true false h ∙ halted;
        on_chip = on_chip_is N given c false true true false h ∙ ap (λ m. slice_set c.on_chip m c.a) (stored_place (length c.on_chip) c.word c.vp c.ar c.operand some place k said.1 said.2);
        main = main_is N given c false true true false h;
        write_address = write_address_is N given c false true true false h;
        count = count_is N given c false true true false h;
        begun = begun_is N given c false true true false h;
      } in
      with_both (Stm place) opd nxt clock t fit bare (flagged false true true h)
  numbered_follows (Ldm place) said other flags =
      let k = said.0 in
      let h : IsNumbered c true false false false = record {
        on = on;
        going = going;
        plain = k.plain_is;
        far = said.3;
        pushes_is = pushes_by c on false false true false false false false k;
        pops_is = pops_by c on false false true false false false false k;
        writes_is = writes_by c on false false true false false false false k ∙ ap (λ x. x || (false && stores_plain (operation_in c.word) || false)) (pushes_by c on false false true false false false false k);
        taken_is = taken_by c on false false true false false false false k;
      } in
      let t = pushed_on (word_at start place) start in
      let bare : Bare clock t = record {
        a = a_is N given c true false false false h ∙ r.loaded ∙ ap (λ m. slice_index c.on_chip m) (loaded_place (length c.on_chip) c.word c.vp c.ar c.operand some place k said.1 said.2);
        b = b_is N given c true false false false h;
        sp = sp_is N given c true false false false h;
        vp = vp_is N given c true false false false h;
        ar = ar_is N given c true false false false h;
        halt = halt_is N given c true false false false h ∙ halted;
        on_chip = on_chip_is N given c true false false false h;
        main = main_is N given c true false false false h;
        write_address = write_address_is N given c true false false false h;
        count = count_is N given c true false false false h;
        begun = begun_is N given c true false false false h;
      } in
      with_both (Ldm place) opd nxt clock t fit bare (flagged true false false h)
  numbered_follows (Ldi number) said other flags =
      let k = said.0 in
      let h : IsNumbered c true false false false = record {
        on = on;
        going = going;
        plain = k.plain_is;
        far = said.3;
        pushes_is = pushes_by c on false false false true false false false k;
        pops_is = pops_by c on false false false true false false false k;
        writes_is = writes_by c on false false false true false false false k ∙ ap (λ x. x || (false && stores_plain (operation_in c.word) || false)) (pushes_by c on false false false true false false false k);
        taken_is = taken_by c on false false false true false false false k;
      } in
      let t = pushed_on (word_at start (32 + number)) start in
      let bare : Bare clock t = record {
        a = a_is N given c true false false false h ∙ r.loaded ∙ ap (λ m. slice_index c.on_chip m) (constant_place (length c.on_chip) c.word c.vp c.ar c.operand some number k said.1 said.2);
        b = b_is N given c true false false false h;
        sp = sp_is N given c true false false false h;
        vp = vp_is N given c true false false false h;
        ar = ar_is N given c true false false false h;
        halt = halt_is N given c true false false false h ∙ halted;
        on_chip = on_chip_is N given c true false false false h;
        main = main_is N given c true false false false h;
        write_address = write_address_is N given c true false false false h;
        count = count_is N given c true false false false h;
        begun = begun_is N given c true false false false h;
      } in
      with_both (Ldi number) opd nxt clock t fit bare (flagged true false false h)
  numbered_follows (Bz to) said other flags =
      let k = said.0 in
      let h : IsNumbered c false true false (c.a == 0) = record {
        on = on;
        going = going;
        plain = k.plain_is;
        far = said.3;
        pushes_is = pushes_by c on false false false false true false false k;
        pops_is = pops_by c on false false false false true false false k;
        writes_is = writes_by c on false false false false true false false k ∙ ap (λ x. x || (false && stores_plain (operation_in c.word) || false)) (pushes_by c on false false false false true false false k);
        taken_is = taken_by c on false false false false true false false k ∙ or_false (c.a == 0);
      } in
      let t = popped start in
      let bare : Bare clock t = record {
        a = a_is N given c false true false (c.a == 0) h;
        b = b_is N given c false true false (c.a == 0) h ∙ r.below;
        sp = sp_is N given c false true false (c.a == 0) h;
        vp = vp_is N given c false true false (c.a == 0) h;
        ar = ar_is N given c false true false (c.a == 0) h;
        halt = halt_is N given c false true false (c.a == 0) h ∙ halted;
        on_chip = on_chip_is N given c false true false (c.a == 0) h;
        main = main_is N given c false true false (c.a == 0) h;
        write_address = write_address_is N given c false true false (c.a == 0) h;
        count = count_is N given c false true false (c.a == 0) h;
        begun = begun_is N given c false true false (c.a == 0) h;
      } in
      let o = opd_is ∙ flags.0 in
      let x = nxt_is ∙ flags.1 in
      branching (c.a == 0) to clock t bare (jpc_is N given c false true false (c.a == 0) h false false o x) (operand_is N given c false true false (c.a == 0) h false false o x) (opcode_is N given c false true false (c.a == 0) h false false o x)
      (mpc_is N given c false true false (c.a == 0) h false false o x ∙ ap (λ m. if c.a == 0 then m else (c.mpc + 1) % 2048) said.1)
  numbered_follows (Bnz to) said other flags =
      let k = said.0 in
      let h : IsNumbered c false true false (nat_lt 0 c.a) = record {
        on = on;
        going = going;
        plain = k.plain_is;
        far = said.3;
        pushes_is = pushes_by c on false false false false false true false k;
        pops_is = pops_by c on false false false false false true false k;
        writes_is = writes_by c on false false false false false true false k ∙ ap (λ x. x || (false && stores_plain (operation_in c.word) || false)) (pushes_by c on false false false false false true false k);
        taken_is = taken_by c on false false false false false true false k;
      } in
      let t = popped start in
      let bare : Bare clock t = record {
        a = a_is N given c false true false (nat_lt 0 c.a) h;
        b = b_is N given c false true false (nat_lt 0 c.a) h ∙ r.below;
        sp = sp_is N given c false true false (nat_lt 0 c.a) h;
        vp = vp_is N given c false true false (nat_lt 0 c.a) h;
        ar = ar_is N given c false true false (nat_lt 0 c.a) h;
        halt = halt_is N given c false true false (nat_lt 0 c.a) h ∙ halted;
        on_chip = on_chip_is N given c false true false (nat_lt 0 c.a) h;
        main = main_is N given c false true false (nat_lt 0 c.a) h;
        write_address = write_address_is N given c false true false (nat_lt 0 c.a) h;
        count = count_is N given c false true false (nat_lt 0 c.a) h;
        begun = begun_is N given c false true false (nat_lt 0 c.a) h;
      } in
      let o = opd_is ∙ flags.0 in
      let x = nxt_is ∙ flags.1 in
      branching (nat_lt 0 c.a) to clock t bare (jpc_is N given c false true false (nat_lt 0 c.a) h false false o x) (operand_is N given c false true false (nat_lt 0 c.a) h false false o x) (opcode_is N given c false true false (nat_lt 0 c.a) h false false o x)
      (mpc_is N given c false true false (nat_lt 0 c.a) h false false o x ∙ ap (λ m. if nat_lt 0 c.a then m else (c.mpc + 1) % 2048) said.1)
  numbered_follows (Jmp to) said other flags =
      let k = said.0 in
      let h : IsNumbered c false false false (true) = record {
        on = on;
        going = going;
        plain = k.plain_is;
        far = said.3;
        pushes_is = pushes_by c on false false false false false false true k;
        pops_is = pops_by c on false false false false false false true k;
        writes_is = writes_by c on false false false false false false true k ∙ ap (λ x. x || (false && stores_plain (operation_in c.word) || false)) (pushes_by c on false false false false false false true k);
        taken_is = taken_by c on false false false false false false true k;
      } in
      let t = start in
      let bare : Bare clock t = record {
        a = a_is N given c false false false (true) h;
        b = b_is N given c false false false (true) h;
        sp = sp_is N given c false false false (true) h;
        vp = vp_is N given c false false false (true) h;
        ar = ar_is N given c false false false (true) h;
        halt = halt_is N given c false false false (true) h ∙ halted;
        on_chip = on_chip_is N given c false false false (true) h;
        main = main_is N given c false false false (true) h;
        write_address = write_address_is N given c false false false (true) h;
        count = count_is N given c false false false (true) h;
        begun = begun_is N given c false false false (true) h;
      } in
      let o = opd_is ∙ flags.0 in
      let x = nxt_is ∙ flags.1 in
      branching (true) to clock t bare (jpc_is N given c false false false (true) h false false o x) (operand_is N given c false false false (true) h false false o x) (opcode_is N given c false false false (true) h false false o x)
      (mpc_is N given c false false false (true) h false false o x ∙ ap (λ m. if true then m else (c.mpc + 1) % 2048) said.1)
