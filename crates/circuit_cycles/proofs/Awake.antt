-- A clock in which a word runs, of a circuit that stands for a machine: the core, the machine and the shape are the ones that are written out.
use Rattle.std.proofs.Common.{◌≡◌, ℕ, ◌%◌, ◌<◌, Bool, true, false, List, length, Option, Some, None, refl, sym, ap, mod-eq_of_lt, ◌∙◌, arith, ltb-false}
use Rattle.std.specs.Prelude.{◌==◌, ◌&&◌, ◌||◌, not, nat_lt, if◌then◌else◌, slice_index}
use Rattle.std.proofs.lemmas.Bool.{and_parts}
use Rattle.machine_memory.specs.Timing.Port.{Port}
use Rattle.jop_core.specs.declared.halt.Halt.{Halt}
use Rattle.jop_core.specs.declared.halt.Halt.TheVariants.{Running}
use Rattle.microcode.specs.declared.isa.operation.Operation.{Operation}
use Rattle.microcode.specs.declared.isa.operation.Operation.TheVariants.{Ldin}
use Rattle.jop_core.specs.State.{MachineState}
use Rattle.jop_core.specs.Cycle.{code_byte}
use Rattle.circuit_cycles.specs.Shape.{Shape}
use Rattle.circuit_cycles.specs.Words.{place_of, is_plain, operation_in}
use Rattle.circuit_cycles.specs.Core.{Core, Given, next, goes, runs, is_stalled, waits, pushes, pops, pushed_plain, top, below, loaded, byte_place}
use Rattle.circuit_cycles.specs.Stands.{Stands, HasShape, HasRegisters, HasValue, loads}
use Rattle.circuit_cycles.proofs.Rounds.{eqb_eq}
use Rattle.circuit_cycles.proofs.IdleClocks.{nothing}
use Rattle.circuit_cycles.proofs.Spelled.{running, settled, machine, shaped, IsReady}

pushed_same : (op : Operation) (input : Option ℕ) (c : Core) → pushed_plain op input (settled c) ≡ pushed_plain op input c
pushed_same Ldin None c = refl
pushed_same Ldin (Some byte) c = refl
pushed_same _ input c = refl

-- only B takes the word below it
pub settle : (shape : Shape) (given : Given) (c : Core) (t : MachineState) → below c ≡ slice_index c.on_chip (c.sp % length c.on_chip)
    → HasRegisters (next shape given (settled c)) t → HasRegisters (next shape given c) t
unfolding next
settle shape given c t e h = record {
  a = sym (ap (λ k. if pushes c then (if is_plain c.word then k else loaded c) else if pops c then top c else c.a) (pushed_same (operation_in c.word) given.input c)) ∙ h.a;
  b = ap (λ k. if pushes c then c.a else if pops c then k else c.b) e ∙ h.b;
  sp = h.sp;
  vp = h.vp;
  ar = h.ar;
  jpc = h.jpc;
  mpc = h.mpc;
  operand = h.operand;
  opcode = h.opcode;
  halt = h.halt;
  on_chip = h.on_chip;
  main = h.main;
  write_address = h.write_address;
  count = h.count;
  begun = h.begun;
}

-- what holds of the core where a word runs
pub record IsAwake (c : Core) : Type 0 where
  pub refill : c.refill ≡ 0
  pub starting : c.starting ≡ 0
  pub halt : c.halt ≡ 0
  pub header : c.header ≡ 0
  pub left : c.left ≡ 0
  pub waits : waits c ≡ false

pub is_awake : (c : Core) → runs c ≡ true → IsAwake c
is_awake c h =
    let one = and_parts (goes c && not (is_stalled c)) (not (waits c)) h in
    let two = and_parts (goes c) (not (is_stalled c)) one.0 in
    let three = and_parts (c.starting == 0) (c.halt == 0) two.0 in
    let rest = nothing (nat_lt 0 c.refill || nat_lt 0 c.header) (nat_lt 0 c.left) (no (is_stalled c) two.1) in
    let head = nothing (nat_lt 0 c.refill) (nat_lt 0 c.header) rest.0 in
    record {
      refill = zero_is c.refill head.0;
      starting = eqb_eq c.starting 0 three.0;
      halt = eqb_eq c.halt 0 three.1;
      header = zero_is c.header head.1;
      left = zero_is c.left rest.1;
      waits = no (waits c) one.1;
    }
  where
    no : (b : Bool) → not b ≡ true → b ≡ false
    no true e = let bad : ⊥ = cc in absurd bad
    no false e = refl

    zero_is : (k : ℕ) → nat_lt 0 k ≡ false → k ≡ 0
    zero_is k e = let h = ltb-false 0 k e in omega (arith, h)

pub running_same : (word : ℕ) (c : Core) → c.word ≡ word → IsAwake c → running word c.count c ≡ c
running_same word c same h =
    ap (λ k. record c { word = k; refill = 0; starting = 0; halt = 0; header = 0; left = 0 }) (sym same)
    ∙ ap (λ k. record c { refill = k; starting = 0; halt = 0; header = 0; left = 0 }) (sym h.refill)
    ∙ ap (λ k. record c { starting = k; halt = 0; header = 0; left = 0 }) (sym h.starting)
    ∙ ap (λ k. record c { halt = k; header = 0; left = 0 }) (sym h.halt)
    ∙ ap (λ k. record c { header = k; left = 0 }) (sym h.header)
    ∙ ap (λ k. record c { left = k }) (sym h.left)

pub machine_same : (c : Core) (s : MachineState) → HasRegisters c s → s.halt ≡ Running → machine c s ≡ s
machine_same c s h running =
    ap (λ k. record s { a = k; b = c.b; sp = c.sp; vp = c.vp; ar = c.ar; jpc = c.jpc; mpc = c.mpc; operand = c.operand; opcode = c.opcode; stack = c.on_chip; write_address = c.write_address; halt = Running; port = record s.port { words = c.main; count = c.count } }) h.a
    ∙ ap (λ k. record s { b = k; sp = c.sp; vp = c.vp; ar = c.ar; jpc = c.jpc; mpc = c.mpc; operand = c.operand; opcode = c.opcode; stack = c.on_chip; write_address = c.write_address; halt = Running; port = record s.port { words = c.main; count = c.count } }) h.b
    ∙ ap (λ k. record s { sp = k; vp = c.vp; ar = c.ar; jpc = c.jpc; mpc = c.mpc; operand = c.operand; opcode = c.opcode; stack = c.on_chip; write_address = c.write_address; halt = Running; port = record s.port { words = c.main; count = c.count } }) h.sp
    ∙ ap (λ k. record s { vp = k; ar = c.ar; jpc = c.jpc; mpc = c.mpc; operand = c.operand; opcode = c.opcode; stack = c.on_chip; write_address = c.write_address; halt = Running; port = record s.port { words = c.main; count = c.count } }) h.vp
    ∙ ap (λ k. record s { ar = k; jpc = c.jpc; mpc = c.mpc; operand = c.operand; opcode = c.opcode; stack = c.on_chip; write_address = c.write_address; halt = Running; port = record s.port { words = c.main; count = c.count } }) h.ar
    ∙ ap (λ k. record s { jpc = k; mpc = c.mpc; operand = c.operand; opcode = c.opcode; stack = c.on_chip; write_address = c.write_address; halt = Running; port = record s.port { words = c.main; count = c.count } }) h.jpc
    ∙ ap (λ k. record s { mpc = k; operand = c.operand; opcode = c.opcode; stack = c.on_chip; write_address = c.write_address; halt = Running; port = record s.port { words = c.main; count = c.count } }) h.mpc
    ∙ ap (λ k. record s { operand = k; opcode = c.opcode; stack = c.on_chip; write_address = c.write_address; halt = Running; port = record s.port { words = c.main; count = c.count } }) h.operand
    ∙ ap (λ k. record s { opcode = k; stack = c.on_chip; write_address = c.write_address; halt = Running; port = record s.port { words = c.main; count = c.count } }) h.opcode
    ∙ ap (λ (k : List ℕ). record s { stack = k; write_address = c.write_address; halt = Running; port = record s.port { words = c.main; count = c.count } }) h.on_chip
    ∙ ap (λ k. record s { write_address = k; halt = Running; port = record s.port { words = c.main; count = c.count } }) h.write_address
    ∙ ap (λ (k : Halt). record s { halt = k; port = record s.port { words = c.main; count = c.count } }) (sym running)
    ∙ ap (λ (k : List ℕ). record s { port = record s.port { words = k; count = c.count } }) h.main
    ∙ ap (λ k. record s { port = record s.port { count = k } }) h.count

pub shaped_same : (shape : Shape) (c : Core) (s : MachineState) → HasRegisters c s → HasShape shape s → shaped shape c s.port ≡ shape
shaped_same shape c s h f =
    ap (λ k. record shape { on_chip_words = k; memory_words = length c.main; read_wait = s.port.read; write_wait = s.port.write }) (ap length h.on_chip ∙ f.on_chip)
    ∙ ap (λ k. record shape { memory_words = k; read_wait = s.port.read; write_wait = s.port.write }) (ap length h.main ∙ f.memory)
    ∙ ap (λ k. record shape { read_wait = k; write_wait = s.port.write }) f.read
    ∙ ap (λ k. record shape { write_wait = k }) f.write

-- what was read ahead is ready
pub is_ready : (shape : Shape) (c : Core) (s : MachineState) → Stands shape c s → IsAwake c → IsReady shape c s
is_ready shape c s stands awake =
    let r = stands.registers in
    let p = stands.places in
    let long = p.length in
    let sp = p.sp in
    let vp = p.vp in
    let ar = p.ar in
    let size = ap length r.main ∙ stands.has_shape.memory in
    let room = stands.has_shape.places in
    let refill = awake.refill in
    let off : loads c ≡ false = ap (λ k. nat_lt 0 k || nat_lt 0 c.left) awake.header ∙ ap (λ k. nat_lt 0 k) awake.left in
    record {
      below =
          stands.read.below ∙ ap (λ (xs : List ℕ). slice_index xs s.sp) (sym r.on_chip) ∙ ap (λ k. slice_index c.on_chip k) (sym r.sp)
          ∙ ap (λ k. slice_index c.on_chip k) (sym (mod-eq_of_lt (let e : c.sp < length c.on_chip = omega (arith, sp, long) in e)));
      loaded =
          stands.read.loaded ∙ ap (λ (xs : List ℕ). slice_index xs (place_of shape.on_chip_words c.word s.vp s.ar s.operand)) (sym r.on_chip)
          ∙ ap (λ k. slice_index c.on_chip (place_of k c.word s.vp s.ar s.operand)) (sym long)
          ∙ ap (λ k. slice_index c.on_chip (place_of (length c.on_chip) c.word k s.ar s.operand)) (sym r.vp)
          ∙ ap (λ k. slice_index c.on_chip (place_of (length c.on_chip) c.word c.vp k s.operand)) (sym r.ar)
          ∙ ap (λ k. slice_index c.on_chip (place_of (length c.on_chip) c.word c.vp c.ar k)) (sym r.operand);
      byte =
          stands.read.byte (omega (arith, refill)) off
          ∙ ap (λ k. code_byte s (byte_place c.word k s.jpc)) (sym r.a) ∙ ap (λ k. code_byte s (byte_place c.word c.a k)) (sym r.jpc);
      vp = omega (arith, vp, long);
      ar = omega (arith, ar, long);
      bits = omega (arith, size, room);
      value = stands.read.value;
    }

value_settled : (b : Bool) (c : Core) (port : Port) → HasValue b c port → HasValue b (settled c) port
value_settled true c port h = h
value_settled false c port h = h

-- so it is in the core whose block RAM gives the word below B
pub settled_ready : (shape : Shape) (c : Core) (s : MachineState) → IsReady shape c s → IsReady shape (settled c) s
settled_ready shape c s r = record {
  below = refl;
  loaded = r.loaded;
  byte = r.byte;
  vp = r.vp;
  ar = r.ar;
  bits = r.bits;
  value = value_settled (c.reading == 1) c s.port r.value;
}
