-- A clock in which a word runs has the registers of the machine behind its cycle.
use Rattle.std.proofs.Common.{◌≡◌, ℕ, ◌+◌, ◌-◌, ◌*◌, ◌/◌, ◌%◌, ◌^◌, ◌<◌, ◌≢◌, Bool, true, false, Option, Some, refl, sym, ap, subst, ◌∙◌, arith, ltb-false}
use Rattle.std.specs.Prelude.{◌==◌, ◌&&◌, ◌||◌, not, nat_lt, if◌then◌else◌, slice_index}
use Rattle.std.proofs.lemmas.Bool.{and_parts, ne_eqb}
use Rattle.microcode.specs.declared.TheConstants.{WORDS}
use Rattle.microcode.specs.declared.isa.operation.Operation.{Operation}
use Rattle.microcode.specs.declared.isa.operation.Operation.TheVariants.{Wait, Stbc, Jbr, Hltb, Hltu}
use Rattle.microcode.specs.declared.isa.Body.{Body}
use Rattle.microcode.specs.declared.isa.Body.TheVariants.{Plain, Stm, Ldm, Ldi, Bz, Bnz, Jmp}
use Rattle.microcode.specs.declared.isa.Micro.{Micro}
use Rattle.microcode.specs.Isa.Operations.{operation_of}
use Rattle.microcode.specs.Isa.Words.{micro_of, bit}
use Rattle.jop_core.specs.declared.halt.Halt.TheVariants.{Running}
use Rattle.jop_core.specs.State.{MachineState}
use Rattle.jop_core.specs.Operations.{code_words}
use Rattle.jop_core.specs.Cycle.{counted, cycle_of, ran, micro_at, performed, is_wait, body_waits}
use Rattle.circuit_cycles.specs.Shape.{Shape}
use Rattle.circuit_cycles.specs.Words.{bits_of, has_opd, has_nxt, is_plain, is, operation_in, wait, stmra, stbc, jbr, jbg, stjpc}
use Rattle.circuit_cycles.specs.Rom.{has_fit_flags}
use Rattle.circuit_cycles.specs.Core.{Core, Given, next, goes, is_stalled, waits, runs}
use Rattle.circuit_cycles.specs.Stands.{Stands, HasRegisters, HasWord}
use Rattle.circuit_cycles.specs.Laws.{rested}
use Rattle.circuit_cycles.proofs.Rounds.{eqb_eq, eqb_ne}
use Rattle.circuit_cycles.proofs.Signals.{code_of, code_own, ge_is, Says, HasFlags}
use Rattle.circuit_cycles.proofs.Rows.{Row, row}
use Rattle.circuit_cycles.proofs.Addresses.{flags_fit}
use Rattle.circuit_cycles.proofs.Phases.{left_none}
use Rattle.circuit_cycles.proofs.Spelled.{spelled, micro, settled, machine, shaped, IsReady}
use Rattle.circuit_cycles.proofs.Awake.{settle, IsAwake, is_awake, running_same, machine_same, shaped_same, is_ready, settled_ready}
use Rattle.circuit_cycles.proofs.Straight.{straight, Ready, clock, behind}
use Rattle.circuit_cycles.proofs.Waited.{waited}
use Rattle.circuit_cycles.proofs.Numbered.{numbered_follows}
use Rattle.circuit_cycles.proofs.Tested.{halts_ended, halts_uncaught, branches, switches_method}

-- what a wait needs of the port
abbrev is_waiting : Operation → (count : ℕ) → Bool
is_waiting op count = is_wait op && nat_lt 1 count

-- no flag stands beside another one
both_no : (w : ℕ) → has_fit_flags w ≡ true → not (has_opd w && has_nxt w) ≡ true
both_no w h = by (is stmra w || is stbc w || is jbr w || is jbg w) (is stjpc w) (has_opd w) (has_nxt w) h
  where
    by : (a b o x : Bool) → (if a then not (o || x) else if b then not o else not (o && x)) ≡ true → not (o && x) ≡ true
    by a b false x h = refl
    by a b true false h = refl
    by true b true true h = let bad : ⊥ = cc in absurd bad
    by false true true true h = let bad : ⊥ = cc in absurd bad
    by false false true true h = let bad : ⊥ = cc in absurd bad

-- the registers of a clock in which the word of this operation runs
plain_follows : (shape : Shape) (given : Given) (c : Core) (s : MachineState) (op : Operation) (opd nxt : Bool) → is_waiting op c.count ≡ false → has_fit_flags (spelled op opd nxt) ≡ true → Ready shape given c s op opd nxt
    → HasRegisters (clock shape given c s op opd nxt) (behind shape given c s op opd nxt)
plain_follows shape given c s Wait opd nxt few fit r = waited shape given c s c.count opd nxt few fit r
plain_follows shape given c s Stbc opd nxt few fit r = switches_method shape given c s opd nxt fit
plain_follows shape given c s Hltb opd nxt few fit r = halts_ended shape given c s opd nxt fit r
plain_follows shape given c s Hltu opd nxt few fit r = halts_uncaught shape given c s opd nxt fit r
plain_follows shape given c s Jbr opd nxt few fit r = branches shape given c s opd nxt fit
plain_follows shape given c s op opd nxt few fit r = straight shape given c s op opd nxt refl fit r

-- a wait that runs is one whose port is ready behind the cycle
wait_of : (word code : ℕ) → bits_of word ≡ code → code < 48 → (is wait word ≡ is_wait (operation_of code))
wait_of word code bits low = ap (λ k. k == 39) bits ∙ by (operation_of code) (code_own code low)
  where
    by : (op : Operation) → code_of op ≡ code → (code == 39) ≡ is_wait op
    by Wait e = sym (ap (λ k. k == 39) e)
    by _ e = sym (ap (λ k. k == 39) e)

waiting_no : (body : Body) (word count : ℕ) → Says word body → (is wait word && nat_lt 1 count) ≡ false → (body_waits body && nat_lt 0 (count - 1)) ≡ false
waiting_no (Plain code) word count said h =
    by (is_wait (operation_of code)) (sym (ap (λ b. b && nat_lt 1 count) (wait_of word code said.1 said.2)) ∙ h)
  where
    by : (b : Bool) → (b && nat_lt 1 count) ≡ false → (b && nat_lt 0 (count - 1)) ≡ false
    by true e = let few = ltb-false 1 count e in ge_is 0 (count - 1) (omega (arith, few))
    by false e = refl
waiting_no (Stm place) word count said h = refl
waiting_no (Ldm place) word count said h = refl
waiting_no (Ldi number) word count said h = refl
waiting_no (Bz to) word count said h = refl
waiting_no (Bnz to) word count said h = refl
waiting_no (Jmp to) word count said h = refl

bit_is : (k : ℕ) (b : Bool) → k < 2 → (k == 1) ≡ b → k ≡ bit b
bit_is k true low h = eqb_eq k 1 h
bit_is k false low h = let other : k ≢ 1 = eqb_ne k 1 h in omega (arith, low, other)

-- a word is the sum of its parts
word_is : (word code : ℕ) (opd nxt : Bool) → word < 2 ^ 16 → bits_of word ≡ code → has_opd word ≡ opd → has_nxt word ≡ nxt
    → word ≡ bit nxt * 2 ^ 15 + bit opd * 2 ^ 14 + code
word_is word code opd nxt low bits o n =
    let first = bit_is (word / 2 ^ 15 % 2) nxt (omega arith) n in
    let second = bit_is (word / 2 ^ 14 % 2) opd (omega arith) o in
    let sum : word ≡ word / 2 ^ 15 % 2 * 2 ^ 15 + word / 2 ^ 14 % 2 * 2 ^ 14 + word % 2 ^ 14 = omega (arith, low) in
    sum ∙ ap (λ k. k * 2 ^ 15 + word / 2 ^ 14 % 2 * 2 ^ 14 + word % 2 ^ 14) first
    ∙ ap (λ k. bit nxt * 2 ^ 15 + k * 2 ^ 14 + word % 2 ^ 14) second ∙ ap (λ k. bit nxt * 2 ^ 15 + bit opd * 2 ^ 14 + k) bits

module _ (shape : Shape) (given : Given) (c : Core) (s : MachineState) (alive : s.halt ≡ Running) (stands : Stands shape c s) (on : runs c ≡ true) where
  pub awake : IsAwake c
  awake = is_awake c on

  pub at_mpc : c.word ≡ slice_index WORDS c.mpc
  at_mpc = let refill = awake.refill in let ready : HasWord false c = subst (λ b. HasWord b c) (ne_eqb c.refill 2 (omega (arith, refill))) stands.read.word in ready.0

  -- the microinstruction that runs
  pub own : Row c.word
  own = subst Row (sym at_mpc) (row c.mpc)

  pub spells : micro_at s ≡ Some own.micro
  spells = ap (λ k. micro_of (slice_index WORDS k)) (sym stands.registers.mpc) ∙ ap micro_of (sym at_mpc) ∙ own.spells

  pub cycle_is : cycle_of given.input s ≡ performed given.input own.micro (counted s)
  unfolding cycle_of
  cycle_is =
      let left = left_none shape c (code_words s.port.words s.method) awake.header awake.left in
      let stall = stands.stall in
      let refill = awake.refill in
      ap (λ b. if b then rested s else ran given.input (micro_at s) (counted s)) (ge_is 0 s.stall (omega (arith, stall, left, refill)))
      ∙ ap (λ (m : Option Micro). ran given.input m (counted s)) spells
      ∙ ap (λ b. if b then counted s else performed given.input own.micro (counted s))
      (ap (λ k. body_waits own.micro.body && nat_lt 0 (k - 1)) (sym stands.registers.count) ∙ waiting_no own.micro.body c.word c.count own.said.body awake.waits)

  pub fit : has_fit_flags c.word ≡ true
  fit = subst (λ w. has_fit_flags w ≡ true) (sym at_mpc) (flags_fit c.mpc)

  ready : IsReady shape c s
  ready = is_ready shape c s stands awake

  awake_too : IsAwake (settled c)
  awake_too = let h = awake in record { refill = h.refill; starting = h.starting; halt = h.halt; header = h.header; left = h.left; waits = h.waits }

  -- a plain word
  plainly : (code : ℕ) (opd nxt : Bool) → Says c.word (Plain code) → has_opd c.word ≡ opd → has_nxt c.word ≡ nxt
      → HasRegisters (next shape given c) (performed given.input (record { body = Plain code; opd = opd; nxt = nxt }) (counted s))
  plainly code opd nxt said o x =
      let op = operation_in c.word in
      let same : code_of op ≡ code = ap (λ k. code_of (operation_of k)) said.1 ∙ code_own code said.2 in
      let spelt : c.word ≡ spelled op opd nxt = word_is c.word (code_of op) opd nxt own.low (said.1 ∙ sym same) o x in
      let m = micro op opd nxt in
      let few : is_waiting op c.count ≡ false = ap (λ b. b && nat_lt 1 c.count) (ap (λ k. is_wait (operation_of k)) said.1 ∙ sym (wait_of c.word code said.1 said.2)) ∙ awake.waits in
      let written = plain_follows shape given c s op opd nxt few (subst (λ w. has_fit_flags w ≡ true) spelt fit) in
      let one =
      subst (λ k. IsReady (shaped shape c s.port) k (machine c s) → HasRegisters (next (shaped shape c s.port) given k) (performed given.input m (counted (machine c s))))
      (running_same (spelled op opd nxt) (settled c) spelt awake_too) written in
      let two =
      subst (λ t. IsReady (shaped shape c s.port) (settled c) t → HasRegisters (next (shaped shape c s.port) given (settled c)) (performed given.input m (counted t)))
      (machine_same c s stands.registers alive) one in
      let three =
      subst (λ k. IsReady k (settled c) s → HasRegisters (next k given (settled c)) (performed given.input m (counted s)))
      (shaped_same shape c s stands.registers stands.has_shape) two in
      let all : HasRegisters (next shape given c) (performed given.input (micro op opd nxt) (counted s)) =
      settle shape given c (performed given.input m (counted s)) ready.below (three (settled_ready shape c s ready)) in
      subst (λ k. HasRegisters (next shape given c) (performed given.input (record { body = Plain k; opd = opd; nxt = nxt }) (counted s))) same all

  -- a word with a number
  numbered : (body : Body) (opd nxt : Bool) → Says c.word body → is_plain c.word ≡ false → HasFlags body opd nxt → has_opd c.word ≡ opd → has_nxt c.word ≡ nxt
      → HasRegisters (next shape given c) (performed given.input (record { body = body; opd = opd; nxt = nxt }) (counted s))
  numbered body opd nxt said other flags o x =
      let m : Micro = record { body = body; opd = opd; nxt = nxt } in
      let p = stands.places in
      let some = p.some in
      let long = p.length in
      let going : goes c ≡ true = (and_parts (goes c) (not (is_stalled c)) (and_parts (goes c && not (is_stalled c)) (not (waits c)) on).0).0 in
      let apart : not (opd && nxt) ≡ true = ap (λ b. not (b && nxt)) (sym o) ∙ ap (λ b. not (has_opd c.word && b)) (sym x) ∙ both_no c.word fit in
      let one : IsReady (shaped shape c s.port) c (machine c s) → HasRegisters (next (shaped shape c s.port) given c) (performed given.input m (counted (machine c s))) =
      λ r. numbered_follows shape given c s on going awake.halt (omega (arith, some, long)) r opd nxt o x apart body said other flags in
      let two =
      subst (λ t. IsReady (shaped shape c s.port) c t → HasRegisters (next (shaped shape c s.port) given c) (performed given.input m (counted t)))
      (machine_same c s stands.registers alive) one in
      let three =
      subst (λ k. IsReady k c s → HasRegisters (next k given c) (performed given.input m (counted s)))
      (shaped_same shape c s stands.registers stands.has_shape) two in
      three ready

  by_body : (body : Body) (opd nxt : Bool) → Says c.word body → HasFlags body opd nxt → has_opd c.word ≡ opd → has_nxt c.word ≡ nxt
      → HasRegisters (next shape given c) (performed given.input (record { body = body; opd = opd; nxt = nxt }) (counted s))
  by_body (Plain code) opd nxt said flags o x = plainly code opd nxt said o x
  by_body (Stm place) opd nxt said flags o x = numbered (Stm place) opd nxt said said.0.plain_is flags o x
  by_body (Ldm place) opd nxt said flags o x = numbered (Ldm place) opd nxt said said.0.plain_is flags o x
  by_body (Ldi number) opd nxt said flags o x = numbered (Ldi number) opd nxt said said.0.plain_is flags o x
  by_body (Bz to) opd nxt said flags o x = numbered (Bz to) opd nxt said said.0.plain_is flags o x
  by_body (Bnz to) opd nxt said flags o x = numbered (Bnz to) opd nxt said said.0.plain_is flags o x
  by_body (Jmp to) opd nxt said flags o x = numbered (Jmp to) opd nxt said said.0.plain_is flags o x

  -- the registers of the clock
  pub registers_follow : HasRegisters (next shape given c) (cycle_of given.input s)
  registers_follow =
      subst (λ t. HasRegisters (next shape given c) t) (sym cycle_is)
      (by_body own.micro.body own.micro.opd own.micro.nxt own.said.body own.said.flags own.said.opd own.said.nxt)
