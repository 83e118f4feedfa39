-- A clock in which a word runs: the words of the ROM and the byte behind it.
use Rattle.std.proofs.Common.{◌≡◌, ℕ, ◌+◌, ◌-◌, ◌/◌, ◌%◌, ◌^◌, ◌<◌, ◌⊎◌, Bool, true, false, refl, sym, ap, subst, inl, inr, ◌∙◌, arith}
use Rattle.std.specs.Prelude.{◌==◌, ◌&&◌, ◌||◌, nat_lt, if◌then◌else◌, slice_index}
use Rattle.std.proofs.lemmas.Bool.{and_parts, ne_eqb, eq-eqb}
use Rattle.microcode.specs.declared.TheConstants.{WORDS}
use Rattle.microcode.specs.declared.isa.Body.{Body}
use Rattle.microcode.specs.declared.isa.Body.TheVariants.{Plain, Stm, Ldm, Ldi, Bz, Bnz, Jmp}
use Rattle.jop_core.specs.declared.halt.Halt.TheVariants.{Running}
use Rattle.jop_core.specs.State.{MachineState}
use Rattle.jop_core.specs.Cycle.{counted, cycle_of, performed}
use Rattle.circuit_cycles.specs.Shape.{Shape}
use Rattle.circuit_cycles.specs.Words.{operation_in, bits_of, has_nxt, is, add, wait, stbc, stmra, is_plain, is_ldi, is_bz, is_bnz, is_jmp, takes_at_a}
use Rattle.circuit_cycles.specs.Rom.{may_follow}
use Rattle.circuit_cycles.specs.Core.{Core, Given, next, runs, does, is_stalled, pushes, pops, dispatches, switches, is_taken, pushed, pushed_plain, top, loaded, byte, entry_of}
use Rattle.circuit_cycles.specs.Stands.{Stands, HasWord}
use Rattle.circuit_cycles.specs.Ahead.{TakesAhead}
use Rattle.circuit_cycles.proofs.Rounds.{eqb_eq}
use Rattle.circuit_cycles.proofs.Signals.{Says, ge_is}
use Rattle.circuit_cycles.proofs.Bodies.{body_does, body_taken, does_is, taken_is, pushes_by}
use Rattle.circuit_cycles.proofs.Addresses.{StandsBefore, follow_next, before_at_a, behind_read, target_apart, entry_apart, entry_low}
use Rattle.circuit_cycles.proofs.Awake.{IsAwake}
use Rattle.circuit_cycles.proofs.Following.{awake, at_mpc, own, cycle_is, registers_follow}
use Rattle.circuit_cycles.proofs.Performed.{plain_of, performed_sum}
use Rattle.circuit_cycles.proofs.Switching.{no_left, no_header}

-- a branch that is taken is a branch
branches_of : (word a : ℕ) (body : Body) → Says word body → body_taken body a ≡ true → (is_bz word || is_bnz word || is_jmp word) ≡ true
branches_of word a (Plain code) said h = let bad : ⊥ = cc in absurd bad
branches_of word a (Stm place) said h = let bad : ⊥ = cc in absurd bad
branches_of word a (Ldm place) said h = let bad : ⊥ = cc in absurd bad
branches_of word a (Ldi number) said h = let bad : ⊥ = cc in absurd bad
branches_of word a (Bz to) said h = ap (λ b. b || is_bnz word || is_jmp word) said.0.bz_is
branches_of word a (Bnz to) said h = ap (λ b. b || is_bnz word || is_jmp word) said.0.bz_is ∙ ap (λ b. false || b || is_jmp word) said.0.bnz_is
branches_of word a (Jmp to) said h = ap (λ b. b || is_bnz word || is_jmp word) said.0.bz_is ∙ ap (λ b. false || b || is_jmp word) said.0.bnz_is ∙ ap (λ b. false || false || b) said.0.jmp_is

-- a constant is pushed
record IsConstant (c : Core) : Type 0 where
  pushes_is : pushes c ≡ true
  plain_is : is_plain c.word ≡ false

constant_of : (c : Core) (body : Body) → runs c ≡ true → Says c.word body → is_ldi c.word ≡ true → IsConstant c
constant_of c (Plain code) on said h = let off = said.0.ldi_is in let bad : ⊥ = cc in absurd bad
constant_of c (Stm place) on said h = let off = said.0.ldi_is in let bad : ⊥ = cc in absurd bad
constant_of c (Ldm place) on said h = let off = said.0.ldi_is in let bad : ⊥ = cc in absurd bad
constant_of c (Ldi number) on said h = record { pushes_is = pushes_by c on false false false true false false false said.0; plain_is = said.0.plain_is }
constant_of c (Bz to) on said h = let off = said.0.ldi_is in let bad : ⊥ = cc in absurd bad
constant_of c (Bnz to) on said h = let off = said.0.ldi_is in let bad : ⊥ = cc in absurd bad
constant_of c (Jmp to) on said h = let off = said.0.ldi_is in let bad : ⊥ = cc in absurd bad

-- an addition or a constant switches no method
no_switch : (word : ℕ) → (is add word ≡ true) ⊎ (is_ldi word ≡ true) → is stbc word ≡ false
no_switch word (inl h) = let e = eqb_eq (bits_of word) 3 h in ap (λ k. k == 41) e
no_switch word (inr h) = let e = eqb_eq (bits_of word / 2 ^ 5) 10 h in ne_eqb (bits_of word) 41 (omega (arith, e))

module _ (shape : Shape) (given : Given) (c : Core) (s : MachineState) (alive : s.halt ≡ Running) (stands : Stands shape c s) (on : runs c ≡ true) where
  up : IsAwake c
  up = awake shape given c s alive stands on

  here : c.word ≡ slice_index WORDS c.mpc
  here = at_mpc shape given c s alive stands on

  rom_ahead : c.rom_out ≡ slice_index WORDS ((c.mpc + 1) % 2048)
  rom_ahead = let refill = up.refill in let ready : HasWord false c = subst (λ b. HasWord b c) (ne_eqb c.refill 2 (omega (arith, refill))) stands.read.word in ready.1

  word_is : (x : Bool) → dispatches c ≡ x → (next shape given c).word ≡ (if x then slice_index WORDS (entry_of (byte c)) else slice_index WORDS ((c.mpc + 1) % 2048))
  unfolding next
  word_is x e =
      ap (λ p. if p then slice_index WORDS (entry_of (byte c)) else if runs c || c.refill == 2 then c.rom_out else c.word) e
      ∙ ap (λ r. if x then slice_index WORDS (entry_of (byte c)) else if r || c.refill == 2 then c.rom_out else c.word) on
      ∙ ap (λ w. if x then slice_index WORDS (entry_of (byte c)) else w) rom_ahead

  mpc_is : (k x : Bool) → is_taken c ≡ k → dispatches c ≡ x → (next shape given c).mpc ≡ (if k then c.word % 2 ^ 11 else if x then entry_of (byte c) else (c.mpc + 1) % 2048)
  unfolding next
  mpc_is k x e f =
      ap (λ p. if p then c.word % 2 ^ 11 else if dispatches c then entry_of (byte c) else if runs c then (c.mpc + 1) % 2048 else c.mpc) e
      ∙ ap (λ p. if k then c.word % 2 ^ 11 else if p then entry_of (byte c) else if runs c then (c.mpc + 1) % 2048 else c.mpc) f
      ∙ ap (λ r. if k then c.word % 2 ^ 11 else if x then entry_of (byte c) else if r then (c.mpc + 1) % 2048 else c.mpc) on

  rom_is : (k x : Bool) → is_taken c ≡ k → dispatches c ≡ x → (next shape given c).rom_out ≡ slice_index WORDS (if k then c.word % 2 ^ 11 else if x then (entry_of (byte c) + 1) % 2048 else (c.mpc + 2) % 2048)
  unfolding next
  rom_is k x e f =
      ap (λ p. slice_index WORDS (if p then c.word % 2 ^ 11 else if dispatches c then (entry_of (byte c) + 1) % 2048 else if runs c then (c.mpc + 2) % 2048 else (c.mpc + 1) % 2048)) e
      ∙ ap (λ p. slice_index WORDS (if k then c.word % 2 ^ 11 else if p then (entry_of (byte c) + 1) % 2048 else if runs c then (c.mpc + 2) % 2048 else (c.mpc + 1) % 2048)) f
      ∙ ap (λ r. slice_index WORDS (if k then c.word % 2 ^ 11 else if x then (entry_of (byte c) + 1) % 2048 else if r then (c.mpc + 2) % 2048 else (c.mpc + 1) % 2048)) on

  pub refill_is : (k : Bool) → is_taken c ≡ k → (next shape given c).refill ≡ (if k then 2 else 0)
  unfolding next
  refill_is k e = ap (λ p. if p then 2 else c.refill - 1) e ∙ ap (λ m. if k then 2 else m - 1) up.refill

  pub address_stays : (next shape given c).mpc < 2048
  address_stays = by (is_taken c) (dispatches c) refl refl
    where
      by : (k x : Bool) → is_taken c ≡ k → dispatches c ≡ x → (next shape given c).mpc < 2048
      by true x e f = let at = mpc_is true x e f in omega (arith, at)
      by false true e f = let at = mpc_is false true e f in let low = entry_low (byte c) in omega (arith, at, low)
      by false false e f = let at = mpc_is false false e f in omega (arith, at)

  pub has_word : HasWord ((next shape given c).refill == 2) (next shape given c)
  has_word = by (is_taken c) (dispatches c) refl refl
    where
      by : (k x : Bool) → is_taken c ≡ k → dispatches c ≡ x → HasWord ((next shape given c).refill == 2) (next shape given c)
      by true x e f =
          subst (λ b. HasWord b (next shape given c)) (sym (eq-eqb (next shape given c).refill 2 (refill_is true e)))
          (rom_is true x e f ∙ ap (λ k. slice_index WORDS k) (sym (mpc_is true x e f)))
      by false true e f =
          let none = refill_is false e in
          subst (λ b. HasWord b (next shape given c)) (sym (ne_eqb (next shape given c).refill 2 (omega (arith, none))))
          (word_is true f ∙ ap (λ k. slice_index WORDS k) (sym (mpc_is false true e f)), rom_is false true e f ∙ ap (λ k. slice_index WORDS ((k + 1) % 2048)) (sym (mpc_is false true e f)))
      by false false e f =
          let none = refill_is false e in
          let two : (c.mpc + 2) % 2048 ≡ ((c.mpc + 1) % 2048 + 1) % 2048 = omega arith in
          subst (λ b. HasWord b (next shape given c)) (sym (ne_eqb (next shape given c).refill 2 (omega (arith, none))))
          (word_is false f ∙ ap (λ k. slice_index WORDS k) (sym (mpc_is false false e f)), rom_is false false e f ∙ ap (λ k. slice_index WORDS k) two ∙ ap (λ k. slice_index WORDS ((k + 1) % 2048)) (sym (mpc_is false false e f)))

  -- the word behind the one that runs
  follows : (word : ℕ) → word ≡ slice_index WORDS ((c.mpc + 1) % 2048) → may_follow c.word word ≡ true
  follows word e = subst (λ w. may_follow w word ≡ true) (sym here) (subst (λ w. may_follow (slice_index WORDS c.mpc) w ≡ true) (sym e) (follow_next c.mpc stands.address))

  before : (word : ℕ) → word ≡ slice_index WORDS ((c.mpc + 1) % 2048) → takes_at_a word ≡ true → StandsBefore c.word
  before word e takes = before_at_a c.word word (follows word e) takes (by (is stmra c.word) refl)
    where
      by : (b : Bool) → is stmra c.word ≡ b → b ≡ false
      by true r =
          let waits = behind_read c.word word (follows word e) r in
          let off : takes_at_a word ≡ false = ap (λ k. k == 32 && has_nxt word) (eqb_eq (bits_of word) 39 waits) in
          let bad : ⊥ = cc in absurd bad
      by false r = refl

  -- a read is followed by a wait
  pub waits_behind : does stmra c ≡ true → is_taken c ≡ false → dispatches c ≡ false → is wait (next shape given c).word ≡ true
  waits_behind reads e f =
      behind_read c.word (next shape given c).word (follows (next shape given c).word (word_is false f)) (and_parts (runs c) (is stmra c.word) reads).1

  -- A is known ahead
  pub takes_ahead : TakesAhead c (next shape given c)
  unfolding next
  takes_ahead takes = by (dispatches c) refl
    where
      by_kind : (is add c.word ≡ true) ⊎ (is_ldi c.word ≡ true) → (if is_ldi c.word then loaded c else (c.b + c.a) % 2 ^ 32) % 2 ^ 16 ≡ (next shape given c).a % 2 ^ 16
      by_kind (inl h) =
          let bits : bits_of c.word ≡ 3 = eqb_eq (bits_of c.word) 3 h in
          let row = own shape given c s alive stands on in
          let does : body_does 3 row.micro.body ≡ true = sym (does_is c row.micro.body 3 on row.said.body (omega arith)) ∙ ap (λ r. r && is add c.word) on ∙ h in
          let sum : (cycle_of given.input s).a ≡ (s.b + s.a) % 2 ^ 32 =
          ap (λ (t : MachineState). t.a) (cycle_is shape given c s alive stands on)
          ∙ ap (λ (b : Body). (performed given.input (record { body = b; opd = row.micro.opd; nxt = row.micro.nxt }) (counted s)).a) (plain_of 3 row.micro.body does)
          ∙ performed_sum given.input row.micro.opd row.micro.nxt (counted s) in
          let registers = registers_follow shape given c s alive stands on in
          ap (λ k. k % 2 ^ 16)
          (ap (λ k. if k / 2 ^ 5 == 10 then loaded c else (c.b + c.a) % 2 ^ 32) bits
          ∙ ap (λ k. (k + c.a) % 2 ^ 32) stands.registers.b ∙ ap (λ k. (s.b + k) % 2 ^ 32) stands.registers.a
          ∙ sym sum ∙ sym registers.a)
      by_kind (inr h) =
          let row = own shape given c s alive stands on in
          let k = constant_of c row.micro.body on row.said.body h in
          ap (λ k. k % 2 ^ 16)
          (ap (λ b. if b then loaded c else (c.b + c.a) % 2 ^ 32) h
          ∙ sym (ap (λ p. if p then pushed given.input c else if pops c then top c else c.a) k.pushes_is
          ∙ ap (λ p. if p then pushed_plain (operation_in c.word) given.input c else loaded c) k.plain_is))

      by : (x : Bool) → dispatches c ≡ x → (if is_ldi c.word then loaded c else (c.b + c.a) % 2 ^ 32) % 2 ^ 16 ≡ (next shape given c).a % 2 ^ 16
      by true f = let off : takes_at_a (next shape given c).word ≡ false = ap takes_at_a (word_is true f) ∙ entry_apart (byte c) in let bad : ⊥ = cc in absurd bad
      by false f = by_kind (before (next shape given c).word (word_is false f) takes).kind

  -- behind a stall runs no word that takes its byte at A
  pub stalled_apart : is_stalled (next shape given c) ≡ true → takes_at_a (slice_index WORDS (next shape given c).mpc) ≡ false
  stalled_apart stalled = by (is_taken c) (dispatches c) refl refl
    where
      quiet : is_taken c ≡ false → switches c ≡ false → is_stalled (next shape given c) ≡ false
      quiet e other =
          let refill = refill_is false e in
          let header = no_header shape given c s stands on other in
          let left = no_left shape given c s stands on in
          ap (λ b. b || nat_lt 0 (next shape given c).header || nat_lt 0 (next shape given c).left) (ge_is 0 (next shape given c).refill (omega (arith, refill)))
          ∙ ap (λ b. false || b || nat_lt 0 (next shape given c).left) (ge_is 0 (next shape given c).header (omega (arith, header)))
          ∙ ap (λ b. false || false || b) (ge_is 0 (next shape given c).left (omega (arith, left)))

      behind : (b : Bool) → takes_at_a (slice_index WORDS ((c.mpc + 1) % 2048)) ≡ b → is_taken c ≡ false → b ≡ false
      behind true takes e =
          let word = before (slice_index WORDS ((c.mpc + 1) % 2048)) refl takes in
          let other : switches c ≡ false = ap (λ r. r && is stbc c.word) on ∙ no_switch c.word word.kind in
          let off = quiet e other in
          let bad : ⊥ = cc in absurd bad
      behind false takes e = refl

      by : (k x : Bool) → is_taken c ≡ k → dispatches c ≡ x → takes_at_a (slice_index WORDS (next shape given c).mpc) ≡ false
      by true x e f =
          let row = own shape given c s alive stands on in
          let goes : body_taken row.micro.body c.a ≡ true = sym (taken_is c row.micro.body on row.said.body) ∙ e in
          ap (λ k. takes_at_a (slice_index WORDS k)) (mpc_is true x e f) ∙ target_apart c.mpc c.word here (branches_of c.word c.a row.micro.body row.said.body goes)
      by false true e f = ap (λ k. takes_at_a (slice_index WORDS k)) (mpc_is false true e f) ∙ entry_apart (byte c)
      by false false e f = ap (λ k. takes_at_a (slice_index WORDS k)) (mpc_is false false e f) ∙ behind (takes_at_a (slice_index WORDS ((c.mpc + 1) % 2048))) refl e
