-- A clock in which no word runs: the registers of the machine stay.
use Rattle.std.proofs.Common.{◌≡◌, ℕ, ◌+◌, ◌-◌, ◌*◌, ◌%◌, ◌^◌, true, false, refl, ap, ◌∙◌}
use Rattle.std.specs.Prelude.{◌==◌, ◌&&◌, ◌||◌, nat_lt, if◌then◌else◌, slice_set, slice_index}
use Rattle.base.specs.Signed.{holds}
use Rattle.microcode.specs.declared.TheConstants.{WORDS}
use Rattle.circuit_cycles.specs.Shape.{Shape}
use Rattle.circuit_cycles.specs.Words.{is, has_opd, has_nxt, is_plain, is_stm, is_jmp, is_bz, is_bnz, pushes_word, pops_word, stores_plain, operation_in, stvp, stsp, stjpc, star, stmra, stmwa, stmwd, jbr, jbg, hltb, hltu}
use Rattle.circuit_cycles.specs.Core.{Core, Given, next, goes, runs, does, pushes, pops, dispatches, writes, is_taken, pushed, top, below, byte, target, moved, entry_of, write_place, written}
use Rattle.circuit_cycles.specs.Tags.{bit_of}

module _ (shape : Shape) (given : Given) (c : Core) (idle : runs c ≡ false) where
  no_push : pushes c ≡ false
  no_push = ap (λ r. r && pushes_word c.word) idle

  no_pop : pops c ≡ false
  no_pop = ap (λ r. r && pops_word c.word) idle

  pub does_no : (code : ℕ) → does code c ≡ false
  does_no code = ap (λ r. r && is code c.word) idle

  no_dispatch : dispatches c ≡ false
  no_dispatch = ap (λ r. r && has_nxt c.word) idle

  no_branch : is_taken c ≡ false
  no_branch = ap (λ r. r && (is_jmp c.word || is_bz c.word && c.a == 0 || is_bnz c.word && nat_lt 0 c.a)) idle

  no_write : writes c ≡ false
  no_write = ap (λ p. p || runs c && (is_plain c.word && stores_plain (operation_in c.word) || is_stm c.word)) no_push ∙ ap (λ r. r && (is_plain c.word && stores_plain (operation_in c.word) || is_stm c.word)) idle

  pub a : (next shape given c).a ≡ c.a
  unfolding next
  a = ap (λ p. if p then pushed given.input c else if pops c then top c else c.a) no_push ∙ ap (λ p. if p then top c else c.a) no_pop

  pub b : (next shape given c).b ≡ c.b
  unfolding next
  b = ap (λ p. if p then c.a else if pops c then below c else c.b) no_push ∙ ap (λ p. if p then below c else c.b) no_pop

  pub sp : (next shape given c).sp ≡ c.sp
  unfolding next
  sp =
      let n = shape.on_chip_words in
      ap (λ p. if p then c.a % n else if pushes c then (c.sp + 1) % n else if pops c then (c.sp + (n - 1)) % n else c.sp) (does_no stsp)
      ∙ ap (λ p. if p then (c.sp + 1) % n else if pops c then (c.sp + (n - 1)) % n else c.sp) no_push ∙ ap (λ p. if p then (c.sp + (n - 1)) % n else c.sp) no_pop

  pub vp : (next shape given c).vp ≡ c.vp
  unfolding next
  vp = ap (λ p. if p then c.a % shape.on_chip_words else c.vp) (does_no stvp)

  pub ar : (next shape given c).ar ≡ c.ar
  unfolding next
  ar = ap (λ p. if p then c.a % shape.on_chip_words else c.ar) (does_no star)

  pub jpc : (next shape given c).jpc ≡ c.jpc
  unfolding next
  jpc =
      ap (λ r. if r && (has_opd c.word || has_nxt c.word) then (moved c + 1) % 2 ^ 16 else moved c) idle
      ∙ ap (λ p. if p || does jbr c && holds c.opcode c.b c.a then target c else if does stjpc c then c.a % 2 ^ 16 else c.jpc) (does_no jbg)
      ∙ ap (λ p. if p && holds c.opcode c.b c.a then target c else if does stjpc c then c.a % 2 ^ 16 else c.jpc) (does_no jbr)
      ∙ ap (λ p. if p then c.a % 2 ^ 16 else c.jpc) (does_no stjpc)

  pub mpc : (next shape given c).mpc ≡ c.mpc
  unfolding next
  mpc =
      ap (λ p. if p then c.word % 2 ^ 11 else if dispatches c then entry_of (byte c) else if runs c then (c.mpc + 1) % 2048 else c.mpc) no_branch
      ∙ ap (λ p. if p then entry_of (byte c) else if runs c then (c.mpc + 1) % 2048 else c.mpc) no_dispatch
      ∙ ap (λ p. if p then (c.mpc + 1) % 2048 else c.mpc) idle

  pub operand : (next shape given c).operand ≡ c.operand
  unfolding next
  operand =
      ap (λ p. if p then 0 else if runs c && has_opd c.word then (c.operand * 2 ^ 8 + byte c) % 2 ^ 32 else c.operand) no_dispatch
      ∙ ap (λ r. if r && has_opd c.word then (c.operand * 2 ^ 8 + byte c) % 2 ^ 32 else c.operand) idle

  pub opcode : (next shape given c).opcode ≡ c.opcode
  unfolding next
  opcode = ap (λ p. if p then byte c else c.opcode) no_dispatch

  pub halt : (next shape given c).halt ≡ c.halt
  unfolding next
  halt =
      ap (λ p. if p && c.vp == 64 then 2 else if does hltb c && c.vp == 64 then 1 else c.halt) (does_no hltu)
      ∙ ap (λ p. if p && c.vp == 64 then 1 else c.halt) (does_no hltb)

  pub word : (next shape given c).word ≡ (if c.refill == 2 then c.rom_out else c.word)
  unfolding next
  word =
      ap (λ p. if p then slice_index WORDS (entry_of (byte c)) else if runs c || c.refill == 2 then c.rom_out else c.word) no_dispatch
      ∙ ap (λ r. if r || c.refill == 2 then c.rom_out else c.word) idle

  pub refill : (next shape given c).refill ≡ c.refill - 1
  unfolding next
  refill = ap (λ p. if p then 2 else c.refill - 1) no_branch

  pub rom_out : (next shape given c).rom_out ≡ slice_index WORDS ((c.mpc + 1) % 2048)
  unfolding next
  rom_out =
      ap (λ p. slice_index WORDS (if p then c.word % 2 ^ 11 else if dispatches c then (entry_of (byte c) + 1) % 2048 else if runs c then (c.mpc + 2) % 2048 else (c.mpc + 1) % 2048)) no_branch
      ∙ ap (λ p. slice_index WORDS (if p then (entry_of (byte c) + 1) % 2048 else if runs c then (c.mpc + 2) % 2048 else (c.mpc + 1) % 2048)) no_dispatch
      ∙ ap (λ r. slice_index WORDS (if r then (c.mpc + 2) % 2048 else (c.mpc + 1) % 2048)) idle

  pub on_chip : (next shape given c).on_chip ≡ c.on_chip
  unfolding next
  on_chip = ap (λ p. if p then slice_set c.on_chip (write_place shape.on_chip_words c) (written c) else c.on_chip) no_write

  pub main : (next shape given c).main ≡ c.main
  unfolding next
  main = ap (λ p. if p && nat_lt c.write_address shape.memory_words then slice_set c.main (c.write_address % 2 ^ shape.memory_bits) c.a else c.main) (does_no stmwd)

  pub write_address : (next shape given c).write_address ≡ c.write_address
  unfolding next
  write_address = ap (λ p. if p then c.a else c.write_address) (does_no stmwa)

  pub count : goes c ≡ true → (next shape given c).count ≡ c.count - 1
  unfolding next
  count going =
      ap (λ p. if p then shape.read_wait + 1 else if does stmwd c then shape.write_wait + 1 else if goes c then c.count - 1 else c.count) (does_no stmra)
      ∙ ap (λ p. if p then shape.write_wait + 1 else if goes c then c.count - 1 else c.count) (does_no stmwd)
      ∙ ap (λ p. if p then c.count - 1 else c.count) going

  pub begun : (next shape given c).starting ≡ 0
  unfolding next
  begun = refl

  pub value : (next shape given c).value ≡ (if c.reading == 1 then (if c.within == 1 then c.main_out else 0) else c.value)
  unfolding next
  value = refl

  pub reading : (next shape given c).reading ≡ 0
  unfolding next
  reading = ap (λ p. bit_of p) (does_no stmra)
