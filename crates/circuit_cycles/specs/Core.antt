-- The circuit as registers, output registers of block RAMs, and memories; and what a clock does to them. It is what the netlist means.
use Rattle.std.specs.Prelude.{ℕ, ◌+◌, ◌-◌, ◌*◌, ◌/◌, ◌%◌, ◌^◌, Bool, true, false, ◌==◌, ◌&&◌, ◌||◌, not, nat_lt, if◌then◌else◌, List, [], ◌∷◌}
use Rattle.std.specs.Prelude.{slice_set, slice_index, slice_index_or, Option, Some, None}
use Rattle.microcode.specs.declared.isa.operation.Operation.{Operation}
use Rattle.microcode.specs.declared.isa.operation.Operation.TheVariants.{Dup, Ldo, Ldo8, Ldo16}
use Rattle.microcode.specs.declared.isa.operation.Operation.TheVariants.{Ldvp, Ldsp, Ldjpc}
use Rattle.microcode.specs.declared.isa.operation.Operation.TheVariants.{Ldmrd, Ldin}
use Rattle.microcode.specs.declared.TheConstants.{WORDS, ENTRIES}
use Rattle.base.specs.Packed.{byte_of}
use Rattle.base.specs.Signed.{sign_extended8, sign_extended16, holds}
use Rattle.jop_core.specs.Operations.{combined}
use Rattle.circuit_cycles.specs.Shape.{Shape}
use Rattle.circuit_cycles.specs.Words.{has_opd, has_nxt, is_plain, is, is_stm, is_ldi, is_bz, is_bnz}
use Rattle.circuit_cycles.specs.Words.{is_jmp, pushes_word, pops_word, stores_plain, is_binary, operation_in, place_of, takes_at_a}
use Rattle.circuit_cycles.specs.Words.{stvp, stsp, stjpc, star, stmra, stmwa, stmwd, wait, stbc, jbr, jbg, ldin, stout, hltb, hltu}
use Rattle.circuit_cycles.specs.Tags.{BlockTag, find_tag, bit_of, behind}

pub record Core : Type 0 where
  -- of the machine
  pub a : ℕ
  pub b : ℕ
  pub sp : ℕ
  pub vp : ℕ
  pub ar : ℕ
  pub jpc : ℕ
  pub mpc : ℕ
  pub operand : ℕ
  pub opcode : ℕ
  pub halt : ℕ
  -- what stands ready: the word that runs, the stalled cycles behind a branch, whether it hasn't begun, what was written as it was read
  pub word : ℕ
  pub refill : ℕ
  pub starting : ℕ
  pub below_passed : ℕ
  pub place_passed : ℕ
  pub passed : ℕ
  -- the port of the main memory
  pub count : ℕ
  pub value : ℕ
  pub reading : ℕ
  pub within : ℕ
  pub write_address : ℕ
  -- the current method, and the load of one
  pub place : ℕ
  pub base : ℕ
  pub words : ℕ
  pub header : ℕ
  pub left : ℕ
  pub turn : ℕ
  pub source : ℕ
  pub target : ℕ
  pub in_block : ℕ
  pub next_block : ℕ
  pub tags : List BlockTag
  -- the output registers of the block RAMs
  pub rom_out : ℕ
  pub below_out : ℕ
  pub loaded_out : ℕ
  pub ring_out : ℕ
  pub main_out : ℕ
  -- the on-chip words, of which both block RAMs have a copy, the words of the blocks, and those of the main memory
  pub on_chip : List ℕ
  pub ring : List ℕ
  pub main : List ℕ

-- What comes from outside at a clock: a byte of the input, if there is one, and what each block RAM gives where its place doesn't tell.
pub record Given : Type 0 where
  pub input : Option ℕ
  pub rom : ℕ
  pub below : ℕ
  pub loaded : ℕ
  pub ring : ℕ
  pub main : ℕ

-- ---- what the cycle is

abbrev pub goes : Core → Bool
goes c = c.starting == 0 && c.halt == 0

abbrev pub is_stalled : Core → Bool
is_stalled c = nat_lt 0 c.refill || nat_lt 0 c.header || nat_lt 0 c.left

abbrev pub waits : Core → Bool
waits c = is wait c.word && nat_lt 1 c.count

abbrev pub runs : Core → Bool
runs c = goes c && not (is_stalled c) && not (waits c)

-- the operation of this code runs
abbrev pub does : ℕ → Core → Bool
does code c = runs c && is code c.word

abbrev pub pushes : Core → Bool
pushes c = runs c && pushes_word c.word

abbrev pub pops : Core → Bool
pops c = runs c && pops_word c.word

abbrev pub dispatches : Core → Bool
dispatches c = runs c && has_nxt c.word

abbrev pub below : Core → ℕ
below c = if c.below_passed == 1 then c.passed else c.below_out

abbrev pub loaded : Core → ℕ
loaded c = if c.place_passed == 1 then c.passed else c.loaded_out

-- ---- bytes of the method

-- where the byte lies that the word takes
abbrev pub byte_place : (word a jpc : ℕ) → ℕ
byte_place word a jpc = if takes_at_a word then a % 2 ^ 16 else jpc

abbrev pub byte : Core → ℕ
byte c =
    let place = byte_place c.word c.a c.jpc in
    if nat_lt (place / 4) c.words then byte_of c.ring_out (place % 4) else 0

-- Where the word with this byte of a method lies that begins there, in a ring of so many words whose places take so many bits. Behind the last place
-- comes the first one.
abbrev pub ring_place : (bits size base place : ℕ) → ℕ
ring_place bits size base place =
    let straight = (base + place / 4) % 2 ^ (bits + 1) in (if nat_lt straight size then straight else straight - size) % 2 ^ bits

-- ---- the registers of the machine behind the cycle

abbrev pub pushed_plain : Operation → Option ℕ → Core → ℕ
pushed_plain Dup input c = c.a
pushed_plain Ldo input c = c.operand
pushed_plain Ldo8 input c = sign_extended8 c.operand
pushed_plain Ldo16 input c = sign_extended16 c.operand
pushed_plain Ldvp input c = c.vp
pushed_plain Ldsp input c = c.sp
pushed_plain Ldjpc input c = c.jpc
pushed_plain Ldmrd input c = c.value
pushed_plain Ldin (Some byte) c = byte
pushed_plain Ldin None c = 2 ^ 32 - 1
pushed_plain _ input c = loaded c

abbrev pub pushed : Option ℕ → Core → ℕ
pushed input c = if is_plain c.word then pushed_plain (operation_in c.word) input c else loaded c

abbrev pub top : Core → ℕ
top c = if is_plain c.word && is_binary (operation_in c.word) then combined (operation_in c.word) c.b c.a else c.b

abbrev pub next_a : Option ℕ → Core → ℕ
next_a input c = if pushes c then pushed input c else if pops c then top c else c.a

abbrev pub next_b : Core → ℕ
next_b c = if pushes c then c.a else if pops c then below c else c.b

abbrev pub next_sp : (n : ℕ) → Core → ℕ
next_sp n c = if does stsp c then c.a % n else if pushes c then (c.sp + 1) % n else if pops c then (c.sp + (n - 1)) % n else c.sp

abbrev pub next_vp : (n : ℕ) → Core → ℕ
next_vp n c = if does stvp c then c.a % n else c.vp

abbrev pub next_ar : (n : ℕ) → Core → ℕ
next_ar n c = if does star c then c.a % n else c.ar

abbrev pub next_operand : Core → ℕ
next_operand c =
    if dispatches c then 0 else if runs c && has_opd c.word then (c.operand * 2 ^ 8 + byte c) % 2 ^ 32 else c.operand

abbrev pub next_opcode : Core → ℕ
next_opcode c = if dispatches c then byte c else c.opcode

abbrev pub target : Core → ℕ
target c = (c.jpc + (2 ^ 16 - 3) + c.operand % 2 ^ 16) % 2 ^ 16

abbrev pub moved : Core → ℕ
moved c =
    if does jbg c || does jbr c && holds c.opcode c.b c.a then target c
    else if does stjpc c then c.a % 2 ^ 16 else c.jpc

abbrev pub next_jpc : Core → ℕ
next_jpc c = if runs c && (has_opd c.word || has_nxt c.word) then (moved c + 1) % 2 ^ 16 else moved c

abbrev pub next_halt : Core → ℕ
next_halt c = if does hltu c && c.vp == 64 then 2 else if does hltb c && c.vp == 64 then 1 else c.halt

-- ---- the ROM, read two words ahead

abbrev pub is_taken : Core → Bool
is_taken c = runs c && (is_jmp c.word || is_bz c.word && c.a == 0 || is_bnz c.word && nat_lt 0 c.a)

abbrev pub entry_of : ℕ → ℕ
entry_of op = slice_index ENTRIES op

abbrev pub next_mpc : Core → ℕ
next_mpc c =
    if is_taken c then c.word % 2 ^ 11 else if dispatches c then entry_of (byte c) else if runs c then (c.mpc + 1) % 2048 else c.mpc

abbrev pub rom_place : Core → ℕ
rom_place c =
    if is_taken c then c.word % 2 ^ 11
    else if dispatches c then (entry_of (byte c) + 1) % 2048
    else if runs c then (c.mpc + 2) % 2048 else (c.mpc + 1) % 2048

abbrev pub next_word : Core → ℕ
next_word c =
    if dispatches c then slice_index WORDS (entry_of (byte c)) else if runs c || c.refill == 2 then c.rom_out else c.word

abbrev pub next_refill : Core → ℕ
next_refill c = if is_taken c then 2 else c.refill - 1

-- ---- the on-chip words

abbrev pub writes : Core → Bool
writes c = pushes c || runs c && (is_plain c.word && stores_plain (operation_in c.word) || is_stm c.word)

abbrev pub write_place : (n : ℕ) → Core → ℕ
write_place n c = if pushes c then (c.sp + 1) % n else place_of n c.word c.vp c.ar c.operand

abbrev pub written : Core → ℕ
written c = if pushes c then c.b else c.a

-- the place that the next word loads
abbrev pub load_place : (n : ℕ) → Core → ℕ
load_place n c = place_of n (next_word c) (next_vp n c) (next_ar n c) (next_operand c)

-- a block RAM gives any word at the place that is written as it is read
abbrev pub read_at : (when : Bool) → (written place unknown : ℕ) → List ℕ → ℕ
read_at when written place unknown words = if when && written == place then unknown else slice_index_or words place unknown

-- ---- the method cache

abbrev pub found : Core → Option (ℕ × ℕ)
found c = find_tag 0 c.a c.tags

abbrev pub switches : Core → Bool
switches c = does stbc c

abbrev pub misses : Core → Bool
misses c = switches c && elim (found c) [ None ↦ true | Some _ ↦ false ]

-- A load's first stalled cycle has the words of the code, and the second one the entries of the exception table.
abbrev pub has_words : Core → Bool
has_words c = c.header == 4

abbrev pub has_entries : Core → Bool
has_entries c = c.header == 3

abbrev pub fills : Core → Bool
fills c = c.header == 0 && nat_lt 0 c.left

abbrev pub fills_word : Shape → Core → Bool
fills_word shape c = fills c && c.turn == shape.read_wait + 1

abbrev pub next_base : Shape → Core → ℕ
next_base shape c =
    if switches c then elim (found c) [ None ↦ c.next_block * shape.block_words | Some f ↦ f.0 * shape.block_words ] else c.base

abbrev pub next_words : Core → ℕ
next_words c =
    if switches c then elim (found c) [ None ↦ 0 | Some f ↦ f.1 ] else if has_words c then c.main_out % 2 ^ 16 else c.words

abbrev pub next_header : Core → ℕ
next_header c = if misses c then 4 else c.header - 1

abbrev pub next_left : Core → ℕ
next_left c = if has_words c then c.main_out % 2 ^ 16 else if fills c && c.turn == 0 then c.left - 1 else c.left

abbrev pub next_turn : Shape → Core → ℕ
next_turn shape c = if fills c && nat_lt 0 c.turn then c.turn - 1 else shape.read_wait + 1

abbrev pub next_source : Shape → Core → ℕ
next_source shape c =
    if has_entries c then (c.place + 4 + 3 * c.main_out) % 2 ^ shape.memory_bits
    else if fills_word shape c then (c.source + 1) % 2 ^ shape.memory_bits else c.source

abbrev pub next_target : Shape → Core → ℕ
next_target shape c =
    if misses c then c.next_block * shape.block_words else if fills_word shape c then behind shape.ring_words c.target else c.target

abbrev pub next_in_block : Shape → Core → ℕ
next_in_block shape c = if misses c then 0 else if fills_word shape c then behind shape.block_words c.in_block else c.in_block

-- the first word of a block is written, and the tag of the block is set
abbrev pub takes_block : Shape → Core → Bool
takes_block shape c = fills_word shape c && c.in_block == 0

abbrev pub next_next_block : Shape → Core → ℕ
next_next_block shape c = if takes_block shape c then behind shape.blocks c.next_block else c.next_block

abbrev pub tag_taken : Core → BlockTag
tag_taken c = record { begins = bit_of (c.left == c.words); method = c.place; words = c.words }

abbrev pub next_tags : Shape → Core → List BlockTag
next_tags shape c = if takes_block shape c then slice_set c.tags c.next_block (tag_taken c) else c.tags

-- A at the next clock, where the next word takes its byte there: it stands behind an addition or a constant
abbrev pub next_a_taken : Core → ℕ
next_a_taken c = if is_ldi c.word then loaded c else (c.b + c.a) % 2 ^ 32

abbrev pub next_ring_place : Shape → Core → ℕ
next_ring_place shape c = ring_place shape.ring_bits shape.ring_words (next_base shape c) (byte_place (next_word c) (next_a_taken c) (next_jpc c))

-- ---- the main memory

abbrev pub next_count : Shape → Core → ℕ
next_count shape c =
    if does stmra c then shape.read_wait + 1 else if does stmwd c then shape.write_wait + 1 else if goes c then c.count - 1 else c.count

abbrev pub next_value : Core → ℕ
next_value c = if c.reading == 1 then (if c.within == 1 then c.main_out else 0) else c.value

abbrev pub main_place : Shape → Core → ℕ
main_place shape c =
    if runs c then (if switches c then c.a + 1 else c.a) % 2 ^ shape.memory_bits
    else if has_words c then (c.place + 3) % 2 ^ shape.memory_bits else c.source

abbrev pub main_writes : Shape → Core → Bool
main_writes shape c = does stmwd c && nat_lt c.write_address shape.memory_words

-- ---- the devices

-- the byte that is put out, if one is
abbrev pub put : Core → List ℕ
put c = if does stout c then c.a % 2 ^ 8 ∷ [] else []

-- whether the next byte of the input is taken
abbrev pub takes_input : Core → Bool
takes_input c = does ldin c

-- ---- a clock

unfoldable pub next : Shape → Given → Core → Core
next shape given c =
    let n = shape.on_chip_words in
    record {
      a = next_a given.input c;
      b = next_b c;
      sp = next_sp n c;
      vp = next_vp n c;
      ar = next_ar n c;
      jpc = next_jpc c;
      mpc = next_mpc c;
      operand = next_operand c;
      opcode = next_opcode c;
      halt = next_halt c;
      word = next_word c;
      refill = next_refill c;
      starting = 0;
      below_passed = bit_of (writes c && write_place n c == next_sp n c);
      place_passed = bit_of (writes c && write_place n c == load_place n c);
      passed = written c;
      count = next_count shape c;
      value = next_value c;
      reading = bit_of (does stmra c);
      within = bit_of (nat_lt c.a shape.memory_words);
      write_address = if does stmwa c then c.a else c.write_address;
      place = if switches c then c.a % 2 ^ shape.memory_bits else c.place;
      base = next_base shape c;
      words = next_words c;
      header = next_header c;
      left = next_left c;
      turn = next_turn shape c;
      source = next_source shape c;
      target = next_target shape c;
      in_block = next_in_block shape c;
      next_block = next_next_block shape c;
      tags = next_tags shape c;
      rom_out = slice_index WORDS (rom_place c);
      below_out = read_at (writes c) (write_place n c) (next_sp n c) given.below c.on_chip;
      loaded_out = read_at (writes c) (write_place n c) (load_place n c) given.loaded c.on_chip;
      ring_out = read_at (fills_word shape c) c.target (next_ring_place shape c) given.ring c.ring;
      main_out = read_at (main_writes shape c) (c.write_address % 2 ^ shape.memory_bits) (main_place shape c) given.main c.main;
      on_chip = if writes c then slice_set c.on_chip (write_place n c) (written c) else c.on_chip;
      ring = if fills_word shape c then slice_set c.ring c.target c.main_out else c.ring;
      main = if main_writes shape c then slice_set c.main (c.write_address % 2 ^ shape.memory_bits) c.a else c.main;
    }
