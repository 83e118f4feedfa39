-- The machine between two boundaries, with its stack as a list.
use Rattle.std.specs.Prelude.{ℕ, suc, zero, ◌+◌, ◌-◌, ◌*◌, ◌/◌, ◌%◌, ◌^◌, Bool, true, false, ◌==◌, ◌&&◌, ◌||◌, nat_lt, nat_le, if◌then◌else◌, List, [], ◌∷◌}
use Rattle.std.specs.Prelude.{length, Some, None, slice_set, slice_index, slice_range}
use Rattle.std.specs.declared.option.Option.{Option}
use Rattle.microcode.specs.declared.isa.Body.TheVariants.{Plain, Stm, Ldm, Ldi, Bz, Bnz, Jmp}
use Rattle.microcode.specs.declared.isa.Micro.{Micro}
use Rattle.microcode.specs.declared.isa.operation.Operation.{Operation}
use Rattle.microcode.specs.declared.isa.operation.Operation.TheVariants.{Nop, Pop, Dup, Add, Sub, And, Or, Xor}
use Rattle.microcode.specs.declared.isa.operation.Operation.TheVariants.{Shl, Shr, Ushr, Mul, Slt, Sltu, Ldo, Ldo8, Ldo16}
use Rattle.microcode.specs.declared.isa.operation.Operation.TheVariants.{Ldl, Stl, Ld0, Ld1, Ld2, Ld3, St0, St1, St2, St3, Ldvp, Stvp, Ldsp, Stsp, Ldjpc, Stjpc}
use Rattle.microcode.specs.declared.isa.operation.Operation.TheVariants.{Star, Ldmi, Stmi, Stmra, Stmwa, Stmwd, Wait, Ldmrd, Stbc, Jbr, Jbg, Ldin, Stout, Hltb}
use Rattle.microcode.specs.declared.isa.operation.Operation.TheVariants.{Hltu}
use Rattle.microcode.specs.Isa.Operations.{operation_of}
use Rattle.microcode.specs.Isa.Words.{micro_of}
use Rattle.microcode.specs.declared.TheConstants.{WORDS, CONSTANTS, ENTRIES, RAISE}
use Rattle.method_cache.specs.Contents.{Cache, can_load, is_cached, loaded, word_of}
use Rattle.micro_flow.specs.Walk.{used}
use Rattle.jop_core.specs.declared.halt.Halt.{Halt}
use Rattle.jop_core.specs.declared.halt.Halt.TheVariants.{Running, Ended, Uncaught}
use Rattle.jop_core.specs.Operations.{combined, holds, sign_extended8, sign_extended16, input_word, code_words, code_place}
use Rattle.jop_core.specs.Cycle.{byte_of, entry_of, is_running}
use Rattle.jop_core.specs.Scene.{first_of, rest_of}

-- top is A, next is B, and under has the words from SP down to the last of deep; above has the words past SP. low has
-- the places 0 to 31, and deep those from 64 on below the moving part of the stack. left has the turns that each branch
-- may still take; loads and words count the methods that were loaded and their words. answers are those that the input
-- is still to give, each a byte or the end, and output has the bytes put out, the last one first.
pub record Sketch : Type 0 where
  pub top : ℕ
  pub next : ℕ
  pub under : List ℕ
  pub above : List ℕ
  pub low : List ℕ
  pub deep : List ℕ
  pub vp : ℕ
  pub ar : ℕ
  pub jpc : ℕ
  pub mpc : ℕ
  pub operand : ℕ
  pub opcode : ℕ
  pub method : ℕ
  pub cache : Cache
  pub memory : List ℕ
  pub value : ℕ
  pub write_address : ℕ
  pub busy : Bool
  pub hits : ℕ
  pub misses : ℕ
  pub left : ℕ → ℕ
  pub loads : ℕ
  pub words : ℕ
  pub halt : Halt
  pub answers : List (Option ℕ)
  pub output : List ℕ
  -- whether all of it was allowed, and whether it came to a boundary
  pub fine : Bool
  pub done : Bool

abbrev pub bad : Sketch → Sketch
bad x = record x { fine = false }

abbrev pub need : Bool → Sketch → Sketch
need b x = record x { fine = b && x.fine }

abbrev pub apush : ℕ → Sketch → Sketch
apush v x = elim x.above [ [] ↦ bad x | j ∷ js ↦ record x { top = v; next = x.top; under = x.next ∷ x.under; above = js } ]

abbrev pub apop : Sketch → Sketch
apop x = elim x.under [ [] ↦ bad x | c ∷ cs ↦ record x { top = x.next; next = c; under = cs; above = c ∷ x.above } ]

-- a place of the words from 64 on that are below the moving part of the stack
abbrev pub inside : ℕ → Sketch → Bool
inside k x = (if nat_lt k 64 then false else true) && nat_lt k (64 + length x.deep)

abbrev pub aload : ℕ → Sketch → Sketch
aload k x = need (inside k x) (apush (slice_index x.deep (k - 64)) x)

abbrev pub astore : ℕ → Sketch → Sketch
astore k x = let y = apop x in need (inside k x) (record y { deep = slice_set x.deep (k - 64) x.top })

abbrev pub astm : ℕ → Sketch → Sketch
astm k x = let y = apop x in record y { low = slice_set y.low k x.top }

abbrev pub abinary : Operation → Sketch → Sketch
abinary op x = let y = apop x in record y { top = combined op x.next x.top }

abbrev pub abyte : Sketch → ℕ
abyte x = byte_of (word_of x.method (x.jpc / 4) x.cache) (x.jpc % 4)

abbrev pub atarget : Sketch → ℕ
atarget x = (x.jpc + (2 ^ 16 - 3) + sign_extended16 x.operand % 2 ^ 16) % 2 ^ 16

abbrev pub among : ℕ → List ℕ → Bool
among m [] = false
among m (k ∷ ks) = if k == m then true else among m ks

-- at no opcode's first word
abbrev pub off_entry : Sketch → Bool
off_entry x = if among x.mpc ENTRIES then false else true

abbrev pub off_raise : Sketch → Bool
off_raise x = if x.mpc == RAISE then false else true

-- at the raise routine, or halted
abbrev pub stopped : Sketch → Bool
stopped x = if is_running x.halt then x.mpc == RAISE else true

-- at an address that was come to: it stops there, or the address is no boundary
abbrev pub settled : Sketch → Sketch
settled x = record x { done = stopped x; fine = (stopped x || off_entry x) && x.fine }

abbrev pub same_bool : Bool → Bool → Bool
same_bool true b = b
same_bool false b = if b then false else true

-- a method that can be switched to
abbrev pub can_find : Sketch → ℕ → Bool
can_find x m = can_load (code_words x.memory m) x.cache && nat_le (code_place x.memory m + code_words x.memory m) (length x.memory)

-- its words
abbrev pub found_words : Sketch → ℕ → List ℕ
found_words x m = slice_range x.memory (code_place x.memory m) (code_place x.memory m + code_words x.memory m)

-- how many loads a look-up takes
abbrev pub missed : ℕ → Cache → ℕ
missed m cache = if is_cached m cache then 0 else 1

-- the cache after a look-up
abbrev pub cached : (m : ℕ) → List ℕ → Cache → Cache
cached m words cache = if is_cached m cache then cache else loaded m words cache

abbrev pub found : Sketch → Sketch
found x = let y = apop x in record y {
  method = x.top;
  cache = cached x.top (found_words x x.top) x.cache;
  hits = if is_cached x.top x.cache then (x.hits + 1) % 2 ^ 64 else x.hits;
  misses = if is_cached x.top x.cache then x.misses else (x.misses + 1) % 2 ^ 64;
  loads = x.loads + missed x.top x.cache;
  words = x.words + missed x.top x.cache * code_words x.memory x.top;
}

-- a halting operation halts where VP is that of boot's frame, and else does nothing; the guess says which
abbrev pub ahalt : Halt → (guess : Bool) → Sketch → Sketch
ahalt halt guess x = need (same_bool guess (x.vp == 64)) (record x { halt = if guess then halt else x.halt })

abbrev pub aplain : Operation → (guess : Bool) → Sketch → Sketch
aplain Nop guess x = x
aplain Pop guess x = apop x
aplain Dup guess x = apush x.top x
aplain Add guess x = abinary Add x
aplain Sub guess x = abinary Sub x
aplain And guess x = abinary And x
aplain Or guess x = abinary Or x
aplain Xor guess x = abinary Xor x
aplain Shl guess x = abinary Shl x
aplain Shr guess x = abinary Shr x
aplain Ushr guess x = abinary Ushr x
aplain Mul guess x = abinary Mul x
aplain Slt guess x = abinary Slt x
aplain Sltu guess x = abinary Sltu x
aplain Ldo guess x = apush x.operand x
aplain Ldo8 guess x = apush (sign_extended8 x.operand) x
aplain Ldo16 guess x = apush (sign_extended16 x.operand) x
aplain Ldl guess x = aload (x.vp + x.operand) x
aplain Stl guess x = astore (x.vp + x.operand) x
aplain Ld0 guess x = aload x.vp x
aplain Ld1 guess x = aload (x.vp + 1) x
aplain Ld2 guess x = aload (x.vp + 2) x
aplain Ld3 guess x = aload (x.vp + 3) x
aplain St0 guess x = astore x.vp x
aplain St1 guess x = astore (x.vp + 1) x
aplain St2 guess x = astore (x.vp + 2) x
aplain St3 guess x = astore (x.vp + 3) x
aplain Ldvp guess x = apush x.vp x
aplain Stvp guess x = need (inside x.top x) (record (apop x) { vp = x.top })
aplain Ldsp guess x = apush (length x.deep + 63 + length x.under) x
-- a new SP takes a new split of the on-chip words: see `proofs/Frames`
aplain Stsp guess x = bad x
aplain Ldjpc guess x = apush x.jpc x
aplain Stjpc guess x = record (apop x) { jpc = x.top % 2 ^ 16 }
aplain Star guess x = record (apop x) { ar = x.top }
aplain Ldmi guess x = aload x.ar x
aplain Stmi guess x = astore x.ar x
aplain Stmra guess x = record (apop x) { busy = true; memory = x.memory; value = slice_index x.memory x.top }
aplain Stmwa guess x = record (apop x) { write_address = x.top }
aplain Stmwd guess x = record (apop x) { busy = true; memory = slice_set x.memory x.write_address x.top; value = x.value }
aplain Wait guess x = need (off_entry x && off_raise x) (record x { busy = false })
aplain Ldmrd guess x = apush x.value x
aplain Stbc guess x = need (can_find x x.top && (if x.busy then false else true)) (found x)
aplain Jbr guess x = let y = apop x in record y { jpc = if holds x.opcode x.next x.top then atarget x else x.jpc }
aplain Jbg guess x = record x { jpc = atarget x }
aplain Ldin guess x = let y = apush (input_word (first_of x.answers)) x in record y { answers = rest_of x.answers }
aplain Stout guess x = record (apop x) { output = x.top % 2 ^ 8 ∷ x.output }
aplain Hltb guess x = ahalt Ended guess x
aplain Hltu guess x = ahalt Uncaught guess x

abbrev pub opd_byte : Bool → Sketch → Sketch
opd_byte false x = x
opd_byte true x = record x { operand = (x.operand * 2 ^ 8 + abyte x) % 2 ^ 32; jpc = (x.jpc + 1) % 2 ^ 16 }

abbrev pub lead : Bool → Sketch → Sketch
lead false x = settled (record x { mpc = (x.mpc + 1) % 2048 })
lead true x = record x { operand = 0; opcode = abyte x; jpc = (x.jpc + 1) % 2 ^ 16; mpc = entry_of (abyte x); done = true }

-- a branch to its own or an earlier address uses a turn
abbrev pub aturned : Bool → Sketch → Sketch
aturned true x = x
aturned false x = record x { left = used x.mpc x.left; fine = nat_lt 0 (x.left x.mpc) && x.fine }

abbrev pub jumped : Bool → ℕ → Sketch → Sketch
jumped true to x = let y = aturned (nat_lt x.mpc to) x in settled (record y { mpc = to })
jumped false to x = settled (record x { mpc = (x.mpc + 1) % 2048 })

-- One microinstruction; guess says which way a branch goes, and whether a halting operation halts.
abbrev pub astep : Option Micro → Bool → Sketch → Sketch
astep None guess x = bad x
astep (Some m) guess x =
    elim m.body [
      | Plain code ↦ lead m.nxt (opd_byte m.opd (aplain (operation_of code) guess x))
      | Stm k ↦ lead m.nxt (opd_byte m.opd (need (nat_lt k 32) (astm k x)))
      | Ldm k ↦ lead m.nxt (opd_byte m.opd (need (nat_lt k 32) (apush (slice_index x.low k) x)))
      | Ldi k ↦ lead m.nxt (opd_byte m.opd (need (nat_lt k 32) (apush (slice_index CONSTANTS k) x)))
      | Bz to ↦ jumped guess to (need (same_bool guess (x.top == 0)) (apop x))
      | Bnz to ↦ jumped guess to (need (same_bool guess (nat_lt 0 x.top)) (apop x))
      | Jmp to ↦ jumped true to x
    ]

-- whether a microinstruction takes a guess
abbrev pub halts : Operation → Bool
halts Hltb = true
halts Hltu = true
halts _ = false

abbrev pub is_guessed : Option Micro → Bool
is_guessed None = false
is_guessed (Some m) = elim m.body [ Plain code ↦ halts (operation_of code) | Bz to ↦ true | Bnz to ↦ true | _ ↦ false ]

abbrev pub first_or : List Bool → Bool
first_or [] = false
first_or (b ∷ bs) = b

abbrev pub rest_if : Bool → List Bool → List Bool
rest_if true (b ∷ bs) = bs
rest_if true [] = []
rest_if false bs = bs

-- only what has come to no boundary and hasn't halted goes on
abbrev pub goes : Sketch → Bool
goes x = (if x.done then false else true) && is_running x.halt

abbrev pub going : Sketch → Sketch
going x = need (goes x) x

-- so many microinstructions, the branches and halting operations among them going as guessed
abbrev pub exec : ℕ → List Bool → Sketch → Sketch
exec zero guesses x = x
exec (suc n) guesses x =
    let m = micro_of (slice_index WORDS x.mpc) in
    exec n (rest_if (is_guessed m) guesses) (astep m (first_or guesses) (going x))

-- f as an opcode begins, with these words on top of its stack and these past SP
abbrev pub start : (mpc opcode : ℕ) → Sketch → (top next : ℕ) → (under above : List ℕ) → Sketch
start mpc opcode f top next under above = record f {
  top = top;
  next = next;
  under = under;
  above = above;
  operand = 0;
  mpc = mpc;
  opcode = opcode;
  busy
      = false;
  halt = Running;
  loads = 0;
  words = 0;
  fine = true;
  done = false;
}

-- x as it goes on to the opcode at jpc
abbrev pub go_on : Sketch → Sketch
go_on x = record x { opcode = abyte x; jpc = (x.jpc + 1) % 2 ^ 16; mpc = entry_of (abyte x); operand = 0; done = true }
