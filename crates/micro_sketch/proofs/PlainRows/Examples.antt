-- What the definitions say of some words, as the JVM Specification gives it.
use Rattle.std.proofs.Common.{◌≡◌, ℕ, ◌-◌, ◌^◌, List, [], ◌∷◌, false, true, refl}
use Rattle.jop_core.specs.declared.halt.Halt.TheVariants.{Running}
use Rattle.micro_sketch.specs.Sketch.{Sketch}
use Rattle.micro_sketch.specs.NumberOps.{IconstM1, Lconst1, Bipush, Sipush, Ldc, LdcW, Ldc2W, number_effect}
use Rattle.micro_sketch.specs.LocalOps.{Iload, Iload1, Lload1, Istore1, Lstore1, Iinc, local_effect}
use Rattle.micro_sketch.specs.StackOps.{Pop, Dup, DupX1, DupX2, Dup2, Dup2X1, Dup2X2, Swap, Iadd, Isub, Imul, Ineg, Ishl, Ishr, Iushr, Iand, Ixor, I2b, I2c, I2s, stack_effect}
use Rattle.micro_sketch.specs.LongOps.{Ladd, Lsub, Lneg, Lshl, Lshr, Lushr, I2l, Lcmp, long_effect}
use Rattle.micro_sketch.specs.DivisionOps.{Idiv, quotient, remainder, division_effect}
use Rattle.micro_sketch.specs.SwitchOps.{Tableswitch, Lookupswitch, switch_effect}
use Rattle.micro_sketch.specs.WideOps.{WideIload, WideIinc, wide_effect}
use Rattle.micro_sketch.specs.BranchOps.{Ifeq, Iflt, Ifge, IfIcmplt, Goto, GotoW, branch_effect}

-- a method whose code is two words, the words 7, 3, 5 and 9 on the stack, the locals 11 and 12 below them, and the constant pool at place 2 of the memory
abbrev sample : (first second jpc : ℕ) → Sketch
sample first second jpc = record {
  top = 7;
  next = 3;
  under = 5 ∷ 9 ∷ [];
  above = [];
  low = 0 ∷ 0 ∷ 0 ∷ 0 ∷ 0 ∷ 0 ∷ 0 ∷ 0 ∷ 0 ∷ 0 ∷ 0 ∷ 0 ∷ 0 ∷ 0 ∷ 0 ∷ 0 ∷ 0 ∷ 0 ∷ 0 ∷ 0 ∷ 0 ∷ 0 ∷ 0 ∷ 0 ∷ 2 ∷ [];
  deep = 10 ∷ 11 ∷ 12 ∷ [];
  vp = 65;
  ar = 0;
  jpc = jpc;
  mpc = 0;
  operand = 0;
  opcode = 0;
  method = 0;
  cache = record { blocks = 1; block_words = 8; contents = record { method = 0; words = first ∷ second ∷ [] } ∷ []; next = 0 };
  memory = 20 ∷ 21 ∷ 22 ∷ 23 ∷ 24 ∷ 25 ∷ [];
  value = 0;
  write_address = 0;
  busy = false;
  hits = 0;
  misses = 0;
  left = λ address. 0;
  loads = 0;
  words = 0;
  halt = Running;
  answers = [];
  output = [];
  fine = true;
  done = false;
}

-- the same with other words on the stack
abbrev stacked : (top next third fourth : ℕ) → Sketch
stacked top next third fourth = record (sample 0 0 1) { top = top; next = next; under = third ∷ fourth ∷ [] }

iconst_m1 : (number_effect IconstM1 (sample 0 0 1)).words ≡ 0xffffffff ∷ 7 ∷ 3 ∷ 5 ∷ 9 ∷ []
iconst_m1 = refl

lconst_1 : (number_effect Lconst1 (sample 0 0 1)).words ≡ 1 ∷ 0 ∷ 7 ∷ 3 ∷ 5 ∷ 9 ∷ []
lconst_1 = refl

-- bipush -2
bipush : (number_effect Bipush (sample 0x10fe0000 0 1)).words ≡ 0xfffffffe ∷ 7 ∷ 3 ∷ 5 ∷ 9 ∷ []
bipush = refl

bipush_place : (number_effect Bipush (sample 0x10fe0000 0 1)).jpc ≡ 2
bipush_place = refl

-- sipush -32768
sipush : (number_effect Sipush (sample 0x11800000 0 1)).words ≡ 0xffff8000 ∷ 7 ∷ 3 ∷ 5 ∷ 9 ∷ []
sipush = refl

-- the constant of index 1 lies at places 4 and 5
ldc : (number_effect Ldc (sample 0x12010000 0 1)).words ≡ 24 ∷ 7 ∷ 3 ∷ 5 ∷ 9 ∷ []
ldc = refl

ldc_w : (number_effect LdcW (sample 0x13000100 0 1)).words ≡ 24 ∷ 7 ∷ 3 ∷ 5 ∷ 9 ∷ []
ldc_w = refl

ldc2_w : (number_effect Ldc2W (sample 0x14000100 0 1)).words ≡ 25 ∷ 24 ∷ 7 ∷ 3 ∷ 5 ∷ 9 ∷ []
ldc2_w = refl

iload : (local_effect Iload (sample 0x15010000 0 1)).words ≡ 12 ∷ 7 ∷ 3 ∷ 5 ∷ 9 ∷ []
iload = refl

iload_1 : (local_effect Iload1 (sample 0 0 1)).words ≡ 12 ∷ 7 ∷ 3 ∷ 5 ∷ 9 ∷ []
iload_1 = refl

lload_0 : (local_effect Lload1 (record (sample 0 0 1) { vp = 64 })).words ≡ 12 ∷ 11 ∷ 7 ∷ 3 ∷ 5 ∷ 9 ∷ []
lload_0 = refl

istore_1 : (local_effect Istore1 (sample 0 0 1)).deep ≡ 10 ∷ 11 ∷ 7 ∷ []
istore_1 = refl

istore_1_words : (local_effect Istore1 (sample 0 0 1)).words ≡ 3 ∷ 5 ∷ 9 ∷ []
istore_1_words = refl

lstore : (local_effect Lstore1 (record (sample 0 0 1) { vp = 64 })).deep ≡ 10 ∷ 3 ∷ 7 ∷ []
lstore = refl

-- iinc 1 by -128
iinc : (local_effect Iinc (sample 0x84018000 0 1)).deep ≡ 10 ∷ 11 ∷ 0xffffff8c ∷ []
iinc = refl

pop : (stack_effect Pop (sample 0 0 1)).words ≡ 3 ∷ 5 ∷ 9 ∷ []
pop = refl

dup : (stack_effect Dup (sample 0 0 1)).words ≡ 7 ∷ 7 ∷ 3 ∷ 5 ∷ 9 ∷ []
dup = refl

dup_x1 : (stack_effect DupX1 (sample 0 0 1)).words ≡ 7 ∷ 3 ∷ 7 ∷ 5 ∷ 9 ∷ []
dup_x1 = refl

dup_x2 : (stack_effect DupX2 (sample 0 0 1)).words ≡ 7 ∷ 3 ∷ 5 ∷ 7 ∷ 9 ∷ []
dup_x2 = refl

dup2 : (stack_effect Dup2 (sample 0 0 1)).words ≡ 7 ∷ 3 ∷ 7 ∷ 3 ∷ 5 ∷ 9 ∷ []
dup2 = refl

dup2_x1 : (stack_effect Dup2X1 (sample 0 0 1)).words ≡ 7 ∷ 3 ∷ 5 ∷ 7 ∷ 3 ∷ 9 ∷ []
dup2_x1 = refl

dup2_x2 : (stack_effect Dup2X2 (sample 0 0 1)).words ≡ 7 ∷ 3 ∷ 5 ∷ 9 ∷ 7 ∷ 3 ∷ []
dup2_x2 = refl

swap : (stack_effect Swap (sample 0 0 1)).words ≡ 3 ∷ 7 ∷ 5 ∷ 9 ∷ []
swap = refl

iadd : (stack_effect Iadd (sample 0 0 1)).words ≡ 10 ∷ 5 ∷ 9 ∷ []
iadd = refl

-- 3 - 7 is -4
isub : (stack_effect Isub (sample 0 0 1)).words ≡ 0xfffffffc ∷ 5 ∷ 9 ∷ []
isub = refl

-- 3 * -1
imul : (stack_effect Imul (stacked 0xffffffff 3 5 9)).words ≡ 0xfffffffd ∷ 5 ∷ 9 ∷ []
imul = refl

ineg : (stack_effect Ineg (sample 0 0 1)).words ≡ 0xfffffff9 ∷ 3 ∷ 5 ∷ 9 ∷ []
ineg = refl

ineg_least : (stack_effect Ineg (stacked 0x80000000 3 5 9)).words ≡ 0x80000000 ∷ 3 ∷ 5 ∷ 9 ∷ []
ineg_least = refl

-- the low five bits of 33 are 1
ishl_33 : (stack_effect Ishl (stacked 33 0xc0000001 5 9)).words ≡ 0x80000002 ∷ 5 ∷ 9 ∷ []
ishl_33 = refl

-- -8 >> 1 is -4, and -8 >>> 28 is 15
ishr : (stack_effect Ishr (stacked 1 0xfffffff8 5 9)).words ≡ 0xfffffffc ∷ 5 ∷ 9 ∷ []
ishr = refl

iushr : (stack_effect Iushr (stacked 28 0xfffffff8 5 9)).words ≡ 15 ∷ 5 ∷ 9 ∷ []
iushr = refl

iand : (stack_effect Iand (sample 0 0 1)).words ≡ 3 ∷ 5 ∷ 9 ∷ []
iand = refl

ixor : (stack_effect Ixor (sample 0 0 1)).words ≡ 4 ∷ 5 ∷ 9 ∷ []
ixor = refl

-- 200 as a byte is -56
i2b : (stack_effect I2b (stacked 200 3 5 9)).words ≡ 0xffffffc8 ∷ 3 ∷ 5 ∷ 9 ∷ []
i2b = refl

i2c : (stack_effect I2c (stacked 0xffffffff 3 5 9)).words ≡ 65535 ∷ 3 ∷ 5 ∷ 9 ∷ []
i2c = refl

i2s : (stack_effect I2s (stacked 0x00018000 3 5 9)).words ≡ 0xffff8000 ∷ 3 ∷ 5 ∷ 9 ∷ []
i2s = refl

-- (2^32 - 1) + 1
ladd : (long_effect Ladd (stacked 1 0 0xffffffff 0)).words ≡ 0 ∷ 1 ∷ []
ladd = refl

lsub : (long_effect Lsub (stacked 1 0 0 1)).words ≡ 0xffffffff ∷ 0 ∷ []
lsub = refl

lneg : (long_effect Lneg (stacked 1 0 5 9)).words ≡ 0xffffffff ∷ 0xffffffff ∷ 5 ∷ 9 ∷ []
lneg = refl

-- the count is the low six bits
lshl_32 : (long_effect Lshl (stacked 32 7 3 9)).words ≡ 0 ∷ 7 ∷ 9 ∷ []
lshl_32 = refl

lshl_64 : (long_effect Lshl (stacked 64 7 3 9)).words ≡ 7 ∷ 3 ∷ 9 ∷ []
lshl_64 = refl

lshr_63 : (long_effect Lshr (stacked 63 0 0x80000000 9)).words ≡ 0xffffffff ∷ 0xffffffff ∷ 9 ∷ []
lshr_63 = refl

lushr_63 : (long_effect Lushr (stacked 63 0 0x80000000 9)).words ≡ 1 ∷ 0 ∷ 9 ∷ []
lushr_63 = refl

i2l : (long_effect I2l (stacked 0xfffffffe 3 5 9)).words ≡ 0xfffffffe ∷ 0xffffffff ∷ 3 ∷ 5 ∷ 9 ∷ []
i2l = refl

-- the least long and the greatest one
lcmp_less : (long_effect Lcmp (stacked 0xffffffff 0x7fffffff 0 0x80000000)).words ≡ 0xffffffff ∷ []
lcmp_less = refl

lcmp_more : (long_effect Lcmp (stacked 0 0x80000000 0xffffffff 0x7fffffff)).words ≡ 1 ∷ []
lcmp_more = refl

lcmp_same : (long_effect Lcmp (stacked 5 6 5 6)).words ≡ 0 ∷ []
lcmp_same = refl

-- goto 8 at place 0, and goto -3 at place 4
goto_ahead : (branch_effect Goto (sample 0xa7000800 0 1)).jpc ≡ 8
goto_ahead = refl

goto_back : (branch_effect Goto (sample 0 0xa7fffd00 5)).jpc ≡ 1
goto_back = refl

goto_w : (branch_effect GotoW (sample 0xc8000000 0x08000000 1)).jpc ≡ 8
goto_w = refl

ifeq_on : (branch_effect Ifeq (sample 0x99000800 0 1)).jpc ≡ 3
ifeq_on = refl

ifge_taken : (branch_effect Ifge (sample 0x9c000800 0 1)).jpc ≡ 8
ifge_taken = refl

iflt_words : (branch_effect Iflt (sample 0x9b000800 0 1)).words ≡ 3 ∷ 5 ∷ 9 ∷ []
iflt_words = refl

-- -1 is less than 7
if_icmplt : (branch_effect IfIcmplt (record (sample 0xa1000800 0 1) { next = 0xffffffff })).jpc ≡ 8
if_icmplt = refl

-- Some quotients and remainders, as the Java virtual machine gives them.

seven_by_two : (quotient 7 2 ≡ 3) × (remainder 7 2 ≡ 1)
seven_by_two = (refl, refl)

minus_seven_by_two : (quotient (2 ^ 32 - 7) 2 ≡ 2 ^ 32 - 3) × (remainder (2 ^ 32 - 7) 2 ≡ 2 ^ 32 - 1)
minus_seven_by_two = (refl, refl)

seven_by_minus_two : (quotient 7 (2 ^ 32 - 2) ≡ 2 ^ 32 - 3) × (remainder 7 (2 ^ 32 - 2) ≡ 1)
seven_by_minus_two = (refl, refl)

-- the one quotient that is no signed word
least_by_minus_one : (quotient (2 ^ 31) (2 ^ 32 - 1) ≡ 2 ^ 31) × (remainder (2 ^ 31) (2 ^ 32 - 1) ≡ 0)
least_by_minus_one = (refl, refl)

greatest_by_least : (quotient (2 ^ 31 - 1) (2 ^ 31) ≡ 0) × (remainder (2 ^ 31 - 1) (2 ^ 31) ≡ 2 ^ 31 - 1)
greatest_by_least = (refl, refl)

idiv : (division_effect Idiv (stacked 0xfffffffd 7 5 9)).words ≡ 0xfffffffe ∷ 5 ∷ 9 ∷ []
idiv = refl

-- Under wide, and switches, whose operands begin at a multiple of 4.

-- wide iinc 1 by -32768
wide_iinc : (wide_effect WideIinc (sample 0xc4840001 0x80000000 1)).deep ≡ 10 ∷ 11 ∷ 0xffff800c ∷ []
wide_iinc = refl

wide_iload : (wide_effect WideIload (sample 0xc4150001 0 1)).words ≡ 12 ∷ 7 ∷ 3 ∷ 5 ∷ 9 ∷ []
wide_iload = refl

-- the code of a method of five words, with 7 on top
abbrev coded : (key : ℕ) → (code : List ℕ) → (jpc : ℕ) → Sketch
coded key code jpc = record (sample 0 0 jpc) { top = key; cache = record { blocks = 1; block_words = 8; contents = record { method = 0; words = code } ∷ []; next = 0 } }

-- a tableswitch at place 2 whose keys are -1 and 0, with offsets 16 and 32, and 8 for all others
abbrev table : List ℕ
table = 0x0000aa00 ∷ 8 ∷ 0xffffffff ∷ 0 ∷ 16 ∷ 32 ∷ []

table_first : (switch_effect Tableswitch (coded 0xffffffff table 3)).jpc ≡ 18
table_first = refl

table_last : (switch_effect Tableswitch (coded 0 table 3)).jpc ≡ 34
table_last = refl

table_past : (switch_effect Tableswitch (coded 1 table 3)).jpc ≡ 10
table_past = refl

table_under : (switch_effect Tableswitch (coded 0x80000000 table 3)).jpc ≡ 10
table_under = refl

-- a lookupswitch at place 3 whose keys are -5 and 7
abbrev pairs_of : List ℕ
pairs_of = 0x000000ab ∷ 8 ∷ 2 ∷ 0xfffffffb ∷ 16 ∷ 7 ∷ 32 ∷ []

lookup_first : (switch_effect Lookupswitch (coded 0xfffffffb pairs_of 4)).jpc ≡ 19
lookup_first = refl

lookup_last : (switch_effect Lookupswitch (coded 7 pairs_of 4)).jpc ≡ 35
lookup_last = refl

lookup_none : (switch_effect Lookupswitch (coded 5 pairs_of 4)).jpc ≡ 11
lookup_none = refl
