-- The tests of conditional branches on words are those on ints (JVM Specification SE 8, 6.5.if<cond> and if_icmp<cond>).
use Rattle.std.proofs.Common.{◌≡◌, ℕ, Bool, true, false, cond, refl, ap, ◌∙◌, arith}
use Rattle.std.specs.Prelude.{ℤ, pos, negsuc, not, int_lt}
use Rattle.std.specs.Int.{w32}
use Rattle.std.specs.Int.RustNames.{FitsSigned}
use Rattle.std.proofs.lemmas.Bool.Decides.{nat_tests}
use Rattle.jop_core.specs.Operations.{holds}
use Rattle.bytecode_model.specs.Numbers.{is_equal, is_unequal, is_less, is_at_least, is_greater, is_at_most}
use Rattle.image_facts.specs.Words.{int_word}
use Rattle.opcode_steps.proofs.NumberLemmas.Longs.{ints_compare}

-- the test of an opcode on the words of two ints, the second of which is on top, and on that of one
abbrev pub TestsTwo : (op : ℕ) → (ℤ → ℤ → Bool) → Type 0
TestsTwo op test = (x y : ℤ) → FitsSigned w32 x → FitsSigned w32 y → holds op (int_word x) (int_word y) ≡ test y x

abbrev pub TestsOne : (op : ℕ) → (ℤ → ℤ → Bool) → Type 0
TestsOne op test = (b : ℕ) (x : ℤ) → FitsSigned w32 x → holds op b (int_word x) ≡ test (pos 0) x

pub ifeq : TestsOne 153 is_equal
ifeq b (pos n) h = grind (arith, nat_tests)
ifeq b (negsuc n) h = let small = h.sfits in grind (arith, nat_tests)

pub ifne : TestsOne 154 is_unequal
ifne b (pos n) h = grind (arith, nat_tests)
ifne b (negsuc n) h = let small = h.sfits in grind (arith, nat_tests)

pub iflt : TestsOne 155 is_less
iflt b (pos n) h = let small = h.sfits in grind (arith, nat_tests)
iflt b (negsuc n) h = let small = h.sfits in grind (arith, nat_tests)

pub ifge : TestsOne 156 is_at_least
ifge b (pos n) h = let small = h.sfits in grind (arith, nat_tests)
ifge b (negsuc n) h = let small = h.sfits in grind (arith, nat_tests)

pub ifgt : TestsOne 157 is_greater
ifgt b (pos n) h = let small = h.sfits in grind (arith, nat_tests)
ifgt b (negsuc n) h = let small = h.sfits in grind (arith, nat_tests)

pub ifle : TestsOne 158 is_at_most
ifle b (pos n) h = let small = h.sfits in grind (arith, nat_tests)
ifle b (negsuc n) h = let small = h.sfits in grind (arith, nat_tests)

pub if_icmpeq : TestsTwo 159 is_equal
if_icmpeq (pos a) (pos b) p q = grind (arith, nat_tests)
if_icmpeq (pos a) (negsuc b) p q = let small = p.sfits in let small2 = q.sfits in grind (arith, nat_tests)
if_icmpeq (negsuc a) (pos b) p q = let small = p.sfits in let small2 = q.sfits in grind (arith, nat_tests)
if_icmpeq (negsuc a) (negsuc b) p q = let small = p.sfits in let small2 = q.sfits in grind (arith, nat_tests)

pub if_icmpne : TestsTwo 160 is_unequal
if_icmpne (pos a) (pos b) p q = grind (arith, nat_tests)
if_icmpne (pos a) (negsuc b) p q = let small = p.sfits in let small2 = q.sfits in grind (arith, nat_tests)
if_icmpne (negsuc a) (pos b) p q = let small = p.sfits in let small2 = q.sfits in grind (arith, nat_tests)
if_icmpne (negsuc a) (negsuc b) p q = let small = p.sfits in let small2 = q.sfits in grind (arith, nat_tests)

turned : (b : Bool) → cond b false true ≡ not b
turned true = refl
turned false = refl

pub if_icmplt : TestsTwo 161 is_less
if_icmplt x y p q = ints_compare x y p q

pub if_icmpge : TestsTwo 162 is_at_least
if_icmpge x y p q = ap (λ (b : Bool). cond b false true) (ints_compare x y p q) ∙ turned (int_lt x y)

pub if_icmpgt : TestsTwo 163 is_greater
if_icmpgt x y p q = ints_compare y x q p

pub if_icmple : TestsTwo 164 is_at_most
if_icmple x y p q = ap (λ (b : Bool). cond b false true) (ints_compare y x q p) ∙ turned (int_lt y x)
