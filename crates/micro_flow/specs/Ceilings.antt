-- What an opcode may cost at most, cache hits supposed, whatever the waits, the pairs and the entries are; and which opcodes cost just that.
use Rattle.std.specs.Prelude.{ℕ, ◌≡◌, ◌+◌, ◌*◌, ◌≤◌, ◌<◌, Bool, true, false, ◌&&◌, nat_le, if◌then◌else◌, List, [], ◌∷◌, Option, Some, None}
use Rattle.micro_flow.specs.declared.CostParams.{CostParams}
use Rattle.micro_flow.specs.declared.price.Price.{Price}
use Rattle.micro_flow.specs.Costs.{worth}
use Rattle.micro_flow.specs.Walk.{IsCost, IsRaiseCost}

-- a price, and one more for each pair or entry
pub record Ceiling : Type 0 where
  pub base : Price
  pub each : Price
  pub exact : Bool

abbrev pub price : (fixed reads writes : ℕ) → Price
price fixed reads writes = record { fixed = fixed; reads = reads; writes = writes }

abbrev pub exactly : (cycles : ℕ) → Ceiling
exactly cycles = record { base = price cycles 0 0; each = price 0 0 0; exact = true }

abbrev pub at_most : (fixed reads writes : ℕ) → Ceiling
at_most fixed reads writes = record { base = price fixed reads writes; each = price 0 0 0; exact = false }

-- opcodes that lie side by side, and their ceiling
pub record Range : Type 0 where
  pub from : ℕ
  pub to : ℕ
  pub ceiling : Ceiling

abbrev pub range : (from to : ℕ) → Ceiling → Range
range from to ceiling = record { from = from; to = to; ceiling = ceiling }

-- an opcode that stands alone
abbrev pub alone : (op : ℕ) → Ceiling → Range
alone op ceiling = range op op ceiling

abbrev pub numbers_and_locals : List Range
numbers_and_locals =
    -- nop, aconst_null, iconst_m1 to iconst_5; lconst_0, lconst_1
    range 0 8 (exactly 1)
    ∷ range 9 10 (at_most 2 0 0)
    -- bipush, sipush; ldc, ldc_w; ldc2_w
    ∷ alone 16 (exactly 2)
    ∷ alone 17 (at_most 3 0 0)
    ∷ range 18 19 (at_most 40 3 0)
    ∷ alone 20 (at_most 50 4 0)
    -- iload, lload, aload
    ∷ alone 21 (at_most 2 0 0)
    ∷ alone 22 (at_most 8 0 0)
    ∷ alone 25 (at_most 2 0 0)
    -- iload_0 to iload_3, lload_0 to lload_3, aload_0 to aload_3
    ∷ range 26 29 (exactly 1)
    ∷ range 30 33 (at_most 12 0 0)
    ∷ range 42 45 (exactly 1)
    -- istore, lstore, astore
    ∷ alone 54 (at_most 2 0 0)
    ∷ alone 55 (at_most 8 0 0)
    ∷ alone 58 (at_most 2 0 0)
    -- istore_0 to istore_3, lstore_0 to lstore_3, astore_0 to astore_3
    ∷ range 59 62 (exactly 1)
    ∷ range 63 66 (at_most 12 0 0)
    ∷ range 75 78 (exactly 1)
    -- iinc; wide
    ∷ alone 132 (at_most 12 0 0)
    ∷ alone 196 (at_most 60 0 0)
    ∷ []

abbrev pub stack_and_arithmetic : List Range
stack_and_arithmetic =
    -- pop, pop2, dup, dup_x1, dup_x2, dup2, dup2_x1, dup2_x2, swap
    alone 87 (exactly 1)
    ∷ alone 88 (at_most 2 0 0)
    ∷ alone 89 (exactly 1)
    ∷ alone 90 (exactly 5)
    ∷ range 91 92 (at_most 8 0 0)
    ∷ alone 93 (at_most 10 0 0)
    ∷ alone 94 (at_most 12 0 0)
    ∷ alone 95 (at_most 4 0 0)
    -- iadd, ladd, isub, lsub
    ∷ alone 96 (exactly 1)
    ∷ alone 97 (at_most 40 0 0)
    ∷ alone 100 (exactly 1)
    ∷ alone 101 (at_most 40 0 0)
    -- imul; idiv, irem; ineg, lneg
    ∷ alone 104 (at_most 1 0 0)
    ∷ alone 108 (at_most 1400 0 0)
    ∷ alone 112 (at_most 1400 0 0)
    ∷ alone 116 (at_most 4 0 0)
    ∷ alone 117 (at_most 30 0 0)
    -- ishl, lshl, ishr, lshr, iushr, lushr
    ∷ alone 120 (at_most 1 0 0)
    ∷ alone 121 (at_most 120 0 0)
    ∷ alone 122 (at_most 1 0 0)
    ∷ alone 123 (at_most 120 0 0)
    ∷ alone 124 (at_most 1 0 0)
    ∷ alone 125 (at_most 120 0 0)
    -- iand, land, ior, lor, ixor, lxor
    ∷ alone 126 (exactly 1)
    ∷ alone 127 (at_most 12 0 0)
    ∷ alone 128 (exactly 1)
    ∷ alone 129 (at_most 12 0 0)
    ∷ alone 130 (exactly 1)
    ∷ alone 131 (at_most 12 0 0)
    -- i2l, l2i; i2b, i2c, i2s; lcmp
    ∷ alone 133 (at_most 12 0 0)
    ∷ alone 136 (at_most 4 0 0)
    ∷ range 145 147 (at_most 4 0 0)
    ∷ alone 148 (at_most 40 0 0)
    ∷ []

abbrev pub branches_and_calls : List Range
branches_and_calls =
    -- ifeq to if_acmpne, goto; ifnull, ifnonnull; goto_w
    range 153 167 (exactly 4)
    ∷ range 198 199 (exactly 4)
    ∷ alone 200 (at_most 12 0 0)
    -- tableswitch; lookupswitch, with its pairs
    ∷ alone 170 (at_most 150 0 0)
    ∷ alone 171 (record (at_most 120 0 0) { each = price 40 0 0 })
    -- ireturn, lreturn; areturn, return
    ∷ range 172 173 (at_most 120 6 0)
    ∷ range 176 177 (at_most 120 6 0)
    -- invokevirtual, invokespecial, invokestatic, invokeinterface
    ∷ alone 182 (at_most 220 10 0)
    ∷ alone 183 (at_most 200 8 0)
    ∷ alone 184 (at_most 180 8 0)
    ∷ alone 185 (at_most 240 12 0)
    -- athrow
    ∷ alone 191 (at_most 40 2 0)
    -- impdep1, impdep2
    ∷ alone 254 (at_most 1 0 0)
    ∷ alone 255 (exactly 1)
    ∷ []

abbrev pub objects : List Range
objects =
    -- iaload, laload; aaload, baload, caload, saload
    alone 46 (at_most 60 4 0)
    ∷ alone 47 (at_most 90 6 0)
    ∷ range 50 53 (at_most 60 4 0)
    -- iastore, lastore; aastore; bastore, castore, sastore
    ∷ alone 79 (at_most 70 4 2)
    ∷ alone 80 (at_most 100 6 4)
    ∷ alone 83 (at_most 160 10 2)
    ∷ range 84 86 (at_most 70 4 2)
    -- getstatic, putstatic, getfield, putfield
    ∷ alone 178 (at_most 40 4 0)
    ∷ alone 179 (at_most 40 3 2)
    ∷ alone 180 (at_most 60 4 0)
    ∷ alone 181 (at_most 60 4 2)
    -- new; newarray, anewarray; arraylength
    ∷ alone 187 (at_most 110 6 2)
    ∷ range 188 189 (at_most 130 6 4)
    ∷ alone 190 (at_most 30 2 0)
    -- checkcast, instanceof; monitorenter, monitorexit
    ∷ range 192 193 (at_most 110 8 0)
    ∷ range 194 195 (at_most 40 2 0)
    ∷ []

-- the ceiling of the range that an opcode lies in, or what follows
abbrev pub in_ranges : List Range → (op : ℕ) → Option Ceiling → Option Ceiling
in_ranges [] op other = other
in_ranges (r ∷ rs) op other = if nat_le r.from op && nat_le op r.to then Some r.ceiling else in_ranges rs op other

-- the ceiling of an opcode that a program can have
abbrev pub ceiling_of : (op : ℕ) → Option Ceiling
ceiling_of op = in_ranges numbers_and_locals op (in_ranges stack_and_arithmetic op (in_ranges branches_and_calls op (in_ranges objects op None)))

-- a step of the raise routine has a ceiling with the entries of the method
abbrev pub raise_ceiling : Ceiling
raise_ceiling = record (at_most 260 12 0) { each = price 140 8 0 }

-- the cycles that a ceiling allows, with so many pairs or entries
abbrev pub allowed : CostParams → (times : ℕ) → Ceiling → ℕ
allowed p times c = worth p c.base + times * worth p c.each

-- just so many cycles, or at most so many
abbrev pub Meets : (exact : Bool) → (cycles most : ℕ) → Type 0
Meets true cycles most = cycles ≡ most
Meets false cycles most = cycles ≤ most

-- so many cycles keep a ceiling, if there is one
abbrev pub Keeps : CostParams → (times cycles : ℕ) → Option Ceiling → Type 0
Keeps p times cycles None = Unit {0}
Keeps p times cycles (Some c) = Meets c.exact cycles (allowed p times c)

-- the cost of each opcode keeps its ceiling
abbrev pub CostsKeepCeilings : Type 0
CostsKeepCeilings = (p : CostParams) (op n : ℕ) → p.r ≤ 63 → p.w ≤ 63 → op < 256 → IsCost op p n → Keeps p p.pairs n (ceiling_of op)

-- so does that of a step of the raise routine
abbrev pub RaiseKeepsCeiling : Type 0
RaiseKeepsCeiling = (p : CostParams) (n : ℕ) → p.r ≤ 63 → p.w ≤ 63 → IsRaiseCost p n → Keeps p p.entries n (Some raise_ceiling)
