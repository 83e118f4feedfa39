-- The definitions at codes that are worked out by hand from JVM Specification SE 8, 6.5.
use Rattle.std.proofs.Common.{◌≡◌, ℕ, false, List, [], ◌∷◌, refl, Some, None, Ok, pos, negsuc}
use Rattle.opcodes.specs.declared.instruction.Instr.{Instr}
use Rattle.opcodes.specs.Instruction.{decoded}
use Rattle.opcodes.specs.Row.{row_of}
use Rattle.opcodes.specs.Start.{starts_of, first_bad}
use Rattle.opcodes.specs.Target.{cases_of, targets_of}

-- iload_1; ifeq to place 10; iinc 1 by -1; goto back to 0; return
abbrev a_loop : List ℕ
a_loop = 27 ∷ 153 ∷ 0 ∷ 9 ∷ 132 ∷ 1 ∷ 255 ∷ 167 ∷ 255 ∷ 249 ∷ 177 ∷ []

loop_starts : starts_of a_loop ≡ 0 ∷ 1 ∷ 4 ∷ 7 ∷ 10 ∷ []
unfolding starts_of decoded row_of
loop_starts = refl

loop_whole : first_bad a_loop ≡ None
unfolding first_bad starts_of decoded row_of
loop_whole = refl

abbrev the_branch : Instr
the_branch = record { op = 153; wide = false; length = 3; first = pos 9; second = pos 0; count = 0; table = 0 }

branch_decoded : decoded a_loop 1 ≡ Ok the_branch
unfolding decoded row_of
branch_decoded = refl

branch_targets : targets_of a_loop 1 the_branch ≡ pos 10 ∷ []
unfolding row_of
branch_targets = refl

abbrev the_jump : Instr
the_jump = record { op = 167; wide = false; length = 3; first = negsuc 6; second = pos 0; count = 0; table = 0 }

jump_decoded : decoded a_loop 7 ≡ Ok the_jump
unfolding decoded row_of
jump_decoded = refl

jump_targets : targets_of a_loop 7 the_jump ≡ pos 0 ∷ []
unfolding row_of
jump_targets = refl

-- a nop, and then a byte that is no opcode
bad_starts : starts_of (0 ∷ 203 ∷ 0 ∷ []) ≡ 0 ∷ 1 ∷ []
unfolding starts_of decoded row_of
bad_starts = refl

bad_place : first_bad (0 ∷ 203 ∷ 0 ∷ []) ≡ Some 1
unfolding first_bad starts_of decoded row_of
bad_place = refl

-- a nop, and then an instruction that passes the end
cut_place : first_bad (0 ∷ 17 ∷ 1 ∷ []) ≡ Some 1
unfolding first_bad starts_of decoded row_of
cut_place = refl

-- iconst_0; at 1 a tableswitch of the values -1 and 0: the default and the first to 24, the second to 25
abbrev a_table : List ℕ
a_table = 3 ∷ 170 ∷ 0 ∷ 0 ∷ 0 ∷ 0 ∷ 0 ∷ 23 ∷ 255 ∷ 255 ∷ 255 ∷ 255 ∷ 0 ∷ 0 ∷ 0 ∷ 0 ∷ 0 ∷ 0 ∷ 0 ∷ 23 ∷ 0 ∷ 0 ∷ 0 ∷ 24 ∷ 177 ∷ 177 ∷ []

abbrev the_table : Instr
the_table = record { op = 170; wide = false; length = 23; first = pos 23; second = negsuc 0; count = 2; table = 16 }

table_decoded : decoded a_table 1 ≡ Ok the_table
unfolding decoded row_of
table_decoded = refl

table_cases : cases_of a_table the_table ≡ record { key = negsuc 0; offset = pos 23 } ∷ record { key = pos 0; offset = pos 24 } ∷ []
unfolding row_of
table_cases = refl

table_targets : targets_of a_table 1 the_table ≡ pos 24 ∷ pos 24 ∷ pos 25 ∷ []
unfolding row_of
table_targets = refl

-- at 0 a lookupswitch of the keys -2 and 7
abbrev a_lookup : List ℕ
a_lookup = 171 ∷ 0 ∷ 0 ∷ 0 ∷ 0 ∷ 0 ∷ 0 ∷ 28 ∷ 0 ∷ 0 ∷ 0 ∷ 2 ∷ 255 ∷ 255 ∷ 255 ∷ 254 ∷ 0 ∷ 0 ∷ 0 ∷ 29 ∷ 0 ∷ 0 ∷ 0 ∷ 7 ∷ 255 ∷ 255 ∷ 255 ∷ 255 ∷ 177 ∷ 177 ∷ []

abbrev the_lookup : Instr
the_lookup = record { op = 171; wide = false; length = 28; first = pos 28; second = pos 2; count = 2; table = 12 }

lookup_decoded : decoded a_lookup 0 ≡ Ok the_lookup
unfolding decoded row_of
lookup_decoded = refl

lookup_cases : cases_of a_lookup the_lookup ≡ record { key = negsuc 1; offset = pos 29 } ∷ record { key = pos 7; offset = negsuc 0 } ∷ []
unfolding row_of
lookup_cases = refl

lookup_targets : targets_of a_lookup 0 the_lookup ≡ pos 28 ∷ pos 29 ∷ negsuc 0 ∷ []
unfolding row_of
lookup_targets = refl
