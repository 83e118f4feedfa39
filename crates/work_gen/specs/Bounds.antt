-- The bounds of the class's loops, as they are read.
use Rattle.std.specs.Prelude.{ℕ, List, ◌++◌, map, codes}
use Rattle.std.specs.List.{range_with_len}
use Rattle.bound_texts.specs.Loops.Bounds.{LoopBound}
use Rattle.work_gen.specs.Work.{adder_name, adder_descriptor, turns_of}

-- the name of an adder behind its class and before its descriptor
abbrev pub adder_text : ℕ → List ℕ
adder_text k = codes "W." ++ (adder_name k ++ adder_descriptor)

-- the same of main
abbrev pub main_text : List ℕ
main_text = codes "W.main([Ljava/lang/String;)V"

-- the loop of an adder, whose header is at place 2, takes its back edge as often as it goes round
abbrev pub adder_bound : ℕ → LoopBound
adder_bound k = record { name = adder_text k; pc = 2; bound = turns_of k }

-- those of the adders, in order; main has no loop
unfoldable pub adder_bounds : (n : ℕ) → List LoopBound
adder_bounds n = map adder_bound (range_with_len 1 n)
