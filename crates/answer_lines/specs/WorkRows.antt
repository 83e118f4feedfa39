-- Lines that were worked out by hand.
use Rattle.std.specs.Prelude.{◌≡◌, [], ◌∷◌, Some, None, codes}
use Rattle.answer_lines.specs.declared.line.Counts.{Counts}
use Rattle.answer_lines.specs.WorkLines.{work_line}

abbrev pub counts : Counts
counts = record { clock = 596; hits = 4; misses = 3 }

abbrev pub WorkLineRows : Type 0
WorkLineRows =
    (work_line 1 (2 ∷ []) counts (Some 600) ≡ codes "work n=1 output=2 cycles=596 hits=4 misses=3 bound=600\n")
    × (work_line 10 [] counts None ≡ codes "work n=10 output= cycles=596 hits=4 misses=3 bound=never\n")
    × (work_line 10 (0 ∷ 98 ∷ 255 ∷ []) counts None ≡ codes "work n=10 output=0 98 255 cycles=596 hits=4 misses=3 bound=never\n")
