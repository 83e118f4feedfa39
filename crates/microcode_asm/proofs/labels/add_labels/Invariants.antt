use Rattle.std.proofs.Common.{◌≡◌, ℕ, List, drop, map}
use Rattle.std.specs.Option.{option_or}
use Rattle.std.specs.Map.{lookup}
use Rattle.indexmap.specs.IndexMap.{get_by}
use Rattle.microcode_asm.specs.Parts.{is}
use Rattle.microcode_asm.proofs.LabelLemmas.{now, has_text}
use Rattle.microcode_asm.proofs.labels.add_labels.Given as goal

abbrev pub invariant-loop-name : goal.invariant-loop-name
invariant-loop-name l = (q : List ℕ) → option_or (get_by (has_text q) l.labels) (lookup (is q) (map (λ n. (n, l.words)) (drop l.name-index (map now l.names))))
    ≡ option_or (get_by (has_text q) l.fn.labels) (lookup (is q) (map (λ n. (n, l.words)) (map now l.names)))
