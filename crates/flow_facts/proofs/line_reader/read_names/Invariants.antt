use Rattle.std.proofs.Common.{◌≡◌, map, take}
use Rattle.flow_facts.specs.Meaning.{AreNames}
use Rattle.flow_facts.proofs.line_reader.read_names.Given as goal

abbrev pub invariant-loop-word : goal.invariant-loop-word
invariant-loop-word l = AreNames l.names × (l.names ≡ map (λ w. w.now) (take l.word-index l.words))
