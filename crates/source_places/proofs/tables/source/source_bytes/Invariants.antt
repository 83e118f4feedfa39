use Rattle.class_pool.proofs.FoundLemmas.{IsSame}
use Rattle.source_places.specs.Tables.Source.{source_part}
use Rattle.source_places.proofs.tables.source.source_bytes.Given as goal

abbrev pub invariant-loop-attribute : goal.invariant-loop-attribute
invariant-loop-attribute l = IsSame (source_part l.class.pool) l.class.attributes l.attribute-index
