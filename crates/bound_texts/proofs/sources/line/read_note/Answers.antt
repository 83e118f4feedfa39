use Rattle.bound_texts.proofs.SourcesLemmas.LineLemmas.{if_none, two_none, three_none}
use Rattle.bound_texts.proofs.sources.line.read_note.Goals as goal

pub returns-in-Two-clause-none : goal.returns-in-Two-clause-none
returns-in-Two-clause-none c =
    if_none c.source_note.result (two_none c.args.line.now c.in-Two.source.now c.in-Two.bound.now c.in-Two.ensures) c.source_note.ensures.none

pub returns-in-Three-clause-none : goal.returns-in-Three-clause-none
returns-in-Three-clause-none c =
    if_none c.place_note.result (three_none c.args.line.now c.in-Three.name.now c.in-Three.pc.now c.in-Three.bound.now c.in-Three.ensures) c.place_note.ensures.none
