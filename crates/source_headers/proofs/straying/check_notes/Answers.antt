use Rattle.std.proofs.Common.{sym}
use Rattle.bound_texts.specs.Sources.Meaning.{note_at}
use Rattle.source_headers.proofs.StrayLemmas.{first_lacking}
use Rattle.source_headers.proofs.straying.check_notes.Goals as goal

pub returns-then-is_stray-clause-first : goal.returns-then-is_stray-clause-first
returns-then-is_stray-clause-first c =
    first_lacking c.args.gathered.now c.args.notes.now c.loop-index.index (note_at c.in-Some.note) c.stray.result c.loop-index.invariant (sym c.in-Some.ensures) (c.is_stray.ensures.0 c.if-is_stray.true) c.stray.ensures
