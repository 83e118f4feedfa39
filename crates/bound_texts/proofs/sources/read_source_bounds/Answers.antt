use Rattle.std.proofs.Common.{◌≡◌, ◌++◌, [], ◌∷◌, ap, sym, ◌∙◌, arith, true, false}
use Rattle.std.specs.Prelude.{is_some}
use Rattle.bound_texts.specs.Sources.Notes.{noted_bound}
use Rattle.bound_texts.specs.Sources.Meaning.{note_at}
use Rattle.bound_texts.proofs.SourcesLemmas.ReadLemmas.{count_fits, malformed, twice, silent_line, loop_line, on_ok}
use Rattle.bound_texts.proofs.sources.read_source_bounds.Goals as goal

pub overflow_add-number : goal.overflow_add-number
overflow_add-number c =
    let few = count_fits c.args.text.now c.loop-line.number c.loop-line.line-iterator c.next.new.self c.in-Some.line.now c.loop-line.bounds c.loop-line.invariant c.in-Some.ensures.steps in
    omega arith

pub loop-line-preserved-in-Nothing : goal.loop-line-preserved-in-Nothing
loop-line-preserved-in-Nothing c =
    silent_line c.args.text.now c.loop-line.number c.loop-line.line-iterator c.next.new.self c.in-Some.line.now c.loop-line.bounds c.loop-line.invariant c.in-Some.ensures.steps c.in-Nothing.ensures

pub returns-then-is_some-clause-refused : goal.returns-then-is_some-clause-refused
returns-then-is_some-clause-refused c =
    let there : is_some (noted_bound (note_at c.in-Note.note).subject c.loop-line.bounds) ≡ true = ap is_some (sym c.of.ensures) ∙ (sym c.is_some.ensures ∙ c.if-is_some.true) in
    twice c.args.text.now c.loop-line.number c.loop-line.line-iterator c.next.new.self c.in-Some.line.now c.loop-line.bounds (note_at c.in-Note.note) c.loop-line.invariant c.in-Some.ensures.steps c.in-Note.ensures there

pub loop-line-preserved : goal.loop-line-preserved
loop-line-preserved c =
    let absent : is_some (noted_bound (note_at c.in-Note.note).subject c.loop-line.bounds) ≡ false = ap is_some (sym c.of.ensures) ∙ (sym c.is_some.ensures ∙ c.if-is_some.false) in
    let more : c.add.new.self ≡ c.loop-line.bounds ++ note_at c.in-Note.note ∷ [] = on_ok _ c.add.result c.if-is_err.ensures.negation c.add.ensures in
    loop_line c.args.text.now c.loop-line.number c.loop-line.line-iterator c.next.new.self c.in-Some.line.now c.loop-line.bounds (note_at c.in-Note.note) c.loop-line.invariant c.in-Some.ensures.steps c.in-Note.ensures absent c.add.new.self more

pub returns-in-Malformed-clause-refused : goal.returns-in-Malformed-clause-refused
returns-in-Malformed-clause-refused c =
    malformed c.args.text.now c.loop-line.number c.loop-line.line-iterator c.next.new.self c.in-Some.line.now c.loop-line.bounds c.loop-line.invariant c.in-Some.ensures.steps c.in-Malformed.ensures
