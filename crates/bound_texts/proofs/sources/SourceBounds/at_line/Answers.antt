use Rattle.std.proofs.Common.{◌∙◌, ap, true}
use Rattle.bound_texts.specs.Sources.Notes.{noted_bound}
use Rattle.bound_texts.specs.Sources.Meaning.{subject_of}
use Rattle.bound_texts.proofs.SourcesLemmas.NameLemmas.{bound_some, bound_none}
use Rattle.bound_texts.proofs.sources.SourceBounds.at_line.Goals as goal

pub returns-in-Some : goal.returns-in-Some
returns-in-Some c =
    let name = c.args.file.now in
    c.copied.ensures ∙ (c.get.ensures.value ∙ (bound_some c.self.inside.names.keys c.self.inside.bounds.entries true name c.in-Some.name c.args.line c.self.invariant.0 c.self.invariant.1 c.in-Some.ensures.index
    ∙ ap (noted_bound (subject_of true name c.args.line)) c.self.view_is))

pub returns-in-None : goal.returns-in-None
returns-in-None c =
    let name = c.args.file.now in
    bound_none c.self.inside.names.keys c.self.inside.bounds.entries true name c.args.line c.self.invariant.0 c.in-None.ensures.index ∙ ap (noted_bound (subject_of true name c.args.line)) c.self.view_is
