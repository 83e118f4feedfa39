use Rattle.std.proofs.Common.{◌∙◌, ap, false}
use Rattle.bound_texts.specs.Sources.Notes.{noted_bound}
use Rattle.bound_texts.specs.Sources.Meaning.{subject_of}
use Rattle.bound_texts.proofs.SourcesLemmas.NameLemmas.{bound_some, bound_none}
use Rattle.bound_texts.proofs.sources.SourceBounds.at_place.Goals as goal

pub returns-in-Some : goal.returns-in-Some
returns-in-Some c =
    let name = c.args.name.now in
    c.copied.ensures ∙ (c.get.ensures.value ∙ (bound_some c.self.inside.names.keys c.self.inside.bounds.entries false name c.in-Some.name c.args.pc c.self.invariant.0 c.self.invariant.1 c.in-Some.ensures.index
    ∙ ap (noted_bound (subject_of false name c.args.pc)) c.self.view_is))

pub returns-in-None : goal.returns-in-None
returns-in-None c =
    let name = c.args.name.now in
    bound_none c.self.inside.names.keys c.self.inside.bounds.entries false name c.args.pc c.self.invariant.0 c.in-None.ensures.index ∙ ap (noted_bound (subject_of false name c.args.pc)) c.self.view_is
