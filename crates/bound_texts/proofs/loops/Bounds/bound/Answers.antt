use Rattle.std.proofs.Common.{◌∙◌, ap}
use Rattle.bound_texts.specs.Loops.Bounds.{bound_in}
use Rattle.bound_texts.proofs.LoopsLemmas.NameLemmas.{bound_some, bound_none}
use Rattle.bound_texts.proofs.loops.Bounds.bound.Goals as goal

pub returns-in-Some : goal.returns-in-Some
returns-in-Some c =
    let name = c.args.name.now in
    c.copied.ensures ∙ (c.get.ensures.value ∙ (bound_some c.self.inside.names.keys c.self.inside.bounds.entries name c.in-Some.name c.args.pc c.self.invariant.0 c.self.invariant.1 c.in-Some.ensures.index
    ∙ ap (bound_in name c.args.pc) c.self.view_is))

pub returns-in-None : goal.returns-in-None
returns-in-None c =
    let name = c.args.name.now in
    bound_none c.self.inside.names.keys c.self.inside.bounds.entries name c.args.pc c.self.invariant.0 c.in-None.ensures.index ∙ ap (bound_in name c.args.pc) c.self.view_is
