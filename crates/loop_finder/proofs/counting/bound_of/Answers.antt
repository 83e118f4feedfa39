use Rattle.std.proofs.Common.{◌≡◌, [], sym, ap, ◌∙◌, subst}
use Rattle.loop_finder.specs.declared.body.Beginnings.{Beginnings}
use Rattle.loop_finder.specs.declared.body.Beginnings.TheVariants.{Listed}
use Rattle.loop_finder.specs.Counting.{AreBeforeBy, Body}
use Rattle.loop_finder.proofs.counting.bound_of.Goals as goal

pub bound_stored-requires-clause-stored : goal.bound_stored-requires-clause-stored
bound_stored-requires-clause-stored c = sym (ap (λ (x : Body). x.begins) c.body.view_is) ∙ c.in-Stored.is

pub bound_listed-requires-clause-listed : goal.bound_listed-requires-clause-listed
bound_listed-requires-clause-listed c =
    let b = c.args.body.now in
    let listed : b.begins ≡ Listed c.in-Listed.field-0 = sym (ap (λ (x : Body). x.begins) c.body.view_is) ∙ c.in-Listed.is in
    subst (λ (x : Beginnings). AreBeforeBy x b.acts b.graph c.args.marks.now.header []) (sym listed) tt
