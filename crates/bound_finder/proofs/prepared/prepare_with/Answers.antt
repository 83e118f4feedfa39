use Rattle.std.proofs.Common.{List, Bool, length, refl, ap, ◌∙◌, subst}
use Rattle.bound_finder.specs.declared.prepared.Prepared.{Prepared}
use Rattle.bound_finder.specs.Prepared.{AreMethodCosts}
use Rattle.bound_finder.proofs.Preparing.{has_shape, in_shape}
use Rattle.bound_finder.proofs.prepared.prepare_with.Goals as goal

pub loop_bounds-requires : goal.loop_bounds-requires
loop_bounds-requires c = record { method = c.requires.method; shape = has_shape c.args.task.now c.args.m c.args.told.now c.args.shape c.requires.method c.requires.shape }

pub charges_of-requires : goal.charges_of-requires
charges_of-requires c = record { method = c.requires.method; shape = has_shape c.args.task.now c.args.m c.args.told.now c.args.shape c.requires.method c.requires.shape }

pub method_costs-requires : goal.method_costs-requires
method_costs-requires c = record { method = c.requires.method; shape = c.requires.shape; flags = ap length c.deref.ensures.value ∙ c.in-Ok.ensures.flags; told = c.requires.told }

pub returns-in-Ok-method_costs : goal.returns-in-Ok-method_costs
returns-in-Ok-method_costs c =
    let set = c.args.task.now in
    let p : Prepared = record { shape = c.args.shape; fits = c.args.fits; bounds = c.in_ok-bounds.bounds; charges = record { flags = c.in-Ok.charges.flags; loads = c.in-Ok.charges.loads }; costs = c.in-Ok-method_costs.costs } in
    let F : List Bool → Type 0 = λ fs. AreMethodCosts set c.args.m c.args.shape c.args.fits fs c.args.told.now c.in-Ok-method_costs.costs.items in
    record {
      shape = in_shape set c.args.m c.args.told.now p c.requires.method c.requires.shape c.in_ok-bounds.ensures.bounds c.in-Ok.ensures.flags c.in-Ok.ensures.loads c.in-Ok.ensures.apart c.in-Ok.ensures.none c.in-Ok-method_costs.ensures.long;
      same = (refl, refl);
      bounds = c.in_ok-bounds.ensures.bounds;
      charges = c.in-Ok.ensures.charges;
      costs = subst F c.deref.ensures.value c.in-Ok-method_costs.ensures.costs;
      cause = tt;
    }
