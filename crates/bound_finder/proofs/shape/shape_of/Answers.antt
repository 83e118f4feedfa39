use Rattle.std.proofs.Common.{ℕ, ◌<◌, Global, List, Vec, length, All, refl, sym, ap, ◌∙◌, subst}
use Rattle.loop_nest.specs.declared.loops.NestFault.{NestFault}
use Rattle.loop_nest.specs.Faults.{HasCause}
use Rattle.bound_finder.proofs.Shapes.{leaves_nodes, shape_is}
use Rattle.bound_finder.proofs.shape.shape_of.Goals as goal

pub returns-in-Ok-clause-shape : goal.returns-in-Ok-clause-shape
returns-in-Ok-clause-shape c = λ g is size wf.
    shape_is g c.args.c (record { graph = c.args.c.graph; nodes = c.args.c.nodes; nest = c.in-Ok.nest; size = c.args.size }) is size wf refl refl c.in-Ok.ensures.reducible c.in-Ok.ensures.nest

pub irreducible-requires : goal.irreducible-requires
irreducible-requires c =
    let d = c.args.c.graph in
    let C : NestFault → Type 0 = λ e. HasCause d e in
    let cause = subst C c.in-Err-Irreducible.field-0-is c.in-Err-Irreducible.ensures.cause in
    let long = ap length c.as_slice.ensures ∙ c.requires in
    let P : ℕ → Type 0 = λ n. All (λ (u : ℕ). u < n) c.deref.result.now in
    let Q : List ℕ → Type 0 = λ us. All (λ (u : ℕ). u < d.nodes) us in
    let same = c.deref.ensures.value ∙ ap (λ (v : Vec ℕ Global). v.items) c.in-Err-Irreducible.left-is in
    subst P (sym long) (subst Q (sym same) (leaves_nodes d c.in-Err-Irreducible.left.items cause.0))
