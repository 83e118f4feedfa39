use Rattle.std.proofs.Common.{List, ℕ, Vec, Global, ap, ◌∙◌, length, subst}
use Rattle.std.specs.Prelude.{slice_index}
use Rattle.loop_nest.specs.declared.loops.NestFault.{NestFault}
use Rattle.loop_nest.specs.Faults.{HasCause}
use Rattle.memory_bound.specs.Shapes.{IsLeftAs}
use Rattle.memory_bound.proofs.Shaping.{left_within, left_in}
use Rattle.memory_bound.proofs.shapes.shape_by.Goals as goal

pub irreducible-requires : goal.irreducible-requires
irreducible-requires c =
    let cause = subst (λ (e : NestFault). HasCause c.args.graph e) c.in-Err-Irreducible.field-0-is c.in-Err-Irreducible.ensures.cause in
    let same = c.deref.ensures.value ∙ ap (λ (v : Vec ℕ Global). v.items) c.in-Err-Irreducible.left-is in
    left_within c.args.graph c.as_slice.result.now c.in-Err-Irreducible.left.items c.deref.result.now same (ap length c.as_slice.ensures ∙ c.requires) cause.0

pub returns-in-Err-Irreducible-clause-cause : goal.returns-in-Err-Irreducible-clause-cause
returns-in-Err-Irreducible-clause-cause c = λ g d compact same.
    let ns = c.args.nodes in
    let left = c.in-Err-Irreducible.left.items in
    let e = c.irreducible.result in
    let cause = subst (λ (f : NestFault). HasCause c.args.graph f) c.in-Err-Irreducible.field-0-is c.in-Err-Irreducible.ensures.cause in
    let left_is = c.deref.ensures.value ∙ ap (λ (v : Vec ℕ Global). v.items) c.in-Err-Irreducible.left-is in
    left_in g d c.args.graph ns compact same left cause.0 cause.1 e
    (subst (λ (us : List ℕ). IsLeftAs (slice_index ns) us e) left_is
    (subst (λ (ms : List ℕ). IsLeftAs (slice_index ms) c.deref.result.now e) c.as_slice.ensures c.irreducible.ensures))
