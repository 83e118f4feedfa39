use Rattle.std.proofs.Common.{ℕ, ◌<◌, List, length, All, sym, ap, ◌∙◌, subst}
use Rattle.loop_nest.specs.Nest.{NaturalLoop, headers_of}
use Rattle.loop_nest.specs.Faults.{HasCause}
use Rattle.loop_nest.specs.declared.loops.NestFault.{NestFault}
use Rattle.bound_causes.proofs.Shaping.{leaves_nodes, headers_below}
use Rattle.bound_causes.proofs.shapes.compact_shape.Goals as goal

pub header_places-requires : goal.header_places-requires
header_places-requires c =
    let d = c.args.c.now.graph in
    let numbers = c.as_slice-numbers.result.now in
    let long = ap length c.as_slice-numbers.ensures ∙ c.requires.long in
    let P : ℕ → Type 0 = λ n. All (λ (h : ℕ). h < n) (headers_of c.loops.result.now) in
    let Q : List NaturalLoop → Type 0 = λ ls. All (λ (h : ℕ). h < d.nodes) (headers_of ls) in
    subst P (sym long) (subst Q (sym c.loops.ensures) (headers_below d c.in-Ok.nest c.requires.digraph c.in-Ok.ensures.nest))

pub numbers_of-requires : goal.numbers_of-requires
numbers_of-requires c =
    let d = c.args.c.now.graph in
    let numbers = c.as_slice-numbers.result.now in
    let long = ap length c.as_slice-numbers.ensures ∙ c.requires.long in
    let P : ℕ → Type 0 = λ n. All (λ (u : ℕ). u < n) c.deref.result.now in
    let Q : List ℕ → Type 0 = λ us. All (λ (u : ℕ). u < d.nodes) us in
    let C : NestFault → Type 0 = λ e. HasCause d e in
    let cause = subst C c.in-Err-Irreducible.field-0-is c.in-Err-Irreducible.ensures.cause in
    subst P (sym long) (subst Q (sym c.deref.ensures.value) (leaves_nodes d c.in-Err-Irreducible.left.items cause.0))
