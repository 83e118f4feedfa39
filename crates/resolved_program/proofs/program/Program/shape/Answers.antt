use Rattle.std.proofs.Common.{◌<◌, List, length, Some, sym, ap, ◌∙◌, subst, arith}
use Rattle.std.specs.Prelude.{slice_get}
use Rattle.std.specs.Option.{IsSomeAnd}
use Rattle.std.proofs.lemmas.Option.{slice_get-get_or}
use Rattle.class_pool.specs.declared.class.ClassFile.{ClassFile}
use Rattle.program_tables.specs.Meanings.{HasShape}
use Rattle.program_tables.specs.Numbers.{methods_by_number}
use Rattle.program_tables.specs.Resolved.{resolved_methods}
use Rattle.resolved_program.proofs.program.Program.shape.Goals as goal

pub index-requires : goal.index-requires
index-requires c =
    let long = c.self.invariant.9.long in
    let all = ap (λ (cs : List ClassFile). length (methods_by_number cs)) c.self.view_is in
    omega (arith, long, all, c.requires)

pub returns : goal.returns
returns c =
    let shapes = c.self.inside.shapes.items in
    let n = c.args.number in
    let s = c.index.result.now in
    let long = c.self.invariant.9.long in
    let all = ap (λ (cs : List ClassFile). length (methods_by_number cs)) c.self.view_is in
    let lt : n < length shapes = omega (arith, long, all, c.requires) in
    subst (λ (cs : List ClassFile). IsSomeAnd (slice_get (resolved_methods cs) n) (HasShape s)) c.self.view_is
    (c.self.invariant.9.each n s (slice_get-get_or shapes n s lt ∙ ap Some (sym c.index.ensures)))
