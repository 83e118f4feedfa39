use Rattle.std.proofs.Common.{List, inl, inr, sym, ap, ◌∙◌}
use Rattle.class_pool.specs.declared.class.ClassFile.{ClassFile}
use Rattle.class_lookup.specs.Parts.{Signature}
use Rattle.class_lookup.specs.Lookup.{declared_method}
use Rattle.class_hierarchy.proofs.Found.{no_method}
use Rattle.class_hierarchy.proofs.hierarchy.Hierarchy.declared_method.Goals as goal

pub returns-in_err-name : goal.returns-in_err-name
returns-in_err-name c =
    let s : Signature = record { name = c.args.name.now; descriptor = c.args.descriptor.now } in
    c.from_residual.ensures
    ∙ (no_method c.self.inside.classes c.members_have_symbols.ensures s (inl (sym c.in_err-name.ensures)) c.args.class ∙ ap (λ (x : List ClassFile). declared_method x s c.args.class) c.self.view_is)

pub returns-in_err-descriptor : goal.returns-in_err-descriptor
returns-in_err-descriptor c =
    let s : Signature = record { name = c.args.name.now; descriptor = c.args.descriptor.now } in
    c.from_residual-in_err-descriptor.ensures
    ∙ (no_method c.self.inside.classes c.members_have_symbols.ensures s (inr (sym c.in_err-descriptor.ensures)) c.args.class ∙ ap (λ (x : List ClassFile). declared_method x s c.args.class) c.self.view_is)

pub returns : goal.returns
returns c =
    let s : Signature = record { name = c.args.name.now; descriptor = c.args.descriptor.now } in
    c.declared_method.ensures s (sym c.in_ok-name.ensures) (sym c.in_ok-descriptor.ensures) ∙ ap (λ (x : List ClassFile). declared_method x s c.args.class) c.self.view_is
