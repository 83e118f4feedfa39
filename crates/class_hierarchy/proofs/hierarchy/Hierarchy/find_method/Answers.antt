use Rattle.std.proofs.Common.{List, inl, inr, sym, ap, ◌∙◌}
use Rattle.class_pool.specs.declared.class.ClassFile.{ClassFile}
use Rattle.class_lookup.specs.Parts.{Signature}
use Rattle.class_lookup.specs.Lookup.{find_method}
use Rattle.class_lookup.specs.Symbols.{symbol}
use Rattle.class_hierarchy.proofs.Found.{method_none}
use Rattle.class_hierarchy.proofs.hierarchy.Hierarchy.find_method.Goals as goal

pub returns-in_err-name : goal.returns-in_err-name
returns-in_err-name c =
    let s : Signature = record { name = c.args.name.now; descriptor = c.args.descriptor.now } in
    c.from_residual.ensures
    ∙ (method_none c.self.inside.classes c.members_have_symbols.ensures s (inl (sym c.in_err-name.ensures)) c.args.class ∙ ap (λ (x : List ClassFile). find_method x c.args.class s) c.self.view_is)

pub returns-in_err-descriptor : goal.returns-in_err-descriptor
returns-in_err-descriptor c =
    let s : Signature = record { name = c.args.name.now; descriptor = c.args.descriptor.now } in
    c.from_residual-in_err-descriptor.ensures
    ∙ (method_none c.self.inside.classes c.members_have_symbols.ensures s (inr (sym c.in_err-descriptor.ensures)) c.args.class ∙ ap (λ (x : List ClassFile). find_method x c.args.class s) c.self.view_is)

pub returns : goal.returns
returns c =
    let s : Signature = record { name = c.args.name.now; descriptor = c.args.descriptor.now } in
    c.find_method_by.ensures s (sym (c.in_ok-name.ensures ∙ ap (λ (x : List ClassFile). symbol x s.name) c.self.view_is)) (sym (c.in_ok-descriptor.ensures ∙ ap (λ (x : List ClassFile). symbol x s.descriptor) c.self.view_is))
