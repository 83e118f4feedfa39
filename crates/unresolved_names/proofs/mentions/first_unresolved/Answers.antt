use Rattle.std.proofs.Common.{ℕ, List, Some, ◌∙◌, sym, ap}
use Rattle.std.specs.List.{flat_map}
use Rattle.class_pool.specs.declared.class.ClassFile.{ClassFile}
use Rattle.class_pool.specs.declared.class.Member.{Member}
use Rattle.lists.specs.Lists.{first}
use Rattle.lists.proofs.FirstLemmas.{ok_same}
use Rattle.program_tables.specs.Unresolved.{FieldDescriptor}
use Rattle.program_tables.specs.declared.refusal.Why.TheVariants as reasons
use Rattle.unresolved_names.specs.Causes.{refused_mention}
use Rattle.unresolved_names.proofs.MentionLemmas.{at_class, at_fields, at_methods}
use Rattle.unresolved_names.proofs.mentions.first_unresolved.Goals as goal

pub returns-then-not-implements_all : goal.returns-then-not-implements_all
returns-then-not-implements_all c =
    ap (λ (d : ℕ). Some (d, reasons.NotImplemented)) c.from.ensures ∙ at_class c.args.classes.now c.args.caller c.args.class.now (sym c.requires.implements ∙ c.if-not-implements_all.true)

pub returns-in-Some : goal.returns-in-Some
returns-in-Some c =
    at_fields c.args.classes.now c.args.caller c.args.class.now c.in-Some.found (sym c.requires.implements ∙ c.if-not-implements_all.false)
    (ap (λ (ks : List ClassFile). first (flat_map (λ (f : Member). refused_mention ks c.args.caller c.args.class.now (FieldDescriptor f)) c.args.class.now.fields)) (sym c.requires.texts) ∙ sym c.in-Some.ensures)

pub returns : goal.returns
returns c =
    ok_same c.first_in_methods.result _ _
    (at_methods c.args.classes.now c.args.caller c.args.class.now (sym c.requires.implements ∙ c.if-not-implements_all.false)
    (ap (λ (ks : List ClassFile). first (flat_map (λ (f : Member). refused_mention ks c.args.caller c.args.class.now (FieldDescriptor f)) c.args.class.now.fields)) (sym c.requires.texts) ∙ sym c.in_default.ensures))
    c.first_in_methods.ensures
