use Rattle.std.proofs.Common.{◌≡◌, ◌<◌, ◌≤◌, List, length, get_or, sym, subst}
use Rattle.class_pool.specs.declared.class.Member.{Member}
use Rattle.lists.proofs.FirstLemmas.{found_here, still_none, none_first}
use Rattle.program_tables.specs.Unresolved.{FieldDescriptor}
use Rattle.unresolved_names.specs.Causes.{refused_mention}
use Rattle.unresolved_names.proofs.mentions.first_in_fields.Goals as goal

pub returns-in-Some : goal.returns-in-Some
returns-in-Some c =
    let namer = c.args.namer.now in
    let ms = namer.class.now.fields in
    let i = c.loop-field.field-index in
    let m = c.field-item.result in
    let same = c.as_slice-field-items.ensures in
    let lt = subst (λ (xs : List Member). i < length xs) same c.loop-field-test.true in
    let is = subst (λ (xs : List Member). m ≡ get_or xs i m) same c.field-item.is in
    sym (found_here (λ (x : Member). refused_mention namer.texts.now namer.number namer.class.now (FieldDescriptor x)) ms i m m c.in-Some.found lt is c.loop-field.invariant (sym c.in-Some.ensures))

pub loop-field-preserved : goal.loop-field-preserved
loop-field-preserved c =
    let namer = c.args.namer.now in
    let ms = namer.class.now.fields in
    let i = c.loop-field.field-index in
    let m = c.field-item.result in
    let same = c.as_slice-field-items.ensures in
    let lt = subst (λ (xs : List Member). i < length xs) same c.loop-field-test.true in
    let is = subst (λ (xs : List Member). m ≡ get_or xs i m) same c.field-item.is in
    still_none (λ (x : Member). refused_mention namer.texts.now namer.number namer.class.now (FieldDescriptor x)) ms i m m lt is c.loop-field.invariant (sym c.in_default.ensures)

pub returns : goal.returns
returns c =
    let namer = c.args.namer.now in
    let past = subst (λ (xs : List Member). length xs ≤ c.loop-field.field-index) c.as_slice-field-items.ensures c.loop-field-test.false in
    sym (none_first (λ (x : Member). refused_mention namer.texts.now namer.number namer.class.now (FieldDescriptor x)) namer.class.now.fields c.loop-field.field-index past c.loop-field.invariant)
