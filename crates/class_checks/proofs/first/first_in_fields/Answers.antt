use Rattle.std.proofs.Common.{◌≡◌, ◌+◌, ◌<◌, ◌≤◌, List, length, get_or, sym, ap, ◌∙◌, subst}
use Rattle.class_pool.specs.declared.class.Member.{Member}
use Rattle.lists.proofs.FirstLemmas.{found_number, none_number, none_numbered}
use Rattle.program_tables.proofs.ListLemmas.{no_value}
use Rattle.class_checks.specs.Causes.{unsupported_at_field}
use Rattle.class_checks.proofs.first.first_in_fields.Goals as goal

pub returns-in-Some : goal.returns-in-Some
returns-in-Some c =
    let ms = c.args.class.now.fields in
    let i = c.loop-field.field-index in
    let m = c.field-item.result in
    let same = c.as_slice-field-items.ensures in
    let lt = subst (λ (xs : List Member). i < length xs) same c.loop-field-test.true in
    let is = subst (λ (xs : List Member). m ≡ get_or xs i m) same c.field-item.is in
    sym (found_number (unsupported_at_field c.args.class.now) ms i c.loop-field.number m c.in-Some.found lt is c.loop-field.invariant.number c.loop-field.invariant.none (sym c.first_at_field.ensures ∙ c.in-Some.is))

pub loop-field-preserved : goal.loop-field-preserved
loop-field-preserved c =
    let ms = c.args.class.now.fields in
    let i = c.loop-field.field-index in
    let m = c.field-item.result in
    let same = c.as_slice-field-items.ensures in
    let lt = subst (λ (xs : List Member). i < length xs) same c.loop-field-test.true in
    let is = subst (λ (xs : List Member). m ≡ get_or xs i m) same c.field-item.is in
    let none = no_value c.first_at_field.result c.in_default.not-Some in
    record {
      number = ap (λ k. k + 1) c.loop-field.invariant.number;
      none = none_number (unsupported_at_field c.args.class.now) ms i c.loop-field.number m lt is c.loop-field.invariant.number c.loop-field.invariant.none (sym c.first_at_field.ensures ∙ none);
    }

pub returns : goal.returns
returns c =
    let ms = c.args.class.now.fields in
    let i = c.loop-field.field-index in
    let past = subst (λ (xs : List Member). length xs ≤ i) c.as_slice-field-items.ensures c.loop-field-test.false in
    sym (none_numbered (unsupported_at_field c.args.class.now) ms i c.loop-field.number past c.loop-field.invariant.number c.loop-field.invariant.none)
