use Rattle.std.proofs.Common.{sym, ap, ◌∙◌}
use Rattle.std.specs.List.{flat_map, enumerate_from}
use Rattle.lists.specs.Lists.{first}
use Rattle.lists.proofs.FirstLemmas.{first-before, first-behind, ok_same}
use Rattle.program_tables.specs.Unsupported.{unsupported_in}
use Rattle.program_tables.proofs.ListLemmas.{no_value}
use Rattle.class_checks.specs.Causes.{unsupported_at_field, unsupported_in_method}
use Rattle.class_checks.proofs.BoundLemmas.{class_bounds}
use Rattle.class_checks.proofs.FirstLemmas.{in_class}
use Rattle.class_checks.proofs.first.first_unsupported.Goals as goal

pub first_in_methods-requires-clause-bounds : goal.first_in_methods-requires-clause-bounds
first_in_methods-requires-clause-bounds c = class_bounds c.methods_have_code.ensures c.args.class.now c.requires

pub returns-in-Some : goal.returns-in-Some
returns-in-Some c =
    let class = c.args.class.now in
    let fields = flat_map (unsupported_at_field class) (enumerate_from 0 class.fields) in
    let methods = flat_map (unsupported_in_method class) (enumerate_from 0 class.methods) in
    sym (ap first (in_class class) ∙ first-before fields methods c.in-Some.found (sym c.first_in_fields.ensures ∙ c.in-Some.is))

pub returns : goal.returns
returns c =
    let class = c.args.class.now in
    let fields = flat_map (unsupported_at_field class) (enumerate_from 0 class.fields) in
    let methods = flat_map (unsupported_in_method class) (enumerate_from 0 class.methods) in
    let none = no_value c.first_in_fields.result c.in_default.not-Some in
    ok_same c.first_in_methods.result (first methods) (first (unsupported_in class)) (sym (ap first (in_class class) ∙ first-behind fields methods (sym c.first_in_fields.ensures ∙ none))) c.first_in_methods.ensures
