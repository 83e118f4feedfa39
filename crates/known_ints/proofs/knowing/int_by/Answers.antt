use Rattle.std.proofs.Common.{w32, FitsSigned, ap, ◌∙◌, rules}
use Rattle.std.proofs.lemmas.Int.{to_z-of_z}
use Rattle.loop_rules.specs.Further.Found.{Table}
use Rattle.known_ints.proofs.Giving.{int_given, field_given, load_given, length_given, computed_given, no_int}
use Rattle.known_ints.proofs.knowing.int_by.Goals as goal

pub returns-in-Int : goal.returns-in-Int
returns-in-Int c =
    let v = c.in-Int.value in
    let fits : FitsSigned w32 v = search rules in
    int_given c.args.code.now c.args.found.now c.args.answers.now c.args.place c.args.part v _ c.pushed_at.result c.in-Int.is (to_z-of_z w32 v fits) c.pushed_at.ensures

pub returns-in-Field : goal.returns-in-Field
returns-in-Field c =
    let v = c.in-Field.value in
    let fits : FitsSigned w32 v = search rules in
    field_given c.args.code.now c.args.found.now c.args.answers.now c.args.place c.args.part v _ c.pushed_at-in-Field.result c.in-Field.is (to_z-of_z w32 v fits) c.pushed_at-in-Field.ensures

pub returns-in-Load : goal.returns-in-Load
returns-in-Load c = load_given c.args.code.now c.args.found.now c.args.answers.now c.args.place c.args.part _ c.in-Load.is c.requires c.loaded.result c.loaded.ensures

pub returns-in-Length : goal.returns-in-Length
returns-in-Length c =
    let are = c.deref.ensures.value ∙ ap (λ (t : Table). t.lengths) c.found.view_is in
    length_given c.args.code.now c.args.found.now c.args.answers.now c.args.place c.args.part c.deref.result.now are c.known_at.result c.in-Length.is c.known_at.ensures

pub returns-in-Compute : goal.returns-in-Compute
returns-in-Compute c =
    let are = c.deref-in-Compute.ensures.value ∙ ap (λ (t : Table). t.ints) c.found.view_is in
    computed_given c.args.code.now c.args.found.now c.args.answers.now c.args.place c.args.part c.deref-in-Compute.result.now are c.in-Compute.arithmetic c.computed_at.result c.in-Compute.is c.computed_at.ensures

pub returns-in_default : goal.returns-in_default
returns-in_default c =
    no_int c.args.code.now c.args.found.now c.args.answers.now c.args.place c.args.part c.in_default.not-Int c.in_default.not-Field c.in_default.not-Load c.in_default.not-Length c.in_default.not-Compute
