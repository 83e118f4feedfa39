use Rattle.std.proofs.Common.{w32, FitsSigned, ap, ◌∙◌, rules}
use Rattle.std.proofs.lemmas.Int.{to_z-of_z}
use Rattle.loop_rules.specs.Further.Found.{Table}
use Rattle.known_ints.proofs.Giving.{array_given, load_reference_given, static_given, field_given_before, filled_given, no_length}
use Rattle.known_ints.proofs.knowing.length_by.Goals as goal

pub returns-in-NewArray : goal.returns-in-NewArray
returns-in-NewArray c =
    let are = c.deref.ensures.value ∙ ap (λ (t : Table). t.ints) c.found.view_is in
    array_given c.args.code.now c.args.found.now c.args.answers.now c.args.place c.args.part c.deref.result.now are c.known_at.result c.made.result c.in-NewArray.is c.known_at.ensures c.made.ensures

pub returns-in-LoadReference : goal.returns-in-LoadReference
returns-in-LoadReference c = load_reference_given c.args.code.now c.args.found.now c.args.answers.now c.args.place c.args.part _ c.in-LoadReference.is c.requires c.loaded.result c.loaded.ensures

pub returns-in-StaticArray : goal.returns-in-StaticArray
returns-in-StaticArray c =
    let v = c.in-StaticArray.value in
    let fits : FitsSigned w32 v = search rules in
    static_given c.args.code.now c.args.found.now c.args.answers.now c.args.place c.args.part v _ c.pushed_at.result c.in-StaticArray.is (to_z-of_z w32 v fits) c.pushed_at.ensures

pub returns-in-FieldArray : goal.returns-in-FieldArray
returns-in-FieldArray c =
    let v = c.in-FieldArray.value in
    let fits : FitsSigned w32 v = search rules in
    field_given_before c.args.code.now c.args.found.now c.args.answers.now c.args.place c.args.part v _ c.read_from.result c.in-FieldArray.is (to_z-of_z w32 v fits) c.read_from.ensures

pub returns-in-StoreNumber : goal.returns-in-StoreNumber
returns-in-StoreNumber c =
    let are = c.deref-in-StoreNumber.ensures.value ∙ ap (λ (t : Table). t.lengths) c.found.view_is in
    filled_given c.args.code.now c.args.found.now c.args.answers.now c.args.place c.args.part c.deref-in-StoreNumber.result.now are c.filled.result c.in-StoreNumber.is c.filled.ensures

pub returns-in_default : goal.returns-in_default
returns-in_default c =
    no_length c.args.code.now c.args.found.now c.args.answers.now c.args.place c.args.part
    (record {
      array = c.in_default.not-NewArray;
      load = c.in_default.not-LoadReference;
      static = c.in_default.not-StaticArray;
      field = c.in_default.not-FieldArray;
      store = c.in_default.not-StoreNumber;
    })
