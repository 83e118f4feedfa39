use Rattle.std.proofs.Common.{◌≡◌, ℕ, List, Some, sym, ap, ◌∙◌, subst}
use Rattle.std.specs.Prelude.{slice_get}
use Rattle.class_pool.specs.declared.class.ClassFile.{ClassFile}
use Rattle.flow_table.specs.Made.{AreMade}
use Rattle.flow_table.specs.Targets.{AreTargets}
use Rattle.method_flow.specs.Flow.{Coded, Flow, IsFlowOf}
use Rattle.program_tables.specs.Resolved.{resolved}
use Rattle.flow_table.proofs.Flowing.{is_flow, is_flow_of}
use Rattle.flow_table.proofs.Making.{are_coded}
use Rattle.flow_table.proofs.program.flow_of.Goals as goal

targets_of : (cs : List ClassFile) (coded : ℕ) (ks ls : List Coded) (lists : List (List ℕ)) → ks ≡ ls → AreTargets cs coded ks lists → AreTargets cs coded ls lists
targets_of cs coded ks ls lists e h = subst (λ (xs : List Coded). AreTargets cs coded xs lists) e h

pub target_lists-requires-clause-coded : goal.target_lists-requires-clause-coded
target_lists-requires-clause-coded c =
    are_coded c.args.p.now c.coded_count-coded.result c.method_count.result c.coded_count-coded.ensures c.method_count.ensures c.if-method_count-coded.false c.coded_count-coded.type_inv

pub target_lists-requires-clause-methods : goal.target_lists-requires-clause-methods
target_lists-requires-clause-methods c =
    subst (λ (xs : List Coded). AreMade c.args.p.now c.coded_count-coded.result c.coded_count-coded.result xs) (sym c.deref.ensures.value) c.in_ok-methods.ensures

pub methods_of-requires-clause-coded : goal.methods_of-requires-clause-coded
methods_of-requires-clause-coded c =
    are_coded c.args.p.now c.coded_count-coded.result c.method_count.result c.coded_count-coded.ensures c.method_count.ensures c.if-method_count-coded.false c.coded_count-coded.type_inv

pub new-requires : goal.new-requires
new-requires c =
    let f : Flow = record { methods = c.in_ok-methods.methods.items; targets = c.in_ok-targets.targets.items; boot = c.boot_of.result } in
    let are = are_coded c.args.p.now c.coded_count-coded.result c.method_count.result c.coded_count-coded.ensures c.method_count.ensures c.if-method_count-coded.false c.coded_count-coded.type_inv in
    is_flow c.methods_stand_by_number.ensures c.args.p.now c.requires.placed c.requires.lawful c.coded_count-coded.result are f c.in_ok-methods.ensures (targets_of c.args.p.now c.coded_count-coded.result _ _ _ c.deref.ensures.value c.in_ok-targets.ensures) c.boot_of.ensures

pub returns-clause-flow : goal.returns-clause-flow
returns-clause-flow c =
    let f : Flow = record { methods = c.in_ok-methods.methods.items; targets = c.in_ok-targets.targets.items; boot = c.boot_of.result } in
    let are = are_coded c.args.p.now c.coded_count-coded.result c.method_count.result c.coded_count-coded.ensures c.method_count.ensures c.if-method_count-coded.false c.coded_count-coded.type_inv in
    subst (λ (g : Flow). IsFlowOf (resolved c.args.p.now) g) (sym c.new.ensures)
    (is_flow_of c.methods_stand_by_number.ensures c.args.p.now c.requires.placed c.requires.lawful c.coded_count-coded.result are f c.in_ok-methods.ensures (targets_of c.args.p.now c.coded_count-coded.result _ _ _ c.deref.ensures.value c.in_ok-targets.ensures) c.boot_of.ensures)

pub returns-clause-names : goal.returns-clause-names
returns-clause-names c m k at =
    let here : slice_get c.in_ok-methods.methods.items m ≡ Some k = ap (λ (f : Flow). slice_get f.methods m) (sym c.new.ensures) ∙ at in
    (c.in_ok-methods.ensures.each m k here).name
