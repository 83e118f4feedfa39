use Rattle.std.proofs.Common.{◌≡◌, ℕ, ◌<◌, length, All, IfErr, sym, ap, ◌∙◌, subst, rules, arith}
use Rattle.std.specs.Prelude.{slice_index, unwrap_or}
use Rattle.std.proofs.lemmas.List.{get_or_read}
use Rattle.std.proofs.lemmas.List.Sorted.{All-permutation}
use Rattle.method_flow.specs.Flow.{Flow}
use Rattle.method_flow.specs.Regions.IsWithin.{itself}
use Rattle.call_regions.proofs.Sorting.{if_err}
use Rattle.memory_rules.specs.declared.causes.NeedFault.{NeedFault}
use Rattle.memory_rules.specs.Stack.{IsStackNeedOf}
use Rattle.memory_bound.specs.Setting.{bounds_in, lengths_in}
use Rattle.memory_bound.specs.Found.{found_at}
use Rattle.memory_bound.specs.Needs.{IsFaultIn}
use Rattle.memory_bound.proofs.Answering.{need_of_found, fault_of_found}
use Rattle.memory_bound.proofs.causes.need_found.Goals as goal

pub check_found-requires-clause-known : goal.check_found-requires-clause-known
check_found-requires-clause-known c =
    let ms = c.args.methods.now in
    let f = c.args.task.now.flow in
    subst (λ (n : ℕ). All (λ (m : ℕ). m < n) ms) (sym c.requires.long) (All-permutation (λ (m : ℕ). m < length f.methods) c.args.order.now ms c.requires.methods c.requires.order)

pub returns-in_err-check_found-clause-cause : goal.returns-in_err-check_found-clause-cause
returns-in_err-check_found-clause-cause c =
    let task = c.args.task.now in
    let ms = c.args.methods.now in
    let table = c.args.table.now in
    let result = c.from_residual.result in
    let fault = c.in_err-check_found.field-0.0 in
    let same : IfErr result (λ e. e ≡ fault) = search rules in
    if_err result (λ e. e ≡ fault) _
    (λ e is P flow sites first left.
    subst (λ (x : NeedFault). IsFaultIn P (bounds_in task) (lengths_in task) x) (sym is)
    (fault_of_found P (bounds_in task) (lengths_in task) table ms c.args.order.now first c.requires.methods (c.requires.found P flow sites first left) fault c.in_err-check_found.ensures.cause))
    same

pub returns-clause-need : goal.returns-clause-need
returns-clause-need c = λ P flow sites first left calls.
    let task = c.args.task.now in
    let ms = c.args.methods.now in
    let order = c.args.order.now in
    let table = c.args.table.now in
    let stacks = c.in_ok-stacks.stacks.items in
    let boot = c.boot-boot.result in
    let same : boot ≡ P.boot = c.boot-boot.ensures.boot ∙ ap (λ (f : Flow). f.boot) c.flow.ensures.flow ∙ flow.boot in
    let told : c.flow.result.now.boot < length c.flow.result.now.methods = c.boot-boot.ensures.form.boot in
    let here : boot < length c.flow.result.now.methods = let e = c.boot-boot.ensures.boot in omega arith in
    let inside : boot < length task.flow.methods = subst (λ (f : Flow). boot < length f.methods) c.flow.ensures.flow here in
    let in_stacks : boot < length stacks = let e = c.in_ok-stacks.ensures.long in omega arith in
    let stack : c.index.result.now ≡ slice_index stacks P.boot = get_or_read stacks boot c.index.result.now in_stacks c.index.ensures 0 ∙ ap (slice_index stacks) same in
    let none = c.in_ok-check_found.ensures.ok in
    let deepest = c.in_ok-stacks.ensures.need P flow sites first P.boot ((first.methods.each P.boot).1 itself) in
    need_of_found P (bounds_in task) (lengths_in task) table ms order first c.requires.methods (c.requires.found P flow sites first left) calls left none
    (record { stack = c.index.result.now; heap = c.unwrap_or.result })
    (subst (λ (w : ℕ). IsStackNeedOf P P.boot w) (sym stack) deepest)
    (c.unwrap_or.ensures ∙ ap (λ (n : ℕ). unwrap_or (found_at table n).heap 0) same)
