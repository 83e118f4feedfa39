use Rattle.std.proofs.Common.{◌≡◌, false, Bool, List, [], ◌∷◌, ◌++◌, take, take_all, length, replicate, Contains, refl, sym, ap, ◌∙◌, subst, arith}
use Rattle.std.proofs.lemmas.List.{take_more, length-replicate}
use Rattle.std.proofs.lemmas.Option.{slice_get_read}
use Rattle.method_flow.specs.declared.flow.Call.{Call}
use Rattle.method_flow.specs.Flow.{Coded}
use Rattle.flow_table.specs.Marks.{HasMarks}
use Rattle.flow_table.proofs.Marking.{no_marks, marks_more}
use Rattle.flow_table.proofs.marks.marks_of.Goals as goal

pub mark_calls-requires : goal.mark_calls-requires
mark_calls-requires c x has =
    let ks = c.args.methods.now in
    let i = c.loop-method.method-index in
    let k = c.method-item.result in
    let at = slice_get_read ks (length ks) i k refl c.loop-method-test.true c.method-item.is in
    let fits = c.requires i k x at (subst (λ (cs : List Call). Contains cs x) c.calls.ensures.calls has) in
    let long = c.loop-method.invariant.long in
    omega arith

pub loop-method-init : goal.loop-method-init
loop-method-init c =
    let marks = c.in_ok-marks.marks.items in
    let all : marks ≡ replicate c.args.count false = c.in_ok-marks.ensures.items_if_clones_equal (λ y h. h) in
    no_marks c.args.coded c.args.count marks (ap (λ (xs : List Bool). length xs) all ∙ length-replicate c.args.count false)

pub loop-method-preserved : goal.loop-method-preserved
loop-method-preserved c =
    let ks = c.args.methods.now in
    let i = c.loop-method.method-index in
    let k = c.method-item.result in
    let more = take_more ks i k c.loop-method-test.true ∙ ap (λ (y : Coded). take i ks ++ y ∷ []) (sym c.method-item.is) in
    subst (λ (xs : List Coded). HasMarks c.args.coded c.args.count xs c.mark_calls.new.marks.items) (sym more) (marks_more c.args.coded c.args.count (take i ks) k c.calls.result.now c.loop-method.marks.items c.mark_calls.new.marks.items c.loop-method.invariant c.calls.ensures.calls c.mark_calls.ensures)

pub returns : goal.returns
returns c =
    subst (λ (xs : List Coded). HasMarks c.args.coded c.args.count xs c.loop-method.marks.items) (take_all c.loop-method.method-index c.args.methods.now c.loop-method-test.false) c.loop-method.invariant
