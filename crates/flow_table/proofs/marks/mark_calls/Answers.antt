use Rattle.std.proofs.Common.{◌-◌, ◌<◌, ◌≤◌, Bool, true, List, [], ◌∷◌, ◌++◌, take, length, get_or, Vec, Global, refl, sym, subst, arith}
use Rattle.std.proofs.Math.ListN.{set}
use Rattle.std.proofs.lemmas.List.{take_more}
use Rattle.method_flow.specs.declared.flow.Call.{Call}
use Rattle.flow_table.specs.Marks.{AreMarked}
use Rattle.flow_table.proofs.Listing.{contains_read}
use Rattle.flow_table.proofs.Marking.{mark_past, mark_one}
use Rattle.flow_table.proofs.marks.mark_calls.Goals as goal
use Rattle.flow_table.proofs.marks.mark_calls.Goals.{then-targets-coded, else-targets-coded}

pub index_mut-requires : goal.index_mut-requires
index_mut-requires c =
    let i = c.loop-call.call-index in
    let none : Call = record { place = 0; targets = 0 } in
    let x = get_or c.args.calls.now i none in
    let fits = c.requires x (contains_read c.args.calls.now i none c.loop-call-test.true) in
    let long = c.loop-call.invariant.long in
    let from = c.if-targets-coded.true in
    omega arith

pub loop-call-preserved : goal.loop-call-preserved
loop-call-preserved c =
    let i = c.loop-call.call-index in
    let none : Call = record { place = 0; targets = 0 } in
    let calls = c.args.calls.now in
    let x = get_or calls i none in
    let coded = c.args.coded in
    let old = c.args.marks.now.items in
    let ms = c.loop-call.marks.items in
    let h = c.loop-call.invariant in
    subst (λ (xs : List Call). AreMarked coded xs old c.if-targets-coded.marks.items) (sym (take_more calls i none c.loop-call-test.true))
    (elim c.if-targets-coded.branch [
      | then-targets-coded w ↦
          let fits = c.requires x (contains_read calls i none c.loop-call-test.true) in
          let long = h.long in
          let from : coded ≤ x.targets = w.if-targets-coded.true in
          let inside : x.targets - coded < length ms = omega arith in
          subst (λ (v : Vec Bool Global). AreMarked coded (take i calls ++ x ∷ []) old v.items) (sym w.marks-is) (mark_one coded (take i calls) x old ms (set ms (x.targets - coded) true) h from inside refl)
      | else-targets-coded w ↦
          let less : x.targets < coded = w.if-targets-coded.false in
          subst (λ (v : Vec Bool Global). AreMarked coded (take i calls ++ x ∷ []) old v.items) (sym w.marks-is) (mark_past coded (take i calls) x old ms h less)
    ])
