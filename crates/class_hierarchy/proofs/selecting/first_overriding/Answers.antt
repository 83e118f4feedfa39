use Rattle.std.proofs.Common.{◌≡◌, ◌||◌, List, Some, drop, sym, ap, ◌∙◌, subst, arith}
use Rattle.std.specs.List.{filter_map}
use Rattle.class_lookup.specs.Lookup.{Place}
use Rattle.class_lookup.specs.Selection.{overriding, head}
use Rattle.class_hierarchy.proofs.Unmarked.{none_named}
use Rattle.class_hierarchy.specs.Members.{declared_as}
use Rattle.class_hierarchy.specs.Selecting.{is_open, is_joining}
use Rattle.class_hierarchy.proofs.Reaching.{AreReached, reached_more, back_one}
use Rattle.class_hierarchy.proofs.selecting.first_overriding.Goals as goal

pub loop-i-preserved-then-free : goal.loop-i-preserved-then-free
loop-i-preserved-then-free c =
    let cs = c.args.classes.now in
    let find = declared_as cs c.args.resolved.now.place in
    let i = c.loop-i.i in
    let x = c.in-Some.place in
    let le = c.loop-i.invariant.0 in
    let step = back_one find c.args.list.now i x c.loop-i-test.true le c.in-Some.ensures in
    let next : c.loop-i.free ≡ (c.loop-i.free || is_open cs x) = c.if-free.true ∙ ap (λ b. b || is_open cs x) (sym c.if-free.true) in (
      omega (arith, le),
      subst (λ (ms : List Place). AreReached cs c.args.resolved.now.place ms (Some x) c.loop-i.free) step
          (reached_more cs c.args.resolved.now.place x (filter_map find (drop i c.args.list.now)) c.loop-i.found c.loop-i.free c.loop-i.free c.loop-i.invariant.1 (ap (λ f. is_joining cs c.args.resolved.now.place f c.loop-i.free x) (sym c.is_some.ensures) ∙ sym c.if-is_joining.ensures) next),
    )

pub loop-i-preserved-else-free : goal.loop-i-preserved-else-free
loop-i-preserved-else-free c =
    let cs = c.args.classes.now in
    let find = declared_as cs c.args.resolved.now.place in
    let i = c.loop-i.i in
    let x = c.in-Some.place in
    let le = c.loop-i.invariant.0 in
    let step = back_one find c.args.list.now i x c.loop-i-test.true le c.in-Some.ensures in
    let next : c.is_open-free.result ≡ (c.loop-i.free || is_open cs x) = c.is_open-free.ensures ∙ ap (λ b. b || is_open cs x) (sym c.if-free.false) in (
      omega (arith, le),
      subst (λ (ms : List Place). AreReached cs c.args.resolved.now.place ms (Some x) c.is_open-free.result) step
          (reached_more cs c.args.resolved.now.place x (filter_map find (drop i c.args.list.now)) c.loop-i.found c.loop-i.free c.is_open-free.result c.loop-i.invariant.1 (ap (λ f. is_joining cs c.args.resolved.now.place f c.loop-i.free x) (sym c.is_some.ensures) ∙ sym c.if-is_joining.ensures) next),
    )

pub returns-in_err-row : goal.returns-in_err-row
returns-in_err-row c =
    let cs = c.args.classes.now in
    let m = c.args.resolved.now in
    c.from_residual.ensures
    ∙ sym (ap (λ (ms : List Place). head (overriding cs m.place ms)) (none_named cs c.args.marks.now m c.requires.named c.requires.marks c.in_err-row.ensures c.args.list.now))
