use Rattle.std.proofs.Common.{◌≡◌, ◌||◌, sym, ap, ◌∙◌}
use Rattle.class_hierarchy.specs.Selecting.{is_open, is_joining}
use Rattle.class_hierarchy.proofs.Receiving.{with_public, without_public, with_joining, without_joining}
use Rattle.class_hierarchy.proofs.receivers.with_method.Goals as goal
use Rattle.class_hierarchy.proofs.receivers.with_method.Goals.{then-above, else-above}

pub returns-after-above : goal.returns-after-above
returns-after-above c = λ ms h.
    let r = c.args.resolved.now in
    let s = c.args.above.now in
    let x = c.args.place in
    let free : c.if-above.result ≡ (s.free || is_open r.classes.now x) = elim c.if-above.branch [
      | then-above w ↦ w.result-is ∙ (w.if-above.true ∙ ap (λ b. b || is_open r.classes.now x) (sym w.if-above.true))
      | else-above w ↦ w.result-is ∙ (w.is_open.ensures ∙ ap (λ b. b || is_open r.classes.now x) (sym w.if-above.false))
    ] in
    with_joining r.classes.now r.of_interface r.method.place x ms s c.if-above.result c.if-resolved.false h
    (ap (λ f. is_joining r.classes.now r.method.place f s.free x) (sym c.is_some.ensures) ∙ (sym c.is_joining.ensures ∙ c.if-is_joining.true)) free

pub returns-else-is_joining : goal.returns-else-is_joining
returns-else-is_joining c = λ ms h.
    let r = c.args.resolved.now in
    let s = c.args.above.now in
    let x = c.args.place in
    without_joining r.classes.now r.of_interface r.method.place x ms s c.if-resolved.false h
    (ap (λ f. is_joining r.classes.now r.method.place f s.free x) (sym c.is_some.ensures) ∙ (sym c.is_joining.ensures ∙ c.if-is_joining.false))

pub returns-then-is_public_instance : goal.returns-then-is_public_instance
returns-then-is_public_instance c = λ ms h.
    with_public c.args.resolved.now.classes.now c.args.resolved.now.of_interface c.args.resolved.now.method.place c.args.place ms c.if-resolved.true (sym c.is_public_instance.ensures ∙ c.if-is_public_instance.true)

pub returns-else-is_public_instance : goal.returns-else-is_public_instance
returns-else-is_public_instance c = λ ms h.
    without_public c.args.resolved.now.classes.now c.args.resolved.now.of_interface c.args.resolved.now.method.place c.args.place ms c.args.above.now c.if-resolved.true h (sym c.is_public_instance.ensures ∙ c.if-is_public_instance.false)
