use Rattle.std.proofs.Common.{◌≡◌, ◌||◌, refl, sym, ap, ◌∙◌}
use Rattle.class_hierarchy.specs.Selecting.{is_open, is_joining}
use Rattle.class_selection.proofs.Lemmas.{with_joining, without_joining}
use Rattle.class_selection.proofs.selected.with_joining.Goals as goal
use Rattle.class_selection.proofs.selected.with_joining.Goals.{then-above, else-above}

pub returns-after-above : goal.returns-after-above
returns-after-above c = λ ms i is.
    let cs = c.args.classes.now in
    let s = c.args.above.now in
    let x = c.args.place in
    let free : c.if-above.result ≡ (s.free || is_open cs x) = elim c.if-above.branch [
      | then-above w ↦ w.result-is ∙ (w.if-above.true ∙ ap (λ b. b || is_open cs x) (sym w.if-above.true))
      | else-above w ↦ w.result-is ∙ (w.is_open.ensures ∙ ap (λ b. b || is_open cs x) (sym w.if-above.false))
    ] in
    with_joining cs c.args.method x ms s _ i (ap (λ f. is_joining cs c.args.method f s.free x) (sym c.is_some.ensures) ∙ (sym c.is_joining.ensures ∙ c.if-is_joining.true)) is refl free

pub returns-else-is_joining : goal.returns-else-is_joining
returns-else-is_joining c = λ ms i is.
    let cs = c.args.classes.now in
    let s = c.args.above.now in
    without_joining cs c.args.method c.args.place ms s i (ap (λ f. is_joining cs c.args.method f s.free c.args.place) (sym c.is_some.ensures) ∙ (sym c.is_joining.ensures ∙ c.if-is_joining.false)) is
