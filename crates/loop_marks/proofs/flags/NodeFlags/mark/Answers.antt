use Rattle.std.proofs.Common.{◌≡◌, ℕ, ◌-◌, ◌++◌, ◌≤◌, true, false, replicate, set, sym, ap, ◌∙◌, subst}
use Rattle.loop_marks.specs.Flags.{Flags}
use Rattle.loop_marks.proofs.Flagging.{flags_are, set_in_span}
use Rattle.loop_marks.proofs.flags.NodeFlags.mark.Goals as goal

pub returns : goal.returns
returns c =
    let s = c.args.self.now in
    let x = c.args.node in
    let first = c.self.inside.first in
    let kept = c.self.inside.flags.items in
    let same : first ≡ s.first = ap (λ (f : Flags). f.first) c.self.view_is in
    let below : first ≤ x = subst (λ (n : ℕ). n ≤ x) (sym same) c.requires.first in
    flags_are (record { first = first; items = replicate first false ++ set kept (x - first) true }) (record { first = s.first; items = set s.items x true }) same
    (sym (set_in_span first x kept true below) ∙ ap (λ (f : Flags). set f.items x true) c.self.view_is)
