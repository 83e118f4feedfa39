use Rattle.std.proofs.Common.{◌-◌, ◌++◌, List, Bool, false, replicate, refl, ap, ◌∙◌, arith}
use Rattle.loop_marks.proofs.Flagging.{flags_are, none_in_span}
use Rattle.loop_marks.proofs.flags.NodeFlags.new.Goals as goal

pub returns : goal.returns
returns c =
    let first = c.args.first in
    let end = c.args.end in
    let le = c.requires in
    let none = c.in_ok-flags.ensures.items_if_clones_equal (λ y h. h) in
    flags_are (record { first = first; items = replicate first false ++ c.in_ok-flags.flags.items }) (record { first = first; items = replicate end false }) refl
    (ap (λ (flags : List Bool). replicate first false ++ flags) none ∙ none_in_span first (end - first) end (omega arith))
