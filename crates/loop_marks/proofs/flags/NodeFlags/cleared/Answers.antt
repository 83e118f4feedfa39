use Rattle.std.proofs.Common.{◌≡◌, ◌++◌, List, Bool, false, length, replicate, ap, ◌∙◌, arith}
use Rattle.loop_marks.specs.Flags.{Flags}
use Rattle.loop_marks.proofs.Flagging.{flags_are, none_in_span, span_long}
use Rattle.loop_marks.proofs.flags.NodeFlags.cleared.Goals as goal

pub returns : goal.returns
returns c =
    let s = c.args.self.now in
    let first = c.self.inside.first in
    let kept = c.self.inside.flags.items in
    let same : first ≡ s.first = ap (λ (f : Flags). f.first) c.self.view_is in
    let long = span_long first kept in
    let whole : length (replicate first false ++ kept) ≡ length s.items = ap (λ (f : Flags). length f.items) c.self.view_is in
    let none = c.in_ok-flags.ensures.items_if_clones_equal (λ y h. h) in
    let count = c.self.inside.flags.ok.0 in
    let told = c.len.ensures in
    flags_are (record { first = first; items = replicate first false ++ c.in_ok-flags.flags.items }) (record { first = s.first; items = replicate (length s.items) false }) same
    (ap (λ (flags : List Bool). replicate first false ++ flags) none ∙ none_in_span first c.len.result (length s.items) (omega arith))
