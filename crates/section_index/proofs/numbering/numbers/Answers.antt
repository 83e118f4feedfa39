use Rattle.std.proofs.Common.{ℕ, Vec, Global, Bool, not, ap, ◌∙◌}
use Rattle.section_index.specs.Numbering.{AreNodes, AreNumbers}
use Rattle.section_check.specs.Least.{IsMemberBeyond}
use Rattle.section_index.proofs.Ranks.{nodes_are_numbers, ok_then, none_is_least}
use Rattle.section_index.proofs.numbering.numbers.Goals as goal

pub returns-then-is_none : goal.returns-then-is_none
returns-then-is_none c =
    let ls = c.args.loops.now in
    let n = c.args.nodes in
    let none = none_is_least (IsMemberBeyond n ls) c.first_member_beyond.result (c.is_none.ensures ∙ ap (λ (b : Bool). not b) c.if-is_none.true) c.first_member_beyond.ensures in
    ok_then c.all_nodes.result (λ (v : Vec ℕ Global). AreNodes n v.items) (λ (v : Vec ℕ Global). AreNumbers ls v.items) (λ v are. nodes_are_numbers ls n v.items are none) c.all_nodes.ensures
