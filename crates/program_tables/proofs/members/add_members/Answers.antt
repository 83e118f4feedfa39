use Rattle.std.proofs.Common.{◌<◌, ◌++◌, List, length, take_all, sym, ap, ◌∙◌, arith}
use Rattle.std.proofs.lemmas.Option.{get_or_from_slice_get}
use Rattle.class_lookup.specs.Lookup.{Place}
use Rattle.program_tables.specs.Members.{members_in, own_members}
use Rattle.program_tables.proofs.MemberLemmas.{all_own, next_class, all_chosen}
use Rattle.program_tables.proofs.members.add_members.Goals as goal

pub loop-number-preserved : goal.loop-number-preserved
loop-number-preserved c =
    let w = c.args.which in
    let i = c.loop-number.number in
    let cs = c.args.classes.now in
    let k = c.class.result.now in
    let lt : i < length cs = omega arith in
    c.in_ok-add_own.ensures
    ∙ (ap (λ (xs : List Place). xs ++ own_members w i 0 (members_in w k)) c.loop-number.invariant
    ∙ next_class w i cs k c.args.places.now.items lt (sym (get_or_from_slice_get cs i k k c.class.ensures)))

pub returns : goal.returns
returns c =
    let w = c.args.which in
    let cs = c.args.classes.now in
    c.loop-number.invariant
    ∙ ap (λ (xs : List Place). c.args.places.now.items ++ xs) (ap (all_own w 0) (take_all c.loop-number.number cs (omega arith)) ∙ all_chosen w cs)
