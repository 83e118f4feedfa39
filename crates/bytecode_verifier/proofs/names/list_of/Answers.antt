use Rattle.std.proofs.Common.{◌≤◌, ◌++◌, length, Some, sym, ap, ◌∙◌, arith}
use Rattle.std.specs.Prelude.{slice_get}
use Rattle.std.proofs.lemmas.List.{length-map}
use Rattle.frame_types.proofs.LocalLemmas.{padded_past}
use Rattle.bytecode_model.specs.Slots.{padded}
use Rattle.bytecode_typing.specs.Types.{Top}
use Rattle.verifier_types.specs.Locals.{LocalTable, filled}
use Rattle.verifier_types.specs.Seen.{type_seen, types_seen}
use Rattle.bytecode_verifier.proofs.ListedLemmas.{lists_again, lists_with, listed_last}
use Rattle.bytecode_verifier.proofs.names.list_of.Goals as goal

pub returns-then-types-count-clause-lists : goal.returns-then-types-count-clause-lists
returns-then-types-count-clause-lists c = lists_again c.args.lists.now

pub returns-then-types-count-clause-list : goal.returns-then-types-count-clause-list
returns-then-types-count-clause-list c =
    let long = c.if-types-count.true in
    let items = types_seen c.args.types.now in
    ap (λ n. padded Top n items) (sym c.from-count.ensures) ∙ padded_past Top c.from-count.result items (let same = length-map c.args.types.now type_seen in omega (arith, long, same))

pub returns-clause-lists : goal.returns-clause-lists
returns-clause-lists c = lists_with c.args.lists.now c.push.new.self (filled c.args.lists.now.max_locals (types_seen c.args.types.now)) c.in_ok-list.ensures.list

pub returns-clause-list : goal.returns-clause-list
returns-clause-list c =
    let t = c.args.lists.now in
    let items = types_seen c.args.types.now in
    let short = c.if-types-count.false in
    let from = c.from-count.ensures in
    let same = length-map c.args.types.now type_seen in
    let fits : length items ≤ c.args.max_locals = omega (arith, short, from, same) in (
      filled c.args.max_locals items,
      c.what_has_room_is_filled.ensures c.args.max_locals items fits,
      λ more. ap (λ (u : LocalTable). slice_get (u.lists ++ more) c.in_ok-list.list) c.in_ok-list.ensures.list
          ∙ (listed_last t c.in_ok-list.list (filled t.max_locals items) c.in_ok-list.ensures.number more ∙ ap (λ m. Some (filled m items)) c.requires),
    )
