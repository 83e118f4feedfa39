use Rattle.std.proofs.Common.{◌≡◌, ◌++◌, [], ap, ◌∙◌, rules}
use Rattle.bytecode_model.specs.Slots.{padded}
use Rattle.bytecode_typing.specs.Types.{Top}
use Rattle.bytecode_typing.specs.Walk.{begins_uninitialized}
use Rattle.verifier_types.specs.Frame.{operands_seen}
use Rattle.verifier_types.specs.Locals.{locals_seen, filled}
use Rattle.bytecode_verifier.specs.Begun.{first_kinds}
use Rattle.bytecode_verifier.specs.Listed.{words_of}
use Rattle.bytecode_verifier.proofs.FirstLemmas.{first_seen}
use Rattle.bytecode_verifier.proofs.first.first_frame.Goals as goal

pub returns : goal.returns
returns c = λ t m b more shape room h.
    let ls = t.lists ++ more in
    let words = words_of (first_kinds m) in
    let empty : operands_seen c.new-operands.result ≡ [] = search rules in
    first_seen ls c.args.locals.now.list (padded Top b.max_locals words) (filled t.max_locals words) (locals_seen ls c.new-locals.result) (operands_seen c.new-operands.result) c.begins_uninitialized-flag.result (begins_uninitialized m)
    (ap (λ n. padded Top n words) room ∙ c.what_has_room_is_filled.ensures t.max_locals words h.fits) (h.list more) (c.new-locals.ensures ls) empty (c.begins_uninitialized-flag.ensures m shape)
