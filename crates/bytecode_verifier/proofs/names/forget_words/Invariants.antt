use Rattle.std.proofs.Common.{◌≡◌, ◌≤◌, List, length, take}
use Rattle.bytecode_typing.specs.Types.{VarType}
use Rattle.verifier_types.specs.Locals.{HasListsOf, filled}
use Rattle.bytecode_verifier.specs.Listed.{IsListed}
use Rattle.bytecode_verifier.proofs.names.forget_words.Given as goal

abbrev pub invariant-loop-index : goal.invariant-loop-index
invariant-loop-index l =
    (l.index ≤ l.fn.end) × HasListsOf l.initial.lists l.lists
    × ((words : List VarType) → length words ≤ l.initial.lists.max_locals → length words ≡ l.fn.end → l.fn.from ≤ l.fn.end → (l.fn.from ≤ l.index) × (IsListed l.initial.lists l.fn.list (filled l.initial.lists.max_locals words) → IsListed l.lists l.now (filled l.initial.lists.max_locals (take l.index words))))

abbrev pub decreases-loop-index : goal.decreases-loop-index
decreases-loop-index l = l.index
