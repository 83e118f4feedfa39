use Rattle.std.proofs.Common.{◌≡◌, ℕ, ◌<◌, ◌^◌, ◌-◌, map}
use Rattle.bytecode_typing.specs.Types.{substituted}
use Rattle.verifier_types.specs.Locals.{HasListsOf, lists_seen, locals_seen}
use Rattle.verifier_types.specs.Seen.{type_seen}
use Rattle.verifier_types.proofs.SubstitutedLemmas.{IsFixed}
use Rattle.verifier_types.proofs.locals.Locals.substitute.Given as goal

abbrev pub invariant-loop-index : goal.invariant-loop-index
invariant-loop-index l = record {
  lists : HasListsOf l.fn.lists l.lists;
  passed : (i : ℕ) → i < l.from → IsFixed (locals_seen (lists_seen l.lists) l.self) (type_seen l.old) (type_seen l.new) i;
  same : map (substituted (type_seen l.old) (type_seen l.new)) (locals_seen (lists_seen l.lists) l.self)
      ≡ map (substituted (type_seen l.old) (type_seen l.new)) (locals_seen (lists_seen l.fn.lists) l.fn.self);
}

abbrev pub decreases-loop-index : goal.decreases-loop-index
decreases-loop-index l = 2 ^ 17 - l.from
