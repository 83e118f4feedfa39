use Rattle.std.proofs.Common.{◌≤◌, List, length, map}
use Rattle.class_pool.specs.declared.entry.Entry.{Entry}
use Rattle.frame_types.specs.declared.types.VarType.{VarType}
use Rattle.frame_types.specs.Extents.{entry_named, AreLocals}
use Rattle.frame_types.proofs.StepLemmas.{SoFar}
use Rattle.frame_types.proofs.mapping.steps_from.Given as goal

abbrev pub invariant-loop-entry : goal.invariant-loop-entry
invariant-loop-entry l = record {
  so_far : (pool : List Entry) (ls : List VarType) → AreLocals l.code ls l.initial.extents.items → SoFar pool l.code (map (entry_named pool) l.fn.entries.items) ls l.next (length l.yielded) l.extents.items l.at.items;
  small : l.next ≤ 33554432;
}
