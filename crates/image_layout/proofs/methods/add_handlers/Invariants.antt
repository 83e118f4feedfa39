use Rattle.std.proofs.Common.{◌≡◌, ◌++◌, Some, take}
use Rattle.std.specs.Prelude.{slice_get}
use Rattle.std.specs.List.{flat_map}
use Rattle.class_pool.specs.declared.class.ClassFile.{ClassFile}
use Rattle.image_facts.specs.Says.{handler_words}
use Rattle.program_tables.specs.Resolved.{handler_of, resolved}
use Rattle.image_layout.proofs.methods.add_handlers.Given as goal

abbrev pub invariant-loop-entry : goal.invariant-loop-entry
invariant-loop-entry l =
    (k : ClassFile) → slice_get l.program l.class ≡ Some k
    → l.words.items ≡ l.fn.words.items ++ flat_map (λ e. handler_words (resolved l.program) (handler_of l.program k e)) (take l.entry-index l.entries)
