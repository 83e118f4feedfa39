use Rattle.std.proofs.Common.{◌≡◌, take, Some, None}
use Rattle.std.specs.Prelude.{slice_get, if◌then◌else◌}
use Rattle.std.specs.List.{filter_map}
use Rattle.lists.specs.Lists.{onto}
use Rattle.class_lookup.specs.Parts.{name_of}
use Rattle.program_resolution.specs.Linked.{is_initialized}
use Rattle.program_resolution.proofs.initialization.initialized.Given as goal

abbrev pub invariant-loop-class : goal.invariant-loop-class
invariant-loop-class l = l.names.items ≡ filter_map (λ c. onto (slice_get l.classes c) (λ k. if is_initialized k then Some (name_of k) else None)) (take l.class-index l.class-items)
