-- What `memory` tells suffices.
use Rattle.memory_laws.specs.Laws.{StackNeedSuffices, HeapNeedSuffices}
use Rattle.program_tables.specs.Resolved.{resolved}
use Rattle.analysis_commands.specs.Analysis.{bounds_of}
use Rattle.jop_cli.specs.promises.Memory.{NeedsSuffice}

pub needs_suffice : StackNeedSuffices → HeapNeedSuffices → NeedsSuffice
needs_suffice stack heap cs bounds_text sizes_text need is types limits input boot n runs = (
  λ room stands. stack (resolved cs) types limits input boot need.stack n runs is.is.stack room stands,
  λ room kept stands. heap (resolved cs) types limits (bounds_of cs is.given.bounds) (bounds_of cs is.given.lengths) input boot need.heap n runs is.is.lengths_are is.is.heap room kept stands,
)
