-- What is found of an instruction: JVM Specification SE 8, 4.10.1.6.
-- For contracts within this crate alone: no public contract's meaning rests on this file.
use Rattle.std.specs.Prelude.{if◌then◌else◌, Some, None}
use Rattle.bytecode_typing.specs.Types as typing
use Rattle.bytecode_typing.specs.Walk as walk
use Rattle.verifier_types.specs.Site.{rule_seen}
use Rattle.bytecode_verifier.specs.declared.settle.Verdict.{Verdict}
use Rattle.bytecode_verifier.specs.declared.settle.Verdict.TheVariants.{Breaks, Passes}

-- with the frames before it and behind it
abbrev pub verdict_seen : Verdict → (before after : typing.TypeFrame) → walk.Verdict
verdict_seen (Breaks rule) before after = walk.Breaks (rule_seen rule)
verdict_seen (Passes falls) before after = walk.Passes before (if falls then Some after else None)
