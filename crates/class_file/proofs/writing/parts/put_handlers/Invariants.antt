use Rattle.std.proofs.Common.{◌≡◌, ◌++◌, length, take}
use Rattle.std.specs.List.{flat_map}
use Rattle.class_pool.specs.Spelling.{u2}
use Rattle.class_pool.specs.ClassSpelling.{handler_bytes}
use Rattle.class_file.proofs.writing.parts.put_handlers.Given as goal

abbrev pub invariant-loop-h : goal.invariant-loop-h
invariant-loop-h l = l.out.items ≡ l.fn.out.items ++ (u2 (length l.handlers) ++ flat_map handler_bytes (take l.h-index l.handlers))
