use Rattle.std.proofs.Common.{◌≡◌, take, None}
use Rattle.std.specs.Prelude.{find}
use Rattle.class_pool.specs.Utf8.{utf8_bytes}
use Rattle.class_lookup.specs.Parts.{same_text, name_of}
use Rattle.program_resolution.proofs.main_class.main_class.Given as goal

abbrev pub invariant-loop-class : goal.invariant-loop-class
invariant-loop-class l = find (λ k. same_text (utf8_bytes (name_of k)) l.main) (take l.class-index l.files) ≡ None
