-- The lines of loops by the table of a program are those of the program.
use Rattle.std.proofs.Common.{◌≡◌, ℕ, ℤ, List, Option, Some, ◌∙◌, ap, ap₂}
use Rattle.std.specs.Prelude.{flat_map, slice_get, Result, Ok, Err, IfOk, Vec}
use Rattle.std.specs.declared.alloc.Global.{Global}
use Rattle.std.proofs.Math.Path.{fun_ext}
use Rattle.class_pool.specs.declared.class.ClassFile.{ClassFile}
use Rattle.program_tables.specs.Resolved.{resolved}
use Rattle.name_laws.specs.Written.{written_name}
use Rattle.method_flow.specs.Flow.{Coded, Flow, IsFlowOf}
use Rattle.loop_rules.specs.declared.found.FoundLoop.{FoundLoop}
use Rattle.loop_rules.specs.Finding.{AreCountedLoops}
use Rattle.loop_rules.specs.Sites.{int_at}
use Rattle.program_sites.specs.Ints.Constants.{AreConstants}
use Rattle.analysis_commands.specs.Answers.{table_name}
use Rattle.analysis_commands.specs.Loops.{found_line, AreLoopLines, AreLoopLinesBy}
use Rattle.analysis_commands.proofs.Lifting.{named}

module _ (cs : List ClassFile) (f : Flow) (flow : IsFlowOf (resolved cs) f) (names : (m : ℕ) (k : Coded) → slice_get f.methods m ≡ Some k → k.name ≡ written_name cs m) where
  lines : (text : List ℕ) → AreLoopLinesBy f cs text → AreLoopLines cs text
  lines text h = record {
    constants = h.constants;
    are = h.are;
    found = h.found;
    counted = h.counted flow;
    text_is = h.text_is ∙ ap₂ (λ (name : ℕ → List ℕ) (boot : ℕ). flat_map (found_line name boot) h.found) (fun_ext (named cs f flow names)) flow.boot;
  }

  pub lines_ok : {E : Type 0} (r : Result (Vec ℕ Global) E) → IfOk r (λ text. AreLoopLinesBy f cs text.items) → IfOk r (λ text. AreLoopLines cs text.items)
  lines_ok (Ok text) h = lines text.items h
  lines_ok (Err e) h = tt

pub found_ok : {E : Type 0} (f : Flow) (cs : List ClassFile) (constants : List (Option ℤ)) (found listed : List FoundLoop) (r : Result (Vec ℕ Global) E) → AreConstants cs constants
    → (IsFlowOf (resolved cs) f → AreCountedLoops (resolved cs) (int_at constants) found) → listed ≡ found → IfOk r (λ text. text.items ≡ flat_map (found_line (table_name f) f.boot) listed) → IfOk r (λ text. AreLoopLinesBy f cs text.items)
found_ok f cs constants found listed (Ok text) are counted same is =
    record { constants = constants; are = are; found = found; counted = counted; text_is = is ∙ ap (flat_map (found_line (table_name f) f.boot)) same }
found_ok f cs constants found listed (Err e) are counted same is = tt
