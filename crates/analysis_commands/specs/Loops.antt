-- What `loops` finds of a program: the lines that bound its loops that count.
use Rattle.std.specs.Prelude.{◌≡◌, ℕ, ◌==◌, ℤ, List, [], Option, flat_map, if◌then◌else◌}
use Rattle.class_pool.specs.declared.class.ClassFile.{ClassFile}
use Rattle.program_tables.specs.Resolved.{resolved}
use Rattle.method_flow.specs.Flow.{Flow, IsFlowOf}
use Rattle.loop_rules.specs.declared.found.FoundLoop.{FoundLoop}
use Rattle.loop_rules.specs.Finding.{AreCountedLoops}
use Rattle.loop_rules.specs.Sites.{int_at}
use Rattle.loop_rules.specs.Further.Known.{Known}
use Rattle.loop_rules.specs.Further.Found.{Table}
use Rattle.loop_rules.specs.Further.Arrays.{AreTables, IsKnownBy}
use Rattle.loop_finder.specs.Further.{AreCountedFurther}
use Rattle.program_sites.specs.Ints.Constants.{AreConstants}
use Rattle.answer_lines.specs.LoopLine.{loop_line}
use Rattle.analysis_commands.specs.Analysis.{named_or_number}
use Rattle.analysis_commands.specs.Answers.{table_name}

-- the line of a loop that is found; none of the method that is run first
abbrev pub found_line : (name : ℕ → List ℕ) → (boot : ℕ) → FoundLoop → List ℕ
found_line name boot x = if x.method == boot then [] else loop_line (name x.method) x.place x.bound

-- the lines of the program's loops that count, methods and places rising; limits are constants of static final ints that nothing writes, too
pub record AreLoopLines (cs : List ClassFile) (text : List ℕ) : Type 0 where
  pub constants : List (Option ℤ)
  pub are : AreConstants cs constants
  pub found : List FoundLoop
  pub counted : AreCountedLoops (resolved cs) (int_at constants) found
  pub text_is : text ≡ flat_map (found_line (named_or_number cs) (resolved cs).boot) found

-- the same by the table of a program
pub record AreLoopLinesBy (f : Flow) (cs : List ClassFile) (text : List ℕ) : Type 0 where
  pub constants : List (Option ℤ)
  pub are : AreConstants cs constants
  pub found : List FoundLoop
  pub counted : IsFlowOf (resolved cs) f → AreCountedLoops (resolved cs) (int_at constants) found
  pub text_is : text ≡ flat_map (found_line (table_name f) f.boot) found

-- ---- with what is known further

-- The lines of the program's loops that count with what is known further, methods and places rising: limits and first values are ints that lines push,
-- with constants of static final ints that nothing writes and with the lengths of arrays that fields hold.
pub record AreFurtherLines (cs : List ClassFile) (text : List ℕ) : Type 0 where
  pub constants : List (Option ℤ)
  pub are : AreConstants cs constants
  pub known : Known
  pub is_known : IsKnownBy (resolved cs) (int_at constants) known
  pub found : List FoundLoop
  pub counted : AreCountedFurther (resolved cs) known found
  pub text_is : text ≡ flat_map (found_line (named_or_number cs) (resolved cs).boot) found

-- what lines push of the program with a table, with the arrays of fields
pub record AreTablesBy (f : Flow) (cs : List ClassFile) (constants : List (Option ℤ)) (tables : List Table) : Type 0 where
  pub known : Known
  pub is_known : IsFlowOf (resolved cs) f → IsKnownBy (resolved cs) (int_at constants) known
  pub are : IsFlowOf (resolved cs) f → AreTables (resolved cs) known tables

-- so the loops that count
pub record AreFurtherBy (f : Flow) (cs : List ClassFile) (found : List FoundLoop) : Type 0 where
  pub constants : List (Option ℤ)
  pub are : AreConstants cs constants
  pub known : Known
  pub is_known : IsFlowOf (resolved cs) f → IsKnownBy (resolved cs) (int_at constants) known
  pub counted : IsFlowOf (resolved cs) f → AreCountedFurther (resolved cs) known found

-- and their lines
pub record AreFurtherLinesBy (f : Flow) (cs : List ClassFile) (text : List ℕ) : Type 0 where
  pub found : List FoundLoop
  pub by : AreFurtherBy f cs found
  pub text_is : text ≡ flat_map (found_line (table_name f) f.boot) found
