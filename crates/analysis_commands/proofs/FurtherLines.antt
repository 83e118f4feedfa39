-- The lines of loops that count further by the table of a program are those of the program.
use Rattle.std.proofs.Common.{◌≡◌, ℕ, ℤ, List, Option, Some, refl, sym, ◌∙◌, ap, ap₂, subst}
use Rattle.std.specs.Prelude.{flat_map, slice_get, Result, Ok, Err, IfOk, Vec}
use Rattle.std.specs.declared.alloc.Global.{Global}
use Rattle.std.proofs.Math.Path.{fun_ext}
use Rattle.class_pool.specs.declared.class.ClassFile.{ClassFile}
use Rattle.bytecode_model.specs.Program.{Program}
use Rattle.program_tables.specs.Resolved.{resolved}
use Rattle.name_laws.specs.Written.{written_name}
use Rattle.method_flow.specs.Flow.{Coded, Flow, IsFlowOf}
use Rattle.loop_rules.specs.declared.found.FoundLoop.{FoundLoop}
use Rattle.loop_rules.specs.Sites.{Sites, AreIntSites, constants_in}
use Rattle.loop_rules.specs.Further.Known.{Known}
use Rattle.loop_rules.specs.Further.Found.{Table, only_constants}
use Rattle.loop_rules.specs.Further.Arrays.{AreApart, AreMethodArrays, AreTables, IsKnownBy}
use Rattle.loop_finder.specs.Further.{AreCountedFurther}
use Rattle.program_sites.specs.Ints.Constants.{AreConstants}
use Rattle.array_fields.specs.Lengths.{FieldLengths, known_by}
use Rattle.array_fields.specs.Laws.{KnownFieldsAreApart}
use Rattle.analysis_commands.specs.Answers.{table_name}
use Rattle.analysis_commands.specs.Loops.{found_line, AreFurtherBy, AreFurtherLines, AreFurtherLinesBy, AreTablesBy}
use Rattle.analysis_commands.proofs.Lifting.{named}

-- what is known of a program is known by its lengths of arrays
module _ (cs : List ClassFile) (f : Flow) (s : Sites) (are : AreIntSites (resolved cs) s) (apart : KnownFieldsAreApart) (plain listed : List Table) (are_listed : listed ≡ plain)
    (lengths : FieldLengths) (read told : List (List (Option ℤ))) (are_told : told ≡ read) (by_constants : (P : Program) → IsFlowOf P f → AreIntSites P s → AreTables P (only_constants (constants_in s)) plain)
    (by_puts : (constants : ℕ → Option ℤ) → AreTables (resolved cs) (only_constants constants) listed → IsKnownBy (resolved cs) constants (known_by constants lengths))
    (by_reads : (constants : ℕ → Option ℤ) → AreMethodArrays (resolved cs) (known_by constants lengths) read) where
  abbrev known : Known
  known = known_by (constants_in s) lengths

  known_is : IsFlowOf (resolved cs) f → IsKnownBy (resolved cs) (constants_in s) known
  known_is flow =
      by_puts (constants_in s) (subst (λ (ts : List Table). AreTables (resolved cs) (only_constants (constants_in s)) ts) (sym are_listed) (by_constants (resolved cs) flow are))

  reads : AreMethodArrays (resolved cs) known told
  reads = subst (λ (xss : List (List (Option ℤ))). AreMethodArrays (resolved cs) known xss) (sym are_told) (by_reads (constants_in s))

  pub tables_by : (tables : List Table)
      → ((P : Program) (known : Known) → IsFlowOf P f → AreIntSites P s → ((field : ℕ) → known.constants field ≡ constants_in s field) → AreApart known
      → AreMethodArrays P known told → AreTables P known tables)
      → AreTablesBy f cs s.constants tables
  tables_by tables h = record {
    known = known;
    is_known = known_is;
    are = λ flow. h (resolved cs) known flow are (λ field. refl) (apart (resolved cs) (constants_in s) known (known_is flow) are.never_put) reads;
  }

  pub tables_ok : {E : Type 0} (r : Result (Vec Table Global) E)
      → IfOk r (λ tables. (P : Program) (known : Known) → IsFlowOf P f → AreIntSites P s → ((field : ℕ) → known.constants field ≡ constants_in s field)
      → AreApart known → AreMethodArrays P known told → AreTables P known tables.items)
      → IfOk r (λ tables. AreTablesBy f cs s.constants tables.items)
  tables_ok (Ok tables) h = tables_by tables.items h
  tables_ok (Err e) h = tt

module _ (cs : List ClassFile) (f : Flow) (flow : IsFlowOf (resolved cs) f) (names : (m : ℕ) (k : Coded) → slice_get f.methods m ≡ Some k → k.name ≡ written_name cs m) where
  lines : (text : List ℕ) → AreFurtherLinesBy f cs text → AreFurtherLines cs text
  lines text h = record {
    constants = h.by.constants;
    are = h.by.are;
    known = h.by.known;
    is_known = h.by.is_known flow;
    found = h.found;
    counted = h.by.counted flow;
    text_is = h.text_is ∙ ap₂ (λ (name : ℕ → List ℕ) (boot : ℕ). flat_map (found_line name boot) h.found) (fun_ext (named cs f flow names)) flow.boot;
  }

  pub further_lines_ok : {E : Type 0} (r : Result (Vec ℕ Global) E) → IfOk r (λ text. AreFurtherLinesBy f cs text.items) → IfOk r (λ text. AreFurtherLines cs text.items)
  further_lines_ok (Ok text) h = lines text.items h
  further_lines_ok (Err e) h = tt

pub further_found : (f : Flow) (cs : List ClassFile) (constants : List (Option ℤ)) (tables : List Table) (found : List FoundLoop) → AreConstants cs constants
    → AreTablesBy f cs constants tables
    → ((P : Program) (known : Known) → IsFlowOf P f → AreTables P known tables → AreCountedFurther P known found)
    → AreFurtherBy f cs found
further_found f cs constants tables found are by counts = record {
  constants = constants;
  are = are;
  known = by.known;
  is_known = by.is_known;
  counted = λ flow. counts (resolved cs) by.known flow (by.are flow);
}

pub further_ok : {E : Type 0} (f : Flow) (cs : List ClassFile) (constants : List (Option ℤ)) (tables listed : List Table) (r : Result (Vec FoundLoop Global) E)
    → AreConstants cs constants → AreTablesBy f cs constants tables → listed ≡ tables
    → IfOk r (λ found. (P : Program) (known : Known) → IsFlowOf P f → AreTables P known listed → AreCountedFurther P known found.items)
    → IfOk r (λ found. AreFurtherBy f cs found.items)
further_ok f cs constants tables listed (Ok found) are by same counts =
    further_found f cs constants listed found.items are (subst (λ (ts : List Table). AreTablesBy f cs constants ts) (sym same) by) counts
further_ok f cs constants tables listed (Err e) are by same counts = tt

pub further_lines_by_ok : {E : Type 0} (f : Flow) (cs : List ClassFile) (found listed : List FoundLoop) (r : Result (Vec ℕ Global) E) → AreFurtherBy f cs found → listed ≡ found
    → IfOk r (λ text. text.items ≡ flat_map (found_line (table_name f) f.boot) listed) → IfOk r (λ text. AreFurtherLinesBy f cs text.items)
further_lines_by_ok f cs found listed (Ok text) by same is = record { found = found; by = by; text_is = is ∙ ap (flat_map (found_line (table_name f) f.boot)) same }
further_lines_by_ok f cs found listed (Err e) by same is = tt
