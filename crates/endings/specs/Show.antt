-- What a run shows.
use Rattle.std.specs.Prelude.{ℕ, ◌≤◌, Bool, List, [], ◌∷◌, length, map, codes}
use Rattle.class_pool.specs.declared.class.ClassFile.{ClassFile}
use Rattle.program_tables.specs.Numbers.{methods_by_number, method_text}
use Rattle.name_laws.specs.Written.{written}
use Rattle.image_facts.specs.declared.method.CodedMethod.{CodedMethod}
use Rattle.boundary.specs.Traces.{texts}
use Rattle.endings.specs.declared.show.Show.{Show}
use Rattle.endings.specs.declared.show.Show.TheVariants as shows
use Rattle.endings.specs.declared.show.NamedShow.{NamedShow}
use Rattle.endings.specs.declared.show.NamedShow.TheVariants as named

-- what the program puts out, or a trace, with a line for each cycle or without, in which the methods have these names by number
pub data Shown : Type 0 where
  Output : Shown
  Trace : (cycles : Bool) → (names : List (List ℕ)) → Shown

abbrev pub shown_by : NamedShow → Shown
shown_by named.Output = Output
shown_by (named.Trace cycles names) = Trace cycles (texts names.items)

-- a trace is shown
abbrev pub IsTrace : Show → Type 0
IsTrace shows.Output = ⊥
IsTrace (shows.Trace cycles) = Unit {0}

abbrev pub ShowsTrace : Shown → Type 0
ShowsTrace Output = ⊥
ShowsTrace (Trace cycles names) = Unit {0}

-- each method has a name, where they are shown
abbrev pub HaveNamesToShow : Shown → List CodedMethod → Type 0
HaveNamesToShow Output methods = Unit {0}
HaveNamesToShow (Trace cycles names) methods = length methods ≤ length names

-- one method has a name
abbrev pub HasNameToShow : Shown → Type 0
HasNameToShow Output = Unit {0}
HasNameToShow (Trace cycles names) = 1 ≤ length names

-- ---- the names

-- the one method of a bare image
abbrev pub bare_shown : Show → Shown
bare_shown shows.Output = Output
bare_shown (shows.Trace cycles) = Trace cycles (codes "boot" ∷ [])

-- what is written of the names of the methods of classes, by number
abbrev pub method_names : List ClassFile → List (List ℕ)
method_names cs = map (λ m. written (method_text cs m)) (methods_by_number cs)

abbrev pub linked_shown : List ClassFile → Show → Shown
linked_shown cs shows.Output = Output
linked_shown cs (shows.Trace cycles) = Trace cycles (method_names cs)
