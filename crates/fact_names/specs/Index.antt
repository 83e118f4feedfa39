-- Lines by the names of their methods.
use Rattle.std.specs.Prelude.{◌≡◌, ℕ, ◌<◌, ◌≤◌, List, length, Contains, Some, slice_get, slice_index_or, []}
use Rattle.loop_nest.specs.Digraph.{AreSources}
use Rattle.flow_facts.specs.declared.line.NumberedFact.{NumberedFact}
use Rattle.fact_names.specs.Found.{name_said}

-- of the first so many lines the number of one, and that of its name among some names
pub record IsNumberOf (lines : List NumberedFact) (n : ℕ) (names : List (List ℕ)) (e : ℕ × ℕ) : Type 0 where
  pub below : e.0 < n
  pub named : e.1 < length names
  pub line : NumberedFact
  pub there : slice_get lines e.0 ≡ Some line
  pub name_is : slice_index_or names e.1 [] ≡ name_said line.fact

-- no name stands twice
abbrev pub AreApart : List (List ℕ) → Type 0
AreApart names = (i j : ℕ) → i < length names → j < length names → slice_index_or names i [] ≡ slice_index_or names j [] → i ≡ j

-- the numbers of the first so many lines, each with that of its name
pub record AreNumbered (lines : List NumberedFact) (n : ℕ) (names : List (List ℕ)) (numbers : List (ℕ × ℕ)) : Type 0 where
  pub apart : AreApart names
  pub few : length names ≤ n
  pub numbers_are : (e : ℕ × ℕ) → Contains numbers e → IsNumberOf lines n names e
  pub each : (i : ℕ) → i < n → (number : ℕ) × Contains numbers (i, number)

-- names, each once, and for each a list
pub record Index : Type 0 where
  pub names : List (List ℕ)
  pub lists : List (List ℕ)

-- the names of the lines, and for each the numbers of the lines that have it
pub record IsIndexOf (lines : List NumberedFact) (x : Index) : Type 0 where
  pub numbers : List (ℕ × ℕ)
  pub numbered : AreNumbered lines (length lines) x.names numbers
  pub lists_are : AreSources numbers (length x.names) x.lists
