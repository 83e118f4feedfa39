-- What lines push, of all methods of a program.
use Rattle.std.specs.Prelude.{◌≡◌, ℕ, ◌<◌, ℤ, [], List, length, Some, slice_get, slice_index_or}
use Rattle.std.specs.declared.option.Option.{Option}
use Rattle.bytecode_model.specs.Program.{Program}
use Rattle.method_flow.specs.Flow.{Flow, IsFlowOf}
use Rattle.loop_rules.specs.Sites.{Sites, AreIntSites, constants_in}
use Rattle.loop_rules.specs.Further.Known.{Known}
use Rattle.loop_rules.specs.Further.Found.{Table, AreKnownInts, AreKnownLengths}
use Rattle.loop_rules.specs.Further.Arrays.{AreApart, AreArraysRead}

-- by place, the lengths of arrays that are told of a method; where none are, the empty list
abbrev pub arrays_of : List (List (Option ℤ)) → (method : ℕ) → List (Option ℤ)
arrays_of xss m = slice_index_or xss m []

-- These methods with code are the program's, and these ints; what is known of static fields that are ints are their constants, and the lengths are just those
-- of the arrays of fields that each method reads.
pub record AreTold (P : Program) (known : Known) (f : Flow) (s : Sites) (xss : List (List (Option ℤ))) : Type 0 where
  pub flow : IsFlowOf P f
  pub sites : AreIntSites P s
  pub constants : (field : ℕ) → known.constants field ≡ constants_in s field
  pub apart : AreApart known
  pub arrays : (m : ℕ) → m < length f.methods → AreArraysRead P known m (arrays_of xss m)

-- what is found of a method is just what its lines push
pub record IsTableOf (P : Program) (known : Known) (m : ℕ) (t : Table) : Type 0 where
  pub ints : AreKnownInts P known m t.ints
  pub lengths : AreKnownLengths P known m t.lengths

-- so of so many methods
pub record AreTablesBelow (P : Program) (known : Known) (count : ℕ) (ts : List Table) : Type 0 where
  pub long : length ts ≡ count
  pub each : (m : ℕ) (t : Table) → slice_get ts m ≡ Some t → IsTableOf P known m t
