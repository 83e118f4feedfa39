-- Tables of the ints, and of the arrays by their lengths, that lines of a method push.
use Rattle.std.specs.Prelude.{◌≡◌, ◌↔◌, ℕ, ℤ, pos, List, Some, None, slice_index_or}
use Rattle.std.specs.declared.option.Option.{Option}
use Rattle.bytecode_model.specs.Program.{Program}
use Rattle.method_flow.specs.Nodes.{At, IsEdge, IsReached}
use Rattle.code_lines.specs.Lines.{IsNamed}
use Rattle.loop_rules.specs.Further.Known.{Known, Pushes, PushesArray}
use Rattle.loop_rules.specs.declared.further.table.KnownInt.{KnownInt}

-- where nothing is known of fields but constants
abbrev pub only_constants : ((field : ℕ) → Option ℤ) → Known
only_constants constants = record { constants = constants; statics = λ f. None; fields = λ owner index. None }

-- by the place behind them, the first of the lines that push an int and the int
abbrev pub known_at : List (Option KnownInt) → (place : ℕ) → Option KnownInt
known_at xs p = slice_index_or xs p None

-- control comes to the place from the line before it alone
pub record IsFollowing (P : Program) (m p : ℕ) : Type 0 where
  pub reached : IsReached (IsEdge P m) (At p)
  pub unnamed : ¬ IsNamed P m p

-- ---- what is known

-- just the ints that lines push, to whose end control comes from the line before it alone
abbrev pub AreKnownInts : Program → Known → (method : ℕ) → List (Option KnownInt) → Type 0
AreKnownInts P known m ints = (p : ℕ) (x : KnownInt) → (known_at ints p ≡ Some x) ↔ (IsFollowing P m p × Pushes P known m x.from p x.value)

-- just the lengths of the arrays that lines push
abbrev pub AreKnownLengths : Program → Known → (method : ℕ) → List (Option KnownInt) → Type 0
AreKnownLengths P known m lengths =
    (p : ℕ) (x : KnownInt) → (known_at lengths p ≡ Some x) ↔ (IsFollowing P m p × (n : ℕ) × (x.value ≡ pos n) × PushesArray P known m x.from p n)

-- what is found of a method
pub record Table : Type 0 where
  pub ints : List (Option KnownInt)
  pub lengths : List (Option KnownInt)
