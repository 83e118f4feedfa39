-- The frames of a method, and why it has none, in the standard's own words: JVM Specification SE 8, 4.7.4 and 4.10.1.6.
-- Local variables are counted here as a StackMapTable counts them: a Long is one type, which takes two of them.
use Rattle.std.specs.Prelude.{◌≡◌, ℕ, ◌+◌, ◌-◌, ◌<◌, ◌≤◌, true, false, List, [], ◌∷◌, ◌++◌, length, replicate, Some, None, Contains}
use Rattle.std.specs.List.{list_any}
use Rattle.bytecode_model.specs.Slots.{spread}
use Rattle.class_pool.specs.declared.class.Code.{Code}
use Rattle.class_pool.specs.declared.class.Member.{Member}
use Rattle.class_pool.specs.declared.class.ClassFile.{ClassFile}
use Rattle.frame_types.specs.declared.types.VarType.{VarType}
use Rattle.frame_types.specs.declared.types.VarType.TheVariants.{Top, Uninitialized}
use Rattle.frame_types.specs.declared.types.TypeFrame.{TypeFrame}
use Rattle.frame_types.specs.declared.types.Frames.{Frames}
use Rattle.frame_types.specs.declared.read.Change.{Change}
use Rattle.frame_types.specs.declared.read.Change.TheVariants.{Same, OneItem, Chop, Append, Full}
use Rattle.frame_types.specs.declared.read.MapEntry.{MapEntry}
use Rattle.frame_types.specs.Types.{is_long, stack_words, is_this, is_start, is_new}
use Rattle.frame_types.specs.Table.{entries_of}
use Rattle.frame_types.specs.Locals.{first_locals}

-- ---- an entry

-- what each kind of entry makes of the local variables before it: those behind it, and the operand stack
abbrev pub Changes : Change → (before after stack : List VarType) → Type 0
Changes Same before after stack = (after ≡ before) × (stack ≡ [])
Changes (OneItem item) before after stack = (after ≡ before) × (stack ≡ item ∷ [])
Changes (Chop n) before after stack = ((gone : List VarType) × (before ≡ after ++ gone) × (length gone ≡ n)) × (stack ≡ [])
Changes (Append more) before after stack = (after ≡ before ++ more) × (stack ≡ [])
Changes (Full all operands) before after stack = (after ≡ all) × (stack ≡ operands)

-- the frame of these local variables and this operand stack: a Long is followed by Top, and Top fills the local variables that are left
pub record IsFrame (k : Code) (types operands : List VarType) (f : TypeFrame) : Type 0 where
  pub room : stack_words types ≤ k.max_locals
  pub locals : f.locals ≡ spread is_long Top types ++ replicate (k.max_locals - stack_words types) Top
  pub stack : f.stack ≡ operands
  pub flag : f.flag ≡ list_any is_this types

-- ---- rule `map`

-- a type among these names a place at which there is no `new`
abbrev pub NamesNoNew : (code : List ℕ) → List VarType → Type 0
NamesNoNew code types = (place : ℕ) × Contains types (Uninitialized place) × (is_new code place ≡ false)

-- why local variables and an operand stack make no frame
pub data HasNoFrame (k : Code) (locals stack : List VarType) : Type 0 where
  TooManyLocals : k.max_locals < stack_words locals → HasNoFrame k locals stack
  TooDeep : k.max_stack < stack_words stack → HasNoFrame k locals stack
  NoNew : NamesNoNew k.code (locals ++ stack) → HasNoFrame k locals stack

-- why an entry at a place gives none, where these are the local variables before it: no instruction begins there, it takes away absent ones, or what
-- it makes has no frame
pub data BreaksEntry (k : Code) (place : ℕ) (change : Change) (before : List VarType) : Type 0 where
  NoInstruction : is_start k.code place ≡ false → BreaksEntry k place change before
  TakesAbsent : (n : ℕ) → change ≡ Chop n → length before < n → BreaksEntry k place change before
  NoFrame : (after stack : List VarType) → Changes change before after stack → HasNoFrame k after stack → BreaksEntry k place change before

-- ---- all entries

-- The entries give these frames: the first stands at its offset from `next`, each later one at its offset from the place behind the one before. What
-- is left behind them is the least place of a further entry, and the local variables before it.
abbrev pub Give : Code → (next : ℕ) → (locals : List VarType) → List MapEntry → List (ℕ × TypeFrame) → (left : ℕ × List VarType) → Type 0
Give k next locals [] [] left = (next, locals) ≡ left
Give k next locals (e ∷ es) (x ∷ xs) left =
    (x.0 ≡ next + e.offset) × (is_start k.code x.0 ≡ true)
    × ((after : List VarType) × (stack : List VarType) × Changes e.change locals after stack × (HasNoFrame k after stack → ⊥) × IsFrame k after stack x.1
    × Give k (x.0 + 1) after es xs left)
Give k next locals es xs left = ⊥

-- the entries before one give frames, and it gives none at its place
pub record BreakAt (k : Code) (next : ℕ) (locals : List VarType) (entries : List MapEntry) (place : ℕ) : Type 0 where
  pub before : List MapEntry
  pub here : MapEntry
  pub after : List MapEntry
  pub are : entries ≡ before ++ here ∷ after
  pub frames : List (ℕ × TypeFrame)
  pub left : ℕ × List VarType
  pub given : Give k next locals before frames left
  pub stands : place ≡ left.0 + here.offset
  pub breaks : BreaksEntry k place here.change left.1

-- The rule `map` fails at this place: the StackMapTable is no list of frames; a parameter has no type here; the first frame passes the method's local
-- variables; or an entry gives no frame.
pub data BreaksMap (c : ClassFile) (m : Member) (k : Code) (place : ℕ) : Type 0 where
  NoTable : place ≡ 0 → entries_of c.pool k ≡ None → BreaksMap c m k place
  NoTypes : place ≡ 0 → first_locals c m ≡ None → BreaksMap c m k place
  NoFirst : (locals : List VarType) → place ≡ 0 → first_locals c m ≡ Some locals → k.max_locals < stack_words locals → BreaksMap c m k place
  NoEntry : (entries : List MapEntry) (locals : List VarType) → entries_of c.pool k ≡ Some entries → first_locals c m ≡ Some locals
      → stack_words locals ≤ k.max_locals → BreakAt k 0 locals entries place → BreaksMap c m k place

-- the frames of the method
pub record GivesFrames (c : ClassFile) (m : Member) (k : Code) (f : Frames) : Type 0 where
  pub entries : List MapEntry
  pub locals : List VarType
  pub entries_are : entries_of c.pool k ≡ Some entries
  pub locals_are : first_locals c m ≡ Some locals
  pub first : IsFrame k locals [] f.first
  pub left : ℕ × List VarType
  pub at : Give k 0 locals entries f.at left
