-- Ints that are known where they are pushed, by one line or by several (JVM Specification SE 8, 6.5): constants, local variables into which only one int is
-- stored, lengths of arrays, and what is computed of such.
use Rattle.std.specs.Prelude.{◌≡◌, ℕ, ℤ, pos, [], ◌∷◌, List, Some}
use Rattle.std.specs.Int.{w32, int_wrap}
use Rattle.std.specs.declared.option.Option.{Option}
use Rattle.bytecode_model.specs.declared.Value.{Value}
use Rattle.bytecode_model.specs.declared.Value.TheVariants.{Int}
use Rattle.bytecode_model.specs.Types.{NumberType, IntType, Kind, Numbers, References}
use Rattle.bytecode_model.specs.Program.{Program}
use Rattle.bytecode_model.specs.Rows as rows
use Rattle.method_flow.specs.Nodes.{At}
use Rattle.code_lines.specs.Lines.{IsLine, IsNamed, IsNeverPut}
use Rattle.loop_rules.specs.Further.Writing.{MayBeLast}

-- What is known of fields: static final ints by their numbers, with their constants (4.7.2); static fields that hold null or an array of so many elements;
-- and instance fields that do, by the class that declares them and their index among the fields of its instances.
pub record Known : Type 0 where
  pub constants : (field : ℕ) → Option ℤ
  pub statics : (field : ℕ) → Option ℕ
  pub fields : (owner index : ℕ) → Option ℕ

mutual
  -- The lines from one place on, up to another, push this int; nothing names a place between them, so that control comes through all of them.
  pub data Pushes (P : Program) (known : Known) (m : ℕ) : (from to : ℕ) → ℤ → Type 0 where
    constant : {p next : ℕ} {c : ℤ} → IsLine P m p next (rows.Push (Int c)) → Pushes P known m p next c
    field : {p next f : ℕ} {c : ℤ} → IsLine P m p next (rows.GetStatic f) → known.constants f ≡ Some c → IsNeverPut P f → Pushes P known m p next c
    -- a local variable, where each instruction that may have written it last stores this int
    local : {p next k : ℕ} {c : ℤ} → IsLine P m p next (rows.Load (Numbers IntType) k)
        → ((w : Option ℕ) → MayBeLast P m k (At p) w → Stores P known m k w c)
        → Pushes P known m p next c
    -- the length of an array
    length : {from p next n : ℕ} → PushesArray P known m from p n → IsLine P m p next rows.Length → ¬ IsNamed P m p → Pushes P known m from next (pos n)
    -- a sum, a difference, a product of two ints: by the row's own function, the topmost first
    computed : {from second p next : ℕ} {x y z : ℤ} {compute : ℤ → ℤ → Option ℤ} → Pushes P known m from second x → Pushes P known m second p y
        → IsLine P m p next (rows.Compute (IntType ∷ IntType ∷ []) IntType compute) → ¬ IsNamed P m second → ¬ IsNamed P m p → compute y x ≡ Some z
        → Pushes P known m from next (int_wrap w32 z)

  -- They push null or an array of so many elements.
  pub data PushesArray (P : Program) (known : Known) (m : ℕ) : (from to : ℕ) → ℕ → Type 0 where
    numbers : {from p next code n : ℕ} → Pushes P known m from p (pos n) → IsLine P m p next (rows.NewNumbers code) → ¬ IsNamed P m p
        → PushesArray P known m from next n
    references : {from p next n : ℕ} {k : Kind} → Pushes P known m from p (pos n) → IsLine P m p next (rows.NewReferences k) → ¬ IsNamed P m p
        → PushesArray P known m from next n
    of_static : {p next f n : ℕ} → IsLine P m p next (rows.GetStatic f) → known.statics f ≡ Some n → PushesArray P known m p next n
    -- of the object that a local variable holds; where that is null, the instruction raises
    of_instance : {from p next k named owner index n : ℕ} → IsLine P m from p (rows.Load References k) → IsLine P m p next (rows.GetField named owner index)
        → ¬ IsNamed P m p → known.fields owner index ≡ Some n → PushesArray P known m from next n
    of_local : {p next k n : ℕ} → IsLine P m p next (rows.Load References k) → ((w : Option ℕ) → MayBeLast P m k (At p) w → StoresArray P known m k w n)
        → PushesArray P known m p next n
    -- with an element of an array initialiser behind it: dup, the index, the value, the store
    element : {from copy index value store next n : ℕ} {i v : Value} {t : NumberType} {codes : List ℕ} {kept : ℤ → ℤ} → PushesArray P known m from copy n
        → IsLine P m copy index (rows.Shuffle rows.Copy rows.One rows.Zero) → IsLine P m index value (rows.Push i) → IsLine P m value store (rows.Push v)
        → IsLine P m store next (rows.StoreNumber t codes kept)
        → ¬ IsNamed P m copy → ¬ IsNamed P m index → ¬ IsNamed P m value → ¬ IsNamed P m store → PushesArray P known m from next n

  -- The instruction at the place stores this int in the local variable: lines directly before it push it.
  pub data Stores (P : Program) (known : Known) (m : ℕ) : (local : ℕ) → (place : Option ℕ) → ℤ → Type 0 where
    stores : {k from w next : ℕ} {c : ℤ} → Pushes P known m from w c → IsLine P m w next (rows.Store (Numbers IntType) k) → ¬ IsNamed P m w
        → Stores P known m k (Some w) c

  -- It stores null or an array of so many elements.
  pub data StoresArray (P : Program) (known : Known) (m : ℕ) : (local : ℕ) → (place : Option ℕ) → ℕ → Type 0 where
    keeps : {k from w next n : ℕ} → PushesArray P known m from w n → IsLine P m w next (rows.Store References k) → ¬ IsNamed P m w
        → StoresArray P known m k (Some w) n
