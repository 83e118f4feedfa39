-- What a frame does from one node of its method to the next, as far as its local variables, its operands and the lengths of arrays tell (JVM Specification
-- SE 8, 2.6 and 6.5).
use Rattle.std.specs.Prelude.{◌≡◌, ℕ, ℤ, pos, ◌+ℤ◌, Bool, true, false, List, [], ◌∷◌, ◌++◌, length, map, Some, slice_get}
use Rattle.std.specs.Int.{w32, int_wrap}
use Rattle.std.specs.Option.{IsSomeAnd}
use Rattle.opcodes.specs.Start.{IsStart}
use Rattle.bytecode_model.specs.declared.Value.{Value}
use Rattle.bytecode_model.specs.declared.Value.TheVariants.{Int, Ref, Null}
use Rattle.bytecode_model.specs.Types.{IntType, Numbers, References, is_moved, is_long}
use Rattle.bytecode_model.specs.State.{Object, Frame}
use Rattle.bytecode_model.specs.Program.{Program, body_of}
use Rattle.bytecode_model.specs.Rows as rows
use Rattle.bytecode_model.specs.Rows.{Row}
use Rattle.bytecode_model.specs.Steps.{row_in}
use Rattle.method_flow.specs.Nodes.{Node, At, number_of, IsAtOffset, IsEdge}
use Rattle.code_lines.specs.Lines.{Writes, IsNeverPut}
use Rattle.loop_rules.specs.Further.Known.{Known}

-- how many fields or elements each object has
abbrev pub lengths_of : List Object → List ℕ
lengths_of os = map (λ o. length o.parts) os

-- objects stay, each with its length
abbrev pub Grows : (before after : List ℕ) → Type 0
Grows xs ys = (p n : ℕ) → slice_get xs p ≡ Some n → slice_get ys p ≡ Some n

-- a node at which a frame stands, with what it has there, and the lengths of the objects that there are
pub record Visit : Type 0 where
  pub node : Node
  pub locals : List Value
  pub operands : List Value
  pub lengths : List ℕ

abbrev pub visit_of : Node → List Object → Frame → Visit
visit_of u os f = record { node = u; locals = f.locals; operands = f.operands; lengths = lengths_of os }

-- the local variable holds the value
abbrev pub HoldsValue : List Value → (local : ℕ) → Value → Type 0
HoldsValue ls k v = slice_get ls k ≡ Some v

-- the local variable holds the int
abbrev pub HoldsInt : List Value → (local : ℕ) → ℤ → Type 0
HoldsInt ls k x = HoldsValue ls k (Int x)

-- null, or an array of so many elements
abbrev pub IsArrayOf : (lengths : List ℕ) → (n : ℕ) → Value → Type 0
IsArrayOf ls n Null = Unit {0}
IsArrayOf ls n (Ref p) = slice_get ls p ≡ Some n
IsArrayOf ls n v = ⊥

-- a value was pushed, and control went on to the place behind
abbrev pub Pushed : (next : ℕ) → Value → (a b : Visit) → Type 0
Pushed next v a b = (b.node ≡ At next) × (b.operands ≡ v ∷ a.operands)

-- null or such an array lies on top of these operands
abbrev pub HasArray : (n : ℕ) → (under : List Value) → (b : Visit) → Type 0
HasArray n under b = (v : Value) × (b.operands ≡ v ∷ under) × IsArrayOf b.lengths n v

-- control went to the branch's offset where its test holds, and else on
abbrev pub Branched : (p next : ℕ) → (offset : ℤ) → (test : Bool) → (b : Visit) → Type 0
Branched p next offset true b = (q : ℕ) × IsAtOffset p offset q × (b.node ≡ At q)
Branched p next offset false b = b.node ≡ At next

-- What an instruction with this row did, from the visit of it to the next. One that may raise did it where control went on to the place behind.
abbrev pub DidRow : Program → Known → Row → (p next : ℕ) → (a b : Visit) → Type 0
DidRow P known (rows.Push v) p next a b = Pushed next v a b
DidRow P known (rows.GetStatic f) p next a b =
    ((x : ℤ) → known.constants f ≡ Some x → IsNeverPut P f → Pushed next (Int x) a b) × ((n : ℕ) → known.statics f ≡ Some n → HasArray n a.operands b)
DidRow P known (rows.GetField named owner index) p next a b =
    (v : Value) (rest : List Value) (n : ℕ) → a.operands ≡ v ∷ rest → known.fields owner index ≡ Some n → b.node ≡ At next → HasArray n rest b
DidRow P known (rows.Load (Numbers IntType) k) p next a b = (x : ℤ) × HoldsInt a.locals k x × Pushed next (Int x) a b
DidRow P known (rows.Load References k) p next a b = (v : Value) × (is_moved References v ≡ true) × HoldsValue a.locals k v × Pushed next v a b
DidRow P known (rows.Store (Numbers IntType) k) p next a b = (x : ℤ) (rest : List Value) → a.operands ≡ Int x ∷ rest → HoldsInt b.locals k x
DidRow P known (rows.Store References k) p next a b = (v : Value) (rest : List Value) → a.operands ≡ v ∷ rest → HoldsValue b.locals k v
DidRow P known (rows.Increment k n) p next a b = (x : ℤ) → HoldsInt a.locals k x → HoldsInt b.locals k (int_wrap w32 (x +ℤ n))
DidRow P known (rows.Compute (IntType ∷ IntType ∷ []) IntType compute) p next a b =
    (y x z : ℤ) (rest : List Value) → a.operands ≡ Int y ∷ Int x ∷ rest → compute y x ≡ Some z → b.operands ≡ Int (int_wrap w32 z) ∷ rest
DidRow P known (rows.Branch (IntType ∷ []) test offset) p next a b = (x : ℤ) (rest : List Value) → a.operands ≡ Int x ∷ rest
    → Branched p next offset (test x) b
DidRow P known (rows.Branch (IntType ∷ IntType ∷ []) test offset) p next a b =
    (y x : ℤ) (rest : List Value) → a.operands ≡ Int y ∷ Int x ∷ rest → Branched p next offset (test y x) b
DidRow P known (rows.Shuffle rows.Copy rows.One rows.Zero) p next a b = (v : Value) (rest : List Value) → a.operands ≡ v ∷ rest → b.operands ≡ v ∷ v ∷ rest
DidRow P known (rows.NewNumbers code) p next a b = (n : ℕ) (rest : List Value) → a.operands ≡ Int (pos n) ∷ rest → b.node ≡ At next → HasArray n rest b
DidRow P known (rows.NewReferences kind) p next a b = (n : ℕ) (rest : List Value) → a.operands ≡ Int (pos n) ∷ rest → b.node ≡ At next → HasArray n rest b
DidRow P known rows.Length p next a b =
    (v : Value) (rest : List Value) (n : ℕ) → a.operands ≡ v ∷ rest → IsArrayOf a.lengths n v → b.node ≡ At next → b.operands ≡ Int (pos n) ∷ rest
DidRow P known (rows.StoreNumber t codes kept) p next a b =
    (x i v : Value) (rest : List Value) → a.operands ≡ x ∷ i ∷ v ∷ rest → b.node ≡ At next → b.operands ≡ rest
DidRow P known r p next a b = Unit {0}

-- the frame went from one visit to the next, along an edge of its method
pub record Passes (P : Program) (known : Known) (m : ℕ) (a b : Visit) : Type 0 where
  pub edge : IsEdge P m a.node b.node
  pub start : (p : ℕ) → a.node ≡ At p → IsSomeAnd (body_of P m) (λ c. IsStart c.code p)
  pub does : (p next : ℕ) (r : Row) → a.node ≡ At p → row_in P m p ≡ Some (next, r) → DidRow P known r p next a b
  -- a local variable that holds a value, but for a long, does so until it is written
  pub keeps : (k : ℕ) (v : Value) → is_long v ≡ false → HoldsValue a.locals k v → ((p : ℕ) → a.node ≡ At p → ¬ Writes P m p k) → HoldsValue b.locals k v
  pub grows : Grows a.lengths b.lengths

-- visits one after another, from one to another, and the numbers of their nodes
pub data Path (P : Program) (known : Known) (m : ℕ) (a : Visit) : Visit → List ℕ → Type 0 where
  here : Path P known m a a (number_of a.node ∷ [])
  more : {b c : Visit} {ns : List ℕ} → Path P known m a b ns → Passes P known m b c → Path P known m a c (ns ++ number_of c.node ∷ [])
