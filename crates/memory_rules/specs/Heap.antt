-- The words of objects that a run may make together, where loops that make objects have bounds, and arrays lengths (JVM Specification SE 8, 2.7).
use Rattle.std.specs.Prelude.{◌≡◌, ℕ, ℤ, pos, negsuc, ◌+◌, ◌*◌, ◌≤◌, ◌⊎◌, List, [], ◌∷◌, sum_by, Option, Some, None}
use Rattle.bytecode_model.specs.Types.{default, zero_of, element_type}
use Rattle.bytecode_model.specs.Program.{Program}
use Rattle.bytecode_model.specs.Sizes.{value_words}
use Rattle.bytecode_model.specs.Rows as rows
use Rattle.bytecode_model.specs.Rows.{Row}
use Rattle.loop_nest.specs.Digraph.{Digraph}
use Rattle.loop_nest.specs.Walks.{Walk, IsHeader, IsMember, IsReachable, KeepsBound}
use Rattle.method_flow.specs.Nodes.{Node, At, number_of}
use Rattle.method_flow.specs.Calls.{IsTarget}
use Rattle.method_flow.specs.Graphs.{IsGraphOf}
use Rattle.method_flow.specs.Keeping.{BoundOf}
use Rattle.code_lines.specs.Lines.{IsLine, IsPushedBefore}

-- ---- what an instruction makes (6.5.new, 6.5.newarray, 6.5.anewarray)

-- the words of an object of a class; of an array those of an element
pub data Made : Type 0 where
  AnObject : (words : ℕ) → Made
  AnArray : (element : ℕ) → Made

-- an object has a word for its class, and its fields
abbrev pub made_by : Program → Row → Option Made
made_by P (rows.New c) = Some (AnObject (1 + sum_by (λ d. value_words (default d)) (P.fields c)))
made_by P (rows.NewNumbers code) = Some (AnArray (value_words (zero_of (element_type code))))
made_by P (rows.NewReferences k) = Some (AnArray 1)
made_by P r = None

-- the words of an array whose length is a constant: one for its type, one for its length, and its elements; a length that is negative makes none
abbrev pub constant_words : (element : ℕ) → (length : ℤ) → ℕ
constant_words element (pos n) = 2 + element * n
constant_words element (negsuc n) = 0

-- The most words that the instruction at the place p makes at once. The length of an array is the int that is pushed directly before, or else the
-- greatest one that is given.
pub data MostWords (P : Program) (lengths : BoundOf) (m p : ℕ) : Option Made → ℕ → Type 0 where
  object : {w : ℕ} → MostWords P lengths m p (Some (AnObject w)) w
  constant : {element : ℕ} {c : ℤ} → IsPushedBefore P m p c → MostWords P lengths m p (Some (AnArray element)) (constant_words element c)
  listed : {element n : ℕ} → ((c : ℤ) → ¬ IsPushedBefore P m p c) → lengths m p ≡ Some n → MostWords P lengths m p (Some (AnArray element)) (2 + element * n)

-- ---- which methods and loops make objects

-- the instruction at the place is a node of the method's graph that control reaches
pub record IsOn (P : Program) (m : ℕ) (g : Digraph) (p : ℕ) : Type 0 where
  pub graph : IsGraphOf P m g
  pub reached : IsReachable g (number_of (At p))

-- the instruction at the place makes an object or an array
pub record MakesAt (P : Program) (m p : ℕ) : Type 0 where
  pub next : ℕ
  pub row : Row
  pub line : IsLine P m p next row
  pub made : Made
  pub makes : made_by P row ≡ Some made

-- an instruction that control reaches makes an object, or may run a method that makes objects
pub data MakesObjects (P : Program) : (method : ℕ) → Type 0 where
  itself : {m p : ℕ} {g : Digraph} → IsOn P m g p → MakesAt P m p → MakesObjects P m
  calling : {m p t : ℕ} {g : Digraph} → IsOn P m g p → IsTarget P m p t → MakesObjects P t → MakesObjects P m

-- the instruction makes an object, or may run a method that makes objects
abbrev pub PlaceMakesObjects : Program → (method place : ℕ) → Type 0
PlaceMakesObjects P m p = MakesAt P m p ⊎ ((t : ℕ) × IsTarget P m p t × MakesObjects P t)

-- a member of the header's loop does
abbrev pub LoopMakesObjects : Program → (method : ℕ) → Digraph → (header : ℕ) → Type 0
LoopMakesObjects P m g h = (p : ℕ) × IsMember g h (number_of (At p)) × PlaceMakesObjects P m p

-- the walk keeps the bounds that are given for the loops that make objects
abbrev pub KeepsMaking : Program → (bounds : BoundOf) → (method : ℕ) → Digraph → List ℕ → Type 0
KeepsMaking P bounds m g ns = (p n : ℕ) → IsHeader g (number_of (At p)) → LoopMakesObjects P m g (number_of (At p)) → bounds m p ≡ Some n
    → KeepsBound g (number_of (At p)) n ns

-- ---- how many words may be made

-- an activation of a method; the nodes that a walk of it visits; one of its nodes
pub data Part : Type 0 where
  OfMethod : (method : ℕ) → Part
  OfWalk : (method : ℕ) → List ℕ → Part
  OfNode : (method : ℕ) → Node → Part

-- So many words may be made by a part of a run. An activation may stop at any node of its method's graph. An instruction makes what it makes itself at
-- most, or what an activation of a method that it may run makes.
pub data MayMake (P : Program) (bounds lengths : BoundOf) : Part → ℕ → Type 0 where
  stops : {m last w : ℕ} {g : Digraph} {ns : List ℕ} → IsGraphOf P m g → Walk g 0 last ns → KeepsMaking P bounds m g ns
      → MayMake P bounds lengths (OfWalk m ns) w
      → MayMake P bounds lengths (OfMethod m) w
  nowhere : {m : ℕ} → MayMake P bounds lengths (OfWalk m []) 0
  visits : {m v w : ℕ} {u : Node} {ns : List ℕ} → MayMake P bounds lengths (OfNode m u) v → MayMake P bounds lengths (OfWalk m ns) w
      → MayMake P bounds lengths (OfWalk m (number_of u ∷ ns)) (v + w)
  nothing : {m : ℕ} {u : Node} → MayMake P bounds lengths (OfNode m u) 0
  makes : {m p next w : ℕ} {r : Row} → IsLine P m p next r → MostWords P lengths m p (made_by P r) w → MayMake P bounds lengths (OfNode m (At p)) w
  runs : {m p t w : ℕ} → IsTarget P m p t → MayMake P bounds lengths (OfMethod t) w → MayMake P bounds lengths (OfNode m (At p)) w

-- the most words that a part of a run may make
pub record IsMostMade (P : Program) (bounds lengths : BoundOf) (part : Part) (words : ℕ) : Type 0 where
  pub attained : MayMake P bounds lengths part words
  pub greatest : (w : ℕ) → MayMake P bounds lengths part w → w ≤ words

-- the most words that an activation of a method may make
abbrev pub IsHeapNeed : Program → (bounds lengths : BoundOf) → (method words : ℕ) → Type 0
IsHeapNeed P bounds lengths m words = IsMostMade P bounds lengths (OfMethod m) words
