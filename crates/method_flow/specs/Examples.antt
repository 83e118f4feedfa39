-- Worked examples of graphs of methods.
use Rattle.std.specs.Prelude.{◌≡◌, ℕ, true, false, ◌==◌, not, List, [], ◌∷◌, Contains, slice_index_or, Option, Some, None}
use Rattle.bytecode_model.specs.Program.{Program, Method, Handler, Operand, NoOperand, AMethod}
use Rattle.bytecode_model.specs.Examples as model
use Rattle.method_flow.specs.Nodes.{Node, At, RaiseAt, number_of, IsEdge, IsExit, IsReached}
use Rattle.method_flow.specs.Calls.{IsCall, targets_of}
use Rattle.method_flow.specs.Live.{CanEnd, IsLiveEdge}
use Rattle.method_flow.specs.Graphs.{IsLiveGraph}
use Rattle.method_flow.specs.Regions.{IsWithin}

-- ---- a sample program, over the sample classes of the meaning of bytecode; 7 is the interface and 9 the class that implements it

-- a handler of everything that is thrown from a place up to another
abbrev pub catch_all : (start end target : ℕ) → Handler
catch_all start end target = record { start = start; end = end; target = target; caught = None }

abbrev pub method : (code : List ℕ) → List Handler → Method
method code handlers = model.static_method (model.body 4 4 code handlers)

--  0 iload_0           26 invokestatic 1
--  1 tableswitch       29 return
--      0: 26           30 astore_2
--      default: 20     31 aload_1
-- 20 iinc 0, -1        32 monitorexit
-- 23 goto 0            33 aload_2
--                      34 athrow
-- with the handler at 30 for the invoke and, as for a synchronized block, for the handler itself up to 33
abbrev pub synchronized_loop : Method
synchronized_loop = method
    (26 ∷ 170 ∷ 0 ∷ 0 ∷ 0 ∷ 0 ∷ 0 ∷ 19 ∷ 0 ∷ 0 ∷ 0 ∷ 0 ∷ 0 ∷ 0 ∷ 0 ∷ 0 ∷ 0 ∷ 0 ∷ 0 ∷ 25
    ∷ 132 ∷ 0 ∷ 255 ∷ 167 ∷ 255 ∷ 233 ∷ 184 ∷ 0 ∷ 0 ∷ 177 ∷ 77 ∷ 43 ∷ 195 ∷ 44 ∷ 191 ∷ [])
    (catch_all 26 29 30 ∷ catch_all 30 33 30 ∷ [])

abbrev pub methods : List Method
methods =
    synchronized_loop
    -- 1: return
    ∷ method (177 ∷ []) []
    -- 2: goto 0, for ever
    ∷ method (167 ∷ 0 ∷ 0 ∷ []) []
    -- 3: invokestatic 2, return
    ∷ method (184 ∷ 0 ∷ 0 ∷ 177 ∷ []) []
    -- 4: invokestatic 5, return
    ∷ method (184 ∷ 0 ∷ 0 ∷ 177 ∷ []) []
    -- 5: invokestatic 4, return
    ∷ method (184 ∷ 0 ∷ 0 ∷ 177 ∷ []) []
    -- 6: return, and behind it invokestatic 2, return
    ∷ method (177 ∷ 184 ∷ 0 ∷ 0 ∷ 177 ∷ []) []
    -- 7: aload_0, invokeinterface 8, return
    ∷ method (42 ∷ 185 ∷ 0 ∷ 0 ∷ 1 ∷ 0 ∷ 177 ∷ []) []
    -- 8: a method of the interface, without code
    ∷ model.instance_method 7 None
    -- 9: the method of the class that is selected for it: iconst_0, ireturn
    ∷ model.instance_method 9 (Some (model.body 1 1 (3 ∷ 172 ∷ []) []))
    ∷ []

-- what the instructions of each method name
abbrev pub operands : List Operand
operands = AMethod 8 1 ∷ NoOperand ∷ NoOperand ∷ AMethod 8 2 ∷ AMethod 8 5 ∷ AMethod 8 4 ∷ AMethod 8 2 ∷ AMethod 7 8 ∷ []

-- method 9 is selected for method 8 where the receiver is of class 9
abbrev pub selects : ℕ → ℕ → Option ℕ
selects receiver m = elim (receiver == 9) [ true ↦ Some 9 | false ↦ None ]

abbrev pub sample : Program
sample = record (model.sample methods NoOperand) { operand = λ m pc. slice_index_or operands m NoOperand; is_concrete = λ c. not (c == 7); select = selects }

-- ---- node by node

abbrev pub LeadsToEach : Program → (method : ℕ) → Node → List Node → Type 0
LeadsToEach P m u [] = Unit {0}
LeadsToEach P m u (v ∷ vs) = IsEdge P m u v × LeadsToEach P m u vs

-- the node leads to these and to no others
pub record GoesTo (P : Program) (m : ℕ) (u : Node) (vs : List Node) : Type 0 where
  pub each : LeadsToEach P m u vs
  pub no_other : (v : Node) → IsEdge P m u v → Contains vs v

-- the graph of method 0, with a loop, a switch, a call, and a handler that covers itself
pub record SynchronizedLoop : Type 0 where
  pub load : GoesTo sample 0 (At 0) (At 1 ∷ [])
  pub switch : GoesTo sample 0 (At 1) (At 20 ∷ At 26 ∷ [])
  pub increment : GoesTo sample 0 (At 20) (At 23 ∷ [])
  pub back : GoesTo sample 0 (At 23) (At 0 ∷ [])
  pub call : GoesTo sample 0 (At 26) (At 29 ∷ RaiseAt 26 ∷ [])
  pub return : GoesTo sample 0 (At 29) []
  pub call_raises : GoesTo sample 0 (RaiseAt 26) (At 30 ∷ [])
  pub handler : GoesTo sample 0 (At 30) (At 31 ∷ [])
  pub monitor : GoesTo sample 0 (At 31) (At 32 ∷ [])
  pub exit_monitor : GoesTo sample 0 (At 32) (At 33 ∷ RaiseAt 32 ∷ [])
  -- the handler covers itself
  pub exit_raises : GoesTo sample 0 (RaiseAt 32) (At 30 ∷ [])
  pub object : GoesTo sample 0 (At 33) (At 34 ∷ [])
  pub throw : GoesTo sample 0 (At 34) (RaiseAt 34 ∷ [])
  -- which is past the handler's range
  pub throw_raises : GoesTo sample 0 (RaiseAt 34) []
  pub return_is_exit : IsExit sample 0 (At 29)
  pub raise_is_exit : IsExit sample 0 (RaiseAt 26)
  pub throw_is_none : ¬ IsExit sample 0 (At 34)
  pub number_of_call : number_of (At 26) ≡ 52
  pub number_of_raise : number_of (RaiseAt 26) ≡ 53

-- ---- what calls run, and which methods can end

pub record Calling : Type 0 where
  pub fixed : targets_of sample 0 26 ≡ 1 ∷ []
  -- of the classes that are the interface or below it, the one that isn't abstract
  pub selected : targets_of sample 7 1 ≡ 9 ∷ []
  pub is_call : IsCall sample 0 26
  pub is_none : ¬ IsCall sample 0 29

-- a call none of whose targets can end goes on by its raise edge alone
pub record CallOfEndless : Type 0 where
  pub endless : ¬ CanEnd sample 2
  pub edge : IsEdge sample 3 (At 0) (At 3)
  pub not_live : ¬ IsLiveEdge sample 3 (At 0) (At 3)
  pub raises : IsLiveEdge sample 3 (At 0) (RaiseAt 0)
  -- so it can end, since there might be no room for the frame
  pub can_end : CanEnd sample 3
  -- four bytes have eight numbers, of which two are nodes that are reached: the invoke and its raise step
  pub live_graph : IsLiveGraph sample 3 (record { nodes = 8; edges = (0, 1) ∷ []; exits = 1 ∷ [] })

-- Recursion without a way out can still end in one way: some invoke finds no room for a frame. So a run can take the edges behind its calls.
pub record EndlessRecursion : Type 0 where
  pub first : CanEnd sample 4
  pub second : CanEnd sample 5
  pub goes_on : IsLiveEdge sample 4 (At 0) (At 3)

-- a call that control never comes to is no node of the graph, but what it may run is within the method
pub record DeadCall : Type 0 where
  pub not_reached : ¬ IsReached (IsEdge sample 6) (At 1)
  pub within : IsWithin sample 6 2
  pub no_other : ¬ IsWithin sample 6 1

pub record WorkedExamples : Type 0 where
  pub synchronized_loop : SynchronizedLoop
  pub calling : Calling
  pub call_of_endless : CallOfEndless
  pub endless_recursion : EndlessRecursion
  pub dead_call : DeadCall
