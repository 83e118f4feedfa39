-- Raise steps by number, and which handlers cover them (JVM Specification SE 8, 2.10 and 4.7.3).
use Rattle.std.specs.Prelude.{◌≡◌, ◌↔◌, ℕ, ◌+◌, ◌*◌, ◌<◌, ◌≤◌, ◌⊎◌, List, length, filter, slice_index, Contains, ◌==◌, ◌&&◌, nat_le, nat_lt, if◌then◌else◌}
use Rattle.opcodes.specs.Instruction.{decoded}
use Rattle.opcodes.specs.Start.{starts_of}
use Rattle.method_flow.specs.declared.flow.HandlerRange.{HandlerRange}
use Rattle.method_flow.specs.Flow.{Coded}
use Rattle.flow_graph.specs.Edges.{raises_in, RaisesAt, IsCaught}

-- the places of the instructions of a code that may raise, rising
abbrev pub raising_places : List ℕ → List ℕ
raising_places code = filter (λ p. raises_in (decoded code p)) (starts_of code)

-- the edge from an instruction at one of the places to its raise step
pub record IsRaiseEdge (places : List ℕ) (e : ℕ × ℕ) : Type 0 where
  pub place : ℕ
  pub among : Contains places place
  pub is : e ≡ (2 * place, 2 * place + 1)

-- an edge from the raise step at one of the places, which lies from a place up to another, to a handler
pub record IsEdgeWithin (places : List ℕ) (from to handler : ℕ) (e : ℕ × ℕ) : Type 0 where
  pub place : ℕ
  pub among : Contains places place
  pub above : from ≤ place
  pub below : place < to
  pub is : e ≡ (2 * place + 1, 2 * handler)

-- an edge from the raise step at one of the places to a handler that covers it
pub record IsHandlerEdge (places : List ℕ) (ranges : List HandlerRange) (e : ℕ × ℕ) : Type 0 where
  pub place : ℕ
  pub handler : ℕ
  pub among : Contains places place
  pub caught : IsCaught ranges place handler
  pub is : e ≡ (2 * place + 1, 2 * handler)

-- the edges from the raise steps within this range to its handler are among these
abbrev pub IsCovered : (places : List ℕ) → HandlerRange → List (ℕ × ℕ) → Type 0
IsCovered places r es = (e : ℕ × ℕ) → IsEdgeWithin places r.start r.end r.handler e → Contains es e

-- the same ranges, in whatever order
abbrev pub AreSameRanges : List HandlerRange → List HandlerRange → Type 0
AreSameRanges ranges others = (r : HandlerRange) → Contains others r ↔ Contains ranges r

-- the first of the places that isn't below a place
pub record IsFirstFrom (places : List ℕ) (from first : ℕ) : Type 0 where
  pub within : first ≤ length places
  pub below : (i : ℕ) → i < first → slice_index places i < from
  pub above : (i : ℕ) → first ≤ i → i < length places → from ≤ slice_index places i

-- from where a range is not covered by another one with the same handler that begins no later
abbrev pub uncovered_from : (covered range : HandlerRange) → ℕ
uncovered_from c r = if c.handler == r.handler && nat_le c.start r.start && nat_lt r.start c.end then c.end else r.start

-- the edge from an instruction of the code that may raise to its raise step, by number
pub record IsCodeRaise (code : List ℕ) (e : ℕ × ℕ) : Type 0 where
  pub place : ℕ
  pub raises : RaisesAt code place
  pub is : e ≡ (2 * place, 2 * place + 1)

-- an edge from a raise step of the code to a handler that covers it, by number
pub record IsCodeCatch (k : Coded) (e : ℕ × ℕ) : Type 0 where
  pub place : ℕ
  pub handler : ℕ
  pub raises : RaisesAt k.code place
  pub caught : IsCaught k.ranges place handler
  pub is : e ≡ (2 * place + 1, 2 * handler)

-- an edge of the code to a raise step or from one, by number
abbrev pub IsRaisingEdge : Coded → ℕ × ℕ → Type 0
IsRaisingEdge k e = IsCodeRaise k.code e ⊎ IsCodeCatch k e
