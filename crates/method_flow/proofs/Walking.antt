-- Steps go along edges that a run can take, and a method can end exactly where a walk of such edges leads to an exit.
use Rattle.std.proofs.Common.{◌≡◌, ◌⊎◌, ℕ, ◌+◌, Bool, true, false, List, Option, Some, None, refl, sym, ap, ◌∙◌, subst, inl, inr, IsSomeAnd}
use Rattle.opcodes.specs.declared.instruction.Instr.{Instr}
use Rattle.bytecode_model.specs.declared.Ending.{Ending}
use Rattle.bytecode_model.specs.Program.{Program, body_of, instr_at}
use Rattle.bytecode_model.specs.Rows as rows
use Rattle.bytecode_model.specs.Rows.{Row}
use Rattle.bytecode_model.specs.Table.{row_of}
use Rattle.bytecode_model.specs.Steps.{row_in}
use Rattle.bytecode_model.specs.WellFormed.{is_call}
use Rattle.lists.proofs.Lemmas.{onto_some}
use Rattle.method_flow.specs.Nodes.{Node, At, RaiseAt, LeadsTo, IsEdge, IsExit}
use Rattle.method_flow.specs.Calls.{IsCall}
use Rattle.method_flow.specs.Live.{IsReturning, CanEnd, EndsFrom, CanBeTaken, IsLiveEdge, LiveWalk}
use Rattle.method_flow.specs.Live.CanEnd.{ends}
use Rattle.method_flow.specs.Live.EndsFrom.{here, along as leads_on, behind as leads_behind}
use Rattle.method_flow.specs.Live.LiveWalk.{stops as stops_at, along as walks_on}
use Rattle.method_flow.specs.Shapes.{node_of}
use Rattle.method_flow.specs.Walks.{MovesAreLive, ReturnsAreExits, DropsAreExits, CallersReturn, CallersRaise, EndingIsAWalk}

-- ---- rows of calls

-- a call's row leads to the next instruction alone
call_leads : (p next : ℕ) (r : Row) → is_call r ≡ true → LeadsTo p next r next
call_leads p next (rows.CallStatic m) is = refl
call_leads p next (rows.CallSpecial named m) is = refl
call_leads p next (rows.CallVirtual named m) is = refl
call_leads p next (rows.CallInterface named m) is = refl
call_leads p next rows.Nothing is = absurd (cc)
call_leads p next (rows.Push v) is = absurd (cc)
call_leads p next (rows.Compute a b c) is = absurd (cc)
call_leads p next (rows.Branch a b c) is = absurd (cc)
call_leads p next (rows.BranchSame a b) is = absurd (cc)
call_leads p next (rows.BranchNull a b) is = absurd (cc)
call_leads p next (rows.Jump a) is = absurd (cc)
call_leads p next (rows.Switch a b) is = absurd (cc)
call_leads p next (rows.Load a b) is = absurd (cc)
call_leads p next (rows.Store a b) is = absurd (cc)
call_leads p next (rows.Increment a b) is = absurd (cc)
call_leads p next (rows.Shuffle a b c) is = absurd (cc)
call_leads p next (rows.GetStatic k) is = absurd (cc)
call_leads p next (rows.PutStatic k) is = absurd (cc)
call_leads p next (rows.GetField a b c) is = absurd (cc)
call_leads p next (rows.PutField a b c) is = absurd (cc)
call_leads p next (rows.New c) is = absurd (cc)
call_leads p next (rows.NewNumbers c) is = absurd (cc)
call_leads p next (rows.NewReferences k) is = absurd (cc)
call_leads p next rows.Length is = absurd (cc)
call_leads p next (rows.LoadNumber a b) is = absurd (cc)
call_leads p next (rows.StoreNumber a b c) is = absurd (cc)
call_leads p next rows.LoadReference is = absurd (cc)
call_leads p next rows.StoreReference is = absurd (cc)
call_leads p next (rows.Cast k) is = absurd (cc)
call_leads p next (rows.Test k) is = absurd (cc)
call_leads p next rows.Monitor is = absurd (cc)
call_leads p next rows.Throw is = absurd (cc)
call_leads p next (rows.Return a) is = absurd (cc)
call_leads p next rows.Read is = absurd (cc)
call_leads p next rows.Write is = absurd (cc)

-- the place behind an instruction is its place and its length
row_is_behind : (P : Program) (m p next : ℕ) (r : Row) → row_in P m p ≡ Some (next, r) → IsSomeAnd (instr_at P m p) (λ i. next ≡ p + i.length)
row_is_behind P m p next r e =
    let body = onto_some (body_of P m) _ (next, r) e in
    let instr = onto_some (instr_at P m p) _ (next, r) body.2 in
    let row = onto_some (row_of body.0.code instr.0 (P.operand m p)) _ (next, r) instr.2 in
    let same : (p + instr.0.length, row.0) ≡ (next, r) = cc in
    subst (λ (z : Option Instr). IsSomeAnd z (λ i. next ≡ p + i.length)) (sym instr.1) (ap (λ (x : ℕ × Row). x.0) (sym same))

same_place : (o : Option Instr) (p q next : ℕ) → IsSomeAnd o (λ i. q ≡ p + i.length) → IsSomeAnd o (λ i. next ≡ p + i.length) → q ≡ next
same_place None p q next h g = absurd h
same_place (Some i) p q next h g = h ∙ sym g

leads_behind_call : (P : Program) (m p q : ℕ) → IsCall P m p → IsSomeAnd (instr_at P m p) (λ i. q ≡ p + i.length) → IsEdge P m (At p) (At q)
leads_behind_call P m p q call place = by (row_in P m p) refl call
  where
    by : (o : Option (ℕ × Row)) → row_in P m p ≡ o → IsSomeAnd o (λ x. is_call x.1 ≡ true) → IsEdge P m (At p) (At q)
    by None is h = absurd h
    by (Some (next, row)) is h =
        let same = same_place (instr_at P m p) p q next place (row_is_behind P m p next row is) in
        subst (λ (z : Option (ℕ × Row)). IsSomeAnd z (λ x. LeadsTo p x.0 x.1 q)) (sym is) (subst (λ (x : ℕ). LeadsTo p next row x) (sym same) (call_leads p next row h))

-- ---- steps

free_goes_on : (P : Program) (m : ℕ) (u v : Node) → (IsReturning P m u v → ⊥) → CanBeTaken P m u v
free_goes_on P m (At p) (At q) free = λ call. absurd (free call)
free_goes_on P m (At p) (RaiseAt q) free = tt
free_goes_on P m (RaiseAt p) v free = tt

pub moves_are_live : MovesAreLive
moves_are_live P mode f callers t h = record { edge = h.edge; goes_on = free_goes_on P f.method (node_of mode f) (node_of t.mode h.top) h.free }

pub returns_are_exits : ReturnsAreExits
returns_are_exits P mode f callers t h = subst (λ (x : Ending). IsExit P f.method (node_of x f)) (sym h.running) h.exit

pub drops_are_exits : DropsAreExits
drops_are_exits P mode f callers t h = subst (λ (x : Ending). IsExit P f.method (node_of x f)) (sym h.raising) tt

pub callers_return : CallersReturn
callers_return P mode f callers t h call target ended =
    let m = h.caller.method in
    let p = h.caller.pc in
    let live : IsLiveEdge P m (At p) (At h.top.pc) = record { edge = leads_behind_call P m p h.top.pc call h.place; goes_on = λ is. (f.method, target, ended) } in
    subst (λ (x : Ending). IsLiveEdge P m (At p) (node_of x h.top)) (sym h.still) live

pub callers_raise : CallersRaise
callers_raise P mode f callers t h may =
    let m = h.caller.method in
    let p = h.caller.pc in
    let live : IsLiveEdge P m (At p) (RaiseAt h.top.pc) = record { edge = (h.place, may); goes_on = tt } in
    subst (λ (x : Ending). IsLiveEdge P m (At p) (node_of x h.top)) (sym h.still) live

-- ---- ending

walk_from : {P : Program} {m : ℕ} {u : Node} → EndsFrom P m u → (ns : List ℕ) × LiveWalk P m u ns
walk_from (here exit) = (_, stops_at exit)
walk_from {P} (leads_on {m} {u} {v} edge free more) = let w = walk_from more in (_, walks_on (record { edge = edge; goes_on = free_goes_on P m u v free }) w.1)
walk_from (leads_behind {m} {t} edge target ended more) = let w = walk_from more in (_, walks_on (record { edge = edge; goes_on = λ is. (t, target, ended) }) w.1)

call_or_not : (P : Program) (m p : ℕ) → IsCall P m p ⊎ (IsCall P m p → ⊥)
call_or_not P m p = by (row_in P m p)
  where
    by_test : (b : Bool) → (b ≡ true) ⊎ (b ≡ true → ⊥)
    by_test true = inl refl
    by_test false = inr (λ e. absurd (cc))

    by : (o : Option (ℕ × Row)) → IsSomeAnd o (λ x. is_call x.1 ≡ true) ⊎ (IsSomeAnd o (λ x. is_call x.1 ≡ true) → ⊥)
    by None = inr (λ h. h)
    by (Some x) = by_test (is_call x.1)

step_back : (P : Program) (m : ℕ) (u v : Node) → IsLiveEdge P m u v → EndsFrom P m v → EndsFrom P m u
step_back P m (At p) (At q) live more =
    elim (call_or_not P m p) [
      | inl call ↦ let on = live.goes_on call in leads_behind live.edge on.1 on.2 more
      | inr none ↦ leads_on live.edge none more
    ]
step_back P m (At p) (RaiseAt q) live more = leads_on live.edge (λ none. none) more
step_back P m (RaiseAt p) v live more = leads_on live.edge (λ none. none) more

walk_ends : {P : Program} {m : ℕ} {u : Node} {ns : List ℕ} → LiveWalk P m u ns → EndsFrom P m u
walk_ends (stops_at exit) = here exit
walk_ends {P} {m} (walks_on {u} {v} live more) = step_back P m u v live (walk_ends more)

from_end : {P : Program} {m : ℕ} → CanEnd P m → (ns : List ℕ) × LiveWalk P m (At 0) ns
from_end (ends e) = walk_from e

pub ending_is_a_walk : EndingIsAWalk
ending_is_a_walk P m = (from_end, λ w. ends (walk_ends w.1))
