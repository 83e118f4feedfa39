-- How control comes to a place, and which write was the last one.
use Rattle.std.proofs.Common.{◌≡◌, ◌⊎◌, ℕ, ◌<◌, Contains, Option, Some, None, refl, sym, ◌∙◌, subst, inl, inr, IsSomeAnd, arith}
use Rattle.opcodes.specs.Start.{IsStart}
use Rattle.lists.proofs.Lemmas.{none≢some, some_is, some_in, some_same}
use Rattle.lists.specs.Members.{has_or_not}
use Rattle.bytecode_model.specs.Program.{Program, Body, Handler, body_of}
use Rattle.bytecode_model.specs.Rows as rows
use Rattle.bytecode_model.specs.Rows.{Row}
use Rattle.bytecode_model.specs.Steps.{row_in}
use Rattle.method_flow.specs.Nodes.{Node, At, RaiseAt, LeadsTo, IsEdge, IsReached, IsHandled}
use Rattle.method_flow.specs.Nodes.IsReached.{first, later}
use Rattle.code_lines.specs.Lines.{IsLine, IsNamed, Names, Writes, written_by}
use Rattle.code_lines.specs.Laws.{LinesAreApart, OneStandsBefore}
use Rattle.loop_rules.specs.Further.Writing.{MayBeLast}
use Rattle.loop_rules.specs.Further.Writing.MayBeLast.{here, unwritten, before}
use Rattle.loop_rules.specs.Further.Laws.{StaysAtStarts, LastWritesExist}

at_same : (p q : ℕ) → At p ≡ At q → p ≡ q
at_same p q e = cc

-- ---- a last write exists

writes_or_not : (P : Program) (m k p : ℕ) → IsSomeAnd (body_of P m) (λ b. IsStart b.code p) → Writes P m p k ⊎ (Writes P m p k → ⊥)
writes_or_not P m k p start = by (row_in P m p) refl
  where
    by : (o : Option (ℕ × Row)) → row_in P m p ≡ o → Writes P m p k ⊎ (Writes P m p k → ⊥)
    by None is = inr (λ h. none≢some (h.0, h.1) (sym is ∙ h.2.is))
    by (Some x) is = by_written (has_or_not (written_by x.1) k)
      where
        by_written : Contains (written_by x.1) k ⊎ (Contains (written_by x.1) k → ⊥) → Writes P m p k ⊎ (Writes P m p k → ⊥)
        by_written (inl has) = inl (x.0, x.1, record { start = start; is = is }, has)
        by_written (inr not) = inr (λ h. not (subst (λ (y : ℕ × Row). Contains (written_by y.1) k) (some_same (h.0, h.1) x (sym h.2.is ∙ is)) h.3))

pub last_of : {P : Program} {m : ℕ} (k : ℕ) → StaysAtStarts P m → {u : Node} → IsReached (IsEdge P m) u → (w : Option ℕ) × MayBeLast P m k u w
last_of {P} {m} k stays (first) = by (writes_or_not P m k 0 (stays 0 first))
  where
    by : Writes P m 0 k ⊎ (Writes P m 0 k → ⊥) → (w : Option ℕ) × MayBeLast P m k (At 0) w
    by (inl writes) = (Some 0, here first writes)
    by (inr none) = (None, unwritten none)
last_of {P} {m} k stays (later {u} {v} come edge) = by (last_of k stays come) v edge
  where
    by : (w : Option ℕ) × MayBeLast P m k u w → (v : Node) → IsEdge P m u v → (w : Option ℕ) × MayBeLast P m k v w
    by earlier (RaiseAt p) edge = (earlier.0, before earlier.1 edge (λ h. absurd h))
    by earlier (At p) edge = by_writes (writes_or_not P m k p (stays p (later come edge)))
      where
        by_writes : Writes P m p k ⊎ (Writes P m p k → ⊥) → (w : Option ℕ) × MayBeLast P m k (At p) w
        by_writes (inl writes) = (Some p, here (later come edge) writes)
        by_writes (inr none) = (earlier.0, before earlier.1 edge none)

pub last_writes_exist : LastWritesExist
last_writes_exist P m k u stays come = last_of k stays come

-- ---- control comes to an unnamed place from the line before it

leads_behind : (p next q : ℕ) (r : Row) → LeadsTo p next r q → (Names p r q → ⊥) → q ≡ next
leads_behind p next q (rows.Jump offset) leads none = absurd (none leads)
leads_behind p next q (rows.Branch taken test offset) (inl leads) none = absurd (none leads)
leads_behind p next q (rows.Branch taken test offset) (inr leads) none = leads
leads_behind p next q (rows.BranchSame wanted offset) (inl leads) none = absurd (none leads)
leads_behind p next q (rows.BranchSame wanted offset) (inr leads) none = leads
leads_behind p next q (rows.BranchNull wanted offset) (inl leads) none = absurd (none leads)
leads_behind p next q (rows.BranchNull wanted offset) (inr leads) none = leads
leads_behind p next q (rows.Switch default cases) leads none = absurd (none leads)
leads_behind p next q (rows.Return result) leads none = absurd leads
leads_behind p next q rows.Throw leads none = absurd leads
leads_behind p next q r leads none = leads

module _ (apart : LinesAreApart) (stands : OneStandsBefore) (P : Program) (m : ℕ) (stays : StaysAtStarts P m) (p q : ℕ) (r : Row) (line : IsLine P m p q r) (unnamed : IsNamed P m q → ⊥) where
  came_by : {u : Node} → IsReached (IsEdge P m) u → u ≡ At q → IsReached (IsEdge P m) (At p)
  came_by (first) e =
      let behind : p < q = (apart P m p q p q r r line line).0 in
      absurd (let same = at_same 0 q e in omega arith)
  came_by (later {u} {v} come edge) e = by u come (subst (λ (x : Node). IsEdge P m u x) e edge)
    where
      by : (u : Node) → IsReached (IsEdge P m) u → IsEdge P m u (At q) → IsReached (IsEdge P m) (At p)
      by (At x) come leads =
          let row = some_is (row_in P m x) (λ (y : ℕ × Row). LeadsTo x y.0 y.1 q) leads in
          let before : IsLine P m x row.0.0 row.0.1 = record { start = stays x come; is = row.1 } in
          let next : q ≡ row.0.0 = leads_behind x row.0.0 q row.0.1 row.2 (λ names. unnamed (inl (x, row.0.0, row.0.1, before, names))) in
          let same : x ≡ p = stands P m x p q row.0.1 r (subst (λ (n : ℕ). IsLine P m x n row.0.1) (sym next) before) line in
          subst (λ (y : ℕ). IsReached (IsEdge P m) (At y)) same come
      by (RaiseAt x) come leads =
          let body = some_is (body_of P m) (λ (b : Body). IsHandled b.handlers x q) leads in
          let h = body.2 in
          absurd (unnamed (inr (some_in (body_of P m) body.0 (λ (b : Body). (h : Handler) × Contains b.handlers h × (h.target ≡ q)) body.1 (h.entry, h.among, h.handler))))

  pub came : IsReached (IsEdge P m) (At q) → IsReached (IsEdge P m) (At p)
  came come = came_by come refl
