-- An invoke may raise, and the raise step at it is an exit.
use Rattle.std.proofs.Common.{◌≡◌, ℕ, ◌+◌, ◌*◌, ◌≤◌, true, List, [], ◌∷◌, ◌++◌, length, Contains, count_by, eqb, cond, refl, sym, ap, ◌∙◌, subst, inl, inr, arith}
use Rattle.std.proofs.lemmas.Bool.{cases_eq, ne_eqb, cond-false}
use Rattle.std.proofs.lemmas.List.{length-append}
use Rattle.std.proofs.lemmas.List.Sums.{sum_by-cons}
use Rattle.std.proofs.lemmas.List.Elements.{All-contains}
use Rattle.lists.proofs.Lemmas.{onto_some, some_is, some_in}
use Rattle.lists.specs.Members.{heads, tails}
use Rattle.loop_nest.specs.Digraph.{Digraph, Edge}
use Rattle.loop_nest.specs.Walks.Walk.{stay, along}
use Rattle.loop_nest.specs.Nest.{NaturalLoop, IsLoopOf, IsNest}
use Rattle.section_check.specs.Bounded.{BoundedLoop, IsKept, IsBoundedWalk}
use Rattle.path_solver.specs.Laws.{LeadsOut, LiesOnBoundedWalk}
use Rattle.path_solver.specs.Longest.{bounded_loops}
use Rattle.opcodes.specs.declared.instruction.Instr.{Instr}
use Rattle.opcodes.specs.Row as opcodes
use Rattle.bytecode_model.specs.Program.{Program, body_of, instr_at}
use Rattle.bytecode_model.specs.Rows.{Row}
use Rattle.bytecode_model.specs.Steps.{row_in}
use Rattle.bytecode_model.specs.WellFormed.{is_call}
use Rattle.method_flow.specs.Calls.{IsCall}
use Rattle.method_flow.specs.Graphs.{IsLiveGraph}
use Rattle.method_flow.specs.Kinds.{CallsAreInvokes}
use Rattle.method_flow.specs.Live.{IsLiveEdge}
use Rattle.method_flow.specs.Nodes.{At, RaiseAt, MayRaise, IsReached}
use Rattle.method_flow.specs.Nodes.IsReached.{later}
use Rattle.bound_rules.specs.Laws.{HeadersAreInstructions}
use Rattle.bound_rules.proofs.Valuing.{in_nest}
use Rattle.bound_finder.proofs.Reached.{reachable}

-- ---- invokes

may_raise : (op : ℕ) → 182 ≤ op → op ≤ 185 → (opcodes.row_of op).raises ≡ true
unfolding opcodes.row_of
may_raise op from to =
    let R : ℕ → Type 0 = λ o. (opcodes.row_of o).raises ≡ true in
    elim (cases_eq op 182) [
      | inl e ↦ subst R (sym e) refl
      | inr a ↦
          elim (cases_eq op 183) [
            | inl e ↦ subst R (sym e) refl
            | inr b ↦
                elim (cases_eq op 184) [
                  | inl e ↦ subst R (sym e) refl
                  | inr d ↦ let e : op ≡ 185 = omega arith in subst R (sym e) refl
                ]
          ]
    ]

pub call_raises : CallsAreInvokes → (P : Program) (m p : ℕ) → IsCall P m p → IsLiveEdge P m (At p) (RaiseAt p)
call_raises invokes P m p call =
    let found = some_is (row_in P m p) (λ (x : ℕ × Row). is_call x.1 ≡ true) call in
    let body = onto_some (body_of P m) _ found.0 found.1 in
    let instr = onto_some (instr_at P m p) _ found.0 body.2 in
    let invoke = invokes P m p found.0.0 body.0 instr.0 found.0.1 body.1 instr.1 found.1 found.2 in
    let may : MayRaise P m p = some_in (instr_at P m p) instr.0 (λ (i : Instr). (opcodes.row_of i.op).raises ≡ true) instr.1 (may_raise instr.0.op invoke.from invoke.to) in
    record { edge = (refl, may); goes_on = tt }

-- ---- bounds of two nodes

-- a walk of two nodes doesn't come back to a header that the second one isn't
pair_kept : (a b : ℕ) (l : BoundedLoop) → (b ≡ l.header → ⊥) → IsKept (a ∷ b ∷ []) l
pair_kept a b l apart before [] after is all = omega arith
pair_kept a b l apart before (x ∷ []) after is all = omega arith
pair_kept a b l apart [] (x ∷ y ∷ rest) after is all =
    let tail = tails a x (b ∷ []) (y ∷ rest ++ after) is in
    let same : b ≡ y = heads b y [] (rest ++ after) tail in
    let none = ap length (tails b y [] (rest ++ after) tail) in
    let zero : length rest ≡ 0 = omega (arith, length-append rest after) in
    let counted : count_by (λ z. eqb z l.header) (y ∷ rest) ≡ cond {A = ℕ} (eqb y l.header) 1 0 + count_by (λ z. eqb z l.header) rest = sum_by-cons (λ (z : ℕ). cond {A = ℕ} (eqb z l.header) 1 0) y rest in
    let other : cond {A = ℕ} (eqb y l.header) 1 0 ≡ 0 = cond-false {A = ℕ} (eqb y l.header) 1 0 (ne_eqb y l.header (λ e. apart (same ∙ e))) in
    let left = none_counted rest zero in
    let few : count_by (λ z. eqb z l.header) (y ∷ rest) ≤ l.bound = omega arith in
    few
  where
    none_counted : (xs : List ℕ) → length xs ≡ 0 → count_by (λ x. eqb x l.header) xs ≡ 0
    none_counted [] e = refl
    none_counted (x ∷ xs) e = absurd (omega arith)
pair_kept a b l apart (z ∷ zs) (x ∷ y ∷ rest) after is all =
    let long = ap length is in
    absurd (omega (arith, length-append (zs ++ x ∷ y ∷ rest) after, length-append zs (x ∷ y ∷ rest)))

-- ---- loops of a nest

module _ (invokes : CallsAreInvokes) (headers : HeadersAreInstructions) (lies : LiesOnBoundedWalk) (P : Program) (m : ℕ) (g : Digraph) (live : IsLiveGraph P m g) (nest : List NaturalLoop) (is_nest : IsNest g nest) (bounds fees : List ℕ) where
  -- no header is a raise step
  header_even : (l : BoundedLoop) → Contains (bounded_loops nest bounds fees) l → (p : ℕ) → 2 * p + 1 ≡ l.header → ⊥
  header_even l has p e =
      let k = in_nest nest bounds fees l has in
      let loop = All-contains (IsLoopOf g) nest k.0 is_nest.loops k.1 in
      let q = headers P m g k.0.header (inr live) loop.header in
      let at = q.1 in
      let same = k.2 in
      omega arith

  leads_out : (p : ℕ) → IsReached (IsLiveEdge P m) (At p) → IsCall P m p → LeadsOut g (bounded_loops nest bounds fees) (2 * p)
  leads_out p reached call =
      let raises = call_raises invokes P m p call in
      let edge : Edge g (2 * p) (2 * p + 1) = (live.edges (2 * p) (2 * p + 1)).1 (record { source = At p; target = RaiseAt p; reached = reached; edge = raises; numbered = (refl, refl) }) in
      record {
        exit = 2 * p + 1;
        among = (live.exits (2 * p + 1)).1 (record { node = RaiseAt p; reached = later reached raises; exit = tt; numbered = refl });
        nodes = (2 * p) ∷ (2 * p + 1) ∷ [];
        walk = along edge stay;
        kept = λ l has zero. pair_kept (2 * p) (2 * p + 1) l (header_even l has p);
      }

  -- an invoke that is reached lies on a walk that keeps the bounds
  pub call_on_walk : (p : ℕ) → IsReached (IsLiveEdge P m) (At p) → IsCall P m p → (ns : List ℕ) × IsBoundedWalk g (bounded_loops nest bounds fees) ns × Contains ns (2 * p)
  call_on_walk p reached call = lies g nest bounds fees is_nest (2 * p) (reachable P m g live reached) (leads_out p reached call)
