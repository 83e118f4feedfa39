-- Control stays at the instructions of a method's code, and what is a call in a program is one of the table.
use Rattle.std.proofs.Common.{◌≡◌, ℕ, ◌+◌, true, List, [], map, Contains, Some, sym, ap, ◌∙◌, subst, Option, None, IsSomeAnd, refl}
use Rattle.std.specs.Prelude.{slice_get}
use Rattle.std.proofs.lemmas.List.Elements.{All-contains}
use Rattle.std.proofs.lemmas.Option.{slice_get-get_or, slice_get_within, get_or_from_slice_get}
use Rattle.lists.proofs.Lemmas.{some_is, some_in, holds_at}
use Rattle.lists.specs.Members.{map_contains, nil_contains}
use Rattle.std.specs.Option.{option_map_or}
use Rattle.loop_nest.proofs.Elements.{from_map}
use Rattle.opcodes.specs.Start.{IsStart, AreStarts}
use Rattle.bytecode_model.specs.Program.{Program, Body, body_of}
use Rattle.bytecode_model.specs.Rows as rows
use Rattle.bytecode_model.specs.Rows.{Row}
use Rattle.bytecode_model.specs.Steps.{row_in}
use Rattle.bytecode_model.specs.WellFormed.{is_call}
use Rattle.method_flow.specs.declared.flow.HandlerRange.{HandlerRange}
use Rattle.method_flow.specs.declared.flow.Call.{Call}
use Rattle.method_flow.specs.Calls.{IsCall, IsTarget, targets_of_row}
use Rattle.method_flow.specs.Flow.{Coded, IsCoded, IsCodedOf, IsRangeOf, range_of, places_of}
use Rattle.method_flow.specs.Kinds.{RowsAreOfTheirKinds}
use Rattle.method_flow.specs.Nodes.{Node, At, RaiseAt, LeadsTo, IsEdge, IsHandled}
use Rattle.flow_graph.proofs.Joining.{row_kind}

-- ---- calls by place

-- the call at a place
pub call_at : (calls : List Call) (p : ℕ) → Contains (places_of calls) p → (i : ℕ) × (c : Call) × (slice_get calls i ≡ Some c) × (c.place ≡ p)
call_at calls p among =
    let m = from_map (λ (c : Call). c.place) calls p among in
    let at = m.1 in
    (at.0, m.0, slice_get-get_or calls at.0 m.0 at.1 ∙ ap (λ (c : Call). Some c) at.2, m.2)

pub among_at : {X : Type 0} (xs : List X) (i : ℕ) (x : X) → slice_get xs i ≡ Some x → Contains xs x
among_at xs i x at = (i, slice_get_within xs i x at, get_or_from_slice_get xs i x x at)

pub place_among : (calls : List Call) (i : ℕ) (c : Call) → slice_get calls i ≡ Some c → Contains (places_of calls) c.place
place_among calls i c at = map_contains (λ (d : Call). d.place) calls c (among_at calls i c at)

-- ---- only an invoke has targets

row_calls : (P : Program) (r : Row) (x : ℕ) → Contains (targets_of_row P r) x → is_call r ≡ true
row_calls P (rows.CallStatic m) x has = refl
row_calls P (rows.CallSpecial named m) x has = refl
row_calls P (rows.CallVirtual named m) x has = refl
row_calls P (rows.CallInterface named m) x has = refl
row_calls P r x has = absurd (nil_contains x has)

pub target_calls : (P : Program) (m p x : ℕ) → IsTarget P m p x → IsCall P m p
target_calls P m p x target = by (row_in P m p) target
  where
    by : (o : Option (ℕ × Row)) → Contains (option_map_or (λ y. targets_of_row P y.1) o []) x → IsSomeAnd o (λ y. is_call y.1 ≡ true)
    by None has = absurd (nil_contains x has)
    by (Some y) has = row_calls P y.1 x has

-- ---- nodes at instructions

abbrev pub IsPlaced : Coded → Node → Type 0
IsPlaced k (At p) = IsStart k.code p
IsPlaced k (RaiseAt p) = IsStart k.code p

module _ (starts : (code : List ℕ) → AreStarts code) (kinds : RowsAreOfTheirKinds) (P : Program) (n : ℕ) (k : Coded) (c : IsCoded k) (of : IsCodedOf P n k) where
  pub body : (b : Body) × (body_of P n ≡ Some b) × ((b.code ≡ k.code) × (map range_of b.handlers ≡ k.ranges))
  body = some_is (body_of P n) (λ b. (b.code ≡ k.code) × (map range_of b.handlers ≡ k.ranges)) of.body

  pub first_placed : IsPlaced k (At 0)
  first_placed = (starts k.code).first c.not_empty

  pub next_placed : (s t : Node) → IsPlaced k s → IsEdge P n s t → IsPlaced k t
  next_placed (At p) (At q) start e =
      let stays = c.instructions p start in
      let i = stays.instr in
      let r = row_kind starts kinds P n k [] c of p start i stays.is in
      let l : LeadsTo p (p + i.length) r.0 q = holds_at (row_in P n p) (p + i.length, r.0) (λ x. LeadsTo p x.0 x.1 q) r.1 e in
      stays.leads q ((r.2.leads q).0 l)
  next_placed (At p) (RaiseAt q) start e = subst (IsStart k.code) (sym e.0) start
  next_placed (RaiseAt p) (At q) start e =
      let h = holds_at (body_of P n) body.0 (λ b. IsHandled b.handlers p q) body.1 e in
      let R : List HandlerRange → Type 0 = λ rs. Contains rs (range_of h.entry) in
      let among = subst R body.2.1 (map_contains range_of body.0.handlers h.entry h.among) in
      subst (IsStart k.code) h.handler (All-contains (IsRangeOf k.code) k.ranges (range_of h.entry) c.ranges among).handler
  next_placed (RaiseAt p) (RaiseAt q) start e = absurd e

  -- a call at an instruction is one of the table
  pub call_listed : (p : ℕ) → IsStart k.code p → IsCall P n p → Contains (places_of k.calls) p
  call_listed p start call =
      let stays = c.instructions p start in
      let i = stays.instr in
      let r = row_kind starts kinds P n k [] c of p start i stays.is in
      let is : is_call r.0 ≡ true = holds_at (row_in P n p) (p + i.length, r.0) (λ x. is_call x.1 ≡ true) r.1 call in
      (c.calls p).1 (record { start = start; instr = i; is = stays.is; invokes = r.2.calls.0 is })

  -- and each of the table's is a call
  pub listed_calls : (p : ℕ) → Contains (places_of k.calls) p → IsCall P n p
  listed_calls p among =
      let v = (c.calls p).0 among in
      let r = row_kind starts kinds P n k [] c of p v.start v.instr v.is in
      some_in (row_in P n p) (p + v.instr.length, r.0) (λ x. is_call x.1 ≡ true) r.1 (r.2.calls.1 v.invokes)
