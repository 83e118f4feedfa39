-- The methods of a well placed program are of the form of the table.
use Rattle.std.proofs.Common.{◌≡◌, ◌⊎◌, ◌↔◌, ℕ, zero, suc, ◌+◌, ◌<◌, ◌≤◌, Bool, true, cond, List, [], ◌∷◌, map, length, Contains, Option, Some, None, Result, Ok, Err, refl, sym, ap, ◌∙◌, subst, inl, inr, arith}
use Rattle.std.specs.Prelude.{All, is_some}
use Rattle.std.specs.Option.{option_map}
use Rattle.std.specs.List.{AllByRecursion, filter, filter_map, cons_option}
use Rattle.std.specs.List.Sorted.{IsStrictlyIncreasing}
use Rattle.std.proofs.lemmas.Bool.{false≢true}
use Rattle.std.proofs.lemmas.List.Kept.{IsStrictlyIncreasing-filter}
use Rattle.opcodes.specs.declared.instruction.Instr.{Instr}
use Rattle.opcodes.specs.declared.instruction.Case.{Case}
use Rattle.opcodes.specs.declared.instruction.DecodeFault.{DecodeFault}
use Rattle.opcodes.specs.declared.table.Kind.TheVariants.{Invoke}
use Rattle.opcodes.specs.Instruction.{decoded}
use Rattle.opcodes.specs.Row as opcodes
use Rattle.opcodes.specs.Start.{starts_of, IsStart, AreStarts}
use Rattle.lists.specs.Lists.{onto}
use Rattle.lists.proofs.Lemmas.{none≢some, some_same, holds_at}
use Rattle.lists.specs.Members.{at_head, in_tail, map_contains}
use Rattle.bytecode_model.specs.Program.{Program, Body, Handler, as_instr, body_of}
use Rattle.bytecode_model.specs.Rows as rows
use Rattle.bytecode_model.specs.Rows.{Row}
use Rattle.bytecode_model.specs.Steps.{row_in}
use Rattle.bytecode_model.specs.WellFormed.{is_call}
use Rattle.bytecode_typing.specs.PlacedLaws.{MayGoTo, ControlStays}
use Rattle.bytecode_typing.specs.WellPlaced.{IsWellPlacedAt, IsWellPlacedHandler, WellPlaced}
use Rattle.method_flow.specs.declared.flow.HandlerRange.{HandlerRange}
use Rattle.method_flow.specs.declared.flow.Call.{Call}
use Rattle.method_flow.specs.Flow.{StaysInCode, IsRangeOf, IsInvokeStart, places_of, IsCoded, range_of}
use Rattle.method_flow.specs.Kinds.{RowsAreOfTheirKinds}
use Rattle.method_flow.specs.Nodes.{LeadsTo}
use Rattle.flow_table.specs.declared.invokes.Invoked.{Invoked}
use Rattle.flow_table.specs.Invokes.{invoked_by, invoked_at, call_of, call_at, calls_in}
use Rattle.flow_table.proofs.Listing.{filter_found, filter_in}

-- ---- where rows lead

-- where a row leads, control may go
may_go : (p next : ℕ) (r : Row) (q : ℕ) → LeadsTo p next r q → MayGoTo p next r q
may_go p next (rows.Jump offset) q h = inr (offset, at_head offset [], h)
may_go p next (rows.Branch taken test offset) q (inl h) = inr (offset, at_head offset [], h)
may_go p next (rows.Branch taken test offset) q (inr h) = inl (refl, h)
may_go p next (rows.BranchSame wanted offset) q (inl h) = inr (offset, at_head offset [], h)
may_go p next (rows.BranchSame wanted offset) q (inr h) = inl (refl, h)
may_go p next (rows.BranchNull wanted offset) q (inl h) = inr (offset, at_head offset [], h)
may_go p next (rows.BranchNull wanted offset) q (inr h) = inl (refl, h)
may_go p next (rows.Switch otherwise cases) q (inl h) = inr (otherwise, at_head otherwise (map (λ (c : Case). c.offset) cases), h)
may_go p next (rows.Switch otherwise cases) q (inr h) =
    inr (h.0.offset, in_tail otherwise h.0.offset (map (λ (c : Case). c.offset) cases) (map_contains (λ (c : Case). c.offset) cases h.0 h.1), h.2)
may_go p next (rows.Return result) q h = absurd h
may_go p next rows.Throw q h = absurd h
may_go p next rows.Nothing q h = inl (refl, h)
may_go p next (rows.Push v) q h = inl (refl, h)
may_go p next (rows.Compute a b c) q h = inl (refl, h)
may_go p next (rows.Load a b) q h = inl (refl, h)
may_go p next (rows.Store a b) q h = inl (refl, h)
may_go p next (rows.Increment a b) q h = inl (refl, h)
may_go p next (rows.Shuffle a b c) q h = inl (refl, h)
may_go p next (rows.GetStatic k) q h = inl (refl, h)
may_go p next (rows.PutStatic k) q h = inl (refl, h)
may_go p next (rows.GetField a b c) q h = inl (refl, h)
may_go p next (rows.PutField a b c) q h = inl (refl, h)
may_go p next (rows.New c) q h = inl (refl, h)
may_go p next (rows.NewNumbers c) q h = inl (refl, h)
may_go p next (rows.NewReferences k) q h = inl (refl, h)
may_go p next rows.Length q h = inl (refl, h)
may_go p next (rows.LoadNumber a b) q h = inl (refl, h)
may_go p next (rows.StoreNumber a b c) q h = inl (refl, h)
may_go p next rows.LoadReference q h = inl (refl, h)
may_go p next rows.StoreReference q h = inl (refl, h)
may_go p next (rows.Cast k) q h = inl (refl, h)
may_go p next (rows.Test k) q h = inl (refl, h)
may_go p next rows.Monitor q h = inl (refl, h)
may_go p next (rows.CallStatic m) q h = inl (refl, h)
may_go p next (rows.CallSpecial named m) q h = inl (refl, h)
may_go p next (rows.CallVirtual named m) q h = inl (refl, h)
may_go p next (rows.CallInterface named m) q h = inl (refl, h)
may_go p next rows.Read q h = inl (refl, h)
may_go p next rows.Write q h = inl (refl, h)

-- a call's row invokes
call_invokes : (r : Row) → is_call r ≡ true → is_some (invoked_by r) ≡ true
call_invokes (rows.CallStatic m) h = refl
call_invokes (rows.CallSpecial named m) h = refl
call_invokes (rows.CallVirtual named m) h = refl
call_invokes (rows.CallInterface named m) h = refl
call_invokes r h = absurd (false≢true h)

invokes_call : (r : Row) → is_some (invoked_by r) ≡ true → is_call r ≡ true
invokes_call (rows.CallStatic m) h = refl
invokes_call (rows.CallSpecial named m) h = refl
invokes_call (rows.CallVirtual named m) h = refl
invokes_call (rows.CallInterface named m) h = refl
invokes_call r h = absurd (false≢true h)

-- ---- the invokes

abbrev invokes_at : Program → (method : ℕ) → ℕ → Bool
invokes_at P m p = is_some (invoked_at P m p)

place_case : (coded x : ℕ) (o : Option Invoked) (cs : List Call) → places_of (cons_option (option_map (call_of coded x) o) cs) ≡ cond (is_some o) (x ∷ places_of cs) (places_of cs)
place_case coded x None cs = refl
place_case coded x (Some i) cs = refl

places_are : (P : Program) (coded m : ℕ) (xs : List ℕ) → places_of (filter_map (call_at P coded m) xs) ≡ filter (invokes_at P m) xs
places_are P coded m [] = refl
places_are P coded m (x ∷ xs) =
    place_case coded x (invoked_at P m x) (filter_map (call_at P coded m) xs) ∙ ap (λ (ps : List ℕ). cond (invokes_at P m x) (x ∷ ps) ps) (places_are P coded m xs)

ok_is : (r : Result Instr DecodeFault) (i : Instr) → as_instr r ≡ Some i → r ≡ Ok i
ok_is (Ok j) i h = ap (λ (k : Instr). Ok k) (some_same j i h)
ok_is (Err e) i h = absurd (none≢some i h)

instr_same : (i j : Instr) (r : Result Instr DecodeFault) → r ≡ Ok i → r ≡ Ok j → i ≡ j
instr_same i j r h k = some_same i j (sym (ap as_instr h) ∙ ap as_instr k)

-- ---- the exception table

all_ranges : (code : List ℕ) → AreStarts code → (hs : List Handler) → AllByRecursion (IsWellPlacedHandler code) hs → All (IsRangeOf code) (map range_of hs)
all_ranges code starts [] w k d lt = absurd (omega (arith, lt))
all_ranges code starts (h ∷ hs) w zero d lt = record { end = ends w.0.end; handler = w.0.target }
  where
    ends : IsStart code h.end ⊎ (h.end ≡ length code) → h.end ≤ length code
    ends (inl at) = let below = starts.within_code h.end at in omega arith
    ends (inr is) = omega arith
all_ranges code starts (h ∷ hs) w (suc k) d lt = all_ranges code starts hs w.1 k d (omega (arith, lt))

-- ---- the method

module _ (stays : ControlStays) (starts : (code : List ℕ) → AreStarts code) (kinds : RowsAreOfTheirKinds) (P : Program) (w : WellPlaced P) (m : ℕ) (b : Body) (eb : body_of P m ≡ Some b) where
  at : (p : ℕ) → IsStart b.code p → IsWellPlacedAt P m b p
  at p start = (w m b eb).instructions p start

  instr_is : (p : ℕ) (start : IsStart b.code p) → decoded b.code p ≡ Ok (at p start).instr
  instr_is p start = ok_is (decoded b.code p) (at p start).instr (sym (ap (λ o. onto o (λ (b : Body). as_instr (decoded b.code p))) eb) ∙ (at p start).has_instr)

  stays_in : (p : ℕ) → IsStart b.code p → StaysInCode b.code p
  stays_in p start =
      let a = at p start in
      let kind = (kinds P m p (p + a.instr.length) b a.instr a.row eb a.has_instr a.has_row).1 in
      record {
        instr = a.instr;
        is = instr_is p start;
        leads = λ q l.
            let go = may_go p (p + a.instr.length) a.row q ((kind.leads q).1 l) in
            (holds_at (row_in P m p) (p + a.instr.length, a.row) _ a.has_row (stays P w m b eb p start) q go).0;
      }

  invoked_is : (p : ℕ) (start : IsStart b.code p) → invoked_at P m p ≡ invoked_by (at p start).row
  invoked_is p start = ap (λ o. onto o (λ (x : ℕ × Row). invoked_by x.1)) (at p start).has_row

  calls_are : (coded p : ℕ) → Contains (places_of (calls_in P coded m b.code)) p ↔ IsInvokeStart b.code p
  calls_are coded p = (λ c. to (filter_found (invokes_at P m) (starts_of b.code) p (subst (λ (xs : List ℕ). Contains xs p) (places_are P coded m (starts_of b.code)) c)), λ i. from i)
    where
      to : IsStart b.code p × (invokes_at P m p ≡ true) → IsInvokeStart b.code p
      to h =
          let a = at p h.0 in
          let kind = (kinds P m p (p + a.instr.length) b a.instr a.row eb a.has_instr a.has_row).1 in
          record {
            start = h.0;
            instr = a.instr;
            is = instr_is p h.0;
            invokes = kind.calls.0 (invokes_call a.row (sym (ap (λ (o : Option Invoked). is_some o) (invoked_is p h.0)) ∙ h.1));
          }

      from : IsInvokeStart b.code p → Contains (places_of (calls_in P coded m b.code)) p
      from i =
          let a = at p i.start in
          let kind = (kinds P m p (p + a.instr.length) b a.instr a.row eb a.has_instr a.has_row).1 in
          let same : i.instr ≡ a.instr = instr_same i.instr a.instr (decoded b.code p) i.is (instr_is p i.start) in
          let invokes : (opcodes.row_of a.instr.op).kind ≡ Invoke = ap (λ (x : Instr). (opcodes.row_of x.op).kind) (sym same) ∙ i.invokes in
          let test : invokes_at P m p ≡ true = ap (λ (o : Option Invoked). is_some o) (invoked_is p i.start) ∙ call_invokes a.row (kind.calls.1 invokes) in
          subst (λ (xs : List ℕ). Contains xs p) (sym (places_are P coded m (starts_of b.code))) (filter_in (invokes_at P m) (starts_of b.code) p i.start test)

  of_form : (coded : ℕ) (name : List ℕ) → length b.code < 65536 → length (map range_of b.handlers) < 65536
      → IsCoded (record { name = name; code = b.code; ranges = map range_of b.handlers; calls = calls_in P coded m b.code })
  of_form coded name short few = record {
    not_empty = (w m b eb).not_empty;
    short = short;
    instructions = stays_in;
    few_ranges = few;
    ranges = all_ranges b.code (starts b.code) b.handlers (w m b eb).handlers;
    rising = subst (λ (ps : List ℕ). IsStrictlyIncreasing ps) (sym (places_are P coded m (starts_of b.code))) (IsStrictlyIncreasing-filter (invokes_at P m) (starts_of b.code) (starts b.code).rising);
    calls = calls_are coded;
  }

  pub is_coded : (coded : ℕ) (name code : List ℕ) (ranges : List HandlerRange) (calls : List Call) → b.code ≡ code → map range_of b.handlers ≡ ranges → calls ≡ calls_in P coded m code → length code < 65536 → length ranges < 65536
      → IsCoded (record { name = name; code = code; ranges = ranges; calls = calls })
  is_coded coded name code ranges calls ec er is short few =
      let here = of_form coded name (subst (λ (xs : List ℕ). length xs < 65536) (sym ec) short) (subst (λ (rs : List HandlerRange). length rs < 65536) (sym er) few) in
      let with_ranges = subst (λ (rs : List HandlerRange). IsCoded (record { name = name; code = b.code; ranges = rs; calls = calls_in P coded m b.code })) er here in
      let with_code = subst (λ (xs : List ℕ). IsCoded (record { name = name; code = xs; ranges = ranges; calls = calls_in P coded m xs })) ec with_ranges in
      subst (λ (cs : List Call). IsCoded (record { name = name; code = code; ranges = ranges; calls = cs })) (sym is) with_code
