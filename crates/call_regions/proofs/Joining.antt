-- The calls in the table of a program are those of the program.
use Rattle.std.proofs.Common.{◌≡◌, ℕ, true, List, [], ◌∷◌, map, Contains, Option, Some, None, Ok, Result, refl, sym, ap, ◌∙◌, subst, inl, inr, IsSomeAnd}
use Rattle.std.specs.Option.{option_map_or}
use Rattle.opcodes.specs.declared.instruction.Instr.{Instr}
use Rattle.opcodes.specs.declared.instruction.DecodeFault.{DecodeFault}
use Rattle.opcodes.specs.Instruction.{decoded}
use Rattle.opcodes.specs.Start.{IsStart}
use Rattle.bytecode_model.specs.Program.{Program, Body, as_instr, body_of, instr_at}
use Rattle.bytecode_model.specs.Rows as rows
use Rattle.bytecode_model.specs.Rows.{Row}
use Rattle.bytecode_model.specs.Steps.{row_in}
use Rattle.bytecode_model.specs.WellFormed.{is_call}
use Rattle.lists.proofs.Lemmas.{onto_some, some_same, some_is, some_in, holds_at}
use Rattle.lists.specs.Members.{at_head, in_tail, cons_cases, nil_contains, map_contains}
use Rattle.method_flow.specs.declared.flow.Call.{Call}
use Rattle.method_flow.specs.Calls.{targets_of_row, IsTarget, IsCall, IsStartOf}
use Rattle.method_flow.specs.Flow.{Flow, IsFlowOf, IsInvokeStart, range_of, targets_of_call}
use Rattle.method_flow.specs.Kinds.{RowsAreOfTheirKinds}
use Rattle.call_regions.specs.Calling.{MayCallAt}
use Rattle.call_regions.specs.Laws.{RunsAreCalls}
use Rattle.call_regions.specs.Tables.{IsOfTable, RunsFrom}

map_found : {X Y : Type 0} (f : X → Y) (xs : List X) (y : Y) → Contains (map f xs) y → (x : X) × Contains xs x × (f x ≡ y)
map_found f [] y c = absurd (nil_contains y c)
map_found f (x ∷ xs) y c =
    elim (cons_cases (f x) y (map f xs) c) [
      | inl same ↦ (x, at_head x xs, same)
      | inr there ↦ let found = map_found f xs y there in (found.0, in_tail x found.0 xs found.1, found.2)
    ]

-- a row with targets is a call
call_of : (P : Program) (r : Row) (t : ℕ) → Contains (targets_of_row P r) t → is_call r ≡ true
call_of P (rows.CallStatic m) t c = refl
call_of P (rows.CallSpecial named m) t c = refl
call_of P (rows.CallVirtual named m) t c = refl
call_of P (rows.CallInterface named m) t c = refl
call_of P r t c = absurd (nil_contains t c)

call_at : (P : Program) (o : Option (ℕ × Row)) (t : ℕ) → Contains (option_map_or (λ x. targets_of_row P x.1) o []) t → IsSomeAnd o (λ x. is_call x.1 ≡ true)
call_at P None t c = absurd (nil_contains t c)
call_at P (Some x) t c = call_of P x.1 t c

decoded_as : (r : Result Instr DecodeFault) (i : Instr) → as_instr r ≡ Some i → r ≡ Ok i
decoded_as (Ok j) i e = ap Ok (some_same j i e)
decoded_as r i e = absurd (cc)

module _ (P : Program) (f : Flow) (m : ℕ) (flow : IsFlowOf P f) (code : IsOfTable f m) where
  is_body : (b : Body) × (body_of P m ≡ Some b) × (b.code ≡ code.method.code)
  is_body =
      let of = flow.methods m code.method code.is in
      let found = some_is (body_of P m) (λ (b : Body). (b.code ≡ code.method.code) × (map range_of b.handlers ≡ code.method.ranges)) of.body in
      (found.0, found.1, found.2.0)

  may_run : (place t : ℕ) (k : IsOfTable f m) (c : Call) → Contains k.method.calls c → c.place ≡ place → Contains (targets_of_call f c) t → MayCallAt P m place t
  may_run place t k c among at lists =
      let invoke = (k.coded.calls c.place).0 (map_contains (λ (d : Call). d.place) k.method.calls c among) in
      let of = flow.methods m k.method k.is in
      let found = some_is (body_of P m) (λ (b : Body). (b.code ≡ k.method.code) × (map range_of b.handlers ≡ k.method.ranges)) of.body in
      let target = (flow.targets m k.method c k.is among t).0 lists in
      let here : MayCallAt P m c.place t = record {
        start = some_in (body_of P m) found.0 (λ (b : Body). IsStart b.code c.place) found.1 (let S : List ℕ → Type 0 = λ xs. IsStart xs c.place in subst S (sym found.2.0) invoke.start);
        call = call_at P (row_in P m c.place) t target;
        is_target = target;
      } in
      let Q : ℕ → Type 0 = λ p. MayCallAt P m p t in
      subst Q at here

  invoke_start : RowsAreOfTheirKinds → (place : ℕ) → IsStartOf P m place → IsCall P m place → IsInvokeStart code.method.code place
  invoke_start kinds place start call =
      let body = is_body in
      let here : IsStart body.0.code place = holds_at (body_of P m) body.0 (λ (b : Body). IsStart b.code place) body.1 start in
      let found = some_is (row_in P m place) (λ (x : ℕ × Row). is_call x.1 ≡ true) call in
      let x = found.0 in
      let row = onto_some (body_of P m) _ x found.1 in
      let instr = onto_some (instr_at P m place) _ x row.2 in
      let i = instr.0 in
      let decoding = onto_some (body_of P m) (λ (b : Body). as_instr (decoded b.code place)) i instr.1 in
      let kind = kinds P m place x.0 row.0 i x.1 row.1 instr.1 found.1 in
      let same = some_same decoding.0 body.0 (sym decoding.1 ∙ body.1) in
      let D : List ℕ → Type 0 = λ xs. decoded xs place ≡ Ok i in
      let S : List ℕ → Type 0 = λ xs. IsStart xs place in
      record {
        start = subst S body.2 here;
        instr = i;
        is = subst D (ap (λ (b : Body). b.code) same ∙ body.2) (decoded_as (decoded decoding.0.code place) i decoding.2);
        invokes = kind.1.calls.0 found.2;
      }

  runs : RowsAreOfTheirKinds → (place t : ℕ) → MayCallAt P m place t → RunsFrom f m place t
  runs kinds place t may =
      let listed = (code.coded.calls place).1 (invoke_start kinds place may.start may.call) in
      let found = map_found (λ (d : Call). d.place) code.method.calls place listed in
      let T : ℕ → Type 0 = λ p. IsTarget P m p t in
      record {
        code = code;
        call = found.0;
        among = found.1;
        at = found.2;
        lists = (flow.targets m code.method found.0 code.is found.1 t).1 (subst T (sym found.2) may.is_target);
      }

pub runs_are_calls : RowsAreOfTheirKinds → RunsAreCalls
runs_are_calls kinds P f m place t flow code = (
  λ r. may_run P f m flow code place t r.code r.call r.among r.at r.lists,
  runs P f m flow code kinds place t,
)
