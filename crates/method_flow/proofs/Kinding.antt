-- What the rows of the table say of control is what the kinds of their opcodes say.
use Rattle.std.proofs.Common.{◌≡◌, ◌⊎◌, ◌↔◌, ℕ, ◌+◌, ◌<◌, ◌≤◌, Bool, true, false, ◌==◌, List, [], ◌∷◌, Contains, Some, Result, Ok, Err, ℤ, pos, ◌+ℤ◌, map, refl, sym, ap, ◌∙◌, subst, inl, inr, ltb-true, arith}
use Rattle.std.specs.Prelude.{if◌then◌else◌}
use Rattle.opcodes.specs.declared.instruction.Instr.{Instr}
use Rattle.opcodes.specs.declared.instruction.Case.{Case}
use Rattle.opcodes.specs.declared.instruction.DecodeFault.{DecodeFault}
use Rattle.opcodes.specs.declared.instruction.DecodeFault.TheVariants.{Short}
use Rattle.opcodes.specs.declared.table.Kind.{Kind}
use Rattle.opcodes.specs.declared.table.Kind.TheVariants.{Plain, Branch, Jump, Switch, Return, Throw, Invoke}
use Rattle.opcodes.specs.Bytes.{u1}
use Rattle.opcodes.specs.Form.{Operands, Form, NotAnOpcode, Fixed, Widened, TableSwitch, LookupSwitch, Wide}
use Rattle.opcodes.specs.Instruction.{decoded, within, widened_at, spelled_at}
use Rattle.opcodes.specs.Reading.{InstructionsAreOfTheirForm, IsOfForm}
use Rattle.opcodes.specs.Row as opcodes
use Rattle.opcodes.specs.Target.{cases_of, targets_of, TargetsFitKind}
use Rattle.bytecode_model.specs.Program.{Program, Body, as_instr, body_of, instr_at}
use Rattle.bytecode_model.specs.Rows as rows
use Rattle.bytecode_model.specs.Rows.{Row}
use Rattle.bytecode_model.specs.Table.{row_of}
use Rattle.bytecode_model.specs.Steps.{row_in}
use Rattle.bytecode_model.specs.WellFormed.{is_call}
use Rattle.lists.proofs.Lemmas.{onto_some, some_same}
use Rattle.lists.specs.Members.{at_head, in_tail, cons_cases, nil_contains, map_contains}
use Rattle.method_flow.specs.Nodes.{IsAtOffset, LeadsTo, IsReturn}
use Rattle.method_flow.specs.Kinds.{LeadsByKind, IsOfKind, RowsAreOfTheirKinds, CallsAreInvokes}
use Rattle.method_flow.proofs.Tabling.{IsOf, row_is}

-- ---- lists

single : {X : Type 0} (x y : X) → Contains (x ∷ []) y → x ≡ y
single x y c = elim (cons_cases x y [] c) [ inl same ↦ same | inr there ↦ absurd (nil_contains y there) ]

map_found : {X Y : Type 0} (f : X → Y) (xs : List X) (y : Y) → Contains (map f xs) y → (x : X) × Contains xs x × (f x ≡ y)
map_found f [] y c = absurd (nil_contains y c)
map_found f (x ∷ xs) y c =
    elim (cons_cases (f x) y (map f xs) c) [
      | inl same ↦ (x, at_head x xs, same)
      | inr there ↦ let found = map_found f xs y there in (found.0, in_tail x found.0 xs found.1, found.2)
    ]

-- ---- rows

module _ (kind : Kind) (named : List ℤ) (p next : ℕ) (r : Row) where
  -- a row that leads to the next instruction alone
  goes_on : kind ≡ Plain → ((q : ℕ) → LeadsTo p next r q ↔ (q ≡ next)) → (IsReturn r → ⊥) → is_call r ≡ false → IsOfKind kind named p next r
  goes_on is leads none plain =
      let K : Kind → Type 0 = λ k. IsOfKind k named p next r in
      subst K (sym is) (record { leads = leads; returns = (λ x. absurd (none x), λ e. absurd (cc)); calls = (λ e. absurd (cc), λ e. absurd (cc)) })

  calls_on : kind ≡ Invoke → ((q : ℕ) → LeadsTo p next r q ↔ (q ≡ next)) → (IsReturn r → ⊥) → is_call r ≡ true → IsOfKind kind named p next r
  calls_on is leads none call =
      let K : Kind → Type 0 = λ k. IsOfKind k named p next r in
      subst K (sym is) (record { leads = leads; returns = (λ x. absurd (none x), λ e. absurd (cc)); calls = (λ e. refl, λ e. call) })

  -- a conditional branch
  branches : kind ≡ Branch → (offset : ℤ) → named ≡ (pos p +ℤ offset) ∷ [] → ((q : ℕ) → LeadsTo p next r q ↔ (IsAtOffset p offset q ⊎ (q ≡ next))) → (IsReturn r → ⊥) → is_call r ≡ false
      → IsOfKind kind named p next r
  branches is offset names leads none plain =
      let K : Kind → Type 0 = λ k. IsOfKind k named p next r in
      subst K (sym is) (record { leads = by; returns = (λ x. absurd (none x), λ e. absurd (cc)); calls = (λ e. absurd (cc), λ e. absurd (cc)) })
    where
      to : (q : ℕ) → IsAtOffset p offset q ⊎ (q ≡ next) → Contains named (pos q) ⊎ (q ≡ next)
      to q (inl at) = inl (subst (λ (xs : List ℤ). Contains xs (pos q)) (sym names) (subst (λ (z : ℤ). Contains ((pos p +ℤ offset) ∷ []) z) at (at_head (pos p +ℤ offset) [])))
      to q (inr further) = inr further

      from : (q : ℕ) → Contains named (pos q) ⊎ (q ≡ next) → IsAtOffset p offset q ⊎ (q ≡ next)
      from q (inl c) = inl (single (pos p +ℤ offset) (pos q) (subst (λ (xs : List ℤ). Contains xs (pos q)) names c))
      from q (inr further) = inr further

      by : (q : ℕ) → LeadsTo p next r q ↔ LeadsByKind Branch named next q
      by q = (λ x. to q ((leads q).0 x), λ x. (leads q).1 (from q x))

jumps : (kind : Kind) (named : List ℤ) (p next : ℕ) (offset : ℤ) → kind ≡ Jump → named ≡ (pos p +ℤ offset) ∷ [] → IsOfKind kind named p next (rows.Jump offset)
jumps kind named p next offset is names =
    let r = rows.Jump offset in
    let K : Kind → Type 0 = λ k. IsOfKind k named p next r in
    subst K (sym is) (record { leads = by; returns = (λ x. absurd x, λ e. absurd (cc)); calls = (λ e. absurd (cc), λ e. absurd (cc)) })
  where
    by : (q : ℕ) → IsAtOffset p offset q ↔ Contains named (pos q)
    by q = (
      λ at. subst (λ (xs : List ℤ). Contains xs (pos q)) (sym names) (subst (λ (z : ℤ). Contains ((pos p +ℤ offset) ∷ []) z) at (at_head (pos p +ℤ offset) [])),
      λ c. single (pos p +ℤ offset) (pos q) (subst (λ (xs : List ℤ). Contains xs (pos q)) names c),
    )

switches : (kind : Kind) (named : List ℤ) (p next : ℕ) (otherwise : ℤ) (cases : List Case) → kind ≡ Switch → named ≡ map (λ offset. pos p +ℤ offset) (otherwise ∷ map (λ c. c.offset) cases)
    → IsOfKind kind named p next (rows.Switch otherwise cases)
switches kind named p next otherwise cases is names =
    let r = rows.Switch otherwise cases in
    let K : Kind → Type 0 = λ k. IsOfKind k named p next r in
    subst K (sym is) (record { leads = λ q. (to q, from q); returns = (λ x. absurd x, λ e. absurd (cc)); calls = (λ e. absurd (cc), λ e. absurd (cc)) })
  where
    offsets : List ℤ
    offsets = map (λ c. c.offset) cases

    place : ℤ → ℤ
    place offset = pos p +ℤ offset

    to : (q : ℕ) → IsAtOffset p otherwise q ⊎ ((c : Case) × Contains cases c × IsAtOffset p c.offset q) → Contains named (pos q)
    to q (inl at) = subst (λ (xs : List ℤ). Contains xs (pos q)) (sym names) (subst (λ (z : ℤ). Contains (map place (otherwise ∷ offsets)) z) at (at_head (place otherwise) (map place offsets)))
    to q (inr found) =
        let there : Contains offsets found.0.offset = map_contains (λ (c : Case). c.offset) cases found.0 found.1 in
        let c = map_contains place (otherwise ∷ offsets) found.0.offset (in_tail otherwise found.0.offset offsets there) in
        subst (λ (xs : List ℤ). Contains xs (pos q)) (sym names) (subst (λ (z : ℤ). Contains (map place (otherwise ∷ offsets)) z) found.2 c)

    from : (q : ℕ) → Contains named (pos q) → IsAtOffset p otherwise q ⊎ ((c : Case) × Contains cases c × IsAtOffset p c.offset q)
    from q c =
        elim (cons_cases (place otherwise) (pos q) (map place offsets) (subst (λ (xs : List ℤ). Contains xs (pos q)) names c)) [
          | inl same ↦ inl same
          | inr there ↦
              let offset = map_found place offsets (pos q) there in
              let found = map_found (λ (c : Case). c.offset) cases offset.0 offset.1 in
              inr (found.0, found.1, ap place found.2 ∙ offset.2)
        ]

leaves : (kind : Kind) (named : List ℤ) (p next : ℕ) (r : Row) → kind ≡ Return → ((q : ℕ) → LeadsTo p next r q → ⊥) → IsReturn r → is_call r ≡ false → IsOfKind kind named p next r
leaves kind named p next r is none return plain =
    let K : Kind → Type 0 = λ k. IsOfKind k named p next r in
    subst K (sym is) (record { leads = λ q. (λ x. none q x, λ x. absurd x); returns = (λ x. refl, λ e. return); calls = (λ e. absurd (cc), λ e. absurd (cc)) })

throws : (kind : Kind) (named : List ℤ) (p next : ℕ) → kind ≡ Throw → IsOfKind kind named p next rows.Throw
throws kind named p next is =
    let K : Kind → Type 0 = λ k. IsOfKind k named p next rows.Throw in
    subst K (sym is) (record { leads = λ q. (λ x. x, λ x. x); returns = (λ x. absurd x, λ e. absurd (cc)); calls = (λ e. absurd (cc), λ e. absurd (cc)) })

kind_is : (op n : ℕ) (k : Kind) → op ≡ n → (opcodes.row_of n).kind ≡ k → (opcodes.row_of op).kind ≡ k
kind_is op n k e is = ap (λ (x : ℕ). (opcodes.row_of x).kind) e ∙ is

module _ (code : List ℕ) (p next : ℕ) (i : Instr) (fits : TargetsFitKind code p i) where
  abbrev Kinded : Row → Type 0
  Kinded r = IsOfKind (opcodes.row_of i.op).kind (targets_of code p i) p next r

  -- the branch offset is the instruction's own
  branch_names : (offset : ℤ) → (opcodes.row_of i.op).kind ≡ Branch → offset ≡ i.first → targets_of code p i ≡ (pos p +ℤ offset) ∷ []
  branch_names offset kind is = fits.branch kind ∙ ap (λ (z : ℤ). (pos p +ℤ z) ∷ []) (sym is)

  plain : (r : Row) → (opcodes.row_of i.op).kind ≡ Plain → ((q : ℕ) → LeadsTo p next r q ↔ (q ≡ next)) → (IsReturn r → ⊥) → is_call r ≡ false → Kinded r
  plain r e leads none call = goes_on (opcodes.row_of i.op).kind (targets_of code p i) p next r e leads none call

  invoke : (r : Row) (n : ℕ) → i.op ≡ n → (opcodes.row_of n).kind ≡ Invoke → ((q : ℕ) → LeadsTo p next r q ↔ (q ≡ next)) → (IsReturn r → ⊥) → is_call r ≡ true → Kinded r
  invoke r n e kind leads none call = calls_on (opcodes.row_of i.op).kind (targets_of code p i) p next r (kind_is i.op n Invoke e kind) leads none call

  pub kinded : (r : Row) → IsOf i.op code i r → Kinded r
  unfolding opcodes.row_of
  kinded (rows.Jump offset) h = jumps _ _ p next offset h.0 (fits.jump h.0 (λ e. other (i.op == 169) (ap (λ (x : ℕ). x == 169) e) h.2) ∙ ap (λ (z : ℤ). (pos p +ℤ z) ∷ []) (sym h.1))
    where
      other : (b : Bool) → b ≡ true → b ≡ false → ⊥
      other b holds fails = absurd (cc)
  kinded (rows.Branch taken test offset) h = branches _ _ p next (rows.Branch taken test offset) h.0 offset (branch_names offset h.0 h.1) (λ q. (λ x. x, λ x. x)) (λ x. x) refl
  kinded (rows.BranchSame wanted offset) h = branches _ _ p next (rows.BranchSame wanted offset) h.0 offset (branch_names offset h.0 h.1) (λ q. (λ x. x, λ x. x)) (λ x. x) refl
  kinded (rows.BranchNull wanted offset) h = branches _ _ p next (rows.BranchNull wanted offset) h.0 offset (branch_names offset h.0 h.1) (λ q. (λ x. x, λ x. x)) (λ x. x) refl
  kinded (rows.Switch otherwise cases) h =
      let first : targets_of code p i ≡ map (λ offset. pos p +ℤ offset) (otherwise ∷ map (λ c. c.offset) (cases_of code i)) = fits.switch h.0 ∙ ap (λ (z : ℤ). map (λ offset. pos p +ℤ offset) (z ∷ map (λ c. c.offset) (cases_of code i))) (sym h.1) in
      switches _ _ p next otherwise cases h.0 (first ∙ ap (λ (cs : List Case). map (λ offset. pos p +ℤ offset) (otherwise ∷ map (λ c. c.offset) cs)) (sym h.2))
  kinded (rows.Return result) h = leaves _ _ p next (rows.Return result) h (λ q x. x) tt refl
  kinded rows.Throw h = throws _ _ p next h
  kinded (rows.CallVirtual named m) h = invoke (rows.CallVirtual named m) 182 h refl (λ q. (λ x. x, λ x. x)) (λ x. x) refl
  kinded (rows.CallSpecial named m) h = invoke (rows.CallSpecial named m) 183 h refl (λ q. (λ x. x, λ x. x)) (λ x. x) refl
  kinded (rows.CallStatic m) h = invoke (rows.CallStatic m) 184 h refl (λ q. (λ x. x, λ x. x)) (λ x. x) refl
  kinded (rows.CallInterface named m) h = invoke (rows.CallInterface named m) 185 h refl (λ q. (λ x. x, λ x. x)) (λ x. x) refl
  kinded rows.Nothing h = plain rows.Nothing h (λ q. (λ x. x, λ x. x)) (λ x. x) refl
  kinded (rows.Push v) h = plain (rows.Push v) h (λ q. (λ x. x, λ x. x)) (λ x. x) refl
  kinded (rows.Compute a b c) h = plain (rows.Compute a b c) h (λ q. (λ x. x, λ x. x)) (λ x. x) refl
  kinded (rows.Load a b) h = plain (rows.Load a b) h (λ q. (λ x. x, λ x. x)) (λ x. x) refl
  kinded (rows.Store a b) h = plain (rows.Store a b) h (λ q. (λ x. x, λ x. x)) (λ x. x) refl
  kinded (rows.Increment a b) h = plain (rows.Increment a b) h (λ q. (λ x. x, λ x. x)) (λ x. x) refl
  kinded (rows.Shuffle a b c) h = plain (rows.Shuffle a b c) h (λ q. (λ x. x, λ x. x)) (λ x. x) refl
  kinded (rows.GetStatic k) h = plain (rows.GetStatic k) h (λ q. (λ x. x, λ x. x)) (λ x. x) refl
  kinded (rows.PutStatic k) h = plain (rows.PutStatic k) h (λ q. (λ x. x, λ x. x)) (λ x. x) refl
  kinded (rows.GetField a b c) h = plain (rows.GetField a b c) h (λ q. (λ x. x, λ x. x)) (λ x. x) refl
  kinded (rows.PutField a b c) h = plain (rows.PutField a b c) h (λ q. (λ x. x, λ x. x)) (λ x. x) refl
  kinded (rows.New c) h = plain (rows.New c) h (λ q. (λ x. x, λ x. x)) (λ x. x) refl
  kinded (rows.NewNumbers c) h = plain (rows.NewNumbers c) h (λ q. (λ x. x, λ x. x)) (λ x. x) refl
  kinded (rows.NewReferences k) h = plain (rows.NewReferences k) h (λ q. (λ x. x, λ x. x)) (λ x. x) refl
  kinded rows.Length h = plain rows.Length h (λ q. (λ x. x, λ x. x)) (λ x. x) refl
  kinded (rows.LoadNumber a b) h = plain (rows.LoadNumber a b) h (λ q. (λ x. x, λ x. x)) (λ x. x) refl
  kinded (rows.StoreNumber a b c) h = plain (rows.StoreNumber a b c) h (λ q. (λ x. x, λ x. x)) (λ x. x) refl
  kinded rows.LoadReference h = plain rows.LoadReference h (λ q. (λ x. x, λ x. x)) (λ x. x) refl
  kinded rows.StoreReference h = plain rows.StoreReference h (λ q. (λ x. x, λ x. x)) (λ x. x) refl
  kinded (rows.Cast k) h = plain (rows.Cast k) h (λ q. (λ x. x, λ x. x)) (λ x. x) refl
  kinded (rows.Test k) h = plain (rows.Test k) h (λ q. (λ x. x, λ x. x)) (λ x. x) refl
  kinded rows.Monitor h = plain rows.Monitor h (λ q. (λ x. x, λ x. x)) (λ x. x) refl
  kinded rows.Read h = plain rows.Read h (λ q. (λ x. x, λ x. x)) (λ x. x) refl
  kinded rows.Write h = plain rows.Write h (λ q. (λ x. x, λ x. x)) (λ x. x) refl

-- ---- rows of a program

-- the instruction at a place that has a row, and the row
pub record Decoded (P : Program) (m p next : ℕ) (b : Body) (i : Instr) (r : Row) : Type 0 where
  pub behind : next ≡ p + i.length
  pub is : IsOf i.op b.code i r
  pub small : i.op < 256

row_decoded : (P : Program) (m p next : ℕ) (b : Body) (i : Instr) (r : Row) → body_of P m ≡ Some b → instr_at P m p ≡ Some i → row_in P m p ≡ Some (next, r) → Decoded P m p next b i r
row_decoded P m p next b i r body instr row =
    let body' = onto_some (body_of P m) _ (next, r) row in
    let instr' = onto_some (instr_at P m p) _ (next, r) body'.2 in
    let row' = onto_some (row_of body'.0.code instr'.0 (P.operand m p)) _ (next, r) instr'.2 in
    let same_body : body'.0 ≡ b = some_same body'.0 b (sym body'.1 ∙ body) in
    let same_instr : instr'.0 ≡ i = some_same instr'.0 i (sym instr'.1 ∙ instr) in
    let pair : (p + instr'.0.length, row'.0) ≡ (next, r) = some_same (p + instr'.0.length, row'.0) (next, r) row'.2 in
    let row_same : row'.0 ≡ r = ap (λ (x : ℕ × Row). x.1) pair in
    let has : row_of b.code i (P.operand m p) ≡ Some r =
    ap (λ (x : Body). row_of x.code i (P.operand m p)) (sym same_body) ∙ (ap (λ (x : Instr). row_of body'.0.code x (P.operand m p)) (sym same_instr) ∙ (row'.1 ∙ ap (λ (x : Row). Some x) row_same)) in
    let found = row_is b.code i (P.operand m p) r has in
    record {
      behind = sym (ap (λ (x : ℕ × Row). x.0) pair) ∙ ap (λ (x : Instr). p + x.length) same_instr;
      is = found.0;
      small = ltb-true i.op 256 found.1;
    }

pub rows_are_of_their_kinds : ((code : List ℕ) (pc : ℕ) (instr : Instr) → instr.op < 256 → TargetsFitKind code pc instr) → RowsAreOfTheirKinds
rows_are_of_their_kinds fits P m p next b i r body instr row =
    let d = row_decoded P m p next b i r body instr row in
    (d.behind, kinded b.code p next i (fits b.code p i d.small) r d.is)

-- ---- invokes

ok_same : (i j : Instr) → ◌≡◌ {A = Result Instr DecodeFault} (Ok i) (Ok j) → i ≡ j
ok_same i j e = cc

within_ok : (code : List ℕ) (p : ℕ) (x : Result Instr DecodeFault) (i : Instr) → within code p x ≡ Ok i → x ≡ Ok i
within_ok code p (Ok j) i e = by _ e
  where
    by : (b : Bool) → ◌≡◌ {A = Result Instr DecodeFault} (if b then Ok j else Err Short) (Ok i) → ◌≡◌ {A = Result Instr DecodeFault} (Ok j) (Ok i)
    by true e' = e'
    by false e' = absurd (cc)
within_ok code p (Err fault) i e = absurd (cc)

instr_decoded : (P : Program) (m p : ℕ) (b : Body) (i : Instr) → body_of P m ≡ Some b → instr_at P m p ≡ Some i → decoded b.code p ≡ Ok i
instr_decoded P m p b i body instr =
    let found = onto_some (body_of P m) _ i instr in
    let same : found.0 ≡ b = some_same found.0 b (sym found.1 ∙ body) in
    subst (λ (x : Body). decoded x.code p ≡ Ok i) same (by (decoded found.0.code p) found.2)
  where
    by : (x : Result Instr DecodeFault) → as_instr x ≡ Some i → x ≡ Ok i
    by (Ok j) e = let same = some_same j i e in cc
    by (Err fault) e = absurd (cc)

-- an instruction whose opcode has operands of fixed width is spelled at its place, and has no cases
module _ (forms : InstructionsAreOfTheirForm) (code : List ℕ) (p : ℕ) (i : Instr) (o : Operands) (form : (opcodes.row_of i.op).form ≡ Fixed o) (is : decoded code p ≡ Ok i) where
  abbrev IsSpelled : Type 0
  IsSpelled = (i.op ≡ u1 code p) × (i.count ≡ 0)

  -- no instruction whose opcode has another form is it
  other : (f : Form) → (opcodes.row_of i.op).form ≡ f → (Fixed o ≡ f → ⊥) → ⊥
  other f is' differ = differ (sym form ∙ is')

  behind_wide : (f : Form) → (opcodes.row_of (u1 code (p + 1))).form ≡ f → widened_at code p f ≡ Ok i → ⊥
  behind_wide (Widened a w) spells e =
      let op : i.op ≡ u1 code (p + 1) = ap (λ (j : Instr). j.op) (sym (ok_same _ i e)) in
      other (Widened a w) (ap (λ (x : ℕ). (opcodes.row_of x).form) op ∙ spells) (λ bad. absurd (cc))
  behind_wide NotAnOpcode spells e = absurd (cc)
  behind_wide (Fixed a) spells e = absurd (cc)
  behind_wide TableSwitch spells e = absurd (cc)
  behind_wide LookupSwitch spells e = absurd (cc)
  behind_wide Wide spells e = absurd (cc)

  wide : (b : Bool) → (if b then widened_at code p (opcodes.row_of (u1 code (p + 1))).form else Err Short) ≡ Ok i → ⊥
  wide true e = behind_wide (opcodes.row_of (u1 code (p + 1))).form refl e
  wide false e = absurd (cc)

  same_op : (f : Form) → (opcodes.row_of (u1 code p)).form ≡ f → i.op ≡ u1 code p → (opcodes.row_of i.op).form ≡ f
  same_op f spells op = ap (λ (x : ℕ). (opcodes.row_of x).form) op ∙ spells

  spelled : (f : Form) → (opcodes.row_of (u1 code p)).form ≡ f → IsOfForm f (u1 code p) code p i → spelled_at code p f ≡ Ok i → IsSpelled
  spelled NotAnOpcode spells h e = absurd h
  spelled (Fixed a) spells h e = (ap (λ (j : Instr). j.op) h, ap (λ (j : Instr). j.count) h)
  spelled (Widened a w) spells h e = (ap (λ (j : Instr). j.op) h, ap (λ (j : Instr). j.count) h)
  spelled TableSwitch spells h e = absurd (other TableSwitch (same_op TableSwitch spells (ap (λ (j : Instr). j.op) h)) (λ bad. absurd (cc)))
  spelled LookupSwitch spells h e = absurd (other LookupSwitch (same_op LookupSwitch spells (ap (λ (j : Instr). j.op) h)) (λ bad. absurd (cc)))
  spelled Wide spells h e = absurd (wide _ e)

  pub is_spelled : IsSpelled
  unfolding decoded
  is_spelled =
      let f = (opcodes.row_of (u1 code p)).form in
      spelled f refl (forms code p (u1 code p) f i is refl refl) (within_ok code p (spelled_at code p f) i is)

-- a call's row tells its opcode
module _ (op : ℕ) (code : List ℕ) (i : Instr) where
  abbrev IsInvokeOpcode : Type 0
  IsInvokeOpcode = (182 ≤ op) × (op ≤ 185) × ((o : Operands) × ((opcodes.row_of op).form ≡ Fixed o))

  of_opcode : (n : ℕ) (o : Operands) → op ≡ n → (opcodes.row_of n).form ≡ Fixed o → 182 ≤ n → n ≤ 185 → IsInvokeOpcode
  of_opcode n o e form from to = (subst (λ (x : ℕ). 182 ≤ x) (sym e) from, subst (λ (x : ℕ). x ≤ 185) (sym e) to, (o, ap (λ (x : ℕ). (opcodes.row_of x).form) e ∙ form))

  call_opcode : (r : Row) → is_call r ≡ true → IsOf op code i r → IsInvokeOpcode
  unfolding opcodes.row_of
  call_opcode (rows.CallVirtual named m) call h = of_opcode 182 _ h refl (omega arith) (omega arith)
  call_opcode (rows.CallSpecial named m) call h = of_opcode 183 _ h refl (omega arith) (omega arith)
  call_opcode (rows.CallStatic m) call h = of_opcode 184 _ h refl (omega arith) (omega arith)
  call_opcode (rows.CallInterface named m) call h = of_opcode 185 _ h refl (omega arith) (omega arith)
  call_opcode rows.Nothing call h = absurd (cc)
  call_opcode (rows.Push v) call h = absurd (cc)
  call_opcode (rows.Compute a b c) call h = absurd (cc)
  call_opcode (rows.Branch a b c) call h = absurd (cc)
  call_opcode (rows.BranchSame a b) call h = absurd (cc)
  call_opcode (rows.BranchNull a b) call h = absurd (cc)
  call_opcode (rows.Jump a) call h = absurd (cc)
  call_opcode (rows.Switch a b) call h = absurd (cc)
  call_opcode (rows.Load a b) call h = absurd (cc)
  call_opcode (rows.Store a b) call h = absurd (cc)
  call_opcode (rows.Increment a b) call h = absurd (cc)
  call_opcode (rows.Shuffle a b c) call h = absurd (cc)
  call_opcode (rows.GetStatic k) call h = absurd (cc)
  call_opcode (rows.PutStatic k) call h = absurd (cc)
  call_opcode (rows.GetField a b c) call h = absurd (cc)
  call_opcode (rows.PutField a b c) call h = absurd (cc)
  call_opcode (rows.New c) call h = absurd (cc)
  call_opcode (rows.NewNumbers c) call h = absurd (cc)
  call_opcode (rows.NewReferences k) call h = absurd (cc)
  call_opcode rows.Length call h = absurd (cc)
  call_opcode (rows.LoadNumber a b) call h = absurd (cc)
  call_opcode (rows.StoreNumber a b c) call h = absurd (cc)
  call_opcode rows.LoadReference call h = absurd (cc)
  call_opcode rows.StoreReference call h = absurd (cc)
  call_opcode (rows.Cast k) call h = absurd (cc)
  call_opcode (rows.Test k) call h = absurd (cc)
  call_opcode rows.Monitor call h = absurd (cc)
  call_opcode rows.Throw call h = absurd (cc)
  call_opcode (rows.Return a) call h = absurd (cc)
  call_opcode rows.Read call h = absurd (cc)
  call_opcode rows.Write call h = absurd (cc)

pub calls_are_invokes : InstructionsAreOfTheirForm → CallsAreInvokes
calls_are_invokes forms P m p next b i r body instr row call =
    let d = row_decoded P m p next b i r body instr row in
    let op = call_opcode i.op b.code i r call d.is in
    let spelled = is_spelled forms b.code p i op.2.0 op.2.1 (instr_decoded P m p b i body instr) in
    record { opcode = spelled.0; from = op.0; to = op.1; no_cases = spelled.1 }
