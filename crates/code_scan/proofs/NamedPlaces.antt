-- What a method names, and where its instructions end, is read off its code and its exception table.
use Rattle.std.proofs.Common.{◌≡◌, ◌↔◌, ℕ, ◌+◌, ◌<◌, Bool, true, false, ◌==◌, List, [], ◌∷◌, Contains, Option, Some, None, Result, Ok, ℤ, pos, ◌+ℤ◌, map, refl, sym, ap, ◌∙◌, subst, inl, inr, IsSomeAnd, ltb-true}
use Rattle.std.specs.Prelude.{IsSome}
use Rattle.opcodes.specs.declared.instruction.Instr.{Instr}
use Rattle.opcodes.specs.declared.instruction.Case.{Case}
use Rattle.opcodes.specs.declared.instruction.DecodeFault.{DecodeFault}
use Rattle.opcodes.specs.declared.table.Kind.TheVariants.{Branch}
use Rattle.opcodes.specs.Instruction.{decoded}
use Rattle.opcodes.specs.Row as opcodes
use Rattle.opcodes.specs.Start.{IsStart}
use Rattle.opcodes.specs.Target.{cases_of, targets_of, TargetsFitKind}
use Rattle.lists.proofs.Lemmas.{some_is, some_in}
use Rattle.lists.specs.Members.{at_head, in_tail, cons_cases, nil_contains, map_contains}
use Rattle.bytecode_model.specs.Program.{Program, Body, Handler, body_of}
use Rattle.bytecode_model.specs.Rows as rows
use Rattle.bytecode_model.specs.Rows.{Row}
use Rattle.bytecode_model.specs.Table.{row_of}
use Rattle.bytecode_model.specs.Steps.{row_in}
use Rattle.method_flow.specs.declared.flow.HandlerRange.{HandlerRange}
use Rattle.method_flow.specs.Flow.{Coded, IsCodedOf, range_of}
use Rattle.code_lines.specs.Lines.{IsLine, Names, IsNamed}
use Rattle.code_lines.specs.Laws.{IsReadAs, LinesAreRead}
use Rattle.code_scan.proofs.Telling.{IsOf, row_is}
use Rattle.code_scan.specs.Naming.{IsNamedIn, EndsAt, NamesAreRead, EndsAreRead}

-- ---- lists

single : {X : Type 0} (x y : X) → Contains (x ∷ []) y → x ≡ y
single x y c = elim (cons_cases x y [] c) [ inl same ↦ same | inr there ↦ absurd (nil_contains y there) ]

map_found : {X Y : Type 0} (f : X → Y) (xs : List X) (y : Y) → Contains (map f xs) y → (x : X) × Contains xs x × (f x ≡ y)
map_found f [] y c = absurd (nil_contains y c)
map_found f (x ∷ xs) y c =
    elim (cons_cases (f x) y (map f xs) c) [
      | inl same ↦ (x, at_head x xs, same)
      | inr there ↦ let found = map_found f xs y there in (found.0, in_tail x found.0 xs found.1, found.2)
    ]

-- ---- a row names what its instruction does

module _ (code : List ℕ) (p : ℕ) (i : Instr) (fits : TargetsFitKind code p i) (q : ℕ) where
  abbrev IsSame : Row → Type 0
  IsSame r = Names p r q ↔ Contains (targets_of code p i) (pos q)

  none : targets_of code p i ≡ [] → ⊥ ↔ Contains (targets_of code p i) (pos q)
  none e = (λ h. absurd h, λ c. absurd (nil_contains (pos q) (subst (λ (zs : List ℤ). Contains zs (pos q)) e c)))

  one : (offset : ℤ) → targets_of code p i ≡ (pos p +ℤ offset) ∷ [] → (pos p +ℤ offset ≡ pos q) ↔ Contains (targets_of code p i) (pos q)
  one offset e = (
    λ at. subst (λ (zs : List ℤ). Contains zs (pos q)) (sym e) (subst (λ (z : ℤ). Contains ((pos p +ℤ offset) ∷ []) z) at (at_head (pos p +ℤ offset) [])),
    λ c. single (pos p +ℤ offset) (pos q) (subst (λ (zs : List ℤ). Contains zs (pos q)) e c),
  )

  at_offset : (offset : ℤ) → (opcodes.row_of i.op).kind ≡ Branch → offset ≡ i.first → targets_of code p i ≡ (pos p +ℤ offset) ∷ []
  at_offset offset kind is = fits.branch kind ∙ ap (λ (z : ℤ). (pos p +ℤ z) ∷ []) (sym is)

  switch : (default : ℤ) (cases : List Case) → targets_of code p i ≡ map (λ offset. pos p +ℤ offset) (default ∷ map (λ c. c.offset) cases) → IsSame (rows.Switch default cases)
  switch default cases e = (to, from)
    where
      offsets : List ℤ
      offsets = map (λ c. c.offset) cases

      place : ℤ → ℤ
      place offset = pos p +ℤ offset

      back : Contains (map place (default ∷ offsets)) (pos q) → Contains (targets_of code p i) (pos q)
      back c = subst (λ (zs : List ℤ). Contains zs (pos q)) (sym e) c

      forth : Contains (targets_of code p i) (pos q) → Contains (map place (default ∷ offsets)) (pos q)
      forth c = subst (λ (zs : List ℤ). Contains zs (pos q)) e c

      to : Names p (rows.Switch default cases) q → Contains (targets_of code p i) (pos q)
      to (inl at) = back (subst (λ (z : ℤ). Contains (map place (default ∷ offsets)) z) at (at_head (place default) (map place offsets)))
      to (inr (c, among, at)) =
          let there : Contains offsets c.offset = map_contains (λ (x : Case). x.offset) cases c among in
          back (subst (λ (z : ℤ). Contains (map place (default ∷ offsets)) z) at (map_contains place (default ∷ offsets) c.offset (in_tail default c.offset offsets there)))

      in_cases : Contains (map place offsets) (pos q) → (c : Case) × Contains cases c × (pos p +ℤ c.offset ≡ pos q)
      in_cases there =
          let x = map_found place offsets (pos q) there in
          let c = map_found (λ (y : Case). y.offset) cases x.0 x.1 in
          (c.0, c.1, ap place c.2 ∙ x.2)

      from : Contains (targets_of code p i) (pos q) → Names p (rows.Switch default cases) q
      from c = elim (cons_cases (place default) (pos q) (map place offsets) (forth c)) [ inl same ↦ inl same | inr there ↦ inr (in_cases there) ]

  row_names : (r : Row) → IsOf i.op code i r → IsSame r
  row_names (rows.Jump offset) h = one offset (fits.jump h.0 (λ e. other (i.op == 169) (ap (λ (x : ℕ). x == 169) e) h.2) ∙ ap (λ (z : ℤ). (pos p +ℤ z) ∷ []) (sym h.1))
    where
      other : (b : Bool) → b ≡ true → b ≡ false → ⊥
      other b holds fails = absurd (cc)
  row_names (rows.Branch taken test offset) h = one offset (at_offset offset h.0 h.1)
  row_names (rows.BranchSame wanted offset) h = one offset (at_offset offset h.0 h.1)
  row_names (rows.BranchNull wanted offset) h = one offset (at_offset offset h.0 h.1)
  row_names (rows.Switch default cases) h =
      let offsets : List Case → List ℤ = λ cs. map (λ c. c.offset) cs in
      switch default cases (fits.switch h.0 ∙ (ap (λ (z : ℤ). map (λ offset. pos p +ℤ offset) (z ∷ offsets (cases_of code i))) (sym h.1) ∙ ap (λ (cs : List Case). map (λ offset. pos p +ℤ offset) (default ∷ offsets cs)) (sym h.2)))
  row_names (rows.Return result) h = none (fits.return h)
  row_names rows.Throw h = none (fits.throw h)
  row_names (rows.CallVirtual named m) h = none (fits.invoke h)
  row_names (rows.CallSpecial named m) h = none (fits.invoke h)
  row_names (rows.CallStatic m) h = none (fits.invoke h)
  row_names (rows.CallInterface named m) h = none (fits.invoke h)
  row_names rows.Nothing h = none (fits.plain h)
  row_names (rows.Push v) h = none (fits.plain h)
  row_names (rows.Compute a b c) h = none (fits.plain h)
  row_names (rows.Load a b) h = none (fits.plain h)
  row_names (rows.Store a b) h = none (fits.plain h)
  row_names (rows.Increment a b) h = none (fits.plain h)
  row_names (rows.Shuffle a b c) h = none (fits.plain h)
  row_names (rows.GetStatic k) h = none (fits.plain h)
  row_names (rows.PutStatic k) h = none (fits.plain h)
  row_names (rows.GetField a b c) h = none (fits.plain h)
  row_names (rows.PutField a b c) h = none (fits.plain h)
  row_names (rows.New c) h = none (fits.plain h)
  row_names (rows.NewNumbers c) h = none (fits.plain h)
  row_names (rows.NewReferences k) h = none (fits.plain h)
  row_names rows.Length h = none (fits.plain h)
  row_names (rows.LoadNumber a b) h = none (fits.plain h)
  row_names (rows.StoreNumber a b c) h = none (fits.plain h)
  row_names rows.LoadReference h = none (fits.plain h)
  row_names rows.StoreReference h = none (fits.plain h)
  row_names (rows.Cast k) h = none (fits.plain h)
  row_names (rows.Test k) h = none (fits.plain h)
  row_names rows.Monitor h = none (fits.plain h)
  row_names rows.Read h = none (fits.plain h)
  row_names rows.Write h = none (fits.plain h)

-- ---- at a line of a program

ok_same : (i j : Instr) → ◌≡◌ {A = Result Instr DecodeFault} (Ok i) (Ok j) → i ≡ j
ok_same i j e = cc

some_there : {A : Type 0} (o : Option A) → IsSome o → (x : A) × (o ≡ Some x)
some_there None h = absurd (cc)
some_there (Some x) h = (x, refl)

module _ (read : LinesAreRead) (P : Program) (m : ℕ) (k : Coded) (of : IsCodedOf P m k) where
  abbrev TheBody : Type 0
  TheBody = (b : Body) × (body_of P m ≡ Some b) × ((b.code ≡ k.code) × (map range_of b.handlers ≡ k.ranges))

  the_body : TheBody
  the_body = some_is (body_of P m) (λ (b : Body). (b.code ≡ k.code) × (map range_of b.handlers ≡ k.ranges)) of.body

  -- the line at a start of the code
  line_here : (b : Body) → body_of P m ≡ Some b → b.code ≡ k.code → (p : ℕ) → IsStart k.code p → (i : Instr) → decoded k.code p ≡ Ok i → (r : Row) × IsLine P m p (p + i.length) r
  line_here b body code p start i is =
      let found = some_there (row_in P m p) (of.rows p start) in
      let line : IsLine P m p found.0.0 found.0.1 = record {
        start = some_in (body_of P m) b (λ (x : Body). IsStart x.code p) body (subst (λ (xs : List ℕ). IsStart xs p) (sym code) start);
        is = found.1;
      } in
      let a = (read P m p found.0.0 found.0.1 b body).0 line in
      let same : a.instr ≡ i = ok_same a.instr i (sym a.is ∙ (ap (λ (xs : List ℕ). decoded xs p) code ∙ is)) in
      let behind : found.0.0 ≡ p + i.length = a.behind ∙ ap (λ (x : Instr). p + x.length) same in
      (found.0.1, subst (λ (n : ℕ). IsLine P m p n found.0.1) behind line)

  -- and what its row is
  pub row_here : (p : ℕ) → IsStart k.code p → (i : Instr) → decoded k.code p ≡ Ok i → (r : Row) × IsLine P m p (p + i.length) r × ((code : List ℕ) × (row_of code i (P.operand m p) ≡ Some r))
  row_here p start i is =
      let b = the_body in
      let line = line_here b.0 b.1 b.2.0 p start i is in
      let a = (read P m p (p + i.length) line.0 b.0 b.1).0 line.1 in
      let same : a.instr ≡ i = ok_same a.instr i (sym a.is ∙ (ap (λ (xs : List ℕ). decoded xs p) b.2.0 ∙ is)) in
      (line.0, line.1, (b.0.code, subst (λ (x : Instr). row_of b.0.code x (P.operand m p) ≡ Some line.0) same a.row))

  pub start_here : (p next : ℕ) (r : Row) → IsLine P m p next r → IsStart k.code p
  start_here p next r line =
      let b = the_body in
      subst (λ (xs : List ℕ). IsStart xs p) b.2.0 ((read P m p next r b.0 b.1).0 line).start

  ends_to : (p q : ℕ) (r : Row) → IsLine P m p q r → EndsAt k.code p q
  ends_to p q r line =
      let b = the_body in
      let a = (read P m p q r b.0 b.1).0 line in
      record {
        start = subst (λ (xs : List ℕ). IsStart xs p) b.2.0 a.start;
        instr = a.instr;
        is = ap (λ (xs : List ℕ). decoded xs p) (sym b.2.0) ∙ a.is;
        behind = a.behind;
      }

  ends_from : (p q : ℕ) → EndsAt k.code p q → (r : Row) × IsLine P m p q r
  ends_from p q h =
      let b = the_body in
      let line = line_here b.0 b.1 b.2.0 p h.start h.instr h.is in
      (line.0, subst (λ (n : ℕ). IsLine P m p n line.0) (sym h.behind) line.1)

  module _ (fit : (code : List ℕ) (pc : ℕ) (instr : Instr) → instr.op < 256 → TargetsFitKind code pc instr) where
    -- what the instruction of a line names
    same_names : (b : Body) → body_of P m ≡ Some b → (p next q : ℕ) (r : Row) (a : IsReadAs P m b p next r) → Names p r q ↔ Contains (targets_of b.code p a.instr) (pos q)
    same_names b body p next q r a =
        let found = row_is b.code a.instr (P.operand m p) r a.row in
        row_names b.code p a.instr (fit b.code p a.instr (ltb-true a.instr.op 256 found.1)) q r found.0.1

    names_to : (q : ℕ) → IsNamed P m q → IsNamedIn k q
    names_to q (inl (p, next, r, line, names)) =
        let b = the_body in
        let a = (read P m p next r b.0 b.1).0 line in
        let e = ends_to p next r line in
        let has : Contains (targets_of b.0.code p a.instr) (pos q) = (same_names b.0 b.1 p next q r a).0 names in
        inl (
          p,
          record {
            start = subst (λ (xs : List ℕ). IsStart xs p) b.2.0 a.start;
            instr = a.instr;
            is = ap (λ (xs : List ℕ). decoded xs p) (sym b.2.0) ∙ a.is;
            names = subst (λ (xs : List ℕ). Contains (targets_of xs p a.instr) (pos q)) b.2.0 has;
          },
        )
    names_to q (inr h) =
        let b = the_body in
        let found : (x : Handler) × Contains b.0.handlers x × (x.target ≡ q) = subst (λ (o : Option Body). IsSomeAnd o (λ y. (x : Handler) × Contains y.handlers x × (x.target ≡ q))) b.1 h in
        inr (range_of found.0, subst (λ (rs : List HandlerRange). Contains rs (range_of found.0)) b.2.1 (map_contains range_of b.0.handlers found.0 found.1), found.2)

    names_from : (q : ℕ) → IsNamedIn k q → IsNamed P m q
    names_from q (inl (p, h)) =
        let b = the_body in
        let line = line_here b.0 b.1 b.2.0 p h.start h.instr h.is in
        let a = (read P m p (p + h.instr.length) line.0 b.0 b.1).0 line.1 in
        let same : h.instr ≡ a.instr = ok_same h.instr a.instr (sym h.is ∙ (ap (λ (xs : List ℕ). decoded xs p) (sym b.2.0) ∙ a.is)) in
        let has : Contains (targets_of b.0.code p a.instr) (pos q) = subst (λ (xs : List ℕ). Contains (targets_of xs p a.instr) (pos q)) (sym b.2.0) (subst (λ (x : Instr). Contains (targets_of k.code p x) (pos q)) same h.names) in
        inl (p, p + h.instr.length, line.0, line.1, (same_names b.0 b.1 p (p + h.instr.length) q line.0 a).1 has)
    names_from q (inr (r, among, at)) =
        let b = the_body in
        let found = map_found range_of b.0.handlers r (subst (λ (rs : List HandlerRange). Contains rs r) (sym b.2.1) among) in
        let target : found.0.target ≡ q = ap (λ (x : HandlerRange). x.handler) found.2 ∙ at in
        inr (some_in (body_of P m) b.0 (λ (y : Body). (x : Handler) × Contains y.handlers x × (x.target ≡ q)) b.1 (found.0, found.1, target))

pub names_are_read : LinesAreRead → ((code : List ℕ) (pc : ℕ) (instr : Instr) → instr.op < 256 → TargetsFitKind code pc instr) → NamesAreRead
names_are_read read fit P m k of q = (names_to read P m k of fit q, names_from read P m k of fit q)

pub ends_are_read : LinesAreRead → EndsAreRead
ends_are_read read P m k of p q = (λ h. ends_to read P m k of p q h.0 h.1, λ h. ends_from read P m k of p q h)
