-- What an instruction that makes objects asks for is within what it may make.
use Rattle.std.proofs.Common.{◌≡◌, ◌⊎◌, ℕ, ◌+◌, ◌*◌, ◌<◌, ◌≤◌, true, false, List, ◌∷◌, Option, Some, sym, ap, ◌∙◌, subst, inl, inr, arith, IsSomeAnd, ℤ, pos, Contains}
use Rattle.std.specs.Prelude.{◌≤ℤ◌}
use Rattle.std.proofs.Math.Nat.{mul-le-mul_left}
use Rattle.std.proofs.lemmas.Int.{ints}
use Rattle.lists.proofs.Lemmas.{onto_some, some_is, some_in, some_same, none≢some, holds_at}
use Rattle.lists.specs.Members.{heads}
use Rattle.opcodes.specs.declared.instruction.Instr.{Instr}
use Rattle.bytecode_model.specs.declared.Value.{Value}
use Rattle.bytecode_model.specs.declared.Value.TheVariants.{Int}
use Rattle.bytecode_model.specs.declared.Ending.{Ending}
use Rattle.bytecode_model.specs.declared.Ending.TheVariants.{Running, Raising, Ended, Uncaught}
use Rattle.bytecode_model.specs.Lists.{onto}
use Rattle.bytecode_model.specs.State.{Frame, State}
use Rattle.bytecode_model.specs.Program.{Program, Limits, Body, Handler, body_of, instr_at}
use Rattle.bytecode_model.specs.Rows as rows
use Rattle.bytecode_model.specs.Rows.{Row}
use Rattle.bytecode_model.specs.Table.{row_of}
use Rattle.bytecode_model.specs.Effects.{effect}
use Rattle.bytecode_model.specs.Steps.{step_in, row_in, row_at, applied, with_top}
use Rattle.bytecode_model.specs.WellFormed.{is_call}
use Rattle.loop_nest.specs.Digraph.{Digraph}
use Rattle.method_flow.specs.Nodes.{At, LeadsTo, IsHandled, IsEdge}
use Rattle.method_flow.specs.Calls.{IsStartOf}
use Rattle.method_flow.specs.Keeping.{BoundOf}
use Rattle.method_flow.specs.Regions.{IsWithin}
use Rattle.method_flow.specs.Shapes.{node_of, IsGoingOn}
use Rattle.method_runs.specs.Steps.{WalksStep}
use Rattle.method_runs.specs.Steps.WalksStep.{moves, enters, returns, drops, ends}
use Rattle.method_runs.specs.Runs.{Walks}
use Rattle.code_lines.specs.Lines.{IsLine, Names, IsPushedBefore}
use Rattle.code_lines.specs.Laws.{LinesAreOne, LinesAreApart, OneStandsBefore}
use Rattle.memory_rules.specs.Heap.{Made, AnObject, AnArray, made_by, constant_words, MostWords, IsOn, OfNode, MayMake}
use Rattle.memory_rules.specs.Heap.MostWords.{object, constant, listed}
use Rattle.memory_rules.specs.Heap.MayMake.{makes}
use Rattle.memory_rules.specs.Given.{HaveLengths}
use Rattle.memory_laws.proofs.Calling.{MayRun, CalledFrom}
use Rattle.memory_laws.proofs.Growing.{IsAsked}

-- ---- the int that was pushed directly before

leads_or_named : (r : Row) (p next q : ℕ) → LeadsTo p next r q → Names p r q ⊎ (q ≡ next)
leads_or_named (rows.Jump offset) p next q h = inl h
leads_or_named (rows.Branch taken test offset) p next q h = h
leads_or_named (rows.BranchSame wanted offset) p next q h = h
leads_or_named (rows.BranchNull wanted offset) p next q h = h
leads_or_named (rows.Switch default cases) p next q h = inl h
leads_or_named (rows.Return result) p next q h = absurd h
leads_or_named rows.Throw p next q h = absurd h
leads_or_named r p next q h = inr h

-- the int lies on top
abbrev pub HasPushed : Frame → ℤ → Type 0
HasPushed f c = (rest : List Value) × (f.operands ≡ Int c ∷ rest)

-- each int that is pushed directly before the top frame's instruction does
abbrev pub HoldsPushed : Program → State → Type 0
HoldsPushed P s = (f : Frame) (callers : List Frame) (c : ℤ) → s.frames ≡ f ∷ callers → s.mode ≡ Running → IsPushedBefore P f.method f.pc c → HasPushed f c

module _ (one : LinesAreOne) (apart : LinesAreApart) (before : OneStandsBefore) (P : Program) where
  -- nothing is pushed before the first instruction
  pub none_first : (m p : ℕ) (c : ℤ) → p ≡ 0 → IsPushedBefore P m p c → ⊥
  none_first m p c first h =
      let a = apart P m h.before p h.before p (rows.Push (Int c)) (rows.Push (Int c)) h.push h.push in
      let behind : h.before < p = a.0 in
      omega (arith, behind, first)

  -- the line that ends at the place is the push
  is_push : (m q p : ℕ) (r : Row) (c : ℤ) → IsLine P m q p r → IsPushedBefore P m p c → r ≡ rows.Push (Int c)
  is_push m q p r c line h =
      let same : q ≡ h.before = before P m q h.before p r (rows.Push (Int c)) line h.push in
      let there : IsLine P m h.before p r = subst (λ (x : ℕ). IsLine P m x p r) same line in
      (one P m h.before p p r (rows.Push (Int c)) there h.push).1

  module _ (limits : Limits) (answer : Option ℕ) (s t : State) (f : Frame) (callers : List Frame) (start : IsStartOf P f.method f.pc) where
    -- the push was carried out
    pushes : (next : ℕ) (r : Row) (c : ℤ) (top : Frame) → row_at P f ≡ Some (next, r) → r ≡ rows.Push (Int c) → step_in P limits answer s (f ∷ callers) Running ≡ Some t → t.frames ≡ top ∷ callers → HasPushed top c
    pushes next r c top row is h frames =
        let e : step_in P limits answer s (f ∷ callers) Running ≡ applied P limits answer s f callers (effect P limits s f next (rows.Push (Int c))) =
        ap (λ (o : Option (ℕ × Row)). onto o (λ x. applied P limits answer s f callers (effect P limits s f x.0 x.1))) row ∙ ap (λ (q : Row). applied P limits answer s f callers (effect P limits s f next q)) is in
        let g : Frame = record f { pc = next; operands = Int c ∷ f.operands } in
        let u : State = with_top s callers g in
        let is_next : ◌≡◌ {A = Option State} (Some u) (Some t) = sym e ∙ h in
        let same : u ≡ t = some_same u t is_next in
        let tops : g ≡ top = heads g top callers callers (ap (λ (x : State). x.frames) same ∙ frames) in
        (f.operands, sym (ap (λ (x : Frame). x.operands) tops))

    by_move : (mode : Ending) → step_in P limits answer s (f ∷ callers) mode ≡ Some t → (top : Frame) → t.frames ≡ top ∷ callers → top.method ≡ f.method → IsEdge P f.method (node_of mode f) (At top.pc)
        → (c : ℤ) → IsPushedBefore P top.method top.pc c → HasPushed top c
    by_move Running h top frames same edge c pushed = by (leads_or_named row.0.1 f.pc row.0.0 top.pc row.2)
      where
        row : (x : ℕ × Row) × (row_in P f.method f.pc ≡ Some x) × LeadsTo f.pc x.0 x.1 top.pc
        row = some_is (row_in P f.method f.pc) (λ (x : ℕ × Row). LeadsTo f.pc x.0 x.1 top.pc) edge

        here : IsPushedBefore P f.method top.pc c
        here = subst (λ (m : ℕ). IsPushedBefore P m top.pc c) same pushed

        by : Names f.pc row.0.1 top.pc ⊎ (top.pc ≡ row.0.0) → HasPushed top c
        by (inl named) = absurd (here.alone (inl (f.pc, row.0.0, row.0.1, record { start = start; is = row.1 }, named)))
        by (inr on) =
            let line : IsLine P f.method f.pc row.0.0 row.0.1 = record { start = start; is = row.1 } in
            pushes row.0.0 row.0.1 c top row.1 (is_push f.method f.pc top.pc row.0.1 c (subst (λ (x : ℕ). IsLine P f.method f.pc x row.0.1) (sym on) line) here) h frames
    by_move (Raising p) h top frames same edge c pushed =
        let b = some_is (body_of P f.method) (λ (b : Body). IsHandled b.handlers f.pc top.pc) edge in
        let here = subst (λ (m : ℕ). IsPushedBefore P m top.pc c) same pushed in
        absurd (here.alone (inr (some_in (body_of P f.method) b.0 (λ (x : Body). (k : Handler) × Contains x.handlers k × (k.target ≡ top.pc)) b.1 (b.2.entry, b.2.among, b.2.handler))))
    by_move Ended h top frames same edge c pushed = absurd (none≢some t h)
    by_move (Uncaught x) h top frames same edge c pushed = absurd (none≢some t h)

  -- nothing is pushed before the instruction behind an invoke
  none_behind : (m p q t : ℕ) (c : ℤ) → MayRun P m p t → IsSomeAnd (instr_at P m p) (λ i. q ≡ p + i.length) → IsPushedBefore P m q c → ⊥
  none_behind m p q t c may place pushed =
      let row = some_is (row_in P m p) (λ (x : ℕ × Row). is_call x.1 ≡ true) may.call in
      let body = onto_some (body_of P m) _ row.0 row.1 in
      let instr = onto_some (instr_at P m p) _ row.0 body.2 in
      let made = onto_some (row_of body.0.code instr.0 (P.operand m p)) _ row.0 instr.2 in
      let pair : (p + instr.0.length, made.0) ≡ row.0 = some_same (p + instr.0.length, made.0) row.0 made.2 in
      let behind : q ≡ p + instr.0.length = holds_at (instr_at P m p) instr.0 (λ (i : Instr). q ≡ p + i.length) instr.1 place in
      let next : row.0.0 ≡ q = sym (ap (λ (x : ℕ × Row). x.0) pair) ∙ sym behind in
      let line : IsLine P m p row.0.0 row.0.1 = record { start = may.start; is = row.1 } in
      let is : row.0.1 ≡ rows.Push (Int c) = is_push m p q row.0.1 c (subst (λ (x : ℕ). IsLine P m p x row.0.1) next line) pushed in
      let call : false ≡ true = ap is_call (sym is) ∙ row.2 in
      cc call

  module _ (limits : Limits) (answer : Option ℕ) (s t : State) (f : Frame) (callers : List Frame) (start : IsStartOf P f.method f.pc) (below : CalledFrom P f.method callers)
      (next : step_in P limits answer s (f ∷ callers) s.mode ≡ Some t) where
    pub still_pushed : {ws vs : Walks} → WalksStep P s.mode f callers t ws vs → HoldsPushed P t
    still_pushed (moves h) g others c frames running pushed =
        let top : g ≡ h.top = heads g h.top others callers (sym frames ∙ h.frames) in
        let edge : IsEdge P f.method (node_of s.mode f) (At h.top.pc) = subst (λ (m : Ending). IsEdge P f.method (node_of s.mode f) (node_of m h.top)) running h.edge in
        let here : IsPushedBefore P h.top.method h.top.pc c = subst (λ (x : Frame). IsPushedBefore P x.method x.pc c) top pushed in
        subst (λ (x : Frame). HasPushed x c) (sym top) (by_move limits answer s t f callers start s.mode next h.top h.frames h.same edge c here)
    still_pushed (enters h) g others c frames running pushed =
        let top : g ≡ h.top = heads g h.top others (h.waiting ∷ callers) (sym frames ∙ h.frames) in
        absurd (none_first g.method g.pc c (ap (λ (x : Frame). x.pc) top ∙ h.first) pushed)
    still_pushed (returns h) g others c frames running pushed =
        let top : g ≡ h.top = heads g h.top others h.others (sym frames ∙ h.frames) in
        let may = (subst (CalledFrom P f.method) h.callers_are below).0 in
        let there : IsPushedBefore P h.top.method h.top.pc c = subst (λ (x : Frame). IsPushedBefore P x.method x.pc c) top pushed in
        absurd (none_behind h.caller.method h.caller.pc h.top.pc f.method c may h.place (subst (λ (m : ℕ). IsPushedBefore P m h.top.pc c) h.same there))
    still_pushed (drops h) g others c frames running pushed = absurd (let e : Running ≡ Raising h.object = sym running ∙ h.still in cc e)
    still_pushed (ends none same ended) g others c frames running pushed = absurd (ended (subst IsGoingOn (sym running) tt))

-- ---- what is asked for

module _ (P : Program) (bounds lengths : BoundOf) (have : HaveLengths P lengths) (f : Frame) (next : ℕ) (r : Row) (line : IsLine P f.method f.pc next r) (within : IsWithin P P.boot f.method)
    (on : ¬ ¬ ((g : Digraph) × IsOn P f.method g f.pc)) (pushed : (c : ℤ) → IsPushedBefore P f.method f.pc c → HasPushed f c)
    (asks : (element n : ℕ) (asked : ℤ) (rest : List Value) → made_by P r ≡ Some (AnArray element) → f.operands ≡ Int asked ∷ rest → lengths f.method f.pc ≡ Some n → ((c : ℤ) → ¬ IsPushedBefore P f.method f.pc c) → asked ≤ℤ pos n) where
  -- the instruction may make so many words, or more
  abbrev pub Covers : (words : ℕ) → Type 0
  Covers words = (x : ℕ) × MayMake P bounds lengths (OfNode f.method (At f.pc)) x × (words ≤ x)

  at_most : (made : Made) (x : ℕ) → made_by P r ≡ Some made → MostWords P lengths f.method f.pc (Some made) x → MayMake P bounds lengths (OfNode f.method (At f.pc)) x
  at_most made x is most = makes line (subst (λ (o : Option Made). MostWords P lengths f.method f.pc o x) (sym is) most)

  pub covered : (made : Made) (words : ℕ) → made_by P r ≡ Some made → IsAsked made f.operands words → ¬ ¬ Covers words
  covered (AnObject w) words is asked = λ none. none (w, at_most (AnObject w) w is object, omega (arith, asked))
  covered (AnArray element) words is (size, rest, ops, words_are) = λ none.
      let not_pushed : (c : ℤ) → IsPushedBefore P f.method f.pc c → ⊥ = λ c h.
      let top = pushed c h in
      let tops : Int c ≡ Int (pos size) = heads (Int c) (Int (pos size)) top.0 rest (sym top.1 ∙ ops) in
      let same : c ≡ pos size = cc in
      let most : constant_words element c ≡ 2 + element * size = ap (constant_words element) same in
      none (constant_words element c, at_most (AnArray element) (constant_words element c) is (constant h), omega (arith, most, words_are)) in
      on (λ o. elim (have f.method f.pc within (record { graph = o.0; on = o.1; next = next; row = r; line = line; element = element; makes = is })) [
        | inl c ↦ not_pushed c.0 c.1
        | inr n ↦
            let least : pos size ≤ℤ pos n.0 = asks element n.0 (pos size) rest is ops n.1 not_pushed in
            let few : size ≤ n.0 = omega (arith, ints, least) in
            let more : element * size ≤ element * n.0 = mul-le-mul_left element few in
            none (2 + element * n.0, at_most (AnArray element) (2 + element * n.0) is (listed not_pushed n.1), omega (arith, more, words_are))
      ])
