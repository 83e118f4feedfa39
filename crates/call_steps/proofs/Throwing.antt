-- An athrow, from the step to where the machine stands for the next state.
use Rattle.std.proofs.Common.{◌≡◌, ◌⊎◌, ℕ, ◌+◌, ◌%◌, ◌^◌, ◌<◌, ◌≤◌, ◌==◌, ◌&&◌, Bool, true, false, List, [], ◌∷◌, ◌++◌, Option, Some, None, length, reverse, refl, sym, ap, ◌∙◌, subst, arith, ⊎_elim, eqb-true, length-append}
use Rattle.std.specs.Prelude.{slice_get, slice_index, IsTrue}
use Rattle.std.proofs.Math.Nat.{mod-eq_of_lt}
use Rattle.std.proofs.lemmas.Option.{none-some}
use Rattle.std.proofs.lemmas.Bool.Decides.{nat_tests}
use Rattle.std.proofs.lemmas.List.{get_or-drop}
use Rattle.micro_sketch.proofs.RowSteps.{no_stalls}
use Rattle.machine_stands.proofs.Defined.{on_defined}
use Rattle.lists.proofs.Lemmas.{some_same}
use Rattle.micro_flow.specs.declared.CostParams.{CostParams}
use Rattle.opcodes.specs.declared.instruction.Instr.{Instr}
use Rattle.opcodes.specs.Form.{one, Absent}
use Rattle.opcodes.specs.Row as opcodes
use Rattle.opcodes.specs.Reading.{plain_instr}
use Rattle.jop_core.specs.State as machine
use Rattle.micro_sketch.specs.Sketch.{Sketch, same_bool}
use Rattle.micro_sketch.specs.Stands.{Env}
use Rattle.micro_sketch.specs.Laws.{CostsHold}
use Rattle.micro_sketch.specs.View.{env_of}
use Rattle.micro_sketch.specs.Row.{StandsAt}
use Rattle.micro_sketch.specs.Rows.{entered, Finishes, end_of, Raising, Raises, RunsToRaise}
use Rattle.micro_sketch.specs.RowLaws.{AreRowLaws}
use Rattle.bytecode_model.specs.declared.Value.{Value}
use Rattle.bytecode_model.specs.declared.Value.TheVariants.{Int, Long, Ref, Null, Unset}
use Rattle.bytecode_model.specs.declared.Ending.TheVariants.{Running}
use Rattle.bytecode_model.specs.Rows.{Row, Throw}
use Rattle.bytecode_model.specs.State.{Object, Frame, State}
use Rattle.bytecode_model.specs.Program.{Program, Operand}
use Rattle.bytecode_model.specs.Table.{row_of}
use Rattle.bytecode_model.specs.Effects.{Raise, NullPointerException, fault_object, on, on_object, effect}
use Rattle.bytecode_model.specs.Steps.{applied}
use Rattle.image_facts.specs.Within.{LieAt}
use Rattle.image_facts.specs.Places.{Places, AreFixed, object_place, objects_place, middle_place}
use Rattle.image_facts.specs.Says.{SaysAll, header_words}
use Rattle.machine_stands.specs.Frames.{AreOperands}
use Rattle.machine_stands.specs.StandsFor.{limits_of}
use Rattle.machine_stands.specs.Comes.{params, ComesTo}
use Rattle.machine_stands.specs.Simulates.{IsStep, Simulates, is_bare}
use Rattle.machine_stands.specs.Seen.{seen}
use Rattle.machine_stands.specs.Again.{registers_of}
use Rattle.machine_stands.specs.Reading.{IsAtRow, PlainOnesAreRead, operands_of}
use Rattle.machine_stands.specs.Shown.{Shows, SketchesShow}
use Rattle.machine_stands.specs.Operands.{OneWordIsOnTop}
use Rattle.machine_stands.specs.Fixed.{RaiseListIsRead}
use Rattle.machine_stands.specs.Going.{FramesRaise}
use Rattle.call_steps.specs.Family.{throws}

pub record ThrowLaws : Type 0 where
  pub plain : PlainOnesAreRead
  pub shows : SketchesShow
  pub raises : FramesRaise
  pub one : OneWordIsOnTop
  pub list : RaiseListIsRead
  pub rows : AreRowLaws
  pub costs : CostsHold

-- ---- the row

-- the object is taken off the stack and raised
abbrev thrown : Sketch → (object : ℕ) → Raising
thrown x object = record { words = x.next ∷ x.under; jpc = x.jpc; object = object }

abbrev null_object : Sketch → ℕ
null_object x = slice_index x.memory ((6 + slice_index x.low 30) % 2 ^ 32)

-- some words from x on come to the raise routine with the object
record Ends (x : Sketch) (object : ℕ) : Type 0 where
  finish : Finishes x
  raises : Raises (thrown x object) x (end_of x finish)

not_null : (x : Sketch) → (x.top == 0) ≡ false → Ends (entered 191 x) x.top
not_null x some = record {
  finish = record {
    words = 5;
    guesses = false ∷ [];
    done = record { fine = ap (λ (b : Bool). same_bool false b && true) some; done = refl; idle = refl };
    loads = refl;
    loaded = refl;
  };
  raises = record {
    mpc = refl;
    running = refl;
    words = refl;
    deep = refl;
    low = refl;
    memory = refl;
    jpc = refl;
    opcode = refl;
    answers = refl;
    output = refl;
    kept = record { vp = refl; method = refl; cache = refl; hits = refl; misses = refl; loads = refl; loaded = refl };
  };
}

null : (x : Sketch) → (x.top == 0) ≡ true → Ends (entered 191 x) (null_object (entered 191 x))
null x none = record {
  finish = record {
    words = 10;
    guesses = true ∷ [];
    done = record { fine = ap (λ (b : Bool). same_bool true b && true) none; done = refl; idle = refl };
    loads = refl;
    loaded = refl;
  };
  raises = record {
    mpc = refl;
    running = refl;
    words = refl;
    deep = refl;
    low = refl;
    memory = refl;
    jpc = refl;
    opcode = refl;
    answers = refl;
    output = refl;
    kept = record { vp = refl; method = refl; cache = refl; hits = refl; misses = refl; loads = refl; loaded = refl };
  };
}

runs : ThrowLaws → (n : ℕ) (p : CostParams) (x : Sketch) (e : Env) (s : machine.MachineState) (object : ℕ) → StandsAt n p 191 x e s → Ends x object → RunsToRaise n p 191 (thrown x object) x e
runs laws n p x e s object h g =
    let y = end_of x g.finish in
    let r = laws.rows.finish_runs n p 191 x e s h g.finish in
    record {
      after = y;
      reaches = r;
      done = g.finish.done;
      raises = g.raises;
      cost = λ k is. omega (arith, laws.costs p 191 k n x y e h.entry r g.finish.done is, no_stalls y p.r g.finish.loads g.finish.loaded);
    }

throws_object : ThrowLaws → (n : ℕ) (p : CostParams) (x : Sketch) (e : Env) (s : machine.MachineState) → StandsAt n p 191 x e s → (x.top == 0) ≡ false → RunsToRaise n p 191 (thrown x x.top) x e
throws_object laws n p x e s h some =
    let P : Sketch → Type 0 = λ y. Ends y y.top in
    runs laws n p x e s x.top h (subst P (sym (laws.rows.enters n p 191 x e s h)) (not_null x some))

throws_null : ThrowLaws → (n : ℕ) (p : CostParams) (x : Sketch) (e : Env) (s : machine.MachineState) → StandsAt n p 191 x e s → (x.top == 0) ≡ true → RunsToRaise n p 191 (thrown x (null_object x)) x e
throws_null laws n p x e s h none =
    let P : Sketch → Type 0 = λ y. Ends y (null_object y) in
    runs laws n p x e s (null_object x) h (subst P (sym (laws.rows.enters n p 191 x e s h)) (null x none))

-- ---- the instruction

form_read : operands_of (opcodes.row_of 191).form ≡ Some (one Absent)
unfolding opcodes.row_of
form_read = refl

is_throw : (code : List ℕ) (pc : ℕ) (o : Operand) (r : Row) → row_of code (plain_instr 191 code pc (one Absent)) o ≡ Some r → r ≡ Throw
unfolding row_of
is_throw code pc o r h = sym (some_same Throw r h)

lies_within : (whole : List ℕ) (place : ℕ) (words : List ℕ) → LieAt whole place words → place + length words ≤ length whole
lies_within whole place words l = omega (arith, ap length l.split, length-append l.before (words ++ l.after), length-append words l.after, l.place_is)

fixed_below : (P : Program) (pl : Places) (place : ℕ) (words : List ℕ) → AreFixed P pl place words → place + length words ≤ objects_place P pl
fixed_below P pl place words h =
    ⊎_elim (λ (l : LieAt pl.front place words). omega (arith, lies_within pl.front place words l))
    (λ (m : (k : ℕ) × (place ≡ middle_place P pl + k) × LieAt pl.middle k words). omega (arith, m.1, lies_within pl.middle m.0 words m.2)) h

module _ (laws : ThrowLaws) (P : Program) (pl : Places) (n size : ℕ) (m : machine.MachineState) (answer : Option ℕ) (s s' : State) (h : IsStep P pl n size m answer s s') (mode : s.mode ≡ Running) (linked : P.linked ≡ true) (opcode : m.opcode ≡ 191) where
  abbrev pub top : Frame
  top = h.stands.top

  abbrev pub instr : Instr
  instr = plain_instr 191 h.stands.body.code top.pc (one Absent)

  abbrev pub p : CostParams
  p = params m 0 0

  abbrev pub x : Sketch
  x = seen p (None ∷ []) m h.stands.words h.stands.below

  abbrev pub place : ℕ → ℕ
  place = object_place P pl s.objects

  shows : Shows P pl n size m s h.stands p x
  shows = laws.shows P pl n size m answer s s' h p (None ∷ []) mode refl refl

  stands : StandsAt n p 191 x (env_of m) m
  stands = subst (λ (k : ℕ). StandsAt n p k x (env_of m) m) opcode shows.stands

  registers : (k : ℕ) → slice_index x.low (24 + k) ≡ slice_index (registers_of P pl n size s top shows.raised) k
  registers k = sym (get_or-drop 24 x.low k 0) ∙ ap (λ (ws : List ℕ). slice_index ws k) shows.low

  at : IsAtRow P pl n size m answer s s' h.stands instr Throw
  at =
      let read = laws.plain P pl n size m answer s s' h 191 (one Absent) mode opcode form_read in
      subst (λ (r : Row). IsAtRow P pl n size m answer s s' h.stands instr r) (is_throw h.stands.body.code top.pc (P.operand top.method top.pc) read.0 read.1.is_row) read.1

  -- the words of the stack, where the operands begin so
  tails : (a b : ℕ) (ws vs : List ℕ) → a ∷ ws ≡ b ∷ vs → ws ≡ vs
  tails a b ws vs e = cc

  heads : (a b : ℕ) (ws vs : List ℕ) → a ∷ ws ≡ b ∷ vs → a ≡ b
  heads a b ws vs e = cc

  comes : (v : Value) (rest : List Value) (object : ℕ) (word : ℕ) (others : List ℕ) (f : Raising) → effect P (limits_of P pl n size) s top (top.pc + instr.length) Throw ≡ Raise object → h.stands.words.operands ≡ word ∷ others
      → f.words ≡ x.next ∷ x.under → f.jpc ≡ x.jpc → f.object ≡ place object → RunsToRaise n p 191 f x (env_of m) → ComesTo P pl n size m s s'
  comes v rest object word others f raises split words jpc is run =
      let all : x.top ∷ x.next ∷ x.under ≡ word ∷ (others ++ reverse h.stands.words.saved) = shows.words ∙ ap (λ (ws : List ℕ). ws ++ reverse h.stands.words.saved) split in
      let within = at.within in
      let place_is : x.jpc ≡ top.pc + (1 + 0) = shows.jpc 0 within in
      laws.raises P pl n size m answer s s' h instr Throw object f mode at raises
      (record {
        left = others;
        few = omega (arith, shows.depth, ap (λ (ws : List ℕ). length ws) split);
        stack = words ∙ tails x.top word (x.next ∷ x.under) (others ++ reverse h.stands.words.saved) all;
        from = omega (arith, jpc, place_is);
        to = omega (arith, jpc, place_is);
        place = is;
      })
      (subst (λ (k : ℕ). RunsToRaise n p k f x (env_of m)) (sym opcode) run)

  -- the object is on top, or null is
  top_is : (word : ℕ) (others : List ℕ) → h.stands.words.operands ≡ word ∷ others → x.top ≡ word
  top_is word others split = heads x.top word (x.next ∷ x.under) (others ++ reverse h.stands.words.saved) (shows.words ∙ ap (λ (ws : List ℕ). ws ++ reverse h.stands.words.saved) split)

  comes_with_null : (rest : List Value) → top.operands ≡ Null ∷ rest → ComesTo P pl n size m s s'
  comes_with_null rest is =
      let w = laws.one place Null rest h.stands.words.operands refl (subst (λ (vs : List Value). AreOperands place vs h.stands.words.operands) is h.stands.are_frames.0.operands) in
      let zero : (x.top == 0) ≡ true = ap (λ (k : ℕ). k == 0) (top_is w.word w.others w.split ∙ w.is) in
      let list = laws.list P pl n size m answer s s' h NullPointerException linked in
      let small = h.stands.sizes.small in
      let at_list : (6 + slice_index x.low 30) % 2 ^ 32 ≡ pl.raise_list + 6 =
      ap (λ (k : ℕ). (6 + k) % 2 ^ 32) (registers 6) ∙ mod-eq_of_lt {n = 6 + pl.raise_list} {m = 2 ^ 32} (omega (arith, list.0, small)) ∙ omega arith in
      comes Null rest (fault_object NullPointerException) w.word w.others (thrown x (null_object x)) (ap (λ (vs : List Value). on_object s.objects vs (λ q o others. Raise q)) is) w.split refl refl
      (ap (λ (k : ℕ). slice_index x.memory k) at_list ∙ list.1) (throws_null laws n p x (env_of m) m stands zero)

  comes_with : (q : ℕ) (rest : List Value) (o : Object) → top.operands ≡ Ref q ∷ rest → slice_get s.objects q ≡ Some o → 0 < place q → ComesTo P pl n size m s s'
  comes_with q rest o is there above =
      let w = laws.one place (Ref q) rest h.stands.words.operands refl (subst (λ (vs : List Value). AreOperands place vs h.stands.words.operands) is h.stands.are_frames.0.operands) in
      let word : x.top ≡ place q = top_is w.word w.others w.split ∙ w.is in
      let some : (x.top == 0) ≡ false = ap (λ (k : ℕ). k == 0) word ∙ not_zero (place q) above in
      comes (Ref q) rest q w.word w.others (thrown x x.top)
      (ap (λ (vs : List Value). on_object s.objects vs (λ q o others. Raise q)) is ∙ ap (λ u. on u (λ (v : Object). Raise q)) there) w.split refl refl word (throws_object laws n p x (env_of m) m stands some)
    where
      not_zero : (k : ℕ) → 0 < k → (k == 0) ≡ false
      not_zero k h = grind (arith, nat_tests, h)

  -- no object lies at 0
  header : 0 < objects_place P pl
  header = let says = subst (λ b. SaysAll b P pl) linked h.says.all in let below = fixed_below P pl 0 (header_words P pl) says.header in omega arith

  pub throw_comes : ComesTo P pl n size m s s'
  throw_comes = by top.operands refl (ap (λ (vs : List Value). applied P (limits_of P pl n size) answer s top h.stands.callers (on_object s.objects vs (λ q o others. Raise q))) refl ∙ at.step)
    where
      by : (ops : List Value) → top.operands ≡ ops → applied P (limits_of P pl n size) answer s top h.stands.callers (on_object s.objects ops (λ q o others. Raise q)) ≡ Some s' → ComesTo P pl n size m s s'
      by [] e g = absurd (none-some s' g)
      by (Int k ∷ rest) e g = absurd (none-some s' g)
      by (Long k ∷ rest) e g = absurd (none-some s' g)
      by (Unset ∷ rest) e g = absurd (none-some s' g)
      by (Null ∷ rest) e g = comes_with_null rest e
      by (Ref q ∷ rest) e g =
          let o = on_defined P (limits_of P pl n size) answer s top h.stands.callers s' (slice_get s.objects q) (λ u. Raise q) g in
          comes_with q rest o.0 e o.1 (omega (arith, header))

-- no bare image has one
linked_by : (P : Program) (op : ℕ) → op ≡ 191 → (P.linked ≡ true) ⊎ IsTrue (is_bare op) → P.linked ≡ true
linked_by P op is linked = ⊎_elim (λ e. e) (λ bare. absurd (none (subst (λ (j : ℕ). IsTrue (is_bare j)) is bare))) linked
  where
    none : IsTrue (is_bare 191) → ⊥
    none h = cc

pub simulates : ThrowLaws → Simulates throws
simulates laws P pl n size m answer s s' h mode family linked =
    let is = eqb-true m.opcode 191 family in throw_comes laws P pl n size m answer s s' h mode (linked_by P m.opcode is linked) is
