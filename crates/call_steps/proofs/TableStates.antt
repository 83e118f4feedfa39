-- A call by a receiver, from the step to where the machine stands for the next state.
use Rattle.std.proofs.Common.{◌≡◌, ℕ, ◌+◌, ◌*◌, ◌/◌, ◌%◌, ◌^◌, ◌<◌, ◌≤◌, ◌==◌, true, false, List, [], ◌∷◌, ◌++◌, Option, Some, None, inl, length, reverse, refl, sym, ap, ◌∙◌, subst, arith, append_assoc, length-append, ⊎_elim}
use Rattle.std.specs.Prelude.{slice_get, slice_index, IsSome}
use Rattle.std.specs.List.{sum_by}
use Rattle.std.proofs.Math.Nat.{mod-eq_of_lt}
use Rattle.std.proofs.lemmas.Option.{none-some}
use Rattle.std.proofs.lemmas.Bool.Decides.{nat_tests}
use Rattle.std.proofs.lemmas.List.{reverse-append, get_or-drop}
use Rattle.machine_memory.specs.Stack.Size.{IsSize}
use Rattle.std.proofs.lemmas.List.Sums.{sum_by-cons, sum_by-append}
use Rattle.machine_stands.proofs.Seeing.{parts_same}
use Rattle.machine_stands.proofs.Defined.{class_is, object_at, on_defined}
use Rattle.lists.proofs.Lemmas.{holds_at, onto_some, some_is, some_same}
use Rattle.opcodes.specs.declared.instruction.Instr.{Instr}
use Rattle.opcodes.specs.Bytes.{u1, u2}
use Rattle.opcodes.specs.Reading.{plain_instr}
use Rattle.jop_core.specs.State as machine
use Rattle.micro_flow.specs.declared.CostParams.{CostParams}
use Rattle.micro_sketch.specs.Sketch.{Sketch, abyte}
use Rattle.micro_sketch.specs.View.{env_of}
use Rattle.micro_sketch.specs.Row.{StandsAt}
use Rattle.micro_sketch.specs.Rows.{RunsToRaise}
use Rattle.micro_sketch.specs.Operand.{past, two_byte_operand}
use Rattle.bytecode_model.specs.declared.Value.{Value}
use Rattle.bytecode_model.specs.declared.Value.TheVariants.{Int, Long, Ref, Null, Unset}
use Rattle.bytecode_model.specs.declared.Ending.TheVariants.{Running}
use Rattle.bytecode_model.specs.Types.{Kind, is_long}
use Rattle.bytecode_model.specs.Rows.{Row}
use Rattle.bytecode_model.specs.State.{Object, Frame, State}
use Rattle.bytecode_model.specs.Program.{Program, Method, Operand, AMethod, body_of, kind_of}
use Rattle.bytecode_model.specs.Sizes.{value_words}
use Rattle.bytecode_model.specs.Effects.{Call, Fault, NullPointerException, IncompatibleClassChangeError, StackOverflowError, fault, fault_object, on, on_object, has_class, selected}
use Rattle.bytecode_model.specs.Steps.{applied, raising}
use Rattle.image_facts.specs.Places.{Places, AreFixed, object_place, pool_of}
use Rattle.image_facts.specs.Says as says
use Rattle.image_facts.specs.Says.{SaysAll, SaysLinked, Means, MeansMethod}
use Rattle.machine_stands.specs.Frames.{IsWordOf, AreOperands}
use Rattle.machine_stands.specs.StandsFor.{limits_of}
use Rattle.machine_stands.specs.Comes.{params, ComesTo}
use Rattle.machine_stands.specs.Simulates.{IsStep}
use Rattle.machine_stands.specs.Seen.{seen}
use Rattle.machine_stands.specs.Again.{registers_of}
use Rattle.machine_stands.specs.Reading.{IsAtRow, PlainOnesAreRead}
use Rattle.machine_stands.specs.Shown.{Shows, SketchesShow}
use Rattle.machine_stands.specs.Stopping.{RaisesOn, RaisesCome}
use Rattle.machine_stands.specs.Operands.{OneWordIsOnTop, OperandsHaveWords, OperandsArePartedAnywhere}
use Rattle.machine_stands.specs.Fixed.{RaiseListIsRead, PoolsAreRead}
use Rattle.call_steps.specs.Entry.{CanEnter, Enters, raises_at}
use Rattle.call_steps.specs.Coming.{MethodsAreRead, RowEnters, CallsCome}
use Rattle.call_steps.specs.Tables.{TableCall, Invokevirtual, Invokespecial, Invokeinterface, table_code, first_word, second_word, taken_words, table_word, method_for, behind, HasReceiver, has_none, NullRaises, ChangeRaises, TableCallsRun}
use Rattle.call_steps.proofs.Receiving.{form, form_read, long_enough, first_is, call_row, names_method, a_method_is_named, choose, Received, received, arguments_are, IsChosen, Chosen, Changed, chosen}
use Rattle.call_steps.proofs.Receivers.{ObjectLaws, object_above, type_read, Tables, tables_read, table_read}

pub record StateLaws : Type 0 where
  pub plain : PlainOnesAreRead
  pub shows : SketchesShow
  pub raises : RaisesCome
  pub count : OperandsHaveWords
  pub one : OneWordIsOnTop
  pub parts : OperandsArePartedAnywhere
  pub list : RaiseListIsRead
  pub pools : PoolsAreRead
  pub methods : MethodsAreRead
  pub come : CallsCome
  pub objects : ObjectLaws
  pub nulls : NullRaises
  pub changes : ChangeRaises
  pub runs : TableCallsRun

-- ---- options and lists

is_there : {A : Type 0} (o : Option A) → IsSome o → (x : A) × (o ≡ Some x)
is_there None h = absurd (cc)
is_there (Some x) h = (x, refl)

size_small : (n : ℕ) → IsSize n → n ≤ 1024
size_small n h = ⊎_elim (λ (e : n ≡ 256). omega (arith, e)) (λ other. ⊎_elim (λ (e : n ≡ 512). omega (arith, e)) (λ (e : n ≡ 1024). omega (arith, e)) other) h

not_zero : (w : ℕ) → 0 < w → (w == 0) ≡ false
not_zero w h = grind (arith, nat_tests, h)

module _ (laws : StateLaws) (P : Program) (pl : Places) (n size : ℕ) (m : machine.MachineState) (answer : Option ℕ) (s s' : State) (h : IsStep P pl n size m answer s s') (mode : s.mode ≡ Running) (linked : P.linked ≡ true) (op : TableCall) (opcode : m.opcode ≡ table_code op) where
  abbrev pub code : List ℕ
  code = h.stands.body.code

  abbrev pub top : Frame
  top = h.stands.top

  abbrev pub instr : Instr
  instr = plain_instr (table_code op) code top.pc (form op)

  abbrev pub p : CostParams
  p = params m 0 0

  abbrev pub x : Sketch
  x = seen p (None ∷ []) m h.stands.words h.stands.below

  abbrev pub place : ℕ → ℕ
  place = object_place P pl s.objects

  pub says_linked : SaysLinked P pl
  says_linked = subst (λ b. SaysAll b P pl) linked h.says.all

  pub shows : Shows P pl n size m s h.stands p x
  shows = laws.shows P pl n size m answer s s' h p (None ∷ []) mode refl refl

  pub stands : StandsAt n p (table_code op) x (env_of m) m
  stands = subst (λ (k : ℕ). StandsAt n p k x (env_of m) m) opcode shows.stands

  registers : (k : ℕ) → slice_index x.low (24 + k) ≡ slice_index (registers_of P pl n size s top shows.raised) k
  registers k = sym (get_or-drop 24 x.low k 0) ∙ ap (λ (ws : List ℕ). slice_index ws k) shows.low

  -- ---- the instruction

  -- the method that it names, and the receiver's place among the operands
  pub record Named : Type 0 where
    named : ℕ
    t : ℕ
    operand : P.operand top.method top.pc ≡ AMethod named t
    at : IsAtRow P pl n size m answer s s' h.stands instr (call_row op named t)
    is : Received P (limits_of P pl n size) answer s top h.stands.callers s' op named t

  pub named_now : Named
  named_now =
      let read = laws.plain P pl n size m answer s s' h (table_code op) (form op) mode opcode (form_read op) in
      let method = names_method op code top.pc (P.operand top.method top.pc) read.0 read.1.is_row in
      let at = subst (λ (r : Row). IsAtRow P pl n size m answer s s' h.stands instr r) method.3 read.1 in
      record { named = method.0; t = method.1; operand = method.2; at = at; is = received P (limits_of P pl n size) answer s top h.stands.callers s' op method.0 method.1 (top.pc + instr.length) at.step }

  -- the place behind the two bytes of the operand, which lie within the instruction
  within : (c : Named) → top.pc + (1 + 2) ≤ length code
  within c = omega (arith, c.at.within, long_enough op)

  jpc_is : (c : Named) → (past 2 x).jpc ≡ top.pc + (1 + 2)
  jpc_is c = shows.jpc 2 (within c)

  index_is : (c : Named) → two_byte_operand x ≡ u2 code (top.pc + 1)
  index_is c =
      let pc = top.pc in
      let second : pc + 1 + 1 ≡ pc + 2 = omega arith in
      ap (λ (b : ℕ). b * 2 ^ 8 + abyte (past 1 x)) (shows.bytes 0 (omega (arith, within c))) ∙ ap (λ (b : ℕ). u1 code (pc + 1) * 2 ^ 8 + b) (shows.bytes 1 (omega (arith, within c)))
      ∙ ap (λ (k : ℕ). u1 code (pc + 1) * 2 ^ 8 + u1 code k) (sym second)

  -- ---- the pool's entry

  pub record Entry (c : Named) : Type 0 where
    means : MeansMethod P pl (table_code op) c.named c.t c.is.method (first_word x) (second_word x)

  entry_of : (c : Named) → Entry c
  entry_of c =
      let index = u2 code (top.pc + 1) in
      let pool = pool_of P pl top.method in
      let e = laws.pools P pl n size m answer s s' h instr (call_row op c.named c.t) index mode c.at (first_is op code top.pc) (a_method_is_named c.named c.t (P.operand top.method top.pc) c.operand) in
      let small = h.stands.sizes.small in
      let within = e.within in
      let at : (slice_index x.low 24 + 2 * two_byte_operand x) % 2 ^ 32 ≡ pool + 2 * index =
      ap (λ (i : ℕ). (slice_index x.low 24 + 2 * i) % 2 ^ 32) (index_is c) ∙ ap (λ (k : ℕ). (k + 2 * index) % 2 ^ 32) (registers 0)
      ∙ mod-eq_of_lt {n = pool + 2 * index} {m = 2 ^ 32} (omega (arith, within, small)) in
      let first : first_word x ≡ e.first = ap (λ (k : ℕ). slice_index x.memory k) at ∙ e.first_is in
      let second : second_word x ≡ e.second =
      ap (λ (k : ℕ). slice_index x.memory ((k + 1) % 2 ^ 32)) at ∙ ap (λ (k : ℕ). slice_index x.memory k) (mod-eq_of_lt {n = pool + 2 * index + 1} {m = 2 ^ 32} (omega (arith, within, small))) ∙ e.second_is in
      let means = holds_at (slice_get P.methods c.t) c.is.method (λ k. MeansMethod P pl (table_code op) c.named c.t k e.first e.second) c.is.is_method
      (subst (λ (o : Operand). Means P pl (table_code op) o e.first e.second) c.operand e.means) in
      let M : ℕ → ℕ → Type 0 = λ a b. MeansMethod P pl (table_code op) c.named c.t c.is.method a b in
      record { means = subst (λ (a : ℕ). M a (second_word x)) (sym first) (subst (λ (b : ℕ). M e.first b) (sym second) means) }

  -- the words of its arguments
  taken_is : (c : Named) → taken_words op x ≡ says.argument_words_of c.is.method
  taken_is c = of op (entry_of c).means
    where
      of : (o : TableCall) → MeansMethod P pl (table_code o) c.named c.t c.is.method (first_word x) (second_word x) → taken_words o x ≡ says.argument_words_of c.is.method
      of Invokevirtual means = (means.virtual refl).0
      of Invokeinterface means = (means.interface refl).0
      of Invokespecial means =
          let b = is_there c.is.method.body (means.code refl) in
          let read = laws.methods P pl n size m s h.stands x c.t c.is.method b.0 h.well_formed h.says linked c.is.is_method b.1 refl refl in
          let first : first_word x ≡ pl.method c.t = means.itself (inl refl) (means.code refl) in
          let small = read.is_method.place in
          ap (λ (k : ℕ). slice_index x.memory ((k + 1) % 2 ^ 32) / 2 ^ 16) first ∙ ap (λ (k : ℕ). slice_index x.memory k / 2 ^ 16) (mod-eq_of_lt {n = pl.method c.t + 1} {m = 2 ^ 32} (omega arith)) ∙ read.arguments

  -- ---- the receiver

  -- the words of the operands, where v is in its place
  pub record Words (c : Named) (v : Value) (rest : List Value) : Type 0 where
    upper : List ℕ
    word : ℕ
    others : List ℕ
    split : h.stands.words.operands ≡ upper ++ word ∷ others
    count : length upper ≡ sum_by value_words c.is.upper
    is : IsWordOf place v word

  words_of : (c : Named) (v : Value) (rest : List Value) → is_long v ≡ false → c.is.rest ≡ v ∷ rest → Words c v rest
  words_of c v rest short is =
      let operands : top.operands ≡ c.is.upper ++ v ∷ rest = c.is.operands ∙ ap (λ (vs : List Value). c.is.upper ++ vs) is in
      let parts = laws.parts place c.is.upper (v ∷ rest) h.stands.words.operands (subst (λ (vs : List Value). AreOperands place vs h.stands.words.operands) operands h.stands.are_frames.0.operands) in
      let on = laws.one place v rest parts.lower_words short parts.are_lower in
      record {
        upper = parts.upper_words;
        word = on.word;
        others = on.others;
        split = parts.split ∙ ap (λ (ws : List ℕ). parts.upper_words ++ ws) on.split;
        count = laws.count place c.is.upper parts.upper_words parts.are_upper;
        is = on.is;
      }

  abbrev can_receive : (c : Named) (v : Value) (rest : List Value) → Words c v rest → HasReceiver n op x
  can_receive c v rest w = record {
    upper = w.upper;
    receiver = w.word;
    others = w.others ++ reverse h.stands.words.saved;
    split = shows.words ∙ ap (λ (ws : List ℕ). ws ++ reverse h.stands.words.saved) w.split ∙ append_assoc w.upper (w.word ∷ w.others) (reverse h.stands.words.saved);
    count = counted c v rest w;
    size = small_size;
    raise_list = list_small c;
  }
    where
      counted : (c : Named) (v : Value) (rest : List Value) (w : Words c v rest) → length w.upper + 1 ≡ taken_words op x
      counted c v rest w = omega (arith, w.count, c.is.words, arguments_are c.is.method c.is.has_this, taken_is c)

      small_size : n < 2 ^ 32
      small_size = omega (arith, size_small n h.stands.sizes.is_size)

      list_small : (c : Named) → slice_index x.low 30 + 8 < 2 ^ 32
      list_small c = omega (arith, registers 6, (laws.list P pl n size m answer s s' h StackOverflowError linked).0, h.stands.sizes.small)

  -- ---- what is raised before the call

  raises_on : (c : Named) (f : Fault) → s' ≡ raising s top h.stands.callers (fault_object f) → RaisesOn P pl n size m s s' h.stands instr (fault_object f) (raises_at x (past 2 x).jpc (fault_object f))
  raises_on c f next =
      let list = laws.list P pl n size m answer s s' h f linked in
      let jpc = jpc_is c in
      record {
        mode = ap (λ (u : State). u.mode) next;
        frames = ap (λ (u : State). u.frames) next;
        rest = record { objects = ap (λ (u : State). u.objects) next; statics = ap (λ (u : State). u.statics) next; answers = ap (λ (u : State). u.answers) next; output = ap (λ (u : State). u.output) next };
        left = h.stands.words.operands;
        few = shows.depth;
        stack = shows.words;
        from = omega (arith, jpc);
        to = omega (arith, jpc, long_enough op);
        object = ap (λ (k : ℕ). slice_index x.memory (k + fault_object f)) (registers 6) ∙ list.1;
      }

  comes_to_raise : (c : Named) (f : Fault) → RunsToRaise n p (table_code op) (raises_at x (past 2 x).jpc (fault_object f)) x (env_of m) → s' ≡ raising s top h.stands.callers (fault_object f) → ComesTo P pl n size m s s'
  comes_to_raise c f run next =
      laws.raises P pl n size m answer s s' h instr (fault_object f) (raises_at x (past 2 x).jpc (fault_object f)) mode c.at.at (raises_on c f next)
      (subst (λ (k : ℕ). RunsToRaise n p k (raises_at x (past 2 x).jpc (fault_object f)) x (env_of m)) (sym opcode) run)

  raised_state : (f : Fault) → applied P (limits_of P pl n size) answer s top h.stands.callers (fault f) ≡ Some s' → s' ≡ raising s top h.stands.callers (fault_object f)
  raised_state f e = sym (some_same (raising s top h.stands.callers (fault_object f)) s' e)

  comes_to_null : (c : Named) (rest : List Value) → c.is.rest ≡ Null ∷ rest → applied P (limits_of P pl n size) answer s top h.stands.callers (fault NullPointerException) ≡ Some s' → ComesTo P pl n size m s s'
  comes_to_null c rest is goes =
      let w = words_of c Null rest refl is in
      comes_to_raise c NullPointerException (laws.nulls n p op x (env_of m) m stands (can_receive c Null rest w) w.is) (raised_state NullPointerException goes)

  -- ---- the call

  -- the receiver is an object of a type
  pub record Receiver (c : Named) (q : ℕ) (rest : List Value) : Type 0 where
    o : Object
    there : slice_get s.objects q ≡ Some o
    kind : Kind
    is_kind : kind_of P o ≡ Some kind
    goes : applied P (limits_of P pl n size) answer s top h.stands.callers (choose P op c.named c.t c.is.method o (Ref q ∷ reverse c.is.upper) rest) ≡ Some s'
    words : Words c (Ref q) rest
    above : 0 < words.word
    type : slice_index m.port.words words.word ≡ pl.type o.kind
    tables : Tables P pl size m o.kind

  receiver_of : (c : Named) (q : ℕ) (rest : List Value) → c.is.rest ≡ Ref q ∷ rest
      → applied P (limits_of P pl n size) answer s top h.stands.callers (on (slice_get s.objects q) (λ o. choose P op c.named c.t c.is.method o (Ref q ∷ reverse c.is.upper) rest)) ≡ Some s' → Receiver c q rest
  receiver_of c q rest is goes =
      let o = on_defined P (limits_of P pl n size) answer s top h.stands.callers s' (slice_get s.objects q) (λ o. choose P op c.named c.t c.is.method o (Ref q ∷ reverse c.is.upper) rest) goes in
      let object = object_at P (length s.objects) s.objects q o.0 h.well_formed.objects o.1 in
      let kind = some_is (kind_of P o.0) _ object.shape in
      let w = words_of c (Ref q) rest refl is in
      record {
        o = o.0;
        there = o.1;
        kind = kind.0;
        is_kind = kind.1;
        goes = o.2;
        words = w;
        above = omega (arith, w.is, object_above P pl s.objects q says_linked);
        type = ap (λ (k : ℕ). slice_index m.port.words k) w.is ∙ type_read laws.objects P pl n size m s q o.0 h.stands h.well_formed o.1;
        tables = tables_read laws.objects P pl n size m s o.0.kind kind.0 h.stands h.well_formed says_linked kind.1;
      }

  -- the method that is called
  pub record Called (c : Named) (q : ℕ) (rest : List Value) (r : Receiver c q rest) : Type 0 where
    u : ℕ
    goes : applied P (limits_of P pl n size) answer s top h.stands.callers (Call u (Ref q ∷ reverse c.is.upper) rest) ≡ Some s'
    found : IsSome (body_of P u) → (method_for op x r.words.word ≡ pl.method u) × (has_none op x r.words.word ≡ false)

  abbrev taken : (c : Named) (q : ℕ) → List Value
  taken c q = c.is.upper ++ Ref q ∷ []

  -- its row goes on
  enters : (c : Named) (q : ℕ) (rest : List Value) (r : Receiver c q rest) (d : Called c q rest r) → RowEnters P pl n size m s h.stands instr (taken c q) d.u
  enters c q rest r d arguments others split values count some can =
      let w = r.words in
      let saved = reverse h.stands.words.saved in
      let found = d.found some in
      let receives = can_receive c (Ref q) rest w in
      let whole : h.stands.words.operands ≡ (w.upper ++ w.word ∷ []) ++ w.others = w.split ∙ sym (append_assoc w.upper (w.word ∷ []) w.others) in
      let as_many : length arguments ≡ length (w.upper ++ w.word ∷ []) =
      omega (arith, values, sum_by-append value_words c.is.upper (Ref q ∷ []), sum_by-cons value_words (Ref q) [], w.count, length-append w.upper (w.word ∷ [])) in
      let same = parts_same arguments (w.upper ++ w.word ∷ []) others w.others (sym split ∙ whole) as_many in
      let rests : others ++ saved ≡ w.others ++ saved = ap (λ (ws : List ℕ). ws ++ saved) same.1 in
      let E : ℕ → List ℕ → List ℕ → Type 0 = λ k a b. CanEnter n x k a b in
      let able : E (method_for op x w.word) (w.upper ++ w.word ∷ []) (w.others ++ saved) =
      subst (λ (k : ℕ). E k (w.upper ++ w.word ∷ []) (w.others ++ saved)) (sym found.0)
      (subst (λ (a : List ℕ). E (pl.method d.u) a (w.others ++ saved)) same.0 (subst (λ (b : List ℕ). E (pl.method d.u) arguments b) rests can)) in
      let made = laws.runs n p op x (env_of m) m stands receives r.above found.1 able in
      let F : ℕ → ℕ → ℕ → List ℕ → List ℕ → Type 0 = λ o k j a b. Enters n p o x (env_of m) k j a b in
      let at_method : F (table_code op) (pl.method d.u) (behind op x) (w.upper ++ w.word ∷ []) (w.others ++ saved) =
      subst (λ (k : ℕ). F (table_code op) k (behind op x) (w.upper ++ w.word ∷ []) (w.others ++ saved)) found.0 made in
      let at_place : F (table_code op) (pl.method d.u) (top.pc + instr.length) (w.upper ++ w.word ∷ []) (w.others ++ saved) =
      subst (λ (j : ℕ). F (table_code op) (pl.method d.u) j (w.upper ++ w.word ∷ []) (w.others ++ saved)) (behind_is c) at_method in
      let with_arguments : F (table_code op) (pl.method d.u) (top.pc + instr.length) arguments (others ++ saved) =
      subst (λ (b : List ℕ). F (table_code op) (pl.method d.u) (top.pc + instr.length) arguments b) (sym rests)
      (subst (λ (a : List ℕ). F (table_code op) (pl.method d.u) (top.pc + instr.length) a (w.others ++ saved)) (sym same.0) at_place) in
      subst (λ (o : ℕ). F o (pl.method d.u) (top.pc + instr.length) arguments (others ++ saved)) (sym opcode) with_arguments
    where
      behind_is : (c : Named) → behind op x ≡ top.pc + instr.length
      behind_is c = of op c.at.within
        where
          of : (o : TableCall) → top.pc + (plain_instr (table_code o) code top.pc (form o)).length ≤ length code → behind o x ≡ top.pc + (plain_instr (table_code o) code top.pc (form o)).length
          of Invokevirtual within = shows.jpc 2 within
          of Invokespecial within = shows.jpc 2 within
          of Invokeinterface within = shows.jpc 4 within

  comes_to_call : (c : Named) (q : ℕ) (rest : List Value) → c.is.rest ≡ Ref q ∷ rest → (r : Receiver c q rest) → Called c q rest r → ComesTo P pl n size m s s'
  comes_to_call c q rest is r d =
      let operands : top.operands ≡ taken c q ++ rest = c.is.operands ∙ ap (λ (vs : List Value). c.is.upper ++ vs) is ∙ sym (append_assoc c.is.upper (Ref q ∷ []) rest) in
      let turned : Ref q ∷ reverse c.is.upper ≡ reverse (taken c q) = sym (reverse-append c.is.upper (Ref q ∷ [])) in
      laws.come P pl n size m answer s s' h instr (call_row op c.named c.t) d.u (taken c q) rest mode linked c.at (omega (arith, long_enough op)) operands
      (ap (λ (vs : List Value). applied P (limits_of P pl n size) answer s top h.stands.callers (Call d.u vs rest)) (sym turned) ∙ d.goes) (enters c q rest r d)

  -- ---- what is found

  -- a word in a table of the receiver's type
  in_methods : (c : Named) (q : ℕ) (rest : List Value) (r : Receiver c q rest) (word : ℕ) → AreFixed P pl (pl.method_table r.o.kind + second_word x % 2 ^ 24) (word ∷ []) → table_word x 3 r.words.word ≡ word
  in_methods c q rest r word fixed = table_read laws.objects P pl n size m s x r.words.word r.o.kind 3 (pl.method_table r.o.kind) word h.stands h.well_formed refl r.type r.tables.methods fixed

  in_interfaces : (c : Named) (q : ℕ) (rest : List Value) (r : Receiver c q rest) (word : ℕ) → AreFixed P pl (pl.interface_table r.o.kind + second_word x % 2 ^ 24) (word ∷ []) → table_word x 4 r.words.word ≡ word
  in_interfaces c q rest r word fixed = table_read laws.objects P pl n size m s x r.words.word r.o.kind 4 (pl.interface_table r.o.kind) word h.stands h.well_formed refl r.type r.tables.interfaces fixed

  method_above : (u : ℕ) → IsSome (body_of P u) → 0 < pl.method u
  method_above u some =
      let b = is_there (body_of P u) some in
      let k = onto_some (slice_get P.methods u) (λ (k : Method). k.body) b.0 b.1 in
      (says_linked.methods u k.0 b.0 k.1 k.2).nonzero

  -- the method that the tables have is the one that is chosen
  chosen_is : (c : Named) (q : ℕ) (rest : List Value) (r : Receiver c q rest) (o : TableCall) (u : ℕ) → MeansMethod P pl (table_code o) c.named c.t c.is.method (first_word x) (second_word x)
      → IsChosen P o c.named c.t c.is.method r.o u → IsSome (body_of P u) → (method_for o x r.words.word ≡ pl.method u) × (has_none o x r.words.word ≡ false)
  chosen_is c q rest r Invokespecial u means is some = (means.itself (inl refl) (means.code refl) ∙ ap pl.method (sym is), refl)
  chosen_is c q rest r Invokevirtual u means is some =
      let class = class_is P (kind_of P r.o) c.named is.0 in
      let selects : P.select class.0 c.t ≡ Some u = sym (ap (λ k. selected P k c.t) class.1) ∙ is.1 in
      (in_methods c q rest r (pl.method u) ((means.virtual refl).1 r.o.kind class.0 u class.1 class.2 selects some), refl)
  chosen_is c q rest r Invokeinterface u means is some =
      let kinds : kind_of P r.o ≡ Some r.kind = r.is_kind in
      let has : has_class P (Some r.kind) c.is.method.owner ≡ true = sym (ap (λ k. has_class P k c.is.method.owner) kinds) ∙ is.0 in
      let selects : selected P (Some r.kind) c.t ≡ Some u = sym (ap (λ k. selected P k c.t) kinds) ∙ is.1 in
      let found = in_interfaces c q rest r (pl.method u) ((means.interface refl).1.implements r.o.kind u r.kind kinds has selects some) in
      (found, ap (λ (k : ℕ). k == 0) found ∙ not_zero (pl.method u) (method_above u some))

  -- none is there where the class doesn't implement the interface
  none_is : (c : Named) (q : ℕ) (rest : List Value) (r : Receiver c q rest) (o : TableCall) → o ≡ Invokeinterface → MeansMethod P pl (table_code o) c.named c.t c.is.method (first_word x) (second_word x)
      → has_class P (kind_of P r.o) c.is.method.owner ≡ false → has_none o x r.words.word ≡ true
  none_is c q rest r Invokevirtual e means none = absurd (cc)
  none_is c q rest r Invokespecial e means none = absurd (cc)
  none_is c q rest r Invokeinterface e means none =
      let kinds : kind_of P r.o ≡ Some r.kind = r.is_kind in
      let has : has_class P (Some r.kind) c.is.method.owner ≡ false = sym (ap (λ k. has_class P k c.is.method.owner) kinds) ∙ none in
      ap (λ (k : ℕ). k == 0) (in_interfaces c q rest r 0 ((means.interface refl).1.other r.o.kind r.kind kinds has))

  comes_from : (c : Named) (q : ℕ) (rest : List Value) → c.is.rest ≡ Ref q ∷ rest → Receiver c q rest → ComesTo P pl n size m s s'
  comes_from c q rest is r =
      let means = (entry_of c).means in
      let w = r.words in
      ⊎_elim
      (λ (d : Chosen P (limits_of P pl n size) answer s top h.stands.callers s' op c.named c.t c.is.method r.o (Ref q ∷ reverse c.is.upper) rest).
      comes_to_call c q rest is r (record { u = d.u; goes = d.goes; found = λ some. chosen_is c q rest r op d.u means d.is some }))
      (λ (d : Changed P (limits_of P pl n size) answer s top h.stands.callers s' op c.is.method r.o).
      comes_to_raise c IncompatibleClassChangeError
      (laws.changes n p op x (env_of m) m stands (can_receive c (Ref q) rest w) r.above (none_is c q rest r op d.interface means d.none)) (raised_state IncompatibleClassChangeError d.goes))
      (chosen P (limits_of P pl n size) answer s top h.stands.callers s' op c.named c.t c.is.method r.o (Ref q ∷ reverse c.is.upper) rest r.goes)

  -- ---- all of it

  pub table_call_comes : ComesTo P pl n size m s s'
  table_call_comes = let c = named_now in by c c.is.rest refl c.is.goes
    where
      by : (c : Named) (ops : List Value) → c.is.rest ≡ ops
          → applied P (limits_of P pl n size) answer s top h.stands.callers (on_object s.objects ops (λ q o rest. choose P op c.named c.t c.is.method o (Ref q ∷ reverse c.is.upper) rest)) ≡ Some s' → ComesTo P pl n size m s s'
      by c [] e g = absurd (none-some s' g)
      by c (Int k ∷ rest) e g = absurd (none-some s' g)
      by c (Long k ∷ rest) e g = absurd (none-some s' g)
      by c (Unset ∷ rest) e g = absurd (none-some s' g)
      by c (Null ∷ rest) e g = comes_to_null c rest e g
      by c (Ref q ∷ rest) e g = comes_from c q rest e (receiver_of c q rest e g)
