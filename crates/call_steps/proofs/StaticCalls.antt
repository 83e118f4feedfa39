-- An invokestatic, from the step to where the machine stands for the next state.
use Rattle.std.proofs.Common.{◌≡◌, ℕ, ◌+◌, ◌*◌, ◌%◌, ◌^◌, true, List, [], ◌∷◌, ◌++◌, Option, Some, None, inr, reverse, refl, sym, ap, ◌∙◌, subst, arith}
use Rattle.std.specs.Prelude.{slice_get, slice_index, IsSome}
use Rattle.std.proofs.Math.Nat.{mod-eq_of_lt}
use Rattle.std.proofs.lemmas.Option.{none-some}
use Rattle.machine_stands.proofs.Defined.{on_defined}
use Rattle.lists.proofs.Lemmas.{holds_at, onto_some, some_same}
use Rattle.opcodes.specs.declared.instruction.Instr.{Instr}
use Rattle.opcodes.specs.Bytes.{u1, u2}
use Rattle.opcodes.specs.Form.{one, UnsignedShort}
use Rattle.opcodes.specs.Row as opcodes
use Rattle.opcodes.specs.Reading.{plain_instr}
use Rattle.jop_core.specs.State as machine
use Rattle.micro_sketch.specs.Sketch.{Sketch, abyte}
use Rattle.micro_sketch.specs.View.{env_of}
use Rattle.micro_sketch.specs.Row.{StandsAt}
use Rattle.micro_sketch.specs.Operand.{past, two_byte_operand}
use Rattle.bytecode_model.specs.declared.Value.{Value}
use Rattle.bytecode_model.specs.declared.Ending.TheVariants.{Running}
use Rattle.bytecode_model.specs.Rows.{Row, CallStatic}
use Rattle.bytecode_model.specs.State.{State}
use Rattle.bytecode_model.specs.Program.{Program, Method, Body, Operand, NoOperand, AnInt, ALong, AString, AStatic, AField, AMethod, AType, body_of}
use Rattle.bytecode_model.specs.Table.{row_of}
use Rattle.bytecode_model.specs.Effects.{Call, on_values}
use Rattle.bytecode_model.specs.Steps.{applied}
use Rattle.image_facts.specs.Places.{Places, object_place, pool_of}
use Rattle.image_facts.specs.Says.{Means, MeansMethod}
use Rattle.machine_stands.specs.StandsFor.{limits_of}
use Rattle.machine_stands.specs.Comes.{params, ComesTo}
use Rattle.machine_stands.specs.Simulates.{IsStep}
use Rattle.machine_stands.specs.Seen.{seen}
use Rattle.machine_stands.specs.Again.{registers_of}
use Rattle.machine_stands.specs.Reading.{IsAtRow, operands_of}
use Rattle.machine_stands.specs.Shown.{Shows}
use Rattle.call_steps.specs.Entry.{CanEnter, Enters}
use Rattle.call_steps.specs.Coming.{RowEnters}
use Rattle.call_steps.specs.Method.{argument_words}
use Rattle.call_steps.specs.Calls.{Invokestatic, called, CanCall}
use Rattle.call_steps.proofs.Arguments.{values_taken, reversed}
use Rattle.call_steps.proofs.Scenes.{StateLaws, register}
use Rattle.call_steps.proofs.CallStates.{there}

-- ---- the instruction

form_read : operands_of (opcodes.row_of 184).form ≡ Some (one UnsignedShort)
unfolding opcodes.row_of
form_read = refl

-- it names a method
names_method : (code : List ℕ) (pc : ℕ) (o : Operand) (r : Row) → row_of code (plain_instr 184 code pc (one UnsignedShort)) o ≡ Some r → (named : ℕ) × (t : ℕ) × (o ≡ AMethod named t) × (r ≡ CallStatic t)
unfolding row_of
names_method code pc NoOperand r h = absurd (none-some r h)
names_method code pc (AnInt n) r h = absurd (none-some r h)
names_method code pc (ALong n) r h = absurd (none-some r h)
names_method code pc (AString p) r h = absurd (none-some r h)
names_method code pc (AStatic f) r h = absurd (none-some r h)
names_method code pc (AField named owner k) r h = absurd (none-some r h)
names_method code pc (AType k) r h = absurd (none-some r h)
names_method code pc (AMethod named t) r h = (named, t, refl, sym (some_same (CallStatic t) r h))

a_method_is_named : (named t : ℕ) (o : Operand) → o ≡ AMethod named t → o ≡ NoOperand → ⊥
a_method_is_named named t o e h = let clash : NoOperand ≡ AMethod named t = sym h ∙ e in cc

-- ---- what is called

module _ (laws : StateLaws) (P : Program) (pl : Places) (n size : ℕ) (m : machine.MachineState) (answer : Option ℕ) (s s' : State) (h : IsStep P pl n size m answer s s') (mode : s.mode ≡ Running) (linked : P.linked ≡ true) (opcode : m.opcode ≡ 184) where
  abbrev pub code : List ℕ
  code = h.stands.body.code

  abbrev pub instr : Instr
  instr = plain_instr 184 code h.stands.top.pc (one UnsignedShort)

  abbrev pub x : Sketch
  x = seen (params m 0 0) (None ∷ []) m h.stands.words h.stands.below

  abbrev pub place : ℕ → ℕ
  place = object_place P pl s.objects

  -- the method, and the operands that it takes
  pub record Callee : Type 0 where
    pub named : ℕ
    pub t : ℕ
    pub operand : P.operand h.stands.top.method h.stands.top.pc ≡ AMethod named t
    pub at : IsAtRow P pl n size m answer s s' h.stands instr (CallStatic t)
    pub upper : List Value
    pub rest : List Value
    pub operands : h.stands.top.operands ≡ upper ++ rest
    pub call : applied P (limits_of P pl n size) answer s h.stands.top h.stands.callers (Call t (reverse upper) rest) ≡ Some s'

  pub callee : Callee
  callee =
      let top = h.stands.top in
      let callers = h.stands.callers in
      let limits = limits_of P pl n size in
      let read = laws.plain P pl n size m answer s s' h 184 (one UnsignedShort) mode opcode form_read in
      let method = names_method code top.pc (P.operand top.method top.pc) read.0 read.1.is_row in
      let t = method.1 in
      let at = subst (λ (r : Row). IsAtRow P pl n size m answer s s' h.stands instr r) method.3 read.1 in
      let k = on_defined P limits answer s top callers s' (slice_get P.methods t) (λ k. on_values (reverse k.parameters) top.operands [] (λ args rest. Call t args rest)) at.step in
      let taken = values_taken P limits answer s top callers s' (reverse k.0.parameters) top.operands [] (λ args rest. Call t args rest) k.2 in
      record {
        named = method.0;
        t = t;
        operand = method.2;
        at = at;
        upper = taken.0;
        rest = taken.1;
        operands = taken.2;
        call = ap (λ (vs : List Value). applied P limits answer s top callers (Call t vs taken.1)) (sym (reversed taken.0)) ∙ taken.3;
      }

  pub shows : Shows P pl n size m s h.stands (params m 0 0) x
  shows = laws.shows P pl n size m answer s s' h (params m 0 0) (None ∷ []) mode refl refl

  registers : (k : ℕ) → slice_index x.low (24 + k) ≡ slice_index (registers_of P pl n size s h.stands.top shows.raised) k
  registers k = register P pl n size m s h.stands (params m 0 0) x shows k

  -- the operand of the instruction is the index of its entry
  index_is : (c : Callee) → two_byte_operand x ≡ u2 code (h.stands.top.pc + 1)
  index_is c =
      let pc = h.stands.top.pc in
      let within = c.at.within in
      let second : pc + 1 + 1 ≡ pc + 2 = omega arith in
      ap (λ (b : ℕ). b * 2 ^ 8 + abyte (past 1 x)) (shows.bytes 0 (omega (arith, within))) ∙ ap (λ (b : ℕ). u1 code (pc + 1) * 2 ^ 8 + b) (shows.bytes 1 (omega (arith, within)))
      ∙ ap (λ (k : ℕ). u1 code (pc + 1) * 2 ^ 8 + u1 code k) (sym second)

  called_is : (c : Callee) → (k : Method) → slice_get P.methods c.t ≡ Some k → IsSome k.body → called Invokestatic x ≡ pl.method c.t
  called_is c method is some =
      let top = h.stands.top in
      let index = u2 code (top.pc + 1) in
      let entry = laws.pools P pl n size m answer s s' h instr (CallStatic c.t) index mode c.at refl (a_method_is_named c.named c.t (P.operand top.method top.pc) c.operand) in
      let means = holds_at (slice_get P.methods c.t) method (λ k. MeansMethod P pl 184 c.named c.t k entry.first entry.second) is
      (subst (λ (o : Operand). Means P pl 184 o entry.first entry.second) c.operand entry.means) in
      let small = h.stands.sizes.small in
      let within = entry.within in
      ap (λ (i : ℕ). slice_index x.memory ((slice_index x.low 24 + 2 * i) % 2 ^ 32)) (index_is c)
      ∙ ap (λ (p : ℕ). slice_index x.memory ((p + 2 * index) % 2 ^ 32)) (registers 0)
      ∙ ap (λ (p : ℕ). slice_index x.memory p) (mod-eq_of_lt {n = pool_of P pl top.method + 2 * index} {m = 2 ^ 32} (omega (arith, within, small)))
      ∙ entry.first_is ∙ means.itself (inr refl) some

  called_there : (c : Callee) → IsSome (body_of P c.t) → called Invokestatic x ≡ pl.method c.t
  called_there c some = of (body_of P c.t) refl some
    where
      of : (o : Option Body) → body_of P c.t ≡ o → IsSome o → called Invokestatic x ≡ pl.method c.t
      of None e h = absurd (cc)
      of (Some b) e h = let k = onto_some (slice_get P.methods c.t) (λ (k : Method). k.body) b e in called_is c k.0 k.1 (there k.0.body b k.2)

  -- its row goes on
  enters : (c : Callee) → RowEnters P pl n size m s h.stands instr c.upper c.t
  enters c arguments others split values count some can =
      let k = called Invokestatic x in
      let p = params m 0 0 in
      let rest = others ++ reverse h.stands.words.saved in
      let stands = subst (λ (op : ℕ). StandsAt n p op x (env_of m) m) opcode shows.stands in
      let is = called_there c some in
      let jpc : (past 2 x).jpc ≡ h.stands.top.pc + instr.length = shows.jpc 2 c.at.within in
      let there_too = subst (λ (j : ℕ). CanEnter n x j arguments rest) (sym is) can in
      let able : CanCall n Invokestatic x = record {
        method = there_too.method;
        arguments = arguments;
        others = rest;
        split = there_too.split;
        count = count ∙ ap (λ (j : ℕ). argument_words x.memory j) (sym is);
        most = there_too.most;
        room = there_too.room;
        size = there_too.size;
        sum = there_too.sum;
        raise_list = there_too.raise_list;
      } in
      let made : Enters n p 184 x (env_of m) k (past 2 x).jpc arguments rest = record {
        fitting = λ fit. let run = laws.calls n p Invokestatic x (env_of m) m stands able fit in record { more = run.more; count = run.count; runs = run.runs };
        overflowing = λ over. laws.overflows n p Invokestatic x (env_of m) m stands able over;
      } in
      let E : ℕ → ℕ → ℕ → Type 0 = λ op j behind. Enters n p op x (env_of m) j behind arguments rest in
      let at_place : E 184 (pl.method c.t) (past 2 x).jpc = subst (λ (j : ℕ). E 184 j (past 2 x).jpc) is made in
      let at_behind : E 184 (pl.method c.t) (h.stands.top.pc + instr.length) = subst (λ (j : ℕ). E 184 (pl.method c.t) j) jpc at_place in
      subst (λ (op : ℕ). E op (pl.method c.t) (h.stands.top.pc + instr.length)) (sym opcode) at_behind

  pub static_call_comes : ComesTo P pl n size m s s'
  static_call_comes = let c = callee in laws.come P pl n size m answer s s' h instr (CallStatic c.t) c.t c.upper c.rest mode linked c.at (omega arith) c.operands c.call (enters c)
