-- The instructions of methods, as the program has them.
use Rattle.std.proofs.Common.{◌≡◌, ℕ, ◌<◌, ◌≤◌, Bool, true, false, ◌==◌, List, [], length, Option, Some, None, Bor, refl, sym, ap, ◌∙◌, arith}
use Rattle.std.specs.Prelude.{slice_get, Result, Ok, Err, IfSome, if◌then◌else◌}
use Rattle.std.specs.Option.{option_map, option_map_or, option_copied}
use Rattle.std.proofs.lemmas.Bool.{false≢true}
use Rattle.std.specs.List.{AllByRecursion}
use Rattle.std.proofs.lemmas.Option.{slice_get_within}
use Rattle.class_pool.specs.declared.class.Code.{Code}
use Rattle.class_pool.specs.declared.class.Member.{Member}
use Rattle.class_pool.specs.declared.class.ClassFile.{ClassFile}
use Rattle.class_pool.specs.Found.{code_of}
use Rattle.descriptors.specs.Parsing.{field_in, type_from}
use Rattle.class_rules.specs.Found.{MethodsHaveCode}
use Rattle.class_rules.specs.Grammar.{IsClass}
use Rattle.class_rules.specs.Rules.{IsRightMethod}
use Rattle.opcodes.specs.declared.instruction.Instr.{Instr}
use Rattle.opcodes.specs.declared.instruction.DecodeFault.{DecodeFault}
use Rattle.opcodes.specs.Instruction.{decoded}
use Rattle.opcodes.specs.Target.{WholeIsWithin}
use Rattle.bytecode_model.specs.Lists.{onto}
use Rattle.bytecode_model.specs.Program.{as_instr, instr_at}
use Rattle.lists.proofs.Lemmas.{onto_some}
use Rattle.class_lookup.specs.Lookup.{Place, method_at}
use Rattle.class_pool.specs.declared.entry.Entry.{Entry}
use Rattle.class_pool.specs.Grammar.{text_at}
use Rattle.bytecode_model.specs.Program.{Handler, NoOperand, AnInt, ALong, AString, AStatic, AField, AMethod, AType}
use Rattle.bytecode_model.specs.Types.{Kind}
use Rattle.program_tables.specs.Entries.{kind_in}
use Rattle.program_tables.specs.Kinds.{type_named, kind_of_type, kind_of_entry}
use Rattle.program_tables.specs.Meanings.{operand_seen}
use Rattle.program_tables.specs.Tables.{kind_seen}
use Rattle.program_tables.specs.declared.operand.Operand.{Operand as SeenOperand}
use Rattle.program_tables.specs.declared.operand.Operand.TheVariants as operands
use Rattle.program_tables.specs.Instructions.{Placed, placed_at}
use Rattle.program_tables.specs.Laws.{MethodsStandByNumber}
use Rattle.program_tables.specs.Numbers.{methods_by_number}
use Rattle.program_tables.specs.Operands.{at_instruction}
use Rattle.program_tables.specs.Resolved.{at_method, body_in, handler_of, method_in, resolved_method, resolved}
use Rattle.program_tables.proofs.TableLemmas.{all_at}

-- ---- code

pub code_small : MethodsHaveCode → (cs : List ClassFile) → AllByRecursion IsClass cs → (p : Place) (k : Code) → onto (method_at cs p) code_of ≡ Some k → length k.code < 65536
code_small law cs are p k h =
    let m = onto_some (method_at cs p) code_of k h in
    let c = onto_some (slice_get cs p.0) (λ c. slice_get c.methods p.1) m.0 m.1 in
    let is = all_at IsClass cs p.0 c.0 are c.1 in
    let right = all_at (IsRightMethod c.0) c.0.methods p.1 m.0 is.rules.methods c.2 in
    let code = (law c.0 m.0 right).0 k m.2 in
    omega (arith, code.not_long)

pub copied_small : (o : Option (Bor Code)) → ((k : Code) → option_copied o ≡ Some k → length k.code < 65536) → IfSome o (λ code. length code.now.code < 65536)
copied_small None h = tt
copied_small (Some k) h = h k.now refl

-- the class of a method with code is there
pub class_there : (cs : List ClassFile) (p : Place) (k : Code) → onto (method_at cs p) code_of ≡ Some k → p.0 < length cs
class_there cs p k h =
    let m = onto_some (method_at cs p) code_of k h in
    let c = onto_some (slice_get cs p.0) (λ c. slice_get c.methods p.1) m.0 m.1 in
    slice_get_within cs p.0 c.0 c.1

-- ---- the instruction at a place

instr_case : (cs : List ClassFile) (n pc : ℕ) (o : Option ClassFile) (at : ClassFile → Option Member)
    → onto (onto (onto o (λ c. option_map (method_in cs n c) (onto o at))) (λ k. k.body)) (λ b. as_instr (decoded b.code pc)) ≡ onto (onto (onto o at) code_of) (λ k. as_instr (decoded k.code pc))
instr_case cs n pc None at = refl
instr_case cs n pc (Some c) at = member_case (at c)
  where
    body_case : (o : Option Code) → onto (option_map (body_in cs c) o) (λ b. as_instr (decoded b.code pc)) ≡ onto o (λ k. as_instr (decoded k.code pc))
    body_case None = refl
    body_case (Some k) = refl

    member_case : (o : Option Member) → onto (onto (option_map (method_in cs n c) o) (λ k. k.body)) (λ b. as_instr (decoded b.code pc)) ≡ onto (onto o code_of) (λ k. as_instr (decoded k.code pc))
    member_case None = refl
    member_case (Some m) = body_case (code_of m)

pub instr_is : MethodsStandByNumber → (cs : List ClassFile) (n pc : ℕ) (p : Place) → slice_get (methods_by_number cs) n ≡ Some p
    → onto (onto (method_at cs p) code_of) (λ k. as_instr (decoded k.code pc)) ≡ instr_at (resolved cs) n pc
instr_is law cs n pc p h =
    sym (ap (λ o. onto (onto o (λ k. k.body)) (λ b. as_instr (decoded b.code pc))) (law cs n ∙ ap (λ o. onto o (resolved_method cs)) h) ∙ instr_case cs p.0 pc (slice_get cs p.0) (λ c. slice_get c.methods p.1))

-- the code of a method by its number, by its place
pub code_here : (cs : List ClassFile) (n : ℕ) (p : Place) (o : Option Code) → o ≡ onto (onto (slice_get (methods_by_number cs) n) (method_at cs)) code_of
    → slice_get (methods_by_number cs) n ≡ Some p → onto (method_at cs p) code_of ≡ o
code_here cs n p o h hp = sym (h ∙ ap (λ q. onto (onto q (method_at cs)) code_of) hp)

pub instr_told : MethodsStandByNumber → (cs : List ClassFile) (n pc : ℕ) (p : Place) (o : Option Code) → slice_get (methods_by_number cs) n ≡ Some p
    → onto (method_at cs p) code_of ≡ o → onto o (λ k. as_instr (decoded k.code pc)) ≡ instr_at (resolved cs) n pc
instr_told law cs n pc p o hp hk = ap (λ q. onto q (λ k. as_instr (decoded k.code pc))) (sym hk) ∙ instr_is law cs n pc p hp

pub class_of_method : (cs : List ClassFile) (p : Place) (k : Code) → onto (method_at cs p) code_of ≡ Some k → (c : ClassFile) × (slice_get cs p.0 ≡ Some c)
class_of_method cs p k h =
    let m = onto_some (method_at cs p) code_of k h in
    let c = onto_some (slice_get cs p.0) (λ c. slice_get c.methods p.1) m.0 m.1 in
    (c.0, c.1)

past_case : (code : List ℕ) (pc : ℕ) → length code ≤ pc → WholeIsWithin code pc → (r : Result Instr DecodeFault) → decoded code pc ≡ r → None ≡ as_instr r
past_case code pc h law (Err e) g = refl
past_case code pc h law (Ok i) g = let w = law i g in absurd (omega (arith, h, w))

-- none begins at or past the end
pub none_past_end : (code : List ℕ) (pc : ℕ) → length code ≤ pc → WholeIsWithin code pc → None ≡ as_instr (decoded code pc)
none_past_end code pc h law = past_case code pc h law (decoded code pc) refl

-- ---- what is said of it

abbrev placed : ℕ → Instr → Placed
placed pc i = record { pc = pc; instr = i }

pub said_at : {A : Type 0} (cs : List ClassFile) (n pc : ℕ) (p : Place) (c : ClassFile) (k : Code) (i : Instr) (none : A) (say : ℕ → ClassFile → Instr → A)
    → slice_get (methods_by_number cs) n ≡ Some p → slice_get cs p.0 ≡ Some c → onto (method_at cs p) code_of ≡ Some k → as_instr (decoded k.code pc) ≡ Some i
    → say p.0 c i ≡ at_method cs n none (λ q. at_instruction cs q pc none say)
said_at cs n pc p c k i none say hp hc hk hi =
    let at : onto (onto (method_at cs p) code_of) (λ k. placed_at k.code pc) ≡ Some (placed pc i) =
    ap (λ o. onto o (λ k. placed_at k.code pc)) hk ∙ ap (option_map (placed pc)) hi in
    sym (ap (λ o. option_map_or (λ q. at_instruction cs q pc none say) o none) hp
    ∙ (ap (λ o. option_map_or (λ c. option_map_or (λ x. say p.0 c x.instr) (onto (onto (method_at cs p) code_of) (λ k. placed_at k.code pc)) none) o none) hc
    ∙ ap (λ o. option_map_or (λ x. say p.0 c x.instr) o none) at))

-- ---- types that Class entries name

-- the type that an operand is, read back
pub kind_back : (m : SeenOperand) (k : Option Kind) → operand_seen m ≡ option_map_or AType k NoOperand → option_map kind_seen (kind_in m) ≡ k
kind_back (operands.Type kind) None h = let e : AType (kind_seen kind) ≡ NoOperand = h in absurd (cc)
kind_back (operands.Type kind) (Some k) h = let e : AType (kind_seen kind) ≡ AType k = h in let same : kind_seen kind ≡ k = cc in ap (λ x. Some x) same
kind_back operands.Nothing None h = refl
kind_back operands.Nothing (Some k) h = let e : NoOperand ≡ AType k = h in absurd (cc)
kind_back (operands.Int n) None h = refl
kind_back (operands.Int n) (Some k) h = let e : AnInt n ≡ AType k = h in absurd (cc)
kind_back (operands.Long n) None h = refl
kind_back (operands.Long n) (Some k) h = let e : ALong n ≡ AType k = h in absurd (cc)
kind_back (operands.Text n) None h = refl
kind_back (operands.Text n) (Some k) h = let e : AString n ≡ AType k = h in absurd (cc)
kind_back (operands.Static n) None h = refl
kind_back (operands.Static n) (Some k) h = let e : AStatic n ≡ AType k = h in absurd (cc)
kind_back (operands.Field a b n) None h = refl
kind_back (operands.Field a b n) (Some k) h = let e : AField a b n ≡ AType k = h in absurd (cc)
kind_back (operands.Method a n) None h = refl
kind_back (operands.Method a n) (Some k) h = let e : AMethod a n ≡ AType k = h in absurd (cc)

-- an index of no class names no type
pub no_class : (cs : List ClassFile) (pool : List Entry) (o : Option ℕ) → o ≡ None → None ≡ onto (type_named (option_map_or (text_at pool) o [])) (kind_of_type cs)
unfolding field_in type_from
no_class cs pool o h = ap (λ x. onto (type_named (option_map_or (text_at pool) x [])) (kind_of_type cs)) (sym h)

-- ---- handlers

abbrev pub handler_with : ℕ × ℕ × ℕ × ℕ → Option Kind → Handler
handler_with e caught = record { start = e.0; end = e.1; target = e.2; caught = caught }

abbrev caught_by : List ClassFile → ClassFile → ℕ → Option Kind
caught_by cs c index = if index == 0 then None else kind_of_entry cs c.pool index

pub catches_any : (cs : List ClassFile) (c : ClassFile) (e : ℕ × ℕ × ℕ × ℕ) → e.3 ≡ 0 → handler_with e None ≡ handler_of cs c e
catches_any cs c e h = ap (handler_with e) (ap (caught_by cs c) (sym h))

caught_case : (b : Bool) (x y : Option Kind) → b ≡ false → y ≡ (if b then x else y)
caught_case true x y h = absurd (false≢true (sym h))
caught_case false x y h = refl

pub catches_one : (cs : List ClassFile) (c : ClassFile) (e : ℕ × ℕ × ℕ × ℕ) (caught : Option Kind) → (e.3 == 0) ≡ false → caught ≡ kind_of_entry cs c.pool e.3 → handler_with e caught ≡ handler_of cs c e
catches_one cs c e caught h g = ap (handler_with e) (g ∙ caught_case (e.3 == 0) None (kind_of_entry cs c.pool e.3) h)
