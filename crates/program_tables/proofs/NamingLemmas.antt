-- An instruction names what its opcode takes, and its opcode is the byte at its place, unless that is `wide`.
use Rattle.std.proofs.Common.{◌≡◌, ℕ, ◌<◌, Bool, true, false, ◌&&◌, ◌||◌, ◌==◌, List, [], Option, Some, None, Result, Ok, Err, refl, sym, ap, ap₂, ◌∙◌, eqb-true}
use Rattle.std.specs.Prelude.{nat_le, if◌then◌else◌}
use Rattle.std.specs.Option.{option_map, option_map_or}
use Rattle.std.proofs.lemmas.Bool.{false≢true}
use Rattle.bytecode_model.specs.Lists.{onto}
use Rattle.bytecode_model.specs.Program.{as_instr}
use Rattle.class_pool.specs.declared.class.ClassFile.{ClassFile}
use Rattle.class_pool.specs.declared.entry.Entry.{Entry}
use Rattle.class_pool.specs.declared.entry.Entry.TheVariants as entries
use Rattle.class_pool.specs.Grammar.{entry_at}
use Rattle.opcodes.specs.declared.instruction.Instr.{Instr}
use Rattle.opcodes.specs.declared.instruction.DecodeFault.{DecodeFault}
use Rattle.opcodes.specs.Bytes.{u1}
use Rattle.opcodes.specs.Form.{Form, NotAnOpcode, Fixed, Widened, TableSwitch, LookupSwitch, Wide}
use Rattle.opcodes.specs.Instruction.{decoded}
use Rattle.opcodes.specs.Reading.{IsOfForm, InstructionsAreOfTheirForm}
use Rattle.opcodes.specs.Row.{row_of}
use Rattle.opcodes.proofs.FaultLemmas.{same_at}
use Rattle.program_tables.specs.Instructions.{is_ldc, is_ldc2, is_field_access, is_class_use, takes_method, takes_interface_method, named_by, index_of_entry, named_in, Placed, placed_at}
use Rattle.program_tables.specs.Naming.{may_name, NamesNothing, NamesNothingAt, IsOpcodeAt}

-- ---- an instruction that takes no entry

record TakesNone (op : ℕ) : Type 0 where
  ldc : is_ldc op ≡ false
  ldc2 : is_ldc2 op ≡ false
  field : is_field_access op ≡ false
  method : takes_method op ≡ false
  interface : (op == 185) ≡ false
  class : is_class_use op ≡ false

takes_none_by : (a b c d e f : Bool) → (a || b || c || d || e || f) ≡ false → (a ≡ false) × (b ≡ false) × (c ≡ false) × (d ≡ false) × (e ≡ false) × (f ≡ false)
takes_none_by false false false false false false h = (refl, refl, refl, refl, refl, refl)
takes_none_by true b c d e f h = absurd (false≢true (sym h))
takes_none_by false true c d e f h = absurd (false≢true (sym h))
takes_none_by false false true d e f h = absurd (false≢true (sym h))
takes_none_by false false false true e f h = absurd (false≢true (sym h))
takes_none_by false false false false true f h = absurd (false≢true (sym h))
takes_none_by false false false false false true h = absurd (false≢true (sym h))

takes_none : (op : ℕ) → may_name op ≡ false → TakesNone op
unfolding may_name
takes_none op h =
    let parts = takes_none_by (is_ldc op) (is_ldc2 op) (is_field_access op) (takes_method op) (op == 185) (is_class_use op) h in
    record { ldc = parts.0; ldc2 = parts.1; field = parts.2; method = parts.3; interface = parts.4; class = parts.5 }

no_if : {A : Type 0} (b : Bool) (x : Option A) → b ≡ false → (if b then x else None) ≡ None
no_if true x h = absurd (false≢true (sym h))
no_if false x h = refl

no_ifs : {A : Type 0} (a b : Bool) (x y : Option A) → a ≡ false → b ≡ false → (if a then x else if b then y else None) ≡ None
no_ifs a true x y h g = absurd (false≢true (sym g))
no_ifs true false x y h g = absurd (false≢true (sym h))
no_ifs false false x y h g = refl

-- an opcode that takes a method of an interface and none of a class is invokeinterface
other_call : (op n : ℕ) → takes_method op ≡ false → takes_method n ≡ true → (b : Bool) → (op == n) ≡ b → b ≡ false
other_call op n h t true e = absurd (false≢true (sym h ∙ (ap takes_method (eqb-true op n e) ∙ t)))
other_call op n h t false e = refl

and_none : (a b c : Bool) → b ≡ false → c ≡ false → (a && (b || c)) ≡ false
and_none false b c h g = refl
and_none true false c h g = g
and_none true true c h g = h

no_interface : (major op : ℕ) → takes_method op ≡ false → (op == 185) ≡ false → takes_interface_method major op ≡ false
no_interface major op h g =
    let special = other_call op 183 h refl (op == 183) refl in
    let static = other_call op 184 h refl (op == 184) refl in
    ap₂ (λ (a b : Bool). a || b) g (and_none (nat_le 52 major) (op == 183) (op == 184) special static)

no_entry : (pool : List Entry) (major op index : ℕ) (e : Entry) → TakesNone op → named_by pool major op index e ≡ None
no_entry pool major op index (entries.Integer n) h = no_if (is_ldc op) _ h.ldc
no_entry pool major op index (entries.Float bits) h = no_if (is_ldc op) _ h.ldc
no_entry pool major op index (entries.Text units) h = no_if (is_ldc op) _ h.ldc
no_entry pool major op index (entries.Handle kind reference) h = no_if (is_ldc op) _ h.ldc
no_entry pool major op index (entries.MethodType descriptor) h = no_if (is_ldc op) _ h.ldc
no_entry pool major op index (entries.Long n) h = no_if (is_ldc2 op) _ h.ldc2
no_entry pool major op index (entries.Double bits) h = no_if (is_ldc2 op) _ h.ldc2
no_entry pool major op index (entries.Class name) h = no_ifs (is_ldc op) (is_class_use op) _ _ h.ldc h.class
no_entry pool major op index (entries.Field owner member) h = no_if (is_field_access op) _ h.field
no_entry pool major op index (entries.Method owner member) h = no_if (takes_method op) _ h.method
no_entry pool major op index (entries.InterfaceMethod owner member) h = no_if (takes_interface_method major op) _ (no_interface major op h.method h.interface)
no_entry pool major op index (entries.Utf8 units) h = refl
no_entry pool major op index (entries.NameAndType name descriptor) h = refl
no_entry pool major op index (entries.Dynamic bootstrap member) h = refl
no_entry pool major op index entries.Second h = refl

onto_none : {A B : Type 0} (o : Option A) (f : A → Option B) → ((x : A) → f x ≡ None) → onto o f ≡ None
onto_none None f h = refl
onto_none (Some x) f h = h x

pub names_nothing : (op : ℕ) → may_name op ≡ false → NamesNothing op
names_nothing op h c i is =
    let none = takes_none i.op (ap may_name is ∙ h) in
    onto_none (entry_at c.pool (index_of_entry i)) (named_by c.pool c.major i.op (index_of_entry i)) (λ e. no_entry c.pool c.major i.op (index_of_entry i) e none)

-- ---- the byte at a place

abbrev is_wide : Form → Bool
is_wide Wide = true
is_wide _ = false

wide_at_196 : (byte : ℕ) → byte < 256 → is_wide (row_of byte).form ≡ (byte == 196)
unfolding row_of
wide_at_196 = same_at (λ byte. is_wide (row_of byte).form) (λ byte. byte == 196) refl

opcode_by : (form : Form) (op : ℕ) (code : List ℕ) (pc : ℕ) (i : Instr) → IsOfForm form op code pc i → is_wide form ≡ false → i.op ≡ op
opcode_by NotAnOpcode op code pc i h w = absurd h
opcode_by (Fixed o) op code pc i h w = ap (λ (x : Instr). x.op) h
opcode_by (Widened o l) op code pc i h w = ap (λ (x : Instr). x.op) h
opcode_by TableSwitch op code pc i h w = ap (λ (x : Instr). x.op) h
opcode_by LookupSwitch op code pc i h w = ap (λ (x : Instr). x.op) h
opcode_by Wide op code pc i h w = absurd (false≢true (sym w))

not_196 : (op : ℕ) → (op ≡ 196 → ⊥) → (b : Bool) → (op == 196) ≡ b → b ≡ false
not_196 op h true e = absurd (h (eqb-true op 196 e))
not_196 op h false e = refl

pub opcode_at : InstructionsAreOfTheirForm → (code : List ℕ) (pc op : ℕ) → u1 code pc ≡ op → op < 256 → IsOpcodeAt code pc op
opcode_at forms code pc op is small i e other =
    opcode_by (row_of op).form op code pc i (forms code pc op (row_of op).form i e is refl) (wide_at_196 op small ∙ not_196 op other (op == 196) refl)

-- ---- a place at which nothing is named

-- nothing comes of it, where nothing comes of an instruction that names nothing
pub nothing_there : {Y : Type 0} (f : Placed → List Y) (c : ClassFile) → ((p : Placed) → named_in c p.instr ≡ None → f p ≡ []) → (code : List ℕ) (pc : ℕ) → NamesNothingAt code pc
    → option_map_or f (placed_at code pc) [] ≡ []
nothing_there f c h code pc none = by (decoded code pc) refl
  where
    by : (r : Result Instr DecodeFault) → decoded code pc ≡ r → option_map_or f (option_map (λ i. record { pc = pc; instr = i }) (as_instr r)) [] ≡ []
    by (Ok i) e = h (record { pc = pc; instr = i }) (none i e c)
    by (Err fault) e = refl
