-- What an instruction names is what the entry means whose index it has, where its opcode takes such an entry.
use Rattle.std.proofs.Common.{◌≡◌, ℕ, Bool, true, false, not, ◌&&◌, ◌==◌, List, Option, Some, None, refl, sym, ap, ◌∙◌}
use Rattle.std.specs.Prelude.{if◌then◌else◌}
use Rattle.std.specs.Option.{option_map, option_map_or}
use Rattle.std.proofs.lemmas.Bool.{false≢true}
use Rattle.class_pool.specs.declared.entry.Entry.{Entry}
use Rattle.class_pool.specs.declared.entry.Entry.TheVariants as entries
use Rattle.class_pool.specs.declared.class.ClassFile.{ClassFile}
use Rattle.class_pool.specs.Grammar.{class_name_of}
use Rattle.bytecode_model.specs.Lists.{onto}
use Rattle.bytecode_model.specs.Program.{Operand, NoOperand, AType}
use Rattle.lists.proofs.Lemmas.{none≢some}
use Rattle.class_lookup.specs.Lookup.{find_method}
use Rattle.class_lookup.specs.Parts.{Signature}
use Rattle.class_lookup.specs.Selection.{special}
use Rattle.program_tables.specs.Instructions.{Named, Constant, Class, Field, Method, signature_in, is_ldc, is_ldc2, is_field_access, is_class_use, takes_method, takes_interface_method, named_by}
use Rattle.program_tables.specs.Kinds.{kind_of_entry}
use Rattle.program_tables.specs.Operands.{class_named, method_operand, operand_by, guarded_by}
use Rattle.program_tables.specs.Taken.{takes_entry}
use Rattle.program_tables.specs.Entries.{entry_operand, entry_guarded, meaning_of}

-- ---- one entry

said : {A : Type 0} (none : A) (b : Bool) (f : Named → A) (n : Named) → option_map_or f (if b then Some n else None) none ≡ (if b then f n else none)
said none true f n = refl
said none false f n = refl

class_said : {A : Type 0} (none : A) (l u : Bool) (f : Named → A) (m n : Named) → f m ≡ none → option_map_or f (if l then Some m else if u then Some n else None) none ≡ (if not l && u then f n else none)
class_said none true u f m n h = h
class_said none false true f m n h = refl
class_said none false false f m n h = refl

member_said : {A : Type 0} (none : A) (b : Bool) (f : Named → A) (m : Signature → Named) (sig : Option Signature)
    → option_map_or f (if b then option_map m sig else None) none ≡ (if b then option_map_or (λ s. f (m s)) sig none else none)
member_said none true f m None = refl
member_said none true f m (Some s) = refl
member_said none false f m sig = refl

operand_taken : (cs : List ClassFile) (current : ℕ) (c : ClassFile) (op index : ℕ) (e : Entry)
    → option_map_or (operand_by cs current c op) (named_by c.pool c.major op index e) NoOperand ≡ (if takes_entry c.major op e then entry_operand cs current c op index e else NoOperand)
operand_taken cs cur c op index (entries.Integer n) = said NoOperand (is_ldc op) (operand_by cs cur c op) (Constant (entries.Integer n))
operand_taken cs cur c op index (entries.Float bits) = said NoOperand (is_ldc op) (operand_by cs cur c op) (Constant (entries.Float bits))
operand_taken cs cur c op index (entries.Text units) = said NoOperand (is_ldc op) (operand_by cs cur c op) (Constant (entries.Text units))
operand_taken cs cur c op index (entries.Handle kind reference) = said NoOperand (is_ldc op) (operand_by cs cur c op) (Constant (entries.Handle kind reference))
operand_taken cs cur c op index (entries.MethodType descriptor) = said NoOperand (is_ldc op) (operand_by cs cur c op) (Constant (entries.MethodType descriptor))
operand_taken cs cur c op index (entries.Long n) = said NoOperand (is_ldc2 op) (operand_by cs cur c op) (Constant (entries.Long n))
operand_taken cs cur c op index (entries.Double bits) = said NoOperand (is_ldc2 op) (operand_by cs cur c op) (Constant (entries.Double bits))
operand_taken cs cur c op index (entries.Class name) = class_said NoOperand (is_ldc op) (is_class_use op) (operand_by cs cur c op) (Constant (entries.Class name)) (Class index) refl
operand_taken cs cur c op index (entries.Field owner member) = member_said NoOperand (is_field_access op) (operand_by cs cur c op) (Field owner) (signature_in c.pool member)
operand_taken cs cur c op index (entries.Method owner member) = member_said NoOperand (takes_method op) (operand_by cs cur c op) (Method false owner) (signature_in c.pool member)
operand_taken cs cur c op index (entries.InterfaceMethod owner member) = member_said NoOperand (takes_interface_method c.major op) (operand_by cs cur c op) (Method true owner) (signature_in c.pool member)
operand_taken cs cur c op index (entries.Utf8 units) = refl
operand_taken cs cur c op index (entries.NameAndType name descriptor) = refl
operand_taken cs cur c op index (entries.Dynamic bootstrap member) = refl
operand_taken cs cur c op index entries.Second = refl

no_guard : (b : Bool) → (if b then false else false) ≡ (b && false)
no_guard true = refl
no_guard false = refl

guard_of : (b g : Bool) → (if b then g else false) ≡ (b && g)
guard_of true g = refl
guard_of false g = refl

guarded_taken : (cs : List ClassFile) (current : ℕ) (c : ClassFile) (op index : ℕ) (e : Entry)
    → option_map_or (guarded_by cs current c) (named_by c.pool c.major op index e) false ≡ (takes_entry c.major op e && entry_guarded cs current c e)
guarded_taken cs cur c op index (entries.Integer n) = said false (is_ldc op) (guarded_by cs cur c) (Constant (entries.Integer n)) ∙ no_guard (is_ldc op)
guarded_taken cs cur c op index (entries.Float bits) = said false (is_ldc op) (guarded_by cs cur c) (Constant (entries.Float bits)) ∙ no_guard (is_ldc op)
guarded_taken cs cur c op index (entries.Text units) = said false (is_ldc op) (guarded_by cs cur c) (Constant (entries.Text units)) ∙ no_guard (is_ldc op)
guarded_taken cs cur c op index (entries.Handle kind reference) = said false (is_ldc op) (guarded_by cs cur c) (Constant (entries.Handle kind reference)) ∙ no_guard (is_ldc op)
guarded_taken cs cur c op index (entries.MethodType descriptor) = said false (is_ldc op) (guarded_by cs cur c) (Constant (entries.MethodType descriptor)) ∙ no_guard (is_ldc op)
guarded_taken cs cur c op index (entries.Long n) = said false (is_ldc2 op) (guarded_by cs cur c) (Constant (entries.Long n)) ∙ no_guard (is_ldc2 op)
guarded_taken cs cur c op index (entries.Double bits) = said false (is_ldc2 op) (guarded_by cs cur c) (Constant (entries.Double bits)) ∙ no_guard (is_ldc2 op)
guarded_taken cs cur c op index (entries.Class name) =
    class_said false (is_ldc op) (is_class_use op) (guarded_by cs cur c) (Constant (entries.Class name)) (Class index) refl ∙ no_guard (not (is_ldc op) && is_class_use op)
guarded_taken cs cur c op index (entries.Field owner member) =
    member_said false (is_field_access op) (guarded_by cs cur c) (Field owner) (signature_in c.pool member) ∙ guard_of (is_field_access op) (entry_guarded cs cur c (entries.Field owner member))
guarded_taken cs cur c op index (entries.Method owner member) =
    member_said false (takes_method op) (guarded_by cs cur c) (Method false owner) (signature_in c.pool member) ∙ guard_of (takes_method op) (entry_guarded cs cur c (entries.Method owner member))
guarded_taken cs cur c op index (entries.InterfaceMethod owner member) =
    member_said false (takes_interface_method c.major op) (guarded_by cs cur c) (Method true owner) (signature_in c.pool member)
    ∙ guard_of (takes_interface_method c.major op) (entry_guarded cs cur c (entries.InterfaceMethod owner member))
guarded_taken cs cur c op index (entries.Utf8 units) = refl
guarded_taken cs cur c op index (entries.NameAndType name descriptor) = refl
guarded_taken cs cur c op index (entries.Dynamic bootstrap member) = refl
guarded_taken cs cur c op index entries.Second = refl

-- ---- which opcode it is counts for invokespecial alone

method_by : (cs : List ClassFile) (current : ℕ) (c : ClassFile) (owner : ℕ) → (special : Bool) → Option Signature → Operand
method_by cs current c owner b sig =
    option_map_or (λ s. option_map_or (λ n. method_operand cs n (onto (find_method cs n s) (λ m. if b then special cs current n m else Some m))) (class_named cs c owner) NoOperand) sig NoOperand

usual_operand : (cs : List ClassFile) (current : ℕ) (c : ClassFile) (op index : ℕ) (e : Entry) → (op == 183) ≡ false → entry_operand cs current c 0 index e ≡ entry_operand cs current c op index e
unfolding method_by
usual_operand cs cur c op index (entries.Method owner member) h = ap (λ b. method_by cs cur c owner b (signature_in c.pool member)) (sym h)
usual_operand cs cur c op index (entries.InterfaceMethod owner member) h = ap (λ b. method_by cs cur c owner b (signature_in c.pool member)) (sym h)
usual_operand cs cur c op index (entries.Class name) h = refl
usual_operand cs cur c op index (entries.Field owner member) h = refl
usual_operand cs cur c op index (entries.Integer n) h = refl
usual_operand cs cur c op index (entries.Float bits) h = refl
usual_operand cs cur c op index (entries.Text units) h = refl
usual_operand cs cur c op index (entries.Handle kind reference) h = refl
usual_operand cs cur c op index (entries.MethodType descriptor) h = refl
usual_operand cs cur c op index (entries.Long n) h = refl
usual_operand cs cur c op index (entries.Double bits) h = refl
usual_operand cs cur c op index (entries.Utf8 units) h = refl
usual_operand cs cur c op index (entries.NameAndType name descriptor) h = refl
usual_operand cs cur c op index (entries.Dynamic bootstrap member) h = refl
usual_operand cs cur c op index entries.Second h = refl

-- ---- the entry of an index, if there is one

abbrev pub is_taken : ClassFile → (op : ℕ) → Option Entry → Bool
is_taken c op o = option_map_or (takes_entry c.major op) o false

abbrev pub named_at : ClassFile → (op index : ℕ) → Option Entry → Option Named
named_at c op index o = onto o (named_by c.pool c.major op index)

taken_case : (b : Bool) (x y : Operand) → b ≡ true → (if b then x else y) ≡ x
taken_case true x y h = refl
taken_case false x y h = absurd (false≢true h)

left_case : (b : Bool) (x y : Operand) → b ≡ false → (if b then x else y) ≡ y
left_case true x y h = absurd (false≢true (sym h))
left_case false x y h = refl

pub not_taken : (cs : List ClassFile) (current : ℕ) (c : ClassFile) (op index : ℕ) (o : Option Entry) → is_taken c op o ≡ false → NoOperand ≡ option_map_or (operand_by cs current c op) (named_at c op index o) NoOperand
not_taken cs cur c op index None h = refl
not_taken cs cur c op index (Some e) h = sym (operand_taken cs cur c op index e ∙ left_case (takes_entry c.major op e) (entry_operand cs cur c op index e) NoOperand h)

pub usual_taken : (cs : List ClassFile) (current : ℕ) (c : ClassFile) (op index : ℕ) (o : Option Entry) → is_taken c op o ≡ true → (op == 183) ≡ false
    → (meaning_of cs current c index o).usual ≡ option_map_or (operand_by cs current c op) (named_at c op index o) NoOperand
usual_taken cs cur c op index None h g = refl
usual_taken cs cur c op index (Some e) h g =
    usual_operand cs cur c op index e g ∙ sym (operand_taken cs cur c op index e ∙ taken_case (takes_entry c.major op e) (entry_operand cs cur c op index e) NoOperand h)

pub special_taken : (cs : List ClassFile) (current : ℕ) (c : ClassFile) (op index : ℕ) (o : Option Entry) → is_taken c op o ≡ true → op ≡ 183
    → (meaning_of cs current c index o).special ≡ option_map_or (operand_by cs current c op) (named_at c op index o) NoOperand
special_taken cs cur c op index None h g = refl
special_taken cs cur c op index (Some e) h g =
    ap (λ x. entry_operand cs cur c x index e) (sym g) ∙ sym (operand_taken cs cur c op index e ∙ taken_case (takes_entry c.major op e) (entry_operand cs cur c op index e) NoOperand h)

pub guard_taken : (cs : List ClassFile) (current : ℕ) (c : ClassFile) (op index : ℕ) (o : Option Entry)
    → (is_taken c op o && (meaning_of cs current c index o).guarded) ≡ option_map_or (guarded_by cs current c) (named_at c op index o) false
guard_taken cs cur c op index None = refl
guard_taken cs cur c op index (Some e) = sym (guarded_taken cs cur c op index e)

-- ---- Class entries

pub class_usual : (cs : List ClassFile) (current : ℕ) (c : ClassFile) (index name : ℕ) (o : Option Entry) → class_name_of o ≡ Some name
    → (meaning_of cs current c index o).usual ≡ option_map_or AType (kind_of_entry cs c.pool index) NoOperand
class_usual cs cur c index name None h = absurd (none≢some name h)
class_usual cs cur c index name (Some (entries.Class n)) h = refl
class_usual cs cur c index name (Some e) h = absurd (none≢some name h)
