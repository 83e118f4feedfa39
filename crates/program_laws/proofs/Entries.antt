-- What instructions name: the operands of resolved classes.
use Rattle.std.proofs.Common.{◌≡◌, ℕ, ◌+◌, ◌<◌, Bool, true, false, not, ◌&&◌, ◌||◌, eqb, List, [], inl, inr, Option, Some, None, map, length, refl, sym, ap, ◌∙◌, subst, arith}
use Rattle.std.specs.Prelude.{slice_get, unwrap_or, nat_le, if◌then◌else◌}
use Rattle.std.specs.Option.{option_map, option_map_or, IsSomeAnd}
use Rattle.std.specs.List.{filter, range_with_len}
use Rattle.std.proofs.lemmas.Bool.{false≢true, both_ways, or_right, eqb-true, eq-eqb, cond-true, false_from_ne_true}
use Rattle.std.proofs.lemmas.Option.{slice_get-map, slice_get_within}
use Rattle.class_pool.specs.declared.entry.Entry.{Entry}
use Rattle.class_pool.specs.declared.entry.Entry.TheVariants as entries
use Rattle.class_pool.specs.Grammar.{class_name_of, text_at}
use Rattle.class_pool.specs.Spelling.{IsEntryInRange}
use Rattle.class_pool.specs.declared.class.Member.{Member}
use Rattle.class_pool.specs.declared.class.ClassFile.{ClassFile}
use Rattle.descriptors.specs.declared.descriptor.Element.TheVariants as elements
use Rattle.descriptors.specs.Names.{is_class_name}
use Rattle.descriptors.specs.Parsing.{field_in}
use Rattle.class_rules.specs.Found.{MethodsHaveCode}
use Rattle.class_rules.specs.Grammar.{IsClass}
use Rattle.bytecode_model.specs.declared.Value.TheVariants.{Ref}
use Rattle.bytecode_model.specs.Lists.{onto, index_of}
use Rattle.bytecode_model.specs.Types.{Kind, OfClass, OfReferences, same_kind}
use Rattle.bytecode_model.specs.State.{Object}
use Rattle.bytecode_model.specs.Program.{Program, Method, Operand, NoOperand, AString, AStatic, AField, AMethod, AType, kind_of, type_number, object_class, string_class}
use Rattle.bytecode_typing.specs.Lawful.{IsThere, IsConstant, IsStaticCall, IsSpecialCall, IsVirtualCall, IsInterfaceCall}
use Rattle.lists.proofs.Lemmas.{some_same, onto_some, map_some, index_found, index_there}
use Rattle.class_lookup.specs.Parts.{Signature, same_text, name_of, class_text, is_static}
use Rattle.class_lookup.specs.Hierarchy.{is_interface, is_concrete, extends}
use Rattle.class_lookup.specs.Lookup.{Place, same_place, field_at, find_field, find_method}
use Rattle.class_lookup.specs.Selection.{special}
use Rattle.program_tables.specs.declared.refusal.Why.TheVariants.{WrongKind}
use Rattle.program_tables.specs.Instructions.{Named, Constant, Class, Field, Method as MethodNamed, signature_in, is_ldc, is_ldc2, is_field_access, is_class_use, takes_method, takes_interface_method, named_by}
use Rattle.program_tables.specs.Kinds.{kind_of_type, kind_of_entry}
use Rattle.program_tables.specs.Numbers.{is_static_field, is_instance_field, own_instance_fields, instance_fields, static_fields, strings_of, string_number, types_of, method_number}
use Rattle.program_tables.specs.Operands.{class_named, method_taken, string_object, constant_operand, static_operand, instance_operand, field_operand, method_operand, operand_by}
use Rattle.program_tables.specs.Resolved.{method_in, objects_at_start, resolved}
use Rattle.program_tables.specs.Unresolved.{unless, may_be_made, why_class, why_class_use, why_named}
use Rattle.program_tables.specs.Resolving.{IsResolved}
use Rattle.program_laws.proofs.ClassLaws.{OrderLaws, MethodLaws, ClassLaws, is_method}
use Rattle.program_laws.proofs.Places.{has}
use Rattle.program_laws.proofs.Facts.{all_at, map_or_some, map_or_at}
use Rattle.program_laws.proofs.Hierarchies.{above_interface}
use Rattle.program_laws.proofs.Fields.{no_own, object_own}
use Rattle.program_laws.proofs.Selections.{has_filter, has_range, unless_none}
use Rattle.program_laws.proofs.Numbering.{number_of}
use Rattle.program_laws.proofs.Programs.{holds, some_and}
use Rattle.program_laws.proofs.Objects.{class_type as class_type_at, concrete_within, ks_of}
use Rattle.program_laws.proofs.Statics.{string_kind, int_fits, long_fits}
use Rattle.program_laws.proofs.Calls.{first_none, IsNamed, method_is_named, IsTaken, ReadMethods, run_by, fixed, special_call, static_call, virtual_call, interface_call}
use Rattle.program_laws.proofs.Table.{CallFits, NewFits, OperandFits}

-- ---- what an entry that is named is

-- a constant is in range, and invokevirtual (182) names no method as one of an interface
abbrev pub Ranged : (op : ℕ) → Option Named → Type 0
Ranged op None = Unit {0}
Ranged op (Some (Constant e)) = IsEntryInRange e
Ranged op (Some (Class index)) = Unit {0}
Ranged op (Some (Field index s)) = Unit {0}
Ranged op (Some (MethodNamed of_interface index s)) = of_interface ≡ true → op ≡ 182 → ⊥

when : (op : ℕ) (b : Bool) (o : Option Named) → (b ≡ true → Ranged op o) → Ranged op (if b then o else None)
when op true o h = h refl
when op false o h = tt

field_ranged : (op owner : ℕ) (s : Option Signature) → Ranged op (option_map (Field owner) s)
field_ranged op owner None = tt
field_ranged op owner (Some s) = tt

method_ranged : (op owner : ℕ) (s : Option Signature) → Ranged op (option_map (MethodNamed false owner) s)
method_ranged op owner None = tt
method_ranged op owner (Some s) = λ e f. false≢true e

pub none_of : (b : Bool) → (b && false) ≡ false
none_of true = refl
none_of false = refl

no_virtual : (major : ℕ) → takes_interface_method major 182 ≡ true → ⊥
no_virtual major h = false≢true (sym (none_of (nat_le 52 major)) ∙ h)

interface_ranged : (major op owner : ℕ) (s : Option Signature) → takes_interface_method major op ≡ true → Ranged op (option_map (MethodNamed true owner) s)
interface_ranged major op owner None h = tt
interface_ranged major op owner (Some s) h = λ e f. no_virtual major (subst (λ x. takes_interface_method major x ≡ true) f h)

class_ranged : (op index name : ℕ) → IsEntryInRange (entries.Class name) → (b c : Bool) → Ranged op (if b then Some (Constant (entries.Class name)) else if c then Some (Class index) else None)
class_ranged op index name h true c = h
class_ranged op index name h false true = tt
class_ranged op index name h false false = tt

pub named_ranged : (pool : List Entry) (major op index : ℕ) (e : Entry) → IsEntryInRange e → Ranged op (named_by pool major op index e)
named_ranged pool major op index (entries.Utf8 units) h = tt
named_ranged pool major op index (entries.Integer n) h = when op (is_ldc op) (Some (Constant (entries.Integer n))) (λ e. h)
named_ranged pool major op index (entries.Float n) h = when op (is_ldc op) (Some (Constant (entries.Float n))) (λ e. h)
named_ranged pool major op index (entries.Long n) h = when op (is_ldc2 op) (Some (Constant (entries.Long n))) (λ e. h)
named_ranged pool major op index (entries.Double n) h = when op (is_ldc2 op) (Some (Constant (entries.Double n))) (λ e. h)
named_ranged pool major op index (entries.Class name) h = class_ranged op index name h (is_ldc op) (is_class_use op)
named_ranged pool major op index (entries.Text units) h = when op (is_ldc op) (Some (Constant (entries.Text units))) (λ e. h)
named_ranged pool major op index (entries.Field owner member) h = when op (is_field_access op) (option_map (Field owner) (signature_in pool member)) (λ e. field_ranged op owner (signature_in pool member))
named_ranged pool major op index (entries.Method owner member) h = when op (takes_method op) (option_map (MethodNamed false owner) (signature_in pool member)) (λ e. method_ranged op owner (signature_in pool member))
named_ranged pool major op index (entries.InterfaceMethod owner member) h = when op (takes_interface_method major op) (option_map (MethodNamed true owner) (signature_in pool member)) (λ e. interface_ranged major op owner (signature_in pool member) e)
named_ranged pool major op index (entries.NameAndType name descriptor) h = tt
named_ranged pool major op index (entries.Handle kind reference) h = when op (is_ldc op) (Some (Constant (entries.Handle kind reference))) (λ e. h)
named_ranged pool major op index (entries.MethodType descriptor) h = when op (is_ldc op) (Some (Constant (entries.MethodType descriptor))) (λ e. h)
named_ranged pool major op index (entries.Dynamic bootstrap member) h = tt
named_ranged pool major op index entries.Second h = tt

-- ---- operands

map_or_fits : {A : Type 0} (P : Program) (m : Method) (op : ℕ) (f : A → Operand) (o : Option A) → ((x : A) → o ≡ Some x → OperandFits P m op (f x)) → OperandFits P m op (option_map_or f o NoOperand)
map_or_fits P m op f None h = tt
map_or_fits P m op f (Some x) h = h x refl

-- a string's object is there
string_there : (cs : List ClassFile) → IsResolved cs → (n : ℕ) (units : List ℕ) → slice_get (strings_of cs) n ≡ Some units → IsConstant (resolved cs) (Ref (string_object n))
string_there cs r n units h =
    let p = string_object n in
    let k = onto_some (slice_get (ks_of cs) p) (λ t. slice_get (types_of cs) t) (OfClass string_class) (string_kind cs r n units h) in
    let o = map_some (λ (o : Object). o.kind) (slice_get (objects_at_start cs) p) k.0 (sym (slice_get-map (λ (o : Object). o.kind) (objects_at_start cs) p) ∙ k.1) in
    some_and (onto (slice_get (objects_at_start cs) p) (λ o. kind_of (resolved cs) o)) (λ x. Unit {0}) (OfClass string_class)
    (ap (λ x. onto x (λ o. kind_of (resolved cs) o)) o.1 ∙ (ap (slice_get (types_of cs)) o.2 ∙ k.2)) tt

text_operand : (cs : List ClassFile) → IsResolved cs → (m : Method) (op : ℕ) (units : List ℕ) → OperandFits (resolved cs) m op (option_map_or (λ n. AString (string_object n)) (string_number cs units) NoOperand)
text_operand cs r m op units =
    map_or_fits (resolved cs) m op (λ n. AString (string_object n)) (string_number cs units) (λ n h.
    let f = index_found (same_text units) (strings_of cs) n h in string_there cs r n f.0 f.1)

constant_operand_fits : (cs : List ClassFile) → IsResolved cs → (m : Method) (op : ℕ) (pool : List Entry) (e : Entry) → IsEntryInRange e → OperandFits (resolved cs) m op (constant_operand cs pool e)
constant_operand_fits cs r m op pool (entries.Utf8 units) h = tt
constant_operand_fits cs r m op pool (entries.Integer n) h = int_fits n h
constant_operand_fits cs r m op pool (entries.Float n) h = tt
constant_operand_fits cs r m op pool (entries.Long n) h = long_fits n h
constant_operand_fits cs r m op pool (entries.Double n) h = tt
constant_operand_fits cs r m op pool (entries.Class name) h = tt
constant_operand_fits cs r m op pool (entries.Text units) h = text_operand cs r m op (text_at pool units)
constant_operand_fits cs r m op pool (entries.Field owner member) h = tt
constant_operand_fits cs r m op pool (entries.Method owner member) h = tt
constant_operand_fits cs r m op pool (entries.InterfaceMethod owner member) h = tt
constant_operand_fits cs r m op pool (entries.NameAndType name descriptor) h = tt
constant_operand_fits cs r m op pool (entries.Handle kind reference) h = tt
constant_operand_fits cs r m op pool (entries.MethodType descriptor) h = tt
constant_operand_fits cs r m op pool (entries.Dynamic bootstrap member) h = tt
constant_operand_fits cs r m op pool entries.Second h = tt

-- ---- fields

-- an instance field is of no interface, and not of Object
has_own : (cs : List ClassFile) (f : Place) (c : ClassFile) (k : Member) → slice_get cs f.0 ≡ Some c → slice_get c.fields f.1 ≡ Some k → is_instance_field cs f ≡ true → has (own_instance_fields cs f.0) f ≡ true
has_own cs f c k h e i =
    let within = slice_get_within c.fields f.1 k e in
    ap (λ o. has (filter (is_instance_field cs) (option_map_or (λ k. map (λ i. (f.0, i)) (range_with_len 0 (length k.fields))) o [])) f) h
    ∙ has_filter (is_instance_field cs) (map (λ i. (f.0, i)) (range_with_len 0 (length c.fields))) f (has_range f.0 (length c.fields) 0 f.1 (omega arith) (omega (arith, within))) i

field_class : OrderLaws → (cs : List ClassFile) → IsResolved cs → (n : ℕ) (f : Place) (c : ClassFile) (k : Member) → slice_get cs f.0 ≡ Some c → slice_get c.fields f.1 ≡ Some k → is_instance_field cs f ≡ true → extends cs n f.0 ≡ true → is_interface cs n ≡ false
field_class order cs r n f c k h e i above =
    let own = has_own cs f c k h e i in
    false_from_ne_true (is_interface cs n) (λ t. elim (above_interface order cs r n f.0 t above) [
      | inl u ↦ false≢true (ap (λ xs. has xs f) (sym (no_own cs r f.0 u)) ∙ own)
      | inr u ↦ false≢true (ap (λ xs. has xs f) (sym (ap (own_instance_fields cs) u ∙ object_own order cs r)) ∙ own)
    ])

field_case : ClassLaws → (cs : List ClassFile) → IsResolved cs → (m : Method) (op n : ℕ) (s : Signature) (f : Place) → find_field cs n s ≡ Some f → (b : Bool) → is_static_field cs f ≡ b
    → OperandFits (resolved cs) m op (if b then static_operand cs f else instance_operand cs n f)
field_case laws cs r m op n s f h true e = map_or_fits (resolved cs) m op AStatic (index_of (same_place f) (static_fields cs)) (λ k g. tt)
field_case laws cs r m op n s f h false e =
    let d = laws.found_fields cs r.acyclic n s f h in
    let at : field_at cs f ≡ Some d.member = ap (λ o. onto o (λ c. slice_get c.fields f.1)) d.class ∙ d.there in
    let i : is_instance_field cs f ≡ true = map_or_at (λ k. not (is_static k)) (field_at cs f) d.member at ∙ ap not (sym (map_or_at is_static (field_at cs f) d.member at) ∙ e) in
    map_or_fits (resolved cs) m op (AField n f.0) (index_of (same_place f) (instance_fields cs f.0)) (λ k g.
    record {
      class = field_class laws.methods.order cs r n f d.owner d.member d.class d.there i d.above;
      inherited = holds (eqb f.0 object_class || extends cs n f.0) (or_right (eqb f.0 object_class) (extends cs n f.0) d.above);
    })

field_fits : ClassLaws → (cs : List ClassFile) → IsResolved cs → (m : Method) (op : ℕ) (c : ClassFile) (index : ℕ) (s : Signature) → OperandFits (resolved cs) m op (option_map_or (λ n. option_map_or (field_operand cs n) (find_field cs n s) NoOperand) (class_named cs c index) NoOperand)
field_fits laws cs r m op c index s =
    map_or_fits (resolved cs) m op (λ n. option_map_or (field_operand cs n) (find_field cs n s) NoOperand) (class_named cs c index) (λ n g.
    map_or_fits (resolved cs) m op (field_operand cs n) (find_field cs n s) (λ f h. field_case laws cs r m op n s f h (is_static_field cs f) refl))

-- ---- classes

-- the name of a class is that of no array
pub name_is : (c : ClassFile) → IsClass c → is_class_name (name_of c) ≡ true
name_is c k =
    let t = k.rules.this_class in
    let h = t.2 in
    ap (λ o. is_class_name (option_map_or (text_at c.pool) (class_name_of o) [])) t.1 ∙ (ap (λ o. is_class_name (unwrap_or o [])) h.1 ∙ h.2)

pub kind_of_class : ClassLaws → (cs : List ClassFile) → IsResolved cs → (c : ClassFile) (index d : ℕ) → class_named cs c index ≡ Some d → kind_of_entry cs c.pool index ≡ Some (OfClass d)
kind_of_class laws cs r c index d h =
    let text = class_text c.pool index in
    let f = index_found (λ x. same_text (name_of x) text) cs d h in
    let named : is_class_name text ≡ true = ap is_class_name (sym ((laws.comparisons.texts (name_of f.0) text).0 f.2)) ∙ name_is f.0 (all_at IsClass cs d f.0 r.grammar f.1) in
    ap (λ o. onto o (kind_of_type cs)) (cond-true (is_class_name text) (Some (record { dimensions = 0; element = elements.Class text })) (field_in text) named)
    ∙ ap (option_map (λ c. OfClass c)) h

class_number_there : (cs : List ClassFile) (d : ℕ) → d < length cs → IsThere (type_number (resolved cs) (OfClass d))
class_number_there cs d lt =
    let i = index_there (same_kind (OfClass d)) (types_of cs) (8 + d) (OfClass d) (class_type_at cs d lt) (eq-eqb d d refl) in
    some_and (index_of (same_kind (OfClass d)) (types_of cs)) (λ x. Unit {0}) i.0 i.1 tt

made : ClassLaws → (cs : List ClassFile) → IsResolved cs → (cur : ℕ) (c : ClassFile) (index : ℕ) (k : Kind) → why_class_use cs cur c 187 index ≡ None → kind_of_entry cs c.pool index ≡ Some k → NewFits (resolved cs) k
made laws cs r cur c index k h g =
    let w = first_none (why_class cs cur c index) (unless (may_be_made cs c index) WrongKind) h in
    let d = map_or_some (is_concrete cs) (class_named cs c index) (unless_none (may_be_made cs c index) WrongKind w.1) in
    let same = some_same (OfClass d.0) k (sym (kind_of_class laws cs r c index d.0 d.1) ∙ g) in
    subst (NewFits (resolved cs)) same (d.2, class_number_there cs d.0 (concrete_within cs d.0 d.2))

-- ---- methods

number_fits : (cs : List ClassFile) (m : Method) (op n : ℕ) (t : Place) (s : Signature) (d : IsTaken cs t s) → ((j : ℕ) → slice_get (resolved cs).methods j ≡ Some (method_in cs t.0 d.owner d.member) → CallFits (resolved cs) m op n j)
    → OperandFits (resolved cs) m op (option_map_or (AMethod n) (method_number cs t) NoOperand)
number_fits cs m op n t s d h =
    let j = number_of cs t d.owner d.member d.class d.there in
    map_or_fits (resolved cs) m op (AMethod n) (method_number cs t) (λ x g. subst (CallFits (resolved cs) m op n) (some_same j.0 x (sym j.1 ∙ g)) (h j.0 j.2))

apart : (op a b : ℕ) → op ≡ a → op ≡ b → eqb a b ≡ false → ⊥
apart op a b h e f = both_ways (eqb a b) f (eq-eqb a b (sym h ∙ e))

-- the calls by opcode
virtual_at : (cs : List ClassFile) (cur : ℕ) (c : ClassFile) (ofi : Bool) (op index : ℕ) (s : Signature) (n : IsNamed cs cur c ofi op index s) → (ofi ≡ true → op ≡ 182 → ⊥) → op ≡ 182 → (j : ℕ)
    → slice_get (resolved cs).methods j ≡ Some (method_in cs n.place.0 n.found.owner n.found.member) → IsSomeAnd (slice_get (resolved cs).methods j) (IsVirtualCall (resolved cs) n.named)
virtual_at cs cur c true op index s n v x j h = absurd (v refl x)
virtual_at cs cur c false op index s n v x j h =
    subst (λ op. (n : IsNamed cs cur c false op index s) → slice_get (resolved cs).methods j ≡ Some (method_in cs n.place.0 n.found.owner n.found.member) → IsSomeAnd (slice_get (resolved cs).methods j) (IsVirtualCall (resolved cs) n.named)) (sym x)
    (λ n h. virtual_call cs cur c index s n j h) n h

static_at : MethodLaws → MethodsHaveCode → (cs : List ClassFile) → IsResolved cs → (cur : ℕ) (c : ClassFile) (ofi : Bool) (op index : ℕ) (s : Signature) (n : IsNamed cs cur c ofi op index s) → op ≡ 184 → (j : ℕ)
    → slice_get (resolved cs).methods j ≡ Some (method_in cs n.place.0 n.found.owner n.found.member) → IsSomeAnd (slice_get (resolved cs).methods j) IsStaticCall
static_at laws law cs r cur c ofi op index s n x j h =
    subst (λ op. (n : IsNamed cs cur c ofi op index s) → slice_get (resolved cs).methods j ≡ Some (method_in cs n.place.0 n.found.owner n.found.member) → IsSomeAnd (slice_get (resolved cs).methods j) IsStaticCall) (sym x)
    (λ n h. static_call laws law cs r cur c ofi index s n j h) n h

interface_at : (cs : List ClassFile) (cur : ℕ) (c : ClassFile) (ofi : Bool) (op index : ℕ) (s : Signature) (n : IsNamed cs cur c ofi op index s) → op ≡ 185 → (j : ℕ)
    → slice_get (resolved cs).methods j ≡ Some (method_in cs n.place.0 n.found.owner n.found.member) → IsSomeAnd (slice_get (resolved cs).methods j) IsInterfaceCall
interface_at cs cur c ofi op index s n x j h =
    subst (λ op. (n : IsNamed cs cur c ofi op index s) → slice_get (resolved cs).methods j ≡ Some (method_in cs n.place.0 n.found.owner n.found.member) → IsSomeAnd (slice_get (resolved cs).methods j) IsInterfaceCall) (sym x)
    (λ n h. interface_call cs cur c ofi index s n j h) n h

other_calls : MethodLaws → MethodsHaveCode → (cs : List ClassFile) (r : IsResolved cs) (m : Method) (cur : ℕ) (c : ClassFile) (ofi : Bool) (op index : ℕ) (s : Signature) (n : IsNamed cs cur c ofi op index s) → eqb op 183 ≡ false → (ofi ≡ true → op ≡ 182 → ⊥) → (j : ℕ)
    → slice_get (resolved cs).methods j ≡ Some (method_in cs n.place.0 n.found.owner n.found.member) → CallFits (resolved cs) m op n.named j
other_calls laws law cs r m cur c ofi op index s n e v j h = record {
  virtual = λ x. virtual_at cs cur c ofi op index s n v x j h;
  special = λ x. absurd (both_ways (eqb op 183) e (eq-eqb op 183 x));
  static = λ x. static_at laws law cs r cur c ofi op index s n x j h;
  interface = λ x. interface_at cs cur c ofi op index s n x j h;
}

special_at : ClassLaws → MethodsHaveCode → ReadMethods → (cs : List ClassFile) (r : IsResolved cs) (m : Method) (cur : ℕ) → m.owner ≡ cur → (c : ClassFile) (ofi : Bool) (index : ℕ) (s : Signature) (n : IsNamed cs cur c ofi 183 index s)
    → OperandFits (resolved cs) m 183 (method_operand cs n.named (special cs cur n.named n.place))
special_at laws law read cs r m cur own c ofi index s n =
    let run = run_by cs cur c ofi index s n in
    let sa = is_method laws.methods cs n.place s (record { owner = n.found.owner; class = n.found.class; member = n.found.member; there = n.found.there; signature = n.found.signature }) in
    let call = special_call laws law read cs r cur c ofi index s m own n run.taken run.special_is run.not_abstract (fixed cs cur n.named s n.place run.taken sa run.special_is) in
    let fits : OperandFits (resolved cs) m 183 (option_map_or (AMethod n.named) (method_number cs run.taken) NoOperand) =
    number_fits cs m 183 n.named run.taken s call.0 (λ j h. record {
      virtual = λ x. absurd (apart 183 183 182 refl x refl);
      special = λ x. some_and (slice_get (resolved cs).methods j) (IsSpecialCall (resolved cs) m n.named) (method_in cs run.taken.0 call.0.owner call.0.member) h call.1;
      static = λ x. absurd (apart 183 183 184 refl x refl);
      interface = λ x. absurd (apart 183 183 185 refl x refl);
    }) in
    subst (λ o. OperandFits (resolved cs) m 183 (option_map_or (AMethod n.named) (onto o (method_number cs)) NoOperand)) (sym run.special_is) fits

taken_case : ClassLaws → MethodsHaveCode → ReadMethods → (cs : List ClassFile) (r : IsResolved cs) (m : Method) (cur : ℕ) → m.owner ≡ cur → (c : ClassFile) (ofi : Bool) (op index : ℕ) (s : Signature) (n : IsNamed cs cur c ofi op index s) → (ofi ≡ true → op ≡ 182 → ⊥)
    → (b : Bool) → eqb op 183 ≡ b → OperandFits (resolved cs) m op (method_operand cs n.named (if b then special cs cur n.named n.place else Some n.place))
taken_case laws law read cs r m cur own c ofi op index s n v true e =
    subst (λ op. (n : IsNamed cs cur c ofi op index s) → OperandFits (resolved cs) m op (method_operand cs n.named (special cs cur n.named n.place))) (sym (eqb-true op 183 e))
    (λ n. special_at laws law read cs r m cur own c ofi index s n) n
taken_case laws law read cs r m cur own c ofi op index s n v false e =
    number_fits cs m op n.named n.place s (record { owner = n.found.owner; member = n.found.member; class = n.found.class; there = n.found.there; signature = n.found.signature })
    (λ j h. other_calls laws.methods law cs r m cur c ofi op index s n e v j h)

method_fits : ClassLaws → MethodsHaveCode → ReadMethods → (cs : List ClassFile) (r : IsResolved cs) (m : Method) (cur : ℕ) → m.owner ≡ cur → (c : ClassFile) (ofi : Bool) (op index : ℕ) (s : Signature) (n : IsNamed cs cur c ofi op index s) → (ofi ≡ true → op ≡ 182 → ⊥)
    → OperandFits (resolved cs) m op (option_map_or (λ n. method_operand cs n (onto (find_method cs n s) (method_taken cs op cur n))) (class_named cs c index) NoOperand)
method_fits laws law read cs r m cur own c ofi op index s n v =
    let at : option_map_or (λ n. method_operand cs n (onto (find_method cs n s) (method_taken cs op cur n))) (class_named cs c index) NoOperand ≡ method_operand cs n.named (method_taken cs op cur n.named n.place) =
    ap (λ o. option_map_or (λ n. method_operand cs n (onto (find_method cs n s) (method_taken cs op cur n))) o NoOperand) n.class_is
    ∙ ap (λ o. method_operand cs n.named (onto o (method_taken cs op cur n.named))) n.found_as in
    subst (OperandFits (resolved cs) m op) (sym at) (taken_case laws law read cs r m cur own c ofi op index s n v (eqb op 183) refl)

-- ---- all of them

pub named_fits : ClassLaws → MethodsHaveCode → ReadMethods → (cs : List ClassFile) (r : IsResolved cs) (m : Method) (cur : ℕ) → m.owner ≡ cur → (c : ClassFile) (method : Signature) (op : ℕ) (o : Option Named) → Ranged op o
    → ((index : ℕ) (k : Kind) → op ≡ 189 → o ≡ Some (Class index) → kind_of_entry cs c.pool index ≡ Some k → IsThere (type_number (resolved cs) (OfReferences k)))
    → why_named cs cur c method op o ≡ None → OperandFits (resolved cs) m op (option_map_or (operand_by cs cur c op) o NoOperand)
named_fits laws law read cs r m cur own c method op None g t w = tt
named_fits laws law read cs r m cur own c method op (Some (Constant e)) g t w = constant_operand_fits cs r m op c.pool e g
named_fits laws law read cs r m cur own c method op (Some (Class index)) g t w =
    map_or_fits (resolved cs) m op AType (kind_of_entry cs c.pool index) (λ k h. record {
      made = λ x. made laws cs r cur c index k (subst (λ op. why_class_use cs cur c op index ≡ None) x w) h;
      array = λ x. t index k x refl h;
    })
named_fits laws law read cs r m cur own c method op (Some (Field index s)) g t w = field_fits laws cs r m op c index s
named_fits laws law read cs r m cur own c method op (Some (MethodNamed ofi index s)) g t w =
    method_fits laws law read cs r m cur own c ofi op index s (method_is_named laws cs r cur c ofi op index s w) g
