-- What instructions name: the methods that are called.
use Rattle.std.proofs.Common.{◌≡◌, ◌↔◌, ℕ, Bool, true, false, not, ◌&&◌, ◌||◌, eqb, List, [], ◌∷◌, ◌++◌, inl, inr, Option, Some, None, refl, sym, ap, ◌∙◌, subst}
use Rattle.std.specs.Prelude.{slice_get, unwrap_or, codes, if◌then◌else◌}
use Rattle.std.specs.Option.{option_map_or, IsSomeAnd}
use Rattle.std.specs.List.{find}
use Rattle.std.proofs.lemmas.Bool.{false≢true, both_ways, not-true, or_cases, or_left, or_right, and_parts, eqb-true, eq-eqb, false_from_ne_true}
use Rattle.bytecode_typing.proofs.Relations.{is_true}
use Rattle.class_pool.specs.declared.class.Member.{Member}
use Rattle.class_pool.specs.declared.class.ClassFile.{ClassFile}
use Rattle.class_pool.specs.Grammar.{entry_at, utf8_of}
use Rattle.descriptors.specs.declared.descriptor.MethodType.{MethodType}
use Rattle.descriptors.specs.Descriptors.{IsMethodDescriptor}
use Rattle.descriptors.specs.Names.{is_instance_initializer}
use Rattle.descriptors.specs.Parsing as descriptors
use Rattle.class_rules.specs.Rules.{IsRightMethod}
use Rattle.class_rules.specs.Found.{MethodsHaveCode}
use Rattle.class_rules.specs.Grammar.{IsClass}
use Rattle.bytecode_model.specs.Lists.{onto}
use Rattle.bytecode_model.specs.Program.{Method, object_class}
use Rattle.bytecode_typing.specs.Tests.{Holds}
use Rattle.bytecode_typing.specs.Checks.{is_own_class}
use Rattle.bytecode_typing.specs.Lawful.{IsThere, IsStaticCall, IsSpecialCall, IsVirtualCall, IsInterfaceCall}
use Rattle.lists.proofs.Lemmas.{none≢some, some_same, onto_some}
use Rattle.class_lookup.specs.Lists.{first_some}
use Rattle.class_lookup.specs.Parts.{Signature, signature_of, has_code, is_static, is_private, is_abstract, is_super_class, is_init, is_clinit}
use Rattle.class_lookup.specs.Hierarchy.{superclass, is_interface, is_subclass, extends}
use Rattle.class_lookup.specs.Lookup.{Place, method_at, find_method}
use Rattle.class_lookup.specs.Selection.{signature_at, is_method_with, is_instance, is_of_superclass, upwards, special}
use Rattle.class_lookup.specs.Laws.{IsFound}
use Rattle.program_tables.specs.declared.refusal.Why.{Why}
use Rattle.program_tables.specs.declared.refusal.Why.TheVariants.{NoClass, NoMethod, NotAccessible, WrongKind}
use Rattle.program_tables.specs.Kinds.{class_in_entry, classes_in_method_descriptor, result_declared, declared_of}
use Rattle.program_tables.specs.Operands.{class_named, method_named}
use Rattle.program_tables.specs.Resolved.{method_in, resolved_methods, resolved}
use Rattle.program_tables.specs.Unresolved.{unless, are_there, may_use_method, is_named_rightly, is_free, calls_no_private, is_special, is_callable_name, is_right_method, why_method_found, why_method_named, why_method}
use Rattle.bytecode_model.specs.Effects.{same_bool}
use Rattle.program_tables.specs.Resolving.{IsResolved}
use Rattle.program_laws.proofs.ClassLaws.{OrderLaws, MethodLaws, ClassLaws, is_method}
use Rattle.program_laws.proofs.Places.{has, has_head, has_tail}
use Rattle.program_laws.proofs.Facts.{all_at, map_or_some, map_or_at, set_of}
use Rattle.program_laws.proofs.Hierarchies.{either, root}
use Rattle.program_laws.proofs.Selections.{unless_none, code_or_abstract}
use Rattle.program_laws.proofs.Numbering.{at_place}
use Rattle.program_laws.proofs.Programs.{holds, some_and, coded, body_there}

-- ---- reasons that don't apply

pub first_none : (a b : Option Why) → first_some (a ∷ b ∷ []) ≡ None → (a ≡ None) × (b ≡ None)
first_none None None h = (refl, refl)
first_none None (Some w) h = absurd (none≢some w (sym h))
first_none (Some w) b h = absurd (none≢some w (sym h))

five : (a b c d e : Bool) → (a && b && c && d && e) ≡ true → (a ≡ true) × (b ≡ true) × (c ≡ true) × (d ≡ true) × (e ≡ true)
five true true true true true h = (refl, refl, refl, refl, refl)
five true true true true false h = absurd (false≢true h)
five true true true false e h = absurd (false≢true h)
five true true false d e h = absurd (false≢true h)
five true false c d e h = absurd (false≢true h)
five false b c d e h = absurd (false≢true h)

-- a method that an instruction names, with what holds of it
pub record IsNamed (cs : List ClassFile) (cur : ℕ) (c : ClassFile) (ofi : Bool) (op index : ℕ) (s : Signature) : Type 0 where
  pub named : ℕ
  pub class_is : class_named cs c index ≡ Some named
  pub place : Place
  pub found_as : find_method cs named s ≡ Some place
  pub found : IsFound cs named s (λ k. k.methods) place
  pub rightly : is_named_rightly cs cur c ofi op index ≡ true
  pub static : same_bool (eqb op 184) (is_static found.member) ≡ true
  pub special : (not (eqb op 183) || is_special cs cur c index place) ≡ true
  pub callable : is_callable_name cs cur op s ≡ true

found_right : (cs : List ClassFile) (cur : ℕ) (c : ClassFile) (ofi : Bool) (op index : ℕ) (s : Signature) (m : Place) (o : Option Member) → why_method_found cs cur c ofi op index s m o ≡ None → (k : Member) × (o ≡ Some k) × (is_right_method cs cur c ofi op index s m k ≡ true)
found_right cs cur c ofi op index s m None h = absurd (none≢some NoMethod (sym h))
found_right cs cur c ofi op index s m (Some k) h =
    (k, refl, unless_none (is_right_method cs cur c ofi op index s m k) WrongKind (first_none (unless (may_use_method cs cur c index m k) NotAccessible) (unless (is_right_method cs cur c ofi op index s m k) WrongKind) h).1)

named_right : (cs : List ClassFile) (cur : ℕ) (c : ClassFile) (ofi : Bool) (op index : ℕ) (s : Signature) (o : Option Place) → why_method_named cs cur c ofi op index s o ≡ None → (m : Place) × (o ≡ Some m) × (why_method_found cs cur c ofi op index s m (method_at cs m) ≡ None)
named_right cs cur c ofi op index s None h = absurd (none≢some NoMethod (sym h))
named_right cs cur c ofi op index s (Some m) h = (m, refl, h)

pub method_is_named : ClassLaws → (cs : List ClassFile) → IsResolved cs → (cur : ℕ) (c : ClassFile) (ofi : Bool) (op index : ℕ) (s : Signature) → why_method cs cur c ofi op index s ≡ None → IsNamed cs cur c ofi op index s
method_is_named laws cs r cur c ofi op index s h =
    let b = first_none (unless (are_there cs (class_in_entry c.pool index ++ classes_in_method_descriptor s.descriptor)) NoClass) (why_method_named cs cur c ofi op index s (method_named cs c index s)) h in
    let m = named_right cs cur c ofi op index s (method_named cs c index s) b.1 in
    let k = found_right cs cur c ofi op index s m.0 (method_at cs m.0) m.2 in
    let n = onto_some (class_named cs c index) (λ n. find_method cs n s) m.0 m.1 in
    let f = laws.found_methods cs r.acyclic n.0 s m.0 n.2 in
    let same : k.0 ≡ f.member = some_same k.0 f.member (sym k.1 ∙ at_place cs m.0 f.owner f.member f.class f.there) in
    let parts = five (is_named_rightly cs cur c ofi op index) (same_bool (eqb op 184) (is_static k.0)) (not (calls_no_private op) || not (is_private k.0)) (not (eqb op 183) || is_special cs cur c index m.0) (is_callable_name cs cur op s) k.2 in
    record {
      named = n.0;
      class_is = n.1;
      place = m.0;
      found_as = n.2;
      found = f;
      rightly = parts.0;
      static = ap (λ x. same_bool (eqb op 184) (is_static x)) (sym same) ∙ parts.1;
      special = parts.3;
      callable = parts.4;
    }

-- ---- the method that is taken

-- a method's number, and what the program has there
pub record IsTaken (cs : List ClassFile) (t : Place) (s : Signature) : Type 0 where
  pub owner : ClassFile
  pub member : Member
  pub class : slice_get cs t.0 ≡ Some owner
  pub there : slice_get owner.methods t.1 ≡ Some member
  pub signature : signature_of owner member ≡ s

pub taken_found : (cs : List ClassFile) (n : ℕ) (s : Signature) (m : Place) → IsFound cs n s (λ k. k.methods) m → IsTaken cs m s
taken_found cs n s m f = record { owner = f.owner; member = f.member; class = f.class; there = f.there; signature = f.signature }

in_program : (cs : List ClassFile) (t : Place) (s : Signature) → IsTaken cs t s → Method
in_program cs t s d = method_in cs t.0 d.owner d.member

-- a method that isn't abstract has code
not_abstract_code : MethodsHaveCode → (cs : List ClassFile) → IsResolved cs → (t : Place) (s : Signature) (d : IsTaken cs t s) → is_abstract d.member ≡ false → is_method_with has_code cs t ≡ true
not_abstract_code law cs r t s d a =
    elim (code_or_abstract law cs r t s (record { owner = d.owner; class = d.class; member = d.member; there = d.there; signature = d.signature })) [
      | inl e ↦ e
      | inr e ↦ absurd (both_ways (is_abstract d.member) a (sym (map_or_at is_abstract (method_at cs t) d.member (at_place cs t d.owner d.member d.class d.there)) ∙ e))
    ]

code_in_program : MethodLaws → (cs : List ClassFile) (t : Place) (s : Signature) (d : IsTaken cs t s) → is_method_with has_code cs t ≡ true → IsThere (method_in cs t.0 d.owner d.member).body
code_in_program laws cs t s d h =
    let c = coded laws cs t s (is_method laws cs t s (record { owner = d.owner; class = d.class; member = d.member; there = d.there; signature = d.signature })) h in
    let same_c = some_same c.owner d.owner (sym c.class ∙ d.class) in
    let same_m = some_same c.member d.member (sym c.there ∙ (ap (λ (x : ClassFile). slice_get x.methods t.1) same_c ∙ d.there)) in
    subst (λ (x : ClassFile). IsThere (method_in cs t.0 x d.member).body) same_c (subst (λ x. IsThere (method_in cs t.0 c.owner x).body) same_m (body_there cs t s c))

static_not_abstract : (cs : List ClassFile) → IsResolved cs → (t : Place) (s : Signature) (d : IsTaken cs t s) → is_static d.member ≡ true → is_abstract d.member ≡ false
static_not_abstract cs r t s d h =
    let right = all_at (IsRightMethod d.owner) d.owner.methods t.1 d.member (all_at IsClass cs t.0 d.owner r.grammar d.class).rules.methods d.there in
    false_from_ne_true (is_abstract d.member) (λ a. (right.plain (set_of d.member.flags 0x0400 a)).not_static (set_of d.member.flags 0x0008 h))

-- ---- the four calls

abbrev pub At : List ClassFile → ℕ → (Method → Type 0) → Type 0
At cs j P = IsSomeAnd (slice_get (resolved_methods cs) j) P

static_of : (b : Bool) → same_bool true b ≡ true → b ≡ true
static_of b h = h

pub static_call : MethodLaws → MethodsHaveCode → (cs : List ClassFile) → IsResolved cs → (cur : ℕ) (c : ClassFile) (ofi : Bool) (index : ℕ) (s : Signature) (n : IsNamed cs cur c ofi 184 index s) (j : ℕ) → slice_get (resolved_methods cs) j ≡ Some (method_in cs n.place.0 n.found.owner n.found.member) → At cs j IsStaticCall
unfolding taken_found
static_call laws law cs r cur c ofi index s n j h =
    let d = taken_found cs n.named s n.place n.found in
    some_and (slice_get (resolved_methods cs) j) IsStaticCall (method_in cs n.place.0 n.found.owner n.found.member) h
    (record { static = ap not n.static; code = code_in_program laws cs n.place s d (not_abstract_code law cs r n.place s d (static_not_abstract cs r n.place s d n.static)) })

-- no other than invokespecial names an instance initialization method
not_init : (cs : List ClassFile) (cur op : ℕ) (s : Signature) → is_callable_name cs cur op s ≡ true → eqb op 183 ≡ false → is_init s ≡ false
not_init cs cur op s h e =
    let p = and_parts (not (is_init s) || eqb op 183) (not (is_clinit s) || is_free cs cur) h in
    elim (or_cases (not (is_init s)) (eqb op 183) p.0) [ inl f ↦ not-true (is_init s) f | inr f ↦ absurd (both_ways (eqb op 183) e f) ]

pub virtual_call : (cs : List ClassFile) → (cur : ℕ) (c : ClassFile) (index : ℕ) (s : Signature) (n : IsNamed cs cur c false 182 index s) (j : ℕ) → slice_get (resolved_methods cs) j ≡ Some (method_in cs n.place.0 n.found.owner n.found.member) → At cs j (IsVirtualCall (resolved cs) n.named)
virtual_call cs cur c index s n j h =
    let class : not (option_map_or (is_interface cs) (class_named cs c index) false) ≡ true =
    elim (or_cases (is_free cs cur && false) (not (option_map_or (is_interface cs) (class_named cs c index) false)) n.rightly) [
      | inl e ↦ absurd (false≢true (and_parts (is_free cs cur) false e).1)
      | inr e ↦ e
    ] in
    some_and (slice_get (resolved_methods cs) j) (IsVirtualCall (resolved cs) n.named) (method_in cs n.place.0 n.found.owner n.found.member) h
    (record {
      instance = n.static;
      other = ap is_init n.found.signature ∙ not_init cs cur 182 s n.callable refl;
      class = sym (map_or_at (is_interface cs) (class_named cs c index) n.named n.class_is) ∙ not-true (option_map_or (is_interface cs) (class_named cs c index) false) class;
      inherited = holds (eqb n.place.0 object_class || extends cs n.named n.place.0) (or_right (eqb n.place.0 object_class) (extends cs n.named n.place.0) n.found.above);
    })

pub interface_call : (cs : List ClassFile) → (cur : ℕ) (c : ClassFile) (ofi : Bool) (index : ℕ) (s : Signature) (n : IsNamed cs cur c ofi 185 index s) (j : ℕ) → slice_get (resolved_methods cs) j ≡ Some (method_in cs n.place.0 n.found.owner n.found.member) → At cs j IsInterfaceCall
interface_call cs cur c ofi index s n j h =
    some_and (slice_get (resolved_methods cs) j) IsInterfaceCall (method_in cs n.place.0 n.found.owner n.found.member) h
    (record { instance = n.static; other = ap is_init n.found.signature ∙ not_init cs cur 185 s n.callable refl })

-- ---- invokespecial

found_case : (test : Place → Bool) (x : Place) (ms : List Place) (t : Place) (b : Bool) → test x ≡ b → (if b then Some x else find test ms) ≡ Some t → (find test ms ≡ Some t → (has ms t ≡ true) × (test t ≡ true)) → (has (x ∷ ms) t ≡ true) × (test t ≡ true)
found_case test x ms t true e h later = (ap (has (x ∷ ms)) (sym (some_same x t h)) ∙ has_head x ms, ap test (sym (some_same x t h)) ∙ e)
found_case test x ms t false e h later = let r = later h in (has_tail x t ms r.0, r.1)

found_test : (test : Place → Bool) (ms : List Place) (t : Place) → find test ms ≡ Some t → (has ms t ≡ true) × (test t ≡ true)
found_test test [] t h = absurd (none≢some t h)
found_test test (x ∷ ms) t h = found_case test x ms t (test x) refl h (found_test test ms t)

-- how the method is fixed: it is the named one, or the first instance method from the superclass of the current class upwards
pub data Fixed (cs : List ClassFile) (cur named : ℕ) (s : Signature) (a t : Place) : Type 0 where
  itself : t ≡ a → Fixed cs cur named s a t
  upward : (d : ℕ) → superclass cs cur ≡ Some d → has (upwards cs s d) t ≡ true → is_instance cs t ≡ true → is_init s ≡ false → Fixed cs cur named s a t

first_of_three : (a b c : Bool) → (a && b && c) ≡ true → a ≡ true
first_of_three true b c h = refl
first_of_three false b c h = absurd (false≢true h)

fixed_case : (cs : List ClassFile) (cur named : ℕ) (s : Signature) (a t : Place) (b : Bool) → is_of_superclass cs cur named s ≡ b
    → (if b then onto (superclass cs cur) (λ d. find (is_instance cs) (upwards cs s d)) else Some a) ≡ Some t → Fixed cs cur named s a t
fixed_case cs cur named s a t true e h =
    let d = onto_some (superclass cs cur) (λ d. find (is_instance cs) (upwards cs s d)) t h in
    let f = found_test (is_instance cs) (upwards cs s d.0) t d.2 in
    let p = first_of_three (not (is_init s)) (option_map_or is_super_class (slice_get cs cur) false) (is_subclass cs cur named) e in
    upward d.0 d.1 f.0 f.1 (not-true (is_init s) p)
fixed_case cs cur named s a t false e h = itself (sym (some_same a t h))

pub fixed : (cs : List ClassFile) (cur named : ℕ) (s : Signature) (a t : Place) → signature_at cs a ≡ Some s → special cs cur named a ≡ Some t → Fixed cs cur named s a t
unfolding special
fixed cs cur named s a t sa h =
    fixed_case cs cur named s a t (is_of_superclass cs cur named s) refl
    (sym (ap (λ o. onto o (λ s. if is_of_superclass cs cur named s then onto (superclass cs cur) (λ d. find (is_instance cs) (upwards cs s d)) else Some a)) sa) ∙ h)

-- the method that is run, and that it isn't abstract
pub record IsRun (cs : List ClassFile) (cur : ℕ) (named : ℕ) (a : Place) : Type 0 where
  pub taken : Place
  pub special_is : special cs cur named a ≡ Some taken
  pub not_abstract : is_method_with (λ k. not (is_abstract k)) cs taken ≡ true

pub run_by : (cs : List ClassFile) (cur : ℕ) (c : ClassFile) (ofi : Bool) (index : ℕ) (s : Signature) (n : IsNamed cs cur c ofi 183 index s) → IsRun cs cur n.named n.place
run_by cs cur c ofi index s n =
    let p = and_parts (is_method_with (λ k. not (is_abstract k)) cs n.place) (option_map_or (λ x. option_map_or (is_method_with (λ k. not (is_abstract k)) cs) (special cs cur x n.place) false) (class_named cs c index) false) n.special in
    let at : option_map_or (is_method_with (λ k. not (is_abstract k)) cs) (special cs cur n.named n.place) false ≡ true =
    sym (map_or_at (λ x. option_map_or (is_method_with (λ k. not (is_abstract k)) cs) (special cs cur x n.place) false) (class_named cs c index) n.named n.class_is) ∙ p.1 in
    let t = map_or_some (is_method_with (λ k. not (is_abstract k)) cs) (special cs cur n.named n.place) at in
    record { taken = t.0; special_is = t.1; not_abstract = t.2 }

-- an `<init>` is of the named class and gives no result
abbrev pub ReadMethods : Type 0
ReadMethods = (units : List ℕ) (t : MethodType) → (descriptors.method_in units ≡ Some t) ↔ IsMethodDescriptor units t

pub text_case : (o : Option (List ℕ)) (units : List ℕ) → o ≡ Some units → unwrap_or o [] ≡ units
text_case o units h = ap (λ x. unwrap_or x []) h

name_text : ClassLaws → (o : Option (List ℕ)) → is_instance_initializer (unwrap_or o []) ≡ true → o ≡ Some (codes "<init>")
name_text laws None h = absurd (false≢true h)
name_text laws (Some units) h = ap Some ((laws.comparisons.texts units (codes "<init>")).0 h)

init_void : ClassLaws → ReadMethods → (cs : List ClassFile) → IsResolved cs → (t : Place) (s : Signature) (d : IsTaken cs t s) → is_init s ≡ true → result_declared cs s.descriptor ≡ None
init_void laws read cs r t s d h =
    let right = all_at (IsRightMethod d.owner) d.owner.methods t.1 d.member (all_at IsClass cs t.0 d.owner r.grammar d.class).rules.methods d.there in
    let name = name_text laws (utf8_of (entry_at d.owner.pool d.member.name)) (ap is_init d.signature ∙ h) in
    let nothing = (right.initializer name).nothing in
    let m = nothing.2 in
    let text : s.descriptor ≡ nothing.0 = ap (λ (x : Signature). x.descriptor) (sym d.signature) ∙ text_case (utf8_of (entry_at d.owner.pool d.member.descriptor)) nothing.0 nothing.1 in
    let read_as : descriptors.method_in s.descriptor ≡ Some m.0 = ap descriptors.method_in text ∙ (read nothing.0 m.0).1 m.1 in
    ap (λ o. onto o (λ m. onto m.result (declared_of cs))) read_as ∙ ap (λ o. onto o (declared_of cs)) m.2

pub own_init : ClassLaws → (cs : List ClassFile) → IsResolved cs → (n : ℕ) (s : Signature) (m : Place) → is_init s ≡ true → find_method cs n s ≡ Some m → m.0 ≡ n
own_init laws cs r n s m i h = ((laws.methods.signatures cs).declared s n m (sym ((laws.lookups cs r.acyclic n s).of_init i) ∙ h)).0

special_above : OrderLaws → (cs : List ClassFile) (r : IsResolved cs) (cur n : ℕ) (m : Method) (t : Place) → m.owner ≡ cur → extends cs n t.0 ≡ true → is_own_class (resolved cs) m n ≡ true → (eqb t.0 object_class || extends cs m.owner t.0) ≡ true
special_above order cs r cur n m t own e h =
    let P = resolved cs in
    elim (or_cases (eqb n m.owner) (P.extends m.owner n && not (P.is_interface n)) h) [
      | inl s ↦ or_right (eqb t.0 object_class) (extends cs m.owner t.0) (subst (λ k. extends cs k t.0 ≡ true) (eqb-true n m.owner s) e)
      | inr s ↦ elim (either cs m.owner n (and_parts (P.extends m.owner n) (not (P.is_interface n)) s).0) [
        | inl o ↦ or_left (eqb t.0 object_class) (extends cs m.owner t.0) (eq-eqb t.0 object_class (root order cs r t.0 (subst (λ k. extends cs k t.0 ≡ true) o e)))
        | inr x ↦ or_right (eqb t.0 object_class) (extends cs m.owner t.0) ((order.hierarchy cs r.acyclic).through m.owner n t.0 x e)
      ]
    ]

special_facts : ClassLaws → MethodsHaveCode → ReadMethods → (cs : List ClassFile) (r : IsResolved cs) (cur : ℕ) (m : Method) (n : ℕ) (s : Signature) (a t : Place) (d : IsTaken cs t s) → m.owner ≡ cur → is_method_with (λ k. not (is_abstract k)) cs t ≡ true
    → is_instance cs t ≡ true → (is_init s ≡ true → t.0 ≡ n) → (is_init s ≡ false → Holds (is_own_class (resolved cs) m n) → Holds ((resolved cs).extends m.owner t.0))
    → IsSpecialCall (resolved cs) m n (method_in cs t.0 d.owner d.member)
special_facts laws law read cs r cur m n s a t d own na i at_init above =
    let at = at_place cs t d.owner d.member d.class d.there in
    let abstract = not-true (is_abstract d.member) (sym (map_or_at (λ k. not (is_abstract k)) (method_at cs t) d.member at) ∙ na) in
    record {
      instance = sym (map_or_at (λ k. not (is_static k)) (method_at cs t) d.member at) ∙ i;
      code = code_in_program laws.methods cs t s d (not_abstract_code law cs r t s d abstract);
      init = λ h. let e = ap is_init (sym d.signature) ∙ h in (at_init e, ap (λ (x : Signature). result_declared cs x.descriptor) d.signature ∙ init_void laws read cs r t s d e);
      above = λ h. above (ap is_init (sym d.signature) ∙ h);
    }

pub special_call : ClassLaws → MethodsHaveCode → ReadMethods → (cs : List ClassFile) (r : IsResolved cs) (cur : ℕ) (c : ClassFile) (ofi : Bool) (index : ℕ) (s : Signature) (m : Method) → m.owner ≡ cur → (n : IsNamed cs cur c ofi 183 index s) (t : Place)
    → special cs cur n.named n.place ≡ Some t → is_method_with (λ k. not (is_abstract k)) cs t ≡ true → Fixed cs cur n.named s n.place t → (d : IsTaken cs t s) × IsSpecialCall (resolved cs) m n.named (method_in cs t.0 d.owner d.member)
special_call laws law read cs r cur c ofi index s m own n t h na (itself e) =
    let d0 = taken_found cs n.named s n.place n.found in
    let d : IsTaken cs t s = subst (λ p. IsTaken cs p s) (sym e) d0 in
    let place = at_place cs n.place n.found.owner n.found.member n.found.class n.found.there in
    let i0 : is_instance cs n.place ≡ true = map_or_at (λ k. not (is_static k)) (method_at cs n.place) n.found.member place ∙ n.static in (
      d,
      special_facts laws law read cs r cur m n.named s n.place t d own na (ap (is_instance cs) e ∙ i0)
          (λ h. ap (λ (p : Place). p.0) e ∙ own_init laws cs r n.named s n.place h n.found_as)
          (λ h w. holds ((resolved cs).extends m.owner t.0) (special_above laws.methods.order cs r cur n.named m t own (ap (λ (p : Place). extends cs n.named p.0) e ∙ n.found.above) (is_true (is_own_class (resolved cs) m n.named) w))),
    )
special_call laws law read cs r cur c ofi index s m own n t h na (upward d e u i no_init) =
    let f = (laws.methods.signatures cs).upwards s d t u in
    let k = f.1 in
    let taken : IsTaken cs t s = record { owner = k.owner; member = k.member; class = k.class; there = k.there; signature = k.signature } in
    let above : extends cs cur t.0 ≡ true = (laws.methods.order.superclasses cs r.acyclic).extends cur t.0 ((laws.methods.order.superclasses cs r.acyclic).by cur d t.0 e f.0) in (
      taken,
      special_facts laws law read cs r cur m n.named s n.place t taken own na i
          (λ y. absurd (both_ways (is_init s) no_init y))
          (λ y w. holds ((resolved cs).extends m.owner t.0) (or_right (eqb t.0 object_class) (extends cs m.owner t.0) (ap (λ x. extends cs x t.0) own ∙ above))),
    )
