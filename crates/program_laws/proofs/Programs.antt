-- Resolved programs are lawful: their hierarchy, their fields and what is selected.
use Rattle.std.proofs.Common.{◌≡◌, ℕ, zero, suc, ◌-◌, Bool, true, false, not, ◌||◌, eqb, List, [], ◌∷◌, inl, inr, Option, Some, None, length, refl, sym, ap, ◌∙◌, subst}
use Rattle.std.specs.Prelude.{slice_get, is_some, unwrap_or}
use Rattle.std.specs.Option.{option_map, option_map_or, IsSomeAnd}
use Rattle.std.specs.List.{list_all}
use Rattle.std.proofs.lemmas.Bool.{false≢true, or_right, and_parts}
use Rattle.bytecode_typing.proofs.Relations.{is_true}
use Rattle.class_pool.specs.declared.class.Member.{Member}
use Rattle.class_pool.specs.declared.class.ClassFile.{ClassFile}
use Rattle.class_pool.specs.declared.class.Code.{Code}
use Rattle.class_pool.specs.Found.{code_of}
use Rattle.class_rules.specs.Found.{MethodsHaveCode}
use Rattle.bytecode_model.specs.Lists.{onto}
use Rattle.bytecode_model.specs.Program.{Method, object_class}
use Rattle.bytecode_typing.specs.Tests.{Holds}
use Rattle.bytecode_typing.specs.Lawful.{IsThere, IsSelected}
use Rattle.lists.proofs.Lemmas.{none≢some, some_same}
use Rattle.class_lookup.specs.Parts.{Signature, signature_of, has_code, is_static, is_init}
use Rattle.class_lookup.specs.Hierarchy.{is_concrete, extends}
use Rattle.class_lookup.specs.Lookup.{Place, method_at}
use Rattle.class_lookup.specs.Selection.{signature_at, is_method_with, is_instance, select}
use Rattle.program_tables.specs.Core.{boot_method, boot_descriptor}
use Rattle.program_tables.specs.Kinds.{parameters_declared, result_declared}
use Rattle.program_tables.specs.Numbers.{method_number}
use Rattle.descriptors.specs.Parsing as descriptors
use Rattle.program_tables.specs.Resolved.{body_in, method_in, resolved_methods, boot_of, resolved}
use Rattle.program_tables.specs.Resolving.{IsResolved}
use Rattle.program_laws.specs.Laws.{IsSelectedMethod}
use Rattle.program_laws.proofs.ClassLaws.{MethodLaws, method_is, is_method}
use Rattle.program_laws.proofs.Facts.{map_or_some, map_or_at}
use Rattle.program_laws.proofs.Hierarchies.{either}
use Rattle.program_laws.proofs.Selections.{selection, to_object}
use Rattle.program_laws.proofs.Numbering.{IsMethodOf, at_place, IsNumbered, numbered, number_of}

-- ---- tests

pub holds : (b : Bool) → b ≡ true → Holds b
holds true h = tt
holds false h = false≢true h

pub some_and : {A : Type 0} (o : Option A) (P : A → Type 0) (x : A) → o ≡ Some x → P x → IsSomeAnd o P
some_and o P x h p = subst (λ z. IsSomeAnd z P) (sym h) p

-- ---- a method of the program

pub signature_of_method : MethodLaws → (cs : List ClassFile) (p : Place) (k : Method) (m : IsMethodOf cs p k) → signature_at cs p ≡ Some (signature_of m.owner m.member)
signature_of_method laws cs p k m = is_method laws cs p (signature_of m.owner m.member) (record { owner = m.owner; class = m.class; member = m.member; there = m.there; signature = refl })

pub instance_is : (cs : List ClassFile) (p : Place) (k : Method) → IsMethodOf cs p k → k.has_this ≡ true → is_instance cs p ≡ true
instance_is cs p k m h =
    map_or_at (λ x. not (is_static x)) (method_at cs p) m.member (at_place cs p m.owner m.member m.class m.there) ∙ (ap (λ x. x.has_this) (sym m.is) ∙ h)

-- what a place that is a method with code has
pub record IsCoded (cs : List ClassFile) (p : Place) (s : Signature) : Type 0 where
  pub owner : ClassFile
  pub member : Member
  pub class : slice_get cs p.0 ≡ Some owner
  pub there : slice_get owner.methods p.1 ≡ Some member
  pub signature : signature_of owner member ≡ s
  pub code : Code
  pub has : code_of member ≡ Some code

code_case : (o : Option Code) → is_some o ≡ true → (k : Code) × (o ≡ Some k)
code_case None h = absurd (false≢true h)
code_case (Some k) h = (k, refl)

pub coded : MethodLaws → (cs : List ClassFile) (p : Place) (s : Signature) → signature_at cs p ≡ Some s → is_method_with has_code cs p ≡ true → IsCoded cs p s
coded laws cs p s sp h =
    let d = method_is laws cs p s sp in
    let x = map_or_some has_code (method_at cs p) h in
    let same = some_same x.0 d.member (sym x.1 ∙ at_place cs p d.owner d.member d.class d.there) in
    let k = code_case (code_of d.member) (ap has_code (sym same) ∙ x.2) in
    record { owner = d.owner; member = d.member; class = d.class; there = d.there; signature = d.signature; code = k.0; has = k.1 }

pub body_there : (cs : List ClassFile) (p : Place) (s : Signature) (d : IsCoded cs p s) → IsThere (method_in cs p.0 d.owner d.member).body
body_there cs p s d = some_and (option_map (body_in cs d.owner) (code_of d.member)) (λ x. Unit {0}) (body_in cs d.owner d.code) (ap (option_map (body_in cs d.owner)) d.has) tt

instance_at : (cs : List ClassFile) (p : Place) (c : ClassFile) (m : Member) → slice_get cs p.0 ≡ Some c → slice_get c.methods p.1 ≡ Some m → is_instance cs p ≡ true → not (is_static m) ≡ true
instance_at cs p c m h e i = sym (map_or_at (λ x. not (is_static x)) (method_at cs p) m (at_place cs p c m h e)) ∙ i

pub list_at : {A : Type 0} (test : A → Bool) (xs : List A) (i : ℕ) (x : A) → list_all test xs ≡ true → slice_get xs i ≡ Some x → test x ≡ true
list_at test [] i x h e = absurd (none≢some x e)
list_at test (y ∷ xs) zero x h e = ap test (sym (some_same y x e)) ∙ (and_parts (test y) (list_all test xs) h).0
list_at test (y ∷ xs) (suc i) x h e = list_at test xs i x (and_parts (test y) (list_all test xs) h).1 e

-- the descriptor of boot's method has no result
boot_result : (cs : List ClassFile) → result_declared cs boot_descriptor ≡ None
unfolding descriptors.method_in descriptors.types_in descriptors.result_in
boot_result cs = refl

-- ---- selection

selected_in : MethodLaws → (cs : List ClassFile) (r : IsResolved cs) (receiver n : ℕ) (k : Method) (p : IsNumbered cs n k) (t : Place) (s : Signature)
    → s ≡ signature_of p.method.owner p.method.member → k.is_init ≡ false → select cs receiver p.place ≡ Some t → IsSelectedMethod cs receiver s t
    → IsSomeAnd ((resolved cs).select receiver n) (λ t. IsSomeAnd (slice_get (resolved_methods cs) t) (IsSelected (resolved cs) receiver k))
selected_in laws cs r receiver n k p t s same init h d =
    let c = coded laws cs t s d.signature d.code in
    let m = number_of cs t c.owner c.member c.class c.there in
    let j = method_in cs t.0 c.owner c.member in
    let sig = c.signature ∙ same in
    let own = sym p.method.is in
    let at : (resolved cs).select receiver n ≡ Some m.0 =
    ap (λ o. option_map_or (λ q. onto (select cs receiver q) (method_number cs)) o None) p.number
    ∙ (ap (λ o. onto o (method_number cs)) h ∙ m.1) in
    let good : IsSelected (resolved cs) receiver k j = record {
      parameters = ap (λ x. parameters_declared cs x.descriptor) sig ∙ ap (λ (x : Method). x.parameters) own;
      result = ap (λ x. result_declared cs x.descriptor) sig ∙ ap (λ (x : Method). x.result) own;
      instance = instance_at cs t c.owner c.member c.class c.there d.instance;
      other = ap is_init sig ∙ (ap (λ (x : Method). x.is_init) own ∙ init);
      code = body_there cs t s c;
      above = holds (eqb t.0 object_class || extends cs receiver t.0) (or_right (eqb t.0 object_class) (extends cs receiver t.0) d.above);
    } in
    some_and ((resolved cs).select receiver n) (λ t. IsSomeAnd (slice_get (resolved_methods cs) t) (IsSelected (resolved cs) receiver k)) m.0 at
    (some_and (slice_get (resolved_methods cs) m.0) (IsSelected (resolved cs) receiver k) j m.2 good)

pub selects : MethodLaws → MethodsHaveCode → (cs : List ClassFile) (r : IsResolved cs) (receiver n : ℕ) (k : Method) → slice_get (resolved_methods cs) n ≡ Some k → k.has_this ≡ true → k.is_init ≡ false → is_concrete cs receiver ≡ true
    → Holds ((resolved cs).extends receiver k.owner) → IsSomeAnd ((resolved cs).select receiver n) (λ t. IsSomeAnd (slice_get (resolved_methods cs) t) (IsSelected (resolved cs) receiver k))
selects laws law cs r receiver n k h this init concrete e =
    let p = numbered cs n k h in
    let s = signature_of p.method.owner p.method.member in
    let owner : k.owner ≡ p.place.0 = ap (λ (x : Method). x.owner) p.method.is in
    let above : extends cs receiver p.place.0 ≡ true = elim (either cs receiver k.owner (is_true (eqb k.owner object_class || extends cs receiver k.owner) e)) [
      | inl o ↦
          let f = map_or_some _ (slice_get cs receiver) concrete in
          ap (extends cs receiver) (sym owner ∙ o) ∙ (laws.order.superclasses cs r.acyclic).extends receiver object_class (to_object laws.order cs r receiver f.0 f.1)
      | inr x ↦ ap (extends cs receiver) (sym owner) ∙ x
    ] in
    let t = selection laws law cs r receiver p.place s (signature_of_method laws cs p.place k p.method) (instance_is cs p.place k p.method this) concrete above in
    selected_in laws cs r receiver n k p t.0 s refl init t.1 t.2

-- ---- Object and boot

pub object_methods : (cs : List ClassFile) (r : IsResolved cs) (n : ℕ) (k : Method) → slice_get (resolved_methods cs) n ≡ Some k → k.owner ≡ object_class → k.has_this ≡ true → k.is_init ≡ true
object_methods cs r n k h o this =
    let p = numbered cs n k h in
    let owner : p.place.0 ≡ object_class = ap (λ (x : Method). x.owner) (sym p.method.is) ∙ o in
    let all = r.core.object_methods p.method.owner (ap (slice_get cs) (sym owner) ∙ p.method.class) in
    ap (λ (x : Method). x.is_init) p.method.is ∙ list_at (λ m. is_init (signature_of p.method.owner m)) p.method.owner.methods p.place.1 p.method.member all p.method.there

pub boot : MethodLaws → (cs : List ClassFile) → IsResolved cs → IsSomeAnd (slice_get (resolved_methods cs) (boot_of cs)) (λ k. (k.has_this ≡ false) × (k.result ≡ None) × IsThere k.body)
boot laws cs r =
    let place : Place = (length cs - 1, 0) in
    let last = r.core.last in
    let flags = and_parts (is_static last.0) (has_code last.0) last.2 in
    let s : Signature = record { name = boot_method; descriptor = boot_descriptor } in
    let c = coded laws cs place s r.core.descriptor (map_or_at has_code (method_at cs place) last.0 last.1 ∙ flags.1) in
    let member = some_same c.member last.0 (sym (at_place cs place c.owner c.member c.class c.there) ∙ last.1) in
    let n = number_of cs place c.owner c.member c.class c.there in
    let at : boot_of cs ≡ n.0 = ap (λ o. unwrap_or o 0) n.1 in
    some_and (slice_get (resolved_methods cs) (boot_of cs)) (λ k. (k.has_this ≡ false) × (k.result ≡ None) × IsThere k.body) (method_in cs place.0 c.owner c.member) (ap (slice_get (resolved_methods cs)) at ∙ n.2) (
      ap (λ x. not (is_static x)) member ∙ ap not flags.0,
      ap (λ x. result_declared cs x.descriptor) c.signature ∙ boot_result cs,
      body_there cs place s c,
    )
