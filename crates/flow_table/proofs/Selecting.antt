-- What is selected for a method, over the classes below its own.
use Rattle.std.proofs.Common.{◌≡◌, ◌↔◌, ℕ, ◌+◌, ◌<◌, Bool, true, false, not, ◌&&◌, ◌||◌, List, [], map, length, Contains, Option, Some, None, refl, sym, ap, ◌∙◌, subst, arith}
use Rattle.std.specs.Prelude.{slice_get, is_some, IsSomeAnd, if◌then◌else◌}
use Rattle.std.specs.Option.{option_map, option_map_or}
use Rattle.std.specs.List.{filter_map}
use Rattle.std.specs.List.Sorted.{IsStrictlyIncreasing}
use Rattle.std.proofs.lemmas.Bool.{ne_eqb, false≢true}
use Rattle.lists.specs.Lists.{onto}
use Rattle.lists.proofs.Lemmas.{none≢some, onto_some, map_some, some_is, some_in, holds_at}
use Rattle.lists.specs.Members.{map_contains, nil_contains}
use Rattle.lists.specs.Tests.{and_left, and_right, not_true}
use Rattle.class_pool.specs.declared.class.ClassFile.{ClassFile}
use Rattle.class_lookup.specs.Hierarchy.{is_concrete, extends}
use Rattle.class_lookup.specs.Lookup.{Place, method_at}
use Rattle.class_lookup.specs.Selection.{select}
use Rattle.bytecode_model.specs.Types.{OfClass}
use Rattle.bytecode_model.specs.Program.{Program, Method, Body, body_of}
use Rattle.bytecode_model.specs.Steps.{class_of}
use Rattle.bytecode_typing.specs.Lawful.{Lawful, IsThere, IsSelected}
use Rattle.bytecode_typing.specs.Tests.{Holds}
use Rattle.method_flow.specs.Calls.{classes_of, selected_in, selected_for}
use Rattle.program_tables.specs.Laws.{MethodsStandByNumber}
use Rattle.program_tables.specs.Meanings.{HasShape}
use Rattle.program_tables.specs.Numbers.{methods_by_number, method_number, types_of}
use Rattle.program_tables.specs.Resolved.{method_in, resolved_method, resolved_methods, resolved}
use Rattle.program_tables.specs.declared.operand.MethodShape.{MethodShape}
use Rattle.program_laws.proofs.Objects.{class_type, concrete_within}
use Rattle.flow_table.specs.Receivers.{IsReceiver}
use Rattle.flow_table.specs.Targets.{IsVirtual, IsSelectedList}
use Rattle.flow_table.proofs.Listing.{contains_get, filter_map_found, filter_map_in, map_found}

-- ---- methods with code

pub coded_by : (P : Program) (n : ℕ) (k : Method) → slice_get P.methods n ≡ Some k → IsThere k.body → is_some (body_of P n) ≡ true
coded_by P n k at there =
    let b = some_is k.body (λ b. Unit {0}) there in
    ap (λ o. is_some (onto o (λ (x : Method). x.body))) at ∙ ap (λ (o : Option Body). is_some o) b.1

-- ---- classes

-- each class is among the classes
class_in : (cs : List ClassFile) (c : ℕ) → c < length cs → Contains (classes_of (resolved cs)) c
class_in cs c lt = filter_map_in class_of (types_of cs) (OfClass c) c (contains_get (types_of cs) (8 + c) (OfClass c) (class_type cs c lt)) refl

-- ---- what is selected

module _ (cs : List ClassFile) (stand : MethodsStandByNumber) (lawful : Lawful (resolved cs)) (m : ℕ) (p : Place) (at : slice_get (methods_by_number cs) m ≡ Some p) (k : Method) (is : slice_get (resolved_methods cs) m ≡ Some k) (this : k.has_this ≡ true) (other : k.is_init ≡ false) where
  abbrev P : Program
  P = resolved cs

  owner_is : k.owner ≡ p.0
  owner_is =
      let here : resolved_method cs p ≡ Some k = sym (stand cs m ∙ ap (λ o. onto o (resolved_method cs)) at) ∙ is in
      let c = onto_some (slice_get cs p.0) (λ c. option_map (method_in cs p.0 c) (method_at cs p)) k here in
      let x = map_some (method_in cs p.0 c.0) (method_at cs p) k c.2 in
      sym (ap (λ (y : Method). y.owner) x.2)

  select_is : (c : ℕ) → P.select c m ≡ onto (select cs c p) (method_number cs)
  select_is c = ap (λ o. option_map_or (λ (q : Place). onto (select cs c q) (method_number cs)) o None) at

  not_object : k.owner ≡ 0 → ⊥
  not_object e = false≢true (sym other ∙ lawful.object_methods m k is e this)

  extends_is : (c : ℕ) → P.extends c k.owner ≡ extends cs c p.0
  extends_is c = ap (λ (t : Bool). t || extends cs c k.owner) (ne_eqb k.owner 0 not_object) ∙ ap (λ (d : ℕ). extends cs c d) owner_is

  test_is : (c : ℕ) → (P.is_concrete c && P.extends c k.owner) ≡ (is_concrete cs c && extends cs c p.0)
  test_is c = ap (λ (t : Bool). is_concrete cs c && t) (extends_is c)

  selected_is : selected_for P m ≡ filter_map (selected_in P m k.owner) (classes_of P)
  selected_is = ap (λ o. option_map_or (λ (x : Method). filter_map (selected_in P m x.owner) (classes_of P)) o []) is

  module _ (rs : List ℕ) (receivers : (c : ℕ) → Contains rs c ↔ ((c < length cs) × IsReceiver cs p.0 c)) where
    -- a number among them is that of a method that is selected for a receiver
    found : (n : ℕ) → Contains (filter_map (λ q. onto q (method_number cs)) (map (λ c. select cs c p) rs)) n → (c : ℕ) × Contains rs c × (P.select c m ≡ Some n)
    found n h =
        let q = filter_map_found (λ q. onto q (method_number cs)) (map (λ c. select cs c p) rs) n h in
        let c = map_found (λ c. select cs c p) rs q.0 q.1 in
        (c.0, c.1, select_is c.0 ∙ ap (λ (o : Option Place). onto o (method_number cs)) c.2 ∙ q.2)

    to : (n : ℕ) → Contains (filter_map (λ q. onto q (method_number cs)) (map (λ c. select cs c p) rs)) n → Contains (selected_for P m) n
    to n h =
        let f = found n h in
        let r = (receivers f.0).0 f.1 in
        let gives : selected_in P m k.owner f.0 ≡ Some n = ap (λ (t : Bool). if t then P.select f.0 m else None) (test_is f.0 ∙ r.1) ∙ f.2 in
        subst (λ (xs : List ℕ). Contains xs n) (sym selected_is) (filter_map_in (selected_in P m k.owner) (classes_of P) f.0 n (class_in cs f.0 r.0) gives)

    from : (n : ℕ) → Contains (selected_for P m) n → Contains (filter_map (λ q. onto q (method_number cs)) (map (λ c. select cs c p) rs)) n
    from n h =
        let f = filter_map_found (selected_in P m k.owner) (classes_of P) n (subst (λ (xs : List ℕ). Contains xs n) selected_is h) in
        by f.0 (P.is_concrete f.0 && P.extends f.0 k.owner) refl f.2
      where
        by : (c : ℕ) (t : Bool) → (P.is_concrete c && P.extends c k.owner) ≡ t → (if t then P.select c m else None) ≡ Some n → Contains (filter_map (λ q. onto q (method_number cs)) (map (λ c. select cs c p) rs)) n
        by c false e h = absurd (none≢some n h)
        by c true e h =
            let test = sym (test_is c) ∙ e in
            let inside = concrete_within cs c (and_left (is_concrete cs c) (extends cs c p.0) test) in
            let among = (receivers c).1 (inside, test) in
            filter_map_in (λ q. onto q (method_number cs)) (map (λ c. select cs c p) rs) (select cs c p) n (map_contains (λ c. select cs c p) rs c among) (sym (select_is c) ∙ h)

    coded : (n : ℕ) → Contains (filter_map (λ q. onto q (method_number cs)) (map (λ c. select cs c p) rs)) n → is_some (body_of P n) ≡ true
    coded n h =
        let f = found n h in
        let r = (receivers f.0).0 f.1 in
        let concrete : P.is_concrete f.0 ≡ true = and_left (is_concrete cs f.0) (extends cs f.0 p.0) r.1 in
        let below : P.extends f.0 k.owner ≡ true = extends_is f.0 ∙ and_right (is_concrete cs f.0) (extends cs f.0 p.0) r.1 in
        let one = holds_at (P.select f.0 m) n (λ t. IsSomeAnd (slice_get P.methods t) (IsSelected P f.0 k)) f.2 (lawful.selects f.0 m k is this other concrete (subst Holds (sym below) tt)) in
        let j = some_is (slice_get P.methods n) (IsSelected P f.0 k) one in
        coded_by P n j.0 j.1 j.2.code

    pub is_selected_list : (ns ts : List ℕ) → ns ≡ filter_map (λ q. onto q (method_number cs)) (map (λ c. select cs c p) rs) → IsStrictlyIncreasing ts → ((n : ℕ) → Contains ts n ↔ Contains ns n) → IsSelectedList P m (Unit {0}) ts
    is_selected_list ns ts numbers rising same = record {
      rising = rising;
      coded = λ n h. coded n (subst (λ (xs : List ℕ). Contains xs n) numbers ((same n).0 h));
      selected = λ wanted virtual n. (
        λ h. to n (subst (λ (xs : List ℕ). Contains xs n) numbers ((same n).0 h)),
        λ h. (same n).1 (subst (λ (xs : List ℕ). Contains xs n) (sym numbers) (from n h)),
      );
    }

-- ---- none is selected

pub none_selected : (P : Program) (m : ℕ) (Wanted : Type 0) → (Wanted → IsVirtual P m → ⊥) → IsSelectedList P m Wanted []
none_selected P m Wanted never = record {
  rising = λ k lt. absurd (omega arith);
  coded = λ t h. absurd (nil_contains t h);
  selected = λ wanted virtual. absurd (never wanted virtual);
}

-- where it is wanted less often
pub wanted_by : (P : Program) (m : ℕ) (Wanted Fewer : Type 0) (ts : List ℕ) → (Fewer → Wanted) → IsSelectedList P m Wanted ts → IsSelectedList P m Fewer ts
wanted_by P m Wanted Fewer ts to h = record { rising = h.rising; coded = h.coded; selected = λ fewer. h.selected (to fewer) }

-- whether a method of this shape is such a one
pub virtual_by : (P : Program) (m : ℕ) (s : MethodShape) → IsSomeAnd (slice_get P.methods m) (HasShape s) → (s.has_this && not s.is_init) ≡ true → IsVirtual P m
virtual_by P m s shape test =
    let k = some_is (slice_get P.methods m) (HasShape s) shape in
    some_in (slice_get P.methods m) k.0 (λ (k : Method). (k.has_this ≡ true) × (k.is_init ≡ false)) k.1
    (k.2.has_this ∙ and_left s.has_this (not s.is_init) test, k.2.is_init ∙ not_true s.is_init (and_right s.has_this (not s.is_init) test))

pub none_by : (P : Program) (m : ℕ) (s : MethodShape) → IsSomeAnd (slice_get P.methods m) (HasShape s) → (s.has_this && not s.is_init) ≡ false → IsVirtual P m → ⊥
none_by P m s shape test virtual =
    let k = some_is (slice_get P.methods m) (HasShape s) shape in
    let v = holds_at (slice_get P.methods m) k.0 (λ (k : Method). (k.has_this ≡ true) × (k.is_init ≡ false)) k.1 virtual in
    false≢true (sym test ∙ (ap (λ (b : Bool). b && not s.is_init) (sym k.2.has_this ∙ v.0) ∙ ap not (sym k.2.is_init ∙ v.1)))
