-- Names of class files, and the static methods that they declare.
use Rattle.std.proofs.Common.{◌≡◌, ℕ, zero, suc, ◌+◌, ◌-◌, ◌≤◌, Bool, true, false, not, ◌&&◌, ◌||◌, ◌==◌, List, [], ◌∷◌, length, Option, Some, None, refl, sym, ap, ap₂, ◌∙◌, subst, arith}
use Rattle.std.specs.Prelude.{unwrap_or, slice_get, option_map, nat_lt, if◌then◌else◌}
use Rattle.std.specs.Option.{option_map_or}
use Rattle.std.specs.List.{list_any, AllByRecursion}
use Rattle.std.specs.Cmp.Lexicographic as texts
use Rattle.std.proofs.lemmas.Bool.{ltb-false, eq-eqb}
use Rattle.lists.specs.Tests.{and_left, and_right}
use Rattle.lists.specs.Lists.{onto, index_of}
use Rattle.lists.proofs.Lemmas.{index_found, index_there}
use Rattle.class_pool.specs.declared.entry.Entry.{Entry}
use Rattle.class_pool.specs.declared.entry.Entry.TheVariants as entries
use Rattle.class_pool.specs.declared.class.Member.{Member}
use Rattle.class_pool.specs.declared.class.ClassFile.{ClassFile}
use Rattle.class_pool.specs.Spelling.{IsEntryInRange}
use Rattle.class_pool.specs.Grammar.{entry_at, utf8_of, class_name_of, text_at}
use Rattle.class_rules.specs.Grammar.{IsClass}
use Rattle.class_rules.specs.Rules.{IsClassName, AreSame, AreNamedOnce}
use Rattle.class_making.specs.Right.{IsPoolText}
use Rattle.core_classes.specs.Laws.{IsCalled}
use Rattle.class_lookup.specs.Parts.{Signature, same_text, name_of, signature_of, same_signature, is_public, is_static}
use Rattle.class_lookup.specs.Hierarchy.{find_class}
use Rattle.class_lookup.specs.Lookup.{Place, declared_in}
use Rattle.program_tables.specs.Core.{is_boot}
use Rattle.program_tables.specs.Placed.{duplicate_by, duplicate_of}
use Rattle.core_classes.specs.Linkage.{DeclaresStatic}
use Rattle.program_resolution.proofs.FileLemmas.{all_at}

-- ---- names

by_entry : (units : List ℕ) (e : Entry) → IsEntryInRange e → utf8_of (Some e) ≡ Some units → IsPoolText units
by_entry units (entries.Utf8 u) r h = let same : u ≡ units = cc in subst IsPoolText same r
by_entry units e r h = absurd (let f : None ≡ Some units = h in cc)

by_place : (pool : List Entry) (units : List ℕ) (place : ℕ) (o : Option Entry) → AllByRecursion IsEntryInRange pool → slice_get pool place ≡ o → utf8_of o ≡ Some units → IsPoolText units
by_place pool units place None all at h = absurd (let f : None ≡ Some units = h in cc)
by_place pool units place (Some e) all at h = by_entry units e (all_at IsEntryInRange pool place e all at) h

text_fits : (pool : List Entry) (units : List ℕ) (index : ℕ) → AllByRecursion IsEntryInRange pool → utf8_of (entry_at pool index) ≡ Some units → IsPoolText units
text_fits pool units zero all h = absurd (let f : None ≡ Some units = h in cc)
text_fits pool units (suc place) all h = by_place pool units place (slice_get pool place) all refl h

-- a class file has a class's name
pub is_called : (k : ClassFile) → IsClass k → IsCalled (name_of k)
is_called k is =
    let t = is.rules.this_class in
    let same : name_of k ≡ t.2.0 = ap (λ (e : Option Entry). option_map_or (text_at k.pool) (class_name_of e) []) t.1 ∙ ap (λ (o : Option (List ℕ)). unwrap_or o []) t.2.1 in
    subst IsCalled (sym same) (t.2.2, text_fits k.pool t.2.0 t.0 is.pool.in_range t.2.1)

not_empty : (name : List ℕ) → IsClassName name → same_text name [] ≡ false
not_empty [] h = absurd (let f : false ≡ true = h in cc)
not_empty (unit ∷ units) h = refl

-- and so no class file has an empty one
pub none_is_nameless : (ks : List ClassFile) → AllByRecursion IsClass ks → find_class ks [] ≡ None
none_is_nameless [] all = refl
none_is_nameless (k ∷ ks) all =
    ap (λ (b : Bool). let o : Option ℕ = if b then Some 0 else onto (find_class ks []) (λ i. Some (suc i)) in o) (not_empty (name_of k) (is_called k all.0).0)
    ∙ ap (λ (o : Option ℕ). onto o (λ i. Some (suc i))) (none_is_nameless ks all.1)

-- ---- texts

pub same_self : (a : List ℕ) → same_text a a ≡ true
same_self [] = refl
same_self (x ∷ xs) = ap₂ (λ (p q : Bool). p && q) (eq-eqb x x refl) (same_self xs)

same_texts : (a b c : List ℕ) → same_text a c ≡ true → same_text b c ≡ true → a ≡ b
same_texts a b c h i = texts.same_text a c (sym h) ∙ sym (texts.same_text b c (sym i))

-- ---- the first of a name

first_index : {X : Type 0} (t : X → Bool) (xs : List X) (j : ℕ) (x : X) (i : ℕ) → slice_get xs j ≡ Some x → t x ≡ true → index_of t xs ≡ Some i → i ≤ j
first_index t [] j x i at h e = absurd (let f : None ≡ Some x = at in cc)
first_index t (y ∷ xs) zero x i at h e =
    let same : y ≡ x = cc in
    let zero_is : Some 0 ≡ Some i = sym (ap (λ (b : Bool). let o : Option ℕ = if b then Some 0 else onto (index_of t xs) (λ k. Some (suc k)) in o) (ap t same ∙ h)) ∙ e in
    let n : 0 ≡ i = cc in
    omega (arith, n)
first_index t (y ∷ xs) (suc j) x i at h e = by_head (t y) (index_of t xs) refl e (λ k is. first_index t xs j x k at h is)
  where
    by_head : (b : Bool) (o : Option ℕ) → index_of t xs ≡ o → (if b then Some 0 else onto o (λ k. Some (suc k))) ≡ Some i → ((k : ℕ) → index_of t xs ≡ Some k → k ≤ j) → i ≤ suc j
    by_head true o is f later = let n : 0 ≡ i = cc in omega (arith, n)
    by_head false None is f later = absurd (let g : None ≡ Some i = f in cc)
    by_head false (Some k) is f later = let n : suc k ≡ i = cc in let le = later k is in omega (arith, n, le)

not_before : (full : List ClassFile) (c i : ℕ) (k : ClassFile) (b : Bool) → nat_lt i c ≡ b → (if b then Some i else if is_boot k && not (c + 1 == length full) then Some (length full - 1) else None) ≡ None → c ≤ i
not_before full c i k true e h = absurd (let f : Some i ≡ None = h in cc)
not_before full c i k false e h = ltb-false i c e

-- a class whose name isn't taken is the one of its name
pub found_by_name : (full : List ClassFile) (c : ℕ) (k : ClassFile) → slice_get full c ≡ Some k → duplicate_of full c ≡ None → find_class full (name_of k) ≡ Some c
found_by_name full c k at free =
    let t : ClassFile → Bool = λ x. same_text (name_of x) (name_of k) in
    let there = index_there t full c k at (same_self (name_of k)) in
    let i : ℕ = there.0 in
    let le = first_index t full c k i at (same_self (name_of k)) there.1 in
    let by : duplicate_by full c k (Some i) ≡ None =
    sym (ap (λ (o : Option ClassFile). onto o (λ x. duplicate_by full c x (find_class full (name_of x)))) at ∙ ap (duplicate_by full c k) there.1) ∙ free in
    let ge = not_before full c i k (nat_lt i c) refl by in
    let same : i ≡ c = omega (arith, le, ge) in
    there.1 ∙ ap (λ (j : ℕ). Some j) same

-- ---- static methods

found_case : {X : Type 0} (t : X → Bool) (x : X) (xs : List X) (b : Bool) → t x ≡ b → (b || list_any t xs) ≡ true → (list_any t xs ≡ true → (j : ℕ) × (y : X) × (slice_get xs j ≡ Some y) × (t y ≡ true))
    → (j : ℕ) × (y : X) × (slice_get (x ∷ xs) j ≡ Some y) × (t y ≡ true)
found_case t x xs true is g later = (0, x, refl, is)
found_case t x xs false is g later = let r = later g in (suc r.0, r.1, r.2, r.3)

any_found : {X : Type 0} (t : X → Bool) (xs : List X) → list_any t xs ≡ true → (j : ℕ) × (x : X) × (slice_get xs j ≡ Some x) × (t x ≡ true)
any_found t [] h = absurd (let f : false ≡ true = h in cc)
any_found t (x ∷ xs) h = found_case t x xs (t x) refl h (any_found t xs)

distinct_same : (pool : List Entry) (ms : List Member) (i j : ℕ) (a b : Member) → AreNamedOnce pool ms → slice_get ms i ≡ Some a → slice_get ms j ≡ Some b → AreSame pool a b → a ≡ b
distinct_same pool [] i j a b d at bt same = absurd (let f : None ≡ Some a = at in cc)
distinct_same pool (m ∷ ms) zero zero a b d at bt same = let e : m ≡ a = cc in let f : m ≡ b = cc in sym e ∙ f
distinct_same pool (m ∷ ms) zero (suc j) a b d at bt same =
    let e : m ≡ a = cc in
    absurd (all_at (λ n. ¬ AreSame pool m n) ms j b d.0 bt (subst (λ x. AreSame pool x b) (sym e) same))
distinct_same pool (m ∷ ms) (suc i) zero a b d at bt same =
    let e : m ≡ b = cc in
    absurd (all_at (λ n. ¬ AreSame pool m n) ms i a d.0 at (subst (λ x. AreSame pool x a) (sym e) (sym same.0, sym same.1)))
distinct_same pool (m ∷ ms) (suc i) (suc j) a b d at bt same = distinct_same pool ms i j a b d.1 at bt same

pub declares_static : (full : List ClassFile) (c : ℕ) (k : ClassFile) (s : Signature) → slice_get full c ≡ Some k → IsClass k → duplicate_of full c ≡ None
    → list_any (λ m. is_static m && same_signature (signature_of k m) s) k.methods ≡ true → DeclaresStatic full (name_of k) s
declares_static full c k s at is free some =
    let t : Member → Bool = λ m. same_signature (signature_of k m) s in
    let one = any_found (λ m. is_static m && t m) k.methods some in
    let like = and_right (is_static one.1) (t one.1) one.3 in
    let there = index_there t k.methods one.0 one.1 one.2 like in
    let first = index_found t k.methods there.0 there.1 in
    let alike = first.2 in
    let same : AreSame k.pool one.1 first.0 = (
      same_texts (text_at k.pool one.1.name) (text_at k.pool first.0.name) s.name
          (and_left (same_text (text_at k.pool one.1.name) s.name) (same_text (text_at k.pool one.1.descriptor) s.descriptor) like)
          (and_left (same_text (text_at k.pool first.0.name) s.name) (same_text (text_at k.pool first.0.descriptor) s.descriptor) alike),
      same_texts (text_at k.pool one.1.descriptor) (text_at k.pool first.0.descriptor) s.descriptor
          (and_right (same_text (text_at k.pool one.1.name) s.name) (same_text (text_at k.pool one.1.descriptor) s.descriptor) like)
          (and_right (same_text (text_at k.pool first.0.name) s.name) (same_text (text_at k.pool first.0.descriptor) s.descriptor) alike),
    ) in
    let this = distinct_same k.pool k.methods one.0 there.0 one.1 first.0 is.rules.distinct_methods one.2 first.1 same in
    let place : Place = (c, there.0) in
    record {
      right = (is_called k is).0;
      place = place;
      found = found_by_name full c k at free;
      declared = ap (λ (o : Option ClassFile). onto o (λ x. option_map (λ (i : ℕ). (c, i)) (declared_in (λ y. y.methods) s x))) at ∙ ap (option_map (λ (i : ℕ). (c, i))) there.1;
      method = first.0;
      there = ap (λ (o : Option ClassFile). onto o (λ x. slice_get x.methods there.0)) at ∙ first.1;
      static = ap is_static (sym this) ∙ and_left (is_static one.1) (t one.1) one.3;
    }

-- main is static
static_case : (p q r a b : Bool) → ((p && q && r) || a) ≡ true → (a ≡ true → b ≡ true) → ((q && r) || b) ≡ true
static_case true true true a b h later = refl
static_case true true false a b h later = later h
static_case true false r a b h later = later h
static_case false true true a b h later = refl
static_case false true false a b h later = later h
static_case false false r a b h later = later h

pub main_is_static : (k : ClassFile) (s : Signature) (ms : List Member) → list_any (λ m. is_public m && is_static m && same_signature (signature_of k m) s) ms ≡ true
    → list_any (λ m. is_static m && same_signature (signature_of k m) s) ms ≡ true
main_is_static k s [] h = h
main_is_static k s (m ∷ ms) h =
    static_case (is_public m) (is_static m) (same_signature (signature_of k m) s) (list_any (λ x. is_public x && is_static x && same_signature (signature_of k x) s) ms)
    (list_any (λ x. is_static x && same_signature (signature_of k x) s) ms) h (main_is_static k s ms)
