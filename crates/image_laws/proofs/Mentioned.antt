-- The types that class entries name have numbers, where an instruction names them.
use Rattle.std.proofs.Common.{◌≡◌, ℕ, zero, suc, ◌<◌, Bool, true, false, ◌||◌, eqb, List, [], ◌∷◌, ◌++◌, inl, inr, Some, None, map, length, refl, sym, ap, ◌∙◌, subst, arith}
use Rattle.std.specs.Prelude.{slice_get, is_some, if◌then◌else◌}
use Rattle.std.specs.List.{flat_map, range_with_len}
use Rattle.std.proofs.lemmas.Bool.{false≢true, both_ways, or_cases, or_left, eqb-true, cond-true, cond-false, cases_Bool}
use Rattle.std.proofs.lemmas.Grind.{flat_map-append}
use Rattle.program_laws.proofs.Entries.{kind_of_class}
use Rattle.program_laws.proofs.Rows.{same_self}
use Rattle.class_pool.specs.declared.class.ClassFile.{ClassFile}
use Rattle.bytecode_model.specs.Types.{Kind, OfClass, OfNumbers, OfReferences, same_kind}
use Rattle.bytecode_model.specs.Program.{type_number}
use Rattle.lists.proofs.Lemmas.{none≢some, some_same}
use Rattle.class_lookup.specs.Hierarchy.{is_concrete}
use Rattle.program_tables.specs.declared.refusal.Why.TheVariants.{WrongKind}
use Rattle.program_tables.specs.Lists.{distinct}
use Rattle.program_tables.specs.Instructions.{Placed, Class, is_class_use, instructions_of, named_in}
use Rattle.program_tables.specs.Kinds.{kind_of_entry}
use Rattle.program_tables.specs.Numbers.{reference_arrays, used_by, class_kind, arrays_mentioned_by, arrays_mentioned_in, types_of}
use Rattle.program_tables.specs.Operands.{class_named}
use Rattle.program_tables.specs.Resolved.{resolved}
use Rattle.program_tables.specs.Unresolved.{unless, may_be_made, why_class, why_class_use}
use Rattle.program_tables.specs.Resolving.{IsResolved}
use Rattle.program_laws.proofs.ClassLaws.{ClassLaws}
use Rattle.program_laws.proofs.Facts.{map_or_some}
use Rattle.program_laws.proofs.Selections.{unless_none}
use Rattle.program_laws.proofs.Calls.{first_none}
use Rattle.image_words.specs.Pools.{instructions_in}
use Rattle.image_laws.proofs.Components.{has_kind, kinds_left, kinds_right, kinds_distinct, kinds_range, any_index, IsOver, over_entry}

-- ---- lists of lists

flat_flat : {A B C : Type 0} (f : A → List B) (g : B → List C) (xs : List A) → flat_map g (flat_map f xs) ≡ flat_map (λ x. flat_map g (f x)) xs
flat_flat f g [] = refl
flat_flat f g (x ∷ xs) = flat_map-append g (f x) (flat_map f xs) ∙ ap (λ zs. flat_map g (f x) ++ zs) (flat_flat f g xs)

kinds_flat : {A : Type 0} (f : A → List Kind) (xs : List A) (i : ℕ) (x : A) (k : Kind) → slice_get xs i ≡ Some x → has_kind (f x) k ≡ true → has_kind (flat_map f xs) k ≡ true
kinds_flat f [] i x k h e = absurd (none≢some x h)
kinds_flat f (y ∷ xs) zero x k h e = kinds_left (f y) (flat_map f xs) k (ap (λ z. has_kind (f z) k) (some_same y x h) ∙ e)
kinds_flat f (y ∷ xs) (suc i) x k h e = kinds_right (f y) (flat_map f xs) k (kinds_flat f xs i x k h e)

-- ---- a class that is named is no array

is_array : Kind → Bool
is_array (OfReferences k) = true
is_array (OfClass c) = false
is_array (OfNumbers a) = false

made_no_array : ClassLaws → (cs : List ClassFile) → IsResolved cs → (cur : ℕ) (c : ClassFile) (index : ℕ) (l : Kind) → why_class_use cs cur c 187 index ≡ None → kind_of_entry cs c.pool index ≡ Some (OfReferences l) → ⊥
unfolding is_array
made_no_array laws cs r cur c index l h g =
    let w = first_none (why_class cs cur c index) (unless (may_be_made cs c index) WrongKind) h in
    let d = map_or_some (is_concrete cs) (class_named cs c index) (unless_none (may_be_made cs c index) WrongKind w.1) in
    let same = some_same (OfClass d.0) (OfReferences l) (sym (kind_of_class laws cs r c index d.0 d.1) ∙ g) in
    false≢true (ap is_array same)

-- ---- types by number

abbrev numbers : List Kind
numbers = map OfNumbers (range_with_len 4 8)

abbrev classes : List ClassFile → List Kind
classes cs = map OfClass (range_with_len 0 (length cs))

abbrev arrays : List ClassFile → List Kind
arrays cs = distinct same_kind (flat_map (arrays_mentioned_in cs) cs)

class_has : (cs : List ClassFile) (d : ℕ) → d < length cs → has_kind (types_of cs) (OfClass d) ≡ true
unfolding types_of
class_has cs d lt = kinds_right numbers (classes cs ++ arrays cs) (OfClass d) (kinds_left (classes cs) (arrays cs) (OfClass d) (kinds_range OfClass 0 (length cs) d (omega arith) (omega (arith, lt))))

number_has : (cs : List ClassFile) (a : ℕ) → IsOver cs (OfNumbers a) → has_kind (types_of cs) (OfNumbers a) ≡ true
unfolding types_of
number_has cs a o = let low = o.0 in let high = o.1 in kinds_left numbers (classes cs ++ arrays cs) (OfNumbers a) (kinds_range OfNumbers 4 8 a low (omega (arith, high)))

last_array : (k : Kind) → has_kind (reference_arrays (OfReferences k)) (OfReferences k) ≡ true
last_array k = kinds_right (reference_arrays k) (OfReferences k ∷ []) (OfReferences k) (or_left (same_kind k k) false (same_self k))

-- the array that an instruction other than new uses is mentioned by it
array_used : (op : ℕ) (l : Kind) → is_class_use op ≡ true → (op ≡ 187 → ⊥) → has_kind (used_by op (Some (OfReferences l))) (OfReferences l) ≡ true
array_used op l h n =
    let k = OfReferences l in
    let here = reference_arrays k in
    let last = if eqb op 193 then here else [] in
    let cast = if eqb op 192 then here else last in
    let has : List Kind → Bool = λ ks. has_kind ks k in
    let own = last_array l in
    elim (cases_Bool (eqb op 189)) [
      | inl e ↦ ap has (cond-true (eqb op 189) (reference_arrays (OfReferences k)) cast e) ∙ kinds_left here (OfReferences k ∷ []) k own
      | inr e ↦ ap has (cond-false (eqb op 189) (reference_arrays (OfReferences k)) cast e) ∙ (elim (cases_Bool (eqb op 192)) [
        | inl f ↦ ap has (cond-true (eqb op 192) here last f) ∙ own
        | inr f ↦ ap has (cond-false (eqb op 192) here last f) ∙ (elim (cases_Bool (eqb op 193)) [
          | inl g ↦ ap has (cond-true (eqb op 193) here [] g) ∙ own
          | inr g ↦ absurd (none_left op h n e f g)
        ])
      ])
    ]
  where
    none_left : (op : ℕ) → is_class_use op ≡ true → (op ≡ 187 → ⊥) → eqb op 189 ≡ false → eqb op 192 ≡ false → eqb op 193 ≡ false → ⊥
    none_left op h n e f g =
        let a : (eqb op 187 || eqb op 189 || eqb op 192) ≡ true = elim (or_cases (eqb op 187 || eqb op 189 || eqb op 192) (eqb op 193) h) [ inl x ↦ x | inr x ↦ absurd (both_ways (eqb op 193) g x) ] in
        let b : (eqb op 187 || eqb op 189) ≡ true = elim (or_cases (eqb op 187 || eqb op 189) (eqb op 192) a) [ inl x ↦ x | inr x ↦ absurd (both_ways (eqb op 192) f x) ] in
        elim (or_cases (eqb op 187) (eqb op 189) b) [ inl x ↦ n (eqb-true op 187 x) | inr x ↦ both_ways (eqb op 189) e x ]

array_has : (cs : List ClassFile) (cn : ℕ) (c : ClassFile) (n : ℕ) (q : Placed) (k : Kind) → slice_get cs cn ≡ Some c → slice_get (instructions_in c) n ≡ Some q → has_kind (arrays_mentioned_by cs c q) k ≡ true → has_kind (types_of cs) k ≡ true
unfolding types_of
array_has cs cn c n q k hc hn h =
    let one = kinds_flat (arrays_mentioned_by cs c) (instructions_in c) n q k hn h in
    let two : has_kind (arrays_mentioned_in cs c) k ≡ true = ap (λ ks. has_kind ks k) (sym (flat_flat instructions_of (arrays_mentioned_by cs c) c.methods)) ∙ one in
    let three = kinds_distinct (flat_map (arrays_mentioned_in cs) cs) k (kinds_flat (arrays_mentioned_in cs) cs cn c k hc two) in
    kinds_right numbers (classes cs ++ arrays cs) k (kinds_right (classes cs) (arrays cs) k three)

there_case : (cs : List ClassFile) (k : Kind) → IsOver cs k → ((l : Kind) → k ≡ OfReferences l → has_kind (types_of cs) k ≡ true) → has_kind (types_of cs) k ≡ true
there_case cs (OfClass d) o h = class_has cs d o
there_case cs (OfNumbers a) o h = number_has cs a o
there_case cs (OfReferences l) o h = h l refl

pub kind_there : ClassLaws → (cs : List ClassFile) → IsResolved cs → (cn : ℕ) (c : ClassFile) (n : ℕ) (q : Placed) (index : ℕ) (k : Kind) → slice_get cs cn ≡ Some c → slice_get (instructions_in c) n ≡ Some q → is_class_use q.instr.op ≡ true
    → named_in c q.instr ≡ Some (Class index) → kind_of_entry cs c.pool index ≡ Some k → why_class_use cs cn c q.instr.op index ≡ None → is_some (type_number (resolved cs) k) ≡ true
kind_there laws cs r cn c n q index k hc hn uses named hk why =
    any_index (same_kind k) (types_of cs) (there_case cs k (over_entry cs c.pool index k hk) (λ l e.
    let at : kind_of_entry cs c.pool index ≡ Some (OfReferences l) = hk ∙ ap Some e in
    let here : arrays_mentioned_by cs c q ≡ used_by q.instr.op (Some (OfReferences l)) = ap (λ o. used_by q.instr.op (class_kind cs c o)) named ∙ ap (used_by q.instr.op) at in
    let no_new : q.instr.op ≡ 187 → ⊥ = λ x. made_no_array laws cs r cn c index l (subst (λ op. why_class_use cs cn c op index ≡ None) x why) at in
    subst (λ x. has_kind (types_of cs) x ≡ true) (sym e)
    (array_has cs cn c n q (OfReferences l) hc hn (ap (λ ks. has_kind ks (OfReferences l)) here ∙ array_used q.instr.op l uses no_new))))
