-- The methods of interfaces class by class, and the slots of a class over those of its superclass.
use Rattle.std.proofs.Common.{◌≡◌, ℕ, zero, suc, ◌+◌, ◌<◌, Bool, true, false, List, [], ◌∷◌, ◌++◌, Option, Some, None, map, length, get_or, append-nil, refl, sym, ap, ◌∙◌, arith}
use Rattle.std.specs.Prelude.{slice_get, if◌then◌else◌}
use Rattle.std.specs.Option.{option_map_or, option_to_list}
use Rattle.std.specs.List.{filter, flat_map, range_with_len, enumerate_from}
use Rattle.class_pool.specs.declared.class.ClassFile.{ClassFile}
use Rattle.class_lookup.specs.Hierarchy.{superclass, superclasses, is_interface}
use Rattle.class_lookup.specs.Laws.{AreSuperclasses}
use Rattle.class_lookup.specs.Lookup.{Place}
use Rattle.program_tables.specs.Lists.{with_items}
use Rattle.program_tables.specs.Numbers.{places_of}
use Rattle.image_words.specs.Slots.{are_named_alike, interface_methods, inherited_methods, own_methods, own_slots, slots_along, slots}
use Rattle.image_words.specs.Tables.{above_slots}
use Rattle.image_words.proofs.ListLemmas.{by_number, filter_flat, flat_more}

-- ---- the methods of interfaces

abbrev pub interface_own : List ClassFile → (class : ℕ) → List Place
interface_own cs c = if is_interface cs c then own_methods cs c else []

abbrev listed : ℕ × ClassFile → List Place
listed e = map (λ (i : ℕ). (e.0, i)) (range_with_len 0 (length e.1.methods))

filter_true : (cs : List ClassFile) (c : ℕ) → is_interface cs c ≡ true → (is : List ℕ) → filter (λ (m : Place). is_interface cs m.0) (map (λ (i : ℕ). (c, i)) is) ≡ map (λ (i : ℕ). (c, i)) is
filter_true cs c h [] = refl
filter_true cs c h (i ∷ is) =
    let rest = filter (λ (m : Place). is_interface cs m.0) (map (λ (j : ℕ). (c, j)) is) in
    ap (λ b. if b then (c, i) ∷ rest else rest) h ∙ ap (λ (xs : List Place). (c, i) ∷ xs) (filter_true cs c h is)

filter_false : (cs : List ClassFile) (c : ℕ) → is_interface cs c ≡ false → (is : List ℕ) → filter (λ (m : Place). is_interface cs m.0) (map (λ (i : ℕ). (c, i)) is) ≡ []
filter_false cs c h [] = refl
filter_false cs c h (i ∷ is) =
    let rest = filter (λ (m : Place). is_interface cs m.0) (map (λ (j : ℕ). (c, j)) is) in
    ap (λ b. if b then (c, i) ∷ rest else rest) h ∙ filter_false cs c h is

class_case : (cs : List ClassFile) (c : ℕ) (k : ClassFile) → slice_get cs c ≡ Some k → (b : Bool) → is_interface cs c ≡ b → filter (λ (m : Place). is_interface cs m.0) (listed (c, k)) ≡ (if b then own_methods cs c else [])
class_case cs c k h true e =
    filter_true cs c e (range_with_len 0 (length k.methods)) ∙ sym (ap (λ o. option_map_or (λ (k : ClassFile). map (λ (i : ℕ). (c, i)) (range_with_len 0 (length k.methods))) o []) h)
class_case cs c k h false e = filter_false cs c e (range_with_len 0 (length k.methods))

pub interface_by : (cs : List ClassFile) → flat_map (interface_own cs) (range_with_len 0 (length cs)) ≡ interface_methods cs
unfolding interface_methods
interface_by cs =
    let test : Place → Bool = λ m. is_interface cs m.0 in
    let each = by_number (λ e. filter test (listed e)) (interface_own cs) 0 cs (λ i k h.
    let same : 0 + i ≡ i = omega arith in
    class_case cs (0 + i) k (ap (slice_get cs) same ∙ h) (is_interface cs (0 + i)) refl) in
    sym (filter_flat test listed (enumerate_from 0 cs) ∙ each)

passes_case : {A : Type 0} (t : A → Bool) (x : A) (xs : List A) (i : ℕ) (d : A) (b : Bool) → t x ≡ b → ((j : ℕ) → j < length xs → t (get_or xs j d) ≡ true) → i < length (if b then x ∷ xs else xs) → t (get_or (if b then x ∷ xs else xs) i d) ≡ true
passes_case t x xs zero d true h later lt = h
passes_case t x xs (suc i) d true h later lt = later i (omega (arith, lt))
passes_case t x xs i d false h later lt = later i lt

filter_passes : {A : Type 0} (t : A → Bool) (xs : List A) (i : ℕ) (d : A) → i < length (filter t xs) → t (get_or (filter t xs) i d) ≡ true
filter_passes t [] i d lt = absurd (omega (arith, lt))
filter_passes t (x ∷ xs) i d lt = passes_case t x (filter t xs) i d (t x) refl (λ j l. filter_passes t xs j d l) lt

pub interface_at : (cs : List ClassFile) (i : ℕ) (d : Place) → i < length (interface_methods cs) → is_interface cs (get_or (interface_methods cs) i d).0 ≡ true
unfolding interface_methods
interface_at cs i d lt = filter_passes (λ m. is_interface cs m.0) (places_of (λ k. k.methods) cs) i d lt

-- ---- slots

above_case : (cs : List ClassFile) (o : Option ℕ) → slots_along cs (flat_map (superclasses cs) (option_to_list o)) ≡ option_map_or (slots cs) o []
unfolding slots
above_case cs None = refl
above_case cs (Some d) = ap (slots_along cs) (append-nil (superclasses cs d))

pub slots_step : (cs : List ClassFile) → AreSuperclasses cs → (c : ℕ) → slots cs c ≡ with_items (are_named_alike cs) (above_slots cs c ++ own_slots cs c) (inherited_methods cs c)
unfolding slots
slots_step cs are c =
    ap (slots_along cs) (are.step c)
    ∙ ap (λ xs. with_items (are_named_alike cs) (xs ++ own_slots cs c) (inherited_methods cs c)) (above_case cs (superclass cs c))

-- ---- how many classes there are upwards

pub depth_falls : (cs : List ClassFile) → AreSuperclasses cs → (c d : ℕ) → superclass cs c ≡ Some d → length (superclasses cs c) ≡ suc (length (superclasses cs d))
depth_falls cs are c d h =
    ap length (are.step c) ∙ ap suc (ap (λ o. length (flat_map (superclasses cs) (option_to_list o))) h ∙ ap length (append-nil (superclasses cs d)))

pub depth_ends : (cs : List ClassFile) → AreSuperclasses cs → (c : ℕ) → superclass cs c ≡ None → length (superclasses cs c) ≡ 1
depth_ends cs are c h = ap length (are.step c) ∙ ap (λ o. suc (length (flat_map (superclasses cs) (option_to_list o)))) h

-- ---- one class more

pub interface_more : (cs : List ClassFile) (c : ℕ) → is_interface cs c ≡ true → flat_map (interface_own cs) (range_with_len 0 c) ++ own_methods cs c ≡ flat_map (interface_own cs) (range_with_len 0 (c + 1))
interface_more cs c h =
    ap (λ ys. flat_map (interface_own cs) (range_with_len 0 c) ++ ys) (sym (ap (λ (b : Bool). if b then own_methods cs c else []) h))
    ∙ sym (flat_more (interface_own cs) c)

pub interface_left : (cs : List ClassFile) (c : ℕ) → is_interface cs c ≡ false → flat_map (interface_own cs) (range_with_len 0 c) ≡ flat_map (interface_own cs) (range_with_len 0 (c + 1))
interface_left cs c h =
    sym (append-nil (flat_map (interface_own cs) (range_with_len 0 c)))
    ∙ (ap (λ ys. flat_map (interface_own cs) (range_with_len 0 c) ++ ys) (sym (ap (λ (b : Bool). if b then own_methods cs c else []) h))
    ∙ sym (flat_more (interface_own cs) c))

-- ---- from one class to the next

abbrev pub depth_from : List ClassFile → Option ℕ → ℕ
depth_from cs o = option_map_or (λ s. length (superclasses cs s)) o 0

pub depth_next : (cs : List ClassFile) → AreSuperclasses cs → (c : ℕ) → length (superclasses cs c) ≡ suc (depth_from cs (superclass cs c))
depth_next cs are c = by_case (superclass cs c) refl
  where
    by_case : (o : Option ℕ) → superclass cs c ≡ o → length (superclasses cs c) ≡ suc (depth_from cs o)
    by_case None h = depth_ends cs are c h
    by_case (Some d) h = depth_falls cs are c d h
