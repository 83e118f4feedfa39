-- What is selected for the slots of a class, by what is selected for those of its superclass.
use Rattle.std.proofs.Common.{◌≡◌, ℕ, zero, suc, ◌+◌, ◌<◌, ◌≤◌, Bool, true, false, ◌⊎◌, inl, inr, List, [], ◌∷◌, ◌++◌, Option, Some, None, length, map, get_or, append_assoc, refl, sym, ap, ap₂, ◌∙◌, subst, arith, take, take_all, set, length-set, eqb}
use Rattle.std.specs.Prelude.{Result, IfOk, slice_get, if◌then◌else◌}
use Rattle.std.specs.Option.{option_map_or}
use Rattle.std.specs.List.{list_any, filter, range_with_len}
use Rattle.std.proofs.lemmas.Bool.{false≢true, or_cases, cases_eq, eqb-true}
use Rattle.std.proofs.lemmas.List.{get_or-set_same, get_or-set_other}
use Rattle.std.proofs.lemmas.List.Folds.{list_any_more}
use Rattle.std.proofs.lemmas.Option.{slice_get-get_or, slice_get_within}
use Rattle.class_pool.specs.declared.class.ClassFile.{ClassFile}
use Rattle.lists.proofs.Lemmas.{none≢some, some_same}
use Rattle.lists.proofs.Among.{among_at}
use Rattle.class_lookup.specs.Hierarchy.{superclass, is_interface, is_among, extends}
use Rattle.image_words.specs.Order.{IsSuperclassFirst}
use Rattle.class_lookup.specs.Laws.{AreSuperclasses}
use Rattle.class_lookup.specs.Lookup.{Place}
use Rattle.program_tables.specs.Lists.{with_items}
use Rattle.program_tables.specs.Numbers.{places_of}
use Rattle.image_words.specs.Slots.{are_named_alike, interface_methods, inherited_methods, own_methods, has_slot, own_slots, slots}
use Rattle.image_words.specs.Tables.{above_slots}
use Rattle.image_words.specs.Regions.{code_place, selected_place, table_image}
use Rattle.image_facts.specs.Places.{Places}
use Rattle.image_words.proofs.TableLemmas.{slots_step}
use Rattle.image_builder.proofs.ListLemmas.{last_get}
use Rattle.class_selection.specs.declared.selected.Selected.{Selected}
use Rattle.class_selection.specs.Selecting.{IsSelected, IsSelectedAbove}
use Rattle.class_selection.proofs.Lemmas.{by_superclass}
use Rattle.image_layout.specs.Rows.{AreSelected, AreSelectedAbove, AreRows, AreAllRows, table_methods}

pub got : {A : Type 0} (xs : List A) (i : ℕ) (x : A) → i < length xs → x ≡ get_or xs i x → slice_get xs i ≡ Some x
got xs i x lt e = slice_get-get_or xs i x lt ∙ ap Some (sym e)

-- ---- one method more

abbrev pub AreSoFar : List ClassFile → ℕ → List Place → List Selected → Type 0
AreSoFar cs c methods row = (j : ℕ) (a : Place) (s : Selected) → slice_get methods j ≡ Some a → slice_get row j ≡ Some s → IsSelected cs c a s

pub so_far_more : (cs : List ClassFile) (c : ℕ) (methods : List Place) (old new : List Selected) (x : Place) (y : Selected) → AreSoFar cs c methods old → slice_get methods (length old) ≡ Some x → IsSelected cs c x y → new ≡ old ++ y ∷ []
    → AreSoFar cs c methods new
so_far_more cs c methods old new x y before here is e = λ j a s h t.
    elim (last_get old y s j (ap (λ (ys : List Selected). slice_get ys j) (sym e) ∙ t)) [
      | inl l ↦ before j a s h l
      | inr r ↦
          let same : x ≡ a = some_same x a (sym here ∙ (ap (slice_get methods) (sym r.0) ∙ h)) in
          subst (λ (k : Selected). IsSelected cs c a k) r.1 (subst (λ (p : Place). IsSelected cs c p y) same is)
    ]

-- ---- methods of the class itself or of interfaces

abbrev Every : (Place → Type 0) → List Place → Type 0
Every P [] = Unit {0}
Every P (x ∷ xs) = P x × Every P xs

every_at : (P : Place → Type 0) (xs : List Place) (i : ℕ) (a : Place) → Every P xs → slice_get xs i ≡ Some a → P a
every_at P [] i a e h = absurd (none≢some a h)
every_at P (x ∷ xs) zero a e h = subst P (some_same x a h) e.0
every_at P (x ∷ xs) (suc i) a e h = every_at P xs i a e.1 h

every_more : (P : Place → Type 0) (xs : List Place) (y : Place) → Every P xs → P y → Every P (xs ++ y ∷ [])
every_more P [] y e p = (p, tt)
every_more P (x ∷ xs) y e p = (e.0, every_more P xs y e.1 p)

every_if : (P : Place → Type 0) (b : Bool) (x : Place) (xs : List Place) → (b ≡ true → P x) → Every P xs → Every P (if b then x ∷ xs else xs)
every_if P true x xs p e = (p refl, e)
every_if P false x xs p e = e

every_passing : (P : Place → Type 0) (t : Place → Bool) (xs : List Place) → ((x : Place) → t x ≡ true → P x) → Every P (filter t xs)
every_passing P t [] p = tt
every_passing P t (x ∷ xs) p = every_if P (t x) x (filter t xs) (p x) (every_passing P t xs p)

every_filtered : (P : Place → Type 0) (t : Place → Bool) (xs : List Place) → Every P xs → Every P (filter t xs)
every_filtered P t [] e = tt
every_filtered P t (x ∷ xs) e = every_if P (t x) x (filter t xs) (λ h. e.0) (every_filtered P t xs e.1)

every_item : (P : Place → Type 0) (b : Bool) (before xs : List Place) (y : Place) → Every P xs → P y → (zs : List Place) × ((if b then before ++ xs else (before ++ xs) ++ y ∷ []) ≡ before ++ zs) × Every P zs
every_item P true before xs y e p = (xs, refl, e)
every_item P false before xs y e p = (xs ++ y ∷ [], append_assoc before xs (y ∷ []), every_more P xs y e p)

every_items : (P : Place → Type 0) (same : Place → Place → Bool) (before xs ys : List Place) → Every P xs → Every P ys → (zs : List Place) × (with_items same (before ++ xs) ys ≡ before ++ zs) × Every P zs
every_items P same before xs [] e f = (xs, refl, e)
every_items P same before xs (y ∷ ys) e f =
    let one = every_item P (list_any (same y) (before ++ xs)) before xs y e f.0 in
    let more = every_items P same before one.0 ys one.2 f.1 in
    (more.0, ap (λ (zs : List Place). with_items same zs ys) one.1 ∙ more.1, more.2)

abbrev IsOwn : List ClassFile → ℕ → Place → Type 0
IsOwn cs c a = is_interface cs a.0 ≡ false → a.0 ≡ c

every_own : (cs : List ClassFile) (c : ℕ) (is : List ℕ) → Every (IsOwn cs c) (map (λ (i : ℕ). (c, i)) is)
every_own cs c [] = tt
every_own cs c (i ∷ is) = (λ h. refl, every_own cs c is)

own_case : (cs : List ClassFile) (c : ℕ) (o : Option ClassFile) → Every (IsOwn cs c) (option_map_or (λ k. map (λ i. (c, i)) (range_with_len 0 (length k.methods))) o [])
own_case cs c None = tt
own_case cs c (Some k) = every_own cs c (range_with_len 0 (length k.methods))

inherited_own : (cs : List ClassFile) (c : ℕ) → Every (IsOwn cs c) (inherited_methods cs c)
unfolding interface_methods
inherited_own cs c =
    every_filtered (IsOwn cs c) (λ m. extends cs c m.0) (interface_methods cs)
    (every_passing (IsOwn cs c) (λ m. is_interface cs m.0) (places_of (λ k. k.methods) cs) (λ x h f. absurd (false≢true (sym f ∙ h))))

slots_behind : (cs : List ClassFile) → AreSuperclasses cs → (c : ℕ) → (zs : List Place) × (slots cs c ≡ above_slots cs c ++ zs) × Every (IsOwn cs c) zs
slots_behind cs are c =
    let own = every_filtered (IsOwn cs c) (has_slot cs) (own_methods cs c) (own_case cs c (slice_get cs c)) in
    let all = every_items (IsOwn cs c) (are_named_alike cs) (above_slots cs c) (own_slots cs c) (inherited_methods cs c) own (inherited_own cs c) in
    (all.0, slots_step cs are c ∙ all.1, all.2)

-- ---- the slots of the superclass come first

either : (xs zs : List Place) (i : ℕ) (a : Place) → slice_get (xs ++ zs) i ≡ Some a → (slice_get xs i ≡ Some a) ⊎ ((length xs ≤ i) × ((j : ℕ) × (slice_get zs j ≡ Some a)))
either [] zs i a h = inr (omega arith, (i, h))
either (x ∷ xs) zs zero a h = inl h
either (x ∷ xs) zs (suc i) a h = elim (either xs zs i a h) [
  | inl l ↦ inl l
  | inr r ↦ let le = r.0 in inr (omega (arith, le), r.1)
]

pub slots_above : (cs : List ClassFile) → AreSuperclasses cs → (c : ℕ) (methods : List Place) (above : List Selected) → methods ≡ slots cs c → length above ≡ length (above_slots cs c)
    → ((i : ℕ) (a : Place) (s : Selected) → slice_get (above_slots cs c) i ≡ Some a → slice_get above i ≡ Some s → IsSelectedAbove cs c a s) → AreSelectedAbove cs c methods above
slots_above cs are c methods above e long each =
    let behind = slots_behind cs are c in
    let whole = e ∙ behind.1 in
    let at : (i : ℕ) (a : Place) → slice_get methods i ≡ Some a → slice_get (above_slots cs c ++ behind.0) i ≡ Some a = λ i a h. ap (λ (xs : List Place). slice_get xs i) (sym whole) ∙ h in
    record {
      each = λ i a s h t. elim (either (above_slots cs c) behind.0 i a (at i a h)) [
        | inl l ↦ each i a s l t
        | inr r ↦ let lt = slice_get_within above i s t in let le = r.0 in absurd (omega (arith, lt, le, long))
      ];
      others = λ i a le h. elim (either (above_slots cs c) behind.0 i a (at i a h)) [
        | inl l ↦ let lt = slice_get_within (above_slots cs c) i a l in absurd (omega (arith, lt, le, long))
        | inr r ↦ every_at (IsOwn cs c) behind.0 r.1.0 a behind.2 r.1.1
      ];
    }

pub below_row : (cs : List ClassFile) → AreSuperclasses cs → (c d : ℕ) (methods : List Place) (above : List Selected) → superclass cs c ≡ Some d → methods ≡ slots cs c → AreSelected cs d (slots cs d) above → AreSelectedAbove cs c methods above
below_row cs are c d methods above h e row =
    let same : above_slots cs c ≡ slots cs d = ap (λ o. option_map_or (slots cs) o []) h in
    slots_above cs are c methods above e (row.long ∙ sym (ap length same)) (λ i a s at t. by_superclass cs c d a s h (row.each i a s (ap (λ (xs : List Place). slice_get xs i) (sym same) ∙ at) t))

pub below_none : (cs : List ClassFile) → AreSuperclasses cs → (c : ℕ) (methods : List Place) (above : List Selected) → superclass cs c ≡ None → methods ≡ slots cs c → above ≡ [] → AreSelectedAbove cs c methods above
below_none cs are c methods above h e none =
    let same : above_slots cs c ≡ [] = ap (λ o. option_map_or (slots cs) o []) h in
    slots_above cs are c methods above e (ap length none ∙ sym (ap length same)) (λ i a s at t.
    let lt = slice_get_within above i s t in
    let empty = ap length none in
    absurd (omega (arith, lt, empty)))

-- ---- class by class

pub rows_none : (cs : List ClassFile) (methods : ℕ → List Place) (rows : List (List Selected)) → length rows ≡ length cs → AreRows cs methods [] rows
rows_none cs methods rows h = record { long = h; each = λ c e. absurd (false≢true e) }

pub rows_more : (cs : List ClassFile) (methods : ℕ → List Place) (order : List ℕ) (i : ℕ) (rows after : List (List Selected)) (new : List Selected) → IsSuperclassFirst cs order → i < length order → AreRows cs methods (take i order) rows
    → AreSelected cs (get_or order i 0) (methods (get_or order i 0)) new → after ≡ set rows (get_or order i 0) new → AreRows cs methods (take (i + 1) order) after
rows_more cs methods order i rows after new first lt made are e =
    let n = get_or order i 0 in
    let below = first.below n (among_at order i lt) in
    let all = made.long in
    let within : n < length rows = omega (arith, below, all) in
    subst (λ (xs : List (List Selected)). AreRows cs methods (take (i + 1) order) xs) (sym e) (record {
      long = length-set rows n new ∙ made.long;
      each = λ c h. elim (cases_eq c n) [
        | inl q ↦
            subst (λ k. AreSelected cs k (methods k) (get_or (set rows n new) k [])) (sym q)
            (subst (λ (row : List Selected). AreSelected cs n (methods n) row) (sym (get_or-set_same rows n new [] within)) are)
        | inr f ↦
            subst (λ (row : List Selected). AreSelected cs c (methods c) row) (sym (get_or-set_other rows n c new [] f))
            (made.each c (elim (or_cases (is_among (take i order) c) (eqb n c) (sym (list_any_more (λ k. eqb k c) order i 0 lt) ∙ h)) [ inl l ↦ l | inr r ↦ absurd (f (sym (eqb-true n c r))) ]))
      ];
    })

pub rows_all : (cs : List ClassFile) (methods : ℕ → List Place) (order : List ℕ) (i : ℕ) (rows : List (List Selected)) → length order ≤ i → AreRows cs methods (take i order) rows → AreRows cs methods order rows
rows_all cs methods order i rows g made = subst (λ (xs : List ℕ). AreRows cs methods xs rows) (take_all i order g) made

pub rows_each : (cs : List ClassFile) (methods : ℕ → List Place) (order : List ℕ) (rows : List (List Selected)) → IsSuperclassFirst cs order → AreRows cs methods order rows → AreAllRows cs methods rows
rows_each cs methods order rows first made = record { long = made.long; each = λ c lt. made.each c (first.all c lt) }

-- ---- the methods of interfaces

all_interface : (cs : List ClassFile) → Every (λ a. is_interface cs a.0 ≡ true) (interface_methods cs)
unfolding interface_methods
all_interface cs = every_passing (λ a. is_interface cs a.0 ≡ true) (λ m. is_interface cs m.0) (places_of (λ k. k.methods) cs) (λ x h. h)

interface_above : (cs : List ClassFile) (c : ℕ) (methods : List Place) (above : List Selected) → methods ≡ interface_methods cs → ((i : ℕ) (a : Place) (s : Selected) → slice_get (interface_methods cs) i ≡ Some a → slice_get above i ≡ Some s → IsSelectedAbove cs c a s)
    → AreSelectedAbove cs c methods above
interface_above cs c methods above e each = record {
  each = λ i a s h t. each i a s (ap (λ (xs : List Place). slice_get xs i) (sym e) ∙ h) t;
  others = λ i a le h f.
      let is : is_interface cs a.0 ≡ true = every_at (λ a. is_interface cs a.0 ≡ true) (interface_methods cs) i a (all_interface cs) (ap (λ (xs : List Place). slice_get xs i) (sym e) ∙ h) in
      absurd (false≢true (sym f ∙ is));
}

row_case : (cs : List ClassFile) (d : ℕ) (row : List Selected) (b : Bool) → AreSelected cs d (if b then [] else interface_methods cs) row → (i : ℕ) (a : Place) (s : Selected) → slice_get (interface_methods cs) i ≡ Some a → slice_get row i ≡ Some s → IsSelected cs d a s
row_case cs d row true are i a s h t =
    let lt = slice_get_within row i s t in
    let none = are.long in
    absurd (omega (arith, lt, none))
row_case cs d row false are i a s h t = are.each i a s h t

pub interface_below : (cs : List ClassFile) (c d : ℕ) (methods : List Place) (above : List Selected) → superclass cs c ≡ Some d → methods ≡ interface_methods cs → AreSelected cs d (table_methods cs d) above → AreSelectedAbove cs c methods above
interface_below cs c d methods above h e row = interface_above cs c methods above e (λ i a s at t. by_superclass cs c d a s h (row_case cs d above (is_interface cs d) row i a s at t))

pub interface_none : (cs : List ClassFile) (c : ℕ) (methods : List Place) (above : List Selected) → methods ≡ interface_methods cs → above ≡ [] → AreSelectedAbove cs c methods above
interface_none cs c methods above e none = interface_above cs c methods above e (λ i a s at t.
    let lt = slice_get_within above i s t in
    let empty = ap length none in
    absurd (omega (arith, lt, empty)))

pub no_row : (cs : List ClassFile) (c : ℕ) (row : List Selected) → is_interface cs c ≡ true → row ≡ [] → AreSelected cs c (table_methods cs c) row
no_row cs c row i none =
    let empty = ap length none in
    let methods = ap (λ (b : Bool). length (if b then [] else interface_methods cs)) i in
    record {
      long = omega (arith, empty, methods);
      each = λ j a s h t. let lt = slice_get_within row j s t in absurd (omega (arith, lt, empty));
    }

pub whole_row : {E : Type 0} (cs : List ClassFile) (c : ℕ) (methods : List Place) (r : Result (List Selected) E) → is_interface cs c ≡ false → methods ≡ interface_methods cs → IfOk r (λ row. AreSelected cs c methods row) → IfOk r (λ row. AreSelected cs c (table_methods cs c) row)
whole_row cs c methods r i e are =
    subst (λ (ms : List Place). IfOk r (λ row. AreSelected cs c ms row)) (e ∙ sym (ap (λ (b : Bool). if b then [] else interface_methods cs) i)) are

-- ---- the words of a row

pub row_words : (cs : List ClassFile) (pl : Places) (c : ℕ) (methods : List Place) (row : List Selected) → length row ≡ length methods → AreSoFar cs c methods row → map (λ (s : Selected). code_place cs pl s.place) row ≡ map (selected_place cs pl c) methods
row_words cs pl c [] [] long each = refl
row_words cs pl c [] (s ∷ row) long each = absurd (omega (arith, long))
row_words cs pl c (m ∷ ms) [] long each = absurd (omega (arith, long))
row_words cs pl c (m ∷ ms) (s ∷ row) long each =
    ap₂ (λ (x : ℕ) (xs : List ℕ). x ∷ xs) (ap (code_place cs pl) (each zero m s refl refl).place) (row_words cs pl c ms row (omega (arith, long)) (λ j a t h e. each (suc j) a t h e))

pub table_words : (cs : List ClassFile) (pl : Places) (c : ℕ) (row : List Selected) → is_interface cs c ≡ false → AreSelected cs c (slots cs c) row → map (λ (s : Selected). code_place cs pl s.place) row ≡ table_image cs pl c
table_words cs pl c row i are =
    row_words cs pl c (slots cs c) row are.long are.each ∙ sym (ap (λ (b : Bool). map (selected_place cs pl c) (if b then [] else slots cs c)) i)
