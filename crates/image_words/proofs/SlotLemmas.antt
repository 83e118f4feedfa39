-- The slots of a class made from those of its superclass.
use Rattle.std.proofs.Common.{◌≡◌, ◌≢◌, ℕ, suc, ◌+◌, ◌<◌, ◌≤◌, Bool, true, false, inl, inr, List, [], ◌∷◌, ◌++◌, Option, Some, None, eqb, map, take, take_all, set, length-set, length, get_or, replicate, append-nil, append_assoc, length-append, refl, sym, ap, ◌∙◌, subst, arith}
use Rattle.std.specs.Prelude.{slice_get, slice_index_or, is_some, if◌then◌else◌, IfOk, Result, Ok, Err}
use Rattle.std.specs.Option.{option_map_or}
use Rattle.std.specs.List.{list_any, range_with_len}
use Rattle.std.proofs.lemmas.Bool.{false≢true, or_from, or_cases, cases_lt, cases_eq, eqb-true}
use Rattle.std.proofs.lemmas.List.{get_or_past}
use Rattle.std.proofs.lemmas.List.Folds.{list_any_more}
use Rattle.std.proofs.lemmas.List.FromFn.{map-range_with_len_more, get_or-map-range_with_len, length-map-range_with_len}
use Rattle.std.proofs.lemmas.Option.{get_or_from_slice_get, slice_get-get_or, slice_get_within, slice_get_past}
use Rattle.class_pool.specs.declared.class.ClassFile.{ClassFile}
use Rattle.lists.specs.Lists.{onto, index_of}
use Rattle.lists.proofs.Lemmas.{some_same}
use Rattle.lists.proofs.Among.{among_at}
use Rattle.class_lookup.specs.Hierarchy.{superclass, superclasses, is_among, is_interface}
use Rattle.class_lookup.specs.Laws.{AreSuperclasses, MembersHaveSymbols, SymbolsStandForTexts}
use Rattle.class_lookup.specs.Lookup.{Place}
use Rattle.program_tables.specs.Lists.{with_items}
use Rattle.image_words.specs.Signatures.{symbols_at, has_symbols, number_of, HasSignatures, AreFirst}
use Rattle.image_words.specs.Slots.{are_named_alike, inherited_methods, own_methods, has_slot, own_slots, slots}
use Rattle.image_words.specs.Order.{IsSuperclassFirst}
use Rattle.image_words.specs.Tables.{above_slots, first_slots, own_slot, AreSoFar, AreClassSlots, AreAbove, AreMade, AreSlots}
use Rattle.image_words.specs.declared.class_slots.ClassSlots.{ClassSlots}
use Rattle.image_words.specs.declared.slots.Slots.{Slots}
use Rattle.image_words.proofs.FillLemmas.{set_here, set_other}
use Rattle.image_words.proofs.IndexLemmas.{any_index, index_same, index_none}
use Rattle.image_words.proofs.OrderLemmas.{chain_step, chain_link}
use Rattle.image_words.proofs.OwnLemmas.{no_slot}
use Rattle.image_words.proofs.SignatureLemmas.{alike_symbols, alike_none, first_start}
use Rattle.image_words.proofs.TableLemmas.{slots_step}

-- ---- what the cells say

none_any : {A : Type 0} (t : A → Bool) (xs : List A) → ((x : A) → t x ≡ false) → list_any t xs ≡ false
none_any t [] h = refl
none_any t (x ∷ xs) h = or_from (t x) (list_any t xs) (h x) (none_any t xs h)

abbrev pub first_of : (cells : List (Option ℕ)) → (number : Option ℕ) → Option ℕ
first_of cells number = option_map_or (λ n. slice_index_or cells n None) number None

first_case : MembersHaveSymbols → SymbolsStandForTexts → (cs : List ClassFile) (signatures : List (ℕ × ℕ)) (m : Place) (cells : List (Option ℕ)) (places : List Place) → HasSignatures cs signatures → is_interface cs m.0 ≡ true → AreFirst cs signatures cells places
    → (o : Option (ℕ × ℕ)) → symbols_at cs m ≡ o → first_of cells (onto o (number_of signatures)) ≡ index_of (are_named_alike cs m) places
first_case law stand cs signatures m cells places all i first None h =
    sym (index_none (are_named_alike cs m) places (none_any (are_named_alike cs m) places (λ x. alike_none law cs m x h)))
first_case law stand cs signatures m cells places all i first (Some k) h =
    let n = all.each m k i h in
    ap (first_of cells) n.1
    ∙ (get_or_from_slice_get cells n.0 (index_of (has_symbols cs k) places) None (first.each k n.0 n.1)
    ∙ sym (index_same (are_named_alike cs m) (has_symbols cs k) places (λ x. alike_symbols law stand cs m x k h)))

-- the first place of a method of the name and descriptor of a method of an interface
pub first_index : MembersHaveSymbols → SymbolsStandForTexts → (cs : List ClassFile) (signatures : List (ℕ × ℕ)) (m : Place) (number : Option ℕ) (cells : List (Option ℕ)) (places : List Place) → HasSignatures cs signatures → is_interface cs m.0 ≡ true
    → number ≡ onto (symbols_at cs m) (number_of signatures) → AreFirst cs signatures cells places → first_of cells number ≡ index_of (are_named_alike cs m) places
first_index law stand cs signatures m number cells places all i e first =
    ap (first_of cells) e ∙ first_case law stand cs signatures m cells places all i first (symbols_at cs m) refl

-- and whether there is one
pub first_any : MembersHaveSymbols → SymbolsStandForTexts → (cs : List ClassFile) (signatures : List (ℕ × ℕ)) (m : Place) (number : Option ℕ) (cells : List (Option ℕ)) (places : List Place) → HasSignatures cs signatures → is_interface cs m.0 ≡ true
    → number ≡ onto (symbols_at cs m) (number_of signatures) → AreFirst cs signatures cells places → list_any (are_named_alike cs m) places ≡ is_some (first_of cells number)
first_any law stand cs signatures m number cells places all i e first =
    any_index (are_named_alike cs m) places ∙ sym (ap is_some (first_index law stand cs signatures m number cells places all i e first))

-- ---- the slots with which a class begins

first_moved : (cs : List ClassFile) (signatures : List (ℕ × ℕ)) (cells new : List (Option ℕ)) (places moved : List Place) → AreFirst cs signatures cells places → new ≡ cells → moved ≡ places → AreFirst cs signatures new moved
first_moved cs signatures cells new places moved first e f = record {
  each = λ k n h. ap (λ xs. slice_get xs n) e ∙ (first.each k n h ∙ ap (λ xs. Some (index_of (has_symbols cs k) xs)) (sym f));
}

pub begun_below : (cs : List ClassFile) (signatures : List (ℕ × ℕ)) (c d : ℕ) (s new : ClassSlots) → superclass cs c ≡ Some d → AreClassSlots cs signatures d s → new.start ≡ s.start + length s.added.items → new.added.items ≡ [] → new.first.items ≡ s.first.items
    → AreSoFar cs signatures (above_slots cs c) new
begun_below cs signatures c d s new h are start added first =
    let same : above_slots cs c ≡ above_slots cs d ++ s.added.items = ap (λ o. option_map_or (slots cs) o []) h ∙ are.slots in
    let begins = are.so_far.start in
    let both = length-append (above_slots cs d) s.added.items in
    let long = ap length same in
    record {
      start = omega (arith, start, begins, both, long);
      first = first_moved cs signatures s.first.items new.first.items (above_slots cs d ++ s.added.items) (above_slots cs c ++ new.added.items) are.so_far.first first
          (ap (λ xs. above_slots cs c ++ xs) added ∙ (append-nil (above_slots cs c) ∙ same));
    }

pub begun_top : (cs : List ClassFile) (signatures : List (ℕ × ℕ)) (c : ℕ) (new : ClassSlots) → superclass cs c ≡ None → new.start ≡ 0 → new.added.items ≡ [] → new.first.items ≡ replicate (length signatures) None
    → AreSoFar cs signatures (above_slots cs c) new
begun_top cs signatures c new h start added first =
    let same : above_slots cs c ≡ [] = ap (λ o. option_map_or (slots cs) o []) h in
    record {
      start = start ∙ sym (ap length same);
      first = first_moved cs signatures new.first.items new.first.items [] (above_slots cs c ++ new.added.items) (first_start cs signatures new.first.items first) refl
          (ap (λ xs. above_slots cs c ++ xs) added ∙ (append-nil (above_slots cs c) ∙ same));
    }

-- ---- what a push leaves

pub pushed : (cs : List ClassFile) (signatures : List (ℕ × ℕ)) (above : List Place) (y : Place) (old new : ClassSlots) → new.start ≡ old.start → new.added.items ≡ old.added.items ++ y ∷ [] → AreSoFar cs signatures above old
    → AreFirst cs signatures new.first.items ((above ++ old.added.items) ++ y ∷ []) → AreSoFar cs signatures above new
pushed cs signatures above y old new start added are first = record {
  start = start ∙ are.start;
  first = first_moved cs signatures new.first.items new.first.items ((above ++ old.added.items) ++ y ∷ []) (above ++ new.added.items) first refl
      (ap (λ xs. above ++ xs) added ∙ sym (append_assoc above old.added.items (y ∷ [])));
}

pub so_far_same : (cs : List ClassFile) (signatures : List (ℕ × ℕ)) (above : List Place) (old new : ClassSlots) → new.start ≡ old.start → new.added.items ≡ old.added.items → new.first.items ≡ old.first.items → AreSoFar cs signatures above old → AreSoFar cs signatures above new
so_far_same cs signatures above old new start added first are = record {
  start = start ∙ are.start;
  first = first_moved cs signatures old.first.items new.first.items (above ++ old.added.items) (above ++ new.added.items) are.first first (ap (λ xs. above ++ xs) added);
}

-- ---- the slots that are made for the methods of a class

abbrev pub own_numbers : List ClassFile → (c n : ℕ) → List (Option ℕ)
own_numbers cs c n = map (λ (i : ℕ). own_slot cs (c, i)) (range_with_len 0 n)

pub own_next : (cs : List ClassFile) (c n : ℕ) (old new : List (Option ℕ)) (o : Option ℕ) → old ≡ own_numbers cs c n → new ≡ old ++ o ∷ [] → o ≡ own_slot cs (c, n) → new ≡ own_numbers cs c (n + 1)
own_next cs c n old new o h e same =
    e ∙ (ap (λ xs. xs ++ o ∷ []) h ∙ (ap (λ x. own_numbers cs c n ++ x ∷ []) same ∙ sym (map-range_with_len_more (λ (i : ℕ). own_slot cs (c, i)) 0 n n (omega arith))))

pub own_some : (cs : List ClassFile) (c n slot : ℕ) → has_slot cs (c, n) ≡ true → slot ≡ length (above_slots cs c) + length (first_slots cs c n) → Some slot ≡ own_slot cs (c, n)
own_some cs c n slot h e = ap Some e ∙ sym (ap (λ (b : Bool). if b then Some (length (above_slots cs c) + length (first_slots cs c n)) else None) h)

pub own_none : (cs : List ClassFile) (c n : ℕ) → has_slot cs (c, n) ≡ false → None ≡ own_slot cs (c, n)
own_none cs c n h = sym (ap (λ (b : Bool). if b then Some (length (above_slots cs c) + length (first_slots cs c n)) else None) h)

pub own_each : (cs : List ClassFile) (c n : ℕ) (own : List (Option ℕ)) → own ≡ own_numbers cs c n → length (own_methods cs c) ≤ n → (i : ℕ) → get_or own i None ≡ own_slot cs (c, i)
own_each cs c n own e all i =
    ap (λ xs. get_or xs i None) e ∙ (elim (cases_lt i n) [
      | inl lt ↦ get_or-map-range_with_len (λ (i : ℕ). own_slot cs (c, i)) 0 n i i None lt (omega arith)
      | inr le ↦
          let many = length-map-range_with_len (λ (i : ℕ). own_slot cs (c, i)) 0 n in
          get_or_past (own_numbers cs c n) i None (omega (arith, many, le)) ∙ own_none cs c i (no_slot cs c i (omega (arith, all, le)))
    ])

-- ---- the slots of a class are made

pub slots_made : (cs : List ClassFile) → AreSuperclasses cs → (c : ℕ) (own added : List Place) → own ≡ own_slots cs c → above_slots cs c ++ added ≡ with_items (are_named_alike cs) (above_slots cs c ++ own) (inherited_methods cs c)
    → slots cs c ≡ above_slots cs c ++ added
slots_made cs are c own added e h =
    slots_step cs are c ∙ sym (h ∙ ap (λ xs. with_items (are_named_alike cs) (above_slots cs c ++ xs) (inherited_methods cs c)) e)

-- ---- class by class

pub made_none : (cs : List ClassFile) (signatures : List (ℕ × ℕ)) (table : List ClassSlots) → length table ≡ length cs → AreMade cs signatures [] table
made_none cs signatures table h = record { long = h; each = λ c s e. absurd (false≢true e) }

pub made_above : (cs : List ClassFile) (signatures : List (ℕ × ℕ)) (order : List ℕ) (i : ℕ) (table : List ClassSlots) → IsSuperclassFirst cs order → i < length order → AreMade cs signatures (take i order) table → AreAbove cs signatures (get_or order i 0) table
made_above cs signatures order i table first lt made = record { long = made.long; above = λ d s h e. made.each d s (first.ordered i d lt h) e }

unset : (table : List ClassSlots) (n c : ℕ) (new s : ClassSlots) → c ≢ n → slice_get (set table n new) c ≡ Some s → slice_get table c ≡ Some s
unset table n c new s apart e =
    let same = length-set table n new in
    let within = slice_get_within (set table n new) c s e in
    let there = slice_get-get_or table c s (omega (arith, same, within)) in
    there ∙ (sym (set_other table n c new (get_or table c s) apart there) ∙ e)

pub made_more : (cs : List ClassFile) (signatures : List (ℕ × ℕ)) (order : List ℕ) (i : ℕ) (table after : List ClassSlots) (new : ClassSlots) → IsSuperclassFirst cs order → i < length order → AreMade cs signatures (take i order) table
    → AreClassSlots cs signatures (get_or order i 0) new → after ≡ set table (get_or order i 0) new → AreMade cs signatures (take (i + 1) order) after
made_more cs signatures order i table after new first lt made are e =
    let n = get_or order i 0 in
    let below = first.below n (among_at order i lt) in
    let all = made.long in
    let within : n < length table = omega (arith, below, all) in
    subst (λ (xs : List ClassSlots). AreMade cs signatures (take (i + 1) order) xs) (sym e) (record {
      long = length-set table n new ∙ made.long;
      each = λ c s h at. elim (cases_eq c n) [
        | inl q ↦
            let here : new ≡ s = some_same new s (sym (set_here table n new within) ∙ (ap (slice_get (set table n new)) (sym q) ∙ at)) in
            subst (λ k. AreClassSlots cs signatures k s) (sym q) (subst (λ (x : ClassSlots). AreClassSlots cs signatures n x) here are)
        | inr f ↦
            made.each c s
            (elim (or_cases (is_among (take i order) c) (eqb n c) (sym (list_any_more (λ k. eqb k c) order i 0 lt) ∙ h)) [ inl l ↦ l | inr r ↦ absurd (f (sym (eqb-true n c r))) ])
            (unset table n c new s f at)
      ];
    })

pub made_all : (cs : List ClassFile) (signatures : List (ℕ × ℕ)) (order : List ℕ) (i : ℕ) (table : List ClassSlots) → length order ≤ i → AreMade cs signatures (take i order) table → AreMade cs signatures order table
made_all cs signatures order i table g made = subst (λ (xs : List ℕ). AreMade cs signatures xs table) (take_all i order g) made

-- ---- what was made

pub two_ok : {T E : Type 0} (r : Result T E) (P Q S : T → Type 0) → IfOk r P → IfOk r Q → ((x : T) → P x → Q x → S x) → IfOk r S
two_ok (Ok x) P Q S p q f = f x p q
two_ok (Err e) P Q S p q f = tt

pub three_ok : {T E : Type 0} (r : Result T E) (P Q R S : T → Type 0) → IfOk r P → IfOk r Q → IfOk r R → ((x : T) → P x → Q x → R x → S x) → IfOk r S
three_ok (Ok x) P Q R S p q s f = f x p q s
three_ok (Err e) P Q R S p q s f = tt

-- ---- read from the table

pub read_slots : (cs : List ClassFile) (s : Slots) → AreSlots cs s → (c : ℕ) (t : ClassSlots) → c < length cs → t ≡ get_or s.classes.items c t → AreClassSlots cs s.signatures c t
read_slots cs s are c t lt e =
    let long = are.long in
    are.each c t (slice_get-get_or s.classes.items c t (omega (arith, lt, long)) ∙ ap Some (sym e))

pub class_first : (cs : List ClassFile) (signatures : List (ℕ × ℕ)) (c : ℕ) (t : ClassSlots) → AreClassSlots cs signatures c t → AreFirst cs signatures t.first.items (slots cs c)
class_first cs signatures c t are = first_moved cs signatures t.first.items t.first.items (above_slots cs c ++ t.added.items) (slots cs c) are.so_far.first refl are.slots

-- ---- from the uppermost superclass downwards

abbrev slots_at : List ClassFile → (chain : List ℕ) → (i : ℕ) → List Place
slots_at cs chain i = option_map_or (slots cs) (slice_get chain i) []

pub chain_end : (cs : List ClassFile) (old : List Place) (chain : List ℕ) (n : ℕ) → length chain ≤ n → old ≡ old ++ slots_at cs chain n
chain_end cs old chain n le = sym (ap (λ o. old ++ option_map_or (slots cs) o []) (slice_get_past chain n le) ∙ append-nil old)

pub chain_down : (cs : List ClassFile) → AreSuperclasses cs → (class i j d : ℕ) (chain : List ℕ) (old added : List Place) → chain ≡ superclasses cs class → i ≡ suc j → slice_get chain j ≡ Some d → slots cs d ≡ above_slots cs d ++ added
    → (old ++ slots_at cs chain i) ++ added ≡ old ++ slots_at cs chain j
chain_down cs are class i j d chain old added e same at made =
    let link : superclass cs d ≡ slice_get chain (suc j) = chain_link cs are j class d (ap (λ xs. slice_get xs j) (sym e) ∙ at) ∙ ap (λ xs. slice_get xs (suc j)) (sym e) in
    let upper : slots_at cs chain i ≡ above_slots cs d = ap (slots_at cs chain) same ∙ ap (λ o. option_map_or (slots cs) o []) (sym link) in
    ap (λ xs. (old ++ xs) ++ added) upper
    ∙ (append_assoc old (above_slots cs d) added ∙ ap (λ xs. old ++ xs) (sym made ∙ sym (ap (λ o. option_map_or (slots cs) o []) at)))

pub chain_top : (cs : List ClassFile) → AreSuperclasses cs → (class i : ℕ) (chain : List ℕ) → chain ≡ superclasses cs class → i ≡ 0 → slots_at cs chain i ≡ slots cs class
chain_top cs are class i chain e same = ap (slots_at cs chain) same ∙ (ap (λ xs. slots_at cs xs 0) (e ∙ chain_step cs are class))
