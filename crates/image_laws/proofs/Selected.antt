-- The words of the entries that invokevirtual and invokeinterface name mean the methods that are selected.
use Rattle.std.proofs.Common.{◌≡◌, ℕ, zero, suc, ◌+◌, ◌*◌, ◌/◌, ◌%◌, ◌^◌, ◌<◌, ◌≤◌, Bool, true, false, not, ◌&&◌, ◌||◌, List, [], ◌∷◌, ◌++◌, inl, inr, Option, Some, None, length, length-append, refl, sym, ap, ap₂, ◌∙◌, subst, arith}
use Rattle.std.specs.Prelude.{slice_get, sum_by, unwrap_or, if◌then◌else◌}
use Rattle.std.specs.Option.{option_map_or}
use Rattle.std.specs.List.{flat_map}
use Rattle.std.proofs.lemmas.Bool.{false≢true, not_from_false}
use Rattle.std.proofs.lemmas.Option.{slice_get_within}
use Rattle.std.proofs.lemmas.List.Sums.{sum_by-cons}
use Rattle.class_pool.specs.declared.class.ClassFile.{ClassFile}
use Rattle.base.specs.Packed.{PackedHasWords}
use Rattle.bytecode_model.specs.Program.{Method}
use Rattle.bytecode_typing.specs.Lawful.{IsVirtualCall, IsInterfaceCall}
use Rattle.lists.specs.Lists.{onto}
use Rattle.lists.proofs.Lemmas.{none≢some, index_there, index_found}
use Rattle.image_facts.specs.Words.{words_of, object_image}
use Rattle.image_facts.specs.Places.{object_place}
use Rattle.image_facts.specs.Says.{argument_words_of, IsSlot, IsInterfaceNumber}
use Rattle.class_lookup.specs.Parts.{Signature, same_text, name_of, class_text, is_static, is_private, is_init}
use Rattle.class_lookup.specs.Hierarchy.{is_interface}
use Rattle.class_lookup.specs.Lookup.{Place, same_place, method_at, find_method}
use Rattle.class_lookup.proofs.Overriding.{same_is_place}
use Rattle.program_tables.specs.declared.refusal.Why.TheVariants.{NoClass, NotAccessible, WrongKind}
use Rattle.program_tables.specs.Unresolved.{unless, are_there, may_use_method, is_right_method, is_named_rightly, is_callable_name, why_method_found, why_method_named, why_method}
use Rattle.bytecode_model.specs.Effects.{same_bool}
use Rattle.program_tables.specs.Kinds.{class_in_entry, classes_in_method_descriptor}
use Rattle.program_tables.specs.Numbers.{method_number}
use Rattle.program_tables.specs.Operands.{class_named, method_named}
use Rattle.program_tables.specs.Resolved.{method_in, resolved_method, resolved_methods, resolved}
use Rattle.program_laws.proofs.ClassLaws.{ClassLaws}
use Rattle.program_laws.proofs.Facts.{map_or_at}
use Rattle.program_laws.proofs.Hierarchies.{above_interface}
use Rattle.program_laws.proofs.Selections.{unless_none}
use Rattle.program_laws.proofs.Numbering.{at_place, resolved_at, number_of, has_place}
use Rattle.program_laws.proofs.Calls.{first_none, IsNamed, method_is_named, virtual_call, interface_call}
use Rattle.image_words.specs.Slots.{are_named_alike, interface_methods, interface_number, table_slots, slot_of}
use Rattle.image_words.specs.Layout.{table_words, types_size, tables_size, interfaces_size, pools_size, methods_size, middle_size, interface_words, classes_of, outline_of}
use Rattle.image_words.specs.Pools.{call_word, method_word, interface_word}
use Rattle.image_words.specs.Regions.{image_words_of, front_of, middle_of, places_of}
use Rattle.image_words.specs.Laws.{ImageWordsLie}
use Rattle.image_laws.specs.Laws.{CallsHaveSlots, SlotSelects, IsCallable, SlotsAreSaid, InterfaceNumbersAreSaid, IsSmall, VirtualCallsAreSaid, InterfaceCallsAreSaid}
use Rattle.image_words.proofs.Words.{range_get}
use Rattle.image_words.proofs.Sizes.{middle_length}
use Rattle.image_laws.proofs.Calls.{not_of_object, interface_listed}
use Rattle.image_laws.proofs.Said.{and_some, and_get}

-- ---- what resolution gives of an invokevirtual

third : (a b c d e : Bool) → (a && b && c && d && e) ≡ true → c ≡ true
third true true true d e h = refl
third true true false d e h = absurd (false≢true h)
third true false c d e h = absurd (false≢true h)
third false b c d e h = absurd (false≢true h)

neither : (a b : Bool) → not a ≡ true → not b ≡ true → not (a || b) ≡ true
neither false b h k = k
neither true b h k = absurd (false≢true h)

not_private : (cs : List ClassFile) (cur : ℕ) (c : ClassFile) (index : ℕ) (s : Signature) → why_method cs cur c false 182 index s ≡ None → (n : IsNamed cs cur c false 182 index s) → not (is_private n.found.member) ≡ true
not_private cs cur c index s h n =
    let m = n.place in
    let k = n.found.member in
    let b = first_none (unless (are_there cs (class_in_entry c.pool index ++ classes_in_method_descriptor s.descriptor)) NoClass) (why_method_named cs cur c false 182 index s (method_named cs c index s)) h in
    let named : method_named cs c index s ≡ Some m = ap (λ o. onto o (λ x. find_method cs x s)) n.class_is ∙ n.found_as in
    let found : why_method_found cs cur c false 182 index s m (method_at cs m) ≡ None = sym (ap (why_method_named cs cur c false 182 index s) named) ∙ b.1 in
    let at : method_at cs m ≡ Some k = at_place cs m n.found.owner k n.found.class n.found.there in
    let both = sym (ap (why_method_found cs cur c false 182 index s m) at) ∙ found in
    let right = unless_none (is_right_method cs cur c false 182 index s m k) WrongKind (first_none (unless (may_use_method cs cur c index m k) NotAccessible) (unless (is_right_method cs cur c false 182 index s m k) WrongKind) both).1 in
    third (is_named_rightly cs cur c false 182 index) (same_bool false (is_static k)) (not (is_private k)) true (is_callable_name cs cur 182 s) right

-- ---- small numbers

part_within : {A : Type 0} (size : A → ℕ) (xs : List A) (i : ℕ) (x : A) → slice_get xs i ≡ Some x → size x ≤ sum_by size xs
part_within size [] i x h = absurd (none≢some x h)
part_within size (y ∷ xs) zero x h =
    let all = sum_by-cons size y xs in
    let same = ap (λ (o : Option _). option_map_or size o 0) h in
    omega (arith, all, same)
part_within size (y ∷ xs) (suc i) x h =
    let all = sum_by-cons size y xs in
    let rest = part_within size xs i x h in
    omega (arith, all, rest)

middle_within : PackedHasWords → ImageWordsLie → (cs : List ClassFile) → middle_size cs ≤ length (image_words_of cs)
unfolding places_of
middle_within law lie cs =
    let P = resolved cs in
    let pl = places_of cs in
    let statics = flat_map (words_of (object_place P pl P.first_objects)) P.first_statics in
    let objects = flat_map (object_image P pl.type (object_place P pl P.first_objects)) P.first_objects in
    let front = front_of cs (outline_of cs) in
    let middle = middle_of cs (outline_of cs) in
    let a = ap length (lie cs) in
    let b = length-append front (statics ++ (middle ++ objects)) in
    let c = length-append statics (middle ++ objects) in
    let d = length-append middle objects in
    let e = middle_length law cs (outline_of cs) in
    at_least (length (image_words_of cs)) (length front) (length statics) (length middle) (length objects) (middle_size cs)
    (a ∙ (b ∙ ap (λ n. length front + n) (c ∙ ap (λ n. length statics + n) d))) e
  where
    at_least : (all f s m o k : ℕ) → all ≡ f + (s + (m + o)) → m ≡ k → k ≤ all
    at_least all f s m o k h e = omega (arith, h, e)

second_part : (a b c d e n : ℕ) → a + (b + (c + (d + e))) ≤ n → n ≤ 2 ^ 20 → (x : ℕ) → x ≤ b → (i : ℕ) → i < x → i < 2 ^ 24
second_part a b c d e n h k x le i lt = omega (arith, h, k, le, lt)

third_part : (a b c d e n : ℕ) → a + (b + (c + (d + e))) ≤ n → n ≤ 2 ^ 20 → (x y : ℕ) → x + y ≡ c → (i : ℕ) → i < x → i < 2 ^ 24
third_part a b c d e n h k x y same i lt = omega (arith, h, k, same, lt)

slot_small : PackedHasWords → ImageWordsLie → (cs : List ClassFile) → IsSmall cs → (c slot : ℕ) → c < length cs → slot < length (table_slots cs c) → slot < 2 ^ 24
slot_small law lie cs small c slot lt h =
    let same : 0 + c ≡ c = omega arith in
    let part = part_within (table_words cs) (classes_of cs) c c (range_get 0 (length cs) c lt ∙ ap Some same) in
    second_part (types_size cs) (tables_size cs) (interfaces_size cs) (pools_size cs) (methods_size cs) (length (image_words_of cs)) (middle_within law lie cs) small (length (table_slots cs c)) part slot h

number_small : PackedHasWords → ImageWordsLie → (cs : List ClassFile) → IsSmall cs → (number : ℕ) → number < length (interface_methods cs) → number < 2 ^ 24
number_small law lie cs small number h =
    third_part (types_size cs) (tables_size cs) (interfaces_size cs) (pools_size cs) (methods_size cs) (length (image_words_of cs)) (middle_within law lie cs) small
    (length (interface_methods cs)) (sum_by (interface_words cs) (classes_of cs)) refl number h

split_word : (a n : ℕ) → n < 2 ^ 24 → ((a * 2 ^ 24 + n) / 2 ^ 24 ≡ a) × ((a * 2 ^ 24 + n) % 2 ^ 24 ≡ n)
split_word a n lt = (omega (arith, lt), omega (arith, lt))

call_is : (cs : List ClassFile) (p : Place) (m : Method) (o : Option ℕ) (number : ℕ) → resolved_method cs p ≡ Some m → o ≡ Some number → call_word cs o p ≡ argument_words_of m * 2 ^ 24 + number
call_is cs p m o number h e = ap₂ (λ (x : Option Method) (y : Option ℕ). option_map_or argument_words_of x 0 * 2 ^ 24 + unwrap_or y 0) h e

-- ---- invokevirtual

pub virtual_calls : ClassLaws → PackedHasWords → ImageWordsLie → CallsHaveSlots → SlotsAreSaid → VirtualCallsAreSaid
virtual_calls laws law lie slots said cs r small c k owner s h why =
    let n = method_is_named laws cs r c k false 182 owner s why in
    let m = n.place in
    let f = n.found in
    let j = number_of cs m f.owner f.member f.class f.there in
    let method = method_in cs m.0 f.owner f.member in
    let call = and_some (slice_get (resolved_methods cs) j.0) (IsVirtualCall (resolved cs) n.named) method j.2 (virtual_call cs c k owner s n j.0 j.2) in
    let at = at_place cs m f.owner f.member f.class f.there in
    let virtual = map_or_at (λ x. not (is_static x || is_private x)) (method_at cs m) f.member at ∙ neither (is_static f.member) (is_private f.member) n.static (not_private cs c k owner s why n) in
    let plain = not_from_false (is_init s) (ap is_init (sym f.signature) ∙ call.other) in
    let callable : IsCallable cs n.named s m = record { class = call.class; found = n.found_as; virtual = virtual; plain = plain } in
    let slot = and_get (slot_of cs n.named m) (λ slot. SlotSelects cs n.named slot m) (slots cs r n.named s m callable) in
    let named_at : method_named cs k owner s ≡ Some m = ap (λ o. onto o (λ x. find_method cs x s)) n.class_is ∙ n.found_as in
    let word : method_word cs (class_named cs k owner) (method_named cs k owner s) ≡ argument_words_of method * 2 ^ 24 + slot.0 =
    ap₂ (method_word cs) n.class_is named_at ∙ call_is cs m method (slot_of cs n.named m) slot.0 (resolved_at cs m f.owner f.member f.class f.there) slot.1 in
    let g = index_found (λ x. same_text (name_of x) (class_text k.pool owner)) cs n.named n.class_is in
    let t = index_found (if is_interface cs m.0 then are_named_alike cs m else same_place m) (table_slots cs n.named) slot.0 slot.1 in
    let low = slot_small law lie cs small n.named slot.0 (slice_get_within cs n.named g.0 g.1) (slice_get_within (table_slots cs n.named) slot.0 t.0 t.1) in
    let parts = split_word (argument_words_of method) slot.0 low in
    let is : IsSlot (resolved cs) (places_of cs) n.named j.0 slot.0 = said cs r n.named s m slot.0 j.0 callable slot.1 j.1 in (
      n.named,
      j.0,
      method,
      record { class = n.class_is; number = ap (λ o. onto o (method_number cs)) named_at ∙ j.1; method = j.2 },
      ap (λ w. w / 2 ^ 24) word ∙ parts.0,
      subst (IsSlot (resolved cs) (places_of cs) n.named j.0) (sym (ap (λ w. w % 2 ^ 24) word ∙ parts.1)) is,
    )

-- ---- invokeinterface

pub interface_calls : ClassLaws → PackedHasWords → ImageWordsLie → InterfaceNumbersAreSaid → InterfaceCallsAreSaid
interface_calls laws law lie said cs r small c k owner s h why =
    let n = method_is_named laws cs r c k true 185 owner s why in
    let m = n.place in
    let f = n.found in
    let j = number_of cs m f.owner f.member f.class f.there in
    let method = method_in cs m.0 f.owner f.member in
    let call = and_some (slice_get (resolved_methods cs) j.0) IsInterfaceCall method j.2 (interface_call cs c k true owner s n j.0 j.2) in
    let at = at_place cs m f.owner f.member f.class f.there in
    let plain = not_from_false (is_init s) (ap is_init (sym f.signature) ∙ call.other) in
    let through = sym (map_or_at (is_interface cs) (class_named cs k owner) n.named n.class_is) ∙ n.rightly in
    let interface : is_interface cs m.0 ≡ true =
    elim (above_interface laws.methods.order cs r n.named m.0 through f.above) [ inl e ↦ e | inr o ↦ absurd (not_of_object cs r n.named s m f plain o) ] in
    let place = has_place (interface_methods cs) m (interface_listed cs m f.owner f.member f.class f.there interface) in
    let number = index_there (same_place m) (interface_methods cs) place.0 m place.1 (same_is_place m m refl) in
    let t = index_found (same_place m) (interface_methods cs) number.0 number.1 in
    let low = number_small law lie cs small number.0 (slice_get_within (interface_methods cs) number.0 t.0 t.1) in
    let instance = map_or_at (λ x. not (is_static x)) (method_at cs m) f.member at ∙ n.static in
    let named_at : method_named cs k owner s ≡ Some m = ap (λ o. onto o (λ x. find_method cs x s)) n.class_is ∙ n.found_as in
    let word : interface_word cs (method_named cs k owner s) ≡ argument_words_of method * 2 ^ 24 + number.0 =
    ap (interface_word cs) named_at ∙ call_is cs m method (interface_number cs m) number.0 (resolved_at cs m f.owner f.member f.class f.there) number.1 in
    let parts = split_word (argument_words_of method) number.0 low in
    let is : IsInterfaceNumber (resolved cs) (places_of cs) j.0 m.0 number.0 = said cs r m number.0 j.0 instance number.1 j.1 in (
      n.named,
      j.0,
      method,
      record { class = n.class_is; number = ap (λ o. onto o (method_number cs)) named_at ∙ j.1; method = j.2 },
      ap (λ w. w / 2 ^ 24) word ∙ parts.0,
      subst (IsInterfaceNumber (resolved cs) (places_of cs) j.0 m.0) (sym (ap (λ w. w % 2 ^ 24) word ∙ parts.1)) is,
    )
