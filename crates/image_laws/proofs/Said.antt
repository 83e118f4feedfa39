-- The tables of an image have what is selected.
use Rattle.std.proofs.Common.{◌≡◌, ℕ, ◌+◌, ◌<◌, Bool, true, false, not, ◌||◌, eqb, List, [], ◌∷◌, inl, inr, Option, Some, None, refl, sym, ap, ◌∙◌, subst}
use Rattle.std.specs.Prelude.{slice_get, is_some, codes, unwrap_or}
use Rattle.std.specs.Option.{option_map, option_map_or, IsSomeAnd}
use Rattle.std.proofs.lemmas.Bool.{false≢true, both_ways, cond-true, cond-false, false_from_ne_true}
use Rattle.std.proofs.lemmas.Option.{slice_get_within}
use Rattle.program_tables.proofs.NumberingLemmas.{got}
use Rattle.class_pool.specs.declared.class.ClassFile.{ClassFile}
use Rattle.class_pool.specs.Found.{code_of}
use Rattle.class_rules.specs.Found.{MethodsHaveCode}
use Rattle.class_rules.specs.Rules.{IsRightMethod}
use Rattle.class_rules.specs.Grammar.{IsClass}
use Rattle.bytecode_model.specs.Types.{Kind, OfClass, OfNumbers, OfReferences}
use Rattle.bytecode_model.specs.Program.{Method, body_of, object_class}
use Rattle.bytecode_model.specs.Effects.{has_class, selected}
use Rattle.image_facts.specs.Places.{Places, AreFixed}
use Rattle.lists.specs.Lists.{onto}
use Rattle.lists.proofs.Lemmas.{none≢some, some_same, onto_some, map_some, index_found}
use Rattle.class_lookup.specs.Parts.{Signature, signature_of, has_code, is_static, is_init, is_interface_class}
use Rattle.class_lookup.specs.Hierarchy.{is_interface, extends}
use Rattle.class_lookup.specs.Lookup.{Place, same_place, method_at}
use Rattle.class_lookup.specs.Selection.{signature_at, is_instance, select}
use Rattle.class_lookup.specs.Laws.{FoundMethods, SelectionLaw}
use Rattle.class_lookup.proofs.Hierarchies.{IsUpward, upward_extends}
use Rattle.class_lookup.proofs.Overriding.{place_same}
use Rattle.class_lookup.proofs.Searches.{text_same}
use Rattle.class_lookup.proofs.Selecting.{IsMethod, method_is}
use Rattle.program_tables.specs.Numbers.{methods_by_number, method_number, types_of, is_coded}
use Rattle.program_tables.specs.Resolved.{body_in, resolved_methods, resolved}
use Rattle.program_tables.specs.Resolving.{IsResolved}
use Rattle.program_laws.proofs.ClassLaws.{OrderLaws}
use Rattle.program_laws.proofs.Facts.{all_at, map_or_some, map_or_at, set_of, distinct}
use Rattle.program_laws.proofs.Hierarchies.{above_class, above_interface, either, root}
use Rattle.program_laws.proofs.Selections.{abstract_has_none, interface_abstract, to_object, public_instance}
use Rattle.program_laws.proofs.Numbering.{at_place, numbered, place_has}
use Rattle.program_laws.proofs.Programs.{list_at}
use Rattle.image_words.specs.Slots.{interface_methods, interface_number, table_slots, slot_of}
use Rattle.image_words.specs.Layout.{method_place, table_place, interfaces_place, interface_place, table_of, interface_table_of, outline_of}
use Rattle.image_words.specs.Regions.{code_place, selected_place, implemented_place, places_of}
use Rattle.image_laws.specs.Laws.{SlotSelects, CallsHaveSlots, SlotsAreSaid, InterfaceNumbersAreSaid}
use Rattle.image_laws.proofs.SlotLemmas.{interface_is}
use Rattle.image_laws.proofs.Calls.{not_of_object}
use Rattle.image_laws.proofs.Types.{class_within}
use Rattle.image_words.proofs.Placing.{slot_fixed, zero_fixed, interface_fixed}

-- ---- partial results

pub and_some : {A : Type 0} (o : Option A) (P : A → Type 0) (x : A) → o ≡ Some x → IsSomeAnd o P → P x
and_some o P x h p = subst (λ z. IsSomeAnd z P) h p

pub and_get : {A : Type 0} (o : Option A) (P : A → Type 0) → IsSomeAnd o P → (x : A) × (o ≡ Some x) × P x
and_get None P p = absurd p
and_get (Some x) P p = (x, refl, p)

pub some_get : {A : Type 0} (o : Option A) → is_some o ≡ true → (x : A) × (o ≡ Some x)
some_get None h = absurd (false≢true h)
some_get (Some x) h = (x, refl)

-- ---- methods by number

number_place : (cs : List ClassFile) (m : Place) (n : ℕ) → method_number cs m ≡ Some n → slice_get (methods_by_number cs) n ≡ Some m
number_place cs m n h = let f = index_found (same_place m) (methods_by_number cs) n h in f.1 ∙ ap Some (sym (place_same m f.0 f.2))

selects_by : (cs : List ClassFile) (c : ℕ) (m : Place) (n : ℕ) → method_number cs m ≡ Some n → (resolved cs).select c n ≡ onto (select cs c m) (method_number cs)
selects_by cs c m n h = ap (λ o. option_map_or (λ p. onto (select cs c p) (method_number cs)) o None) (number_place cs m n h)

-- what has a body is a method with code
coded_by : (cs : List ClassFile) (t : Place) (u : ℕ) → method_number cs t ≡ Some u → is_some (body_of (resolved cs) u) ≡ true → is_coded cs t ≡ true
coded_by cs t u h some =
    let b = some_get (body_of (resolved cs) u) some in
    let k = onto_some (slice_get (resolved_methods cs) u) (λ (k : Method). k.body) b.0 b.1 in
    let p = numbered cs u k.0 k.1 in
    let same : p.place ≡ t = some_same p.place t (sym p.number ∙ number_place cs t u h) in
    let owner = p.method.owner in
    let member = p.method.member in
    let body : option_map (body_in cs owner) (code_of member) ≡ Some b.0 = ap (λ (x : Method). x.body) (sym p.method.is) ∙ k.2 in
    let code = map_some (body_in cs owner) (code_of member) b.0 body in
    let there : is_coded cs p.place ≡ true = map_or_at has_code (method_at cs p.place) member (at_place cs p.place owner member p.method.class p.method.there) ∙ ap is_some code.1 in
    ap (is_coded cs) (sym same) ∙ there

code_place_is : (cs : List ClassFile) (pl : Places) (t : Place) (u : ℕ) → method_number cs t ≡ Some u → is_coded cs t ≡ true → code_place cs pl (Some t) ≡ pl.method u
code_place_is cs pl t u h k = cond-true (is_coded cs t) (option_map_or pl.method (method_number cs t) 0) 0 k ∙ ap (λ o. option_map_or pl.method o 0) h

-- a method that is selected by number
pub record IsPicked (cs : List ClassFile) (c : ℕ) (m : Place) (u : ℕ) : Type 0 where
  pub place : Place
  pub picked : select cs c m ≡ Some place
  pub number : method_number cs place ≡ Some u
  pub coded : is_coded cs place ≡ true

picked_by : (cs : List ClassFile) (c : ℕ) (m : Place) (n u : ℕ) → method_number cs m ≡ Some n → (resolved cs).select c n ≡ Some u → is_some (body_of (resolved cs) u) ≡ true → IsPicked cs c m u
picked_by cs c m n u h e some =
    let w = onto_some (select cs c m) (method_number cs) u (sym (selects_by cs c m n h) ∙ e) in
    record { place = w.0; picked = w.1; number = w.2; coded = coded_by cs w.0 u w.2 some }

picked_place : (cs : List ClassFile) (c : ℕ) (m a : Place) (u : ℕ) → IsPicked cs c m u → select cs c a ≡ select cs c m → selected_place cs (outline_of cs) c a ≡ method_place cs u
picked_place cs c m a u w e = ap (code_place cs (outline_of cs)) (e ∙ w.picked) ∙ code_place_is cs (outline_of cs) w.place u w.number w.coded

-- ---- slots

abbrev Fixed : List ClassFile → ℕ → List ℕ → Type 0
Fixed cs place words = AreFixed (resolved cs) (places_of cs) place words

fixed_at : (cs : List ClassFile) (place there k word instead : ℕ) → place ≡ there → word ≡ instead → Fixed cs (there + k) (word ∷ []) → Fixed cs (place + k) (instead ∷ [])
fixed_at cs place there k word instead h e f = subst (λ p. Fixed cs (p + k) (instead ∷ [])) (sym h) (subst (λ w. Fixed cs (there + k) (w ∷ [])) e f)

pub slots_said : OrderLaws → CallsHaveSlots → FoundMethods → SlotsAreSaid
unfolding places_of
slots_said order law found cs r named s m slot n k hs hn t c u ht he hu some =
    let f = found cs r.acyclic named s m k.found in
    let lt = class_within cs t c ht in
    let no : named ≡ object_class → ⊥ = λ e. not_of_object cs r named s m f k.plain (root order cs r m.0 (subst (λ x. extends cs x m.0 ≡ true) e f.above)) in
    let no_interface : is_interface cs named ≡ true → ⊥ = both_ways (is_interface cs named) k.class in
    let ex : extends cs c named ≡ true = elim (either cs c named he) [ inl o ↦ absurd (no o) | inr x ↦ x ] in
    let ic : is_interface cs c ≡ false =
    false_from_ne_true (is_interface cs c) (λ i. elim (above_interface order cs r c named i ex) [ inl j ↦ no_interface j | inr o ↦ no o ]) in
    let up : IsUpward cs c named =
    elim (above_class order cs r c named ex) [ inl w ↦ w | inr w ↦ elim w [ inl j ↦ absurd (no_interface j) | inr o ↦ absurd (no o) ] ] in
    let sel = and_some (slot_of cs named m) (λ slot. SlotSelects cs named slot m) slot hs (law cs r named s m k) in
    let a = and_get (slice_get (table_slots cs c) slot) (λ a. select cs c a ≡ select cs c m) (sel c ic up) in
    let w = picked_by cs c m n u hn hu some in
    let place = ap (λ o. option_map_or (table_of cs) o 0) ht ∙ cond-false (is_interface cs c) 0 (table_place cs c) ic in
    fixed_at cs (option_map_or (table_of cs) (slice_get (types_of cs) t) 0) (table_place cs c) slot (selected_place cs (outline_of cs) c a.0) (method_place cs u) place
    (picked_place cs c m a.0 u w a.2) (slot_fixed cs c slot a.0 lt a.1)

-- ---- interface methods

-- no interface has an initialization method of instances
not_initializer : (cs : List ClassFile) → IsResolved cs → (m : Place) (s : Signature) → IsMethod cs m s → is_interface cs m.0 ≡ true → is_init s ≡ true → ⊥
not_initializer cs r m s d i init =
    let right = all_at (IsRightMethod d.owner) d.owner.methods m.1 d.member (all_at IsClass cs m.0 d.owner r.grammar d.class).rules.methods d.there in
    let text : right.name.0 ≡ s.name = ap (λ o. unwrap_or o []) (sym right.name.1) ∙ ap (λ (x : Signature). x.name) d.signature in
    let named = right.name.1 ∙ ap Some (text ∙ text_same s.name (codes "<init>") init) in
    let k = map_or_some is_interface_class (slice_get cs m.0) i in
    let flag = ap is_interface_class (some_same d.owner k.0 (sym d.class ∙ k.1)) ∙ k.2 in
    (right.initializer named).of_class (set_of d.owner.flags 0x0200 flag)

-- nothing with code is selected in an interface
not_in_interface : OrderLaws → SelectionLaw → MethodsHaveCode → (cs : List ClassFile) → IsResolved cs → (c : ℕ) (m : Place) (s : Signature) (u : ℕ) → signature_at cs m ≡ Some s → is_interface cs m.0 ≡ true → is_interface cs c ≡ true → IsPicked cs c m u → ⊥
not_in_interface order law code cs r c m s u sm im ic w =
    let first = (law cs r.acyclic (distinct cs r) c m s sm).of_interface im w.place w.picked in
    let d = method_is cs w.place s first.signature in
    elim (above_interface order cs r c w.place.0 ic (upward_extends cs r.acyclic c w.place.0 first.upward)) [
      | inl i ↦
          let abstract = interface_abstract code cs r w.place s d i (public_instance cs w.place first.public) in
          abstract_has_none code cs r w.place s d abstract w.coded
      | inr o ↦
          let all = r.core.object_methods d.owner (ap (slice_get cs) (sym o) ∙ d.class) in
          let init = list_at (λ m. is_init (signature_of d.owner m)) d.owner.methods w.place.1 d.member all d.there in
          not_initializer cs r m s (method_is cs m s sm) im (ap is_init (sym d.signature) ∙ init)
    ]

not_either : (x y : Bool) → (x || y) ≡ false → y ≡ false
not_either true y h = absurd (false≢true (sym h))
not_either false y h = h

-- a method of an interface, by its numbers
record IsNumberedAs (cs : List ClassFile) (m : Place) (number n : ℕ) : Type 0 where
  signature : Signature
  has : signature_at cs m ≡ Some signature
  interface : is_interface cs m.0 ≡ true
  listed : slice_get (interface_methods cs) number ≡ Some m
  method : method_number cs m ≡ Some n

abbrev interface_table_at : List ClassFile → ℕ → ℕ
interface_table_at cs t = option_map_or (interface_table_of cs) (slice_get (types_of cs) t) 0

abbrev FindsAt : List ClassFile → (t number u : ℕ) → Type 0
FindsAt cs t number u = is_some (body_of (resolved cs) u) ≡ true → Fixed cs (interface_table_at cs t + number) (method_place cs u ∷ [])

class_finds : OrderLaws → SelectionLaw → MethodsHaveCode → (cs : List ClassFile) → IsResolved cs → (m : Place) (number n : ℕ) → IsNumberedAs cs m number n → (t c u : ℕ) → slice_get (types_of cs) t ≡ Some (OfClass c) → (eqb m.0 object_class || extends cs c m.0) ≡ true
    → (resolved cs).select c n ≡ Some u → (b : Bool) → is_interface cs c ≡ b → FindsAt cs t number u
class_finds order law code cs r m number n x t c u ht he hu true i some =
    absurd (not_in_interface order law code cs r c m x.signature u x.has x.interface i (picked_by cs c m n u x.method hu some))
class_finds order law code cs r m number n x t c u ht he hu false i some =
    let lt = class_within cs t c ht in
    let k = got cs c lt in
    let ex : extends cs c m.0 ≡ true =
    elim (either cs c m.0 he) [ inl o ↦ ap (extends cs c) o ∙ upward_extends cs r.acyclic c object_class (to_object order cs r c k.0 k.1) | inr e ↦ e ] in
    let w = picked_by cs c m n u x.method hu some in
    let word = cond-true (extends cs c m.0) (selected_place cs (outline_of cs) c m) 0 ex ∙ picked_place cs c m m u w refl in
    let place = ap (λ o. option_map_or (interface_table_of cs) o 0) ht ∙ cond-false (is_interface cs c) (interfaces_place cs) (interface_place cs c) i in
    fixed_at cs (interface_table_at cs t) (interface_place cs c) number (implemented_place cs (outline_of cs) c m) (method_place cs u) place word
    (interface_fixed cs c number m lt i x.listed)

zeros_at : (cs : List ClassFile) (m : Place) (number n : ℕ) → IsNumberedAs cs m number n → (t : ℕ) → interface_table_at cs t ≡ interfaces_place cs → Fixed cs (interface_table_at cs t + number) (0 ∷ [])
zeros_at cs m number n x t place = fixed_at cs (interface_table_at cs t) (interfaces_place cs) number 0 0 place refl (zero_fixed cs number (slice_get_within (interface_methods cs) number m x.listed))

other_class : (cs : List ClassFile) → (m : Place) (number n : ℕ) → IsNumberedAs cs m number n → (t c : ℕ) → slice_get (types_of cs) t ≡ Some (OfClass c) → extends cs c m.0 ≡ false → (b : Bool) → is_interface cs c ≡ b
    → Fixed cs (interface_table_at cs t + number) (0 ∷ [])
other_class cs m number n x t c ht he true i =
    zeros_at cs m number n x t (ap (λ o. option_map_or (interface_table_of cs) o 0) ht ∙ cond-true (is_interface cs c) (interfaces_place cs) (interface_place cs c) i)
other_class cs m number n x t c ht he false i =
    let place = ap (λ o. option_map_or (interface_table_of cs) o 0) ht ∙ cond-false (is_interface cs c) (interfaces_place cs) (interface_place cs c) i in
    fixed_at cs (interface_table_at cs t) (interface_place cs c) number (implemented_place cs (outline_of cs) c m) 0 place
    (cond-false (extends cs c m.0) (selected_place cs (outline_of cs) c m) 0 he) (interface_fixed cs c number m (class_within cs t c ht) i x.listed)

kind_finds : OrderLaws → SelectionLaw → MethodsHaveCode → (cs : List ClassFile) → IsResolved cs → (m : Place) (number n : ℕ) → IsNumberedAs cs m number n → (t u : ℕ) (k : Kind) → slice_get (types_of cs) t ≡ Some k → has_class (resolved cs) (Some k) m.0 ≡ true
    → selected (resolved cs) (Some k) n ≡ Some u → FindsAt cs t number u
kind_finds order law code cs r m number n x t u (OfClass c) ht hc hu = class_finds order law code cs r m number n x t c u ht hc hu (is_interface cs c) refl
kind_finds order law code cs r m number n x t u (OfNumbers a) ht hc hu = absurd (none≢some u hu)
kind_finds order law code cs r m number n x t u (OfReferences k) ht hc hu = absurd (none≢some u hu)

kind_other : (cs : List ClassFile) (m : Place) (number n : ℕ) → IsNumberedAs cs m number n → (t : ℕ) (k : Kind) → slice_get (types_of cs) t ≡ Some k → has_class (resolved cs) (Some k) m.0 ≡ false → Fixed cs (interface_table_at cs t + number) (0 ∷ [])
kind_other cs m number n x t (OfClass c) ht hc = other_class cs m number n x t c ht (not_either (eqb m.0 object_class) (extends cs c m.0) hc) (is_interface cs c) refl
kind_other cs m number n x t (OfNumbers a) ht hc = zeros_at cs m number n x t (ap (λ o. option_map_or (interface_table_of cs) o 0) ht)
kind_other cs m number n x t (OfReferences k) ht hc = zeros_at cs m number n x t (ap (λ o. option_map_or (interface_table_of cs) o 0) ht)

numbered_as : (cs : List ClassFile) (m : Place) (number n : ℕ) → is_instance cs m ≡ true → interface_number cs m ≡ Some number → method_number cs m ≡ Some n → IsNumberedAs cs m number n
numbered_as cs m number n instance hi hn =
    let f = index_found (same_place m) (interface_methods cs) number hi in
    let at : slice_get (interface_methods cs) number ≡ Some m = f.1 ∙ ap Some (sym (place_same m f.0 f.2)) in
    let x = map_or_some (λ k. not (is_static k)) (method_at cs m) instance in
    let c = onto_some (slice_get cs m.0) (λ c. slice_get c.methods m.1) x.0 x.1 in
    record {
      signature = signature_of c.0 x.0;
      has = ap (λ o. onto o (λ c. onto (method_at cs m) (λ k. Some (signature_of c k)))) c.1 ∙ ap (λ o. onto o (λ k. Some (signature_of c.0 k))) x.1;
      interface = interface_is cs m (place_has (interface_methods cs) number m at);
      listed = at;
      method = hn;
    }

pub numbers_said : OrderLaws → SelectionLaw → MethodsHaveCode → InterfaceNumbersAreSaid
unfolding places_of
numbers_said order law code cs r m number n instance hi hn =
    let x = numbered_as cs m number n instance hi hn in
    record {
      implements = λ t u k ht hc hu. kind_finds order law code cs r m number n x t u k ht hc hu;
      other = λ t k ht hc. kind_other cs m number n x t k ht hc;
    }
