-- The class that is run first: it stands last, and its pool has no entry for a method of an interface.
use Rattle.std.proofs.Common.{◌≡◌, ℕ, zero, suc, ◌-◌, Bool, true, false, List, [], ◌∷◌, ◌++◌, Some, map, length, length-append, append_assoc, refl, sym, ap, ◌∙◌, arith}
use Rattle.std.specs.Prelude.{slice_get, if◌then◌else◌}
use Rattle.std.specs.List.{list_any, flat_map, AllByRecursion}
use Rattle.std.proofs.lemmas.Bool.{false≢true}
use Rattle.class_pool.specs.declared.entry.Entry.TheVariants as entries
use Rattle.class_pool.specs.Grammar.{is_interface_method}
use Rattle.class_pool.specs.declared.class.ClassFile.{ClassFile}
use Rattle.class_making.specs.declared.item.Item.{Item}
use Rattle.class_making.specs.declared.item.Item.TheVariants.{Text, Integer, Class, Str, NameAndType, Field, Method, InterfaceMethod}
use Rattle.class_making.specs.Making.{same_item, expanded, with_item, with_all, mention, mention_each, entry_of}
use Rattle.class_making.specs.Plans.{piece_mentions, plan_mentions, items_of, class_of}
use Rattle.core_classes.specs.Core.{call_pieces, main_pieces, boot_pieces, boot_method, boot_plan, boot}
use Rattle.lists.proofs.Lemmas.{none≢some, some_same}
use Rattle.image_laws.specs.InterfaceEntries.{BootStandsLast, BootHasNoInterfaceEntry}
use Rattle.core_classes.proofs.First.{at_end}
use Rattle.image_laws.proofs.Instructions.{join_all}

abbrev is_other : Item → Bool
is_other (InterfaceMethod owner name descriptor) = false
is_other x = true

-- no method of an interface is among them
abbrev Others : List Item → Type 0
Others items = AllByRecursion (λ x. is_other x ≡ true) items

-- ---- what is mentioned

with_one : (items : List Item) (x : Item) (b : Bool) → is_other x ≡ true → Others items → Others (if b then items else items ++ x ∷ [])
with_one items x true h a = a
with_one items x false h a = join_all (λ x. is_other x ≡ true) items (x ∷ []) a (h, tt)

with_each : (items xs : List Item) → Others items → Others xs → Others (with_all items xs)
with_each items [] a b = a
with_each items (x ∷ xs) a b = with_each (with_item items x) xs (with_one items x (list_any (same_item x) items) b.0 a) b.1

named : (x : Item) → is_other x ≡ true → Others (expanded x)
named (Text t) h = (refl, tt)
named (Integer n) h = (refl, tt)
named (Class name) h = (refl, (refl, tt))
named (Str text) h = (refl, (refl, tt))
named (NameAndType name descriptor) h = (refl, (refl, (refl, tt)))
named (Field owner name descriptor) h = (refl, (refl, (refl, (refl, (refl, (refl, tt))))))
named (Method owner name descriptor) h = (refl, (refl, (refl, (refl, (refl, (refl, tt))))))
named (InterfaceMethod owner name descriptor) h = absurd (false≢true h)

mentioned : (items xs : List Item) → Others items → Others xs → Others (mention_each items xs)
mentioned items [] a b = a
mentioned items (x ∷ xs) a b = mentioned (mention items x) xs (with_each items (expanded x) a (named x b.0)) b.1

in_pieces : (calls : List (List ℕ)) (main : List ℕ) → Others (flat_map piece_mentions (boot_pieces calls main))
unfolding boot_pieces call_pieces main_pieces
in_pieces [] main = (refl, (refl, tt))
in_pieces (name ∷ calls) main = (refl, in_pieces calls main)

in_boot : (calls : List (List ℕ)) (main : List ℕ) → Others (items_of (boot_plan calls main))
unfolding items_of boot_plan boot_method
in_boot calls main =
    let pieces = join_all (λ x. is_other x ≡ true) (flat_map piece_mentions (boot_pieces calls main)) [] (in_pieces calls main) tt in
    mentioned [] (plan_mentions (boot_plan calls main)) tt (refl, (refl, (refl, (refl, (refl, pieces)))))

-- ---- the entries

no_entry : (items : List Item) (x : Item) (owner member : ℕ) → is_other x ≡ true → entry_of items x ≡ entries.InterfaceMethod owner member → ⊥
no_entry items (Text t) owner member h e = false≢true (ap (λ x. is_interface_method (Some x)) e)
no_entry items (Integer n) owner member h e = false≢true (ap (λ x. is_interface_method (Some x)) e)
no_entry items (Class name) owner member h e = false≢true (ap (λ x. is_interface_method (Some x)) e)
no_entry items (Str text) owner member h e = false≢true (ap (λ x. is_interface_method (Some x)) e)
no_entry items (NameAndType name descriptor) owner member h e = false≢true (ap (λ x. is_interface_method (Some x)) e)
no_entry items (Field o name descriptor) owner member h e = false≢true (ap (λ x. is_interface_method (Some x)) e)
no_entry items (Method o name descriptor) owner member h e = false≢true (ap (λ x. is_interface_method (Some x)) e)
no_entry items (InterfaceMethod o name descriptor) owner member h e = false≢true h

none_there : (items xs : List Item) (i owner member : ℕ) → Others xs → slice_get (map (entry_of items) xs) i ≡ Some (entries.InterfaceMethod owner member) → ⊥
none_there items [] i owner member a h = none≢some (entries.InterfaceMethod owner member) h
none_there items (x ∷ xs) zero owner member a h = no_entry items x owner member a.0 (some_same (entry_of items x) (entries.InterfaceMethod owner member) h)
none_there items (x ∷ xs) (suc i) owner member a h = none_there items xs i owner member a.1 h

pub boot_pool : BootHasNoInterfaceEntry
unfolding boot class_of
boot_pool calls main zero owner member h = none≢some (entries.InterfaceMethod owner member) h
boot_pool calls main (suc i) owner member h = none_there (items_of (boot_plan calls main)) (items_of (boot_plan calls main)) i owner member (in_boot calls main) h

-- ---- its place

pub boot_last : BootStandsLast
boot_last first files calls main =
    let b = boot calls main in
    let cs = first ++ (files ++ b ∷ []) in
    let behind : cs ≡ (first ++ files) ++ b ∷ [] = sym (append_assoc first files (b ∷ [])) in
    let all = ap length behind in
    let one = length-append (first ++ files) (b ∷ []) in
    let place : length cs - 1 ≡ length (first ++ files) = omega (arith, all, one) in
    (calls, main, ap (slice_get cs) place ∙ (ap (λ (ys : List ClassFile). slice_get ys (length (first ++ files))) behind ∙ at_end (first ++ files) b))
