-- Items are told apart, and keep their places.
use Rattle.std.proofs.Common.{◌≡◌, ℕ, ◌+◌, ◌<◌, ◌≤◌, nat_lt, ◌==◌, ◌&&◌, Bool, true, false, cond, List, [], ◌∷◌, ◌++◌, length, Option, Some, None, refl, ap, ◌∙◌}
use Rattle.std.specs.Prelude.{position}
use Rattle.std.specs.List.{position_or_len}
use Rattle.std.proofs.lemmas.Bool.{lt-ltb, le-ltb}
use Rattle.std.specs.Bool.{Decides}
use Rattle.std.specs.List.{list_any}
use Rattle.std.specs.Str.{bytes_eq}
use Rattle.std.proofs.lemmas.Bool.Decides.{Decides-eqb, Decides-and, Decides-like, same_from_decides}
use Rattle.std.proofs.lemmas.Slice.Eq.{bytes_eq-Decides}
use Rattle.class_making.specs.declared.item.Item.{Item}
use Rattle.class_making.specs.declared.item.Item.TheVariants.{Text, Integer, Class, Str, NameAndType, Field, Method, InterfaceMethod}
use Rattle.class_making.specs.Making.{same_item, with_item, index_from, index_of}

two : (a b c d : List ℕ) → Decides (bytes_eq a c && bytes_eq b d) ((a ≡ c) × (b ≡ d))
two a b c d = Decides-and (bytes_eq a c) (bytes_eq b d) (bytes_eq-Decides a c) (bytes_eq-Decides b d)

three : (a b c d e f : List ℕ) → Decides (bytes_eq a d && (bytes_eq b e && bytes_eq c f)) ((a ≡ d) × ((b ≡ e) × (c ≡ f)))
three a b c d e f = Decides-and (bytes_eq a d) (bytes_eq b e && bytes_eq c f) (bytes_eq-Decides a d) (two b c e f)

pub same_decides : (x y : Item) → Decides (same_item x y) (x ≡ y)
same_decides (Text a) (Text b) = Decides-like (bytes_eq a b) (λ e. ap Text e) (λ e. (cc)) (bytes_eq-Decides a b)
same_decides (Integer a) (Integer b) = Decides-like (a == b) (λ e. ap Integer e) (λ e. (cc)) (Decides-eqb a b)
same_decides (Class a) (Class b) = Decides-like (bytes_eq a b) (λ e. ap Class e) (λ e. (cc)) (bytes_eq-Decides a b)
same_decides (Str a) (Str b) = Decides-like (bytes_eq a b) (λ e. ap Str e) (λ e. (cc)) (bytes_eq-Decides a b)
same_decides (NameAndType a b) (NameAndType c d) = Decides-like (bytes_eq a c && bytes_eq b d) (λ h. let p = h.0 in let q = h.1 in (cc)) (λ e. ((cc), (cc))) (two a b c d)
same_decides (Field a b c) (Field d e f) = Decides-like (bytes_eq a d && (bytes_eq b e && bytes_eq c f)) (λ h. let p = h.0 in let q = h.1.0 in let r = h.1.1 in (cc)) (λ k. ((cc), ((cc), (cc)))) (three a b c d e f)
same_decides (Method a b c) (Method d e f) = Decides-like (bytes_eq a d && (bytes_eq b e && bytes_eq c f)) (λ h. let p = h.0 in let q = h.1.0 in let r = h.1.1 in (cc)) (λ k. ((cc), ((cc), (cc)))) (three a b c d e f)
same_decides (InterfaceMethod a b c) (InterfaceMethod d e f) = Decides-like (bytes_eq a d && (bytes_eq b e && bytes_eq c f)) (λ h. let p = h.0 in let q = h.1.0 in let r = h.1.1 in (cc)) (λ k. ((cc), ((cc), (cc)))) (three a b c d e f)
same_decides x y = (λ t. absurd (let f : false ≡ true = t in cc), λ e. absurd (cc))

-- two tests that decide the same are the same
any_same : (eq : Item → Item → Bool) → ((x y : Item) → Decides (eq x y) (x ≡ y)) → (x : Item) (items : List Item) → list_any (eq x) items ≡ list_any (same_item x) items
any_same eq decides x [] = refl
any_same eq decides x (y ∷ items) =
    let here : eq x y ≡ same_item x y = same_from_decides (eq x y) (same_item x y) (decides x y) (same_decides x y) in
    rw (here, any_same eq decides x items) refl

pub with_is : (eq : Item → Item → Bool) → ((x y : Item) → Decides (eq x y) (x ≡ y)) → (items : List Item) (x : Item) → cond (list_any (eq x) items) items (items ++ x ∷ []) ≡ with_item items x
with_is eq decides items x = ap (λ (b : Bool). cond b items (items ++ x ∷ [])) (any_same eq decides x items)

-- ---- the index of an item

first_same : (eq : Item → Item → Bool) → ((x y : Item) → Decides (eq x y) (x ≡ y)) → (x : Item) (items : List Item) → position_or_len (eq x) items ≡ position_or_len (same_item x) items
first_same eq decides x [] = refl
first_same eq decides x (y ∷ items) =
    let here : eq x y ≡ same_item x y = same_from_decides (eq x y) (same_item x y) (decides x y) (same_decides x y) in
    rw (here, first_same eq decides x items) refl

pub index_is : (eq : Item → Item → Bool) → ((x y : Item) → Decides (eq x y) (x ≡ y)) → (items : List Item) (x : Item) (o : Option ℕ) → o ≡ position (eq x) items → index_from o ≡ index_of items x
index_is eq decides items x o is =
    ap index_from (is ∙ ap (λ (k : ℕ). cond (nat_lt k (length items)) (Some k) None) (first_same eq decides x items))

pub index_some : (o : Option ℕ) (place : ℕ) → o ≡ Some place → place < 65534 → index_from o ≡ place + 1
index_some o place is lt = ap index_from is ∙ ap (λ (b : Bool). cond b (place + 1) 0) (lt-ltb place 65534 lt)

pub index_past : (o : Option ℕ) (place : ℕ) → o ≡ Some place → 65534 ≤ place → index_from o ≡ 0
index_past o place is le = ap index_from is ∙ ap (λ (b : Bool). cond b (place + 1) 0) (le-ltb place 65534 le)
