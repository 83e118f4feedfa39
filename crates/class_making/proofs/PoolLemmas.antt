-- What a pool has an entry for is found by its index.
use Rattle.std.proofs.Common.{◌≡◌, ℕ, suc, ◌+◌, ◌^◌, ◌<◌, ◌≤◌, nat_lt, ◌||◌, not, Bool, true, false, cond, List, [], ◌∷◌, ◌++◌, length, Option, Some, None, refl, sym, ap, subst, ◌∙◌, add-one, arith, lit<}
use Rattle.std.specs.Prelude.{slice_get}
use Rattle.std.specs.Option.{option_map}
use Rattle.std.specs.List.{list_any, position_or_len, AllByRecursion}
use Rattle.std.proofs.lemmas.Bool.{lt-ltb, ltb-true}
use Rattle.std.proofs.lemmas.Option.{slice_get-map}
use Rattle.class_pool.specs.Grammar.{entry_at}
use Rattle.class_making.specs.declared.item.Item.{Item}
use Rattle.class_making.specs.Making.{same_item, with_item, with_all, mention, mention_each, expanded, index_from, index_of, entry_of, pool_of}
use Rattle.class_making.proofs.ItemLemmas.{same_decides}

-- the item is one of these
abbrev pub Has : List Item → Item → Type 0
Has items x = list_any (same_item x) items ≡ true

same_self : (x : Item) → same_item x x ≡ true
same_self x = (same_decides x x).1 refl

-- ---- members of lists

or_left : (a b : Bool) → a ≡ true → (a || b) ≡ true
or_left true b h = refl
or_left false b h = absurd (let f : false ≡ true = h in cc)

or_right : (a b : Bool) → b ≡ true → (a || b) ≡ true
or_right true b h = refl
or_right false b h = h

or_cases : {P : Type 0} (a b : Bool) → (a || b) ≡ true → (a ≡ true → P) → (b ≡ true → P) → P
or_cases true b h f g = f refl
or_cases false b h f g = g h

pub has_first : (x : Item) (items : List Item) → Has (x ∷ items) x
has_first x items = or_left (same_item x x) (list_any (same_item x) items) (same_self x)

pub has_next : (y : Item) (items : List Item) (x : Item) → Has items x → Has (y ∷ items) x
has_next y items x h = or_right (same_item x y) (list_any (same_item x) items) h

pub has_left : (xs ys : List Item) (x : Item) → Has xs x → Has (xs ++ ys) x
has_left [] ys x h = absurd (let f : false ≡ true = h in cc)
has_left (y ∷ xs) ys x h = or_cases (same_item x y) (list_any (same_item x) xs) h (λ e. or_left (same_item x y) (list_any (same_item x) (xs ++ ys)) e) (λ e. has_next y (xs ++ ys) x (has_left xs ys x e))

pub has_right : (xs ys : List Item) (x : Item) → Has ys x → Has (xs ++ ys) x
has_right [] ys x h = h
has_right (y ∷ xs) ys x h = has_next y (xs ++ ys) x (has_right xs ys x h)

-- what holds of all holds of a member
pub holds_of : (P : Item → Type 0) (items : List Item) (x : Item) → AllByRecursion P items → Has items x → P x
holds_of P [] x all h = absurd (let f : false ≡ true = h in cc)
holds_of P (y ∷ items) x all h = or_cases (same_item x y) (list_any (same_item x) items) h (λ e. subst P (sym ((same_decides x y).0 e)) all.0) (λ e. holds_of P items x all.1 e)

-- ---- mentions keep what is there, and add all that is mentioned

with_keeps : (items : List Item) (y x : Item) → Has items x → Has (with_item items y) x
with_keeps items y x h = chosen (list_any (same_item y) items)
  where
    chosen : (b : Bool) → Has (cond b items (items ++ y ∷ [])) x
    chosen true = h
    chosen false = has_left items (y ∷ []) x h

with_has : (items : List Item) (y : Item) → Has (with_item items y) y
with_has items y = chosen (list_any (same_item y) items) refl
  where
    chosen : (b : Bool) → list_any (same_item y) items ≡ b → Has (cond b items (items ++ y ∷ [])) y
    chosen true e = e
    chosen false e = has_right items (y ∷ []) y (has_first y [])

all_keep : (items ys : List Item) (x : Item) → Has items x → Has (with_all items ys) x
all_keep items [] x h = h
all_keep items (y ∷ ys) x h = all_keep (with_item items y) ys x (with_keeps items y x h)

all_have : (items ys : List Item) → AllByRecursion (Has (with_all items ys)) ys
all_have items [] = tt
all_have items (y ∷ ys) = (all_keep (with_item items y) ys y (with_has items y), all_have (with_item items y) ys)

each_keeps : (items ms : List Item) (x : Item) → Has items x → Has (mention_each items ms) x
each_keeps items [] x h = h
each_keeps items (m ∷ ms) x h = each_keeps (mention items m) ms x (all_keep items (expanded m) x h)

-- from what holds of each member, another thing
pub weaker : {P Q : Item → Type 0} → ((x : Item) → P x → Q x) → (items : List Item) → AllByRecursion P items → AllByRecursion Q items
weaker f [] all = tt
weaker f (x ∷ items) all = (f x all.0, weaker f items all.1)

-- a pool has all that each mention names
pub each_has : (items ms : List Item) → AllByRecursion (λ m. AllByRecursion (Has (mention_each items ms)) (expanded m)) ms
each_has items [] = tt
each_has items (m ∷ ms) = (weaker (λ x h. each_keeps (mention items m) ms x h) (expanded m) (all_have items (expanded m)), each_has (mention items m) ms)

-- ---- and nothing else

pub append_all : (P : Item → Type 0) (xs ys : List Item) → AllByRecursion P xs → AllByRecursion P ys → AllByRecursion P (xs ++ ys)
append_all P [] ys p q = q
append_all P (x ∷ xs) ys p q = (p.0, append_all P xs ys p.1 q)

with_all_hold : (P : Item → Type 0) (items ys : List Item) → AllByRecursion P items → AllByRecursion P ys → AllByRecursion P (with_all items ys)
with_all_hold P items [] p q = p
with_all_hold P items (y ∷ ys) p q = with_all_hold P (with_item items y) ys (chosen (list_any (same_item y) items)) q.1
  where
    chosen : (b : Bool) → AllByRecursion P (cond b items (items ++ y ∷ []))
    chosen true = p
    chosen false = append_all P items (y ∷ []) p (q.0, tt)

pub each_hold : (P : Item → Type 0) (items ms : List Item) → AllByRecursion P items → AllByRecursion (λ m. AllByRecursion P (expanded m)) ms → AllByRecursion P (mention_each items ms)
each_hold P items [] p q = p
each_hold P items (m ∷ ms) p q = each_hold P (mention items m) ms (with_all_hold P items (expanded m) p q.0) q.1

-- ---- indexes

placed : (x : Item) (items : List Item) → Has items x → (position_or_len (same_item x) items < length items) × (slice_get items (position_or_len (same_item x) items) ≡ Some x)
placed x [] h = absurd (let f : false ≡ true = h in cc)
placed x (y ∷ items) h = chosen (same_item x y) refl h (λ t. placed x items t)
  where
    chosen : (b : Bool) → same_item x y ≡ b → (b || list_any (same_item x) items) ≡ true
        → (Has items x → (position_or_len (same_item x) items < length items) × (slice_get items (position_or_len (same_item x) items) ≡ Some x))
        → (cond (not b) (1 + position_or_len (same_item x) items) 0 < length (y ∷ items)) × (slice_get (y ∷ items) (cond (not b) (1 + position_or_len (same_item x) items) 0) ≡ Some x)
    chosen true e t later = (omega arith, ap (λ (z : Item). Some z) (sym ((same_decides x y).0 e)))
    chosen false e t later =
        let behind = later t in
        let next : 1 + position_or_len (same_item x) items ≡ suc (position_or_len (same_item x) items) = omega arith in
        (omega (arith, behind.0), ap (slice_get (y ∷ items)) next ∙ behind.1)

pub index_at : (items : List Item) (x : Item) → length items ≤ 65534 → Has items x → index_of items x ≡ suc (position_or_len (same_item x) items)
index_at items x room h =
    let k : ℕ = position_or_len (same_item x) items in
    let lt : k < length items = (placed x items h).0 in
    ap (λ (b : Bool). index_from (cond b (Some k) None)) (lt-ltb k (length items) lt)
    ∙ ap (λ (b : Bool). cond b (k + 1) 0) (lt-ltb k 65534 (omega arith))
    ∙ add-one k

-- the entry of an item stands at its index
pub entry_found : (items : List Item) (x : Item) → length items ≤ 65534 → Has items x → entry_at (pool_of items) (index_of items x) ≡ Some (entry_of items x)
entry_found items x room h =
    let k : ℕ = position_or_len (same_item x) items in
    ap (entry_at (pool_of items)) (index_at items x room h) ∙ slice_get-map (entry_of items) items k ∙ ap (option_map (entry_of items)) (placed x items h).1

-- indexes are numbers of 16 bits
index_from_fits : (o : Option ℕ) → index_from o < 2 ^ 16
index_from_fits None = lit< tt
index_from_fits (Some place) = chosen (nat_lt place 65534) refl
  where
    chosen : (b : Bool) → nat_lt place 65534 ≡ b → cond b (place + 1) 0 < 2 ^ 16
    chosen true e = let lt : place < 65534 = ltb-true place 65534 e in omega arith
    chosen false e = lit< tt

pub index_fits : (items : List Item) (x : Item) → index_of items x < 2 ^ 16
index_fits items x = index_from_fits (cond (nat_lt (position_or_len (same_item x) items) (length items)) (Some (position_or_len (same_item x) items)) None)
