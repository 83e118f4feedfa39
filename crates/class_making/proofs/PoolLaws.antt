-- The entries of what is mentioned are a pool.
use Rattle.std.proofs.Common.{◌≡◌, ℕ, ◌≤◌, ◌&&◌, Bool, true, false, List, [], ◌∷◌, length, Some, map, refl, sym, ap, subst, arith}
use Rattle.std.specs.Prelude.{IsTrue}
use Rattle.std.specs.List.{AllByRecursion}
use Rattle.std.proofs.lemmas.List.{length-map}
use Rattle.class_pool.specs.Spelling.{IsEntryInRange}
use Rattle.class_pool.specs.Grammar.{takes_two, is_second, HaveSeconds, entry_at, utf8_of, is_utf8, is_class, is_name_and_type, points_rightly, IsPool}
use Rattle.class_making.specs.declared.item.Item.{Item}
use Rattle.class_making.specs.declared.item.Item.TheVariants.{Text, Integer, Class, Str, NameAndType, Field, Method, InterfaceMethod}
use Rattle.class_making.specs.declared.plan.ClassPlan.{ClassPlan}
use Rattle.class_making.specs.Making.{expanded, mention_each, index_of, entry_of, pool_of}
use Rattle.class_making.specs.Plans.{plan_mentions, items_of}
use Rattle.class_making.specs.Right.{IsRightItem, IsRightMention}
use Rattle.class_making.proofs.ListLemmas.{all_then, all_map}
use Rattle.class_making.proofs.PoolLemmas.{Has, each_has, each_hold, entry_found, index_fits}

-- all that an item names is there
abbrev pub Names : List Item → Item → Type 0
Names items x = AllByRecursion (Has items) (expanded x)

-- what an item names names no more
inner : (items : List Item) (m : Item) → Names items m → AllByRecursion (Names items) (expanded m)
inner items (Text t) h = (h, tt)
inner items (Integer n) h = (h, tt)
inner items (Class n) h = (h, ((h.1.0, tt), tt))
inner items (Str t) h = (h, ((h.1.0, tt), tt))
inner items (NameAndType n d) h = (h, ((h.1.0, tt), ((h.1.1.0, tt), tt)))
inner items (Field o n d) h = (h, ((h.1.0, (h.1.1.0, tt)), ((h.1.1.0, tt), (h.1.1.1, ((h.1.1.1.1.0, tt), ((h.1.1.1.1.1.0, tt), tt))))))
inner items (Method o n d) h = (h, ((h.1.0, (h.1.1.0, tt)), ((h.1.1.0, tt), (h.1.1.1, ((h.1.1.1.1.0, tt), ((h.1.1.1.1.1.0, tt), tt))))))
inner items (InterfaceMethod o n d) h = (h, ((h.1.0, (h.1.1.0, tt)), ((h.1.1.0, tt), (h.1.1.1, ((h.1.1.1.1.0, tt), ((h.1.1.1.1.1.0, tt), tt))))))

-- what a pool is made of: each item, and what it names, is there and right
pub record IsWhole (items : List Item) : Type 0 where
  pub room : length items ≤ 65534
  pub names : AllByRecursion (Names items) items
  pub right : AllByRecursion IsRightItem items

-- what a plan mentions is there
pub mentioned : (p : ClassPlan) → AllByRecursion (Names (items_of p)) (plan_mentions p)
unfolding items_of
mentioned p = each_has [] (plan_mentions p)

pub whole : (p : ClassPlan) → length (items_of p) ≤ 65534 → AllByRecursion IsRightMention (plan_mentions p) → IsWhole (items_of p)
unfolding items_of
whole p room right =
    let items : List Item = mention_each [] (plan_mentions p) in
    record {
      room = room;
      names = each_hold (Names items) [] (plan_mentions p) tt (all_then (Names items) (λ m. AllByRecursion (Names items) (expanded m)) (inner items) (plan_mentions p) (each_has [] (plan_mentions p)));
      right = each_hold IsRightItem [] (plan_mentions p) tt right;
    }

-- ---- texts

pub text_found : (items : List Item) (t : List ℕ) → length items ≤ 65534 → Has items (Text t) → utf8_of (entry_at (pool_of items) (index_of items (Text t))) ≡ Some t
text_found items t room h = ap utf8_of (entry_found items (Text t) room h)

-- ---- the pool

in_range : (items : List Item) (x : Item) → IsRightItem x → IsEntryInRange (entry_of items x)
in_range items (Text t) r = r
in_range items (Integer n) r = r
in_range items (Class n) r = index_fits items (Text n)
in_range items (Str t) r = index_fits items (Text t)
in_range items (NameAndType n d) r = (index_fits items (Text n), index_fits items (Text d))
in_range items (Field o n d) r = (index_fits items (Class o), index_fits items (NameAndType n d))
in_range items (Method o n d) r = (index_fits items (Class o), index_fits items (NameAndType n d))
in_range items (InterfaceMethod o n d) r = (index_fits items (Class o), index_fits items (NameAndType n d))

takes_one : (items : List Item) (x : Item) → (takes_two (entry_of items x) ≡ false) × (is_second (entry_of items x) ≡ false)
takes_one items (Text t) = (refl, refl)
takes_one items (Integer n) = (refl, refl)
takes_one items (Class n) = (refl, refl)
takes_one items (Str t) = (refl, refl)
takes_one items (NameAndType n d) = (refl, refl)
takes_one items (Field o n d) = (refl, refl)
takes_one items (Method o n d) = (refl, refl)
takes_one items (InterfaceMethod o n d) = (refl, refl)

no_seconds : (items xs : List Item) → HaveSeconds false (map (entry_of items) xs)
no_seconds items [] = refl
no_seconds items (x ∷ xs) =
    let one = takes_one items x in
    let P : Bool → Type 0 = λ due. HaveSeconds due (map (entry_of items) xs) in
    (one.1, subst P (sym one.0) (no_seconds items xs))

and_true : (a b : Bool) → a ≡ true → b ≡ true → (a && b) ≡ true
and_true true b p q = q
and_true false b p q = absurd (let f : false ≡ true = p in cc)

text_there : (items : List Item) (t : List ℕ) → length items ≤ 65534 → Has items (Text t) → is_utf8 (entry_at (pool_of items) (index_of items (Text t))) ≡ true
text_there items t room h = ap is_utf8 (entry_found items (Text t) room h)

member_there : (items : List Item) (o n d : List ℕ) → length items ≤ 65534 → Has items (Class o) → Has items (NameAndType n d)
    → (is_class (entry_at (pool_of items) (index_of items (Class o))) && is_name_and_type (entry_at (pool_of items) (index_of items (NameAndType n d)))) ≡ true
member_there items o n d room h g =
    and_true (is_class (entry_at (pool_of items) (index_of items (Class o)))) (is_name_and_type (entry_at (pool_of items) (index_of items (NameAndType n d))))
    (ap is_class (entry_found items (Class o) room h)) (ap is_name_and_type (entry_found items (NameAndType n d) room g))

points : (items : List Item) → length items ≤ 65534 → (x : Item) → Names items x → IsTrue (points_rightly (pool_of items) (entry_of items x))
points items room (Text t) h = refl
points items room (Integer n) h = refl
points items room (Class n) h = text_there items n room h.1.0
points items room (Str t) h = text_there items t room h.1.0
points items room (NameAndType n d) h =
    and_true (is_utf8 (entry_at (pool_of items) (index_of items (Text n)))) (is_utf8 (entry_at (pool_of items) (index_of items (Text d)))) (text_there items n room h.1.0) (text_there items d room h.1.1.0)
points items room (Field o n d) h = member_there items o n d room h.1.0 h.1.1.1.0
points items room (Method o n d) h = member_there items o n d room h.1.0 h.1.1.1.0
points items room (InterfaceMethod o n d) h = member_there items o n d room h.1.0 h.1.1.1.0

pub is_pool : (items : List Item) → IsWhole items → IsPool (pool_of items)
is_pool items w = record {
  count = omega (arith, length-map items (entry_of items), w.room);
  in_range = all_map IsEntryInRange (entry_of items) items (all_then IsRightItem (λ x. IsEntryInRange (entry_of items x)) (in_range items) items w.right);
  seconds = no_seconds items items;
  references =
      all_map (λ e. IsTrue (points_rightly (pool_of items) e)) (entry_of items) items
      (all_then (Names items) (λ x. IsTrue (points_rightly (pool_of items) (entry_of items x))) (points items w.room) items w.names);
}
