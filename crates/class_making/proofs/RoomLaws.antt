-- How many items there are after mentions.
use Rattle.std.proofs.Common.{◌+◌, ◌*◌, ◌≤◌, Bool, true, false, cond, List, [], ◌∷◌, ◌++◌, length, arith, lit≤}
use Rattle.std.specs.List.{list_any}
use Rattle.std.proofs.lemmas.List.{length-append}
use Rattle.class_making.specs.declared.item.Item.{Item}
use Rattle.class_making.specs.declared.item.Item.TheVariants.{Text, Integer, Class, Str, NameAndType, Field, Method, InterfaceMethod}
use Rattle.class_making.specs.declared.plan.ClassPlan.{ClassPlan}
use Rattle.class_making.specs.Making.{same_item, expanded, with_item, with_all, mention, mention_each}
use Rattle.class_making.specs.Plans.{plan_mentions, items_of}

expanded_length : (x : Item) → length (expanded x) ≤ 6
expanded_length (Text t) = lit≤ tt
expanded_length (Integer n) = lit≤ tt
expanded_length (Class n) = lit≤ tt
expanded_length (Str t) = lit≤ tt
expanded_length (NameAndType n d) = lit≤ tt
expanded_length (Field o n d) = lit≤ tt
expanded_length (Method o n d) = lit≤ tt
expanded_length (InterfaceMethod o n d) = lit≤ tt

with_length : (items : List Item) (x : Item) → length (with_item items x) ≤ length items + 1
with_length items x = chosen (list_any (same_item x) items)
  where
    chosen : (b : Bool) → length (cond b items (items ++ x ∷ [])) ≤ length items + 1
    chosen true = omega arith
    chosen false = omega (arith, length-append items (x ∷ []))

all_length : (items xs : List Item) → length (with_all items xs) ≤ length items + length xs
all_length items [] = omega arith
all_length items (x ∷ xs) = omega (arith, all_length (with_item items x) xs, with_length items x)

each_length : (items ms : List Item) → length (mention_each items ms) ≤ length items + 6 * length ms
each_length items [] = omega arith
each_length items (m ∷ ms) = omega (arith, each_length (mention items m) ms, all_length items (expanded m), expanded_length m)

pub items_are_few : (p : ClassPlan) → length (items_of p) ≤ 6 * length (plan_mentions p)
unfolding items_of
items_are_few p = omega (arith, each_length [] (plan_mentions p))
