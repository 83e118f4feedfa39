-- Mentions one after the other.
use Rattle.std.proofs.Common.{◌≡◌, ℕ, ◌+◌, ◌<◌, List, [], ◌∷◌, ◌++◌, length, get_or, drop, Option, Some, None, refl, sym, ap, ◌∙◌, add-one}
use Rattle.std.proofs.Math.Seq.{drop-cons}
use Rattle.std.specs.List.{flat_map}
use Rattle.class_making.specs.declared.item.Item.{Item}
use Rattle.class_making.specs.declared.item.Item.TheVariants.{Text}
use Rattle.class_making.specs.Making.{mention, mention_each}
use Rattle.class_making.specs.Plans.{stack_map_name, with_stack_map}

pub each_append : (items xs ys : List Item) → mention_each items (xs ++ ys) ≡ mention_each (mention_each items xs) ys
each_append items [] ys = refl
each_append items (x ∷ xs) ys = each_append (mention items x) xs ys

-- what the code mentions, and then the name of its table of frames
pub each_with_stack_map : (items xs : List Item) (o : Option (List ℕ)) → mention_each items (with_stack_map xs o) ≡ mention_each (mention_each items xs) (with_stack_map [] o)
each_with_stack_map items xs None = refl
each_with_stack_map items xs (Some bytes) = each_append items xs (Text stack_map_name ∷ [])

-- one more of a list's mentions
pub each_next : {X : Type 0} (f : X → List Item) (items after : List Item) (xs : List X) (i : ℕ) (x : X) → i < length xs → x ≡ get_or xs i x → after ≡ mention_each items (f x)
    → mention_each after (flat_map f (drop (i + 1) xs)) ≡ mention_each items (flat_map f (drop i xs))
each_next f items after xs i x lt at is =
    let rest : drop i xs ≡ x ∷ drop (i + 1) xs = drop-cons xs i x lt ∙ rw (add-one, ← at) refl in
    ap (λ (m : List Item). mention_each m (flat_map f (drop (i + 1) xs))) is
    ∙ sym (each_append items (f x) (flat_map f (drop (i + 1) xs)))
    ∙ sym (ap (λ r. mention_each items (flat_map f r)) rest)
