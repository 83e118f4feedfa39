-- Methods that are the resolved one or override it, from the uppermost class downwards.
use Rattle.std.proofs.Common.{◌≡◌, ℕ, suc, ◌-◌, ◌<◌, ◌≤◌, length, get_or, drop, drop-cons, arith, Bool, true, false, ◌&&◌, ◌||◌, List, [], ◌∷◌, Option, Some, None, inl, inr, refl, sym, ap, ap₂, ◌∙◌, subst}
use Rattle.std.specs.Prelude.{slice_get, is_some}
use Rattle.std.specs.Option.{option_map_or}
use Rattle.std.specs.List.{list_any, filter_map, cons_option}
use Rattle.std.proofs.lemmas.Bool.{false≢true, or_cases, cond-true}
use Rattle.class_pool.specs.declared.class.Member.{Member}
use Rattle.class_pool.specs.declared.class.ClassFile.{ClassFile}
use Rattle.class_lookup.specs.Parts.{same_package, package_in, name_of, is_public, is_protected, is_package_private}
use Rattle.class_lookup.specs.Lookup.{Place, same_place, method_at}
use Rattle.class_lookup.specs.Access.{are_in_one_package, both}
use Rattle.class_lookup.specs.Selection.{is_method_with, is_virtual, overrides_directly, overriding, head}
use Rattle.class_hierarchy.proofs.Directly.{text_same, same_is_text, place_same}
use Rattle.class_hierarchy.specs.Selecting.{is_open, is_near, is_joining}

-- what is found of them, whether one of them is open to all below, and which methods override one of them directly
pub record AreReached (cs : List ClassFile) (a : Place) (ms : List Place) (found : Option Place) (free : Bool) : Type 0 where
  pub first : found ≡ head (overriding cs a ms)
  pub over : (m : Place) → list_any (overrides_directly cs m) (overriding cs a ms) ≡ (is_some found && (is_virtual cs m && (is_virtual cs a && (free || is_near cs m a))))
  pub closed : is_some found ≡ false → free ≡ false

pub reached_none : (cs : List ClassFile) (a : Place) (ms : List Place) → ms ≡ [] → AreReached cs a ms None false
reached_none cs a ms h = subst (λ (xs : List Place). AreReached cs a xs None false) (sym h) (record { first = refl; over = λ m. refl; closed = λ e. refl })

-- ---- packages

package_through : (x y z : Option ClassFile) → both same_package x y ≡ true → both same_package y z ≡ true → both same_package x z ≡ true
package_through None y z h e = absurd (false≢true h)
package_through (Some x) None z h e = absurd (false≢true h)
package_through (Some x) (Some y) None h e = absurd (false≢true e)
package_through (Some x) (Some y) (Some z) h e =
    same_is_text (package_in (name_of x)) (package_in (name_of z)) (text_same (package_in (name_of x)) (package_in (name_of y)) h ∙ text_same (package_in (name_of y)) (package_in (name_of z)) e)

-- ---- who overrides one method directly

-- the second is open to the first: it is open to all, or the first is in its package
open_case : (cs : List ClassFile) (y m : Place) (o : Option Member) → option_map_or (λ k. is_public k || is_protected k || (is_package_private k && are_in_one_package cs m.0 y.0)) o false
    ≡ (option_map_or (λ k. is_public k || is_protected k) o false || (option_map_or is_package_private o false && are_in_one_package cs m.0 y.0))
open_case cs y m None = refl
open_case cs y m (Some k) = refl

pub directly_is : (cs : List ClassFile) (m y : Place) → overrides_directly cs m y ≡ (is_virtual cs m && is_virtual cs y && (is_method_with (λ k. is_public k || is_protected k) cs y || is_near cs m y))
directly_is cs m y = ap (λ b. is_virtual cs m && is_virtual cs y && b) (open_case cs y m (method_at cs y))

-- ---- the algebra of one step: v is whether the first method is virtual, w whether the resolved one is

-- a method that joins by way of others
join_over : (v vx w free wx px pm pa na nm : Bool) → vx ≡ true → w ≡ true → (free || (pa && na)) ≡ true → (pm ≡ true → na ≡ true → nm ≡ true)
    → ((v && vx && (wx || (px && pm))) || (true && (v && (w && (free || (pa && nm)))))) ≡ (true && (v && (w && ((free || (vx && wx)) || (pa && nm)))))
join_over false vx w free wx px pm pa na nm h e j t = none vx
  where
    none : (x : Bool) → ((false && x && (wx || (px && pm))) || false) ≡ false
    none true = refl
    none false = refl
join_over true true true true wx px pm pa na nm h e j t = or_true (true && true && (wx || (px && pm)))
  where
    or_true : (x : Bool) → (x || true) ≡ true
    or_true true = refl
    or_true false = refl
join_over true true true false true px pm pa na nm h e j t = refl
join_over true true true false false px true true true nm h e j t = subst (λ b. (((px && true) || b)) ≡ b) (sym (t refl refl)) (or_true (px && true))
  where
    or_true : (x : Bool) → (x || true) ≡ true
    or_true true = refl
    or_true false = refl
join_over true true true false false true false true true nm h e j t = refl
join_over true true true false false false false true true nm h e j t = refl
join_over true true true false false px pm false na nm h e j t = absurd (false≢true j)
join_over true true true false false px pm true false nm h e j t = absurd (false≢true j)
join_over true true false free wx px pm pa na nm h e j t = absurd (false≢true e)
join_over true false w free wx px pm pa na nm h e j t = absurd (false≢true h)

-- the resolved method itself
self_over : (v w free wa near found : Bool) → (found ≡ false → free ≡ false)
    → ((v && w && (wa || near)) || (found && (v && (w && (free || near))))) ≡ (true && (v && (w && ((free || (w && wa)) || near))))
self_over false w free wa near found c = none w found
  where
    none : (x y : Bool) → ((false && x && (wa || near)) || (y && false)) ≡ false
    none true true = refl
    none true false = refl
    none false true = refl
    none false false = refl
self_over true false free wa near found c = none found
  where
    none : (y : Bool) → (false || (y && (true && (false && (free || near))))) ≡ false
    none true = refl
    none false = refl
self_over true true true wa near true c = or_true (wa || near)
  where
    or_true : (x : Bool) → (x || true) ≡ true
    or_true true = refl
    or_true false = refl
self_over true true true wa near false c = absurd (false≢true (sym (c refl)))
self_over true true false true near true c = refl
self_over true true false false true true c = refl
self_over true true false false false true c = refl
self_over true true false true near false c = refl
self_over true true false false true false c = refl
self_over true true false false false false c = refl

-- ---- one step

pub joined : (cs : List ClassFile) (a x : Place) (ms : List Place) (found : Option Place) (free : Bool) → AreReached cs a ms found free → is_joining cs a (is_some found) free x ≡ true → overriding cs a (x ∷ ms) ≡ x ∷ overriding cs a ms
joined cs a x ms found free r h =
    cond-true (same_place x a || list_any (overrides_directly cs x) (overriding cs a ms)) (x ∷ overriding cs a ms) (overriding cs a ms) (ap (λ b. same_place x a || b) (r.over x) ∙ h)

four : (f v w j : Bool) → (f && (v && (w && j))) ≡ true → (f ≡ true) × (v ≡ true) × (w ≡ true) × (j ≡ true)
four true true true true h = (refl, refl, refl, refl)
four true true true false h = absurd (false≢true h)
four true true false j h = absurd (false≢true h)
four true false w j h = absurd (false≢true h)
four false v w j h = absurd (false≢true h)

over_self : (cs : List ClassFile) (a m : Place) (ms : List Place) (found : Option Place) (free : Bool) → AreReached cs a ms found free
    → (overrides_directly cs m a || list_any (overrides_directly cs m) (overriding cs a ms)) ≡ (true && (is_virtual cs m && (is_virtual cs a && ((free || is_open cs a) || is_near cs m a))))
over_self cs a m ms found free r =
    ap₂ (λ b c. b || c) (directly_is cs m a) (r.over m)
    ∙ self_over (is_virtual cs m) (is_virtual cs a) free (is_method_with (λ k. is_public k || is_protected k) cs a) (is_near cs m a) (is_some found) r.closed

over_other : (cs : List ClassFile) (a x m : Place) (ms : List Place) (found : Option Place) (free : Bool) → AreReached cs a ms found free
    → (is_some found && (is_virtual cs x && (is_virtual cs a && (free || is_near cs x a)))) ≡ true
    → (overrides_directly cs m x || list_any (overrides_directly cs m) (overriding cs a ms)) ≡ (true && (is_virtual cs m && (is_virtual cs a && ((free || is_open cs x) || is_near cs m a))))
over_other cs a x m ms found free r h =
    let p = four (is_some found) (is_virtual cs x) (is_virtual cs a) (free || is_near cs x a) h in
    ap₂ (λ b c. b || c) (directly_is cs m x) (r.over m ∙ ap (λ f. f && (is_virtual cs m && (is_virtual cs a && (free || is_near cs m a)))) p.0)
    ∙ join_over (is_virtual cs m) (is_virtual cs x) (is_virtual cs a) free (is_method_with (λ k. is_public k || is_protected k) cs x) (is_method_with is_package_private cs x) (are_in_one_package cs m.0 x.0)
    (is_method_with is_package_private cs a) (are_in_one_package cs x.0 a.0) (are_in_one_package cs m.0 a.0) p.1 p.2 p.3
    (λ t u. package_through (slice_get cs m.0) (slice_get cs x.0) (slice_get cs a.0) t u)

over_more : (cs : List ClassFile) (a x m : Place) (ms : List Place) (found : Option Place) (free : Bool) → AreReached cs a ms found free → is_joining cs a (is_some found) free x ≡ true
    → (overrides_directly cs m x || list_any (overrides_directly cs m) (overriding cs a ms)) ≡ (true && (is_virtual cs m && (is_virtual cs a && ((free || is_open cs x) || is_near cs m a))))
over_more cs a x m ms found free r h =
    elim (or_cases (same_place x a) (is_some found && (is_virtual cs x && (is_virtual cs a && (free || is_near cs x a)))) h) [
      | inl e ↦
          let same = place_same x a e in
          subst (λ (y : Place). (overrides_directly cs m y || list_any (overrides_directly cs m) (overriding cs a ms)) ≡ (true && (is_virtual cs m && (is_virtual cs a && ((free || is_open cs y) || is_near cs m a)))))
          (sym same) (over_self cs a m ms found free r)
      | inr e ↦ over_other cs a x m ms found free r e
    ]

pub reached_more : (cs : List ClassFile) (a x : Place) (ms : List Place) (found : Option Place) (free next : Bool) → AreReached cs a ms found free → is_joining cs a (is_some found) free x ≡ true → next ≡ (free || is_open cs x)
    → AreReached cs a (x ∷ ms) (Some x) next
reached_more cs a x ms found free next r h e =
    let j = joined cs a x ms found free r h in
    subst (λ b. AreReached cs a (x ∷ ms) (Some x) b) (sym e) (record {
      first = sym (ap head j);
      over = λ m. ap (list_any (overrides_directly cs m)) j ∙ over_more cs a x m ms found free r h;
      closed = λ t. absurd (false≢true (sym t));
    })

-- ---- as the code goes through the list

pub back_one : (find : ℕ → Option Place) (xs : List ℕ) (i : ℕ) (x : Place) → 0 < i → i ≤ length xs → Some x ≡ find (get_or xs (i - 1) 0) → x ∷ filter_map find (drop i xs) ≡ filter_map find (drop (i - 1) xs)
back_one find xs i x some le h =
    let within : i - 1 < length xs = omega (arith, some, le) in
    let next : suc (i - 1) ≡ i = omega (arith, some) in
    ap (λ o. cons_option o (filter_map find (drop i xs))) h
    ∙ sym (ap (filter_map find) (drop-cons xs (i - 1) 0 within ∙ ap (λ k. get_or xs (i - 1) 0 ∷ drop k xs) next))
