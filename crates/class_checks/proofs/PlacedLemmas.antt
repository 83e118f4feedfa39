-- Classes from a class upwards, and methods of one name and descriptor.
use Rattle.std.proofs.Common.{◌≡◌, ℕ, zero, suc, ◌+◌, ◌-◌, ◌<◌, ◌≤◌, Bool, true, false, not, ◌&&◌, ◌||◌, List, [], ◌∷◌, ◌++◌, length, drop, get_or, Option, Some, None, refl, sym, ap, ap₂, ◌∙◌, arith, append_assoc}
use Rattle.std.specs.Prelude.{if◌then◌else◌}
use Rattle.std.specs.Option.{option_map_or, option_to_list}
use Rattle.std.specs.List.{flat_map, list_any}
use Rattle.std.proofs.lemmas.Bool.{false≢true, true≢false}
use Rattle.std.proofs.lemmas.List.{append-nil}
use Rattle.std.proofs.lemmas.List.Folds.{list_any-append}
use Rattle.std.proofs.Math.Seq.{drop-cons}
use Rattle.lists.specs.Numbers.{reached}
use Rattle.class_pool.specs.declared.class.ClassFile.{ClassFile}
use Rattle.class_lookup.specs.Hierarchy.{superclass, superclasses}
use Rattle.class_lookup.specs.Lookup.{Place, same_place}
use Rattle.class_lookup.specs.Parts.{is_final}
use Rattle.class_lookup.specs.Selection.{is_method_with, overrides_directly, overriding}
use Rattle.class_lookup.proofs.Overriding.{place_same, same_is_place}

-- ---- superclasses

-- what still stands upwards, over at most so many classes
abbrev pub still : List ClassFile → (most : ℕ) → (next : Option ℕ) → List ℕ
still cs n next = option_map_or (reached (λ k. option_to_list (superclass cs k)) n) next []

parts_of_one : (f : ℕ → List ℕ) (o : Option ℕ) → flat_map f (option_to_list o) ≡ option_map_or f o []
parts_of_one f None = refl
parts_of_one f (Some x) = append-nil (f x)

pub begins : (cs : List ClassFile) (c count : ℕ) → count ≡ length cs → still cs (count - 0) (Some c) ≡ superclasses cs c
unfolding superclasses
begins cs c count e = let all : count - 0 ≡ length cs = omega arith in ap (λ (n : ℕ). reached (λ k. option_to_list (superclass cs k)) n c) all

pub one_upwards : (cs : List ClassFile) (found : List ℕ) (count i at : ℕ) (total : List ℕ) → i < count → found ++ still cs (count - i) (Some at) ≡ total
    → (found ++ at ∷ []) ++ still cs (count - (i + 1)) (superclass cs at) ≡ total
one_upwards cs found count i at total lt so_far =
    let n = count - (i + 1) in
    let k : count - i ≡ suc n = omega arith in
    let step : still cs (count - i) (Some at) ≡ at ∷ still cs n (superclass cs at)
    = ap (λ (m : ℕ). reached (λ k. option_to_list (superclass cs k)) m at) k ∙ ap (λ (ys : List ℕ). at ∷ ys) (parts_of_one (reached (λ k. option_to_list (superclass cs k)) n) (superclass cs at)) in
    append_assoc found (at ∷ []) (still cs n (superclass cs at)) ∙ (ap (λ (ys : List ℕ). found ++ ys) (sym step) ∙ so_far)

pub ends_above : (cs : List ClassFile) (found : List ℕ) (n : ℕ) (total : List ℕ) → found ++ still cs n None ≡ total → found ≡ total
ends_above cs found n total so_far = sym (append-nil found) ∙ so_far

ends_case : (cs : List ClassFile) (next : Option ℕ) → still cs 0 next ≡ []
ends_case cs None = refl
ends_case cs (Some x) = refl

pub ends : (cs : List ClassFile) (found : List ℕ) (count i : ℕ) (next : Option ℕ) (total : List ℕ) → count ≤ i → found ++ still cs (count - i) next ≡ total → found ≡ total
ends cs found count i next total le so_far =
    let k : count - i ≡ 0 = omega arith in
    sym (append-nil found) ∙ (ap (λ (ys : List ℕ). found ++ ys) (sym (ap (λ (n : ℕ). still cs n next) k ∙ ends_case cs next)) ∙ so_far)

-- ---- the methods that a method overrides

-- it is the method itself, or one of those that joined overrides it without another between
abbrev pub is_joining : List ClassFile → (m : Place) → (joined : List Place) → Place → Bool
is_joining cs m joined q = same_place m q || list_any (λ r. overrides_directly cs r q) joined

-- a final method is overridden by one that is the method, or that one of those that joined overrides, among these
abbrev pub passes : List ClassFile → (m : Place) → (joined ms : List Place) → (a : Place) → Bool
passes cs m joined ms a = is_method_with is_final cs a && (not (same_place m a) && list_any (is_joining cs m joined) (overriding cs a ms))

pub any_same : {X : Type 0} (p q : X → Bool) → ((x : X) → p x ≡ q x) → (xs : List X) → list_any p xs ≡ list_any q xs
any_same p q h [] = refl
any_same p q h (x ∷ xs) = ap₂ (λ (a b : Bool). a || b) (h x) (any_same p q h xs)

or_end : (b : Bool) → (b || false) ≡ b
or_end true = refl
or_end false = refl

-- none has joined
pub passes_first : (cs : List ClassFile) (m : Place) (ms : List Place) (a : Place)
    → passes cs m [] ms a ≡ (is_method_with is_final cs a && (not (same_place m a) && list_any (same_place m) (overriding cs a ms)))
passes_first cs m ms a = ap (λ b. is_method_with is_final cs a && (not (same_place m a) && b)) (any_same (is_joining cs m []) (same_place m) (λ q. or_end (same_place m q)) (overriding cs a ms))

-- one more has joined
shuffle : (a b c d e : Bool) → ((a || (b || c)) || (d || e)) ≡ (((a || b) || d) || (c || e))
shuffle true b c d e = refl
shuffle false true c d e = refl
shuffle false false true true e = refl
shuffle false false true false e = refl
shuffle false false false d e = refl

join_more : (cs : List ClassFile) (m p q : Place) (joined : List Place) → is_joining cs m (joined ++ p ∷ []) q ≡ (same_place m q || (list_any (λ r. overrides_directly cs r q) joined || overrides_directly cs p q))
join_more cs m p q joined =
    ap (λ b. same_place m q || b) (list_any-append (λ r. overrides_directly cs r q) joined (p ∷ []) ∙ ap (λ b. list_any (λ r. overrides_directly cs r q) joined || b) (or_end (overrides_directly cs p q)))

any_join : (cs : List ClassFile) (m p : Place) (joined qs : List Place) → list_any (is_joining cs m (joined ++ p ∷ [])) qs ≡ (list_any (is_joining cs m joined) qs || list_any (overrides_directly cs p) qs)
any_join cs m p joined [] = refl
any_join cs m p joined (q ∷ qs) =
    ap₂ (λ (a b : Bool). a || b) (join_more cs m p q joined) (any_join cs m p joined qs)
    ∙ shuffle (same_place m q) (list_any (λ r. overrides_directly cs r q) joined) (overrides_directly cs p q) (list_any (is_joining cs m joined) qs) (list_any (overrides_directly cs p) qs)

not_joined : (cs : List ClassFile) (m p : Place) (joined above : List Place) (b : Bool) → is_joining cs m joined p ≡ false → list_any (is_joining cs m joined) (if b then p ∷ above else above) ≡ list_any (is_joining cs m joined) above
not_joined cs m p joined above true h = ap (λ b. b || list_any (is_joining cs m joined) above) h
not_joined cs m p joined above false h = refl

-- the next doesn't join
pub passes_over : (cs : List ClassFile) (m p : Place) (joined ms : List Place) → is_joining cs m joined p ≡ false → (a : Place) → passes cs m joined (p ∷ ms) a ≡ passes cs m joined ms a
passes_over cs m p joined ms h a =
    ap (λ b. is_method_with is_final cs a && (not (same_place m a) && b)) (not_joined cs m p joined (overriding cs a ms) (same_place p a || list_any (overrides_directly cs p) (overriding cs a ms)) h)

joined_case : (cs : List ClassFile) (m p : Place) (joined above : List Place) (b : Bool) → list_any (overrides_directly cs p) above ≡ b → is_joining cs m joined p ≡ true
    → list_any (is_joining cs m joined) (if b then p ∷ above else above) ≡ list_any (is_joining cs m (joined ++ p ∷ [])) above
joined_case cs m p joined above b e h = by b e ∙ sym (any_join cs m p joined above)
  where
    or_true : (x : Bool) → true ≡ (x || true)
    or_true true = refl
    or_true false = refl

    by : (b : Bool) → list_any (overrides_directly cs p) above ≡ b → list_any (is_joining cs m joined) (if b then p ∷ above else above) ≡ (list_any (is_joining cs m joined) above || list_any (overrides_directly cs p) above)
    by true e = ap (λ x. x || list_any (is_joining cs m joined) above) h ∙ (or_true (list_any (is_joining cs m joined) above) ∙ ap (λ x. list_any (is_joining cs m joined) above || x) (sym e))
    by false e = sym (or_end (list_any (is_joining cs m joined) above)) ∙ ap (λ x. list_any (is_joining cs m joined) above || x) (sym e)

no_final : (f n x : Bool) → (f && n) ≡ false → (f && (n && x)) ≡ false
no_final false n x h = refl
no_final true false x h = refl
no_final true true x h = absurd (true≢false h)

through_case : (cs : List ClassFile) (m p a : Place) (joined ms : List Place) (b : Bool) → same_place p a ≡ b → is_joining cs m joined p ≡ true → (is_method_with is_final cs p && not (same_place m p)) ≡ false
    → (is_method_with is_final cs a && (not (same_place m a) && list_any (is_joining cs m joined) (if b || list_any (overrides_directly cs p) (overriding cs a ms) then p ∷ overriding cs a ms else overriding cs a ms)))
    ≡ passes cs m (joined ++ p ∷ []) ms a
through_case cs m p a joined ms true e h g =
    let same : p ≡ a = place_same p a e in
    let none = ap (λ (x : Place). is_method_with is_final cs x && not (same_place m x)) (sym same) ∙ g in
    no_final (is_method_with is_final cs a) (not (same_place m a)) (list_any (is_joining cs m joined) (p ∷ overriding cs a ms)) none
    ∙ sym (no_final (is_method_with is_final cs a) (not (same_place m a)) (list_any (is_joining cs m (joined ++ p ∷ [])) (overriding cs a ms)) none)
through_case cs m p a joined ms false e h g =
    ap (λ b. is_method_with is_final cs a && (not (same_place m a) && b)) (joined_case cs m p joined (overriding cs a ms) (list_any (overrides_directly cs p) (overriding cs a ms)) refl h)

-- the next joins and isn't final
pub passes_through : (cs : List ClassFile) (m p : Place) (joined ms : List Place) → is_joining cs m joined p ≡ true → (is_method_with is_final cs p && not (same_place m p)) ≡ false → (a : Place)
    → passes cs m joined (p ∷ ms) a ≡ passes cs m (joined ++ p ∷ []) ms a
passes_through cs m p joined ms h g a = through_case cs m p a joined ms (same_place p a) refl h g

final_parts : (f n x : Bool) → (f && n) ≡ true → x ≡ true → (f && (n && x)) ≡ true
final_parts true true x h e = e
final_parts true false x h e = absurd (false≢true h)
final_parts false n x h e = absurd (false≢true h)

-- the next joins and is final
pub passes_here : (cs : List ClassFile) (m p : Place) (joined ms : List Place) → is_joining cs m joined p ≡ true → (is_method_with is_final cs p && not (same_place m p)) ≡ true → passes cs m joined (p ∷ ms) p ≡ true
passes_here cs m p joined ms h g =
    final_parts (is_method_with is_final cs p) (not (same_place m p)) (list_any (is_joining cs m joined) (overriding cs p (p ∷ ms))) g
    (ap (λ b. list_any (is_joining cs m joined) (if b || list_any (overrides_directly cs p) (overriding cs p ms) then p ∷ overriding cs p ms else overriding cs p ms)) (same_is_place p p refl)
    ∙ ap (λ b. b || list_any (is_joining cs m joined) (overriding cs p ms)) h)

pub any_at : {X : Type 0} (f : X → Bool) (xs : List X) (i : ℕ) (d : X) → i < length xs → f (get_or xs i d) ≡ true → list_any f xs ≡ true
any_at f [] i d lt h = absurd (omega (arith, lt))
any_at f (x ∷ xs) zero d lt h = ap (λ b. b || list_any f xs) h
any_at f (x ∷ xs) (suc i) d lt h = or_right (f x) (list_any f xs) (any_at f xs i d (omega (arith, lt)) h)
  where
    or_right : (a b : Bool) → b ≡ true → (a || b) ≡ true
    or_right true b h = refl
    or_right false b h = h

-- at a place of the methods
pub split_at : (ms : List Place) (i : ℕ) (d : Place) → i < length ms → drop i ms ≡ get_or ms i d ∷ drop (i + 1) ms
split_at ms i d lt = let n : suc i ≡ i + 1 = omega arith in drop-cons ms i d lt ∙ ap (λ k. get_or ms i d ∷ drop k ms) n

none_left : (cs : List ClassFile) (m : Place) (joined : List Place) (a : Place) → passes cs m joined [] a ≡ false
none_left cs m joined a = two (is_method_with is_final cs a) (not (same_place m a))
  where
    two : (f n : Bool) → (f && (n && false)) ≡ false
    two true true = refl
    two true false = refl
    two false n = refl

pub passes_none : (cs : List ClassFile) (m : Place) (joined ms xs : List Place) → ms ≡ [] → list_any (passes cs m joined ms) xs ≡ false
passes_none cs m joined ms [] e = refl
passes_none cs m joined ms (x ∷ xs) e = ap₂ (λ (a b : Bool). a || b) (ap (λ ys. passes cs m joined ys x) e ∙ none_left cs m joined x) (passes_none cs m joined ms xs e)
