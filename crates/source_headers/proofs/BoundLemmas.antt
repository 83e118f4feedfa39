-- Lists of bounds, of which no two are of one loop.
use Rattle.std.proofs.Common.{◌≡◌, ℕ, ◌<◌, Bool, true, false, ◌&&◌, List, [], ◌∷◌, ◌++◌, Contains, refl, sym, ◌∙◌, ap, ap₂, arith, Option, Some, None, inl, inr, eqb}
use Rattle.std.specs.Prelude.{nat_eq, if◌then◌else◌}
use Rattle.std.specs.List.{filter_map, cons_option}
use Rattle.std.proofs.lemmas.Bool.{eqb-true, eq-eqb}
use lib.Pointwise.{pointwise, bytes_decides}
use Rattle.lists.proofs.Lemmas.{none≢some, some_same}
use Rattle.lists.specs.Members.{at_head, in_tail, cons_cases, nil_contains}
use Rattle.lists.specs.Tests.{and_left, and_right}
use Rattle.bound_texts.specs.Loops.Bounds.{LoopBound, bound_in, AreOfDifferentLoops}
use Rattle.source_headers.proofs.GatherLemmas.{mapped_contains}

-- the bound is of the loop
pub record IsOf (text : List ℕ) (place : ℕ) (b : LoopBound) : Type 0 where
  pub name : b.name ≡ text
  pub pc : b.pc ≡ place

same_is : (name : List ℕ) (pc : ℕ) (b : LoopBound) → (pointwise nat_eq name b.name && eqb pc b.pc) ≡ true → IsOf name pc b
same_is name pc b h = record {
  name = sym ((bytes_decides name b.name).0 (and_left (pointwise nat_eq name b.name) (eqb pc b.pc) h));
  pc = sym (eqb-true pc b.pc (and_right (pointwise nat_eq name b.name) (eqb pc b.pc) h));
}

is_the_same : (name : List ℕ) (pc : ℕ) (b : LoopBound) → IsOf name pc b → (pointwise nat_eq name b.name && eqb pc b.pc) ≡ true
is_the_same name pc b h = ap₂ (λ (x y : Bool). x && y) ((bytes_decides name b.name).1 (sym h.name)) (eq-eqb pc b.pc (sym h.pc))

-- ---- the first that is given

pub record IsFirstOf (name : List ℕ) (pc n : ℕ) (bs : List LoopBound) : Type 0 where
  pub given : LoopBound
  pub among : Contains bs given
  pub is : IsOf name pc given
  pub bound : given.bound ≡ n

first_case : (name : List ℕ) (pc n : ℕ) (b : LoopBound) (bs : List LoopBound) (t : Bool) → (pointwise nat_eq name b.name && eqb pc b.pc) ≡ t
    → (if t then Some b.bound else bound_in name pc bs) ≡ Some n → (bound_in name pc bs ≡ Some n → IsFirstOf name pc n bs) → IsFirstOf name pc n (b ∷ bs)
first_case name pc n b bs true e h later = record { given = b; among = at_head b bs; is = same_is name pc b e; bound = some_same b.bound n h }
first_case name pc n b bs false e h later =
    let f = later h in record { given = f.given; among = in_tail b f.given bs f.among; is = f.is; bound = f.bound }

pub first_is : (name : List ℕ) (pc n : ℕ) (bs : List LoopBound) → bound_in name pc bs ≡ Some n → IsFirstOf name pc n bs
first_is name pc n [] h = absurd (none≢some n h)
first_is name pc n (b ∷ bs) h = first_case name pc n b bs (pointwise nat_eq name b.name && eqb pc b.pc) refl h (first_is name pc n bs)

absent_case : (name : List ℕ) (pc : ℕ) (b : LoopBound) (bs : List LoopBound) (t : Bool) → (pointwise nat_eq name b.name && eqb pc b.pc) ≡ t → (IsOf name pc b → ⊥) → bound_in name pc bs ≡ None
    → (if t then Some b.bound else bound_in name pc bs) ≡ None
absent_case name pc b bs true e not rest = absurd (not (same_is name pc b e))
absent_case name pc b bs false e not rest = rest

-- none is of the loop
pub none_given : (name : List ℕ) (pc : ℕ) (bs : List LoopBound) → ((b : LoopBound) → Contains bs b → IsOf name pc b → ⊥) → bound_in name pc bs ≡ None
none_given name pc [] h = refl
none_given name pc (b ∷ bs) h =
    absent_case name pc b bs (pointwise nat_eq name b.name && eqb pc b.pc) refl (h b (at_head b bs)) (none_given name pc bs (λ x c. h x (in_tail b x bs c)))

apart_of : (t : Bool) (v : ℕ) (r : Option ℕ) → (if t then Some v else r) ≡ None → (t ≡ false) × (r ≡ None)
apart_of true v r h = absurd (none≢some v (sym h))
apart_of false v r h = (refl, h)

-- one that is among them is of a loop that has a bound
pub not_absent : (b : LoopBound) (bs : List LoopBound) → Contains bs b → bound_in b.name b.pc bs ≡ None → ⊥
not_absent b [] c h = nil_contains b c
not_absent b (x ∷ bs) c h =
    let p = apart_of (pointwise nat_eq b.name x.name && eqb b.pc x.pc) x.bound (bound_in b.name b.pc bs) h in
    elim (cons_cases x b bs c) [
      | inl same ↦
          let is : IsOf b.name b.pc x = record { name = ap (λ (y : LoopBound). y.name) same; pc = ap (λ (y : LoopBound). y.pc) same } in
          let bad : true ≡ false = sym (is_the_same b.name b.pc x is) ∙ p.0 in
          absurd (let none : ⊥ = cc in none)
      | inr there ↦ not_absent b bs there p.1
    ]

-- ---- two lists

skip : (name : List ℕ) (pc : ℕ) (xs ys : List LoopBound) → bound_in name pc xs ≡ None → bound_in name pc (xs ++ ys) ≡ bound_in name pc ys
skip name pc [] ys h = refl
skip name pc (x ∷ xs) ys h =
    let p = apart_of (pointwise nat_eq name x.name && eqb pc x.pc) x.bound (bound_in name pc xs) h in
    ap (λ (t : Bool). if t then Some x.bound else bound_in name pc (xs ++ ys)) p.0 ∙ skip name pc xs ys p.1

pub both_different : (xs ys : List LoopBound) → AreOfDifferentLoops xs → AreOfDifferentLoops ys → ((x y : LoopBound) → Contains xs x → Contains ys y → y.name ≡ x.name → ⊥)
    → AreOfDifferentLoops (xs ++ ys)
both_different [] ys h k apart = k
both_different (x ∷ xs) ys h k apart = (
  skip x.name x.pc xs ys h.0 ∙ none_given x.name x.pc ys (λ y c is. apart x y (at_head x xs) c is.name),
  both_different xs ys h.1 k (λ z y c d. apart z y (in_tail x z xs c) d),
)

-- ---- bounds by places

-- each place is below those behind it
unfoldable pub ArePast : List ℕ → Type 0
ArePast [] = Unit {0}
ArePast (p ∷ ps) = ((q : ℕ) → Contains ps q → p < q) × ArePast ps

module _ (bound_at : ℕ → Option LoopBound) (at : (p : ℕ) (b : LoopBound) → bound_at p ≡ Some b → b.pc ≡ p) where
  one_more : (p : ℕ) (ps : List ℕ) (o : Option LoopBound) → bound_at p ≡ o → ((q : ℕ) → Contains ps q → p < q) → AreOfDifferentLoops (filter_map bound_at ps)
      → AreOfDifferentLoops (cons_option o (filter_map bound_at ps))
  one_more p ps None e past more = more
  one_more p ps (Some x) e past more = (
    none_given x.name x.pc (filter_map bound_at ps) (λ b c is.
        let r = (mapped_contains bound_at ps b).0 c in
        let here : x.pc ≡ p = at p x e in
        let there : b.pc ≡ r.0 = at r.0 b r.2 in
        let up : p < r.0 = past r.0 r.1 in
        omega (arith, here, there, is.pc, up)),
    more,
  )

  pub rising_different : (ps : List ℕ) → ArePast ps → AreOfDifferentLoops (filter_map bound_at ps)
  unfolding ArePast
  rising_different [] h = tt
  rising_different (p ∷ ps) h = one_more p ps (bound_at p) refl h.0 (rising_different ps h.1)
