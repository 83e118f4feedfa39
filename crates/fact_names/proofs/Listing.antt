-- Lines by the numbers of their names.
use Rattle.std.proofs.Common.{◌≡◌, ℕ, zero, suc, ◌+◌, ◌<◌, ◌≤◌, Bool, true, not, List, [], ◌∷◌, ◌++◌, length, get_or, All, Contains, Some, None, refl, sym, ap, ap₂, ◌∙◌, subst, inl, inr, arith, Vec, Global, cond}
use Rattle.std.specs.Prelude.{nat_eq, nat_lt, slice_get, if◌then◌else◌}
use Rattle.std.specs.List.{position, position_or_len, list_any}
use Rattle.std.proofs.lemmas.Bool.{cases_eq, cases_lt, cases_Bool, cond_below}
use Rattle.std.proofs.lemmas.List.{length-map, length-append}
use Rattle.std.proofs.lemmas.List.Elements.{All-from_get_or, Contains-get_or, Contains-append_left, Contains-push, Contains-push_cases}
use Rattle.std.proofs.lemmas.List.Quantifiers.{position-Some}
use Rattle.std.proofs.lemmas.Option.{slice_get_within}
use Rattle.lists.specs.Members.{nil_contains}
use Rattle.indexmap.specs.IndexSet.{insert_key}
use lib.Pointwise.{pointwise, bytes_decides}
use Rattle.bound_texts.proofs.LoopsLemmas.NameLemmas.{texts, same_text, IsGrown}
use Rattle.flow_facts.specs.declared.line.NumberedFact.{NumberedFact}
use Rattle.fact_names.specs.Found.{AreLinesOf, name_said}
use Rattle.fact_names.specs.Index.{AreNumbered, Index, IsIndexOf, IsNumberOf}
use Rattle.fact_names.specs.Reach.{list_at}
use Rattle.fact_names.proofs.Looping.{listed, from_listed}

pub none_numbered : (lines : List NumberedFact) → AreNumbered lines 0 [] []
none_numbered lines = record {
  apart = λ i j lt lt' e. absurd (omega arith);
  few = omega arith;
  numbers_are = λ e has. absurd (nil_contains e has);
  each = λ i lt. absurd (omega arith);
}

pub one_more : (ks : List (Vec ℕ Global)) (name : Vec ℕ Global) → length (texts (insert_key same_text ks name)) ≤ suc (length (texts ks))
one_more ks name =
    let items = λ (k : Vec ℕ Global). k.items in
    elim (cases_Bool (list_any (same_text name) ks)) [
      | inl e ↦
          let is : insert_key same_text ks name ≡ ks = ap (λ (b : Bool). if b then ks else ks ++ name ∷ []) e in
          let l = ap (λ (xs : List (Vec ℕ Global)). length (texts xs)) is in
          omega arith
      | inr e ↦
          let is : insert_key same_text ks name ≡ ks ++ name ∷ [] = ap (λ (b : Bool). if b then ks else ks ++ name ∷ []) e in
          let l = ap (λ (xs : List (Vec ℕ Global)). length (texts xs)) is in
          let a = length-map (ks ++ name ∷ []) items in
          let b = length-append ks (name ∷ []) in
          let d = length-map ks items in
          omega arith
    ]

module _ (lines : List NumberedFact) where
  pub next_numbered : (n : ℕ) (names more : List (List ℕ)) (numbers : List (ℕ × ℕ)) (k : ℕ) (name : List ℕ) (line : NumberedFact)
      → AreNumbered lines n names numbers → IsGrown names more k name → length more ≤ suc (length names) → slice_get lines n ≡ Some line → name ≡ name_said line.fact
      → AreNumbered lines (n + 1) more (numbers ++ (n, k) ∷ [])
  next_numbered n names more numbers k name line a g less there is = record {
    apart = g.apart;
    few = let f = a.few in omega arith;
    numbers_are = λ e has.
        elim (Contains-push_cases numbers (n, k) e has) [
          | inl old ↦
              let x = a.numbers_are e old in
              let below = x.below in
              let named = x.named in
              let longer = g.longer in
              record { below = omega arith; named = omega arith; line = x.line; there = x.there; name_is = g.kept e.1 named ∙ x.name_is }
          | inr same ↦ subst (IsNumberOf lines (n + 1) more) same (record { below = omega arith; named = g.within; line = line; there = there; name_is = g.here ∙ is })
        ];
    each = λ i lt.
        elim (cases_eq i n) [
          | inl same ↦
              let P : ℕ → Type 0 = λ z. Contains (numbers ++ (n, k) ∷ []) (z, k) in
              (k, subst P (sym same) (Contains-push numbers (n, k)))
          | inr other ↦ let x = a.each i (omega arith) in (x.0, Contains-append_left numbers ((n, k) ∷ []) (i, x.0) x.1)
        ];
  }

  pub numbers_within : (n m : ℕ) (names : List (List ℕ)) (numbers : List (ℕ × ℕ)) → AreNumbered lines n names numbers → m ≡ length names → All (λ e. e.1 < m) numbers
  numbers_within n m names numbers a same = All-from_get_or (λ e. e.1 < m) numbers (0, 0) (λ i lt. let x = (a.numbers_are (get_or numbers i (0, 0)) (Contains-get_or numbers i (0, 0) lt)).named in omega arith)

  same_line : (i : ℕ) (a b : NumberedFact) → slice_get lines i ≡ Some a → slice_get lines i ≡ Some b → a ≡ b
  same_line i a b ea eb = cc

  module _ (index : Index) (x : IsIndexOf lines index) (name : List ℕ) where
    -- the number of a line's name
    number_of : (i : ℕ) (l : NumberedFact) → slice_get lines i ≡ Some l → name_said l.fact ≡ name
        → (number : ℕ) × Contains x.numbers (i, number) × (number < length index.names) × (get_or index.names number [] ≡ name)
    number_of i l there said =
        let e = x.numbered.each i (slice_get_within lines i l there) in
        let n = x.numbered.numbers_are (i, e.0) e.1 in
        (e.0, e.1, n.named, n.name_is ∙ ap (λ (z : NumberedFact). name_said z.fact) (same_line i n.line l n.there there) ∙ said)

    pub own_lines : (number : ℕ) → number < length index.names → get_or index.names number [] ≡ name → AreLinesOf lines name (list_at index.lists number)
    own_lines number lt is = λ i. (
      λ has.
          let n = x.numbered.numbers_are (i, number) (from_listed x.numbers (length index.names) index.lists x.lists_are i number has) in
          (n.line, n.there, sym n.name_is ∙ is),
      λ l.
          let n = number_of i l.0 l.1 l.2 in
          let same : n.0 ≡ number = x.numbered.apart n.0 number n.2 lt (n.3 ∙ sym is) in
          listed x.numbers (length index.names) index.lists x.lists_are i number lt (subst (λ (z : ℕ). Contains x.numbers (i, z)) same n.1),
    )

    pub no_lines : ((number : ℕ) → number < length index.names → get_or index.names number [] ≡ name → ⊥) → AreLinesOf lines name []
    no_lines never = λ i. (λ has. absurd (nil_contains i has), λ l. let n = number_of i l.0 l.1 l.2 in absurd (never n.0 n.2 n.3))

position_or_len-texts : (p : List ℕ → Bool) (ks : List (Vec ℕ Global)) → position_or_len (λ k. p k.items) ks ≡ position_or_len p (texts ks)
position_or_len-texts p [] = refl
position_or_len-texts p (k ∷ ks) = ap (λ n. cond (not (p k.items)) (1 + n) 0) (position_or_len-texts p ks)

position-texts : (p : List ℕ → Bool) (ks : List (Vec ℕ Global)) → position (λ k. p k.items) ks ≡ position p (texts ks)
position-texts p ks = ap₂ (λ n m. cond (nat_lt n m) (Some n) None) (position_or_len-texts p ks) (sym (length-map ks (λ (k : Vec ℕ Global). k.items)))

passed : (p : List ℕ → Bool) (xs : List (List ℕ)) → length xs ≤ position_or_len p xs → (i : ℕ) → i < length xs → p (get_or xs i []) ≡ true → ⊥
passed p [] h i lt at = omega arith
passed p (x ∷ xs) h zero lt at = omega (arith, subst (λ (b : Bool). length (x ∷ xs) ≤ cond (not b) (1 + position_or_len p xs) 0) at h)
passed p (x ∷ xs) h (suc i) lt at = elim (cases_Bool (p x)) [
  | inl e ↦ omega (arith, subst (λ (b : Bool). length (x ∷ xs) ≤ cond (not b) (1 + position_or_len p xs) 0) e h)
  | inr e ↦ passed p xs (omega (arith, subst (λ (b : Bool). length (x ∷ xs) ≤ cond (not b) (1 + position_or_len p xs) 0) e h)) i (omega arith) at
]

pub found_name : (ks : List (Vec ℕ Global)) (name : List ℕ) (i : ℕ) → Some i ≡ position (λ k. pointwise nat_eq name k.items) ks
    → (i < length (texts ks)) × (get_or (texts ks) i [] ≡ name)
found_name ks name i e =
    let at = position-Some (pointwise nat_eq name) (texts ks) i [] (sym (e ∙ position-texts (pointwise nat_eq name) ks)) in
    (at.0, sym ((bytes_decides name (get_or (texts ks) i [])).0 at.1))

-- where no name is found, none is there
pub no_name : (ks : List (Vec ℕ Global)) (name : List ℕ) → None ≡ position (λ k. pointwise nat_eq name k.items) ks → (i : ℕ) → i < length (texts ks) → get_or (texts ks) i [] ≡ name → ⊥
no_name ks name e i lt is =
    let p = pointwise nat_eq name in
    let at = position_or_len p (texts ks) in
    let absent : None ≡ position p (texts ks) = e ∙ position-texts p ks in
    elim (cases_lt at (length (texts ks))) [
      | inl h ↦ (let found : Some at ≡ position p (texts ks) = cond_below at (length (texts ks)) (Some at) None h in let bad : Some at ≡ None = found ∙ sym absent in absurd cc)
      | inr h ↦ passed p (texts ks) h i lt ((bytes_decides name (get_or (texts ks) i [])).1 (sym is))
    ]
