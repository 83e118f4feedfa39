-- References as words: two are the same exactly where their words are, and none is null's (JVM Specification SE 8, 6.5.if_acmp<cond> and ifnull).
use Rattle.std.proofs.Common.{◌≡◌, ◌≢◌, ◌⊎◌, ⊎_elim, ℕ, zero, suc, ◌+◌, ◌<◌, ◌≤◌, Bool, true, false, ◌==◌, ◌||◌, nat_lt, List, [], ◌∷◌, ◌++◌, Option, Some, None, length, refl, sym, ◌∙◌, ap, subst, arith, eqb-true, eq-eqb}
use Rattle.std.specs.Prelude.{take, sum_by}
use Rattle.std.proofs.lemmas.List.{length-append}
use Rattle.std.proofs.lemmas.List.Sums.{sum_by-cons}
use Rattle.std.proofs.lemmas.Bool.{eqb-false, ne_eqb, cases_order, true≢false, false≢true}
use Rattle.std.proofs.lemmas.Bool.Decides.{nat_tests}
use Rattle.bytecode_model.specs.declared.Value.{Value}
use Rattle.bytecode_model.specs.declared.Value.TheVariants.{Int, Long, Ref, Null, Unset}
use Rattle.bytecode_model.specs.Types.{Kind, OfClass, OfNumbers, OfReferences, is_long}
use Rattle.bytecode_model.specs.State.{Object}
use Rattle.bytecode_model.specs.Program.{Program, kind_of}
use Rattle.bytecode_model.specs.Sizes.{object_words, header_words}
use Rattle.bytecode_model.specs.WellFormed.{IsValue, AreValues}
use Rattle.bytecode_model.specs.Effects.{Effect, Stuck, on, on_top, same, same_bool}
use Rattle.image_facts.specs.Within.{LieAt}
use Rattle.image_facts.specs.Places.{Places, AreFixed, object_place, objects_place, middle_place}
use Rattle.image_facts.specs.Says as image
use Rattle.image_facts.specs.Says.{Says, SaysAll, SaysLinked}
use Rattle.machine_stands.specs.Frames.{IsWordOf, AreOperands}
use Rattle.machine_stands.specs.Operands.{OneWordIsOnTop}

-- ---- objects lie apart

some_header : (k : Option Kind) → 1 ≤ header_words k
some_header None = omega arith
some_header (Some (OfClass c)) = omega arith
some_header (Some (OfNumbers a)) = omega arith
some_header (Some (OfReferences k)) = omega arith

one_more : (P : Program) (o : Object) (os : List Object) (q : ℕ) → sum_by (object_words P) (take (suc q) (o ∷ os)) ≡ object_words P o + sum_by (object_words P) (take q os)
one_more P o os q = sum_by-cons (object_words P) o (take q os)

later : (P : Program) (os : List Object) (p q : ℕ) → p < q → p < length os → sum_by (object_words P) (take p os) < sum_by (object_words P) (take q os)
later P [] p q before inside = absurd (omega arith)
later P (o ∷ os) p zero before inside = absurd (omega arith)
later P (o ∷ os) zero (suc q) before inside = omega (arith, one_more P o os q, some_header (kind_of P o))
later P (o ∷ os) (suc p) (suc q) before inside = let more = later P os p q (omega arith) (omega arith) in omega (arith, one_more P o os p, one_more P o os q)

pub place_tells : (P : Program) (pl : Places) (os : List Object) (p q : ℕ) → p < length os → q < length os → object_place P pl os p ≡ object_place P pl os q → p ≡ q
place_tells P pl os p q pin qin e =
    ⊎_elim (λ (same : p ≡ q). same)
    (λ (other : (p < q) ⊎ (q < p)). ⊎_elim (λ (h : p < q). absurd (omega (arith, later P os p q h pin, e))) (λ (h : q < p). absurd (omega (arith, later P os q p h qin, e))) other)
    (cases_order p q)

-- and none of them at 0, where the header is
lies_long : (whole : List ℕ) (place : ℕ) (words : List ℕ) → LieAt whole place words → length words ≤ length whole
lies_long whole place words l =
    omega (arith, ap length l.split, length-append l.before (words ++ l.after), length-append words l.after)

begins : (P : Program) (pl : Places) (words : List ℕ) → AreFixed P pl 0 words → length words ≤ objects_place P pl
begins P pl words h =
    ⊎_elim (λ (l : LieAt pl.front 0 words). omega (arith, lies_long pl.front 0 words l))
    (λ (b : (k : ℕ) × (0 ≡ middle_place P pl + k) × LieAt pl.middle k words). omega (arith, lies_long pl.middle b.0 words b.2)) h

linked_says : (linked : Bool) (P : Program) (pl : Places) → linked ≡ true → SaysAll linked P pl → SaysLinked P pl
linked_says linked P pl e h = let S : Bool → Type 0 = λ b. SaysAll b P pl in subst S e h

pub no_null : (P : Program) (pl : Places) (os : List Object) (p : ℕ) → Says P pl → P.linked ≡ true → object_place P pl os p ≢ 0
no_null P pl os p says linked none =
    let header = (linked_says P.linked P pl linked says.all).header in
    let long = begins P pl (image.header_words P pl) header in
    let some : 16 ≤ objects_place P pl = long in
    omega arith

-- ---- references that are compared

-- the answer is whether the words are the same
pub record Tells (b : Bool) (x y : ℕ) : Type 0 where
  pub alike : b ≡ true → x ≡ y
  pub apart : b ≡ false → x ≢ y

module _ (P : Program) (pl : Places) (os : List Object) (says : Says P pl) (linked : P.linked ≡ true) where
  by_words : (p q : ℕ) (x y : ℕ) → p < length os → q < length os → x ≡ object_place P pl os p → y ≡ object_place P pl os q → Tells (p == q) x y
  by_words p q x y pin qin ex ey = record {
    alike = λ (t : (p == q) ≡ true). ex ∙ ap (object_place P pl os) (eqb-true p q t) ∙ sym ey;
    apart = λ (t : (p == q) ≡ false) (e : x ≡ y). eqb-false p q t (place_tells P pl os p q pin qin (sym ex ∙ e ∙ ey));
  }

  pub same_tells : (v w : Value) (x y : ℕ) (b : Bool) → IsValue (length os) v → IsValue (length os) w → IsWordOf (object_place P pl os) v x → IsWordOf (object_place P pl os) w y → same v w ≡ Some b → Tells b x y
  same_tells (Ref p) (Ref q) x y b pin qin ex ey e = let T : Bool → Type 0 = λ c. Tells c x y in let is : (p == q) ≡ b = cc in subst T is (by_words p q x y pin qin ex ey)
  same_tells Null Null x y b pin qin ex ey e =
      let T : Bool → Type 0 = λ c. Tells c x y in let is : true ≡ b = cc in
      subst T is (record { alike = λ t. ex ∙ sym ey; apart = λ t. absurd (true≢false t) })
  same_tells (Ref p) Null x y b pin qin ex ey e =
      let T : Bool → Type 0 = λ c. Tells c x y in let is : false ≡ b = cc in
      subst T is (record { alike = λ t. absurd (false≢true t); apart = λ t f. no_null P pl os p says linked (sym ex ∙ f ∙ ey) })
  same_tells Null (Ref q) x y b pin qin ex ey e =
      let T : Bool → Type 0 = λ c. Tells c x y in let is : false ≡ b = cc in
      subst T is (record { alike = λ t. absurd (false≢true t); apart = λ t f. no_null P pl os q says linked (sym ey ∙ sym f ∙ ex) })
  same_tells (Int n) w x y b pin qin ex ey e = absurd (cc)
  same_tells (Long n) w x y b pin qin ex ey e = absurd (cc)
  same_tells Unset w x y b pin qin ex ey e = absurd (cc)
  same_tells (Ref p) (Int n) x y b pin qin ex ey e = absurd (cc)
  same_tells (Ref p) (Long n) x y b pin qin ex ey e = absurd (cc)
  same_tells (Ref p) Unset x y b pin qin ex ey e = absurd (cc)
  same_tells Null (Int n) x y b pin qin ex ey e = absurd (cc)
  same_tells Null (Long n) x y b pin qin ex ey e = absurd (cc)
  same_tells Null Unset x y b pin qin ex ey e = absurd (cc)

-- what is compared is a reference
pub one_word : (v w : Value) (b : Bool) → same v w ≡ Some b → (is_long v ≡ false) × (is_long w ≡ false)
one_word (Ref p) (Ref q) b e = (refl, refl)
one_word Null Null b e = (refl, refl)
one_word (Ref p) Null b e = (refl, refl)
one_word Null (Ref q) b e = (refl, refl)
one_word (Int n) w b e = absurd (cc)
one_word (Long n) w b e = absurd (cc)
one_word Unset w b e = absurd (cc)
one_word (Ref p) (Int n) b e = absurd (cc)
one_word (Ref p) (Long n) b e = absurd (cc)
one_word (Ref p) Unset b e = absurd (cc)
one_word Null (Int n) b e = absurd (cc)
one_word Null (Long n) b e = absurd (cc)
one_word Null Unset b e = absurd (cc)

-- ---- the tests of the opcodes

pub equal_words : (x y : ℕ) (b : Bool) → Tells b x y → (y == x) ≡ same_bool b true
equal_words x y true h = eq-eqb y x (sym (h.alike refl))
equal_words x y false h = ne_eqb y x (λ (e : y ≡ x). h.apart refl (sym e))

pub unequal_words : (x y : ℕ) (b : Bool) → Tells b x y → (nat_lt y x || nat_lt x y) ≡ same_bool b false
unequal_words x y true h = let same = h.alike refl in grind (arith, nat_tests)
unequal_words x y false h = let apart = h.apart refl in grind (arith, nat_tests)

pub is_zero : (x : ℕ) (b : Bool) → Tells b x 0 → (x == 0) ≡ same_bool b true
is_zero x true h = eq-eqb x 0 (h.alike refl)
is_zero x false h = ne_eqb x 0 (h.apart refl)

pub is_some : (x : ℕ) (b : Bool) → Tells b x 0 → nat_lt 0 x ≡ same_bool b false
is_some x true h = let same = h.alike refl in grind (arith, nat_tests)
is_some x false h = let apart = h.apart refl in grind (arith, nat_tests)

-- ---- what a row finds that compares references

abbrev pub on_two : List Value → (Bool → List Value → Effect) → Effect
on_two ops go = on_top ops (λ v rest. on_top rest (λ w rest2. on (same v w) (λ b. go b rest2)))

abbrev pub on_one : List Value → (Bool → List Value → Effect) → Effect
on_one ops go = on_top ops (λ v rest. on (same v Null) (λ b. go b rest))

on_answer : (o : Option Bool) (go : Bool → Effect) → (on o go ≡ Stuck → ⊥) → (b : Bool) × (o ≡ Some b)
on_answer None go defined = absurd (defined refl)
on_answer (Some b) go defined = (b, refl)

pub record TwoCompared (place : ℕ → ℕ) (ops : List Value) (words : List ℕ) : Type 0 where
  pub answer : Bool
  pub upper : ℕ
  pub lower : ℕ
  pub rest : List Value
  pub others : List ℕ
  pub split : words ≡ upper ∷ lower ∷ others
  pub tells : Tells answer upper lower
  pub stay : AreOperands place rest others
  pub effect : (go : Bool → List Value → Effect) → on_two ops go ≡ go answer rest

pub record OneCompared (place : ℕ → ℕ) (ops : List Value) (words : List ℕ) : Type 0 where
  pub answer : Bool
  pub upper : ℕ
  pub rest : List Value
  pub others : List ℕ
  pub split : words ≡ upper ∷ others
  pub tells : Tells answer upper 0
  pub stay : AreOperands place rest others
  pub effect : (go : Bool → List Value → Effect) → on_one ops go ≡ go answer rest

module _ (one : OneWordIsOnTop) (P : Program) (pl : Places) (os : List Object) (says : Says P pl) (linked : P.linked ≡ true) where
  pub two_compared : (ops : List Value) (words : List ℕ) → AreValues (length os) ops → AreOperands (object_place P pl os) ops words → (go : Bool → List Value → Effect) → (on_two ops go ≡ Stuck → ⊥)
      → TwoCompared (object_place P pl os) ops words
  two_compared [] words values are go defined = absurd (defined refl)
  two_compared (v ∷ []) words values are go defined = absurd (defined refl)
  two_compared (v ∷ w ∷ rest) words values are go defined =
      let (b, e) = on_answer (same v w) (λ b. go b rest) defined in
      let short = one_word v w b e in
      let top = one (object_place P pl os) v (w ∷ rest) words short.0 are in
      let second = one (object_place P pl os) w rest top.others short.1 top.stay in
      record {
        answer = b;
        upper = top.word;
        lower = second.word;
        rest = rest;
        others = second.others;
        split = top.split ∙ ap (λ (ws : List ℕ). top.word ∷ ws) second.split;
        tells = same_tells P pl os says linked v w top.word second.word b values.0 values.1.0 top.is second.is e;
        stay = second.stay;
        effect = λ g. ap (λ (o : Option Bool). on o (λ c. g c rest)) e;
      }

  pub one_compared : (ops : List Value) (words : List ℕ) → AreValues (length os) ops → AreOperands (object_place P pl os) ops words → (go : Bool → List Value → Effect) → (on_one ops go ≡ Stuck → ⊥)
      → OneCompared (object_place P pl os) ops words
  one_compared [] words values are go defined = absurd (defined refl)
  one_compared (v ∷ rest) words values are go defined =
      let (b, e) = on_answer (same v Null) (λ b. go b rest) defined in
      let top = one (object_place P pl os) v rest words (one_word v Null b e).0 are in
      record {
        answer = b;
        upper = top.word;
        rest = rest;
        others = top.others;
        split = top.split;
        tells = same_tells P pl os says linked v Null top.word 0 b values.0 tt top.is refl e;
        stay = top.stay;
        effect = λ g. ap (λ (o : Option Bool). on o (λ c. g c rest)) e;
      }
