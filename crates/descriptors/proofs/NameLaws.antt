-- The name of a class is its parts.
use Rattle.std.proofs.Common.{◌≡◌, ℕ, ◌==◌, ◌&&◌, ◌||◌, not, Bool, true, false, cond, List, [], ◌∷◌, ◌++◌, length, refl, sym, ap, ◌∙◌, eqb-true, ne_eqb, arith}
use Rattle.std.proofs.lemmas.Bool.{and_parts, and_from}
use Rattle.std.specs.List.{flat_map, AllByRecursion, list_all}
use Rattle.std.specs.Prelude.{IsTrue}
use Rattle.descriptors.specs.Names.{is_plain, is_path, is_unqualified}
use Rattle.descriptors.specs.Parts.{parts_units, ClassNames}

not_true : (b : Bool) → not b ≡ true → b ≡ false
not_true true e = cc
not_true false e = refl

none_of : (a b c d : Bool) → not (a || b || c || d) ≡ true → d ≡ false
none_of true b c d e = absurd (cc)
none_of false true c d e = absurd (cc)
none_of false false true d e = absurd (cc)
none_of false false false true e = absurd (cc)
none_of false false false false e = refl

no_slash : (unit : ℕ) → is_plain unit ≡ true → (unit == 47) ≡ false
no_slash unit e = none_of (unit == 46) (unit == 59) (unit == 91) (unit == 47) e

read_on : (fresh : Bool) (unit : ℕ) (units : List ℕ) → is_plain unit ≡ true → is_path fresh (unit ∷ units) ≡ is_path false units
read_on fresh unit units plain =
    ap (λ (b : Bool). cond b (not fresh && is_path true units) (is_plain unit && is_path false units)) (no_slash unit plain) ∙ ap (λ (b : Bool). b && is_path false units) plain

-- in the middle of a part, the rest of it is read
after_plain : (part rest : List ℕ) → list_all is_plain part ≡ true → is_path false (part ++ rest) ≡ is_path false rest
after_plain [] rest plain = refl
after_plain (u ∷ part) rest plain =
    let b = and_parts (is_plain u) (list_all is_plain part) plain in
    read_on false u (part ++ rest) b.0 ∙ after_plain part rest b.1

-- a part that is read leaves no name about to begin
plain_read : (fresh : Bool) (part rest : List ℕ) → is_unqualified part ≡ true → is_path fresh (part ++ rest) ≡ is_path false rest
plain_read fresh [] rest is = absurd (cc)
plain_read fresh (u ∷ part) rest is =
    let a = and_parts (not (length (u ∷ part) == 0)) (list_all is_plain (u ∷ part)) is in
    let b = and_parts (is_plain u) (list_all is_plain part) a.1 in
    read_on fresh u (part ++ rest) b.0 ∙ after_plain part rest b.1

others_read : (others : List (List ℕ)) → AllByRecursion (λ part. IsTrue (is_unqualified part)) others → is_path false (flat_map (λ part. 47 ∷ part) others) ≡ true
others_read [] are = refl
others_read (part ∷ others) are = plain_read true part (flat_map (λ part. 47 ∷ part) others) are.0 ∙ others_read others are.1

some_units : (u : ℕ) (units : List ℕ) → (length (u ∷ units) == 0) ≡ false
some_units u units = ne_eqb (length (u ∷ units)) 0 (λ e. omega (arith, e))

-- what a path is made of: units of a part that has begun, or a part, and further parts
record IsMade (fresh : Bool) (units : List ℕ) : Type 0 where
  first : List ℕ
  others : List (List ℕ)
  plain : list_all is_plain first ≡ true
  begun : fresh ≡ true → (length first == 0) ≡ false
  others_are : AllByRecursion (λ part. IsTrue (is_unqualified part)) others
  spelling : units ≡ parts_units first others

made_of : (fresh : Bool) (units : List ℕ) → is_path fresh units ≡ true → IsMade fresh units
made_of true [] e = absurd (cc)
made_of false [] e = record { first = []; others = []; plain = refl; begun = λ f. absurd (cc); others_are = tt; spelling = refl }
made_of fresh (u ∷ units) e = chosen (λ f h. made_of f units h) (u == 47) refl e
  where
    unqualified : (m : IsMade true units) → is_unqualified m.first ≡ true
    unqualified m = and_from (not (length m.first == 0)) (list_all is_plain m.first) (ap not (m.begun refl)) m.plain

    behind_slash : u ≡ 47 → fresh ≡ false → (m : IsMade true units) → IsMade fresh (u ∷ units)
    behind_slash is old m = record {
      first = [];
      others = m.first ∷ m.others;
      plain = refl;
      begun = λ f. absurd (let g : true ≡ false = sym f ∙ old in cc);
      others_are = (unqualified m, m.others_are);
      spelling = ap (λ (x : ℕ). x ∷ units) is ∙ ap (λ (x : List ℕ). 47 ∷ x) m.spelling;
    }

    chosen : ((f : Bool) → is_path f units ≡ true → IsMade f units) → (b : Bool) → (u == 47) ≡ b → cond b (not fresh && is_path true units) (is_plain u && is_path false units) ≡ true → IsMade fresh (u ∷ units)
    chosen made true is f =
        let b = and_parts (not fresh) (is_path true units) f in
        behind_slash (eqb-true u 47 is) (not_true fresh b.0) (made true b.1)
    chosen made false is f =
        let b = and_parts (is_plain u) (is_path false units) f in
        let m = made false b.1 in
        record {
          first = u ∷ m.first;
          others = m.others;
          plain = and_from (is_plain u) (list_all is_plain m.first) b.0 m.plain;
          begun = λ g. some_units u m.first;
          others_are = m.others_are;
          spelling = ap (λ (x : List ℕ). u ∷ x) m.spelling;
        }

pub class_names : ClassNames
class_names units = (
  (λ e. let m = made_of true units e in
      record { first = m.first; others = m.others; first_is = and_from (not (length m.first == 0)) (list_all is_plain m.first) (ap not (m.begun refl)) m.plain; others_are = m.others_are; spelling = m.spelling }),
  (λ h. ap (is_path true) h.spelling ∙ plain_read true h.first (flat_map (λ part. 47 ∷ part) h.others) h.first_is ∙ others_read h.others h.others_are),
)
