-- Keys by their test.
use Rattle.std.proofs.Common.{◌≡◌, ℕ, Bool, true, false, ◌&&◌, refl, sym, ◌∙◌, ap, ap₂, eqb, inl, inr}
use Rattle.std.proofs.lemmas.Bool.{cases_Bool, eqb-true, eq-eqb, true≢false}
use Rattle.lists.specs.Tests.{and_left, and_right}
use Rattle.report_lines.specs.declared.key.Key.{Key}
use Rattle.report_lines.specs.declared.key.Spot.{Spot}
use Rattle.report_lines.specs.declared.key.Spot.TheVariants.{Line, Place}
use Rattle.report_lines.specs.Entries.{same_spot, same_key}

spots_are : (a b : Spot) → same_spot a b ≡ true → a ≡ b
spots_are (Line a) (Line b) h = ap Line (eqb-true a b h)
spots_are (Place a) (Place b) h = ap Place (eqb-true a b h)
spots_are (Line a) (Place b) h = absurd (true≢false (sym h))
spots_are (Place a) (Line b) h = absurd (true≢false (sym h))

spot_itself : (a : Spot) → same_spot a a ≡ true
spot_itself (Line a) = eq-eqb a a refl
spot_itself (Place a) = eq-eqb a a refl

pub keys_are : (a b : Key) → same_key a b ≡ true → a ≡ b
keys_are a b h =
    ap₂ (λ (m : ℕ) (s : Spot). let k : Key = record { method = m; spot = s } in k)
    (eqb-true a.method b.method (and_left (eqb a.method b.method) (same_spot a.spot b.spot) h))
    (spots_are a.spot b.spot (and_right (eqb a.method b.method) (same_spot a.spot b.spot) h))

pub key_itself : (a : Key) → same_key a a ≡ true
key_itself a = ap₂ (λ (x y : Bool). x && y) (eq-eqb a.method a.method refl) (spot_itself a.spot)

pub are_keys : (a b : Key) → a ≡ b → same_key a b ≡ true
are_keys a b e = ap (same_key a) (sym e) ∙ key_itself a

-- a test that fails one way fails the other way
pub other_way : (a b : Key) → same_key a b ≡ false → same_key b a ≡ false
other_way a b h = elim (cases_Bool (same_key b a)) [
  | inl e ↦ absurd (true≢false (sym (are_keys a b (sym (keys_are b a e))) ∙ h))
  | inr e ↦ e
]

pub flips : (a b : Key) → same_key a b ≡ same_key b a
flips a b = elim (cases_Bool (same_key a b)) [
  | inl e ↦ e ∙ sym (are_keys b a (sym (keys_are a b e)))
  | inr e ↦ e ∙ sym (other_way a b e)
]
