-- The nodes that regions have, loop by loop.
use Rattle.std.proofs.Common.{◌≡◌, ℕ, ◌+◌, ◌<◌, ◌≤◌, Bool, true, false, ◌&&◌, ◌||◌, List, [], ◌∷◌, ◌++◌, length, get_or, take, take_all, replicate, refl, sym, ap, ◌∙◌, subst, arith}
use Rattle.std.proofs.lemmas.List.{take_more, get_or-replicate, length-replicate}
use Rattle.std.proofs.lemmas.List.Folds.{list_any-append}
use Rattle.section_check.specs.Bounded.{holds}
use Rattle.section_check.specs.Section.{CertifiedLoop}
use Rattle.bound_rules.specs.Told.{is_in_region}
use Rattle.cert_checker.specs.Telling.{AreFlagged}

-- for each of so many nodes whether one of these loops that is a region has it
pub record AreMarked (ls : List CertifiedLoop) (size : ℕ) (flags : List Bool) : Type 0 where
  pub long : length flags ≡ size
  pub each : (u : ℕ) → u < size → get_or flags u false ≡ is_in_region ls u

or_false : (b : Bool) → (b || false) ≡ b
or_false true = refl
or_false false = refl

pub marked_none : (size : ℕ) (ls : List CertifiedLoop) (flags : List Bool) → flags ≡ replicate size false → AreMarked (take 0 ls) size flags
marked_none size ls flags is =
    let P : List Bool → Type 0 = λ fs. AreMarked (take 0 ls) size fs in
    subst P (sym is) (record { long = length-replicate size false; each = λ u below. get_or-replicate size u false false below })

in_region_push : (ls : List CertifiedLoop) (l : CertifiedLoop) (u : ℕ) → is_in_region (ls ++ l ∷ []) u ≡ (is_in_region ls u || (l.region && holds l.members u))
in_region_push ls l u =
    list_any-append (λ (k : CertifiedLoop). k.region && holds k.members u) ls (l ∷ [])
    ∙ ap (λ (b : Bool). is_in_region ls u || b) (or_false (l.region && holds l.members u))

with_region : (r b c : Bool) → r ≡ true → (b || c) ≡ (b || (r && c))
with_region true b c is = refl
with_region false b c is = absurd (let f : false ≡ true = is in cc)

without_region : (r b c : Bool) → r ≡ false → b ≡ (b || (r && c))
without_region false true c is = refl
without_region false false c is = refl
without_region true b c is = absurd (let f : true ≡ false = is in cc)

taken : (ls : List CertifiedLoop) (i : ℕ) (l : CertifiedLoop) → i < length ls → l ≡ get_or ls i l → take (i + 1) ls ≡ take i ls ++ l ∷ []
taken ls i l lt is =
    let Q : CertifiedLoop → Type 0 = λ k. take (i + 1) ls ≡ take i ls ++ k ∷ [] in
    subst Q (sym is) (take_more ls i l lt)

pub marked_region : (ls : List CertifiedLoop) (size i : ℕ) (l : CertifiedLoop) (members : List ℕ) (old new : List Bool) → i < length ls → l ≡ get_or ls i l → l.region ≡ true → members ≡ l.members → AreMarked (take i ls) size old → AreFlagged members old new
    → AreMarked (take (i + 1) ls) size new
marked_region ls size i l members old new lt is region are h flagged =
    let P : List CertifiedLoop → Type 0 = λ ks. AreMarked ks size new in
    let H : List ℕ → Type 0 = λ us. AreFlagged us old new in
    let f = subst H are flagged in
    subst P (sym (taken ls i l lt is)) (record {
      long = f.long ∙ h.long;
      each = λ u below.
          let long = h.long in
          f.each u (omega arith)
          ∙ ap (λ (b : Bool). b || holds l.members u) (h.each u below)
          ∙ with_region l.region (is_in_region (take i ls) u) (holds l.members u) region
          ∙ sym (in_region_push (take i ls) l u);
    })

pub marked_other : (ls : List CertifiedLoop) (size i : ℕ) (l : CertifiedLoop) (flags : List Bool) → i < length ls → l ≡ get_or ls i l → l.region ≡ false → AreMarked (take i ls) size flags → AreMarked (take (i + 1) ls) size flags
marked_other ls size i l flags lt is region h =
    let P : List CertifiedLoop → Type 0 = λ ks. AreMarked ks size flags in
    subst P (sym (taken ls i l lt is)) (record {
      long = h.long;
      each = λ u below. h.each u below ∙ without_region l.region (is_in_region (take i ls) u) (holds l.members u) region ∙ sym (in_region_push (take i ls) l u);
    })

pub marked_all : (ls : List CertifiedLoop) (size i : ℕ) (flags : List Bool) → length ls ≤ i → AreMarked (take i ls) size flags → AreMarked ls size flags
marked_all ls size i flags all h =
    let P : List CertifiedLoop → Type 0 = λ ks. AreMarked ks size flags in
    subst P (take_all i ls all) h
