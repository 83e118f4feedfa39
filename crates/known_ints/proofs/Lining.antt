-- The lines that are listed are all of which something may follow.
use Rattle.std.proofs.Common.{◌≡◌, ℕ, ◌+◌, ◌<◌, ℤ, List, [], ◌∷◌, ◌++◌, length, Contains, Option, Some, None, refl, sym, ◌∙◌, subst, inl, inr, ◌↔◌, arith}
use Rattle.std.proofs.lemmas.Bool.{cases_eq}
use Rattle.std.proofs.lemmas.List.Elements.{All-contains, All-push, Contains-append_left, Contains-push}
use Rattle.lists.proofs.Lemmas.{none≢some, some_same}
use Rattle.bytecode_model.specs.Program.{Program}
use Rattle.code_scan.specs.Scans.{line_before}
use Rattle.loop_rules.specs.Further.Known.{Known}
use Rattle.loop_rules.specs.Further.Found.{IsFollowing, Table}
use Rattle.known_ints.specs.declared.parts.Part.{Part}
use Rattle.known_ints.specs.declared.parts.Part.TheVariants as does
use Rattle.known_ints.specs.declared.knowing.Holds.{Holds}
use Rattle.known_ints.specs.declared.knowing.Holds.TheVariants.{AnInt, AnArray}
use Rattle.known_ints.specs.declared.lines.Line.{Line}
use Rattle.known_ints.specs.Code.{CodeOf, IsCodeOf}
use Rattle.known_ints.specs.Parts.{part_at}
use Rattle.known_ints.specs.Knowing.{GivesBy, GivesInt, GivesLength}
use Rattle.known_ints.specs.Rounds.{AreLines, GivesOnly, IsLineOf, gives_of}

module _ (P : Program) (m : ℕ) (code : CodeOf) (t : Table) (p from : ℕ) (x : ℤ) where
  int_gives : (part : Part) → GivesInt P m code t p part from x → gives_of part ≡ Some AnInt
  int_gives (does.Int c) h = refl
  int_gives (does.Field c) h = refl
  int_gives (does.Load k) h = refl
  int_gives does.Length h = refl
  int_gives (does.Compute a) h = refl
  int_gives _ h = absurd h

  length_gives : (part : Part) → GivesLength P m code t p part from x → gives_of part ≡ Some AnArray
  length_gives does.NewArray h = refl
  length_gives (does.LoadReference k) h = refl
  length_gives (does.StaticArray c) h = refl
  length_gives (does.FieldArray c) h = refl
  length_gives does.StoreNumber h = refl
  length_gives _ h = absurd h

-- what follows is of the last line's sort
gives_at : (P : Program) (m : ℕ) (code : CodeOf) (t : Table) (p from : ℕ) (x : ℤ) (h : Holds) → GivesBy P m code t h p from x
    → (last : ℕ) × (IsFollowing P m p × (line_before code.scan p ≡ Some last)) × (gives_of (part_at code.parts last) ≡ Some h)
gives_at P m code t p from x AnInt g = (g.last, (g.following, g.before), int_gives P m code t g.last from x (part_at code.parts g.last) g.gives)
gives_at P m code t p from x AnArray g = (g.last, (g.following, g.before), length_gives P m code t g.last from x (part_at code.parts g.last) g.gives)

module _ (code : CodeOf) (p : ℕ) (o : Option ℕ)
    (exact : (P : Program) (known : Known) (m last : ℕ) → IsCodeOf P known m code → (o ≡ Some last) ↔ (IsFollowing P m p × (line_before code.scan p ≡ Some last))) where
  pub none_followed : o ≡ None → GivesOnly code p (λ h. ⊥)
  none_followed none P known m of t h from x g = let a = gives_at P m code t p from x h g in none≢some a.0 (sym none ∙ (exact P known m a.0 of).1 a.1)

  module _ (last : ℕ) (was : o ≡ Some last) where
    sort_is : (P : Program) (known : Known) (m : ℕ) → IsCodeOf P known m code → (t : Table) (h : Holds) (from : ℕ) (x : ℤ) → GivesBy P m code t h p from x → gives_of (part_at code.parts last) ≡ Some h
    sort_is P known m of t h from x g =
        let a = gives_at P m code t p from x h g in
        let same : a.0 ≡ last = some_same a.0 last (sym ((exact P known m a.0 of).1 a.1) ∙ was) in
        subst (λ (q : ℕ). gives_of (part_at code.parts q) ≡ Some h) same a.2

    pub none_given : (s : Option Holds) → s ≡ gives_of (part_at code.parts last) → s ≡ None → GivesOnly code p (λ h. ⊥)
    none_given s is none P known m of t h from x g = none≢some h (sym none ∙ is ∙ sort_is P known m of t h from x g)

    pub sort_only : (s : Option Holds) → s ≡ gives_of (part_at code.parts last) → (h : Holds) → s ≡ Some h → GivesOnly code p (λ g. h ≡ g)
    sort_only s is h some P known m of t g from x gives = some_same h g (sym some ∙ is ∙ sort_is P known m of t g from x gives)

    pub line_of : p < length code.parts → last < length code.parts → (h : Holds) → IsLineOf code (record { place = p; last = last; holds = h })
    line_of below last_below h = record { place_within = below; last_within = last_below; follows = λ P known m of. (exact P known m last of).0 was }

-- ---- the list

pub lines_none : (code : CodeOf) (lines : List Line) → lines ≡ [] → AreLines code 0 lines
lines_none code lines is = subst (AreLines code 0) (sym is) (record { each = λ k d lt. absurd (omega arith); all = λ p lt. absurd (omega arith) })

module _ (code : CodeOf) (n : ℕ) (lines : List Line) (are : AreLines code n lines) where
  below_next : (p : ℕ) → p < n + 1 → (p ≡ n → ⊥) → p < n
  below_next p lt other = omega arith

  -- no line ends at the next place
  pub lines_same : GivesOnly code n (λ h. ⊥) → AreLines code (n + 1) lines
  lines_same none = record {
    each = are.each;
    all = λ p lt P known m of t h from x g.
        elim (cases_eq p n) [
          | inl same ↦ absurd (none P known m of t h from x (subst (λ (q : ℕ). GivesBy P m code t h q from x) same g))
          | inr other ↦ are.all p (below_next p lt other) P known m of t h from x g
        ];
  }

  pub lines_more : (line : Line) → line.place ≡ n → IsLineOf code line → GivesOnly code n (λ h. line.holds ≡ h) → (new : List Line) → new ≡ lines ++ line ∷ [] → AreLines code (n + 1) new
  lines_more line at is only new same = subst (AreLines code (n + 1)) (sym same) (record {
    each = All-push (IsLineOf code) lines line are.each is;
    all = λ p lt P known m of t h from x g.
        elim (cases_eq p n) [
          | inl here ↦ (line, Contains-push lines line, at ∙ sym here, only P known m of t h from x (subst (λ (q : ℕ). GivesBy P m code t h q from x) here g))
          | inr other ↦
              let l = are.all p (below_next p lt other) P known m of t h from x g in
              (l.0, Contains-append_left lines (line ∷ []) l.0 l.1, l.2, l.3)
        ];
  })

-- one that is listed again
pub lines_again : (code : CodeOf) (n : ℕ) (lines new : List Line) (line : Line) → AreLines code n lines → Contains lines line → new ≡ lines ++ line ∷ [] → AreLines code n new
lines_again code n lines new line are has same = subst (AreLines code n) (sym same) (record {
  each = All-push (IsLineOf code) lines line are.each (All-contains (IsLineOf code) lines line are.each has);
  all = λ p lt P known m of t h from x g. let l = are.all p lt P known m of t h from x g in (l.0, Contains-append_left lines (line ∷ []) l.0 l.1, l.2, l.3);
})
