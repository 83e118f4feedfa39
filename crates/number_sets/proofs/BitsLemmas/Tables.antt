-- Rows of bits: a row more, and a bit more.
use Rattle.std.proofs.Common.{◌≡◌, ℕ, ◌⊎◌, ◌+◌, ◌*◌, ◌/◌, ◌<◌, ◌≤◌, Bool, true, false, eqb, List, [], ◌∷◌, ◌++◌, length, take, drop, Option, Some, None, inl, inr, refl, sym, ap, ap₂, ◌∙◌, subst, arith, ◌&&◌, ◌||◌}
use Rattle.std.specs.Prelude.{if◌then◌else◌}
use Rattle.std.specs.Map.{lookup}
use Rattle.std.specs.Option.{option_map_or, option_or}
use Rattle.std.proofs.lemmas.Bool.{eqb-true, eq-eqb, and_parts, and_from, cond-true, false≢true}
use Rattle.lists.proofs.Lemmas.{some_same, none≢some}
use Rattle.lists.proofs.Lookups.{lookup_append}
use Rattle.number_sets.specs.Bits.Table.{BitTable, AreApart, start_of, is_pair}
use Rattle.number_sets.specs.Bits.Bits.{has, is_set, is_set_from}
use Rattle.number_sets.proofs.BitsLemmas.Bits.{row_reads, ReadsAs, same_bits, no_bits, written, write_here, write_elsewhere}

abbrev bit_from : (width : ℕ) → List ℕ → Option ℕ → (column : ℕ) → Bool
bit_from w ws o c = option_map_or (λ s. is_set_from w ws s c) o false

pub has_from : (t : BitTable) (p : ℕ × ℕ) (c : ℕ) → has t p c ≡ option_map_or (λ s. is_set_from t.width t.words s c) (start_of t p) false
unfolding has
has_from t p c = refl

pub pair_same : (p q : ℕ × ℕ) → is_pair p q ≡ true → p ≡ q
pair_same p q h =
    let e = and_parts (eqb p.0 q.0) (eqb p.1 q.1) h in
    ap₂ (λ (x : ℕ) (y : ℕ). (x, y)) (eqb-true p.0 q.0 e.0) (eqb-true p.1 q.1 e.1)

pub pair_self : (p : ℕ × ℕ) → is_pair p p ≡ true
pair_self p = and_from (eqb p.0 p.0) (eqb p.1 p.1) (eq-eqb p.0 p.0 refl) (eq-eqb p.1 p.1 refl)

-- ---- the row of a pair

pub has_none : (t : BitTable) (p : ℕ × ℕ) → None ≡ start_of t p → (c : ℕ) → has t p c ≡ false
has_none t p e c = has_from t p c ∙ ap (λ o. bit_from t.width t.words o c) (sym e)

pub has_some : (t : BitTable) (p : ℕ × ℕ) (s : ℕ) (row : List ℕ) → Some s ≡ start_of t p → row ≡ take t.width (drop s t.words) → (c : ℕ) → has t p c ≡ is_set row c
has_some t p s row e own c =
    has_from t p c
    ∙ (ap (λ o. bit_from t.width t.words o c) (sym e)
    ∙ (row_reads t.width t.words s c ∙ ap (λ ws. is_set ws c) (sym own)))

-- ---- no row

pub none_set : (t : BitTable) → t.starts ≡ [] → (p : ℕ × ℕ) (c : ℕ) → has t p c ≡ false
none_set t e p c = has_from t p c ∙ ap (λ es. bit_from t.width t.words (lookup (is_pair p) es) c) e

pub none_apart : (t : BitTable) → t.starts ≡ [] → AreApart t
none_apart t e = record {
  within = λ p s h. absurd (none≢some s (sym (ap (lookup (is_pair p)) e) ∙ h));
  apart = λ p q s r h k f. absurd (none≢some s (sym (ap (lookup (is_pair p)) e) ∙ h));
}

-- ---- a row more, of which no bit is set

abbrev later : Option ℕ → Bool → (start : ℕ) → Option ℕ
later o b s = option_or o (if b then Some s else None)

pub start_more : (old new : BitTable) (l : ℕ × ℕ) (s : ℕ) → new.starts ≡ old.starts ++ (l, s) ∷ [] → (p : ℕ × ℕ) → start_of new p ≡ option_or (start_of old p) (if is_pair p l then Some s else None)
start_more old new l s e p = ap (lookup (is_pair p)) e ∙ lookup_append (is_pair p) old.starts l s

row_case : (w : ℕ) (ws vs : List ℕ) → ReadsAs vs ws → (s c : ℕ) → length ws ≤ s → (o : Option ℕ) (b : Bool) → bit_from w vs (later o b s) c ≡ bit_from w ws o c
row_case w ws vs h s c le (Some x) b = same_bits w ws vs h x c
row_case w ws vs h s c le None true = same_bits w ws vs h s c ∙ no_bits w ws s c le
row_case w ws vs h s c le None false = refl

pub row_more : (old new : BitTable) (l : ℕ × ℕ) (s : ℕ) → new.width ≡ old.width → new.starts ≡ old.starts ++ (l, s) ∷ [] → length old.words ≤ s → ReadsAs new.words old.words
    → (p : ℕ × ℕ) (c : ℕ) → has new p c ≡ has old p c
row_more old new l s w e le h p c =
    has_from new p c
    ∙ ap (λ n. bit_from n new.words (start_of new p) c) w
    ∙ ap (λ o. bit_from old.width new.words o c) (start_more old new l s e p)
    ∙ row_case old.width old.words new.words h s c le (start_of old p) (is_pair p l)
    ∙ sym (has_from old p c)

words_case : (w : ℕ) (ws vs : List ℕ) → ReadsAs vs ws → (c : ℕ) (o : Option ℕ) → bit_from w vs o c ≡ bit_from w ws o c
words_case w ws vs h c (Some x) = same_bits w ws vs h x c
words_case w ws vs h c None = refl

-- words behind the rows
pub words_more : (old new : BitTable) → new.width ≡ old.width → new.starts ≡ old.starts → ReadsAs new.words old.words → (p : ℕ × ℕ) (c : ℕ) → has new p c ≡ has old p c
words_more old new w e h p c =
    has_from new p c
    ∙ ap (λ n. bit_from n new.words (start_of new p) c) w
    ∙ ap (λ es. bit_from old.width new.words (lookup (is_pair p) es) c) e
    ∙ words_case old.width old.words new.words h c (start_of old p)
    ∙ sym (has_from old p c)

-- the new row is found where there was none
pub row_there : (old new : BitTable) (l : ℕ × ℕ) (s : ℕ) → start_of old l ≡ None → new.starts ≡ old.starts ++ (l, s) ∷ [] → start_of new l ≡ Some s
row_there old new l s none e =
    start_more old new l s e l ∙ (ap (λ o. option_or o (if is_pair l l then Some s else None)) none ∙ cond-true (is_pair l l) (Some s) None (pair_self l))

-- ---- rows stay apart

abbrev Whence : Option ℕ → Bool → (start x : ℕ) → Type 0
Whence o b s x = (o ≡ Some x) ⊎ ((b ≡ true) × (s ≡ x))

whence : (o : Option ℕ) (b : Bool) (s x : ℕ) → later o b s ≡ Some x → Whence o b s x
whence (Some y) b s x h = inl h
whence None true s x h = inr (refl, some_same s x h)
whence None false s x h = absurd (none≢some x h)

pub apart_more : (old new : BitTable) (l : ℕ × ℕ) (s : ℕ) → new.width ≡ old.width → new.starts ≡ old.starts ++ (l, s) ∷ [] → s ≡ length old.words → length new.words ≡ s + old.width → AreApart old → AreApart new
apart_more old new l s w e at long h =
    let from : (p : ℕ × ℕ) (x : ℕ) → start_of new p ≡ Some x → Whence (start_of old p) (is_pair p l) s x = λ p x k. whence (start_of old p) (is_pair p l) s x (sym (start_more old new l s e p) ∙ k) in
    record {
      within = λ p x k.
          elim (from p x k) [
            | inl o ↦ let was = h.within p x o in omega (arith, was, w, at, long)
            | inr n ↦ let same = n.1 in omega (arith, same, w, at, long)
          ];
      apart = λ p q x y k m f.
          elim (from p x k) [
            | inl o ↦
                elim (from q y m) [
                  | inl o2 ↦ elim (h.apart p q x y o o2 f) [ inl a ↦ inl (omega (arith, a, w)) | inr b ↦ inr (omega (arith, b, w)) ]
                  | inr n ↦ let was = h.within p x o in let same = n.1 in inl (omega (arith, was, w, at, same))
                ]
            | inr n ↦
                elim (from q y m) [
                  | inl o ↦ let was = h.within q y o in let same = n.1 in inr (omega (arith, was, w, at, same))
                  | inr n2 ↦ absurd (false≢true (sym f ∙ (ap (is_pair p) (pair_same q l n2.0 ∙ sym (pair_same p l n.0)) ∙ pair_self p)))
                ]
          ];
    }

pub apart_same : (old new : BitTable) → new.width ≡ old.width → new.starts ≡ old.starts → length old.words ≤ length new.words → AreApart old → AreApart new
apart_same old new w e long h =
    let from : (p : ℕ × ℕ) (x : ℕ) → start_of new p ≡ Some x → start_of old p ≡ Some x = λ p x k. sym (ap (lookup (is_pair p)) e) ∙ k in
    record {
      within = λ p x k. let was = h.within p x (from p x k) in omega (arith, was, w, long);
      apart = λ p q x y k m f. elim (h.apart p q x y (from p x k) (from q y m) f) [ inl a ↦ inl (omega (arith, a, w)) | inr b ↦ inr (omega (arith, b, w)) ];
    }

-- ---- a bit more

clear : (b : Bool) → b ≡ (b || false)
clear true = refl
clear false = refl

set_case : (t : BitTable) (q : ℕ × ℕ) (r d : ℕ) → AreApart t → start_of t q ≡ Some r → d / 64 < t.width → (p : ℕ × ℕ) (c : ℕ) (o : Option ℕ) (b : Bool) → start_of t p ≡ o → is_pair p q ≡ b
    → bit_from t.width (written t.words r d) o c ≡ (bit_from t.width t.words o c || (b && eqb c d))
set_case t q r d h at lt p c None true e f = absurd (none≢some r (sym e ∙ (ap (start_of t) (pair_same p q f) ∙ at)))
set_case t q r d h at lt p c None false e f = refl
set_case t q r d h at lt p c (Some s) true e f =
    let same : r ≡ s = some_same r s (sym at ∙ (ap (start_of t) (sym (pair_same p q f)) ∙ e)) in
    let within = h.within q r at in
    subst (λ x. is_set_from t.width (written t.words r d) x c ≡ (is_set_from t.width t.words x c || eqb c d)) same (write_here t.width t.words r c d lt (omega (arith, within, lt)))
set_case t q r d h at lt p c (Some s) false e f =
    write_elsewhere t.width t.words s r c d lt (h.apart p q s r e at f) ∙ clear (is_set_from t.width t.words s c)

pub bit_more : (old t new : BitTable) (q : ℕ × ℕ) (r d : ℕ) → ((p : ℕ × ℕ) (c : ℕ) → has t p c ≡ has old p c) → AreApart t → start_of t q ≡ Some r → d < 64 * t.width
    → new.width ≡ t.width → new.starts ≡ t.starts → new.words ≡ written t.words r d → (p : ℕ × ℕ) (c : ℕ) → has new p c ≡ (has old p c || (is_pair p q && eqb c d))
bit_more old t new q r d same h at lt w e words p c =
    has_from new p c
    ∙ ap (λ n. bit_from n new.words (start_of new p) c) w
    ∙ ap (λ es. bit_from t.width new.words (lookup (is_pair p) es) c) e
    ∙ ap (λ ws. bit_from t.width ws (start_of t p) c) words
    ∙ set_case t q r d h at (omega (arith, lt)) p c (start_of t p) (is_pair p q) refl refl
    ∙ ap (λ b. b || (is_pair p q && eqb c d)) (sym (has_from t p c) ∙ same p c)
