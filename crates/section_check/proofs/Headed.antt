-- The loop that a node heads, in a list of loops and among the same loops with their prices.
use Rattle.std.proofs.Common.{◌≡◌, ℕ, zero, suc, ◌<◌, eqb, List, [], ◌∷◌, length, get_or, Option, Some, None, refl, sym, ap, ◌∙◌, arith}
use Rattle.std.proofs.lemmas.Bool.{eq-eqb, ne_eqb, cond-true, cond-false}
use Rattle.std.proofs.lemmas.List.{get_or_default}
use Rattle.section_check.specs.Section.{CertifiedLoop, PricedLoop, priced, headed_by}
use Rattle.section_check.specs.Placing.{IsEntryAt}
use Rattle.section_check.specs.Heading.{NoneHeads, IsFirstHeaded}

abbrev pub price : CertifiedLoop → List ℕ → List (Option ℕ) → ℕ → PricedLoop
price l bounds loads i = record { certified = l; bound = get_or bounds i 0; load = get_or loads i None }

headed_first : (ls : List CertifiedLoop) (bounds : List ℕ) (loads : List (Option ℕ)) (u i : ℕ) (d : CertifiedLoop) → length bounds ≡ length ls → length loads ≡ length ls → i < length ls → (get_or ls i d).header ≡ u
    → ((k : ℕ) → k < i → (get_or ls k d).header ≡ u → ⊥) → headed_by u (priced ls bounds loads) ≡ Some (price (get_or ls i d) bounds loads i)
headed_first [] bounds loads u i d lb ll below same before = absurd (omega arith)
headed_first (l ∷ ls) [] loads u i d lb ll below same before = absurd (omega arith)
headed_first (l ∷ ls) (b ∷ bs) [] u i d lb ll below same before = absurd (omega arith)
headed_first (l ∷ ls) (b ∷ bs) (x ∷ xs) u zero d lb ll below same before =
    cond-true (eqb l.header u) (Some (price l (b ∷ bs) (x ∷ xs) 0)) (headed_by u (priced ls bs xs)) (eq-eqb l.header u same)
headed_first (l ∷ ls) (b ∷ bs) (x ∷ xs) u (suc i) d lb ll below same before =
    cond-false (eqb l.header u) (Some (price l (b ∷ bs) (x ∷ xs) 0)) (headed_by u (priced ls bs xs)) (ne_eqb l.header u (before 0 (omega arith)))
    ∙ headed_first ls bs xs u i d (omega arith) (omega arith) (omega arith) same (λ k lt. before (suc k) (omega arith))

headed_no : (ls : List CertifiedLoop) (bounds : List ℕ) (loads : List (Option ℕ)) (u : ℕ) → ((k : ℕ) (d : CertifiedLoop) → k < length ls → (get_or ls k d).header ≡ u → ⊥) → headed_by u (priced ls bounds loads) ≡ None
headed_no [] bounds loads u never = refl
headed_no (l ∷ ls) [] loads u never = refl
headed_no (l ∷ ls) (b ∷ bs) [] u never = refl
headed_no (l ∷ ls) (b ∷ bs) (x ∷ xs) u never =
    cond-false (eqb l.header u) (Some (price l (b ∷ bs) (x ∷ xs) 0)) (headed_by u (priced ls bs xs)) (ne_eqb l.header u (never 0 l (omega arith)))
    ∙ headed_no ls bs xs u (λ k d lt. never (suc k) d (omega arith))

pub itself_at : {X : Type 0} (xs : List X) (k : ℕ) (d : X) → k < length xs → IsEntryAt xs k (get_or xs k d)
itself_at xs k d lt = (lt, get_or_default xs k (get_or xs k d) d lt)

pub headed_loop : (ls : List CertifiedLoop) (bounds : List ℕ) (loads : List (Option ℕ)) (u i : ℕ) (l : CertifiedLoop) → length bounds ≡ length ls → length loads ≡ length ls → IsFirstHeaded ls u i → l ≡ get_or ls i l
    → headed_by u (priced ls bounds loads) ≡ Some (price l bounds loads i)
headed_loop ls bounds loads u i l lb ll first is =
    let same : get_or ls i l ≡ first.headed = get_or_default ls i l first.headed first.at.0 ∙ first.at.1 in
    headed_first ls bounds loads u i l lb ll first.at.0 (ap (λ (k : CertifiedLoop). k.header) same ∙ first.header)
    (λ k lt. first.first k (get_or ls k l) lt (itself_at ls k l (let below = first.at.0 in omega arith)))
    ∙ ap (λ (k : CertifiedLoop). Some (price k bounds loads i)) (sym is)

pub headed_none : (ls : List CertifiedLoop) (bounds : List ℕ) (loads : List (Option ℕ)) (u : ℕ) → NoneHeads ls u → headed_by u (priced ls bounds loads) ≡ None
headed_none ls bounds loads u none = headed_no ls bounds loads u (λ k d lt same. none k (get_or ls k d) (itself_at ls k d lt) same)
