-- The loop that a node heads, among loops with what is due at their entries.
use Rattle.std.proofs.Common.{◌≡◌, ℕ, pos, ◌+◌, ◌*◌, Bool, true, false, cond, eqb, List, [], ◌∷◌, length, get_or, All, Contains, Option, Some, None, unwrap_or, refl, sym, ap, ◌∙◌, subst, arith}
use Rattle.std.specs.Prelude.{option_map}
use Rattle.std.specs.Prelude.{◌-ℤ◌, ◌↔◌}
use Rattle.std.proofs.lemmas.Bool.{cond-true, cond-false}
use Rattle.std.proofs.lemmas.List.Elements.{All-cons, All-nil, All-head}
use Rattle.section_check.specs.Bounded.{holds}
use Rattle.section_check.specs.Section.{CertifiedLoop, PricedLoop, priced, fee, headed_by, headed_fee, entry_fee}
use Rattle.section_check.specs.Heading.{NoneHeads, IsFirstHeaded}
use Rattle.section_check.proofs.Headed.{price, headed_loop, headed_none}
use Rattle.priced_sections.specs.Prices.{PricedFact, header_due, with_due, with_dues}
use Rattle.priced_sections.specs.Paid.{HoldsAll}
use Rattle.priced_sections.specs.Views.{price_along}

pub headed_with : (fs : List PricedFact) (v : ℕ) (ls : List PricedLoop) → headed_by v (with_dues fs ls) ≡ option_map (with_due fs) (headed_by v ls)
headed_with fs v [] = refl
headed_with fs v (l ∷ ls) =
    let later = headed_with fs v ls in
    let P : Bool → Type 0 = λ b. cond b (Some (with_due fs l)) (headed_by v (with_dues fs ls)) ≡ option_map (with_due fs) (cond b (Some l) (headed_by v ls)) in
    let go : (b : Bool) → P b = elim [ true ↦ refl | false ↦ later ] in
    go (eqb l.certified.header v)

-- ---- in a list of loops and among the same loops with their prices

pub headed_pays : (fs : List PricedFact) (ls : List CertifiedLoop) (bounds : List ℕ) (loads : List (Option ℕ)) (u i : ℕ) (l : CertifiedLoop) → length bounds ≡ length ls → length loads ≡ length ls → IsFirstHeaded ls u i → l ≡ get_or ls i l
    → headed_by u (with_dues fs (priced ls bounds loads)) ≡ Some (with_due fs (price l bounds loads i))
headed_pays fs ls bounds loads u i l lb ll first is =
    headed_with fs u (priced ls bounds loads) ∙ ap (λ (o : Option PricedLoop). option_map (with_due fs) o) (headed_loop ls bounds loads u i l lb ll first is)

pub headed_not : (fs : List PricedFact) (ls : List CertifiedLoop) (bounds : List ℕ) (loads : List (Option ℕ)) (u : ℕ) → NoneHeads ls u → headed_by u (with_dues fs (priced ls bounds loads)) ≡ None
headed_not fs ls bounds loads u none = headed_with fs u (priced ls bounds loads) ∙ ap (λ (o : Option PricedLoop). option_map (with_due fs) o) (headed_none ls bounds loads u none)

-- an entry pays what it does without facts, and what is due
pub entry_pays : (fs : List PricedFact) (ls : List CertifiedLoop) (bounds : List ℕ) (loads : List (Option ℕ)) (u i : ℕ) → length bounds ≡ length ls → length loads ≡ length ls → (first : IsFirstHeaded ls u i)
    → entry_fee (with_dues fs (priced ls bounds loads)) u ≡ get_or bounds i 0 * first.headed.iteration_cost + unwrap_or (get_or loads i None) 0 + header_due fs u
entry_pays fs ls bounds loads u i lb ll first =
    let l = first.headed in
    let e = ap (λ (o : Option PricedLoop). headed_fee o) (headed_pays fs ls bounds loads u i l lb ll first (sym first.at.1)) in
    let due : header_due fs l.header ≡ header_due fs u = ap (λ (h : ℕ). header_due fs h) first.header in
    omega (arith, e, due)

pub no_entry_pays : (fs : List PricedFact) (ls : List CertifiedLoop) (bounds : List ℕ) (loads : List (Option ℕ)) (u : ℕ) → NoneHeads ls u → entry_fee (with_dues fs (priced ls bounds loads)) u ≡ 0
no_entry_pays fs ls bounds loads u none = ap (λ (o : Option PricedLoop). headed_fee o) (headed_not fs ls bounds loads u none)

-- ---- what an edge costs beside the nodes

pub price_within : (l : PricedLoop) (u : ℕ) → holds l.certified.members u ≡ true → price_along (Some l) u ≡ pos 0 -ℤ pos l.certified.iteration_cost
price_within l u inside = cond-true (holds l.certified.members u) (pos 0 -ℤ pos l.certified.iteration_cost) (pos (fee l)) inside

pub price_entering : (l : PricedLoop) (u : ℕ) → holds l.certified.members u ≡ false → price_along (Some l) u ≡ pos (fee l)
price_entering l u outside = cond-false (holds l.certified.members u) (pos 0 -ℤ pos l.certified.iteration_cost) (pos (fee l)) outside

-- ---- whether a fact is held

pub held_when : (o : Option PricedLoop) (l : PricedLoop) (nodes : List ℕ) (x : ℕ) (T : Type 0) → o ≡ Some l → nodes ≡ x ∷ [] → (T ↔ Contains l.certified.members x) → T ↔ HoldsAll o nodes
held_when o l nodes x T is one h =
    let P : Option PricedLoop → Type 0 = λ k. T ↔ HoldsAll k nodes in
    let Q : List ℕ → Type 0 = λ zs. T ↔ All (Contains l.certified.members) zs in
    subst P (sym is) (subst Q (sym one) (
      (λ t. All-cons (Contains l.certified.members) x [] (h.0 t) (All-nil (Contains l.certified.members))),
      (λ all. h.1 (All-head (Contains l.certified.members) x [] all)),
    ))
