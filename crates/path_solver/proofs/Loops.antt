-- Loops whose headers rise.
use Rattle.std.proofs.Common.{◌≡◌, ℕ, ◌<◌, List, [], length, get_or, Contains, None, sym, ap, ◌∙◌, subst, inl, inr, arith}
use Rattle.std.specs.List.Sorted.{IsStrictlyIncreasing, IsNonDecreasingBy}
use Rattle.std.proofs.lemmas.Bool.{cases_order}
use Rattle.std.proofs.lemmas.List.{get_or-map, get_or_default, length-map}
use Rattle.std.proofs.lemmas.List.Sorted.{IsNonDecreasingBy-from_default}
use Rattle.lists.specs.Members.{rising_pair, rising_all}
use Rattle.loop_nest.specs.Nest.{NaturalLoop, headers_of}
use Rattle.path_solver.specs.Ordering.{IsHeadedAt, ClosesLoop}
use Rattle.section_check.specs.Placing.{IsEntryAt}

abbrev pub header_of : NaturalLoop → ℕ
header_of l = l.header

no_loop : NaturalLoop
no_loop = record { header = 0; members = []; outer = None }

header_there : (ls : List NaturalLoop) (k : ℕ) (d : NaturalLoop) → k < length ls → get_or (headers_of ls) k 0 ≡ (get_or ls k d).header
header_there ls k d below = get_or-map header_of ls k d 0 below

pub header_at : (ls : List NaturalLoop) (k : ℕ) (l : NaturalLoop) → IsEntryAt ls k l → get_or (headers_of ls) k 0 ≡ l.header
header_at ls k l at = header_there ls k l at.0 ∙ ap header_of at.1

pub headers_rise : (ls : List NaturalLoop) → IsStrictlyIncreasing (headers_of ls) → IsNonDecreasingBy header_of ls
headers_rise ls h =
    IsNonDecreasingBy-from_default header_of ls no_loop (λ i j le below.
    let r = rising_all (headers_of ls) h i j le (omega (arith, length-map ls header_of)) in
    omega (arith, header_there ls i no_loop (omega arith), header_there ls j no_loop below))

-- loops with one header stand at one place
pub same_place : (ls : List NaturalLoop) → IsStrictlyIncreasing (headers_of ls) → (i j : ℕ) (l m : NaturalLoop) → IsEntryAt ls i l → IsEntryAt ls j m → l.header ≡ m.header → i ≡ j
same_place ls h i j l m at at' same =
    let below = at.0 in
    let below' = at'.0 in
    let long = length-map ls header_of in
    let a = header_at ls i l at in
    let b = header_at ls j m at' in
    elim (cases_order i j) [
      | inl eq ↦ eq
      | inr apart ↦
          elim apart [
            | inl lt ↦ let p = rising_pair (headers_of ls) h i j lt (omega arith) in absurd (omega arith)
            | inr gt ↦ let p = rising_pair (headers_of ls) h j i gt (omega arith) in absurd (omega arith)
          ]
    ]

pub same_at : (ls : List NaturalLoop) (i j : ℕ) (l m : NaturalLoop) → IsEntryAt ls i l → IsEntryAt ls j m → i ≡ j → l ≡ m
same_at ls i j l m at at' e = sym at.1 ∙ get_or_default ls i l m at.0 ∙ ap (λ (k : ℕ). get_or ls k m) e ∙ at'.1

-- two loops with one header are one
pub one_loop : (ls : List NaturalLoop) → IsStrictlyIncreasing (headers_of ls) → (i j : ℕ) (l m : NaturalLoop) → IsEntryAt ls i l → IsEntryAt ls j m → l.header ≡ m.header → l ≡ m
one_loop ls h i j l m at at' same = same_at ls i j l m at at' (same_place ls h i j l m at at' same)

pub iterations_at : (ls : List NaturalLoop) (u v i : ℕ) (l : NaturalLoop) → IsStrictlyIncreasing (headers_of ls) → IsHeadedAt ls v i → l ≡ get_or ls i l → ClosesLoop ls u v → Contains l.members u
iterations_at ls u v i l h head is t =
    let at : IsEntryAt ls i l = (head.at.0, sym is) in
    let same : head.headed ≡ l = one_loop ls h i i head.headed l head.at at (ap header_of (sym head.at.1 ∙ get_or_default ls i head.headed l head.at.0 ∙ sym is)) in
    let e : t.loop ≡ l = one_loop ls h t.among.0 i t.loop l (t.among.1, t.among.2) at (t.header ∙ sym head.header ∙ ap header_of same) in
    let P : NaturalLoop → Type 0 = λ z. Contains z.members u in
    subst P e t.member

pub iterations_from : (ls : List NaturalLoop) (u v i : ℕ) (l : NaturalLoop) → IsHeadedAt ls v i → l ≡ get_or ls i l → Contains l.members u → ClosesLoop ls u v
iterations_from ls u v i l head is has = record {
  loop = l;
  among = (i, head.at.0, sym is);
  header = ap header_of (is ∙ get_or_default ls i l head.headed head.at.0 ∙ head.at.1) ∙ head.header;
  member = has;
}
