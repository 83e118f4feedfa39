-- A pool that is read is spelled so, and a pool that is spelled so is read.
use Rattle.std.proofs.Common.{◌≡◌, ℕ, zero, suc, ◌+◌, ◌-◌, ◌≤◌, Bool, true, false, cond, ◌&&◌, ◌==◌, List, [], ◌∷◌, ◌++◌, length, take, drop, Option, Some, None, refl, sym, ap, subst, ◌∙◌, append_assoc, arith, ne_eqb, take-append-drop}
use Rattle.std.proofs.lemmas.Bool.{eqb-false, and_parts}
use Rattle.std.specs.Prelude.{Result, IsTrue}
use Rattle.std.specs.List.{flat_map, list_all, AllByRecursion}
use Rattle.std.proofs.lemmas.List.{take_at, length-append}
use Rattle.std.proofs.lemmas.List.Concat.{flat_map-cons}
use Rattle.class_pool.specs.declared.entry.Entry.{Entry}
use Rattle.base.specs.declared.fault.FormatFault.{FormatFault}
use Rattle.base.specs.declared.fault.FormatFault.TheVariants as faults
use Rattle.class_pool.specs.Spelling.{u2, entry_bytes, IsEntryInRange, pool_bytes}
use Rattle.class_pool.specs.Grammar.{takes_two, HaveSeconds, points_rightly, IsPool, IsPoolOf}
use Rattle.base.specs.Reading.{◌>>=◌, Fails}
use Rattle.class_pool.specs.Reading.{number_in, place_in, places_in, pool_in}
use Rattle.class_pool.specs.NumberLaws.{IsBytes, bind_some, same_some, Takes, Takes-then, wide_2, number_takes, number_again}
use Rattle.class_pool.proofs.EntryLaws.{place_takes, place_again}

-- what so many places are
record ArePlaces (n : ℕ) (due : Bool) (bytes : List ℕ) (found : List Entry × List ℕ) : Type 0 where
  takes : Takes bytes (flat_map entry_bytes found.0) found.1
  count : length found.0 ≡ n
  in_range : AllByRecursion IsEntryInRange found.0
  seconds : HaveSeconds due found.0

places_take : (n : ℕ) (due : Bool) (bytes : List ℕ) (found : List Entry × List ℕ) → IsBytes bytes → places_in n due bytes ≡ Some found → ArePlaces n due bytes found
unfolding places_in
places_take zero true bytes found fits e = absurd (let f : None ≡ Some found = e in cc)
places_take zero false bytes found fits e =
    subst (ArePlaces zero false bytes) (same_some ([], bytes) found e) (record { takes = record { parts = refl; rest_fits = fits }; count = refl; in_range = tt; seconds = refl })
places_take (suc n) due bytes found fits e =
    let a = bind_some (place_in due bytes) (λ first. places_in n (takes_two first.0) first.1 >>= λ others. Some (first.0 ∷ others.0, others.1)) found e in
    let b = bind_some (places_in n (takes_two a.0.0) a.0.1) (λ others. Some (a.0.0 ∷ others.0, others.1)) found a.2 in
    let first = place_takes due bytes a.0 fits a.1 in
    let others = places_take n (takes_two a.0.0) a.0.1 b.0 first.takes.rest_fits b.1 in
    let both = Takes-then bytes (entry_bytes a.0.0) a.0.1 (flat_map entry_bytes b.0.0) b.0.1 first.takes others.takes in
    subst (ArePlaces (suc n) due bytes) (same_some (a.0.0 ∷ b.0.0, b.0.1) found b.2)
    (record { takes = rw flat_map-cons both; count = ap suc others.count; in_range = (first.in_range, others.in_range); seconds = (first.is_due, others.seconds) })

places_again : (es : List Entry) (due : Bool) (rest : List ℕ) → AllByRecursion IsEntryInRange es → HaveSeconds due es → places_in (length es) due (flat_map entry_bytes es ++ rest) ≡ Some (es, rest)
unfolding places_in
places_again [] due rest range seconds = rw seconds refl
places_again (e ∷ es) due rest range seconds =
    let text : flat_map entry_bytes (e ∷ es) ++ rest ≡ entry_bytes e ++ (flat_map entry_bytes es ++ rest) = ap (λ (x : List ℕ). x ++ rest) (flat_map-cons entry_bytes e es) ∙ append_assoc (entry_bytes e) (flat_map entry_bytes es) rest in
    let first : place_in due (entry_bytes e ++ (flat_map entry_bytes es ++ rest)) ≡ Some (e, flat_map entry_bytes es ++ rest) =
    ap (λ (d : Bool). place_in d (entry_bytes e ++ (flat_map entry_bytes es ++ rest))) (sym seconds.0) ∙ place_again e (flat_map entry_bytes es ++ rest) range.0 in
    ap (places_in (suc (length es)) due) text
    ∙ ap (λ (read : Option (Entry × List ℕ)). read >>= λ f. places_in (length es) (takes_two f.0) f.1 >>= λ others. Some (f.0 ∷ others.0, others.1)) first
    ∙ ap (λ (read : Option (List Entry × List ℕ)). read >>= λ others. Some (e ∷ others.0, others.1)) (places_again es (takes_two e) rest range.1 seconds.1)

pub all_true : (p : Entry → Bool) (es : List Entry) → list_all p es ≡ true → AllByRecursion (λ e. IsTrue (p e)) es
all_true p [] h = tt
all_true p (e ∷ es) h = let b = and_parts (p e) (list_all p es) h in (b.0, all_true p es b.1)

pub true_all : (p : Entry → Bool) (es : List Entry) → AllByRecursion (λ e. IsTrue (p e)) es → list_all p es ≡ true
true_all p [] h = refl
true_all p (e ∷ es) h = ap (λ (b : Bool). b && list_all p es) h.0 ∙ true_all p es h.1

guard_none : {A : Type 0} (b : Bool) (x : Option A) (y : A) → cond b None x ≡ Some y → (b ≡ false) × (x ≡ Some y)
guard_none true x y e = absurd (cc)
guard_none false x y e = (refl, e)

guard_passed : {A : Type 0} (b : Bool) (x y : A) → cond b (Some x) None ≡ Some y → (b ≡ true) × (x ≡ y)
guard_passed true x y e = (refl, same_some x y e)
guard_passed false x y e = absurd (let f : None ≡ Some y = e in cc)

-- what a pool that was read is
pub record IsRead (bytes : List ℕ) (found : List Entry × List ℕ) : Type 0 where
  pub grammar : IsPool found.0
  pub parts : bytes ≡ pool_bytes found.0 ++ found.1

pub pool_takes : (bytes : List ℕ) (found : List Entry × List ℕ) → IsBytes bytes → pool_in bytes ≡ Some found → IsRead bytes found
unfolding pool_in
pool_takes bytes found fits e =
    let last : List Entry × List ℕ → Option (List Entry × List ℕ) = λ x. cond (list_all (points_rightly x.0) x.0) (Some x) None in
    let a = bind_some (number_in 2 bytes) (λ count. cond (count.0 == 0) None (places_in (count.0 - 1) false count.1) >>= last) found e in
    let b = bind_some (cond (a.0.0 == 0) None (places_in (a.0.0 - 1) false a.0.1)) last found a.2 in
    let g = guard_none (a.0.0 == 0) (places_in (a.0.0 - 1) false a.0.1) b.0 b.1 in
    let h = guard_passed (list_all (points_rightly b.0.0) b.0.0) b.0 found b.2 in
    let first = number_takes 2 wide_2 bytes a.0.0 a.0.1 fits a.1 in
    let second = places_take (a.0.0 - 1) false a.0.1 b.0 first.0.rest_fits g.1 in
    let positive = eqb-false a.0.0 0 g.0 in
    let count : length b.0.0 + 1 ≡ a.0.0 = omega (arith, second.count, positive) in
    let both = Takes-then bytes (u2 a.0.0) a.0.1 (flat_map entry_bytes b.0.0) b.0.1 first.0 second.takes in
    let made : bytes ≡ pool_bytes b.0.0 ++ b.0.1 = both.parts ∙ ap (λ (k : ℕ). (u2 k ++ flat_map entry_bytes b.0.0) ++ b.0.1) (sym count) in
    subst (IsRead bytes) h.1
    (record {
      grammar = record { count = omega (arith, first.1, count); in_range = second.in_range; seconds = second.seconds; references = all_true (points_rightly b.0.0) b.0.0 h.0 };
      parts = made;
    })

pub pool_again : (es : List Entry) (rest : List ℕ) → IsPool es → pool_in (pool_bytes es ++ rest) ≡ Some (es, rest)
unfolding pool_in
pool_again es rest is =
    let last : List Entry × List ℕ → Option (List Entry × List ℕ) = λ x. cond (list_all (points_rightly x.0) x.0) (Some x) None in
    let text : List ℕ = flat_map entry_bytes es in
    let some : (length es + 1 == 0) ≡ false = positive (length es) in
    let count : length es + 1 - 1 ≡ length es = omega arith in
    ap (λ (read : Option (ℕ × List ℕ)). read >>= λ c. cond (c.0 == 0) None (places_in (c.0 - 1) false c.1) >>= last)
    (ap (number_in 2) (append_assoc (u2 (length es + 1)) text rest) ∙ number_again 2 wide_2 (length es + 1) (text ++ rest) is.count)
    ∙ ap (λ (b : Bool). cond b None (places_in (length es + 1 - 1) false (text ++ rest)) >>= last) some
    ∙ ap (λ (n : ℕ). places_in n false (text ++ rest) >>= last) count
    ∙ ap (λ (read : Option (List Entry × List ℕ)). read >>= last) (places_again es false rest is.in_range is.seconds)
    ∙ ap (λ (b : Bool). cond b (Some (es, rest)) None) (true_all (points_rightly es) es is.references)
  where
    positive : (n : ℕ) → (n + 1 == 0) ≡ false
    positive n = ne_eqb (n + 1) 0 (omega arith)

-- ---- what the clauses of `read_pool` say

abbrev Made : Type 0
Made = Result (List Entry × ℕ) FormatFault

pub only_fault : (fault : FormatFault) (bytes : List ℕ) (es : List Entry) (rest : List ℕ) → IsPool es → bytes ≡ pool_bytes es ++ rest → Fails fault (pool_in bytes) → fault ≡ faults.NoMemory
only_fault faults.NoMemory bytes es rest is spelling fails = refl
only_fault faults.Bad bytes es rest is spelling fails =
    absurd (let x : List Entry × List ℕ = (es, rest) in let f : None ≡ Some x = sym fails ∙ (ap pool_in spelling ∙ pool_again es rest is) in cc)

pub no_pool : (fault : FormatFault) (bytes : List ℕ) → Fails fault (pool_in bytes) → fault ≡ faults.Bad → (es : List Entry) (n : ℕ) → IsPoolOf (take n bytes) es → ⊥
no_pool faults.NoMemory bytes fails same es n is = absurd (cc)
no_pool faults.Bad bytes fails same es n is =
    let whole : bytes ≡ pool_bytes es ++ drop n bytes = sym (take-append-drop n bytes) ∙ ap (λ (t : List ℕ). t ++ drop n bytes) is.spelling in
    let f : faults.Bad ≡ faults.NoMemory = only_fault faults.Bad bytes es (drop n bytes) is.grammar whole fails in absurd (cc)

pub shorter : (bytes : List ℕ) (es : List Entry) (rest : List ℕ) → IsBytes bytes → pool_in bytes ≡ Some (es, rest) → length rest ≤ length bytes
shorter bytes es rest fits e = let r = pool_takes bytes (es, rest) fits e in omega (arith, ap length r.parts, length-append (pool_bytes es) rest)

taken_length : (bytes : List ℕ) (es : List Entry) (rest : List ℕ) → bytes ≡ pool_bytes es ++ rest → length bytes - length rest ≡ length (pool_bytes es)
taken_length bytes es rest parts = let e : length bytes ≡ length (pool_bytes es) + length rest = ap length parts ∙ length-append (pool_bytes es) rest in omega (arith, e)

pub is_found : (bytes : List ℕ) (es : List Entry) (rest : List ℕ) → IsBytes bytes → pool_in bytes ≡ Some (es, rest) → IsPoolOf (take (length bytes - length rest) bytes) es
is_found bytes es rest fits e =
    let r = pool_takes bytes (es, rest) fits e in
    record { grammar = r.grammar; spelling = ap (take (length bytes - length rest)) r.parts ∙ take_at (pool_bytes es) rest (length bytes - length rest) (sym (taken_length bytes es rest r.parts)) }

pub is_only : (bytes : List ℕ) (es : List Entry) (rest : List ℕ) → IsBytes bytes → pool_in bytes ≡ Some (es, rest)
    → (others : List Entry) (behind : List ℕ) → IsPool others → bytes ≡ pool_bytes others ++ behind → (es ≡ others) × (length bytes - length rest ≡ length (pool_bytes others))
is_only bytes es rest fits e others behind is spelling =
    let same : (es, rest) ≡ (others, behind) = same_some (es, rest) (others, behind) (sym e ∙ (ap pool_in spelling ∙ pool_again others behind is)) in
    let left : es ≡ others = ap (λ (p : List Entry × List ℕ). p.0) same in
    let right : rest ≡ behind = ap (λ (p : List Entry × List ℕ). p.1) same in
    (left, ap (λ (r : List ℕ). length bytes - length r) right ∙ taken_length bytes others behind spelling)

-- bytes begin with one pool at most
pub one_reading : (es fs : List Entry) (rest more : List ℕ) → IsPool es → IsPool fs → pool_bytes es ++ rest ≡ pool_bytes fs ++ more → (es ≡ fs) × (rest ≡ more)
one_reading es fs rest more is_pool is_other e =
    let same : (es, rest) ≡ (fs, more) = same_some (es, rest) (fs, more) (sym (pool_again es rest is_pool) ∙ (ap pool_in e ∙ pool_again fs more is_other)) in
    (ap (λ (p : List Entry × List ℕ). p.0) same, ap (λ (p : List Entry × List ℕ). p.1) same)
