-- Reading places one after the other, as a loop does.
use Rattle.std.proofs.Common.{◌≡◌, ℕ, suc, ◌+◌, ◌-◌, ◌<◌, ◌≤◌, Bool, true, false, List, [], ◌∷◌, ◌++◌, Option, Some, None, refl, sym, ap, ◌∙◌, append_assoc, arith}
use Rattle.std.proofs.lemmas.List.{append-nil}
use Rattle.class_pool.specs.declared.entry.Entry.{Entry}
use Rattle.base.specs.declared.fault.FormatFault.{FormatFault}
use Rattle.base.specs.declared.fault.FormatFault.TheVariants as faults
use Rattle.class_pool.specs.Grammar.{takes_two}
use Rattle.base.specs.Reading.{◌>>=◌, Fails}
use Rattle.class_pool.specs.Reading.{place_in, places_in}

abbrev Found : Type 0
Found = Option (List Entry × List ℕ)

-- the entries that were read before, and those that are still read
abbrev pub with_front : List Entry → Option (List Entry × List ℕ) → Option (List Entry × List ℕ)
with_front front read = read >>= λ x. Some (front ++ x.0, x.1)

regroup : (front : List Entry) (e : Entry) (read : Found) → with_front front (read >>= λ x. Some (e ∷ x.0, x.1)) ≡ with_front (front ++ e ∷ []) read
regroup front e None = refl
regroup front e (Some x) = ap (λ (es : List Entry). Some (es, x.1)) (sym (append_assoc front (e ∷ []) x.0))

pub goes_on : (front : List Entry) (count i : ℕ) (due : Bool) (bytes : List ℕ) (e : Entry) (after : List ℕ) (total : Found) → i < count → place_in due bytes ≡ Some (e, after)
    → with_front front (places_in (count - i) due bytes) ≡ total → with_front (front ++ e ∷ []) (places_in (count - (i + 1)) (takes_two e) after) ≡ total
unfolding places_in
goes_on front count i due bytes e after total lt h so_far =
    let k : count - i ≡ suc (count - (i + 1)) = omega arith in
    let one : with_front front (places_in (count - i) due bytes) ≡ with_front (front ++ e ∷ []) (places_in (count - (i + 1)) (takes_two e) after) = rw (k, h) (regroup front e (places_in (count - (i + 1)) (takes_two e) after)) in
    sym one ∙ so_far

pub stops : (fault : FormatFault) (front : List Entry) (count i : ℕ) (due : Bool) (bytes : List ℕ) (total : Found) → i < count → Fails fault (place_in due bytes)
    → with_front front (places_in (count - i) due bytes) ≡ total → Fails fault total
unfolding places_in
stops faults.NoMemory front count i due bytes total lt h so_far = tt
stops faults.Bad front count i due bytes total lt h so_far =
    let k : count - i ≡ suc (count - (i + 1)) = omega arith in
    let one : with_front front (places_in (count - i) due bytes) ≡ None = rw (k, h) refl in
    sym so_far ∙ one

pub is_due : (front : List Entry) (count i : ℕ) (due : Bool) (bytes : List ℕ) (total : Found) → count ≤ i → due ≡ true → with_front front (places_in (count - i) due bytes) ≡ total → total ≡ None
unfolding places_in
is_due front count i due bytes total le is so_far =
    let k : count - i ≡ 0 = omega arith in
    let one : with_front front (places_in (count - i) due bytes) ≡ None = rw (k, is) refl in
    sym so_far ∙ one

pub is_done : (front : List Entry) (count i : ℕ) (due : Bool) (bytes : List ℕ) (total : Found) → count ≤ i → due ≡ false → with_front front (places_in (count - i) due bytes) ≡ total → total ≡ Some (front, bytes)
unfolding places_in
is_done front count i due bytes total le is so_far =
    let k : count - i ≡ 0 = omega arith in
    let one : with_front front (places_in (count - i) due bytes) ≡ Some (front, bytes) = rw (k, is) (ap (λ (es : List Entry). Some (es, bytes)) (append-nil front)) in
    sym so_far ∙ one
