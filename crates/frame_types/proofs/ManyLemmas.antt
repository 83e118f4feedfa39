-- Reading items one after the other, as a loop does.
use Rattle.std.proofs.Common.{◌≡◌, ℕ, suc, ◌+◌, ◌-◌, ◌<◌, ◌≤◌, List, [], ◌∷◌, ◌++◌, Option, Some, None, refl, sym, ap, ◌∙◌, append_assoc, arith}
use Rattle.std.proofs.lemmas.List.{append-nil}
use Rattle.base.specs.declared.fault.FormatFault.{FormatFault}
use Rattle.base.specs.declared.fault.FormatFault.TheVariants as faults
use Rattle.base.specs.Reading.{◌>>=◌, Fails}
use Rattle.class_file.specs.InsideReading.{many_in}

-- the items that were read before, and those that are still read
abbrev pub with_front : {X : Type 0} → List X → Option (List X × List ℕ) → Option (List X × List ℕ)
with_front front read = read >>= λ x. Some (front ++ x.0, x.1)

regroup : {X : Type 0} (front : List X) (x : X) (read : Option (List X × List ℕ)) → with_front front (read >>= λ y. Some (x ∷ y.0, y.1)) ≡ with_front (front ++ x ∷ []) read
regroup front x None = refl
regroup front x (Some y) = ap (λ (xs : List _). Some (xs, y.1)) (sym (append_assoc front (x ∷ []) y.0))

pub goes_on : {X : Type 0} (read : List ℕ → Option (X × List ℕ)) (front : List X) (count i : ℕ) (bytes : List ℕ) (x : X) (after : List ℕ) (total : Option (List X × List ℕ)) → i < count → read bytes ≡ Some (x, after)
    → with_front front (many_in read (count - i) bytes) ≡ total → with_front (front ++ x ∷ []) (many_in read (count - (i + 1)) after) ≡ total
unfolding many_in
goes_on read front count i bytes x after total lt h so_far =
    let k : count - i ≡ suc (count - (i + 1)) = omega arith in
    let one : with_front front (many_in read (count - i) bytes) ≡ with_front (front ++ x ∷ []) (many_in read (count - (i + 1)) after) = rw (k, h) (regroup front x (many_in read (count - (i + 1)) after)) in
    sym one ∙ so_far

pub stops : {X : Type 0} (read : List ℕ → Option (X × List ℕ)) (fault : FormatFault) (front : List X) (count i : ℕ) (bytes : List ℕ) (total : Option (List X × List ℕ)) → i < count → Fails fault (read bytes)
    → with_front front (many_in read (count - i) bytes) ≡ total → Fails fault total
unfolding many_in
stops read faults.NoMemory front count i bytes total lt h so_far = tt
stops read faults.Bad front count i bytes total lt h so_far =
    let k : count - i ≡ suc (count - (i + 1)) = omega arith in
    let one : with_front front (many_in read (count - i) bytes) ≡ None = rw (k, h) refl in
    sym so_far ∙ one

pub is_done : {X : Type 0} (read : List ℕ → Option (X × List ℕ)) (front : List X) (count i : ℕ) (bytes : List ℕ) (total : Option (List X × List ℕ)) → count ≤ i → with_front front (many_in read (count - i) bytes) ≡ total → total ≡ Some (front, bytes)
unfolding many_in
is_done read front count i bytes total le so_far =
    let k : count - i ≡ 0 = omega arith in
    let one : with_front front (many_in read (count - i) bytes) ≡ Some (front, bytes) = rw k (ap (λ (xs : List _). Some (xs, bytes)) (append-nil front)) in
    sym so_far ∙ one
