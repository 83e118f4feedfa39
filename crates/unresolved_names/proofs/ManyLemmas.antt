-- Reading parts one after the other, as a loop does.
use Rattle.std.proofs.Common.{◌≡◌, ℕ, suc, ◌+◌, ◌-◌, ◌<◌, ◌≤◌, List, ◌++◌, Option, Some, None, refl, sym, ap, ◌∙◌, append_assoc, arith}
use Rattle.std.proofs.lemmas.List.{append-nil}
use Rattle.bytecode_model.specs.Lists.{onto}
use Rattle.base.specs.declared.fault.FormatFault.{FormatFault}
use Rattle.base.specs.declared.fault.FormatFault.TheVariants as faults
use Rattle.base.specs.Reading.{Fails}
use Rattle.program_tables.specs.FrameClasses.{FramePart, many}

-- what was read before, and what is still read
abbrev pub with_front : List ℕ → Option (List ℕ × List ℕ) → Option (List ℕ × List ℕ)
with_front front read = onto read (λ x. Some (front ++ x.0, x.1))

regroup : (front xs : List ℕ) (read : Option (List ℕ × List ℕ)) → with_front front (onto read (λ y. Some (xs ++ y.0, y.1))) ≡ with_front (front ++ xs) read
regroup front xs None = refl
regroup front xs (Some y) = ap (λ (zs : List ℕ). Some (zs, y.1)) (sym (append_assoc front xs y.0))

pub goes_on : (read : FramePart) (front : List ℕ) (count i : ℕ) (bytes xs after : List ℕ) (total : Option (List ℕ × List ℕ)) → i < count → read bytes ≡ Some (xs, after)
    → with_front front (many read (count - i) bytes) ≡ total → with_front (front ++ xs) (many read (count - (i + 1)) after) ≡ total
unfolding many
goes_on read front count i bytes xs after total lt h so_far =
    let k : count - i ≡ suc (count - (i + 1)) = omega arith in
    let one : with_front front (many read (count - i) bytes) ≡ with_front (front ++ xs) (many read (count - (i + 1)) after) = rw (k, h) (regroup front xs (many read (count - (i + 1)) after)) in
    sym one ∙ so_far

pub stops : (read : FramePart) (fault : FormatFault) (front : List ℕ) (count i : ℕ) (bytes : List ℕ) (total : Option (List ℕ × List ℕ)) → i < count → Fails fault (read bytes)
    → with_front front (many read (count - i) bytes) ≡ total → Fails fault total
unfolding many
stops read faults.NoMemory front count i bytes total lt h so_far = tt
stops read faults.Bad front count i bytes total lt h so_far =
    let k : count - i ≡ suc (count - (i + 1)) = omega arith in
    let one : with_front front (many read (count - i) bytes) ≡ None = rw (k, h) refl in
    sym so_far ∙ one

pub is_done : (read : FramePart) (front : List ℕ) (count i : ℕ) (bytes : List ℕ) (total : Option (List ℕ × List ℕ)) → count ≤ i → with_front front (many read (count - i) bytes) ≡ total → total ≡ Some (front, bytes)
unfolding many
is_done read front count i bytes total le so_far =
    let k : count - i ≡ 0 = omega arith in
    let one : with_front front (many read (count - i) bytes) ≡ Some (front, bytes) = rw k (ap (λ (xs : List ℕ). Some (xs, bytes)) (append-nil front)) in
    sym so_far ∙ one
