-- Every entry is an address of the ROM.
use Rattle.std.proofs.Common.{◌≡◌, ℕ, zero, suc, ◌<◌, List, [], ◌∷◌, Bool, true, false, nat_lt, get_or, refl, ltb-true, arith, ◌&&◌}
use Rattle.std.proofs.lemmas.Bool.{and_parts}
use Rattle.microcode.specs.declared.TheConstants.{ENTRIES}

abbrev all_below : ℕ → List ℕ → Bool
all_below n [] = true
all_below n (x ∷ xs) = nat_lt x n && all_below n xs

get_or-below : (n : ℕ) (xs : List ℕ) (i : ℕ) → 0 < n → all_below n xs ≡ true → get_or xs i 0 < n
get_or-below n [] i some below = some
get_or-below n (x ∷ xs) zero some below = ltb-true x n (and_parts (nat_lt x n) (all_below n xs) below).0
get_or-below n (x ∷ xs) (suc i) some below = get_or-below n xs i some (and_parts (nat_lt x n) (all_below n xs) below).1

pub entry_below : (op : ℕ) → get_or ENTRIES op 0 < 2048
entry_below op = get_or-below 2048 ENTRIES op (omega arith) refl
