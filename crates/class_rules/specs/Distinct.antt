-- Members by numbers of their texts.
use Rattle.std.specs.Prelude.{◌≡◌, ◌↔◌, ℕ, Bool, List, Option, slice_index}
use Rattle.std.specs.declared.cmp.Ordering.{Ordering}
use Rattle.std.specs.Ordering.{nat_cmp, ordering_then}
use Rattle.std.specs.Cmp.Lexicographic.{slice_cmp}
use Rattle.std.specs.BTreeMap.{BTreeMap, get_by}
use Rattle.std.specs.BTreeSet.{BTreeSet, contains}
use Rattle.std.proofs.Common.{Bor}
use Rattle.class_pool.specs.declared.entry.Entry.{Entry}
use Rattle.class_pool.specs.declared.class.Member.{Member}
use Rattle.class_pool.specs.Grammar.{text_at}

-- the number that a text has
abbrev pub number_in : BTreeMap (Bor (List ℕ)) ℕ → List ℕ → Option ℕ
number_in numbers units = get_by (λ k. slice_cmp nat_cmp units k.now) numbers

-- two indexes have the same number exactly if they have the same text
abbrev pub AreNumbers : List Entry → List ℕ → Type 0
AreNumbers pool numbers = (i j : ℕ) → (slice_index numbers i ≡ slice_index numbers j) ↔ (text_at pool i ≡ text_at pool j)

-- the numbers of a member's name and descriptor
abbrev pub key_of : List ℕ → Member → ℕ × ℕ
key_of numbers m = (slice_index numbers m.name, slice_index numbers m.descriptor)

abbrev pub compare_keys : ℕ × ℕ → ℕ × ℕ → Ordering
compare_keys a b = ordering_then (nat_cmp a.0 b.0) (nat_cmp a.1 b.1)

-- the set has the key
abbrev pub is_seen : BTreeSet (ℕ × ℕ) → ℕ × ℕ → Bool
is_seen seen key = contains compare_keys seen key
