-- The bytes that were fetched.
use Rattle.std.proofs.Common.{◌≡◌, ℕ, zero, suc, ◌<◌, List, refl, arith}
use Rattle.std.specs.Prelude.{slice_index}
use Rattle.base.specs.Packed.{byte_of}
use Rattle.method_cache.specs.Contents.{Cache}
use Rattle.jop_core.specs.Meaning.{bytes_of, IsFetched}

pub not_fetched : (bytes : List ℕ) (method : ℕ) (cache : Cache) → IsFetched bytes 4294967295 method cache
unfolding IsFetched
not_fetched bytes method cache = λ below. absurd (omega (arith, below))

pub byte_among : (word k : ℕ) → k < 4 → slice_index (bytes_of word) k ≡ byte_of word k
byte_among word zero small = refl
byte_among word (suc zero) small = refl
byte_among word (suc (suc zero)) small = refl
byte_among word (suc (suc (suc zero))) small = refl
byte_among word (suc (suc (suc (suc k)))) small = absurd (omega (arith, small))
