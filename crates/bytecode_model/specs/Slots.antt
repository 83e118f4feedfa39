-- Local variables and operands by words (JVM Specification SE 8, 2.6.1 and 2.6.2): what takes two words, and what unsets what. They hold values, or
-- types of values.
use Rattle.std.specs.Prelude.{ℕ, zero, suc, Bool, List, [], ◌∷◌, ◌++◌, Option, Some, None, if◌then◌else◌}
use Rattle.bytecode_model.specs.Lists.{onto}
use Rattle.bytecode_model.specs.Rows.{Width, Zero, One, Two, StackForm, Drop, Copy, Swap}

-- ---- local variables: one that takes two words is followed by an unset one

-- the second half of what stands at k − 1 and k is about to be written: the first half is unset
abbrev pub without_half : {A : Type 0} → (long : A → Bool) → (unset : A) → List A → ℕ → List A
without_half long unset [] k = []
without_half long unset (v ∷ vs) zero = v ∷ vs
without_half long unset (v ∷ vs) (suc zero) = (if long v then unset else v) ∷ vs
without_half long unset (v ∷ vs) (suc (suc k)) = v ∷ without_half long unset vs (suc k)

-- one is written, and where it takes two words the next one is unset; so is the second half of what loses its first one
abbrev pub stored_at : {A : Type 0} → (long : A → Bool) → (unset : A) → List A → ℕ → A → Option (List A)
stored_at long unset [] k v = None
stored_at long unset (u ∷ []) zero v = if long v then None else Some (v ∷ [])
stored_at long unset (u ∷ w ∷ vs) zero v = if long v then Some (v ∷ unset ∷ vs) else Some (v ∷ (if long u then unset else w) ∷ vs)
stored_at long unset (u ∷ vs) (suc k) v = onto (stored_at long unset vs k v) (λ ws. Some (u ∷ ws))

abbrev pub stored : {A : Type 0} → (long : A → Bool) → (unset : A) → List A → ℕ → A → Option (List A)
stored long unset vs k v = stored_at long unset (without_half long unset vs k) k v

-- arguments as local variables
abbrev pub spread : {A : Type 0} → (long : A → Bool) → (unset : A) → List A → List A
spread long unset [] = []
spread long unset (v ∷ vs) = if long v then v ∷ unset ∷ spread long unset vs else v ∷ spread long unset vs

-- so many local variables, the rest of them unset
abbrev pub padded : {A : Type 0} → (unset : A) → ℕ → List A → Option (List A)
padded unset zero [] = Some []
padded unset zero (v ∷ vs) = None
padded unset (suc n) [] = onto (padded unset n []) (λ ws. Some (unset ∷ ws))
padded unset (suc n) (v ∷ vs) = onto (padded unset n vs) (λ ws. Some (v ∷ ws))

-- ---- operands: what takes two words is one item

-- the topmost words and what is below: none, an item of one word, or two words in one or two items; none where an item would be split
abbrev pub split : {A : Type 0} → (long : A → Bool) → Width → List A → Option (List A × List A)
split long Zero ops = Some ([], ops)
split long One [] = None
split long One (v ∷ ops) = if long v then None else Some (v ∷ [], ops)
split long Two [] = None
split long Two (v ∷ []) = if long v then Some (v ∷ [], []) else None
split long Two (v ∷ w ∷ ops) = if long v then Some (v ∷ [], w ∷ ops) else if long w then None else Some (v ∷ w ∷ [], ops)

abbrev pub shuffled : {A : Type 0} → StackForm → (upper lower rest : List A) → List A
shuffled Drop upper lower rest = rest
shuffled Copy upper lower rest = upper ++ lower ++ upper ++ rest
shuffled Swap upper lower rest = lower ++ upper ++ rest

abbrev pub shuffle : {A : Type 0} → (long : A → Bool) → StackForm → (upper lower : Width) → List A → Option (List A)
shuffle long form upper lower ops = onto (split long upper ops) (λ x. onto (split long lower x.1) (λ y. Some (shuffled form x.0 y.0 y.1)))
