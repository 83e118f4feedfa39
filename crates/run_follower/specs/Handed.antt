-- What a follower was handed last.
use Rattle.std.specs.Prelude.{◌≡◌, ℕ}
use Rattle.run_follower.specs.declared.here.Here.{Here}

-- it was handed this last
abbrev pub WasHanded : {F : Type 0} → (after : F → Here → F) → F → Here → Type 0
WasHanded {F} after f here = (earlier : F) × (f ≡ after earlier here)

-- later in the same activation
abbrev pub later_in : Here → (clock misses pc : ℕ) → Here
later_in here clock misses pc = record here { clock = clock; misses = misses; pc = pc }
