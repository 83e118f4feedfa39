-- What a follower comes to over all that it is handed.
use Rattle.std.specs.Prelude.{◌≡◌, List, [], ◌∷◌, ◌++◌, refl}
use Rattle.run_follower.specs.declared.here.Here.{Here}

-- what it is once it has been handed these, in order
abbrev pub followed : {F : Type 0} → (after : F → Here → F) → F → List Here → F
followed after f [] = f
followed after f (here ∷ later) = followed after (after f here) later

-- two lists, one after the other, come to what the two as one come to
pub followed-append : {F : Type 0} (after : F → Here → F) (f : F) (earlier later : List Here)
    → followed after f (earlier ++ later) ≡ followed after (followed after f earlier) later
followed-append after f [] later = refl
followed-append after f (here ∷ earlier) later = followed-append after (after f here) earlier later
