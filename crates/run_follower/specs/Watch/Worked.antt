-- A run of a few boundaries: an executive, whose method is 5, calls its first slot and its second one, of method 7, which calls method 8.
use Rattle.std.specs.Prelude.{◌≡◌, ℕ, List, [], ◌∷◌}
use Rattle.run_follower.specs.declared.here.Here.{Here}
use Rattle.run_follower.specs.Watch.Watched.{activations, of_method, profile_of, slots_of}

abbrev at : (clock misses frames method pc : ℕ) → Here
at clock misses frames method pc = record { clock = clock; misses = misses; frames = frames; method = method; pc = pc }

-- The second call of method 8 is left by an exception, and so is that of method 7 around it. The last call hasn't ended.
abbrev pub run : List Here
run =
    at 10 0 1 5 9 ∷ at 20 1 2 7 0 ∷ at 30 1 2 7 3 ∷ at 45 2 3 8 0 ∷ at 60 2 2 7 6 ∷ at 70 2 1 5 12 ∷ at 80 3 2 7 0 ∷ at 90 3 2 7 3 ∷ at 99 3 3 8 0
    ∷ at 105 3 2 7 3 ∷ at 110 3 1 5 12 ∷ at 115 3 2 7 0 ∷ []

pub record WorkedRun : Type 0 where
  pub outer : profile_of (of_method 7 (activations run)) ≡ record { count = 2; most = 60; total = 100; misses = 3 }
  pub inner : profile_of (of_method 8 (activations run)) ≡ record { count = 2; most = 30; total = 45; misses = 1 }
  pub other : profile_of (of_method 5 (activations run)) ≡ record { count = 0; most = 0; total = 0; misses = 0 }
  pub late : slots_of 5 (50 ∷ 40 ∷ []) run ≡ record { ended = 2; late = 1; idle = 0 }
  pub idle : slots_of 5 (100 ∷ 100 ∷ []) run ≡ record { ended = 2; late = 0; idle = 100 }
  pub one_slot : slots_of 5 (100 ∷ []) run ≡ record { ended = 1; late = 0; idle = 40 }
