-- What a watch in memory tells.
use Rattle.std.specs.Prelude.{◌≡◌, ℕ, ◌≤◌, ◌⊎◌, List, [], ◌∷◌, ◌++◌, length, Some, None, IfSome, vec_capacity, if◌then◌else◌}
use Rattle.std.specs.declared.option.Option.{Option}
use Rattle.device_traits.specs.declared.seen.Seen.{Seen}
use Rattle.device_traits.specs.declared.watch.MemWatch.{MemWatch}

abbrev pub watched : MemWatch → Option (List Seen)
watched w = if w.tells then Some w.states.items else None

-- for how many states it has memory
abbrev pub capacity_of : MemWatch → ℕ
capacity_of w = vec_capacity w.states

-- A watch that told goes on telling, with this state behind the others, or it had no room for it and had to find memory.
abbrev pub GoesOnTelling : (old new : MemWatch) → Seen → Type 0
GoesOnTelling old new at = IfSome (watched old) (λ states. (capacity_of old ≤ length states) ⊎ (watched new ≡ Some (states ++ at ∷ [])))
