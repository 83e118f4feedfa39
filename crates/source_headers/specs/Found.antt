-- Loops that count, from one on.
use Rattle.std.specs.Prelude.{◌≡◌, ℕ, List, [], ◌∷◌, All}
use Rattle.loop_nest.specs.Digraph.{IsBefore}
use Rattle.loop_rules.specs.declared.found.FoundLoop.{FoundLoop}
use Rattle.source_headers.specs.Headers.{found_at}

abbrev pub place_of : FoundLoop → ℕ × ℕ
place_of x = (x.method, x.place)

-- each stands before those behind it, by method and place
abbrev pub AreRising : List FoundLoop → Type 0
AreRising [] = Unit {0}
AreRising (x ∷ xs) = All (λ y. IsBefore (place_of x) (place_of y)) xs × AreRising xs

-- the first of them isn't before the place of the method
abbrev pub StartsFrom : List FoundLoop → (method place : ℕ) → Type 0
StartsFrom [] m p = Unit {0}
StartsFrom (x ∷ xs) m p = ¬ IsBefore (place_of x) (m, p)

-- those that are left, without some that are before the place of the method
pub record IsLeftFrom (found left : List FoundLoop) (m p : ℕ) : Type 0 where
  pub rising : AreRising found → AreRising left
  pub same : (n q : ℕ) → ¬ IsBefore (n, q) (m, p) → found_at left n q ≡ found_at found n q
