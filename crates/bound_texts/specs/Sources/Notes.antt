-- Bounds of loops by lines of sources, and by places of methods, in the order in which they are given.
use Rattle.std.specs.Prelude.{◌≡◌, ℕ, Bool, false, ◌&&◌, ◌==◌, nat_eq, if◌then◌else◌, List, [], ◌∷◌, Option, Some, None}
use lib.Pointwise.{pointwise}

-- each loop, of whatever method, whose header is of a line of a file; or the loop of a method whose header is at a place
pub data Subject : Type 0 where
  AtLine : (file : List ℕ) (line : ℕ) → Subject
  AtPlace : (method : List ℕ) (pc : ℕ) → Subject

-- How often it goes round at most: so often its back edges are taken between two entries.
pub record Note : Type 0 where
  pub subject : Subject
  pub bound : ℕ

abbrev pub same_subject : Subject → Subject → Bool
same_subject (AtLine file line) (AtLine other n) = pointwise nat_eq file other && line == n
same_subject (AtPlace method pc) (AtPlace other n) = pointwise nat_eq method other && pc == n
same_subject (AtLine file line) (AtPlace other n) = false
same_subject (AtPlace method pc) (AtLine other n) = false

-- the bound of the first that is given for the subject
abbrev pub noted_bound : Subject → List Note → Option ℕ
noted_bound s [] = None
noted_bound s (n ∷ ns) = if same_subject s n.subject then Some n.bound else noted_bound s ns

-- no subject has two
abbrev pub AreOfDifferentSubjects : List Note → Type 0
AreOfDifferentSubjects [] = Unit {0}
AreOfDifferentSubjects (n ∷ ns) = (noted_bound n.subject ns ≡ None) × AreOfDifferentSubjects ns
