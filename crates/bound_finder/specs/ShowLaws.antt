-- What is found shows its numbers: the section of a method, behind sections that have the numbers of all that it may call.
use Rattle.std.specs.Prelude.{◌≡◌, ℕ, ◌^◌, ◌<◌, ◌≤◌, IfSome}
use Rattle.method_flow.specs.Keeping.{BoundOf}
use Rattle.bound_finder.specs.declared.prepared.Prepared.{Prepared}
use Rattle.bound_finder.specs.declared.fit.Fit.{Fit}
use Rattle.bound_finder.specs.declared.found.Walked.{Walked}
use Rattle.bound_finder.specs.Prepared.{AreBounds, IsInShape}
use Rattle.bound_finder.specs.Found.{IsWalked, found_by, IsSectionOf, ShowsNumber}
use Rattle.bound_finder.specs.WalkedMethods.{WalkedMethod, IsWalkedMethod, found_of}

-- the section that is found of a method by its walks shows the number that is asked of it
abbrev pub FoundShows : Type 0
FoundShows =
    (x : WalkedMethod) → IsWalkedMethod x
    → IfSome (found_of x).section (ShowsNumber x.program x.timing x.bound_of x.table x.method (found_of x).known)

-- and it is one of the method that can be written, whatever the program
abbrev pub FoundInText : Type 0
FoundInText =
    (bound_of : BoundOf) (m : ℕ) (p : Prepared) (fit : Fit) (walked : Walked) → m < 2 ^ 32 → p.shape.size ≤ 2 ^ 32 → IsInShape p
    → AreBounds bound_of m p.shape p.bounds.items → p.fits ≡ fit.fits → IsWalked p walked
    → IfSome (found_by m fit walked).section (IsSectionOf m (found_by m fit walked).known)
