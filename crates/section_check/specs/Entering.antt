-- Where control comes to the loops and the regions of a well placed section.
use Rattle.std.specs.Prelude.{◌≡◌, ℕ, true, List, Contains, Option}
use Rattle.loop_nest.specs.Digraph.{Digraph, Edge}
use Rattle.section_check.specs.Section.{CertifiedLoop, Certified}
use Rattle.section_check.specs.Placing.{IsEntryAt, AreWellPlaced}

-- no node is in two regions: those that have a common node are one
abbrev pub RegionsAreApart : Type 0
RegionsAreApart =
    (g : Digraph) (c : Certified) (bounds : List ℕ) (loads : List (Option ℕ)) → AreWellPlaced g c bounds loads
    → (i k : ℕ) (l m : CertifiedLoop) → IsEntryAt c.loops i l → IsEntryAt c.loops k m → l.region ≡ true → m.region ≡ true
    → (u : ℕ) → Contains l.members u → Contains m.members u → i ≡ k

-- an edge enters a loop at its header alone
abbrev pub LoopsAreEnteredAtHeaders : Type 0
LoopsAreEnteredAtHeaders =
    (g : Digraph) (c : Certified) (bounds : List ℕ) (loads : List (Option ℕ)) → AreWellPlaced g c bounds loads
    → (l : CertifiedLoop) (u v : ℕ) → Contains c.loops l → Edge g u v → Contains l.members v → ¬ Contains l.members u → v ≡ l.header
