-- Which loops a node heads.
use Rattle.std.specs.Prelude.{◌≡◌, ◌≢◌, ℕ, ◌<◌, List}
use Rattle.section_check.specs.Section.{CertifiedLoop}
use Rattle.section_check.specs.Placing.{IsEntryAt}

-- no loop has this header
abbrev pub NoneHeads : List CertifiedLoop → ℕ → Type 0
NoneHeads ls u = (k : ℕ) (l : CertifiedLoop) → IsEntryAt ls k l → l.header ≢ u

-- loop i has this header, and no earlier one does
pub record IsFirstHeaded (ls : List CertifiedLoop) (u i : ℕ) : Type 0 where
  pub headed : CertifiedLoop
  pub at : IsEntryAt ls i headed
  pub header : headed.header ≡ u
  pub first : (k : ℕ) (l : CertifiedLoop) → k < i → IsEntryAt ls k l → l.header ≢ u
