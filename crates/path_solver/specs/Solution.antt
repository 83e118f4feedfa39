-- The greatest walk's cost, with the section that shows it.
use Rattle.std.specs.Prelude.{ℕ}
use Rattle.section_check.specs.Section.{Certified}

pub record Solution : Type 0 where
  pub value : ℕ
  pub section : Certified
