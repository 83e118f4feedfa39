-- The method of an instruction as the code has it.
-- For contracts within this crate alone: no public contract's meaning rests on this file.
use Rattle.std.specs.Prelude.{◌≡◌}
use Rattle.program_tables.specs.Resolved.{resolved}
use Rattle.verifier_types.specs.Site.{Site}
use Rattle.bytecode_verifier.specs.declared.around.Around.{Around}

-- it is that of the instruction there
pub record StandsAt (a : Around) (s : Site) : Type 0 where
  pub program : s.program ≡ resolved a.classes.now
  pub owner : s.method.owner ≡ a.owner
  pub init : s.method.is_init ≡ a.is_init
  pub number : s.number ≡ a.number
