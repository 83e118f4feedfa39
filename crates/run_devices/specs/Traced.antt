-- The devices of a traced run, and a line that is put between two of their calls.
use Rattle.std.specs.Prelude.{◌≡◌, ℕ, Bool, List, [], None, Ok, Err}
use Rattle.std.specs.declared.option.Option.{Option}
use Rattle.std.specs.declared.result.Result.{Result}
use Rattle.outside.specs.Outside.{Grew, Rose}
use Rattle.device_traits.specs.declared.fault.DeviceFault.{DeviceFault}
use Rattle.device_traits.specs.declared.fault.DeviceFault.TheVariants.{Output}
use Rattle.device_traits.specs.Told.{Told, GrewInPart, OnlyWrites}
use Rattle.run_devices.specs.Lines.{note_line}

-- What is left of the input, and the output, which holds all that was noted; the counts of faults of the input, of the lines of bytes and boundaries, and of
-- those of cycles. No byte is put out itself, and no state is kept.
abbrev pub traced : (cycles : Bool) → (left : Option (List ℕ)) → (read_faults : ℕ) → (held : Option (List ℕ)) → (write_faults seen_faults : ℕ) → Told
traced cycles left read_faults held write_faults seen_faults = record {
  left = left;
  held = None;
  line = note_line cycles;
  noted = held;
  handed = None;
  read_faults = read_faults;
  write_faults = write_faults;
  seen_faults = seen_faults;
}

-- no byte was taken or put out, and no state was handed; of the counts, only that of writes may have risen
pub record Rests (old new : Told) : Type 0 where
  pub left : new.left ≡ old.left
  pub held : Grew old.held new.held []
  pub line : new.line ≡ old.line
  pub handed : Grew old.handed new.handed []
  pub counts : OnlyWrites old new

-- a line was put behind what was noted
pub record LineIsPut (old new : Told) (line : List ℕ) : Type 0 where
  pub rests : Rests old new
  pub noted : Grew old.noted new.noted line

-- a front of a line was put that isn't all of it, and counted as a failed write
pub record LineFails (old new : Told) (line : List ℕ) : Type 0 where
  pub rests : Rests old new
  pub noted : GrewInPart old.noted new.noted [] line
  pub rose : Rose old.write_faults new.write_faults

abbrev pub PutsLine : {T : Type 0} → Told → Told → (line : List ℕ) → Result T DeviceFault → Type 0
PutsLine old new line (Ok x) = LineIsPut old new line
PutsLine old new line (Err Output) = LineFails old new line
PutsLine old new line (Err fault) = ⊥
