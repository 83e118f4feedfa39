-- What an input, an output and a watch tell, as the devices of a machine.
use Rattle.std.specs.Prelude.{ℕ, List, None}
use Rattle.std.specs.declared.option.Option.{Option}
use Rattle.device_traits.specs.declared.seen.Seen.{Seen}
use Rattle.device_traits.specs.Told.{Told, silent}

-- what is left of the input, what the output holds and what the watch was handed, each where it is told; the counts of faults of the input and of the output
pub record Lent : Type 0 where
  pub left : Option (List ℕ)
  pub read_faults : ℕ
  pub held : Option (List ℕ)
  pub write_faults : ℕ
  pub handed : Option (List Seen)

abbrev pub lent : (left : Option (List ℕ)) → (read_faults : ℕ) → (held : Option (List ℕ)) → (write_faults : ℕ) → (handed : Option (List Seen)) → Lent
lent left read_faults held write_faults handed = record { left = left; read_faults = read_faults; held = held; write_faults = write_faults; handed = handed }

-- as devices: nothing is noted, and a watch never fails
abbrev pub wired : Lent → Told
wired o = record {
  left = o.left;
  held = o.held;
  line = silent;
  noted = None;
  handed = o.handed;
  read_faults = o.read_faults;
  write_faults
      = o.write_faults;
  seen_faults = 0;
}
