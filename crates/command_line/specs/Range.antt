-- What the numbers of a command can be.
use Rattle.std.specs.Prelude.{◌≡◌, ℕ, ◌+◌, ◌^◌, ◌<◌, ◌≤◌, ◌⊎◌}
use Rattle.command_line.specs.declared.command.Settings.{Settings}
use Rattle.command_line.specs.declared.command.Command.{Command}
use Rattle.command_line.specs.declared.command.Command.TheVariants.{Link, Run, Trace, Profile, Bound, BoundWith, BoundAll, BoundShapes, Report}
use Rattle.command_line.specs.declared.command.Command.TheVariants.{Plan, Cycle, Check, CheckWith, Loops, Headers, Memory, Rtl, Asm, Work}

pub record AreSettings (settings : Settings) : Type 0 where
  pub cycles : settings.cycles < 2 ^ 63
  pub stack : (settings.stack ≡ 256) ⊎ (settings.stack ≡ 512) ⊎ (settings.stack ≡ 1024)
  pub memory_least : 16 ≤ settings.memory
  pub memory_most : settings.memory ≤ 16777216
  pub blocks_least : 1 ≤ settings.blocks
  pub blocks_most : settings.blocks ≤ 256
  pub block_words_least : 1 ≤ settings.block_words
  pub block_words_most : settings.block_words ≤ 1024
  pub read_most : settings.read ≤ 63
  pub write_most : settings.write ≤ 63

abbrev pub HasNumbersInRange : Command → Type 0
HasNumbersInRange (Link main first) = Unit {0}
HasNumbersInRange (Run settings image) = AreSettings settings
HasNumbersInRange (Trace settings micro image) = AreSettings settings
HasNumbersInRange (Profile settings image bounds) = AreSettings settings
HasNumbersInRange (Bound settings method image bounds) = AreSettings settings
HasNumbersInRange (BoundWith settings method facts image bounds) = AreSettings settings
HasNumbersInRange (BoundAll settings image bounds) = AreSettings settings
HasNumbersInRange (BoundShapes settings method image bounds) = AreSettings settings
HasNumbersInRange (Report settings method image bounds) = AreSettings settings
HasNumbersInRange (Plan settings rounds table bounds first) = AreSettings settings × (1 ≤ rounds) × (rounds ≤ 32767)
HasNumbersInRange (Cycle settings rounds table first) = AreSettings settings × (1 ≤ rounds) × (rounds ≤ 32767)
HasNumbersInRange (Check settings image bounds certificate) = AreSettings settings
HasNumbersInRange (CheckWith settings facts image bounds certificate) = AreSettings settings
HasNumbersInRange (Loops further image) = Unit {0}
HasNumbersInRange (Headers image operands) = (1 ≤ operands) × (operands ≤ 2)
HasNumbersInRange (Memory image bounds sizes) = Unit {0}
HasNumbersInRange (Rtl settings image) = AreSettings settings
HasNumbersInRange (Asm text) = Unit {0}
HasNumbersInRange (Work count) = (1 ≤ count) × (count ≤ 1000)

-- each word that the command means by its number is one of so many
abbrev pub AreThere : (n : ℕ) → Command → Type 0
AreThere n (Link main first) = (main < n) × (first < n)
AreThere n (Run settings image) = image < n
AreThere n (Trace settings micro image) = image < n
AreThere n (Profile settings image bounds) = (image < n) × (bounds < n)
AreThere n (Bound settings method image bounds) = (method < n) × (image < n) × (bounds < n)
AreThere n (BoundWith settings method facts image bounds) = (method < n) × (facts < n) × (image < n) × (bounds < n)
AreThere n (BoundAll settings image bounds) = (image < n) × (bounds < n)
AreThere n (BoundShapes settings method image bounds) = (method < n) × (image < n) × (bounds < n)
AreThere n (Report settings method image bounds) = (method < n) × (image < n) × (bounds < n)
AreThere n (Plan settings rounds table bounds first) = (table < n) × (bounds < n) × (first < n)
AreThere n (Cycle settings rounds table first) = (table < n) × (first < n)
AreThere n (Check settings image bounds certificate) = (image < n) × (bounds < n) × (certificate < n)
AreThere n (CheckWith settings facts image bounds certificate) = (facts < n) × (image < n) × (bounds < n) × (certificate < n)
AreThere n (Loops further image) = image < n
AreThere n (Headers image operands) = image + operands ≤ n
AreThere n (Memory image bounds sizes) = (image < n) × (bounds < n) × (sizes < n)
AreThere n (Rtl settings image) = image < n
AreThere n (Asm text) = text < n
AreThere n (Work count) = Unit {0}

-- the operands of a command that has several are words one behind another
abbrev pub OperandsFollow : Command → Type 0
OperandsFollow (Profile settings image bounds) = bounds ≡ image + 1
OperandsFollow (Bound settings method image bounds) = bounds ≡ image + 1
OperandsFollow (BoundWith settings method facts image bounds) = bounds ≡ image + 1
OperandsFollow (BoundAll settings image bounds) = bounds ≡ image + 1
OperandsFollow (BoundShapes settings method image bounds) = bounds ≡ image + 1
OperandsFollow (Report settings method image bounds) = bounds ≡ image + 1
OperandsFollow (Plan settings rounds table bounds first) = (bounds ≡ table + 1) × (first ≡ table + 2)
OperandsFollow (Cycle settings rounds table first) = first ≡ table + 1
OperandsFollow (Check settings image bounds certificate) = (bounds ≡ image + 1) × (certificate ≡ image + 2)
OperandsFollow (CheckWith settings facts image bounds certificate) = (bounds ≡ image + 1) × (certificate ≡ image + 2)
OperandsFollow (Memory image bounds sizes) = (bounds ≡ image + 1) × (sizes ≡ image + 2)
OperandsFollow command = Unit {0}
