-- When a whole file is refused as too big.
use Rattle.std.specs.Prelude.{◌<◌, ℕ, List, ⊤}
use Rattle.std.specs.declared.option.Option.{Option}
use Rattle.outside.specs.declared.files.ReadAll.{ReadAll}
use Rattle.outside.specs.declared.files.ReadAll.TheVariants.{TooBig, ReadFault, NoMemory}
use Rattle.outside.specs.Outside.{HasFileLength}

-- A file is too big only where its length is past the limit, and the answer has that length.
abbrev pub IsTooBig : Option (List ℕ) → ℕ → ReadAll → Type 0
IsTooBig told limit (TooBig n) = (limit < n) × HasFileLength told n
IsTooBig told limit ReadFault = ⊤
IsTooBig told limit NoMemory = ⊤
