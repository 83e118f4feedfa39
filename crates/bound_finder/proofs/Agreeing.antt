-- What is known of all methods, targets first, agrees with each family of numbers; and where no number is too large, it is one.
use Rattle.std.proofs.Common.{ℕ, List, Contains}
use Rattle.bytecode_model.specs.Program.{Program}
use Rattle.method_flow.specs.Regions.IsWithin.{itself}
use Rattle.call_regions.specs.Calling.{IsTargetsFirst}
use Rattle.bound_finder.specs.Laws.{AllAgree, KnownAreNumbers}
use Rattle.bound_finder.proofs.KnownWithin.{agree_within, exceed_within, numbers_within}

-- the root is one of the order
root_among : (P : Program) (root : ℕ) (order : List ℕ) → IsTargetsFirst P root order → Contains order root
root_among P root order first = (first.methods.each root).1 itself

pub all_agree : AllAgree
all_agree P t bound_of root order table N first known are m has =
    let among = root_among P root order first in
    let within = (first.methods.each m).0 has in
    (agree_within P t bound_of order table first.first known root among N are m within, exceed_within P t bound_of order table first.first known root among N are m within)

pub known_are_numbers : KnownAreNumbers
known_are_numbers P t bound_of root order table first known small =
    numbers_within P t bound_of order table first.first known root (root_among P root order first) (λ m within. small m ((first.methods.each m).1 within))
