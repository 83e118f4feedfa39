use lib.Signed.{le_z_yes as yes}
use Rattle.std.proofs.Common.{refl}
use Rattle.priced_sections.proofs.laws.worked_examples.Goals as goal

pub returns : goal.returns
returns c = record {
  without_prices = record { edges = (yes tt, (yes tt, (yes tt, (yes tt, (yes tt, (yes tt, tt)))))); exits = (yes tt, (yes tt, tt)); is = refl };
  body_in_loop = record { edges = (yes tt, (yes tt, (yes tt, (yes tt, (yes tt, (yes tt, tt)))))); exits = (yes tt, (yes tt, tt)); is = refl };
  test_in_loop = record { edges = (yes tt, (yes tt, (yes tt, (yes tt, (yes tt, (yes tt, tt)))))); exits = (yes tt, (yes tt, tt)); is = refl };
  body_in_all = record { edges = (yes tt, (yes tt, (yes tt, (yes tt, (yes tt, (yes tt, tt)))))); exits = (yes tt, (yes tt, tt)); is = refl };
  nested_without_prices = record { edges = (yes tt, (yes tt, (yes tt, (yes tt, (yes tt, (yes tt, (yes tt, tt))))))); exits = (yes tt, tt); is = refl };
  nested_bodies = record { edges = (yes tt, (yes tt, (yes tt, (yes tt, (yes tt, (yes tt, (yes tt, tt))))))); exits = (yes tt, tt); is = refl };
  either_without_prices = record { edges = (yes tt, (yes tt, (yes tt, (yes tt, (yes tt, tt))))); exits = (yes tt, tt); is = refl };
  three_visits = record { edges = (yes tt, (yes tt, (yes tt, (yes tt, (yes tt, tt))))); exits = (yes tt, tt); is = refl };
  around_without_prices = record { edges = (yes tt, (yes tt, (yes tt, (yes tt, (yes tt, tt))))); exits = (yes tt, (yes tt, tt)); is = refl };
  header_once = record { edges = (yes tt, (yes tt, (yes tt, (yes tt, (yes tt, tt))))); exits = (yes tt, (yes tt, tt)); is = refl };
  body_never = record { edges = (yes tt, (yes tt, (yes tt, (yes tt, (yes tt, tt))))); exits = (yes tt, (yes tt, tt)); is = refl };
}
