use Rattle.boundary.proofs.Built.{all_simulate}
use Rattle.boundary.proofs.laws.families_are_simulated.Goals as goal

pub returns : goal.returns
returns c = all_simulate (record {
  values = c.values_are_moved.ensures;
  numbers = c.numbers_are_computed.ensures;
  calls = c.static_calls_and_returns.ensures;
  by_receiver = c.calls_by_receiver_come.ensures;
  thrown = c.throws_come.ensures;
  devices = c.devices_are_simulated.ensures;
  fields = c.fields_are_simulated.ensures;
  arrays = c.arrays_are_simulated.ensures;
  made = c.objects_are_made.ensures;
  tests = c.types_are_tested.ensures;
  monitors = c.monitors_are_passed.ensures;
})
