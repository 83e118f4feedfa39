use Rattle.std.proofs.Common.{◌≡◌, [], take, Contains, get_or}
use Rattle.source_headers.specs.Known.{IsWith}
use Rattle.source_headers.proofs.known.Known.add_numbers.Given as goal

abbrev pub invariant-loop-number : goal.invariant-loop-number
invariant-loop-number l = record {
  names : l.self.names ≡ l.initial.self.names;
  sites : IsWith l.initial.self.sites l.self.sites (λ s. (s.0 ≡ get_or l.initial.self.names l.name []) × Contains (take l.number-index l.numbers) s.1);
}
