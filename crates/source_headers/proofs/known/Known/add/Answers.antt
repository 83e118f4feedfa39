use Rattle.source_headers.proofs.KnownLemmas.{same_names, of_name}
use Rattle.source_headers.proofs.known.Known.add.Goals as goal

pub returns-clause-names : goal.returns-clause-names
returns-clause-names c =
    same_names c.add_numbers.result c.args.self.now.names c.add_name.new.self.names c.add_numbers.new.self.names c.args.name.now c.in_ok-index.ensures.names c.add_numbers.ensures.names

pub returns-clause-sites : goal.returns-clause-sites
returns-clause-sites c =
    of_name c.add_numbers.result c.add_name.new.self.names c.args.self.now.sites c.add_name.new.self.sites c.add_numbers.new.self.sites c.args.name.now c.in_ok-index.index c.args.numbers.now c.in_ok-index.ensures.index c.in_ok-index.ensures.sites c.add_numbers.ensures.sites
