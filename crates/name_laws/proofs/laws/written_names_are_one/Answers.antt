use Rattle.name_laws.proofs.Escapes.{name_word}
use Rattle.name_laws.proofs.ReadBack.{alike_are_one}
use Rattle.name_laws.proofs.NamesAreOne.{has_name}
use Rattle.program_tables.specs.Resolved.{method_name}
use Rattle.name_laws.proofs.laws.written_names_are_one.Goals as goal

pub returns : goal.returns
returns c = record {
  words = λ cs m coded. name_word (method_name cs m) (has_name cs m coded);
  one = λ cs r m n is other same. c.names_are_one.ensures cs r m n is other (alike_are_one (method_name cs m) (method_name cs n) same);
}
