use Rattle.std.proofs.Common.{◌≡◌, ◌+◌, ◌*◌, ◌≤◌, take, sum_by}
use Rattle.program_tables.specs.Numbers.{instance_fields}
use Rattle.program_sites.specs.Made.Making.{words_at}
use Rattle.program_sites.proofs.made.objects.object_words.Given as goal

abbrev pub invariant-loop-index : goal.invariant-loop-index
invariant-loop-index l = (l.words ≡ 1 + sum_by (words_at l.program) (take l.index (instance_fields l.program l.class))) × (l.words ≤ 1 + 2 * l.index)
