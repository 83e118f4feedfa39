use Rattle.machine_stands.proofs.Reading.{row_read, plain_is_read, table_is_read, lookup_is_read, wide_has_opcode, wide_is_read}
use Rattle.machine_stands.proofs.rows_are_read.Goals as goal

pub returns-clause-any : goal.returns-clause-any
returns-clause-any c = row_read (record { within = c.instructions_end_within.ensures; forms = c.instructions_are_read.ensures.forms; wide_opcodes = c.instructions_are_read.ensures.wide_opcodes; wide_forms = c.instructions_are_read.ensures.wide_forms })

pub returns-clause-plain : goal.returns-clause-plain
returns-clause-plain c = plain_is_read (record { within = c.instructions_end_within.ensures; forms = c.instructions_are_read.ensures.forms; wide_opcodes = c.instructions_are_read.ensures.wide_opcodes; wide_forms = c.instructions_are_read.ensures.wide_forms })

pub returns-clause-table_switches : goal.returns-clause-table_switches
returns-clause-table_switches c = table_is_read (record { within = c.instructions_end_within.ensures; forms = c.instructions_are_read.ensures.forms; wide_opcodes = c.instructions_are_read.ensures.wide_opcodes; wide_forms = c.instructions_are_read.ensures.wide_forms })

pub returns-clause-lookup_switches : goal.returns-clause-lookup_switches
returns-clause-lookup_switches c = lookup_is_read (record { within = c.instructions_end_within.ensures; forms = c.instructions_are_read.ensures.forms; wide_opcodes = c.instructions_are_read.ensures.wide_opcodes; wide_forms = c.instructions_are_read.ensures.wide_forms })

pub returns-clause-wide_opcodes : goal.returns-clause-wide_opcodes
returns-clause-wide_opcodes c = wide_has_opcode (record { within = c.instructions_end_within.ensures; forms = c.instructions_are_read.ensures.forms; wide_opcodes = c.instructions_are_read.ensures.wide_opcodes; wide_forms = c.instructions_are_read.ensures.wide_forms })

pub returns-clause-wide : goal.returns-clause-wide
returns-clause-wide c = wide_is_read (record { within = c.instructions_end_within.ensures; forms = c.instructions_are_read.ensures.forms; wide_opcodes = c.instructions_are_read.ensures.wide_opcodes; wide_forms = c.instructions_are_read.ensures.wide_forms })
