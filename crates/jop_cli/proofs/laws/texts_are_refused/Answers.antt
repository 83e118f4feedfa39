use Rattle.jop_cli.proofs.TextFaults as law
use Rattle.jop_cli.proofs.laws.texts_are_refused.Goals as goal

pub returns-clause-bounds : goal.returns-clause-bounds
returns-clause-bounds c = law.bad_bounds_are_refused c.one_linked.ensures c.linked_images_are_read.ensures c.bounds_faults_are_one.ensures c.read_is_not_refused.ensures

pub returns-clause-sizes : goal.returns-clause-sizes
returns-clause-sizes c =
    law.bad_sizes_are_refused c.one_linked.ensures c.linked_images_are_read.ensures c.bounds_faults_are_one.ensures c.length_faults_are_one.ensures c.read_is_not_refused.ensures
    c.read_lengths_are_not_refused.ensures

pub returns-clause-lines : goal.returns-clause-lines
returns-clause-lines c = law.bad_lines_are_refused c.one_linked.ensures c.linked_images_are_read.ensures c.note_faults_are_one.ensures c.read_is_not_refused-2.ensures

pub returns-clause-stray : goal.returns-clause-stray
returns-clause-stray c = law.stray_lines_are_refused c.one_linked.ensures c.linked_images_are_read.ensures c.gives_one.ensures c.read_is_not_refused-2.ensures
