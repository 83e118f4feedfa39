use Rattle.boundary.specs.Meaning.{methods_of}
use Rattle.boundary.specs.Session.{Session}
use Rattle.boundary.proofs.Modes.{all_go_on_so}
use Rattle.boundary.proofs.running.Running.mode.Goals as goal

pub returns-clause-all : goal.returns-clause-all
returns-clause-all g c =
    let r : Session = record { machine = c.self.inside.machine; methods = methods_of c.self.inside.methods; mode = c.self.inside.mode } in
    all_go_on_so c.stages_agree.ensures
    (record {
      well = c.fitting_states_are_well_formed.ensures;
      fixed = c.fixed_words_are_read.ensures.words;
      objects = c.image_words_lie.ensures.objects;
      ahead = c.words_lie.ensures.ahead;
      read = c.words_are_read_and_written.ensures.words;
    })
    g.row.N r c.args.self.now c.self.view_is c.self.invariant
