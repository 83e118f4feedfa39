-- What a call of `rtl` shows that answers that its output is written.
use Rattle.std.proofs.Common.{◌≡◌, ℕ, List, inl, inr, ⊎_elim, subst}
use Rattle.outside.specs.Outside.{Grew}
use Rattle.command_line.specs.declared.command.Command.TheVariants as commands
use Rattle.endings.specs.declared.outcome.Answer.TheVariants.{Text}
use Rattle.endings.specs.Line.{text_of_word}
use Rattle.jop_cli.specs.Tasks.{making_circuit}
use Rattle.jop_cli.specs.promises.Circuits.{CircuitsAreShown}
use Rattle.jop_cli.proofs.Wholly.{executed}
use Rattle.jop_cli.proofs.Written.{opened, text_put}

pub circuits_are_shown : CircuitsAreShown
circuits_are_shown c settings image command is =
    let p = text_put c (making_circuit settings image) is (executed c (commands.Rtl settings image) command) in
    record {
      files = p.operands;
      are = p.are;
      shows = ⊎_elim
          (λ a.
          let t = a.answers.1 in
          inl (record {
            linked = a.linked;
            opened = opened c (making_circuit settings image) p.operands (Text p.text) a;
            config = t.config;
            has = t.has;
            netlist = t.netlist;
            is_circuit = t.is_circuit;
            put = subst (λ (x : List ℕ). Grew c.old.out c.new.out x) t.says p.put;
          }))
          (λ b.
          let t = b.answers.1 in
          inr (record {
            image = b.image;
            bare = b.bare;
            config = t.config;
            has = t.has;
            netlist = t.netlist;
            is_circuit = t.is_circuit;
            put = subst (λ (x : List ℕ). Grew c.old.out c.new.out x) t.says p.put;
          }))
          p.answers;
    }
