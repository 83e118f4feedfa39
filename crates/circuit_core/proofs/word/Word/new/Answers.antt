use Rattle.circuit_build.proofs.Steps.{next, so}
use Rattle.circuit_core.proofs.word.Word.new.Goals as goal
use Rattle.circuit_core.proofs.WordBits.{low, code, number, target, opd, nxt}

pub returns : goal.returns
returns c =
    record {
      gives = so (next (next (next (next (next (next (next (next (next (next (next (next (next (next c.part-above_code.ensures.gives c.part-above_number.ensures.gives) c.part-above_target.ensures.gives) c.is.ensures.gives) c.part.ensures.gives) c.is-2.ensures.gives) c.is-3.ensures.gives) c.is-4.ensures.gives) c.part-2.ensures.gives) c.is-5.ensures.gives) c.is-6.ensures.gives) c.is-7.ensures.gives) c.part-3.ensures.gives) c.part-4.ensures.gives) c.part-5.ensures.gives)
          (λ ws f. record {
            is_plain = code _ _ _ f.0.0.0.0.0.0.0.0.0.0.0.1 f.0.0.0.0.0.0.0.0.0.0.0.0.0.0;
            code = low _ _ 6 f.0.0.0.0.0.0.0.0.0.0.1;
            is_stm = number _ _ _ _ f.0.0.0.0.0.0.0.0.0.1 f.0.0.0.0.0.0.0.0.0.0.0.0.0.1;
            is_ldm = number _ _ _ _ f.0.0.0.0.0.0.0.0.1 f.0.0.0.0.0.0.0.0.0.0.0.0.0.1;
            is_ldi = number _ _ _ _ f.0.0.0.0.0.0.0.1 f.0.0.0.0.0.0.0.0.0.0.0.0.0.1;
            number = low _ _ 5 f.0.0.0.0.0.0.1;
            is_bz = target _ _ _ _ f.0.0.0.0.0.1 f.0.0.0.0.0.0.0.0.0.0.0.0.1;
            is_bnz = target _ _ _ _ f.0.0.0.0.1 f.0.0.0.0.0.0.0.0.0.0.0.0.1;
            is_jmp = target _ _ _ _ f.0.0.0.1 f.0.0.0.0.0.0.0.0.0.0.0.0.1;
            target = low _ _ 11 f.0.0.1;
            opd = opd _ _ f.0.1;
            nxt = nxt _ _ f.1;
          });
    }
