use Rattle.std.proofs.Common.{None, ◌+◌, ◌∙◌, sym, ap, arith}
use Rattle.command_line.specs.Given.{values_of}
use Rattle.command_line.specs.Command.{texts, words_at}
use Rattle.command_line.proofs.WordLemmas.{behind, valued_more, count_behind}
use Rattle.command_line.proofs.words.read_options.Goals as goal

pub loop-rest-preserved : goal.loop-rest-preserved
loop-rest-preserved c =
    let read = valued_more c.args.verb c.loop-rest.rest.now c.loop-rest.k c.in-Some-meaning.n (values_of c.loop-rest.given) c.in-Some.name _ _ c.in-len1-up.len_at_least c.in-len1-up-after.len_at_least
    (sym c.is_option.ensures ∙ c.if-not-is_option.false) (sym c.name_of.ensures ∙ c.in-Some.is) (sym c.is_taken.ensures ∙ c.if-is_taken.false) (sym c.is_flag.ensures ∙ c.if-is_flag.false) (sym c.meaning.ensures.exact ∙ c.in-Some-meaning.is) in
    record {
      same = ap (λ values. words_at None c.args.verb (c.loop-rest.k + 2) values (texts (behind (behind c.loop-rest.rest.now)))) c.with-given-in-len1-up.ensures ∙ read ∙ c.loop-rest.invariant.same;
      count = omega (arith, count_behind c.loop-rest.rest.now c.in-len1-up.len_at_least, count_behind (behind c.loop-rest.rest.now) c.in-len1-up-after.len_at_least, c.loop-rest.invariant.count);
    }
