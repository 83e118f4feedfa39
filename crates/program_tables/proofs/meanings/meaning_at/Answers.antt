use Rattle.std.proofs.Common.{◌-◌, length, sym, ap, ◌∙◌, Some, arith}
use Rattle.std.proofs.lemmas.Bool.{ltb-true, ltb-false}
use Rattle.std.proofs.lemmas.Option.{slice_get-get_or}
use Rattle.program_tables.proofs.TableLemmas.{meaning_there, meaning_past}
use Rattle.program_tables.proofs.meanings.meaning_at.Goals as goal

pub returns-in-Some : goal.returns-in-Some
returns-in-Some c = λ cs current k e.
    let made = c.args.made.now in
    let m = c.in-Some.meaning.now in
    let place = c.args.index - 1 in
    let lt = ltb-true place (length made) (sym c.in-Some.ensures.lookup.0) in
    meaning_there cs current k made e place c.args.index (omega (arith, c.if-index-eq0.false)) m (slice_get-get_or made place m lt ∙ ap Some (sym c.in-Some.ensures.lookup.1))

pub returns-in-None : goal.returns-in-None
returns-in-None c = λ cs current k e.
    let made = c.args.made.now in
    let place = c.args.index - 1 in
    let past = ltb-false place (length made) (sym c.in-None.ensures.lookup.0) in
    c.plain-in-None.ensures ∙ meaning_past cs current k made e place c.args.index (omega (arith, c.if-index-eq0.false)) past
