use Rattle.std.proofs.Common.{sym, subst}
use Rattle.known_ints.specs.declared.knowing.Holds.{Holds}
use Rattle.known_ints.specs.declared.parts.Part.{Part}
use Rattle.known_ints.specs.Knowing.{GivesBy, GivesInt, GivesLength, IsGiven}
use Rattle.known_ints.proofs.Following.{at_last, last_reached}
use Rattle.known_ints.proofs.knowing.given_at.Goals as goal

pub returns-in-AnInt : goal.returns-in-AnInt
returns-in-AnInt c P known m of asked =
    let code = c.args.code.now in
    let t = c.args.found.now in
    let line = c.args.line in
    let f = c.requires.follows P known m of in
    let come = last_reached P known m code of c.lines_before_are_reached.ensures line.place line.last f.0 f.1 in
    let given = subst (λ (x : Part). IsGiven (GivesInt P m code t line.last x) c.int_by.result) c.part-part.ensures (c.int_by.ensures P known m of come asked) in
    let all = at_last P known m code of (GivesInt P m code t) line.place line.last f.0 f.1 c.int_by.result given in
    subst (λ (h : Holds). IsGiven (GivesBy P m code t h line.place) c.int_by.result) (sym c.in-AnInt.is) all

pub returns-in-AnArray : goal.returns-in-AnArray
returns-in-AnArray c P known m of asked =
    let code = c.args.code.now in
    let t = c.args.found.now in
    let line = c.args.line in
    let f = c.requires.follows P known m of in
    let come = last_reached P known m code of c.lines_before_are_reached.ensures line.place line.last f.0 f.1 in
    let given = subst (λ (x : Part). IsGiven (GivesLength P m code t line.last x) c.length_by.result) c.part-part.ensures (c.length_by.ensures P known m of come asked) in
    let all = at_last P known m code of (GivesLength P m code t) line.place line.last f.0 f.1 c.length_by.result given in
    subst (λ (h : Holds). IsGiven (GivesBy P m code t h line.place) c.length_by.result) (sym c.in-AnArray.is) all
