use Rattle.std.proofs.Common.{refl, sym, subst}
use Rattle.known_ints.specs.Knowing.{IsGiven, IsFilledBefore}
use Rattle.known_ints.proofs.Storing.{filled_is}
use Rattle.known_ints.proofs.knowing.filled.Goals as goal

pub returns : goal.returns
returns c =
    let value = c.in_ok-value.value in
    let index = c.in_ok-index.index in
    let copy = c.in_ok-copy.copy in
    subst (IsGiven (IsFilledBefore c.args.code.now c.args.lengths.now c.args.store)) (sym c.known_at.ensures)
    (filled_is c.args.code.now c.args.lengths.now c.args.store value index copy ((c.in_ok-value.ensures value).0 refl) ((c.in_ok-index.ensures index).0 refl) ((c.in_ok-copy.ensures copy).0 refl))
