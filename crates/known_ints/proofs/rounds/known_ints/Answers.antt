use Rattle.std.proofs.Common.{ℕ}
use Rattle.std.proofs.lemmas.Result.{IfOk-weaker}
use Rattle.bytecode_model.specs.Program.{Program}
use Rattle.method_flow.specs.Flow.{IsCodedOf}
use Rattle.loop_rules.specs.Sites.{AreNeverPut, AreSitesOf}
use Rattle.loop_rules.specs.Further.Arrays.{AreApart, AreArraysRead}
use Rattle.loop_rules.specs.Further.Known.{Known}
use Rattle.known_ints.specs.Code.{IsCodeOf}
use Rattle.loop_rules.specs.Further.Found.{AreKnownInts, AreKnownLengths, Table}
use Rattle.known_ints.proofs.rounds.known_ints.Goals as goal

pub returns-clause-ints : goal.returns-clause-ints
returns-clause-ints c =
    IfOk-weaker c.known_in.result
    (λ (found : Table). (P : Program) (known : Known) (m : ℕ) → IsCodeOf P known m c.in_ok-code.code → AreKnownInts P known m found.ints)
    (λ (found : Table).
    (P : Program) (known : Known) (m : ℕ) → IsCodedOf P m c.args.method.now → AreSitesOf P known.constants m c.args.sites.now → AreNeverPut P known.constants
    → AreApart known → AreArraysRead P known m c.args.arrays.now → AreKnownInts P known m found.ints)
    (λ found h P known m of sites never apart reads. h P known m (c.in_ok-code.ensures P known m of sites never apart reads)) c.known_in.ensures.ints

pub returns-clause-lengths : goal.returns-clause-lengths
returns-clause-lengths c =
    IfOk-weaker c.known_in.result
    (λ (found : Table). (P : Program) (known : Known) (m : ℕ) → IsCodeOf P known m c.in_ok-code.code → AreKnownLengths P known m found.lengths)
    (λ (found : Table).
    (P : Program) (known : Known) (m : ℕ) → IsCodedOf P m c.args.method.now → AreSitesOf P known.constants m c.args.sites.now → AreNeverPut P known.constants
    → AreApart known → AreArraysRead P known m c.args.arrays.now → AreKnownLengths P known m found.lengths)
    (λ found h P known m of sites never apart reads. h P known m (c.in_ok-code.ensures P known m of sites never apart reads)) c.known_in.ensures.lengths
