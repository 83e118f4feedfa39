use Rattle.std.proofs.Common.{◌≡◌, ℕ, ◌*◌, List, Contains, subst, inl, inr, arith}
use Rattle.known_ints.specs.declared.parts.Part.{Part}
use Rattle.known_ints.specs.declared.answers.Loads.{Loads}
use Rattle.known_ints.specs.Parts.{part_at, written}
use Rattle.known_ints.specs.Knowing.{load_of}
use Rattle.known_ints.specs.Answers.{IsToldOfAll, IsSettled, IsStop, IsToldAt, answer_at}
use Rattle.known_ints.proofs.Answering.{begun_told, joined_told, load_writes_not, stop_of, stops, stops_at_locals}
use Rattle.known_ints.proofs.answers.ask.Goals as goal

-- the search doesn't stop at a load of which it isn't settled what is told
goes_on : (q : Loads) (place : ℕ) → part_at q.code.now.parts place ≡ load_of q.local → (¬ IsSettled q.found.now (answer_at q.answers.now place)) → ¬ ((p : ℕ) × (2 * place ≡ 2 * p) × IsStop q p)
goes_on q place load asked s =
    let same : s.0 ≡ place = (let e = s.1 in omega arith) in
    by (subst (IsStop q) same s.2)
  where
    by : IsStop q place → ⊥
    by (inl has) = load_writes_not q.local q.local.index (subst (λ (x : Part). Contains (written x) q.local.index) load has)
    by (inr stop) = asked stop.1

pub returns-then-near : goal.returns-then-near
returns-then-near c P known m of so come =
    let q = c.args.q.now in
    let one = c.lines_follow_one_another.ensures.one in
    let near = c.in_ok-near.ensures P m q.local.index of.graph (stops one P known m q of) (stops_at_locals one P known m q of) (goes_on q c.args.place c.requires.load c.requires.asked) in
    begun_told one P known m q of c.last_writes_exist.ensures c.args.place come c.in_ok-near.near near c.if-near.true

pub returns : goal.returns
returns c P known m of so come =
    let q = c.args.q.now in
    let one = c.lines_follow_one_another.ensures.one in
    let exist = c.last_writes_exist.ensures in
    let found = c.in_ok-near.near in
    let near = c.in_ok-near.ensures P m q.local.index of.graph (stops one P known m q of) (stops_at_locals one P known m q of) (goes_on q c.args.place c.requires.load c.requires.asked) in
    let all = λ (p : ℕ) (has : Contains c.deref.result.now p).
    stop_of one P known m q of exist c.args.place come found near p (subst (λ (ps : List ℕ). Contains ps p) c.deref.ensures.value has) in
    let joined = subst (λ (ps : List ℕ). IsToldOfAll (IsToldAt P m q) ps c.joined.result) c.deref.ensures.value (c.joined.ensures P known m of so all) in
    joined_told one P known m q of exist c.args.place come found near c.if-near.false c.joined.result joined
