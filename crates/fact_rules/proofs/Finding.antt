-- Sections with prices that meet their conditions one behind another.
use Rattle.std.proofs.Common.{List, [], ◌∷◌, ◌++◌, sym, ap, subst}
use Rattle.bound_rules.specs.Told.{Valued, section_value}
use Rattle.fact_rules.specs.Sections.{MeetsPriced, AreMetPriced}
use Rattle.fact_rules.specs.Sections.AreMetPriced.{one_more}
use Rattle.fact_rules.specs.Laws.{AllAreMetPriced, OneMoreMeetsPriced}

pub all_are_met_priced : AllAreMetPriced
all_are_met_priced P t bound_of q earlier [] values met all = subst (λ (vs : List Valued). AreMetPriced P t bound_of q vs) (sym all) met
all_are_met_priced P t bound_of q earlier (s ∷ ss) values met (value, meets, more) =
    all_are_met_priced P t bound_of q (earlier ++ section_value s.plain value ∷ []) ss values (one_more met s value meets) more

pub one_more_meets_priced : OneMoreMeetsPriced
one_more_meets_priced P t bound_of q earlier [] values s value all meets =
    (value, subst (λ (vs : List Valued). MeetsPriced P t bound_of q vs s value) all meets, ap (λ (vs : List Valued). vs ++ section_value s.plain value ∷ []) all)
one_more_meets_priced P t bound_of q earlier (x ∷ ss) values s value (first, one, more) meets =
    (first, one, one_more_meets_priced P t bound_of q (earlier ++ section_value x.plain first ∷ []) ss values s value more meets)
