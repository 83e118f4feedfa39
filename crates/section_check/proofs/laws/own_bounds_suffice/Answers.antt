use Rattle.std.proofs.Common.{get_or, subst}
use Rattle.std.proofs.lemmas.List.Elements.{Contains-get_or}
use Rattle.loop_nest.proofs.Elements.{from_map}
use Rattle.section_check.specs.Bounded.{BoundedLoop, IsKept}
use Rattle.section_check.specs.Section.{priced, bounded}
use Rattle.section_check.specs.Laws.{loops_of}
use Rattle.section_check.proofs.Sound.{sound}
use Rattle.section_check.proofs.Own.{kept_by_own}
use Rattle.section_check.proofs.laws.own_bounds_suffice.Goals as goal

pub returns : goal.returns
returns c = λ g part s bounds loads placed within last ns walk keeps.
    let ls = priced s.loops bounds loads in
    λ k d below.
    let from = from_map bounded ls (get_or (loops_of s bounds loads) k d) (Contains-get_or (loops_of s bounds loads) k d below) in
    let P : BoundedLoop → Type 0 = λ l. IsKept ns l in
    subst P from.2 (kept_by_own g part ls (sound g s bounds loads placed) within from.0 from.1 last ns walk (keeps from.0 from.1))
