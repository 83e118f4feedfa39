use Rattle.std.proofs.Common.{refl, inl}
use Rattle.loop_finder.proofs.setting.add_write.Goals as goal

pub returns-in_default : goal.returns-in_default
returns-in_default c = inl ((λ local p e w. c.in_default.ensures local p (e, w)), refl)
