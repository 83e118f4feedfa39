-- The static fields of a lawful program begin with values of their widths.
use Rattle.std.proofs.Common.{ℕ, List, [], ◌∷◌, map, sym, ◌∙◌, subst}
use Rattle.bytecode_typing.proofs.Formed.{default_long}
use Rattle.bytecode_model.specs.declared.Value.{Value}
use Rattle.bytecode_model.specs.Types.{Declared, default}
use Rattle.bytecode_model.specs.Program.{Program}
use Rattle.bytecode_model.specs.WellFormed.{AreAlike}
use Rattle.bytecode_typing.specs.Tests.{AllTwo}
use Rattle.bytecode_typing.specs.Fits.{HasDeclared}
use Rattle.bytecode_typing.specs.Lawful.{Lawful}
use Rattle.bytecode_typing.proofs.Values.{declared_long, declared_set}

values_alike : (P : Program) (numbers : List ℕ) (ds : List Declared) (vs : List Value) → AllTwo (HasDeclared P numbers) ds vs → AreAlike vs (map default ds)
values_alike P ks [] [] h = tt
values_alike P ks [] (v ∷ vs) h = absurd h
values_alike P ks (d ∷ ds) [] h = absurd h
values_alike P ks (d ∷ ds) (v ∷ vs) h =
    (declared_long P ks d v h.0 ∙ sym (default_long d), λ e. declared_set P ks d (subst (λ v. HasDeclared P ks d v) e h.0), values_alike P ks ds vs h.1)

pub statics_alike : (P : Program) → Lawful P → AreAlike P.first_statics (map default P.statics)
statics_alike P law = values_alike P _ P.statics P.first_statics law.first_statics
