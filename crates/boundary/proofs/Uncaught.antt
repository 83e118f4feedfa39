-- The class of an object that wasn't caught.
use Rattle.std.proofs.Common.{◌≡◌, ℕ, ◌<◌, List, length, Option, Some, None, subst}
use Rattle.std.specs.Prelude.{slice_get, IsSomeAnd}
use Rattle.class_pool.specs.declared.class.ClassFile.{ClassFile}
use Rattle.bytecode_model.specs.declared.Ending.{Ending}
use Rattle.bytecode_model.specs.Types.{OfClass}
use Rattle.bytecode_model.specs.State.{Object}
use Rattle.bytecode_model.specs.Program.{kind_of}
use Rattle.program_tables.specs.Resolved.{resolved}
use Rattle.image_laws.proofs.Types.{class_within}
use Rattle.machine_stands.specs.StandsFor.{IsAt}
use Rattle.boundary.specs.Start.{UncaughtClassesAreThere}

object_case : (cs : List ClassFile) (o : Option Object) (class : ℕ) → IsSomeAnd o (λ o. kind_of (resolved cs) o ≡ Some (OfClass class)) → class < length cs
object_case cs None class h = absurd h
object_case cs (Some o) class h = class_within cs o.kind class h

pub uncaught_there : UncaughtClassesAreThere
uncaught_there cs pl chip size m s class stands mode =
    let at = subst (λ (e : Ending). IsAt (resolved cs) pl m s stands.top stands.body e) mode stands.at in
    object_case cs (slice_get s.objects at.object) class at.class
