-- What the fields of a run mean.
use Rattle.std.specs.Prelude.{ℕ, List, [], ◌∷◌}
use Rattle.image_facts.specs.declared.method.CodedMethod.{CodedMethod}
use Rattle.boundary.specs.declared.methods.Methods.{Methods}
use Rattle.boundary.specs.declared.methods.Methods.TheVariants.{One, All}
use Rattle.boundary.specs.declared.running.Running.TheInside.{Inside}
use Rattle.boundary.specs.Session.{Session, KeepsStep}

-- the methods that have code, by number
abbrev pub methods_of : Methods → List CodedMethod
methods_of (One method) = method ∷ []
methods_of (All methods) = methods.now

abbrev pub session_of : {n : ℕ} → Inside n → Session
session_of r = record { machine = r.machine; methods = methods_of r.methods; mode = r.mode }

abbrev pub IsKept : (n : ℕ) → Inside n → Type 0
IsKept n r = KeepsStep n (session_of r) r.mode
