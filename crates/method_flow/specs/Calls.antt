-- Which methods an invoke instruction may run (JVM Specification SE 8, 6.5.invokestatic, 6.5.invokespecial, 6.5.invokevirtual, 6.5.invokeinterface).
use Rattle.std.specs.Prelude.{◌≡◌, ℕ, true, ◌&&◌, List, [], ◌∷◌, Contains, Option, None, slice_get, if◌then◌else◌}
use Rattle.std.specs.Option.{IsSomeAnd, option_map_or}
use Rattle.std.specs.List.{filter_map}
use Rattle.opcodes.specs.Start.{IsStart}
use Rattle.bytecode_model.specs.Program.{Program, body_of}
use Rattle.bytecode_model.specs.Rows as rows
use Rattle.bytecode_model.specs.Rows.{Row}
use Rattle.bytecode_model.specs.Steps.{row_in, class_of}
use Rattle.bytecode_model.specs.WellFormed.{is_call}
use Rattle.method_flow.specs.Nodes.{OnRow}

-- the classes of the program, by number
abbrev pub classes_of : Program → List ℕ
classes_of P = filter_map class_of P.types

-- what is selected for a resolved method where the receiver is of this class: the class has instances, and is the method's class or interface, or below it
abbrev pub selected_in : Program → (method owner class : ℕ) → Option ℕ
selected_in P m owner c = if P.is_concrete c && P.extends c owner then P.select c m else None

-- what is selected for a resolved method, over all classes of the program
abbrev pub selected_for : Program → (method : ℕ) → List ℕ
selected_for P m = option_map_or (λ k. filter_map (selected_in P m k.owner) (classes_of P)) (slice_get P.methods m) []

-- what an instruction may run, by its row: the method that is fixed, or those that are selected; a method may stand there more than once
abbrev pub targets_of_row : Program → Row → List ℕ
targets_of_row P (rows.CallStatic m) = m ∷ []
targets_of_row P (rows.CallSpecial named m) = m ∷ []
targets_of_row P (rows.CallVirtual named m) = selected_for P m
targets_of_row P (rows.CallInterface named m) = selected_for P m
targets_of_row P r = []

abbrev pub targets_of : Program → (method place : ℕ) → List ℕ
targets_of P m p = option_map_or (λ x. targets_of_row P x.1) (row_in P m p) []

abbrev pub IsTarget : Program → (method place target : ℕ) → Type 0
IsTarget P m p t = Contains (targets_of P m p) t

-- an invoke stands at the place
abbrev pub IsCall : Program → (method place : ℕ) → Type 0
IsCall P m p = OnRow P m p (λ next r. is_call r ≡ true)

-- An instruction of the method's code begins at the place. Bytes within an instruction may look like another one; no instruction of the code is there.
abbrev pub IsStartOf : Program → (method place : ℕ) → Type 0
IsStartOf P m p = IsSomeAnd (body_of P m) (λ b. IsStart b.code p)
