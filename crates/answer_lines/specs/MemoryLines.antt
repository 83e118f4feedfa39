-- The lines of what a run needs of memory. Each line is its parts, one after another.
use Rattle.std.specs.Prelude.{ℕ, List, [], ◌∷◌, codes, decimal}
use Rattle.std.specs.List.{concat}
use Rattle.memory_rules.specs.declared.needs.Need.{Need}
use Rattle.memory_rules.specs.declared.causes.NeedCause.{NeedCause}
use Rattle.memory_rules.specs.declared.causes.NeedCause.TheVariants.{Recursion, Irreducible, MissingBound, MissingSize, TooLarge}

-- the words of its frames, of an image of so many words, and of its objects
abbrev pub memory_parts : Need → (image : ℕ) → List (List ℕ)
memory_parts need image =
    codes "memory stack=" ∷ decimal need.stack ∷ codes " image=" ∷ decimal image ∷ codes " heap=" ∷ decimal need.heap ∷ codes "\n" ∷ []

abbrev pub memory_line : Need → (image : ℕ) → List ℕ
memory_line need image = concat (memory_parts need image)

-- why no need is given, with what the line names: the methods of a cycle, or a method, with the places of its nodes where it is irreducible
abbrev pub need_cause_parts : NeedCause → (subject : List ℕ) → List (List ℕ)
need_cause_parts Recursion subject = codes "memory: recursion" ∷ subject ∷ codes "\n" ∷ []
need_cause_parts (Irreducible m) subject = codes "memory: irreducible " ∷ subject ∷ codes "\n" ∷ []
need_cause_parts (MissingBound m p) subject = codes "memory: missing bound " ∷ subject ∷ codes " " ∷ decimal p ∷ codes "\n" ∷ []
need_cause_parts (MissingSize m p) subject = codes "memory: missing size " ∷ subject ∷ codes " " ∷ decimal p ∷ codes "\n" ∷ []
need_cause_parts (TooLarge m) subject = codes "memory: too large " ∷ subject ∷ codes "\n" ∷ []
