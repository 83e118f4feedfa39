-- The lines of refusals: of files that are no program, of a method that breaks a rule of the verifier, and of an image past a limit. Each line is its
-- parts, one after another.
use Rattle.std.specs.Prelude.{ℕ, Bool, true, false, List, [], ◌∷◌, ◌++◌, codes, decimal}
use Rattle.answer_lines.specs.declared.line.Place.{Place}
use Rattle.answer_lines.specs.declared.line.Place.TheVariants as places
use Rattle.answer_lines.specs.Line.{place_parts}
use Rattle.program_tables.specs.declared.refusal.Site.{Site}
use Rattle.program_tables.specs.declared.refusal.Site.TheVariants as sites
use Rattle.bytecode_verifier.specs.declared.fault.MethodRule.{MethodRule}
use Rattle.image_builder.specs.declared.fault.Counted.{Counted}
use Rattle.program_resolution.specs.declared.refusal.ProgramRefusal.{ProgramRefusal}
use Rattle.program_resolution.specs.declared.refusal.ProgramRefusal.TheVariants.{BadClass, UnsupportedVersion, Duplicate, Unsupported, Unresolved, BadHierarchy}
use Rattle.program_resolution.specs.declared.refusal.ProgramRefusal.TheVariants.{NoMain, TooManyClasses, NoMemory}
use Rattle.refusal_lines.specs.Names.{item_name, why_name, rule_name, limit_name}

abbrev pub place_of : Site → Place
place_of (sites.Field i) = places.Field i
place_of (sites.Method i) = places.Method i
place_of (sites.Code i pc) = places.Code i pc

-- why files are no program; some of the lines name a class or a member
abbrev pub refusal_parts : ProgramRefusal → (name : List ℕ) → List (List ℕ)
refusal_parts (BadClass file) name = codes "link: bad class file=" ∷ decimal file ∷ codes "\n" ∷ []
refusal_parts (UnsupportedVersion file major) name = codes "link: unsupported version file=" ∷ decimal file ∷ codes " major=" ∷ decimal major ∷ codes "\n" ∷ []
refusal_parts (Duplicate file earlier) name = codes "link: duplicate file=" ∷ decimal file ∷ codes " name=" ∷ name ∷ codes "\n" ∷ []
refusal_parts (Unsupported file site item) name =
    codes "link: unsupported file=" ∷ decimal file ∷ (place_parts (place_of site) ++ codes " item=" ∷ item_name item ∷ codes "\n" ∷ [])
refusal_parts (Unresolved file entry why) name =
    codes "link: unresolved file=" ∷ decimal file ∷ codes " entry=" ∷ decimal entry ∷ codes " why=" ∷ why_name why ∷ codes " name=" ∷ name ∷ codes "\n" ∷ []
refusal_parts (BadHierarchy file) name = codes "link: bad hierarchy file=" ∷ decimal file ∷ codes "\n" ∷ []
refusal_parts NoMain name = codes "link: no main\n" ∷ []
refusal_parts (TooManyClasses count limit) name = codes "link: too large " ∷ codes "Classes" ∷ codes " count=" ∷ decimal count ∷ codes " limit=" ∷ decimal limit
    ∷ codes "\n" ∷ []
refusal_parts NoMemory name = codes "no memory\n" ∷ []

-- where its line can't be put, nothing else is said
abbrev pub is_want_of_memory : ProgramRefusal → Bool
is_want_of_memory NoMemory = true
is_want_of_memory refusal = false

-- the rule that fails first, in a method of a file at a place of its code
abbrev pub failure_parts : (file method pc : ℕ) → MethodRule → List (List ℕ)
failure_parts file method pc rule =
    codes "link: not verified file=" ∷ decimal file ∷ codes " method=" ∷ decimal method ∷ codes " pc=" ∷ decimal pc ∷ codes " rule=" ∷ rule_name rule
    ∷ codes "\n" ∷ []

-- the first limit that an image passes
abbrev pub limit_parts : Counted → (count limit : ℕ) → List (List ℕ)
limit_parts what count limit = codes "link: too large " ∷ limit_name what ∷ codes " count=" ∷ decimal count ∷ codes " limit=" ∷ decimal limit ∷ codes "\n" ∷ []
