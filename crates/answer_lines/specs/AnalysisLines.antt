-- The lines that say how the analysis of an image ended. Each line is its parts, one after another.
use Rattle.std.specs.Prelude.{ℕ, List, [], ◌∷◌, ◌++◌, Option, codes, decimal, flat_map}
use Rattle.certificates.specs.CertLines.{node_text, bound_text}
use Rattle.bound_rules.specs.declared.faults.CheckFault.{CheckFault}
use Rattle.bound_rules.specs.declared.faults.CheckFault.TheVariants.{Missing, Member, Edge, Exit, Region, NoMemory}
use Rattle.answer_lines.specs.declared.bound.BoundCause.{BoundCause}
use Rattle.answer_lines.specs.declared.bound.BoundCause.TheVariants as causes

-- the certificate holds of the method of this name, with this bound in cycles, or the method never ends
abbrev pub held_parts : (name : List ℕ) → (bound : Option ℕ) → List (List ℕ)
held_parts name bound = codes "holds " ∷ name ∷ codes " " ∷ bound_text bound ∷ codes "\n" ∷ []

-- a line of the bounds is none of their grammar
abbrev pub bad_bounds_parts : (line : ℕ) → List (List ℕ)
bad_bounds_parts line = codes "bad bounds line=" ∷ decimal line ∷ codes "\n" ∷ []

-- a line bounds a loop that has a bound
abbrev pub twice_bound_parts : (line : ℕ) → List (List ℕ)
twice_bound_parts line = codes "twice bound line=" ∷ decimal line ∷ codes "\n" ∷ []

-- a line of lengths is none of their grammar
abbrev pub bad_sizes_parts : (line : ℕ) → List (List ℕ)
bad_sizes_parts line = codes "bad sizes line=" ∷ decimal line ∷ codes "\n" ∷ []

-- a line gives a length that is given
abbrev pub twice_size_parts : (line : ℕ) → List (List ℕ)
twice_size_parts line = codes "twice size line=" ∷ decimal line ∷ codes "\n" ∷ []

-- and so of bounds by lines of sources
abbrev pub bad_lines_parts : (line : ℕ) → List (List ℕ)
bad_lines_parts line = codes "bad lines line=" ∷ decimal line ∷ codes "\n" ∷ []

abbrev pub twice_lines_parts : (line : ℕ) → List (List ℕ)
twice_lines_parts line = codes "twice lines line=" ∷ decimal line ∷ codes "\n" ∷ []

-- and so of facts
abbrev pub bad_facts_parts : (line : ℕ) → List (List ℕ)
bad_facts_parts line = codes "bad facts line=" ∷ decimal line ∷ codes "\n" ∷ []

abbrev pub twice_fact_parts : (line : ℕ) → List (List ℕ)
twice_fact_parts line = codes "twice fact line=" ∷ decimal line ∷ codes "\n" ∷ []

-- a line of facts says nothing of the program
abbrev pub no_fact_parts : (line : ℕ) → List (List ℕ)
no_fact_parts line = codes "no such fact line=" ∷ decimal line ∷ codes "\n" ∷ []

-- a line of the table of slots is none of its grammar
abbrev pub bad_table_parts : (line : ℕ) → List (List ℕ)
bad_table_parts line = codes "bad table line=" ∷ decimal line ∷ codes "\n" ∷ []

-- the table has so many slots, which are too few or too many
abbrev pub slot_count_parts : (count : ℕ) → List (List ℕ)
slot_count_parts count = codes "slots " ∷ decimal count ∷ codes "\n" ∷ []

-- with this line no certificate begins
abbrev pub bad_cert_parts : (line : ℕ) → List (List ℕ)
bad_cert_parts line = codes "bad cert line=" ∷ decimal line ∷ codes "\n" ∷ []

-- the first condition of a certificate that fails, with the name of the method in whose section it does
abbrev pub fault_parts : CheckFault → (name : List ℕ) → List (List ℕ)
fault_parts (Missing m) name = codes "check: missing " ∷ name ∷ codes "\n" ∷ []
fault_parts (Member m u) name = codes "check: member " ∷ name ∷ codes " " ∷ node_text u ∷ codes "\n" ∷ []
fault_parts (Edge m u v) name = codes "check: edge " ∷ name ∷ codes " " ∷ node_text u ∷ codes " " ∷ node_text v ∷ codes "\n" ∷ []
fault_parts (Exit m u) name = codes "check: exit " ∷ name ∷ codes " " ∷ node_text u ∷ codes "\n" ∷ []
fault_parts (Region m) name = codes "check: region " ∷ name ∷ codes "\n" ∷ []
fault_parts NoMemory name = []

-- no fact is given of the price at this node of the method of the name
abbrev pub price_parts : (name : List ℕ) → (node : ℕ) → List (List ℕ)
price_parts name u = codes "check: price " ∷ name ∷ codes " " ∷ node_text u ∷ codes "\n" ∷ []

-- why no bound of a method is given, with what the line names: the methods of a cycle, or a method, with the places of its nodes where it is irreducible
abbrev pub cause_tail : BoundCause → (subject : List ℕ) → List (List ℕ)
cause_tail causes.NoMethod subject = codes " no method\n" ∷ []
cause_tail causes.Recursion subject = codes " recursion" ∷ subject ∷ codes "\n" ∷ []
cause_tail (causes.Irreducible m) subject = codes " irreducible " ∷ subject ∷ codes "\n" ∷ []
cause_tail (causes.MissingBound m p) subject = codes " missing bound " ∷ subject ∷ codes " " ∷ decimal p ∷ codes "\n" ∷ []
cause_tail (causes.TooLarge m) subject = codes " too large " ∷ subject ∷ codes "\n" ∷ []

abbrev pub cause_parts : BoundCause → (subject : List ℕ) → List (List ℕ)
cause_parts cause subject = codes "bound:" ∷ cause_tail cause subject

-- so a line names methods behind one another, and nodes of one
abbrev pub names_text : (names : List (List ℕ)) → List ℕ
names_text names = flat_map (λ name. codes " " ++ name) names

abbrev pub nodes_text : (nodes : List ℕ) → List ℕ
nodes_text nodes = flat_map (λ u. codes " " ++ node_text u) nodes
