-- Arguments that are taken off the stack one after another.
use Rattle.std.proofs.Common.{◌≡◌, ℕ, ◌+◌, ◌-◌, ◌<◌, ◌≤◌, Bool, true, false, ◌&&◌, List, [], ◌∷◌, length, map, reverse, drop, get_or, drop-cons, add-one, Option, Some, None, refl, sym, ap, ◌∙◌, arith}
use Rattle.std.specs.Prelude.{if◌then◌else◌}
use Rattle.std.specs.Option.{option_map}
use Rattle.std.proofs.lemmas.List.{length-map, length-reverse, get_or-reverse}
use Rattle.std.proofs.Math.ListN.{get_or-map, drop_of_length-le}
use Rattle.program_tables.proofs.TextLemmas.{and_assoc}
use Rattle.bytecode_model.specs.Types as model
use Rattle.bytecode_typing.specs.Types.{VarType, type_of, is_initialized}
use Rattle.bytecode_typing.specs.Assignable.{is_assignable_item}
use Rattle.bytecode_typing.specs.Checks.{seen}
use Rattle.program_tables.specs.declared.operand.Declared.{Declared}
use Rattle.program_tables.specs.Meanings.{declared_seen}
use Rattle.verifier_types.specs.Site.{Site}
use Rattle.verifier_types.specs.Taken.{item_taken, arguments_taken, with_item}
use Rattle.bytecode_verifier.specs.Arguments.{all_taken, and_all, arguments_found}

pub and_all_true : (o : Option (Bool × List VarType)) → option_map (and_all true) o ≡ o
and_all_true None = refl
and_all_true (Some x) = refl

pub and_all_twice : (a b : Bool) (o : Option (Bool × List VarType)) → option_map (and_all a) (option_map (and_all b) o) ≡ option_map (and_all (a && b)) o
and_all_twice a b None = refl
and_all_twice a b (Some x) = ap (λ c. Some (c, x.1)) (and_assoc a b x.0)

-- ---- one of them

first_taken : (t : VarType) (o : Option (List VarType × List VarType)) → option_map all_taken (with_item t o) ≡ option_map (and_all (is_initialized t)) (option_map all_taken o)
first_taken t None = refl
first_taken t (Some x) = refl

at_front : (s : Site) (rs : List model.Declared) (i : ℕ) (d : model.Declared) (st : List VarType) → i < length rs → arguments_found s (drop i rs) st ≡ arguments_found s (get_or rs i d ∷ drop (i + 1) rs) st
at_front s rs i d st h = ap (λ ds. arguments_found s ds st) (drop-cons rs i d h ∙ ap (λ n. get_or rs i d ∷ drop n rs) (sym (add-one i)))

on_empty : (s : Site) (d : model.Declared) (ds : List model.Declared) (st : List VarType) → None ≡ item_taken st → arguments_found s (d ∷ ds) st ≡ None
on_empty s d ds [] h = refl
on_empty s d ds (t ∷ st) h = cc

pub none_there : (s : Site) (rs : List model.Declared) (i : ℕ) (d : model.Declared) (st : List VarType) → i < length rs → None ≡ item_taken st → arguments_found s (drop i rs) st ≡ None
none_there s rs i d st lt h = at_front s rs i d st lt ∙ on_empty s (get_or rs i d) (drop (i + 1) rs) st h

listed : Option (VarType × List VarType) → List VarType
listed None = []
listed (Some x) = x.0 ∷ x.1

split_item : (t : VarType) (rest st : List VarType) → Some (t, rest) ≡ item_taken st → st ≡ t ∷ rest
unfolding listed
split_item t rest [] h = cc
split_item t rest (u ∷ st) h = ap listed (sym h)

tested : (s : Site) (d : model.Declared) (ds : List model.Declared) (st : List VarType) (t : VarType) (rest : List VarType) (b : Bool) → Some (t, rest) ≡ item_taken st
    → is_assignable_item s.program (seen s.program s.number s.method t) (type_of d) ≡ b
    → arguments_found s (d ∷ ds) st ≡ option_map all_taken (if b then with_item t (arguments_taken s.program (seen s.program s.number s.method) (map type_of ds) rest) else None)
tested s d ds st t rest b h e =
    ap (arguments_found s (d ∷ ds)) (split_item t rest st h)
    ∙ ap (λ x. option_map all_taken (if x then with_item t (arguments_taken s.program (seen s.program s.number s.method) (map type_of ds) rest) else None)) e

pub other_type : (s : Site) (rs : List model.Declared) (i : ℕ) (d : model.Declared) (st : List VarType) (t : VarType) (rest : List VarType) → i < length rs → Some (t, rest) ≡ item_taken st
    → is_assignable_item s.program (seen s.program s.number s.method t) (type_of (get_or rs i d)) ≡ false → arguments_found s (drop i rs) st ≡ None
other_type s rs i d st t rest lt h e = at_front s rs i d st lt ∙ tested s (get_or rs i d) (drop (i + 1) rs) st t rest false h e

pub one_taken : (s : Site) (rs : List model.Declared) (i : ℕ) (d : model.Declared) (st : List VarType) (t : VarType) (rest : List VarType) → i < length rs → Some (t, rest) ≡ item_taken st
    → is_assignable_item s.program (seen s.program s.number s.method t) (type_of (get_or rs i d)) ≡ true
    → arguments_found s (drop i rs) st ≡ option_map (and_all (is_initialized t)) (arguments_found s (drop (i + 1) rs) rest)
one_taken s rs i d st t rest lt h e =
    at_front s rs i d st lt
    ∙ (tested s (get_or rs i d) (drop (i + 1) rs) st t rest true h e ∙ first_taken t (arguments_taken s.program (seen s.program s.number s.method) (map type_of (drop (i + 1) rs)) rest))

-- ---- parameters from the last to the first

pub declared_at : (ps : List Declared) (i : ℕ) (d : Declared) → i < length ps → get_or (reverse (map declared_seen ps)) i (declared_seen d) ≡ declared_seen (get_or ps (length ps - 1 - i) d)
declared_at ps i d h =
    get_or-reverse (map declared_seen ps) i (declared_seen d) (omega (arith, h, length-map ps declared_seen))
    ∙ (ap (λ n. get_or (map declared_seen ps) (n - 1 - i) (declared_seen d)) (length-map ps declared_seen) ∙ get_or-map declared_seen ps (length ps - 1 - i) d)

pub declared_many : (ps : List Declared) → length (reverse (map declared_seen ps)) ≡ length ps
declared_many ps = length-reverse (map declared_seen ps) ∙ length-map ps declared_seen

-- ---- all of them

and_true : (a : Bool) → (a && true) ≡ a
and_true true = refl
and_true false = refl

pub all_done : (s : Site) (rs : List model.Declared) (i : ℕ) (st : List VarType) (all : Bool) → length rs ≤ i → option_map (and_all all) (arguments_found s (drop i rs) st) ≡ Some (all, st)
all_done s rs i st all h = ap (λ ds. option_map (and_all all) (arguments_found s ds st)) (drop_of_length-le rs h) ∙ ap (λ b. Some (b, st)) (and_true all)
