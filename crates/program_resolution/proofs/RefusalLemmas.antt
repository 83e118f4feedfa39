-- What refuses the files, pass by pass.
use Rattle.std.proofs.Common.{◌≡◌, ℕ, suc, ◌<◌, ◌≤◌, Bool, true, false, not, ◌&&◌, inl, inr, List, [], ◌∷◌, ◌++◌, length, take, drop, Option, Some, None, refl, sym, ap, ◌∙◌, arith, length-append}
use Rattle.std.specs.Prelude.{IfSome, if◌then◌else◌, nat_le, find, is_some}
use Rattle.std.specs.List.{range_with_len, AllByRecursion}
use Rattle.std.proofs.lemmas.Bool.{leb-true}
use Rattle.std.specs.Prelude.{IfOk, Result, Ok, Err}
use Rattle.lists.specs.Tests.{and_left}
use Rattle.lists.specs.Lists.{first}
use Rattle.class_pool.specs.declared.class.ClassFile.{ClassFile}
use Rattle.class_rules.specs.Grammar.{IsClass}
use Rattle.core_classes.specs.Core.{core}
use Rattle.core_classes.specs.Laws.{CoreIsNamed}
use Rattle.program_resolution.specs.declared.refusal.ProgramRefusal.{ProgramRefusal}
use Rattle.program_resolution.specs.declared.refusal.ProgramRefusal.TheVariants as answers
use Rattle.program_resolution.specs.Linked.{most_files, initialized, first_on_cycle, calls_of, files_in}
use Rattle.program_resolution.specs.Resolving.{AreClassesOf, IsUnreadAmong, IsFirstOfRead, IsFirstRefusal}
use Rattle.program_resolution.proofs.AnyLemmas.{first_tells}
use Rattle.program_resolution.proofs.OrderedLemmas.{IsInitialized, few_initialized, all_initialized}
use Rattle.program_resolution.proofs.ResolvedLemmas.{core_long}

-- ---- the files' classes among all

dropped : {X : Type 0} (xs ys : List X) → drop (length xs) (xs ++ ys) ≡ ys
dropped [] ys = refl
dropped (x ∷ xs) ys = dropped xs ys

taken : {X : Type 0} (xs ys : List X) → take (length xs) (xs ++ ys) ≡ xs
taken [] ys = refl
taken (x ∷ xs) ys = ap (λ (zs : List _). x ∷ zs) (taken xs ys)

pub in_files : CoreIsNamed → (ks rest : List ClassFile) → files_in (core ++ (ks ++ rest)) (length ks) ≡ ks
in_files named ks rest =
    ap (λ (n : ℕ). take (length ks) (drop n (core ++ (ks ++ rest)))) (sym (core_long named)) ∙ (ap (take (length ks)) (dropped core (ks ++ rest)) ∙ taken ks rest)

-- ---- calls

chosen_calls : (b : Bool) (ks : List ClassFile) → (b ≡ true → length (core ++ ks) ≤ 10000) → length (if b then initialized (core ++ ks) else []) ≤ 10000
chosen_calls true ks h = let few = few_initialized (core ++ ks) in let le = h refl in omega (arith, few, le)
chosen_calls false ks h = omega arith

pub few_calls : CoreIsNamed → (ks : List ClassFile) → length (calls_of ks) ≤ 10000
few_calls named ks =
    let test : Bool = nat_le (length ks) most_files && not (is_some (first_on_cycle (core ++ ks))) in
    chosen_calls test ks
    (λ e.
    let le = leb-true (length ks) 1024 (and_left (nat_le (length ks) most_files) (not (is_some (first_on_cycle (core ++ ks)))) e) in
    let n = core_long named in
    omega (arith, le, n, length-append core ks))

all_chosen : (b : Bool) (ks : List ClassFile) → AllByRecursion (IsInitialized (core ++ ks)) (if b then initialized (core ++ ks) else [])
all_chosen true ks = all_initialized (core ++ ks)
all_chosen false ks = tt

pub calls_are_initialized : (ks : List ClassFile) → AllByRecursion (IsInitialized (core ++ ks)) (calls_of ks)
calls_are_initialized ks = all_chosen (nat_le (length ks) most_files && not (is_some (first_on_cycle (core ++ ks)))) ks

-- ---- no core class is on a cycle

pub first_behind_core : (p : ℕ → Bool) (n : ℕ) (o : Option ℕ) → o ≡ find p (range_with_len 0 n) → ((c : ℕ) → c < 23 → p c ≡ false) → IfSome o (λ d. 23 ≤ d)
first_behind_core p n None e h = tt
first_behind_core p n (Some d) e h =
    let passes = (first_tells p 0 n d (sym e)).passes in
    let ge : d < 23 → ⊥ = λ lt. (let f : true ≡ false = sym passes ∙ h d lt in cc) in
    omega (arith, ge)

-- ---- one pass behind another

module _ {A : Type 0} where
  pub first_early : (n s t p m rest : List A) (r : A) → first (n ++ (s ++ (t ++ p))) ≡ Some r → first ((n ++ (s ++ (t ++ (p ++ m)))) ++ rest) ≡ Some r
  first_early (x ∷ n) s t p m rest r h = h
  first_early [] (x ∷ s) t p m rest r h = h
  first_early [] [] (x ∷ t) p m rest r h = h
  first_early [] [] [] (x ∷ p) m rest r h = h
  first_early [] [] [] [] m rest r h = absurd (let f : None ≡ Some r = h in cc)

  pub record NoneEarly (n s t p : List A) : Type 0 where
    pub names : n ≡ []
    pub support : s ≡ []
    pub supertypes : t ≡ []
    pub places : p ≡ []

  pub none_early : (n s t p : List A) → first (n ++ (s ++ (t ++ p))) ≡ None → NoneEarly n s t p
  none_early (x ∷ n) s t p h = absurd (let f : Some x ≡ None = h in cc)
  none_early [] (x ∷ s) t p h = absurd (let f : Some x ≡ None = h in cc)
  none_early [] [] (x ∷ t) p h = absurd (let f : Some x ≡ None = h in cc)
  none_early [] [] [] (x ∷ p) h = absurd (let f : Some x ≡ None = h in cc)
  none_early [] [] [] [] h = record { names = refl; support = refl; supertypes = refl; places = refl }

  behind_early : (n s t p m rest : List A) → NoneEarly n s t p → (n ++ (s ++ (t ++ (p ++ (m ++ []))))) ++ rest ≡ (m ++ []) ++ rest
  behind_early n s t p m rest e = rw (e.names, e.support, e.supertypes, e.places) refl

  pub first_of_mentions : (n s t p m rest : List A) (r : A) → NoneEarly n s t p → first m ≡ Some r → first ((n ++ (s ++ (t ++ (p ++ (m ++ []))))) ++ rest) ≡ Some r
  first_of_mentions n s t p [] rest r e h = absurd (let f : None ≡ Some r = h in cc)
  first_of_mentions n s t p (x ∷ m) rest r e h = ap first (behind_early n s t p (x ∷ m) rest e) ∙ h

  pub rest_alone : (n s t p m rest : List A) → NoneEarly n s t p → m ≡ [] → (n ++ (s ++ (t ++ (p ++ (m ++ []))))) ++ rest ≡ rest
  rest_alone n s t p m rest e h = behind_early n s t p m rest e ∙ ap (λ (xs : List _). (xs ++ []) ++ rest) h

-- what is found in the first of several lists, behind those in which nothing is
module _ {A : Type 0} where
  pub in_first : (o : Option A) (n rest : List A) (r : A) → o ≡ first n → o ≡ Some r → Some r ≡ first (n ++ rest)
  in_first o [] rest r e is = absurd (let f : None ≡ Some r = sym e ∙ is in cc)
  in_first o (x ∷ n) rest r e is = sym is ∙ e

  pub in_later : (o : Option A) (n rest : List A) (r : Option A) → o ≡ first n → ((x : A) → o ≡ Some x → ⊥) → r ≡ first rest → r ≡ first (n ++ rest)
  in_later o [] rest r e fails h = h
  in_later o (x ∷ n) rest r e fails h = absurd (fails x e)

  pub nothing_in : (o : Option A) (n : List A) → o ≡ first n → ((x : A) → o ≡ Some x → ⊥) → n ≡ []
  nothing_in o [] e fails = refl
  nothing_in o (x ∷ n) e fails = absurd (fails x e)

first_none : {A : Type 0} (xs : List A) → first xs ≡ None → xs ≡ []
first_none [] h = refl
first_none (x ∷ xs) h = absurd (let f : Some x ≡ None = h in cc)

-- what follows where nothing is found in a list
pub where_none : {A E : Type 0} (r : Result (Option A) E) (p : List A) (Q : Type 0) → IfOk r (λ found. found ≡ first p) → (p ≡ [] → Q) → IfOk r (λ found. found ≡ None → Q)
where_none (Ok found) p Q h f = λ none. f (first_none p (sym h ∙ none))
where_none (Err e) p Q h f = tt

-- ---- what is answered

pub unread_first : (files : List (List ℕ)) (main : List ℕ) (r : ProgramRefusal) → IsUnreadAmong files r → IsFirstRefusal files main r
unread_first files main answers.NoMemory h = tt
unread_first files main (answers.BadClass a) h = inl h
unread_first files main (answers.UnsupportedVersion a b) h = inl h
unread_first files main (answers.Duplicate a b) h = inl h
unread_first files main (answers.Unsupported a b c) h = inl h
unread_first files main (answers.Unresolved a b c) h = inl h
unread_first files main (answers.BadHierarchy a) h = inl h
unread_first files main answers.NoMain h = inl h
unread_first files main (answers.TooManyClasses a b) h = inl h

pub read_first : (files : List (List ℕ)) (main : List ℕ) (r : ProgramRefusal) → IsFirstOfRead files main r → IsFirstRefusal files main r
read_first files main answers.NoMemory h = tt
read_first files main (answers.BadClass a) h = inr h
read_first files main (answers.UnsupportedVersion a b) h = inr h
read_first files main (answers.Duplicate a b) h = inr h
read_first files main (answers.Unsupported a b c) h = inr h
read_first files main (answers.Unresolved a b c) h = inr h
read_first files main (answers.BadHierarchy a) h = inr h
read_first files main answers.NoMain h = inr h
read_first files main (answers.TooManyClasses a b) h = inr h

-- each is of the class grammar
pub are_classes : (files : List (List ℕ)) (ks : List ClassFile) → AreClassesOf files ks → AllByRecursion IsClass ks
are_classes [] [] h = tt
are_classes [] (k ∷ ks) h = absurd h
are_classes (bytes ∷ files) [] h = absurd h
are_classes (bytes ∷ files) (k ∷ ks) h = (h.0.grammar, are_classes files ks h.1)

pub as_many : (files : List (List ℕ)) (ks : List ClassFile) → AreClassesOf files ks → length ks ≡ length files
as_many [] [] h = refl
as_many [] (k ∷ ks) h = absurd h
as_many (bytes ∷ files) [] h = absurd h
as_many (bytes ∷ files) (k ∷ ks) h = ap suc (as_many files ks h.1)
