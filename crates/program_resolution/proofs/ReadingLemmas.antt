-- Files read one by one.
use Rattle.std.proofs.Common.{◌≡◌, ℕ, zero, suc, ◌+◌, ◌<◌, List, [], ◌∷◌, ◌++◌, map, length, take, get_or, Some, None, sym, ap, ◌∙◌, subst, arith}
use Rattle.std.specs.Prelude.{slice_get}
use Rattle.class_pool.specs.declared.class.ClassFile.{ClassFile}
use Rattle.class_rules.specs.Grammar.{IsClassOf}
use Rattle.class_checks.proofs.PlaceItemLemmas.{got}
use Rattle.program_resolution.specs.declared.refusal.ProgramRefusal.{ProgramRefusal}
use Rattle.program_resolution.specs.declared.refusal.ProgramRefusal.TheVariants as answers
use Rattle.program_resolution.specs.Resolving.{AreClassesOf, IsUnreadOr, IsUnreadAmong}

-- one file more
pub one_more : (files : List (List ℕ)) (ks : List ClassFile) (bytes : List ℕ) (k : ClassFile) → AreClassesOf files ks → IsClassOf bytes k → AreClassesOf (files ++ bytes ∷ []) (ks ++ k ∷ [])
one_more [] [] bytes k all one = (one, tt)
one_more [] (x ∷ ks) bytes k all one = elim all [ ]
one_more (f ∷ files) [] bytes k all one = elim all [ ]
one_more (f ∷ files) (x ∷ ks) bytes k all one = (all.0, one_more files ks bytes k all.1 one)

-- the first file that isn't read, or want of memory
pub first_unread : (files : List (List ℕ)) (ks : List ClassFile) (i number : ℕ) (bytes : List ℕ) (r : ProgramRefusal) → number ≡ i → AreClassesOf (take i files) ks → slice_get files i ≡ Some bytes → IsUnreadOr number bytes r → IsUnreadAmong files r
first_unread files ks i number bytes (answers.BadClass f) same read at un = record { file = i; before = ks; read = read; bytes = bytes; there = at; unread = (un.0 ∙ same, un.1, un.2) }
first_unread files ks i number bytes (answers.UnsupportedVersion f major) same read at un = record { file = i; before = ks; read = read; bytes = bytes; there = at; unread = (un.0 ∙ same, un.1) }
first_unread files ks i number bytes (answers.Duplicate f e) same read at un = elim un [ ]
first_unread files ks i number bytes (answers.Unsupported f s e) same read at un = elim un [ ]
first_unread files ks i number bytes (answers.Unresolved f e w) same read at un = elim un [ ]
first_unread files ks i number bytes (answers.BadHierarchy f) same read at un = elim un [ ]
first_unread files ks i number bytes answers.NoMain same read at un = elim un [ ]
first_unread files ks i number bytes (answers.TooManyClasses a b) same read at un = elim un [ ]
first_unread files ks i number bytes answers.NoMemory same read at un = tt

got_mapped : {X Y : Type 0} (f : X → Y) (xs : List X) (i : ℕ) (x : X) → slice_get xs i ≡ Some x → slice_get (map f xs) i ≡ Some (f x)
got_mapped f [] i x at = absurd (let e : None ≡ Some x = at in cc)
got_mapped f (y ∷ xs) zero x at = let e : y ≡ x = cc in ap (λ (z : _). Some (f z)) e
got_mapped f (y ∷ xs) (suc i) x at = got_mapped f xs i x at

pub file_there : {X : Type 0} (f : X → List ℕ) (xs : List X) (i : ℕ) (x : X) (bytes : List ℕ) → i < length xs → x ≡ get_or xs i x → bytes ≡ f x → slice_get (map f xs) i ≡ Some bytes
file_there f xs i x bytes lt is e = got_mapped f xs i x (got xs i x lt is) ∙ ap (λ (z : List ℕ). Some z) (sym e)

take_got : {X : Type 0} (xs : List X) (i : ℕ) (x : X) → slice_get xs i ≡ Some x → take (suc i) xs ≡ take i xs ++ x ∷ []
take_got [] i x at = absurd (let e : None ≡ Some x = at in cc)
take_got (y ∷ xs) zero x at = let e : y ≡ x = cc in ap (λ (z : _). z ∷ []) e
take_got (y ∷ xs) (suc i) x at = ap (λ (zs : List _). y ∷ zs) (take_got xs i x at)

pub read_more : (files : List (List ℕ)) (ks new : List ClassFile) (i : ℕ) (bytes : List ℕ) (k : ClassFile) → slice_get files i ≡ Some bytes → AreClassesOf (take i files) ks → IsClassOf bytes k → new ≡ ks ++ k ∷ []
    → AreClassesOf (take (i + 1) files) new
read_more files ks new i bytes k at all one e =
    let n : suc i ≡ i + 1 = omega arith in
    subst (λ (m : ℕ). AreClassesOf (take m files) new) n
    (subst (λ (fs : List (List ℕ)). AreClassesOf fs new) (sym (take_got files i bytes at)) (subst (AreClassesOf (take i files ++ bytes ∷ [])) (sym e) (one_more (take i files) ks bytes k all one)))
